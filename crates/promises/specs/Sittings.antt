-- Document 02, k: any calls, with openings of watch-only sessions among them, each session handed on unchanged. "Demand 3 starts from that record and id", the ones at
-- opening, so an opening starts a history.
use Rattle.std.specs.Prelude.{ℕ, cond, ◌≡◌, List, [], ◌∷◌, eqb}
use Rattle.record.specs.declared.Record.{Record}
use Rattle.change.specs.With.{with_logs}
use Rattle.session.specs.Road.{Said}
use Rattle.session.specs.declared.Session.{Session}
use Rattle.watch_call.specs.Watch.{watch_call}
use Rattle.promises.specs.Calls.{Call, said}
use Rattle.promises.specs.History.{Run, next_run, start, OfBytes}

pub data Act : Type 0 where
  calls : Call → Act
  watch : Act

-- a run, with the record and the next id that it started from
pub record Sitting : Type 0 where
  pub base : Record
  pub first : ℕ
  pub run : Run

unfoldable pub sat : Session → Sitting
sat s = record { base = s.held; first = s.next; run = start s }

-- an opening that is accepted starts anew
unfoldable pub opened : Sitting → Said → Sitting
opened p q = cond (eqb q.answer 0) (sat q.session) p

unfoldable pub next_sitting : Sitting → Act → Sitting
next_sitting p (calls c) = record { base = p.base; first = p.first; run = next_run p.run c }
next_sitting p watch = opened p (watch_call p.run.session)

unfoldable pub sittings : Sitting → List Act → Sitting
sittings p [] = p
sittings p (a ∷ xs) = sittings (next_sitting p a) xs

-- what is handed in is bytes
abbrev pub ActOfBytes : Act → Type 0
ActOfBytes (calls c) = OfBytes c
ActOfBytes watch = Unit {0}

abbrev pub ActsOfBytes : List Act → Type 0
ActsOfBytes [] = Unit {0}
ActsOfBytes (a ∷ xs) = ActOfBytes a × ActsOfBytes xs

-- ---- "a session students can't break"

-- the session after them
unfoldable pub handed : Session → List Act → Session
handed s [] = s
handed s (calls c ∷ xs) = handed (said s c).session xs
handed s (watch ∷ xs) = handed (watch_call s).session xs

-- the record is as it was but for its pending logs; limit, readiness, wanted format and next id are as they were, and it is watch-only still
pub record Unbroken (s t : Session) : Type 0 where
  pub record_is : t.held ≡ with_logs s.held t.held.logs
  pub worked_is : t.worked ≡ s.worked
  pub next_is : t.next ≡ s.next
  pub profile_is : t.profile ≡ 1
