-- "Undo takes back the record and all that is worked out from it": a change tried and taken back; and a redo after it.
use Rattle.std.specs.Prelude.{◌+◌, ◌≡◌, List, [], ◌∷◌, replicate}
use Rattle.wire.specs.Wire.{pasted}
use Rattle.wire.specs.Conditions.{◌and◌}
use Rattle.change.specs.declared.Edit.{Edit}
use Rattle.journal.specs.Add.{entry_len}
use Rattle.journal.specs.Bytes.{entry_bytes}
use Rattle.session.specs.Session.{fresh_session, made_of, renewed}
use Rattle.session.specs.Road.{Said}
use Rattle.session.specs.declared.Session.{Session}
use Rattle.promises.specs.Calls.{Call, occ, sbe, undo, redo, forget, time, said, second_of}
use Rattle.promises.specs.Lent.{told}
use Rattle.promises.specs.History.{keeps, deed, Run, run, next_run, start, OfBytes}

-- the session as it was, but for the next id, where a log was made, and for the redo store: it holds the one change that was taken back
unfoldable pub leaves : Session → Edit → Session
leaves s e = renewed s s.held (s.next + made_of e.change) s.journal s.used (pasted 0 (entry_bytes e) (replicate 2048 0)) (entry_len e)

-- calls made one after the other, from a fresh session
abbrev pub after : List Call → Run
after cs = run (start fresh_session) cs

-- calls handed on from a session, and such as keep it: polls, the requests that make no entry, refusals, error replies
abbrev pub handed_on : Session → List Call → Session
handed_on s [] = s
handed_on s (k ∷ ks) = handed_on (said s k).session ks

abbrev pub AllKeep : Session → List Call → Type 0
AllKeep s [] = Unit {0}
AllKeep s (k ∷ ks) = (deed s k ≡ keeps) and AllKeep s ks

-- the session after those calls, one more, and an undo
abbrev pub tried : List Call → Call → Session
tried cs c = (said (next_run (after cs) c).session undo).session

-- the same with calls in between: the lab tries, looks, and takes it back
abbrev pub tried_and_looked : List Call → Call → List Call → Session
tried_and_looked cs c ks = (said (handed_on (next_run (after cs) c).session ks) undo).session

-- ---- "Every later reply is as if nobody had tried as long as nobody redoes": any calls but redo

abbrev pub ButRedo : Call → Type 0
ButRedo (occ sender c d) = Unit {0}
ButRedo (sbe r d m x) = Unit {0}
ButRedo undo = Unit {0}
ButRedo redo = ⊥
ButRedo (forget n) = Unit {0}
ButRedo (time n) = Unit {0}

-- what a call tells and writes
pub record SameSaid (a b : Said) : Type 0 where
  pub answer : b.answer ≡ a.answer
  pub bell : b.bell ≡ a.bell
  pub kind : b.kind ≡ a.kind
  pub reply : b.reply ≡ a.reply

-- calls one after the other on s, where nobody tried, and on t; what C gets back beside the answer is the same, too, and what a read of the SEEPROM serves
abbrev pub AsBefore : Session → Session → List Call → Type 0
AsBefore s t [] = Unit {0}
AsBefore s t (c ∷ cs) =
    SameSaid (said s c) (said t c) and (told t c ≡ told s c) and (second_of t c ≡ second_of s c) and AsBefore (said s c).session (said t c).session cs

abbrev pub AllButRedo : List Call → Type 0
AllButRedo [] = Unit {0}
AllButRedo (c ∷ cs) = ButRedo c and OfBytes c and AllButRedo cs
