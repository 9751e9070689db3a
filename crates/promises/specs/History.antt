-- Demand 3, as a statement over any calls, each session handed on unchanged: the changes made, those struck out, and what the others give.
use Rattle.std.specs.Prelude.{ℕ, suc, ◌+◌, ◌-◌, cond, ◌≡◌, List, [], ◌∷◌, ltb, length, take, drop}
use Rattle.wire.specs.Wire.{Bytes}
use Rattle.record.specs.Record.{worked_of}
use Rattle.record.specs.declared.Record.{Record}
use Rattle.record.specs.declared.Timer.{Timer}
use Rattle.change.specs.Change.{put_after, timed, timer_after}
use Rattle.change.specs.declared.Edit.{Edit}
use Rattle.journal.specs.Ways.{by_way}
use Rattle.session.specs.Road.{Asks, refuses, tells, makes, moves, forgets, passes, opens, ticked}
use Rattle.session.specs.Session.{carried_of}
use Rattle.session.specs.declared.Session.{Session}
use Rattle.undo_call.specs.Undo.{undo_call, redo_call}
use Rattle.forget_call.specs.Forget.{forget_call}
use Rattle.promises.specs.Calls.{Call, occ, sbe, undo, redo, forget, time, asks, said}
use Rattle.promises.specs.Marks.{Mark, strike, latest, unstrike, struck_by, left, logs_made, undo_answer, redo_answer}

-- ---- the change that a call makes

-- a call keeps the record, adds a change (with the id that its log drew), strikes the newest one out, unstrikes the one last struck, forgets the oldest ones, or
-- takes microseconds off the timer
pub data Deed : Type 0 where
  keeps : Deed
  adds : Edit → Deed
  strikes : Deed
  unstrikes : Deed
  drops : ℕ → Deed
  ticks : ℕ → Deed

-- a change that has room in the journal is made
unfoldable pub adding : Session → Edit → Deed
adding s e = cond (carried_of s e).full keeps (adds e)

-- by what the call asks: the accepted calls that make an entry, the accepted undos and redos, forgetting, and time reports
unfoldable pub deed_by : Session → Asks → Deed
deed_by s (refuses n) = keeps
deed_by s (tells bell reply) = keeps
deed_by s (makes e bell reply) = adding s e
deed_by s (moves w at e) = by_way w strikes unstrikes
deed_by s (forgets n) = drops n
deed_by s (passes n) = ticks n
-- none of these calls asks it (`no_opening` in laws/Profiles.antt): openings stand in Sittings.antt
deed_by s opens = keeps

unfoldable pub deed : Session → Call → Deed
deed s c = deed_by s (asks s c)

-- ---- the changes, newest first, and which of them are struck out (Marks.antt): so many undos were accepted before the call, and the timer
-- stood so

unfoldable pub marked : Timer → ℕ → List Mark → Deed → List Mark
marked t undos ms keeps = ms
marked t undos ms (adds e) = record { edit = timed t e; stroke = 0 } ∷ ms
marked t undos ms strikes = strike t (suc undos) ms
marked t undos ms unstrikes = unstrike t (latest ms) ms
marked t undos ms (drops n) = ms
marked t undos ms (ticks n) = ms

unfoldable pub undos_after : ℕ → Deed → ℕ
undos_after undos keeps = undos
undos_after undos (adds e) = undos
undos_after undos strikes = suc undos
undos_after undos unstrikes = undos
undos_after undos (drops n) = undos
undos_after undos (ticks n) = undos

-- the undos accepted before the last accepted change
unfoldable pub since_after : ℕ → ℕ → Deed → ℕ
since_after undos since keeps = since
since_after undos since (adds e) = undos
since_after undos since strikes = since
since_after undos since unstrikes = since
since_after undos since (drops n) = since
since_after undos since (ticks n) = since

-- j: how many of the changes left, the oldest, are forgotten
unfoldable pub gone_after : ℕ → Deed → ℕ
gone_after gone keeps = gone
gone_after gone (adds e) = gone
gone_after gone strikes = gone
gone_after gone unstrikes = gone
gone_after gone (drops n) = gone + n
gone_after gone (ticks n) = gone

-- "The record equals what the remaining changes give, applied in order" to a starting record
unfoldable pub applied : Record → List Edit → Record
applied r [] = r
applied r (e ∷ es) = put_after (applied r es) e

-- of the changes left, which stand newest first, the oldest ones, and the others
abbrev pub oldest_of : ℕ → List Edit → List Edit
oldest_of gone es = drop (length es - gone) es

abbrev pub newer_than : ℕ → List Edit → List Edit
newer_than gone es = take (length es - gone) es

-- ---- any calls, one after the other

-- the session, the changes ever made, the undos accepted so far, those before the last change, and how many changes are forgotten
pub record Run : Type 0 where
  pub session : Session
  pub marks : List Mark
  pub undos : ℕ
  pub since : ℕ
  pub gone : ℕ

unfoldable pub did : Run → Session → Deed → Run
did p s d = record { session = s; marks = marked p.session.timer p.undos p.marks d; undos = undos_after p.undos d; since = since_after p.undos p.since d; gone = gone_after p.gone d }

unfoldable pub next_run : Run → Call → Run
next_run p c = did p (said p.session c).session (deed p.session c)

unfoldable pub run : Run → List Call → Run
run p [] = p
run p (c ∷ cs) = run (next_run p c) cs

unfoldable pub start : Session → Run
start s = record { session = s; marks = []; undos = 0; since = 0; gone = 0 }

-- what is handed in is bytes
abbrev pub OfBytes : Call → Type 0
OfBytes (occ sender c d) = Bytes c
OfBytes (sbe r d m x) = Bytes r
OfBytes undo = Unit {0}
OfBytes redo = Unit {0}
OfBytes (forget n) = Unit {0}
OfBytes (time n) = Unit {0}

abbrev pub AllOfBytes : List Call → Type 0
AllOfBytes [] = Unit {0}
AllOfBytes (c ∷ cs) = OfBytes c × AllOfBytes cs

-- what is kept of the changes left, and the record as it stood after the forgotten ones
abbrev pub kept_of : Run → List Edit
kept_of p = newer_than p.gone (left p.marks)

abbrev pub start_of : Record → Run → Record
start_of base p = applied base (oldest_of p.gone (left p.marks))

-- "9, n greater than the changes held"
unfoldable pub forget_answer : ℕ → List Edit → ℕ
forget_answer n es = cond (ltb (length es) n) 9 0

-- ---- the demand, after calls that started from the record base with the next id first

pub record Demand3 (base : Record) (first : ℕ) (p : Run) : Type 0 where
  pub record_is : p.session.held ≡ applied base (left p.marks)
  pub worked_is : p.session.worked ≡ worked_of (applied base (left p.marks))
  pub next_is : p.session.next ≡ first + logs_made p.marks
  -- j: "Demand 3 then starts from the record as it stood after the forgotten changes"
  pub starts_from : p.session.held ≡ applied (start_of base p) (kept_of p)
  pub undo_is : (undo_call p.session).answer ≡ undo_answer (kept_of p)
  pub redo_is : (redo_call p.session).answer ≡ redo_answer p.since p.marks
  pub forget_is : (n : ℕ) → (forget_call n p.session).answer ≡ forget_answer n (kept_of p)
  pub never : (c : Call) → OfBytes c → ((said p.session c).answer ≡ 1 → ⊥) × ((said p.session c).answer ≡ 7 → ⊥)

-- ---- the timer, which the demand leaves out (document 02, h)

-- of an undo or redo of one of these changes
unfoldable pub given_back : Timer → List Edit → Timer
given_back t [] = t
given_back t (e ∷ es) = timer_after t e.change

-- after a call, by what it counts as: a timer command sets it, undo and redo of one give back what its mark holds, "no other undo or redo touches it"
unfoldable pub clock_after : Run → Deed → Timer
clock_after p keeps = p.session.timer
clock_after p (adds e) = timer_after p.session.timer e.change
clock_after p strikes = given_back p.session.timer (left p.marks)
clock_after p unstrikes = given_back p.session.timer (struck_by (latest p.marks) p.marks)
clock_after p (drops n) = p.session.timer
clock_after p (ticks n) = ticked n p.session.timer
