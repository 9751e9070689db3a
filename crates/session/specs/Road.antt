-- One road for every call. A call is what it asks of the session, by tests of its own, and what comes of that, which is said here once for all of them.
use Rattle.std.specs.Prelude.{ℕ, ◌+◌, ◌-◌, Bool, false, cond, not, List, ◌++◌, length, drop, replicate, leb, eqb}
use Rattle.wire.specs.Wire.{pasted}
use Rattle.record.specs.Record.{timer_off}
use Rattle.record.specs.declared.Record.{Record}
use Rattle.record.specs.declared.Timer.{Timer}
use Rattle.change.specs.Change.{kind_of, put_after, takes_back, timer_after}
use Rattle.change.specs.declared.Edit.{Edit}
use Rattle.entries.specs.Entries.{Entry, written}
use Rattle.journal.specs.Ways.{by_way, other}
use Rattle.journal.specs.Bytes.{entry_bytes}
use Rattle.journal.specs.Add.{entry_len, cut_from}
use Rattle.journal.specs.declared.Way.{Way}
use Rattle.session.specs.Session.{entries_in, renewed, with_timer, with_profile, Carried, carried_of}
use Rattle.session.specs.declared.Session.{Session}

-- ---- what a call asks

pub data Asks : Type 0 where
  -- it is refused with a number
  refuses : ℕ → Asks
  -- a reply, good or error, is written and this doorbell rung; the session is kept
  tells : ℕ → List ℕ → Asks
  -- a change is made; then this doorbell and this reply
  makes : Edit → ℕ → List ℕ → Asks
  -- the newest entry of a store, which begins at a place and says this change, is put into the record and goes over to the other store
  moves : Way → ℕ → Edit → Asks
  -- so many of the oldest changes are forgotten
  forgets : ℕ → Asks
  -- so many microseconds pass
  passes : ℕ → Asks
  -- a watch-only session is opened over it
  opens : Asks

-- a number that is due comes before anything else
unfoldable pub due : ℕ → Asks → Asks
due n a = cond (not (eqb n 0)) (refuses n) a

-- ---- the two stores: undo takes from the journal, redo from the redo store

unfoldable pub store_of : Way → Session → List ℕ
store_of w s = by_way w s.journal s.redo

unfoldable pub used_of : Way → Session → ℕ
used_of w s = by_way w s.used s.ahead

-- "zeroes the entry", which starts at a place of its store
unfoldable pub lessened : Way → Session → ℕ → List ℕ
lessened w s at = cut_from at (used_of w s) (store_of w s)

-- "An undone change moves to a redo store .. in the same kinds and lengths, but holding what was after", and a redone one to the journal: at the
-- end of the other store stands what takes the change back
unfoldable pub grown : Way → Session → Edit → List ℕ
grown w s e = pasted (used_of (other w) s) (entry_bytes (takes_back s.held s.timer e)) (store_of (other w) s)

unfoldable pub grown_to : Way → Session → Edit → ℕ
grown_to w s e = used_of (other w) s + entry_len (takes_back s.held s.timer e)

-- "Undo restores, re-inserts a cleared log at its place, removes the log a reset made, zeroes the entry"; "Redo puts the newest back". The record is the
-- one put together, its limit, readiness and wanted format with it; the next id stays. h: the timer is exchanged with the body of a timer command's entry, and
-- "no other undo or redo touches it"
unfoldable pub session_moved : Way → Session → ℕ → Edit → Record → Session
session_moved w s at e held =
    renewed (with_timer s (timer_after s.timer e.change)) held s.next (by_way w (lessened w s at) (grown w s e)) (by_way w at (grown_to w s e)) (by_way w (grown w s e) (lessened w s at)) (by_way w (grown_to w s e) at)

-- ---- document 02, j: "forgets the n oldest changes and moves the rest down, so that their room is used again"

-- how many changes the journal holds
unfoldable pub held_in : Session → ℕ
held_in s = length (entries_in s.used s.journal)

-- entries stand newest first
unfoldable pub oldest : ℕ → List Entry → List Entry
oldest n es = drop (length es - n) es

-- how many bytes the n oldest take
unfoldable pub freed_by : ℕ → Session → ℕ
freed_by n s = length (written (oldest n (entries_in s.used s.journal)))

-- the bytes from a place on go to the front, and what they leave is zero
unfoldable pub moved_down : ℕ → List ℕ → List ℕ
moved_down at j = drop at j ++ replicate at 0

-- without the first `at` bytes of the journal: the record, the next id, the timer and the redo store stay
unfoldable pub session_freed : ℕ → Session → Session
session_freed at s = renewed s s.held s.next (moved_down at s.journal) (s.used - at) s.redo s.ahead

unfoldable pub forgotten : ℕ → Session → Session
forgotten n s = session_freed (freed_by n s) s

-- ---- document 02, h: the timer "expires only when the bench reports as many microseconds as are left, or more (fewer are taken off; off means 0 left); doorbell
-- bit 14 then comes once"

unfoldable pub expires : ℕ → Timer → Bool
expires n t = cond (eqb t.running 0) false (leb t.left n)

unfoldable pub ticked : ℕ → Timer → Timer
ticked n t = cond (expires n t) timer_off (cond (eqb t.running 0) t (record { running = t.running; left = t.left - n }))

-- bit 0 is the most significant of 16
unfoldable pub timer_bell : ℕ → Timer → ℕ
timer_bell n t = cond (expires n t) 0x0002 0

-- "Time passing isn't a change": nothing but the timer moves
unfoldable pub time_passed : ℕ → Session → Session
time_passed n s = with_timer s (ticked n s.timer)

-- ---- document 02, k: "Watch-only is opened over a well-formed session: its record, timer and next id, an empty journal and redo store"

unfoldable pub watch_only : Session → Session
watch_only s = renewed (with_profile s 1) s.held s.next (replicate 2048 0) 0 (replicate 2048 0) 0

-- ---- what comes of it

-- the session answer, the session, doorbell and kind (0 where a call has none), and the reply buffer as it is left
pub record Said : Type 0 where
  pub answer : ℕ
  pub session : Session
  pub bell : ℕ
  pub kind : ℕ
  pub reply : List ℕ

-- "Every answer but 0 returns the session unchanged and rings no doorbell bit": and keeps the buffer
unfoldable pub kept : ℕ → Session → List ℕ → Said
kept n s d = record { answer = n; session = s; bell = 0; kind = 0; reply = d }

-- "0: call done"
unfoldable pub done : Session → ℕ → ℕ → List ℕ → Said
done s bell kind d = record { answer = 0; session = s; bell = bell; kind = kind; reply = d }

-- 5: "an otherwise accepted change whose entry is longer than the unused journal"; else it is carried out
unfoldable pub carried_says : Carried → Session → ℕ → List ℕ → List ℕ → Said
carried_says k s bell y d = cond k.full (kept 5 s d) (done k.session bell 0 y)

-- d is the reply buffer as it was lent
unfoldable pub settled : Session → List ℕ → Asks → Said
settled s d (refuses n) = kept n s d
settled s d (tells bell y) = done s bell 0 y
settled s d (makes e bell y) = carried_says (carried_of s e) s bell y d
settled s d (moves w at e) = done (session_moved w s at e (put_after s.held e)) 0 (kind_of e.change) d
settled s d (forgets n) = done (forgotten n s) 0 0 d
settled s d (passes n) = done (time_passed n s) (timer_bell n s.timer) 0 d
settled s d opens = done (watch_only s) 0 0 d
