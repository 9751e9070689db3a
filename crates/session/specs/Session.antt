-- Document 01, "What the stand-in holds", with document 02's redo store (d), marks (i), timer (h) and profile (k): the session, when it is well formed, and what
-- carrying a change out makes of it.
use Rattle.std.specs.Prelude.{ℕ, ◌+◌, Bool, true, false, cond, not, List, [], ◌∷◌, length, take, drop, replicate, ltb, eqb, Option, Some, None}
use Rattle.wire.specs.Wire.{all_are}
use Rattle.record.specs.Record.{fresh_record, timer_off, worked_of}
use Rattle.record.specs.declared.Record.{Record}
use Rattle.record.specs.declared.Timer.{Timer}
use Rattle.record.specs.declared.Worked.{Worked}
use Rattle.change.specs.Change.{made_by, put_after, takes_back, timer_after}
use Rattle.change.specs.declared.Change.{Change}
use Rattle.change.specs.declared.Change.TheVariants.{Clear, Unclear, SetState, SetRole, SetCaps, SetUser, SetThermal, SetThrottles, Reset, Unreset, SetMask, SetDeadman, SetAreas, SetTimer}
use Rattle.change.specs.declared.Edit.{Edit}
use Rattle.formed.specs.Formed.{timer_ok, record_ok}
use Rattle.entries.specs.Entries.{Entry, entries_of, scan}
use Rattle.marks.specs.Marks.{marks_of, same}
use Rattle.journal.specs.Read.{entries_ok}
use Rattle.journal.specs.Add.{end_of, added_to}
use Rattle.journal.specs.declared.Way.{Way}
use Rattle.journal.specs.declared.Way.TheVariants.{Before, After}
use Rattle.session.specs.declared.Session.{Session}

-- "A session is one value: record, worked-out values, next log id, and a journal of 2,048 bytes, all zero when fresh, with its used length"
-- and "a redo store of 2,048 bytes in the session" (d), with its own; "Marks are part of the session" (i): 32 of two bytes;
-- the timer (h), off; the full profile (k)
unfoldable pub fresh_session : Session
fresh_session =
    record { held = fresh_record; worked = worked_of fresh_record; next = 1; journal = replicate 2048 0; used = 0; redo = replicate 2048 0; ahead = 0; marks = replicate 64 0; timer = timer_off; profile = 0 }

-- ---- "A session is well formed if"

-- "worked-out values fit the record"
unfoldable pub worked_fits : Worked → Worked → Bool
worked_fits a b =
    cond (not (eqb a.limit b.limit)) false
    (cond (not (eqb a.observation b.observation)) false
    (cond (not (eqb a.active b.active)) false
    (eqb a.wanted b.wanted)))

unfoldable pub held_ok : Record → Worked → ℕ → Bool
held_ok held worked next = cond (not (record_ok held next)) false (worked_fits (worked_of held) worked)

-- "the used journal reads exactly as entries, each body's values ones that a well-formed record could hold; the unused part is zero"
-- d: "it reads as entries, the rest zero": the redo store's hold what was after
unfoldable pub store_ok : Way → List ℕ → ℕ → Bool
store_ok w j used = cond (ltb (length j) used) false (cond (not (entries_ok w (take used j))) false (all_are 0 (drop used j)))

-- the entries that the used bytes of a store begin with
unfoldable pub entries_in : ℕ → List ℕ → List Entry
entries_in used j = entries_of (scan (take used j))

-- i: the marks are those of the journal's entries
abbrev pub marks_for : List ℕ → ℕ → List ℕ
marks_for journal used = marks_of (entries_in used journal)

-- d: "and its length with the journal's is at most 2,048"
unfoldable pub stores_ok : Session → Bool
stores_ok s =
    cond (ltb 2048 (s.used + s.ahead)) false
    (cond (not (store_ok Before s.journal s.used)) false
    (cond (not (same s.marks (marks_for s.journal s.used))) false
    (store_ok After s.redo s.ahead)))

-- k: a watch-only session's stores hold clears, kind 01, and "another kind in either store makes the session ill formed"
unfoldable pub only_clears : List Entry → Bool
only_clears [] = true
only_clears (e ∷ es) = cond (not (eqb e.kind 0x01)) false (only_clears es)

-- the profile is 0, full, or 1, watch-only
unfoldable pub profile_ok : ℕ → List Entry → List Entry → Bool
profile_ok profile journal redo =
    cond (eqb profile 0) true
    (cond (not (eqb profile 1)) false
    (cond (not (only_clears journal)) false
    (only_clears redo)))

-- h: running is 0 or 1; "off means 0 left"
unfoldable pub well_formed : Session → Bool
well_formed s =
    cond (not (held_ok s.held s.worked s.next)) false
    (cond (not (timer_ok s.timer)) false
    (cond (not (stores_ok s)) false
    (profile_ok s.profile (entries_in s.used s.journal) (entries_in s.ahead s.redo))))

-- ---- carrying a change out

-- the logs that a change makes; each draws the next id
unfoldable pub made_of : Change → ℕ
made_of (Clear place log) = 0
made_of (Unclear place log) = 0
made_of (SetState state) = 0
made_of (SetRole got role) = 0
made_of (SetCaps got caps) = 0
made_of (SetUser user) = 0
made_of (SetThermal got) = 0
made_of (SetThrottles got) = 0
made_of (Reset log) = made_by log
made_of (Unreset state made) = 0
made_of (SetMask mask) = 0
made_of (SetDeadman deadman) = 0
made_of (SetAreas areas) = 0
made_of (SetTimer timer) = 0

-- a session from a session: this record, with the limit, readiness and wanted format that are worked out of it, this next id and these two
-- stores, with the journal's marks; whatever isn't named here is kept
unfoldable pub renewed : Session → Record → ℕ → List ℕ → ℕ → List ℕ → ℕ → Session
renewed s held next journal used redo ahead =
    record { held = held; worked = worked_of held; next = next; journal = journal; used = used; redo = redo; ahead = ahead; marks = marks_for journal used; timer = s.timer; profile = s.profile }

-- and one with another timer
unfoldable pub with_timer : Session → Timer → Session
with_timer s timer = record { held = s.held; worked = s.worked; next = s.next; journal = s.journal; used = s.used; redo = s.redo; ahead = s.ahead; marks = s.marks; timer = timer; profile = s.profile }

-- and one with another profile
unfoldable pub with_profile : Session → ℕ → Session
with_profile s profile = record { held = s.held; worked = s.worked; next = s.next; journal = s.journal; used = s.used; redo = s.redo; ahead = s.ahead; marks = s.marks; timer = s.timer; profile = profile }

-- the session after a change, or that its entry has no room
pub record Carried : Type 0 where
  pub full : Bool
  pub session : Session

-- "Each accepted command but poll adds one entry, holding what was before"; answer 5: the entry is longer than the unused journal.
-- d: "Any accepted change empties the store"; h: a timer command sets the timer, which the entry holds as it stood before
unfoldable pub carried_to : Session → Edit → Option ℕ → Carried
carried_to s e None = record { full = true; session = s }
carried_to s e (Some used) =
    record {
      full = false;
      session =
          renewed (with_timer s (timer_after s.timer e.change)) (put_after s.held e) (s.next + made_of e.change)
          (added_to s.used (takes_back s.held s.timer e) s.journal) used (replicate 2048 0) 0;
    }

unfoldable pub carried_of : Session → Edit → Carried
carried_of s e = carried_to s e (end_of (length s.journal) s.used (takes_back s.held s.timer e))
