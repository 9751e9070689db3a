-- Demand 2, the effects: what the session is after each accepted command, one row a command, and after an accepted undo or redo. All that a row doesn't
-- name is as before.
use Rattle.std.specs.Prelude.{ℕ, ◌+◌, ◌-◌, ◌%◌, ◌≤◌, ◌<◌, cond, ◌⊎◌, ◌≡◌, List, [], ◌∷◌, ◌++◌, eqb, length, get_or, take, drop, replicate}
use Rattle.wire.specs.Wire.{be_nat, to_be, pasted}
use Rattle.wire.specs.Conditions.{◌and◌}
use Rattle.record.specs.Record.{no_log, timer_off}
use Rattle.record.specs.declared.Log.{Log}
use Rattle.record.specs.declared.Throttles.{Throttles}
use Rattle.record.specs.declared.Record.{Record}
use Rattle.record.specs.declared.Timer.{Timer}
use Rattle.change.specs.Logs.{pending_of, remove_at, insert_at}
use Rattle.change.specs.With.{with_state, with_role, with_caps, with_throttles, with_user, with_thermal, with_logs, with_mask, with_deadman, with_areas}
use Rattle.change.specs.Change.{put_after, takes_back, timer_after}
use Rattle.change.specs.declared.Edit.{Edit}
use Rattle.entries.specs.Entries.{Entry, written}
use Rattle.journal.specs.Bytes.{cleared_body, caps_body, throttles_body, clock_body, areas_body, entry_for}
use Rattle.journal.specs.declared.Way.{Way}
use Rattle.journal.specs.declared.Way.TheVariants.{Before, After}
use Rattle.sets.specs.Conditions.{SentPairs, SentFrus}
use Rattle.occ.specs.Commands.{sent_caps}
use Rattle.sbe.specs.Mailbox.{flags_of, word_at}
use Rattle.sbe.specs.Conditions.{Names, start_asked, stop_asked, timer_start, timer_stop, areas_asked}
use Rattle.session.specs.Session.{renewed, with_timer}
use Rattle.session.specs.Road.{Said, done}
use Rattle.session.specs.declared.Session.{Session}
use Rattle.promises.specs.Demand2.{Newest}
use Rattle.promises.specs.WellFormed.{EntriesHold}

-- the session with this record, what is worked out of it, this next id, and one entry more after the used journal; d: "Any accepted change empties the
-- store", the redo store
abbrev pub becomes : Session → Record → ℕ → List ℕ → Session
becomes s held next entry = renewed s held next (pasted s.used entry s.journal) (s.used + length entry) (replicate 2048 0) 0

-- "A log is made for reason 1, and for 2 on a master"
abbrev pub LogDue : ℕ → ℕ → Type 0
LogDue role reason = (reason ≡ 1) ⊎ ((reason ≡ 2) and (role ≡ 1))

-- an accepted command of a type, with the data d; an entry is its kind, and what was before
pub data OccEffect (s : Session) (type : ℕ) (d : List ℕ) : Session → Type 0 where
  -- 0x00: nothing changes
  poll : type ≡ 0x00 → OccEffect s type d s
  -- 0x12: the log with the id that was sent leaves its place, those above move down
  clear_log : (place : ℕ) → type ≡ 0x12 → place < 4 → (get_or s.held.logs place no_log).id ≡ get_or d 0 0
      → OccEffect s type d (becomes s (with_logs s.held (remove_at place s.held.logs)) s.next (0x01 ∷ cleared_body place (get_or s.held.logs place no_log)))
  -- 0x20: the state is the one sent
  set_state : type ≡ 0x20 → OccEffect s type d (becomes s (with_state s.held (get_or d 1 0)) s.next (0x02 ∷ s.held.state ∷ []))
  -- 0x21, 0x03 and 0x07: role and caps are those sent, and received
  set_role : type ≡ 0x21 → get_or d 0 0 ≡ 0x03
      → OccEffect s type d (becomes s (with_role s.held 1 (get_or d 1 0)) s.next (0x03 ∷ s.held.received.role ∷ s.held.role ∷ []))
  set_caps : type ≡ 0x21 → get_or d 0 0 ≡ 0x07
      → OccEffect s type d (becomes s (with_caps s.held 1 (sent_caps d)) s.next (0x04 ∷ caps_body s.held.received.caps s.held.caps))
  -- 0x21, 0x12 and 0x13: the tables hold what was sent, and what wasn't is as fresh (sets/specs/Conditions.antt)
  set_throttles : type ≡ 0x21 → get_or d 0 0 ≡ 0x12 → (t : Throttles) → SentPairs (get_or d 2 0) (drop 3 d) t
      → OccEffect s type d (becomes s (with_throttles s.held 1 t) s.next (0x07 ∷ throttles_body s.held.received.throttles s.held.throttles))
  set_thermal : type ≡ 0x21 → get_or d 0 0 ≡ 0x13 → (t : List ℕ) → SentFrus (get_or d 2 0) (drop 3 d) t
      → OccEffect s type d (becomes s (with_thermal s.held 1 t) s.next (0x06 ∷ s.held.received.thermal ∷ s.held.thermal))
  -- 0x22: the user cap is the one sent
  set_user : type ≡ 0x22 → OccEffect s type d (becomes s (with_user s.held (be_nat (take 2 d))) s.next (0x05 ∷ to_be 2 s.held.user))
  -- 0x25: the state is 1; where a log is due, it is the last pending, with the next id and the reason sent
  reset : type ≡ 0x25 → (LogDue s.held.role (get_or d 1 0) → ⊥) → OccEffect s type d (becomes s (with_state s.held 1) s.next (0x08 ∷ s.held.state ∷ 0 ∷ []))
  reset_logged : type ≡ 0x25 → LogDue s.held.role (get_or d 1 0)
      → OccEffect s type d (becomes s (with_logs (with_state s.held 1) (insert_at (pending_of s.held.logs) (record { id = s.next; reason = get_or d 1 0 }) s.held.logs)) (s.next + 1) (0x08 ∷ s.held.state ∷ 1 ∷ []))

-- an accepted request
pub data SbeEffect (s : Session) (r : List ℕ) : Session → Type 0 where
  -- D1 01: the deadman runs with the time in register 1, or is off with time 0
  start_deadman : Names 0xD1 0x01 r → flags_of r % 0x0100 ≡ 0x01
      → SbeEffect s r (becomes s (with_deadman s.held (start_asked r)) s.next (0x0A ∷ clock_body s.held.deadman.running s.held.deadman.time))
  stop_deadman : Names 0xD1 0x01 r → flags_of r % 0x0100 ≡ 0x02
      → SbeEffect s r (becomes s (with_deadman s.held stop_asked) s.next (0x0A ∷ clock_body s.held.deadman.running s.held.deadman.time))
  -- D1 03: register 1's first four bytes become the mask
  set_mask : Names 0xD1 0x03 r → SbeEffect s r (becomes s (with_mask s.held (word_at 8 r)) s.next (0x09 ∷ to_be 4 s.held.mask))
  -- D7 04: both areas are those sent; size 0 makes address and size 0
  set_areas : Names 0xD7 0x04 r → SbeEffect s r (becomes s (with_areas s.held (areas_asked r)) s.next (0x0B ∷ areas_body s.held.areas))
  -- document 02, h. D4 01: the timer runs with the microseconds in register 1, or is off; the record stays, and the entry holds the timer as it stood
  start_timer : Names 0xD4 0x01 r → flags_of r % 0x0100 ≡ 0x01
      → SbeEffect s r (becomes (with_timer s (timer_start r)) s.held s.next (0x0C ∷ clock_body s.timer.running s.timer.left))
  stop_timer : Names 0xD4 0x01 r → flags_of r % 0x0100 ≡ 0x02
      → SbeEffect s r (becomes (with_timer s timer_stop) s.held s.next (0x0C ∷ clock_body s.timer.running s.timer.left))
  -- D1 02, D3 01, D7 03: nothing changes; what a read serves is in the second buffer
  exit_contained : Names 0xD1 0x02 r → SbeEffect s r s
  put_ring : Names 0xD3 0x01 r → SbeEffect s r s
  read_seeprom : Names 0xD7 0x03 r → SbeEffect s r s

-- ---- undo and redo

-- used bytes with zeros from the place on where the newest entry begins
abbrev pub zeroed_from : ℕ → ℕ → List ℕ → List ℕ
zeroed_from at used bytes = pasted at (replicate (used - at) 0) bytes

-- the session with this record and what is worked out of it, and the next id that it had. Undo: the journal ends at a place, and one entry more stands after the used
-- redo store; redo: the other way round
abbrev pub moves_to : Way → Session → Record → ℕ → List ℕ → Session
moves_to Before s held at entry =
    renewed s held s.next (zeroed_from at s.used s.journal) at (pasted s.ahead entry s.redo) (s.ahead + length entry)
moves_to After s held at entry =
    renewed s held s.next (pasted s.used entry s.journal) (s.used + length entry) (zeroed_from at s.ahead s.redo) at

-- the values that the record holds now, as the body of an entry of a kind other than 01, 08 and 0C
unfoldable pub values_of : Record → ℕ → List ℕ
values_of r kind =
    cond (eqb kind 0x02) (r.state ∷ [])
    (cond (eqb kind 0x03) (r.received.role ∷ r.role ∷ [])
    (cond (eqb kind 0x04) (caps_body r.received.caps r.caps)
    (cond (eqb kind 0x05) (to_be 2 r.user)
    (cond (eqb kind 0x06) (r.received.thermal ∷ r.thermal)
    (cond (eqb kind 0x07) (throttles_body r.received.throttles r.throttles)
    (cond (eqb kind 0x09) (to_be 4 r.mask)
    (cond (eqb kind 0x0A) (clock_body r.deadman.running r.deadman.time)
    (areas_body r.areas))))))))

-- the log that a reset made: the last pending
abbrev pub last_pending : Record → Log
last_pending r = get_or r.logs (pending_of r.logs - 1) no_log

-- what goes to the other store where the newest entry has this kind and this body b: its bytes, one row a kind. r and t are the record and the timer as they
-- stand
pub data EntryMoved (r : Record) (t : Timer) : Way → ℕ → List ℕ → List ℕ → Type 0 where
  -- 01: place, id and reason as they are, both ways
  clear_over : (w : Way) (b : List ℕ) → EntryMoved r t w 0x01 b (0x01 ∷ get_or b 0 0 ∷ get_or b 1 0 ∷ get_or b 2 0 ∷ [])
  -- 08 undone: "the log's id and reason, 0 and 0 without one"; b says state and whether a log was made
  reset_undone : (b : List ℕ) → get_or b 1 0 ≡ 0 → EntryMoved r t Before 0x08 b (0x08 ∷ 0 ∷ 0 ∷ [])
  logged_undone : (b : List ℕ) → (get_or b 1 0 ≡ 0 → ⊥) → 1 ≤ pending_of r.logs → EntryMoved r t Before 0x08 b (0x08 ∷ (last_pending r).id ∷ (last_pending r).reason ∷ [])
  -- 08 redone: the state, and 1 if a log comes back; b says its id and reason
  reset_redone : (b : List ℕ) → get_or b 0 0 ≡ 0 → EntryMoved r t After 0x08 b (0x08 ∷ r.state ∷ 0 ∷ [])
  logged_redone : (b : List ℕ) → (get_or b 0 0 ≡ 0 → ⊥) → EntryMoved r t After 0x08 b (0x08 ∷ r.state ∷ 1 ∷ [])
  -- 0C, both ways: the timer as it stands
  timer_over : (w : Way) (b : List ℕ) → EntryMoved r t w 0x0C b (0x0C ∷ clock_body t.running t.left)
  -- all other kinds, both ways: the values now in the record
  values_over : (w : Way) (kind : ℕ) (b : List ℕ) → (kind ≡ 0x01 → ⊥) → (kind ≡ 0x08 → ⊥) → (kind ≡ 0x0C → ⊥) → EntryMoved r t w kind b (kind ∷ values_of r kind)

-- the entry that takes a change back, as the model has it
abbrev pub entry_back : Session → Edit → Entry
entry_back s e = entry_for (takes_back s.held s.timer e)

-- an accepted undo or redo: what the newest entry says is put into the record, the entry is zeroed, its kind reported; "An undone change moves to a redo
-- store .. in the same kinds and lengths, but holding what was after", and a redone one to the journal, holding what was before. h: the timer is the
-- one that a timer command's entry holds; "no other undo or redo touches it"
pub record MoveEffect (w : Way) (s : Session) (q : Said) : Type 0 where
  pub edit : Edit
  pub newest : Newest w s edit
  pub kind_is : q.kind ≡ newest.entry.kind
  pub moved : List ℕ
  pub moved_is : EntryMoved s.held s.timer w newest.entry.kind newest.entry.body moved
  pub same_length : length moved ≡ 1 + length newest.entry.body
  pub session_is : q.session ≡ moves_to w (with_timer s (timer_after s.timer edit.change)) (put_after s.held edit) (length (written newest.older)) moved

abbrev pub UndoEffect : Session → Said → Type 0
UndoEffect s q = MoveEffect Before s q

abbrev pub RedoEffect : Session → Said → Type 0
RedoEffect s q = MoveEffect After s q

-- ---- forget

-- n changes forgotten: the oldest entries go, the rest stands at the front of the journal, zeros behind it; record, worked-out values, next id, timer, profile and redo store are
-- as before. The entries stand newest first, as the journal's do elsewhere
pub record ForgetEffect (n : ℕ) (s : Session) (q : Said) : Type 0 where
  pub forgotten : List Entry
  pub kept : List Entry
  pub held : take s.used s.journal ≡ written (kept ++ forgotten)
  pub hold : EntriesHold Before (kept ++ forgotten)
  pub so_many : length forgotten ≡ n
  pub session_is : q.session ≡ renewed s s.held s.next (written kept ++ replicate (2048 - length (written kept)) 0) (length (written kept)) s.redo s.ahead

-- ---- watch (document 02, k): "its record, timer and next id, an empty journal and redo store"; what is worked out is the record's

pub record WatchEffect (s t : Session) : Type 0 where
  pub record_is : t.held ≡ s.held
  pub worked_is : t.worked ≡ s.worked
  pub timer_is : t.timer ≡ s.timer
  pub next_is : t.next ≡ s.next
  pub journal_is : (t.journal ≡ replicate 2048 0) and (t.used ≡ 0)
  pub redo_is : (t.redo ≡ replicate 2048 0) and (t.ahead ≡ 0)
  pub marks_are : t.marks ≡ replicate 64 0
  pub watch_only_lem : t.profile ≡ 1

-- ---- time

-- n microseconds passed: "as many .. as are left, or more" end it and ring bit 14, "fewer are taken off", off stays off and silent. Nothing else moves, and no entry is made
pub data TimeEffect (n : ℕ) (s : Session) : Said → Type 0 where
  off : s.timer.running ≡ 0 → TimeEffect n s (done s 0 0 [])
  fewer : (s.timer.running ≡ 0 → ⊥) → n < s.timer.left → TimeEffect n s (done (with_timer s (record { running = s.timer.running; left = s.timer.left - n })) 0 0 [])
  expired : (s.timer.running ≡ 0 → ⊥) → s.timer.left ≤ n → TimeEffect n s (done (with_timer s timer_off) 0x0002 0 [])
