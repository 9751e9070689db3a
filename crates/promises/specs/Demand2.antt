-- Demand 2 of whole calls, in the words of document 01 and of document 02, h: when a call is accepted, and what an accepted one replies.
use Rattle.std.specs.Prelude.{ℕ, ◌+◌, ◌%◌, ◌<◌, ◌≤◌, true, cond, ◌⊎◌, ◌≡◌, List, [], ◌∷◌, ◌++◌, eqb, length, get_or, take, drop, Some}
use Rattle.wire.specs.Conditions.{◌and◌}
use Rattle.record.specs.Record.{worked_of}
use Rattle.record.specs.declared.Record.{Record}
use Rattle.change.specs.Change.{put_after}
use Rattle.change.specs.Logs.{pending_of, pends_at}
use Rattle.change.specs.declared.Change.{Change}
use Rattle.change.specs.declared.Change.TheVariants.{Clear, Unclear, SetState, SetRole, SetCaps, SetUser, SetThermal, SetThrottles, Reset, Unreset, SetMask, SetDeadman, SetAreas, SetTimer}
use Rattle.change.specs.declared.Edit.{Edit}
use Rattle.formed.specs.Formed.{record_ok}
use Rattle.entries.specs.Entries.{Entry, body_len, between, scan}
use Rattle.journal.specs.Read.{found_for, tables_in}
use Rattle.journal.specs.declared.Way.{Way}
use Rattle.journal.specs.declared.Way.TheVariants.{Before, After}
use Rattle.packet.specs.Packet.{data_of, reply_bytes}
use Rattle.packet.specs.Conditions.{Fits, Summed}
use Rattle.poll.specs.Poll.{poll_data}
use Rattle.occ.specs.Conditions.{CommandOk}
use Rattle.sbe.specs.Mailbox.{word_at, response_bytes}
use Rattle.sbe.specs.Conditions.{Changes, Plainly, ReadAsked}
use Rattle.session.specs.declared.Session.{Session}
use Rattle.occ_call.specs.Occ.{occ_call}
use Rattle.sbe_call.specs.Sbe.{sbe_call}
use Rattle.session.specs.Road.{store_of, used_of}

-- "reply; bytes past it kept": a reply at the front of the buffer
abbrev pub at_front : List ℕ → List ℕ → List ℕ
at_front y d = y ++ drop (length y) d

-- "The journal": an entry is one byte of kind and a body whose length the kind fixes; it has room in the 2,048 bytes
abbrev pub entry_length : ℕ → ℕ
entry_length kind = 1 + body_len kind

abbrev pub HasRoom : Session → ℕ → Type 0
HasRoom s kind = s.used + entry_length kind ≤ 2048

-- ---- OCC

abbrev pub KnownSender : ℕ → Type 0
KnownSender sender = (sender ≡ 0x10) ⊎ (sender ≡ 0x20)

-- document 02, k: every type is open in a full session; in a watch-only one poll and clear log are (the column of profiles in occ/specs/Open.antt, as a condition)
abbrev pub Open : Session → ℕ → Type 0
Open s type = (s.profile ≡ 0) ⊎ ((type ≡ 0x00) ⊎ (type ≡ 0x12))

-- the packet fits, its sum is right, the command's conditions hold of the session's record, its readiness and the next id, and the profile has its type open
unfoldable pub WellAsked : Session → ℕ → List ℕ → Type 0
WellAsked s sender c =
    Fits c and Summed c and CommandOk s.held (worked_of s.held) s.next sender (get_or c 1 0) (data_of c) and Open s (get_or c 1 0)

-- the kind of a command's entry, by its type and, for 0x21, its format
unfoldable pub kind_for : ℕ → ℕ → ℕ
kind_for type format =
    cond (eqb type 0x12) 0x01
    (cond (eqb type 0x20) 0x02
    (cond (eqb type 0x21) (cond (eqb format 0x03) 0x03 (cond (eqb format 0x07) 0x04 (cond (eqb format 0x12) 0x07 0x06)))
    (cond (eqb type 0x22) 0x05 0x08)))

abbrev pub occ_kind : List ℕ → ℕ
occ_kind c = kind_for (get_or c 1 0) (get_or (data_of c) 0 0)

-- any command but poll adds an entry
abbrev pub NotPoll : List ℕ → Type 0
NotPoll c = get_or c 1 0 ≡ 0x00 → ⊥

unfoldable pub OccAccepted : Session → ℕ → List ℕ → List ℕ → Type 0
OccAccepted s sender c d =
    KnownSender sender and (4096 ≤ length d) and (4 ≤ length c) and WellAsked s sender c and (NotPoll c → HasRoom s (occ_kind c))

-- "Success has no data, but for poll"
unfoldable pub success_data : Session → ℕ → List ℕ
success_data s type = cond (eqb type 0x00) (poll_data s.held (worked_of s.held)) []

unfoldable pub success_reply : Session → List ℕ → List ℕ
success_reply s c = reply_bytes (get_or c 0 0) (get_or c 1 0) 0x00 (success_data s (get_or c 1 0))

-- answer 0 with the reply of success
unfoldable pub OccSucceeds : Session → ℕ → List ℕ → List ℕ → Type 0
OccSucceeds s sender c d =
    ((occ_call s sender c d).answer ≡ 0) and ((occ_call s sender c d).reply ≡ at_front (success_reply s c) d)

-- ---- SBE

-- D1 01 adds an entry of kind 0A, D1 03 one of 09, D4 01 one of 0C, D7 04 one of 0B
unfoldable pub sbe_kind : List ℕ → ℕ
sbe_kind r = cond (eqb (get_or r 6 0) 0xD7) 0x0B (cond (eqb (get_or r 6 0) 0xD4) 0x0C (cond (eqb (get_or r 7 0) 0x01) 0x0A 0x09))

-- document 02, h, D7 03: offset and size are multiples of 8 and stay within the lent image m, "of which only the first 65,536 bytes count"
abbrev pub InImage : List ℕ → List ℕ → Type 0
InImage r m = (word_at 8 r % 8 ≡ 0) and (word_at 12 r % 8 ≡ 0) and (word_at 8 r + word_at 12 r ≤ 65536) and (word_at 8 r + word_at 12 r ≤ length m)

-- and the second buffer x holds the data
abbrev pub Served : List ℕ → List ℕ → List ℕ → Type 0
Served r m x = ReadAsked r and InImage r m and (word_at 12 r ≤ length x)

-- a change that has room, in a full session (k); what is answered without one (D1 02, D3 01); a read that is served
unfoldable pub SbeAccepted : Session → List ℕ → List ℕ → List ℕ → List ℕ → Type 0
SbeAccepted s r d m x = (32 ≤ length d) and (32 ≤ length r) and ((Changes r and (s.profile ≡ 0) and HasRoom s (sbe_kind r)) ⊎ (Plainly r ⊎ Served r m x))

unfoldable pub SbeSucceeds : Session → List ℕ → List ℕ → List ℕ → List ℕ → Type 0
SbeSucceeds s r d m x = ((sbe_call s r d m x).answer ≡ 0) and ((sbe_call s r d m x).reply ≡ at_front (response_bytes 0x00 0x00 r) d)

-- ---- undo and redo (document 02, d): one road walked both ways, Before is undo and After redo (undo_call/specs/Undo.antt)

-- the newest entry of the way's store says this: the journal's what was before, the redo store's "what was after"
pub record Newest (w : Way) (s : Session) (e : Edit) : Type 0 where
  pub entry : Entry
  pub older : List Entry
  pub read : scan (take (used_of w s) (store_of w s)) ≡ between (entry ∷ older)
  pub change : found_for w entry.kind entry.body ≡ Some e.change
  pub tables : tables_in entry.kind entry.body ≡ e.tables

-- answer 7: "a cleared log's place is above the number pending or 4 pend, or the entry says a log was made and none pends". "7 covers redo alike, a
-- clear whose log isn't at its place included": the redo store's entries say `Clear` and `Reset`, which brings its log back, where 4 don't pend
abbrev pub GoesIn : Record → Change → Type 0
GoesIn r (Unclear place log) = (place ≤ pending_of r.logs) and (pending_of r.logs < 4)
GoesIn r (Unreset state made) = (made ≡ 0) ⊎ (1 ≤ pending_of r.logs)
GoesIn r (Clear place log) = pends_at place log r.logs ≡ true
GoesIn r (Reset log) = (log.id ≡ 0) ⊎ (pending_of r.logs < 4)
GoesIn r (SetState state) = Unit {0}
GoesIn r (SetRole got role) = Unit {0}
GoesIn r (SetCaps got caps) = Unit {0}
GoesIn r (SetUser user) = Unit {0}
GoesIn r (SetThermal got) = Unit {0}
GoesIn r (SetThrottles got) = Unit {0}
GoesIn r (SetMask mask) = Unit {0}
GoesIn r (SetDeadman deadman) = Unit {0}
GoesIn r (SetAreas areas) = Unit {0}
GoesIn r (SetTimer timer) = Unit {0}

-- none of answer 7's cases: what the entry says goes in, and the record that it gives is well formed
abbrev pub Movable : Session → Edit → Type 0
Movable s e = GoesIn s.held e.change and (record_ok (put_after s.held e) s.next ≡ true)

abbrev pub MoveAccepted : Way → Session → Type 0
MoveAccepted w s = (e : Edit) × (Newest w s e and Movable s e)

abbrev pub UndoAccepted : Session → Type 0
UndoAccepted s = MoveAccepted Before s

abbrev pub RedoAccepted : Session → Type 0
RedoAccepted s = MoveAccepted After s
