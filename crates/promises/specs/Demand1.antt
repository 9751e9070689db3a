-- Demand 1, as document 01's tables, with document 02's additions: each session answer, and with answer 0 each status, when its row holds and none before it.
use Rattle.std.specs.Prelude.{ℕ, ◌+◌, ◌≤◌, ◌<◌, true, ◌⊎◌, ◌≡◌, List, [], ◌∷◌, ◌++◌, length, get_or}
use Rattle.wire.specs.Wire.{to_be, packet_sum}
use Rattle.wire.specs.Conditions.{◌and◌, is, none, row}
use Rattle.record.specs.Record.{worked_of}
use Rattle.change.specs.declared.Edit.{Edit}
use Rattle.journal.specs.declared.Way.{Way}
use Rattle.journal.specs.declared.Way.TheVariants.{Before, After}
use Rattle.packet.specs.Packet.{data_of}
use Rattle.packet.specs.Conditions.{Overlong, Summed}
use Rattle.occ.specs.Conditions.{CommandOk}
use Rattle.occ.specs.Statuses.{CommandStatus}
use Rattle.sbe.specs.Mailbox.{word_at, bell_of, response_bytes}
use Rattle.sbe.specs.Conditions.{Changes, ReadAsked}
use Rattle.sbe.specs.Statuses.{Status, RequestStatus}
use Rattle.session.specs.Session.{well_formed}
use Rattle.session.specs.declared.Session.{Session}
use Rattle.session.specs.Road.{used_of, held_in, Said, done}
use Rattle.promises.specs.Demand2.{at_front, entry_length, KnownSender, Open, WellAsked, occ_kind, NotPoll, sbe_kind, InImage, Newest, Movable}

-- ---- session answers

-- "an otherwise accepted change whose entry is longer than the unused journal"
abbrev pub NoRoom : Session → ℕ → Type 0
NoRoom s kind = 2048 < s.used + entry_length kind

unfoldable pub OccAnswer : Session → ℕ → List ℕ → List ℕ → ℕ → Type 0
OccAnswer s sender c d =
    row 1 (well_formed s ≡ true → ⊥)
    (row 2 (KnownSender sender → ⊥)
    (row 3 (length d < 4096)
    (row 4 (length c < 4)
    (row 5 (WellAsked s sender c and NotPoll c and NoRoom s (occ_kind c))
    (is 0)))))

unfoldable pub SbeAnswer : Session → List ℕ → List ℕ → ℕ → Type 0
SbeAnswer s r d =
    row 1 (well_formed s ≡ true → ⊥)
    (row 3 (length d < 32)
    (row 4 (length r < 32)
    (row 5 (Changes r and (s.profile ≡ 0) and NoRoom s (sbe_kind r))
    (is 0))))

-- document 02, h
unfoldable pub TimeAnswer : Session → ℕ → Type 0
TimeAnswer s = row 1 (well_formed s ≡ true → ⊥) (is 0)

-- document 02, k
unfoldable pub WatchAnswer : Session → ℕ → Type 0
WatchAnswer s = row 1 (well_formed s ≡ true → ⊥) (is 0)

-- undo and redo, each with its number for an empty store. 7: the newest entry is there, and one of the cases holds
unfoldable pub MoveAnswer : Way → ℕ → Session → ℕ → Type 0
MoveAnswer w empty s =
    row 1 (well_formed s ≡ true → ⊥)
    (row empty (used_of w s ≡ 0)
    (row 7 ((e : Edit) × (Newest w s e and (Movable s e → ⊥)))
    (is 0)))

-- 6: "undo with an empty journal"
abbrev pub UndoAnswer : Session → ℕ → Type 0
UndoAnswer s = MoveAnswer Before 6 s

-- document 02, d: "8, nothing to redo, tested where 6 is; 7 covers redo alike"
abbrev pub RedoAnswer : Session → ℕ → Type 0
RedoAnswer s = MoveAnswer After 8 s

-- forget: "Refusals: 9, n greater than the changes held, after 1"
unfoldable pub ForgetAnswer : ℕ → Session → ℕ → Type 0
ForgetAnswer n s = row 1 (well_formed s ≡ true → ⊥) (row 9 (held_in s < n) (is 0))

-- ---- statuses, where none of answers 1 to 4 is due

pub record OccDue (s : Session) (sender : ℕ) (c d : List ℕ) : Type 0 where
  pub formed : well_formed s ≡ true
  pub known : KnownSender sender
  pub reply : 4096 ≤ length d
  pub command : 4 ≤ length c

pub record SbeDue (s : Session) (r d : List ℕ) : Type 0 where
  pub formed : well_formed s ≡ true
  pub reply : 32 ≤ length d
  pub request : 32 ≤ length r

-- document 02, k: "0x16 after the data checks": where the profile shuts a type, its command gets its own statuses but 0x15, and 0x16
-- for what would be 0x15 or accepted
abbrev pub ShutStatus : (ℕ → Type 0) → Type 0 → ℕ → Type 0
ShutStatus Own Ok n = (Own n and (n ≡ 0x15 → ⊥)) ⊎ ((n ≡ 0x16) and (Own 0x15 ⊎ Ok))

abbrev pub ProfileStatus : Type 0 → (ℕ → Type 0) → Type 0 → ℕ → Type 0
ProfileStatus Opened Own Ok n = (Opened and Own n) ⊎ ((Opened → ⊥) and ShutStatus Own Ok n)

-- the packet's own two, then those of its command (occ/specs/Statuses.antt), by the profile
unfoldable pub OccStatus : Session → ℕ → List ℕ → ℕ → Type 0
OccStatus s sender c =
    row 0x12 (Overlong c)
    (row 0x14 (Summed c → ⊥)
    (ProfileStatus (Open s (get_or c 1 0)) (CommandStatus s.held (worked_of s.held) s.next sender (get_or c 1 0) (data_of c))
    (CommandOk s.held (worked_of s.held) s.next sender (get_or c 1 0) (data_of c))))

-- h, D7 03, where the request's own rows (sbe/specs/Statuses.antt) leave it: "02/19 an offset or size that is no multiple of 8 or leaves the image, 02/18 when the
-- second buffer is shorter than the data"
unfoldable pub ReadStatus : List ℕ → List ℕ → List ℕ → Status → Type 0
ReadStatus r m x =
    row (0x02, 0x19) (InImage r m → ⊥)
    (row (0x02, 0x18) (length x < word_at 12 r)
    none)

-- document 02, k: in a watch-only session "05/20 after them", the data checks, for a request that would make an entry
unfoldable pub SbeStatus : Session → List ℕ → List ℕ → List ℕ → Status → Type 0
SbeStatus s r m x n = RequestStatus r n ⊎ ((ReadAsked r and ReadStatus r m x n) ⊎ ((s.profile ≡ 0 → ⊥) and Changes r and (n ≡ (0x05, 0x20))))

-- "An error reply has one data byte, log id 0x00": sequence, type, status, 00 01, 00, and the checksum
abbrev pub error_bytes : ℕ → ℕ → ℕ → List ℕ
error_bytes seq type status = seq ∷ type ∷ status ∷ 0x00 ∷ 0x01 ∷ 0x00 ∷ []

abbrev pub error_reply : ℕ → ℕ → ℕ → List ℕ
error_reply seq type status = error_bytes seq type status ++ to_be 2 (packet_sum (error_bytes seq type status))

-- answer 0 with an error reply: the session as it was, the reply at the front of the buffer, and the doorbell rung as asked
abbrev pub occ_error : Session → List ℕ → List ℕ → ℕ → Said
occ_error s c d status = done s 0 0 (at_front (error_reply (get_or c 0 0) (get_or c 1 0) status) d)

abbrev pub sbe_error : Session → List ℕ → List ℕ → Status → Said
sbe_error s r d status = done s (bell_of r) 0 (at_front (response_bytes status.0 status.1 r) d)
