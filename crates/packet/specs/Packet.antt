-- Document 01, "OCC packets".
use Rattle.std.specs.Prelude.{ℕ, ◌+◌, ◌-◌, cond, not, Option, Some, None, Result, Ok, Err, List, [], ◌∷◌, ◌++◌, length, take, drop, ltb, eqb}
use Rattle.packet.specs.declared.Status.{Status}
use Rattle.packet.specs.declared.Status.TheVariants.{InvalidCommand, InvalidLength, InvalidData, ChecksumFailure, InternalError, StateProhibits}
use Rattle.wire.specs.Wire.{be_nat, to_be, packet_sum, pasted}

-- "Command: sequence, type, two bytes of data length L (at most 4,090), data, two bytes of checksum"
unfoldable pub data_length : List ℕ → ℕ
data_length c = be_nat (take 2 (drop 2 c))

-- L where the whole packet, L+6 bytes, is in the buffer
unfoldable pub whole_length : List ℕ → Option ℕ
whole_length c = cond (ltb (length c) (data_length c + 6)) None (Some (data_length c))

-- "Statuses": the number of each
abbrev pub status_number : Status → ℕ
status_number InvalidCommand = 0x11
status_number InvalidLength = 0x12
status_number InvalidData = 0x13
status_number ChecksumFailure = 0x14
status_number InternalError = 0x15
status_number StateProhibits = 0x16

-- of a command that may have one
abbrev pub Checked : Type 0
Checked = Result (Unit {0}) Status

-- the first two statuses, at the length L: 0x12 for L over 4,090 or L+6 over the buffer's length; 0x14 where the checksum differs from
-- the two-byte sum, ignoring overflow, of every byte before it
unfoldable pub status_at : ℕ → List ℕ → Checked
status_at n c =
    cond (ltb 4090 n) (Err InvalidLength)
    (cond (ltb (length c) (n + 6)) (Err InvalidLength)
    (cond (not (eqb (be_nat (take 2 (drop (n + 4) c))) (packet_sum (take (n + 4) c)))) (Err ChecksumFailure) (Ok tt)))

unfoldable pub packet_status : List ℕ → Checked
packet_status c = status_at (data_length c) c

-- "The data is handed on as that part of the caller's buffer": bytes 4 on, L of them; none where the packet runs past the buffer
unfoldable pub data_at : ℕ → List ℕ → List ℕ
data_at n c = cond (ltb (length c) (n + 6)) [] (take n (drop 4 c))

unfoldable pub data_of : List ℕ → List ℕ
data_of c = data_at (data_length c) c

-- "Reply: sequence, type, status, length, data, checksum"
unfoldable pub unsummed : ℕ → ℕ → ℕ → List ℕ → List ℕ
unsummed seq kind status part = seq ∷ kind ∷ status ∷ (to_be 2 (length part) ++ part)

unfoldable pub reply_bytes : ℕ → ℕ → ℕ → List ℕ → List ℕ
reply_bytes seq kind status part = unsummed seq kind status part ++ to_be 2 (packet_sum (unsummed seq kind status part))

-- "An error reply has one data byte, log id 0x00"
abbrev pub no_log_id : List ℕ
no_log_id = 0x00 ∷ []

-- the buffer with the reply at its front, the bytes past it kept; a buffer without room is kept
unfoldable pub replied : ℕ → ℕ → ℕ → List ℕ → List ℕ → List ℕ
replied seq kind status part d =
    cond (ltb (length d) 7) d
    (cond (ltb (length d - 7) (length part)) d
    (pasted 0 (reply_bytes seq kind status part) d))
