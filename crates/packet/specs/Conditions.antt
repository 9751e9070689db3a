-- Document 01, "Statuses": when a packet fits and its sum is right.
use Rattle.std.specs.Prelude.{ℕ, ◌+◌, ◌<◌, ◌≤◌, ◌⊎◌, ◌≡◌, List, length, take, drop}
use Rattle.wire.specs.Wire.{be_nat, packet_sum}
use Rattle.packet.specs.Packet.{data_length}

-- "L over 4,090, or L+6 over the buffer's length"
abbrev pub Overlong : List ℕ → Type 0
Overlong c = (4090 < data_length c) ⊎ (length c < data_length c + 6)

abbrev pub Fits : List ℕ → Type 0
Fits c = (data_length c ≤ 4090) × (data_length c + 6 ≤ length c)

-- the checksum is the sum of every byte before it
abbrev pub Summed : List ℕ → Type 0
Summed c = be_nat (take 2 (drop (data_length c + 4) c)) ≡ packet_sum (take (data_length c + 4) c)
