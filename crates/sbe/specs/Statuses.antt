-- Document 01, "SBE mailbox", and document 02, h: when a request gets which status, primary and secondary, row after row. A request that no row
-- holds of is accepted; D7 03 has two rows more in the call, where the image and the second buffer are known.
use Rattle.std.specs.Prelude.{ℕ, ◌+◌, ◌%◌, ◌^◌, ◌<◌, ◌⊎◌, ◌≡◌, List, get_or}
use Rattle.wire.specs.Conditions.{◌and◌, none, Rows, row}
use Rattle.sbe.specs.Mailbox.{flags_of, word_at, register_at, target_of, chiplet_of}
use Rattle.sbe.specs.Conditions.{Plain, StartOrStop, ChipletNamed, Names}

abbrev pub Status : Type 0
Status = ℕ × ℕ

-- "class not D1, D3 to D7"
abbrev pub ClassUnknown : List ℕ → Type 0
ClassUnknown r = (get_or r 6 0 ≡ 0xD1 → ⊥) and ((get_or r 6 0 < 0xD3) ⊎ (0xD7 < get_or r 6 0))

abbrev pub CommandKnown : List ℕ → Type 0
CommandKnown r =
    Names 0xD1 0x01 r
    ⊎ (Names 0xD1 0x02 r
    ⊎ (Names 0xD1 0x03 r
    ⊎ (Names 0xD3 0x01 r
    ⊎ (Names 0xD4 0x01 r
    ⊎ (Names 0xD7 0x03 r
    ⊎ Names 0xD7 0x04 r)))))

-- the commands that want exactly one of two flags
abbrev pub StartsOrStops : List ℕ → Type 0
StartsOrStops r = Names 0xD1 0x01 r ⊎ Names 0xD4 0x01 r

-- "02/04 wrong type, 02/05 wrong chiplet"
abbrev pub RingStatus : ℕ → ℕ → Status → Type 0
RingStatus target chiplet =
    row (0x02, 0x04) (4 < target)
    (row (0x02, 0x05) (ChipletNamed target chiplet → ⊥)
    none)

-- "Size 0 makes that area's address and size 0. Else address not a multiple of 128, or address + size over 2^64: 02/03; size not a multiple of 128: 02/19"
abbrev pub AreaStatus : ℕ → ℕ → (Status → Type 0) → Status → Type 0
AreaStatus address size rest =
    row (0x02, 0x03) ((size ≡ 0 → ⊥) and ((address % 128 ≡ 0 → ⊥) ⊎ (2 ^ 64 < address + size)))
    (row (0x02, 0x19) ((size ≡ 0 → ⊥) and (size % 128 ≡ 0 → ⊥))
    rest)

-- "In order: class not D1, D3 to D7: 01/01; other command: 01/02; any flag but 0x0100, 0x0200 and those named for the command: 02/19"; D3 01: type
-- before chiplet; D7 04: "FFDC area first, address before size"
unfoldable pub RequestStatus : List ℕ → Status → Type 0
RequestStatus r =
    row (0x01, 0x01) (ClassUnknown r)
    (row (0x01, 0x02) (CommandKnown r → ⊥)
    (Rows (StartsOrStops r) (row (0x02, 0x19) (StartOrStop (flags_of r) → ⊥) none)
    (row (0x02, 0x19) (Plain (flags_of r) → ⊥)
    (Rows (Names 0xD3 0x01 r) (RingStatus (target_of r) (chiplet_of r))
    (Rows (Names 0xD7 0x04 r) (AreaStatus (register_at 16 r) (word_at 8 r) (AreaStatus (register_at 24 r) (word_at 12 r) none))
    none)))))
