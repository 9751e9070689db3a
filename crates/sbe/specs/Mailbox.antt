-- Document 01, "SBE mailbox", and document 02, h: "More of the mailbox". Statuses are primary/secondary.
use Rattle.std.specs.Prelude.{ℕ, ◌+◌, ◌*◌, ◌/◌, ◌%◌, Bool, true, false, cond, not, Result, Ok, Err, List, [], ◌∷◌, ◌++◌, get_or, take, drop, replicate, ltb, leb, eqb}
use Rattle.wire.specs.Wire.{be_nat, to_be}
use Rattle.record.specs.Record.{no_area, timer_off}
use Rattle.record.specs.declared.Area.{Area}
use Rattle.record.specs.declared.Areas.{Areas}
use Rattle.change.specs.declared.Change.TheVariants.{SetMask, SetDeadman, SetAreas, SetTimer}
use Rattle.formed.specs.Formed.{multiple_of128, in_memory}
use Rattle.sbe.specs.declared.Refusal.{Refusal}
use Rattle.sbe.specs.declared.Refusal.TheVariants.{ClassNotSupported, CommandNotSupported, InvalidAddress, InvalidTarget, InvalidChiplet, BufferOverflow, InvalidParameters, AccessDenied}
use Rattle.sbe.specs.declared.Ruling.{Ruling}
use Rattle.sbe.specs.declared.Ruling.TheVariants.{Decline, Grant, Done, Read}

-- primary and secondary status of each refusal
abbrev pub numbers_of : Refusal → ℕ × ℕ
numbers_of ClassNotSupported = (0x01, 0x01)
numbers_of CommandNotSupported = (0x01, 0x02)
numbers_of InvalidAddress = (0x02, 0x03)
numbers_of InvalidTarget = (0x02, 0x04)
numbers_of InvalidChiplet = (0x02, 0x05)
numbers_of BufferOverflow = (0x02, 0x18)
numbers_of InvalidParameters = (0x02, 0x19)
numbers_of AccessDenied = (0x05, 0x20)

-- nothing to refuse, or a refusal
abbrev pub Tested : Type 0
Tested = Result (Unit {0}) Refusal

-- ---- "Request: 2 reserved, flags, sequence (2 bytes each), class, command, then data": registers of 8 bytes

unfoldable pub flags_of : List ℕ → ℕ
flags_of r = be_nat (take 2 (drop 2 r))

unfoldable pub word_at : ℕ → List ℕ → ℕ
word_at at r = be_nat (take 4 (drop at r))

unfoldable pub register_at : ℕ → List ℕ → ℕ
register_at at r = be_nat (take 8 (drop at r))

-- no flag but 0x0100 and 0x0200
unfoldable pub plain_flags : ℕ → Bool
plain_flags flags = cond (leb 0x0400 flags) false (eqb (flags % 0x0100) 0)

-- ---- "exactly one of flags 0x0001 .. and 0x0002 .., else 02/19", beside 0x0100 and 0x0200

unfoldable pub start_or_stop : ℕ → Ruling → Ruling → Ruling
start_or_stop flags start stop =
    cond (leb 0x0400 flags) (Decline InvalidParameters)
    (cond (eqb (flags % 0x0100) 0x01) start
    (cond (eqb (flags % 0x0100) 0x02) stop
    (Decline InvalidParameters)))

-- ---- "D1 01: exactly one of flags 0x0001 (start, time in register 1) and 0x0002 (stop, time becomes 0), else 02/19"

unfoldable pub deadman_of : List ℕ → Ruling
deadman_of r =
    start_or_stop (flags_of r) (Grant (SetDeadman (record { running = 1; time = register_at 8 r })))
    (Grant (SetDeadman (record { running = 0; time = 0 })))

-- ---- "exit cache-contained mode (D1 02)", section 3.2 of source document 003; "no journal entry"

unfoldable pub exit_of : List ℕ → Ruling
exit_of r = cond (not (plain_flags (flags_of r))) (Decline InvalidParameters) Done

-- ---- "D1 03: register 1's first four bytes become the mask"

unfoldable pub cores_of : List ℕ → Ruling
cores_of r = cond (not (plain_flags (flags_of r))) (Decline InvalidParameters) (Grant (SetMask (word_at 8 r)))

-- ---- "put ring (D3 01)", section 4.1: target type in bytes 8 and 9, chiplet in byte 11; "ring id and mode are taken as sent"

unfoldable pub target_of : List ℕ → ℕ
target_of r = be_nat (take 2 (drop 8 r))

unfoldable pub chiplet_of : List ℕ → ℕ
chiplet_of r = get_or r 11 0

-- "the chiplets in section 1.1.6's table (any for type 0)": from the first number to the second
unfoldable pub chiplet_ranges : ℕ → List (ℕ × ℕ)
chiplet_ranges target =
    cond (eqb target 0) ((0x00, 0xFF) ∷ [])
    (cond (eqb target 1) ((0x01, 0x01) ∷ (0x02, 0x03) ∷ (0x08, 0x09) ∷ (0x0C, 0x0F) ∷ (0x10, 0x14) ∷ (0x18, 0x1F) ∷ (0x20, 0x27) ∷ [])
    (cond (eqb target 2) ((0xFF, 0xFF) ∷ [])
    (cond (eqb target 3) ((0xFF, 0xFF) ∷ [])
    (cond (eqb target 4) ((0x00, 0x0F) ∷ []) []))))

unfoldable pub within : ℕ × ℕ → ℕ → Bool
within range n = cond (leb range.0 n) (leb n range.1) false

unfoldable pub in_ranges : List (ℕ × ℕ) → ℕ → Bool
in_ranges [] n = false
in_ranges (range ∷ rest) n = cond (within range n) true (in_ranges rest n)

unfoldable pub chiplet_known : ℕ → ℕ → Bool
chiplet_known target chiplet = in_ranges (chiplet_ranges target) chiplet

-- "02/04 wrong type, 02/05 wrong chiplet"
unfoldable pub ring_at : ℕ → ℕ → Ruling
ring_at target chiplet = cond (ltb 4 target) (Decline InvalidTarget) (cond (not (chiplet_known target chiplet)) (Decline InvalidChiplet) Done)

unfoldable pub ring_of : List ℕ → Ruling
ring_of r = cond (not (plain_flags (flags_of r))) (Decline InvalidParameters) (ring_at (target_of r) (chiplet_of r))

-- ---- "control timer (D4 01)", section 5.1: start with the microseconds in register 1's last four bytes, or stop; "exactly one flag as for D1 01"

unfoldable pub timer_of : List ℕ → Ruling
timer_of r = start_or_stop (flags_of r) (Grant (SetTimer (record { running = 1; left = word_at 12 r }))) (Grant (SetTimer timer_off))

-- ---- "read SEEPROM (D7 03)", section 8.2: offset and size in register 1, judged where the lent image is known

unfoldable pub seeprom_of : List ℕ → Ruling
seeprom_of r = cond (not (plain_flags (flags_of r))) (Decline InvalidParameters) (Read (word_at 8 r) (word_at 12 r))

-- ---- "D7 04: sizes in register 1, addresses in 2 and 3"

-- "address not a multiple of 128, or address + size over 2^64: 02/03; size not a multiple of 128: 02/19"
unfoldable pub area_status : ℕ → ℕ → Tested
area_status address size =
    cond (eqb size 0) (Ok tt)
    (cond (not (multiple_of128 address)) (Err InvalidAddress)
    (cond (not (in_memory address size)) (Err InvalidAddress)
    (cond (not (multiple_of128 size)) (Err InvalidParameters) (Ok tt))))

unfoldable pub if_fine : Tested → Result Areas Refusal → Result Areas Refusal
if_fine (Err why) areas = Err why
if_fine (Ok x) areas = areas

-- "Size 0 makes that area's address and size 0"
unfoldable pub area_of : ℕ → ℕ → Area
area_of address size = cond (eqb size 0) no_area (record { address = address; size = size })

-- "FFDC area first, address before size"
unfoldable pub areas_read : List ℕ → Result Areas Refusal
areas_read r =
    if_fine (area_status (register_at 16 r) (word_at 8 r)) (if_fine (area_status (register_at 24 r) (word_at 12 r))
    (Ok (record { ffdc = area_of (register_at 16 r) (word_at 8 r); pass = area_of (register_at 24 r) (word_at 12 r) })))

unfoldable pub areas_judged : Result Areas Refusal → Ruling
areas_judged (Err why) = Decline why
areas_judged (Ok areas) = Grant (SetAreas areas)

unfoldable pub areas_of : List ℕ → Ruling
areas_of r =
    cond (not (plain_flags (flags_of r))) (Decline InvalidParameters)
    (areas_judged (areas_read r))

-- ---- "In order: class not D1, D3 to D7: 01/01; other command: 01/02"

unfoldable pub core_state : ℕ → List ℕ → Ruling
core_state command r =
    cond (eqb command 0x01) (deadman_of r)
    (cond (eqb command 0x02) (exit_of r)
    (cond (eqb command 0x03) (cores_of r)
    (Decline CommandNotSupported)))

unfoldable pub ring_class : ℕ → List ℕ → Ruling
ring_class command r = cond (eqb command 0x01) (ring_of r) (Decline CommandNotSupported)

unfoldable pub timer_class : ℕ → List ℕ → Ruling
timer_class command r = cond (eqb command 0x01) (timer_of r) (Decline CommandNotSupported)

unfoldable pub general : ℕ → List ℕ → Ruling
general command r =
    cond (eqb command 0x03) (seeprom_of r)
    (cond (eqb command 0x04) (areas_of r)
    (Decline CommandNotSupported))

unfoldable pub request_for : ℕ → ℕ → List ℕ → Ruling
request_for class command r =
    cond (eqb class 0xD1) (core_state command r)
    (cond (ltb class 0xD3) (Decline ClassNotSupported)
    (cond (ltb 0xD7 class) (Decline ClassNotSupported)
    (cond (eqb class 0xD3) (ring_class command r)
    (cond (eqb class 0xD4) (timer_class command r)
    (cond (eqb class 0xD7) (general command r)
    (Decline CommandNotSupported))))))

unfoldable pub request_ruling : List ℕ → Ruling
request_ruling r = request_for (get_or r 6 0) (get_or r 7 0) r

-- ---- "Flag 0x0100 asks for doorbell bit 0 (response), 0x0200 for bit 1 (acknowledge), refused or not": bit 0 is 0x8000, bit 1 0x4000

unfoldable pub bell_of : List ℕ → ℕ
bell_of r = flags_of r / 0x0100 % 2 * 0x8000 + flags_of r / 0x0200 % 2 * 0x4000

-- ---- "Response: primary, secondary, sequence, class, command, 24 zero bytes"

unfoldable pub response_bytes : ℕ → ℕ → List ℕ → List ℕ
response_bytes primary secondary r = to_be 2 primary ++ (to_be 2 secondary ++ (take 4 (drop 4 r) ++ replicate 24 0))
