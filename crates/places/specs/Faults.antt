-- Document 02, c: ALL faults of a command's data: "the first data byte that is wrong by itself, or where a repeated pair or FRU is seen the
-- second time, or where two fields clash the later one. Numbers start at 1, a wide field counts as its first byte". d is the data.
use Rattle.std.specs.Prelude.{ℕ, ◌+◌, ◌*◌, ◌<◌, ◌≤◌, ◌≡◌, List, ◌⊎◌, length, get_or, take}
use Rattle.wire.specs.Wire.{be_nat}
use Rattle.wire.specs.Conditions.{◌and◌, none, Rows}
use Rattle.record.specs.declared.Log.{Log}
use Rattle.record.specs.declared.Caps.{Caps}
use Rattle.record.specs.declared.Record.{Record}
use Rattle.occ.specs.Commands.{sent_caps}
use Rattle.occ.specs.Conditions.{Pends}
use Rattle.places.specs.declared.Reason.{Reason}
use Rattle.places.specs.declared.Reason.TheVariants.{BadVersion, BadCount, OutOfRange, Repeated, Clash, NotPending}
use Rattle.places.specs.declared.Fault.{Fault}
use Rattle.std.specs.Prelude.{Option, Some, None}
use Rattle.places.specs.Reasons.{named}

-- faults of a kind: those that it holds of
abbrev pub Faults : Type 1
Faults = Fault → Type 0

-- a byte is wrong for a reason, if P
abbrev pub byte : ℕ → Reason → Type 0 → Faults
byte at reason P x = (x ≡ record { reason = reason; at = at }) and P

infixr 1 ◌or◌
abbrev pub ◌or◌ : Faults → Faults → Faults
(F or G) x = F x ⊎ G x

-- those of each of the first n sets
abbrev pub each_of : ℕ → (ℕ → Faults) → Faults
each_of n F x = (i : ℕ) × (i < n) × F i x

-- a byte is judged only where the length is right
abbrev pub of_length : Type 0 → Faults → Faults
of_length right F = Rows right F none

-- ---- each command

unfoldable pub PollFaults : List ℕ → Faults
PollFaults d = byte 1 BadVersion (get_or d 0 0 ≡ 0x10 → ⊥)

-- "not pending", 0 too
unfoldable pub ClearFaults : List Log → List ℕ → Faults
ClearFaults logs d = byte 1 NotPending (Pends (get_or d 0 0) logs → ⊥)

unfoldable pub StateFaults : List ℕ → Faults
StateFaults d =
    byte 1 BadVersion (get_or d 0 0 ≡ 0 → ⊥)
    or byte 2 OutOfRange (get_or d 1 0 < 1)
    or byte 2 OutOfRange (3 < get_or d 1 0)
    or byte 3 OutOfRange (get_or d 2 0 ≡ 0 → ⊥)

unfoldable pub RoleFaults : List ℕ → Faults
RoleFaults d = byte 2 OutOfRange (1 < get_or d 1 0)

unfoldable pub CapsFaults : List ℕ → Faults
CapsFaults d = byte 2 BadVersion (get_or d 1 0 ≡ 0x10 → ⊥) or byte 5 Clash ((sent_caps d).max < (sent_caps d).min)

-- hub and MBA; a set of twelve bytes
unfoldable pub ThrottleFaults : List ℕ → ℕ → Faults
ThrottleFaults d i =
    byte (4 + i * 12) OutOfRange (7 < get_or d (3 + i * 12) 0)
    or byte (4 + i * 12) Repeated
    ((k : ℕ) × (k < i) × ((get_or d (3 + k * 12) 0 ≡ get_or d (3 + i * 12) 0) and (get_or d (4 + k * 12) 0 ≡ get_or d (4 + i * 12) 0)))
    or byte (5 + i * 12) OutOfRange (1 < get_or d (4 + i * 12) 0)

-- FRU, DVFS and ERROR, of which "neither is 0xFF"; a set of four bytes
unfoldable pub ThermalFaults : List ℕ → ℕ → Faults
ThermalFaults d i =
    byte (4 + i * 4) OutOfRange (2 < get_or d (3 + i * 4) 0)
    or byte (4 + i * 4) Repeated ((k : ℕ) × (k < i) × (get_or d (3 + k * 4) 0 ≡ get_or d (3 + i * 4) 0))
    or byte (6 + i * 4) Clash
    ((get_or d (4 + i * 4) 0 ≡ 0xFF → ⊥) and (get_or d (5 + i * 4) 0 ≡ 0xFF → ⊥) and (get_or d (5 + i * 4) 0 < get_or d (4 + i * 4) 0))

-- the count is the third byte
unfoldable pub SetsFaults : (ℕ → Faults) → List ℕ → Faults
SetsFaults F d =
    byte 2 BadVersion (get_or d 1 0 ≡ 0x10 → ⊥) or byte 3 BadCount (get_or d 2 0 ≡ 0) or each_of (get_or d 2 0) F

-- "An unknown format .. is out of range"
unfoldable pub ConfigureFaults : List ℕ → Faults
ConfigureFaults d =
    Rows (get_or d 0 0 ≡ 0x03) (of_length (length d ≡ 2) (RoleFaults d))
    (Rows (get_or d 0 0 ≡ 0x07) (of_length (length d ≡ 8) (CapsFaults d))
    (Rows (get_or d 0 0 ≡ 0x12) (of_length (length d ≡ 3 + get_or d 2 0 * 12) (SetsFaults (ThrottleFaults d) d))
    (Rows (get_or d 0 0 ≡ 0x13) (of_length (length d ≡ 3 + get_or d 2 0 * 4) (SetsFaults (ThermalFaults d) d))
    (byte 1 OutOfRange Unit))))

-- "a user cap that isn't allowed is out of range"
unfoldable pub UserFaults : ℕ → Caps → List ℕ → Faults
UserFaults got caps d =
    byte 1 OutOfRange
    ((be_nat (take 2 d) ≡ 0) ⊎ ((got ≡ 0 → ⊥) and (caps.min ≤ be_nat (take 2 d)) and (be_nat (take 2 d) ≤ caps.max)) → ⊥)

unfoldable pub ResetFaults : List ℕ → Faults
ResetFaults d = byte 1 BadVersion (get_or d 0 0 ≡ 0 → ⊥) or byte 2 OutOfRange (2 < get_or d 1 0)

unfoldable pub CommandFaults : Record → ℕ → List ℕ → Faults
CommandFaults r kind d =
    Rows (kind ≡ 0x00) (of_length (length d ≡ 1) (PollFaults d))
    (Rows (kind ≡ 0x12) (of_length (length d ≡ 1) (ClearFaults r.logs d))
    (Rows (kind ≡ 0x20) (of_length (length d ≡ 3) (StateFaults d))
    (Rows (kind ≡ 0x21) (of_length (1 ≤ length d) (ConfigureFaults d))
    (Rows (kind ≡ 0x22) (of_length (length d ≡ 2) (UserFaults r.received.caps r.caps d))
    (Rows (kind ≡ 0x25) (of_length (length d ≡ 2) (ResetFaults d))
    none)))))

-- ---- "the least number wins"; the six reasons "in that order where two hold at one byte"

unfoldable pub NotAfter : Fault → Fault → Type 0
NotAfter x y = (x.at < y.at) ⊎ ((x.at ≡ y.at) and ((named x.reason).number ≤ (named y.reason).number))

-- what is found of some faults: nothing where there are none, or the least of them
pub data Least (F : Faults) : Option Fault → Type 0 where
  no_fault : ((x : Fault) → F x → ⊥) → Least F None
  least : (x : Fault) → F x → ((y : Fault) → F y → NotAfter x y) → Least F (Some x)
