-- Document 01, "SBE mailbox", and document 02, h: the conditions under which a request is accepted. r is the request.
use Rattle.std.specs.Prelude.{ℕ, ◌+◌, ◌%◌, ◌^◌, ◌<◌, ◌≤◌, Bool, true, false, ◌⊎◌, ◌≡◌, List, get_or}
use Rattle.record.specs.declared.Areas.{Areas}
use Rattle.record.specs.declared.Deadman.{Deadman}
use Rattle.record.specs.declared.Timer.{Timer}
use Rattle.record.specs.Record.{timer_off}
use Rattle.sbe.specs.declared.Ruling.{Ruling}
use Rattle.sbe.specs.declared.Ruling.TheVariants.{Decline, Grant, Done, Read}
use Rattle.sbe.specs.Mailbox.{flags_of, word_at, register_at, target_of, chiplet_of, area_of}

-- a change is to be made
unfoldable pub grants : Ruling → Bool
grants (Decline why) = false
grants (Grant change) = true
grants Done = false
grants (Read offset size) = false

-- a change is to be made, or nothing but the response; what is to be read is judged further in the call
unfoldable pub accepts : Ruling → Bool
accepts (Decline why) = false
accepts (Grant change) = true
accepts Done = true
accepts (Read offset size) = false

-- no flag but 0x0100 and 0x0200
abbrev pub Plain : ℕ → Type 0
Plain flags = (flags < 0x0400) × (flags % 0x0100 ≡ 0)

-- those flags and exactly one of 0x0001 and 0x0002
abbrev pub StartOrStop : ℕ → Type 0
StartOrStop flags = (flags < 0x0400) × ((flags % 0x0100 ≡ 0x01) ⊎ (flags % 0x0100 ≡ 0x02))

-- "address not a multiple of 128, or address + size over 2^64", "size not a multiple of 128": none of these, or size 0
abbrev pub AreaFine : ℕ → ℕ → Type 0
AreaFine address size = (size ≡ 0) ⊎ ((address % 128 ≡ 0) × (address + size ≤ 2 ^ 64) × (size % 128 ≡ 0))

-- "the chiplets in section 1.1.6's table (any for type 0)"
abbrev pub Within : ℕ → ℕ → ℕ → Type 0
Within low high n = (low ≤ n) × (n ≤ high)

abbrev pub PervasiveNamed : ℕ → Type 0
PervasiveNamed chiplet =
    Within 0x01 0x01 chiplet
    ⊎ (Within 0x02 0x03 chiplet
    ⊎ (Within 0x08 0x09 chiplet
    ⊎ (Within 0x0C 0x0F chiplet
    ⊎ (Within 0x10 0x14 chiplet
    ⊎ (Within 0x18 0x1F chiplet
    ⊎ Within 0x20 0x27 chiplet)))))

abbrev pub ChipletNamed : ℕ → ℕ → Type 0
ChipletNamed target chiplet =
    ((target ≡ 0) × Within 0x00 0xFF chiplet)
    ⊎ (((target ≡ 1) × PervasiveNamed chiplet)
    ⊎ (((target ≡ 2) × Within 0xFF 0xFF chiplet)
    ⊎ (((target ≡ 3) × Within 0xFF 0xFF chiplet)
    ⊎ ((target ≡ 4) × Within 0x00 0x0F chiplet))))

-- the class and the command of a request
abbrev pub Names : ℕ → ℕ → List ℕ → Type 0
Names class command r = (get_or r 6 0 ≡ class) × (get_or r 7 0 ≡ command)

-- D1 01, D1 02, D1 03, D3 01, D4 01, D7 03 and D7 04
abbrev pub DeadmanAsked : List ℕ → Type 0
DeadmanAsked r = Names 0xD1 0x01 r × StartOrStop (flags_of r)

abbrev pub ExitAsked : List ℕ → Type 0
ExitAsked r = Names 0xD1 0x02 r × Plain (flags_of r)

abbrev pub CoresAsked : List ℕ → Type 0
CoresAsked r = Names 0xD1 0x03 r × Plain (flags_of r)

pub record RingAsked (r : List ℕ) : Type 0 where
  pub names : Names 0xD3 0x01 r
  pub flags : Plain (flags_of r)
  pub target : target_of r ≤ 4
  pub chiplet : ChipletNamed (target_of r) (chiplet_of r)

abbrev pub TimerAsked : List ℕ → Type 0
TimerAsked r = Names 0xD4 0x01 r × StartOrStop (flags_of r)

abbrev pub ReadAsked : List ℕ → Type 0
ReadAsked r = Names 0xD7 0x03 r × Plain (flags_of r)

pub record AreasAsked (r : List ℕ) : Type 0 where
  pub names : Names 0xD7 0x04 r
  pub flags : Plain (flags_of r)
  pub ffdc : AreaFine (register_at 16 r) (word_at 8 r)
  pub pass : AreaFine (register_at 24 r) (word_at 12 r)

-- requests that make a change, and those that get the response and "make no journal entry"; D7 03 is accepted or not in the call
abbrev pub Changes : List ℕ → Type 0
Changes r = DeadmanAsked r ⊎ (CoresAsked r ⊎ (TimerAsked r ⊎ AreasAsked r))

abbrev pub Plainly : List ℕ → Type 0
Plainly r = ExitAsked r ⊎ RingAsked r

abbrev pub start_asked : List ℕ → Deadman
start_asked r = record { running = 1; time = register_at 8 r }

abbrev pub stop_asked : Deadman
stop_asked = record { running = 0; time = 0 }

abbrev pub timer_start : List ℕ → Timer
timer_start r = record { running = 1; left = word_at 12 r }

abbrev pub timer_stop : Timer
timer_stop = timer_off

abbrev pub areas_asked : List ℕ → Areas
areas_asked r = record { ffdc = area_of (register_at 16 r) (word_at 8 r); pass = area_of (register_at 24 r) (word_at 12 r) }
