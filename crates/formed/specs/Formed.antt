-- Document 01, "A session is well formed if": each rule of a record by itself, and the record's above them.
use Rattle.std.specs.Prelude.{ℕ, zero, suc, ◌+◌, ◌/◌, ◌%◌, ◌^◌, ◌≤◌, Bool, true, false, cond, not, List, [], ◌∷◌, ◌≡◌, get_or, take, drop, ltb, leb, eqb}
use Rattle.wire.specs.Wire.{all_are}
use Rattle.record.specs.declared.Log.{Log}
use Rattle.record.specs.declared.Caps.{Caps}
use Rattle.record.specs.declared.Area.{Area}
use Rattle.record.specs.declared.Areas.{Areas}
use Rattle.record.specs.declared.Deadman.{Deadman}
use Rattle.record.specs.declared.Throttles.{Throttles}
use Rattle.record.specs.declared.Timer.{Timer}
use Rattle.record.specs.declared.Record.{Record}
use Rattle.change.specs.declared.Tables.{Tables}
use Rattle.change.specs.declared.Edit.{Edit}
use Rattle.change.specs.declared.Change.{Change}
use Rattle.change.specs.declared.Change.TheVariants.{Clear, Unclear, SetState, SetRole, SetCaps, SetUser, SetThermal, SetThrottles, Reset, Unreset, SetMask, SetDeadman, SetAreas, SetTimer}

-- ---- "fields are in range (what isn't received is as fresh; ..)"

unfoldable pub state_ok : ℕ → Bool
state_ok state = cond (ltb state 1) false (leb state 3)

-- flags 0 or 1
unfoldable pub flag_ok : ℕ → Bool
flag_ok flag = leb flag 1

unfoldable pub role_ok : ℕ → ℕ → Bool
role_ok got role = cond (not (flag_ok got)) false (cond (eqb got 0) (eqb role 0) (leb role 1))

-- minimum ≤ maximum
unfoldable pub caps_ok : ℕ → Caps → Bool
caps_ok got caps =
    cond (not (flag_ok got)) false
    (cond (not (eqb got 0)) (leb caps.min caps.max)
    (cond (not (eqb caps.min 0)) false
    (cond (not (eqb caps.max 0)) false
    (eqb caps.over 0))))

-- what is off has time 0
unfoldable pub clock_ok : ℕ → ℕ → Bool
clock_ok running time = cond (not (flag_ok running)) false (cond (not (eqb running 0)) true (eqb time 0))

-- deadman off has time 0
unfoldable pub deadman_ok : Deadman → Bool
deadman_ok deadman = clock_ok deadman.running deadman.time

-- document 02, h, outside the record: "off means 0 left"
unfoldable pub timer_ok : Timer → Bool
timer_ok timer = clock_ok timer.running timer.left

-- an absent pair is zero: a pair's bit, and its ten bytes
unfoldable pub pair_ok : ℕ → List ℕ → Bool
pair_ok bit set = cond (eqb bit 1) true (all_are 0 set)

-- n pairs, the first one's bit the lowest
unfoldable pub pairs_ok : ℕ → ℕ → List ℕ → Bool
pairs_ok zero present sets = true
pairs_ok (suc n) present sets =
    cond (not (pair_ok (present % 2) (take 10 sets))) false (pairs_ok n (present / 2) (drop 10 sets))

unfoldable pub absent_zero : ℕ → List ℕ → Bool
absent_zero present sets = pairs_ok 16 present sets

unfoldable pub throttles_ok : ℕ → Throttles → Bool
throttles_ok got t =
    cond (not (flag_ok got)) false
    (cond (not (eqb got 0)) (absent_zero t.present t.sets)
    (cond (not (eqb t.present 0)) false (all_are 0 t.sets)))

-- D7 04's tests: a multiple of 128; address + size not over 2^64
unfoldable pub multiple_of128 : ℕ → Bool
multiple_of128 n = eqb (n % 128) 0

unfoldable pub in_memory : ℕ → ℕ → Bool
in_memory address size = leb (address + size) (2 ^ 64)

-- an area is all zero, or its size isn't 0 and it passes D7 04's tests
unfoldable pub area_ok : Area → Bool
area_ok area =
    cond (eqb area.size 0) (eqb area.address 0)
    (cond (not (multiple_of128 area.address)) false
    (cond (not (in_memory area.address area.size)) false
    (multiple_of128 area.size)))

unfoldable pub areas_ok : Areas → Bool
areas_ok areas = cond (not (area_ok areas.ffdc)) false (area_ok areas.pass)

unfoldable pub fields_ok : Record → Bool
fields_ok r =
    cond (not (state_ok r.state)) false
    (cond (not (role_ok r.received.role r.role)) false
    (cond (not (caps_ok r.received.caps r.caps)) false
    (cond (not (deadman_ok r.deadman)) false
    (cond (not (throttles_ok r.received.throttles r.throttles)) false
    (areas_ok r.areas)))))

-- ---- "thresholds obey the thermal rule"

-- two thresholds: "DVFS at most ERROR where neither is 0xFF" (document 02, b); section 2.4.9 has 0xFF as not defined. Document 01 compared it as a number
unfoldable pub in_order : ℕ → ℕ → Bool
in_order dvfs error = cond (eqb dvfs 0xFF) true (cond (eqb error 0xFF) true (leb dvfs error))

-- the same in plain words
abbrev pub InOrder : ℕ → ℕ → Type 0
InOrder dvfs error = (dvfs ≡ 0xFF → ⊥) → (error ≡ 0xFF → ⊥) → dvfs ≤ error

-- document 01's first rule, "DVFS at most ERROR (H)": sessions saved by the base version are judged by it (document 02, m)
unfoldable pub in_order_first : ℕ → ℕ → Bool
in_order_first dvfs error = leb dvfs error

-- the first two of each FRU type's three bytes
unfoldable pub thermal_rule : List ℕ → Bool
thermal_rule t =
    cond (not (in_order (get_or t 0 0) (get_or t 1 0))) false
    (cond (not (in_order (get_or t 3 0) (get_or t 4 0))) false
    (in_order (get_or t 6 0) (get_or t 7 0)))

unfoldable pub thermal_ok : ℕ → List ℕ → Bool
thermal_ok got t = cond (not (flag_ok got)) false (cond (not (eqb got 0)) (thermal_rule t) (all_are 0xFF t))

-- ---- "pending logs (at most 4) have strictly rising ids, each 1 or more and below the next id (1 to 256), with reason 1 or 2, unused places zero"

unfoldable pub next_ok : ℕ → Bool
next_ok next = cond (ltb next 1) false (leb next 256)

unfoldable pub reason_ok : ℕ → Bool
reason_ok reason = cond (eqb reason 1) true (eqb reason 2)

unfoldable pub unused : List Log → Bool
unused [] = true
unused (x ∷ l) = cond (not (eqb x.id 0)) false (cond (not (eqb x.reason 0)) false (unused l))

-- a pending log, above the id low
unfoldable pub log_ok : ℕ → ℕ → Log → Bool
log_ok low next x = cond (leb x.id low) false (cond (leb next x.id) false (reason_ok x.reason))

unfoldable pub logs_above : ℕ → ℕ → List Log → Bool
logs_above low next [] = true
logs_above low next (x ∷ l) =
    cond (eqb x.id 0) (unused (x ∷ l)) (cond (not (log_ok low next x)) false (logs_above x.id next l))

unfoldable pub logs_ok : ℕ → List Log → Bool
logs_ok next l = logs_above 0 next l

-- ---- a record that a session with this next id may hold

unfoldable pub record_ok : Record → ℕ → Bool
record_ok r next =
    cond (not (fields_ok r)) false
    (cond (not (thermal_ok r.received.thermal r.thermal)) false
    (cond (not (next_ok next)) false
    (logs_ok next r.logs)))

-- ---- "each body's values ones that a well-formed record could hold (place 0 to 3, id 1 to 255, flags 0 or 1)"

unfoldable pub cleared_ok : ℕ → Log → Bool
cleared_ok place log = cond (ltb 3 place) false (cond (eqb log.id 0) false (reason_ok log.reason))

-- a log that a reset made, or none
unfoldable pub made_ok : Log → Bool
made_ok log = cond (eqb log.id 0) (eqb log.reason 0) (reason_ok log.reason)

unfoldable pub unreset_ok : ℕ → ℕ → Bool
unreset_ok state made = cond (not (state_ok state)) false (flag_ok made)

unfoldable pub change_ok : Tables → Change → Bool
change_ok t (Clear place log) = cleared_ok place log
change_ok t (Unclear place log) = cleared_ok place log
change_ok t (SetState state) = state_ok state
change_ok t (SetRole got role) = role_ok got role
change_ok t (SetCaps got caps) = caps_ok got caps
change_ok t (SetUser user) = true
change_ok t (SetThermal got) = thermal_ok got t.thermal
change_ok t (SetThrottles got) = throttles_ok got t.throttles
change_ok t (Reset log) = made_ok log
change_ok t (Unreset state made) = unreset_ok state made
change_ok t (SetMask mask) = true
change_ok t (SetDeadman deadman) = deadman_ok deadman
change_ok t (SetAreas areas) = areas_ok areas
change_ok t (SetTimer timer) = timer_ok timer

unfoldable pub edit_ok : Edit → Bool
edit_ok e = change_ok e.tables e.change
