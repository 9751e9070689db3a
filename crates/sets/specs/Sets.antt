-- Document 01, "OCC packets": the sets of formats 0x12 and 0x13, read one after the other.
use Rattle.std.specs.Prelude.{ℕ, zero, suc, ◌+◌, ◌*◌, ◌/◌, ◌%◌, ◌^◌, cond, not, Option, Some, None, List, get_or, take, drop, ltb, eqb}
use Rattle.std.specs.Option.{option_and_then, option_map}
use Rattle.wire.specs.Wire.{pasted}
use Rattle.record.specs.declared.Throttles.{Throttles}
use Rattle.record.specs.Record.{no_throttles, no_thermal}
use Rattle.formed.specs.Formed.{in_order}
use Rattle.sets.specs.declared.Frus.{Frus}

-- a number's bit, the lowest being 0
unfoldable pub bit_of : ℕ → ℕ → ℕ
bit_of n i = n / 2 ^ i % 2

-- ---- n sets of w bytes, one after the other

-- `one` puts a set into what is held so far, or refuses it; where one is refused, all are
abbrev pub one_more : {A : Type 0} → (A → List ℕ → Option A) → Option A → List ℕ → Option A
one_more one t s = option_and_then (λ x. one x s) t

unfoldable pub read_of : {A : Type 0} → (A → List ℕ → Option A) → ℕ → ℕ → Option A → List ℕ → Option A
read_of one w zero t l = t
read_of one w (suc n) t l = read_of one w n (one_more one t (take w l)) (drop w l)

-- ---- "0x21, 0x12: hub 0 to 7, MBA 0 or 1, no pair twice. Replaces the whole table; pairs not sent become absent and zero"

-- "a present pair adds 2^(2×hub+MBA)"; its ten bytes stand as sent
unfoldable pub with_pair : Throttles → ℕ → List ℕ → Throttles
with_pair t pair v = record { present = t.present + 2 ^ pair; sets = pasted (pair * 10) v t.sets }

-- twelve bytes: hub, MBA, five numbers
unfoldable pub one_set : Throttles → List ℕ → Option Throttles
one_set t s =
    cond (ltb 7 (get_or s 0 0)) None
    (cond (ltb 1 (get_or s 1 0)) None
    (cond (not (eqb (bit_of t.present (get_or s 0 0 * 2 + get_or s 1 0)) 0)) None
    (Some (with_pair t (get_or s 0 0 * 2 + get_or s 1 0) (take 10 (drop 2 s))))))

unfoldable pub throttles_of : ℕ → List ℕ → Option Throttles
throttles_of n l = read_of one_set 12 n (Some no_throttles) l

-- ---- "0x21, 0x13: FRU 0 to 2, none twice, DVFS at most ERROR (H). FRU types not sent become 0xFF, 0xFF, 0xFF"; document 02, b: "where neither is 0xFF"

abbrev pub empty_frus : Frus
empty_frus = record { seen = 0; bytes = no_thermal }

unfoldable pub with_fru : Frus → ℕ → List ℕ → Frus
with_fru t fru v = record { seen = t.seen + 2 ^ fru; bytes = pasted (fru * 3) v t.bytes }

-- four bytes: FRU, DVFS, ERROR, timeout
unfoldable pub one_fru : Frus → List ℕ → Option Frus
one_fru t s =
    cond (ltb 2 (get_or s 0 0)) None
    (cond (not (in_order (get_or s 1 0) (get_or s 2 0))) None
    (cond (not (eqb (bit_of t.seen (get_or s 0 0)) 0)) None
    (Some (with_fru t (get_or s 0 0) (take 3 (drop 1 s))))))

unfoldable pub thermal_of : ℕ → List ℕ → Option (List ℕ)
thermal_of n l = option_map (λ (t : Frus). t.bytes) (read_of one_fru 4 n (Some empty_frus) l)
