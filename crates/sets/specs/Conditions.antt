-- Document 01, formats 0x12 and 0x13: the conditions on the sets that follow the count, and the tables that they give.
use Rattle.std.specs.Prelude.{ℕ, zero, suc, ◌+◌, ◌*◌, ◌^◌, ◌<◌, ◌≤◌, ◌≡◌, List, length, get_or, take, drop, replicate}
use Rattle.wire.specs.Conditions.{◌and◌}
use Rattle.record.specs.declared.Throttles.{Throttles}
use Rattle.formed.specs.Formed.{InOrder}
use Rattle.sets.specs.Sets.{bit_of}

-- the i-th part of w bytes
unfoldable pub set_at : ℕ → ℕ → List ℕ → List ℕ
set_at w zero l = take w l
set_at w (suc i) l = set_at w i (drop w l)

-- each of the first n parts has the property
abbrev pub Each : ℕ → (List ℕ → Type 0) → ℕ → List ℕ → Type 0
Each w P n l = (i : ℕ) → i < n → P (set_at w i l)

-- no two of them have the same number
abbrev pub NoneTwice : ℕ → (List ℕ → ℕ) → ℕ → List ℕ → Type 0
NoneTwice w number n l = (i j : ℕ) → i < j → j < n → number (set_at w i l) ≡ number (set_at w j l) → ⊥

-- "hub 0 to 7, MBA 0 or 1, no pair twice": twelve bytes a set, hub and MBA first
abbrev pub InPairs : List ℕ → Type 0
InPairs s = (get_or s 0 0 ≤ 7) and (get_or s 1 0 ≤ 1)

abbrev pub pair_of : List ℕ → ℕ
pair_of s = get_or s 0 0 * 2 + get_or s 1 0

unfoldable pub SetsOk : ℕ → List ℕ → Type 0
SetsOk n l = Each 12 InPairs n l and NoneTwice 12 pair_of n l

-- a pair of the table: its bit, and its ten bytes
abbrev pub PairIs : Throttles → ℕ → ℕ → List ℕ → Type 0
PairIs t pair bit v = (bit_of t.present pair ≡ bit) and (set_at 10 pair t.sets ≡ v)

-- "Replaces the whole table; pairs not sent become absent and zero": a pair that was sent is present with its ten bytes as sent
pub record SentPairs (n : ℕ) (l : List ℕ) (t : Throttles) : Type 0 where
  pub sent : (i : ℕ) → i < n → PairIs t (pair_of (set_at 12 i l)) 1 (drop 2 (set_at 12 i l))
  pub others : (pair : ℕ) → pair < 16 → ((i : ℕ) → i < n → pair_of (set_at 12 i l) ≡ pair → ⊥) → PairIs t pair 0 (replicate 10 0)
  pub pairs : t.present < 2 ^ 16
  pub long : length t.sets ≡ 160

-- "FRU 0 to 2, none twice, DVFS at most ERROR (H)", since document 02, b "where neither is 0xFF": four bytes a set, FRU, DVFS and ERROR first
abbrev pub InFrus : List ℕ → Type 0
InFrus s = (get_or s 0 0 ≤ 2) and InOrder (get_or s 1 0) (get_or s 2 0)

abbrev pub fru_of : List ℕ → ℕ
fru_of s = get_or s 0 0

unfoldable pub FrusOk : ℕ → List ℕ → Type 0
FrusOk n l = Each 4 InFrus n l and NoneTwice 4 fru_of n l

-- "FRU types not sent become 0xFF, 0xFF, 0xFF": one that was sent has its three bytes as sent
pub record SentFrus (n : ℕ) (l t : List ℕ) : Type 0 where
  pub sent : (i : ℕ) → i < n → set_at 3 (fru_of (set_at 4 i l)) t ≡ drop 1 (set_at 4 i l)
  pub others : (fru : ℕ) → fru < 3 → ((i : ℕ) → i < n → fru_of (set_at 4 i l) ≡ fru → ⊥) → set_at 3 fru t ≡ replicate 3 0xFF
  pub long : length t ≡ 9
