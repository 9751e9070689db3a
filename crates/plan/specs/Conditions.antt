-- Document 02, l, in its words: what an order of packets is, and which of two comes first.
use Rattle.std.specs.Prelude.{ℕ, ◌<◌, ◌≤◌, ◌⊎◌, List, [], ◌∷◌, ◌≡◌, length, get_or}
use Rattle.wire.specs.Conditions.{◌and◌}

-- "Propose an order: each packet used at most once, some perhaps not at all": each number names one of so many packets, and no two are the same
pub record Order (count : ℕ) (o : List ℕ) : Type 0 where
  pub named : (i : ℕ) → i < length o → (1 ≤ get_or o i 0) and (get_or o i 0 ≤ count)
  pub once : (i j : ℕ) → i < j → j < length o → get_or o i 0 ≡ get_or o j 0 → ⊥

-- two orders of the same length, "in index order": equal up to a place where the first has the smaller number, or equal
abbrev pub InIndexOrder : List ℕ → List ℕ → Type 0
InIndexOrder [] [] = Unit {0}
InIndexOrder [] (y ∷ ys) = ⊥
InIndexOrder (x ∷ xs) [] = ⊥
InIndexOrder (x ∷ xs) (y ∷ ys) = (x < y) ⊎ ((x ≡ y) and InIndexOrder xs ys)

-- "the one with the fewest packets, then the least in index order"
abbrev pub FewestThenLeast : List ℕ → List ℕ → Type 0
FewestThenLeast a b = (length a < length b) ⊎ ((length a ≡ length b) and InIndexOrder a b)
