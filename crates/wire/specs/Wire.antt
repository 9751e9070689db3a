-- Bytes on the wire, as document 01 uses the words.
use Rattle.std.specs.Prelude.{ℕ, zero, suc, ◌+◌, ◌*◌, ◌/◌, ◌%◌, ◌<◌, Bool, true, false, cond, List, [], ◌∷◌, ◌++◌, eqb, length, take, drop}

-- the whole-number sum of the bytes
unfoldable pub sum_of : List ℕ → ℕ
sum_of [] = 0
sum_of (b ∷ bs) = b + sum_of bs

-- "OCC packets": the two-byte sum, ignoring overflow
unfoldable pub packet_sum : List ℕ → ℕ
packet_sum bs = sum_of bs % 65536

-- "Numbers of several bytes are big-endian": the bytes go on a number that is already read
unfoldable pub be_onto : ℕ → List ℕ → ℕ
be_onto n [] = n
be_onto n (b ∷ bs) = be_onto (n * 256 + b) bs

-- the number that the bytes spell
unfoldable pub be_nat : List ℕ → ℕ
be_nat bs = be_onto 0 bs

-- the number as so many bytes
unfoldable pub to_be : ℕ → ℕ → List ℕ
to_be zero n = []
to_be (suc k) n = to_be k (n / 256) ++ (n % 256 ∷ [])

-- d with the bytes bs from `at` on, the rest kept
unfoldable pub pasted : ℕ → List ℕ → List ℕ → List ℕ
pasted at bs d = take at d ++ (bs ++ drop (at + length bs) d)

-- rows of bytes, one after the other
unfoldable pub joined : List (List ℕ) → List ℕ
joined [] = []
joined (r ∷ rs) = r ++ joined rs

-- every byte is v
unfoldable pub all_are : ℕ → List ℕ → Bool
all_are v [] = true
all_are v (b ∷ bs) = cond (eqb b v) (all_are v bs) false

-- each element is a byte
abbrev pub Bytes : List ℕ → Type 0
Bytes [] = Unit {0}
Bytes (b ∷ bs) = (b < 256) × Bytes bs
