-- Words in one text, each ended by a bar, `a|b|`.
use Rattle.std.specs.Prelude.{ℕ, cond, List, [], ◌∷◌, eqb, get_or}

-- a byte more at the front of the first word
unfoldable pub begun_by : ℕ → List (List ℕ) → List (List ℕ)
begun_by x [] = (x ∷ []) ∷ []
begun_by x (w ∷ ws) = (x ∷ w) ∷ ws

-- 124 is the bar
unfoldable pub words_in : List ℕ → List (List ℕ)
words_in [] = []
words_in (x ∷ xs) = cond (eqb x 124) ([] ∷ words_in xs) (begun_by x (words_in xs))

-- none past the last
unfoldable pub word_at : List ℕ → ℕ → List ℕ
word_at s n = get_or (words_in s) n []
