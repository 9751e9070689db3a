-- Rows of bytes one after the other, read apart again by their widths. Assumes nothing.
use Rattle.std.specs.Prelude.{ℕ, ◌+◌, List, [], ◌∷◌, length, take, drop}

unfoldable pub widths_of : List (List ℕ) → List ℕ
widths_of [] = []
widths_of (r ∷ rs) = length r ∷ widths_of rs

-- the rows of these widths that stand from `at` on
unfoldable pub rows_from : ℕ → List ℕ → List ℕ → List (List ℕ)
rows_from at [] b = []
rows_from at (w ∷ ws) b = take w (drop at b) ∷ rows_from (at + w) ws b
