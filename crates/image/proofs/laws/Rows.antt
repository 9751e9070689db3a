-- Rows joined and read again. Assumes nothing.
use Rattle.std.specs.Prelude.{ℕ, ◌+◌, ◌≡◌, refl, List, [], ◌∷◌, ◌++◌, length, take, drop}
use Rattle.std.proofs.Common.{sym, ap, ap₂, ◌∙◌, append_assoc, length-append, take_at, drop_at, take-add, drop-drop}
use Rattle.wire.specs.Wire.{sum_of, joined}
use Rattle.image.specs.Rows.{widths_of, rows_from}

pub length_joined : (rs : List (List ℕ)) → length (joined rs) ≡ sum_of (widths_of rs)
unfolding joined widths_of sum_of
length_joined [] = refl
length_joined (r ∷ rs) = length-append r (joined rs) ∙ ap (λ (n : ℕ). length r + n) (length_joined rs)

rows_after : (at : ℕ) (front : List ℕ) (rs : List (List ℕ)) → length front ≡ at → rows_from at (widths_of rs) (front ++ joined rs) ≡ rs
unfolding rows_from widths_of joined
rows_after at front [] e = refl
rows_after at front (r ∷ rs) e =
    ap₂ (λ (x : List ℕ) (xs : List (List ℕ)). x ∷ xs)
    (ap (take (length r)) (drop_at front (r ++ joined rs) at e) ∙ take_at r (joined rs) (length r) refl)
    (ap (rows_from (at + length r) (widths_of rs)) (sym (append_assoc front r (joined rs)))
    ∙ rows_after (at + length r) (front ++ r) rs (length-append front r ∙ ap (λ (n : ℕ). n + length r) e))

-- reading what was joined gives the rows
pub rows_joined : (rs : List (List ℕ)) → rows_from 0 (widths_of rs) (joined rs) ≡ rs
rows_joined rs = rows_after 0 [] rs refl

-- joining what was read gives the bytes
pub joined_rows : (at : ℕ) (ws b : List ℕ) → joined (rows_from at ws b) ≡ take (sum_of ws) (drop at b)
unfolding rows_from joined sum_of
joined_rows at [] b = refl
joined_rows at (w ∷ ws) b =
    ap (λ (l : List ℕ). take w (drop at b) ++ l) (joined_rows (at + w) ws b)
    ∙ sym (take-add w (sum_of ws) (drop at b) ∙ ap (λ (l : List ℕ). take w (drop at b) ++ take (sum_of ws) l) (drop-drop w at b))
