-- What each turn of a loop puts: the pieces left, put now, give the end. Assumes nothing.
use Prim.Native.Nat.{ℕ, suc, ◌+◌, ◌-◌, ◌<◌, ◌≤◌}
use mathlib.Core.Bool.{cond}
use mathlib.Core.Path.{◌≡◌, refl, sym, ap, ◌∙◌}
use mathlib.Core.List.{List, []}
use native.Mathlib.Numerals.{add-one}
use native.Mathlib.Omega.{arith}
use lib.Dec.{eqb}
use Rattle.text.specs.Text.{Sheet, put_all}
use Rattle.text.proofs.laws.Pieces.{pieces}
use Rattle.show.specs.Show.{where_set}

module _ (bit rest : ℕ → ℕ) (what : ℕ → List (List ℕ)) (n i bits : ℕ) (p : Sheet) where
  pub set_more : {q : Sheet} → i < n → q ≡ put_all p (cond (eqb (bit bits) 0) [] (what i))
      → put_all q (where_set bit rest what (n - (i + 1)) (i + 1) (rest bits)) ≡ put_all p (where_set bit rest what (n - i) i bits)
  unfolding where_set
  set_more h e =
      let one_more : suc (n - suc i) ≡ n - i = omega arith in
      rw (add-one i) (pieces p (cond (eqb (bit bits) 0) [] (what i)) (where_set bit rest what (n - suc i) (suc i) (rest bits)) e refl)
      ∙ ap (λ (m : ℕ). put_all p (where_set bit rest what m i bits)) one_more

  pub set_end : n ≤ i → p ≡ put_all p (where_set bit rest what (n - i) i bits)
  unfolding where_set put_all
  set_end h = let none : n - i ≡ 0 = omega arith in sym (ap (λ (m : ℕ). put_all p (where_set bit rest what m i bits)) none)
