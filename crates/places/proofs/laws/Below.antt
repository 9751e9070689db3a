-- The numbers below one: whether a test holds of one of them, and the first of them at which a fault is found. Assumes nothing.
use Prim.Native.Nat.{ℕ, zero, suc, ◌+◌, ◌<◌}
use Rattle.std.specs.Prelude.{Bool, false, ◌≡◌, ◌↔◌, ◌||◌, List, [], ◌∷◌, ◌++◌, leb}
use Rattle.std.specs.List.{list_any, range_with_len}
use Rattle.std.proofs.lemmas.List.Folds.{list_any-append}
use native.Mathlib.Nat.{zero-add}
use Rattle.std.proofs.Math.Bool.{true, cond}
use Rattle.std.proofs.lemmas.Bool.{false≢true}
use Rattle.std.proofs.Math.Path.{refl, sym, ap, subst}
use Rattle.std.proofs.Common.{◌∙◌, not-suc-le-zero, add-one, leb-true, leb-false}
use native.Mathlib.Omega.{arith}
use Rattle.places.specs.declared.Fault.{Fault}
use Rattle.std.specs.Prelude.{Option, Some, None}
use Rattle.places.specs.Places.{any_below, or_else, first_below}
use Rattle.wire.proofs.laws.Cases.{cond_cases}

-- a number below the next one is below this one or is it
pub by_order : {A : Type 0} (k n : ℕ) → k < suc n → (k < n → A) → (k ≡ n → A) → A
by_order {A} k n h less same = go (leb n k) refl
  where
    go : (b : Bool) → leb n k ≡ b → A
    go true e = same (omega (arith, leb-true n k e, h))
    go false e = less (leb-false n k e)

range_more : (a n : ℕ) → range_with_len a (suc n) ≡ range_with_len a n ++ (a + n) ∷ []
range_more a zero = ap (λ (k : ℕ). k ∷ []) (omega arith)
range_more a (suc n) = ap (λ (ks : List ℕ). a ∷ ks) (range_more (a + 1) n ∙ ap (λ (k : ℕ). range_with_len (a + 1) n ++ k ∷ []) (omega arith))

either : (x y : Bool) → (x || (y || false)) ≡ cond x true y
either true y = refl
either false true = refl
either false false = refl

module _ (p : ℕ → Bool) where
  any_next : (n : ℕ) → any_below p (suc n) ≡ cond (any_below p n) true (p n)
  unfolding any_below
  any_next n =
      ap (list_any p) (range_more 0 n) ∙ list_any-append p (range_with_len 0 n) ((0 + n) ∷ []) ∙ either (list_any p (range_with_len 0 n)) (p (0 + n))
      ∙ ap (λ (k : ℕ). cond (list_any p (range_with_len 0 n)) true (p k)) (zero-add n)

  pub any_exactly : (n : ℕ) → (any_below p n ≡ true) ↔ ((k : ℕ) × (k < n) × (p k ≡ true))
  unfolding any_below
  any_exactly zero = (λ h. absurd (false≢true h), λ h. absurd (not-suc-le-zero h.1))
  any_exactly (suc n) =
      let Next : Bool → Type 0 = λ (b : Bool). (b ≡ true) ↔ ((k : ℕ) × (k < suc n) × (p k ≡ true)) in
      let q = any_exactly n in
      subst Next (sym (any_next n))
      (cond_cases Next (any_below p n)
      (λ t. (λ h. let r = q.0 t in (r.0, omega (arith, r.1), r.2), λ h. refl))
      (λ t. (λ h. (n, omega arith, h), λ h. by_order h.0 n h.1 (λ l. absurd (false≢true (sym t ∙ q.1 (h.0, l, h.2)))) (λ e. sym (ap p e) ∙ h.2))))

  pub any_none : any_below p 0 ≡ false
  unfolding any_below
  any_none = refl

  pub any_more : (k : ℕ) → any_below p k ≡ false → p k ≡ false → any_below p (k + 1) ≡ false
  any_more k h e = ap (any_below p) (add-one k) ∙ any_next k ∙ ap (λ (b : Bool). cond b true (p k)) h ∙ e

module _ (f : ℕ → Option Fault) where
  pub first_none : first_below f 0 ≡ None
  unfolding first_below
  first_none = refl

  pub first_more : (k : ℕ) → first_below f k ≡ None → f k ≡ None → first_below f (k + 1) ≡ None
  unfolding first_below or_else
  first_more k h e = ap (first_below f) (add-one k) ∙ ap (λ (x : Option Fault). or_else x (f k)) h ∙ e

  -- what is found first stays
  pub first_found : (x : Fault) (k n : ℕ) → k < n → first_below f k ≡ None → f k ≡ Some x → first_below f n ≡ Some x
  unfolding first_below or_else
  first_found x k zero h none e = absurd (not-suc-le-zero h)
  first_found x k (suc n) h none e =
      by_order k n h (λ l. ap (λ (y : Option Fault). or_else y (f n)) (first_found x k n l none e))
      (λ q. ap (λ (y : Option Fault). or_else y (f n)) (sym (ap (first_below f) q) ∙ none) ∙ sym (ap f q) ∙ e)
