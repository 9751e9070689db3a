-- A proposal checked, and the orders gone through by their numbers. Assumes nothing.
use Prim.Native.Nat.{ℕ, suc, ◌+◌, ◌-◌, ◌/◌, ◌<◌, ◌≤◌}
use mathlib.Core.Bool.{Bool, true, false, not}
use mathlib.Core.Path.{◌≡◌, refl, sym, ap, ◌∙◌}
use mathlib.Core.List.{List}
use Rattle.std.specs.Prelude.{Some, None}
use native.Mathlib.Numerals.{add-one}
use native.Mathlib.Omega.{arith}
use borrow.Author.Tests.{not-false}
use lib.ListN.{length, take, drop, length-drop}
use lib.Seq.{take_all}
use Rattle.wire.specs.Wire.{pasted}
use Rattle.wire.proofs.laws.Cases.{if_b, else_b, if_lt, else_lt, if_not, else_not}
use Rattle.inplace.specs.declared.Told.{Told}
use Rattle.plan.specs.Plan.{packets_in, is_order, reaches, plan_ok, digits_of, trimmed, order_of, least_from, least_plan, given}
use Rattle.plan.specs.declared.Trial.{Trial}
use Rattle.plan.proofs.laws.Orders.{of_more}

-- ---- the check

module _ (p : List ℕ) (wanted : ℕ) (t : Trial) (o : List ℕ) where
  pub too_long_lem : 5 < length o → false ≡ plan_ok p wanted t o
  unfolding plan_ok
  too_long_lem h = if_lt _ _ h refl

  module _ (short : length o ≤ 5) (ordered : Bool) (e : ordered ≡ is_order ((length p + 4095) / 4096) o) where
    pub no_order : not ordered ≡ true → false ≡ plan_ok p wanted t o
    unfolding plan_ok packets_in
    no_order h = else_lt _ _ short (if_not _ _ e h refl)

    pub order_of_five : (length p + 4095) / 4096 ≤ 5 → not ordered ≡ false → is_order 5 o ≡ true
    order_of_five few h = of_more _ 5 few o (sym e ∙ not-false ordered h)

    pub an_order : not ordered ≡ false → (r : Bool) → r ≡ reaches p wanted t o → r ≡ plan_ok p wanted t o
    unfolding plan_ok packets_in
    an_order h r q = else_lt _ _ short (else_not _ _ e h q)

-- ---- an order by its number

module _ (n : ℕ) (digits : List ℕ) (are : digits ≡ digits_of n) (from : ℕ) (trim : drop from digits ≡ trimmed digits) where
  five : length digits ≡ 5
  five = ap length are

  pub order_is : take (5 - from) (drop from digits) ≡ order_of n
  unfolding order_of
  order_is = take_all (5 - from) (drop from digits) (omega (arith, five, length-drop from digits)) ∙ trim ∙ ap trimmed are

  pub order_long : 5 - from ≡ length (order_of n)
  order_long = omega (arith, five, length-drop from digits, ap length order_is, ap length (take_all (5 - from) (drop from digits) (omega (arith, five, length-drop from digits))))

  pub order_given : (d y : List ℕ) → y ≡ pasted 0 (take (5 - from) (drop from digits)) d → (t : Told) → t ≡ record { answer = 0; small = 1; beside = 5 - from }
      → (t ≡ (given (Some n) d).told) × (y ≡ (given (Some n) d).order)
  unfolding given
  order_given d y q t e = (
    e ∙ ap (λ (k : ℕ). record { answer = 0; small = 1; beside = k }) order_long,
    q ∙ ap (λ (l : List ℕ). pasted 0 l d) order_is,
  )

-- ---- one number after the other

module _ (p : List ℕ) (wanted : ℕ) (t : Trial) where
  stops : (k n : ℕ) → plan_ok p wanted t (order_of n) ≡ true → Some n ≡ least_from p wanted t (suc k) n
  unfolding least_from
  stops k n h = if_b _ _ h refl

  goes_on : (k n : ℕ) → plan_ok p wanted t (order_of n) ≡ false → least_from p wanted t k (suc n) ≡ least_from p wanted t (suc k) n
  unfolding least_from
  goes_on k n h = else_b _ _ h refl

  module _ (n : ℕ) where
    left : n < 7776 → 7776 - n ≡ suc (7775 - n)
    left h = omega (arith, h)

    module _ (ok : Bool) (o : List ℕ) (q : ok ≡ plan_ok p wanted t o) (is : o ≡ order_of n) (h : n < 7776) where
      checked : ok ≡ plan_ok p wanted t (order_of n)
      checked = q ∙ ap (plan_ok p wanted t) is

      pub found : ok ≡ true → Some n ≡ least_from p wanted t (7776 - n) n
      found y = stops (7775 - n) n (sym checked ∙ y) ∙ ap (λ (k : ℕ). least_from p wanted t k n) (sym (left h))

      pub not_this : ok ≡ false → least_from p wanted t (7776 - (n + 1)) (n + 1) ≡ least_from p wanted t (7776 - n) n
      not_this y =
          let fewer : 7776 - (n + 1) ≡ 7775 - n = omega arith in
          (λ i. least_from p wanted t (fewer i) (add-one n i)) ∙ goes_on (7775 - n) n (sym checked ∙ y) ∙ ap (λ (k : ℕ). least_from p wanted t k n) (sym (left h))

    ends : None ≡ least_from p wanted t 0 n
    unfolding least_from
    ends = refl

    pub none_passes : 7776 ≤ n → None ≡ least_from p wanted t (7776 - n) n
    none_passes h = let no : 0 ≡ 7776 - n = omega (arith, h) in ends ∙ ap (λ (k : ℕ). least_from p wanted t k n) no

  pub from_nought : least_from p wanted t (7776 - 0) 0 ≡ least_plan p wanted t
  unfolding least_plan
  from_nought = refl
