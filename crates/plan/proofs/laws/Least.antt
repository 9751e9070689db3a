-- The first number whose order passes: it passes, and no smaller one does; where there is none, none passes. Assumes nothing.
use Prim.Native.Nat.{ℕ, zero, suc, ◌+◌, ◌<◌, ◌≤◌}
use Rattle.std.specs.Prelude.{Bool, true, false, ◌≡◌, refl, Option, Some, List, eqb}
use Rattle.std.proofs.Common.{true≢false, sym, subst, ◌∙◌, arith, eqb-true}
use Rattle.std.proofs.lemmas.Bool.{eqb-false}
use Rattle.std.proofs.lemmas.Option.{same_Some, none-some}
use Rattle.wire.proofs.laws.Cases.{cond_cases}
use Rattle.plan.specs.Plan.{plan_ok, order_of, orders, least_from, least_plan}
use Rattle.plan.specs.declared.Trial.{Trial}

module _ (p : List ℕ) (wanted : ℕ) (t : Trial) where
  abbrev Passes : ℕ → Type 0
  Passes n = plan_ok p wanted t (order_of n) ≡ true

  -- x is the first of k numbers from n on, if one of them passes
  record First (k n : ℕ) (x : Option ℕ) : Type 0 where
    passes : (m : ℕ) → x ≡ Some m → (m < n + k) × Passes m
    before : (m : ℕ) → n ≤ m → m < n + k → Passes m → (y : ℕ) × (x ≡ Some y) × (y ≤ m)

  -- where n's order doesn't pass
  later : (k n : ℕ) (x : Option ℕ) → plan_ok p wanted t (order_of n) ≡ false → First k (suc n) x → First (suc k) n x
  later k n x f r = record { passes = λ m e. let q = r.passes m e in (omega (arith, q.0), q.1); before = go }
    where
      go : (m : ℕ) → n ≤ m → m < n + suc k → Passes m → (y : ℕ) × (x ≡ Some y) × (y ≤ m)
      go m l h y = by (eqb m n) refl
        where
          by : (b : Bool) → eqb m n ≡ b → (y : ℕ) × (x ≡ Some y) × (y ≤ m)
          by true e = absurd (true≢false (sym (subst Passes (eqb-true m n e) y) ∙ f))
          by false e = r.before m (omega (arith, l, eqb-false m n e)) (omega (arith, h)) y

  first_from : (k n : ℕ) → First k n (least_from p wanted t k n)
  unfolding least_from
  first_from zero n = record { passes = λ m e. absurd (none-some m e); before = λ m l h y. absurd (omega (arith, l, h)) }
  first_from (suc k) n =
      cond_cases (First (suc k) n) (plan_ok p wanted t (order_of n))
      (λ y. record { passes = λ m e. let is = same_Some n m e in (omega (arith, is), subst Passes is y); before = λ m l h z. (n, refl, l) })
      (λ f. later k n _ f (first_from k (suc n)))

  abbrev least : First orders 0 (least_plan p wanted t)
  unfolding least_plan
  least = first_from orders 0

  pub least_low : (m : ℕ) → least_plan p wanted t ≡ Some m → m < orders
  least_low m e = (least.passes m e).0

  pub least_passes : (m : ℕ) → least_plan p wanted t ≡ Some m → Passes m
  least_passes m e = (least.passes m e).1

  pub least_before : (m : ℕ) → m < orders → Passes m → (y : ℕ) × (least_plan p wanted t ≡ Some y) × (y ≤ m)
  least_before m l h = least.before m (omega arith) l h
