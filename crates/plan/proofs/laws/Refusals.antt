-- When neither 1 nor 10 is due. Assumes nothing.
use Rattle.std.specs.Prelude.{ℕ, ◌≤◌, Bool, true, not, ◌≡◌, refl, List, ltb}
use Rattle.std.proofs.Common.{ap, arith, ltb-false}
use Rattle.std.proofs.lemmas.Bool.{not-false}
use Rattle.wire.proofs.laws.Cases.{cond_cases, else_b, else_lt}
use Rattle.plan.specs.Plan.{packets_in, wanted_ok, plan_refusal}

pub record Due (formed : Bool) (p : List ℕ) (wanted : ℕ) : Type 0 where
  pub well : formed ≡ true
  pub few : packets_in p ≤ 5
  pub wanted_is : wanted_ok wanted ≡ true

pub none_refused : (formed : Bool) (p : List ℕ) (wanted : ℕ) → plan_refusal formed p wanted ≡ 0 → Due formed p wanted
unfolding plan_refusal
none_refused formed p wanted =
    let P : ℕ → Type 0 = λ (n : ℕ). n ≡ 0 → Due formed p wanted in
    cond_cases P (not formed) (λ f e. absurd (omega (arith, e)))
    (λ f. cond_cases P (ltb 5 (packets_in p)) (λ g e. absurd (omega (arith, e)))
    (λ g. cond_cases P (not (wanted_ok wanted)) (λ h e. absurd (omega (arith, e)))
    (λ h e. record { well = not-false _ f; few = ltb-false 5 (packets_in p) g; wanted_is = not-false _ h })))

pub no_refusal : (formed : Bool) (p : List ℕ) (wanted : ℕ) → Due formed p wanted → 0 ≡ plan_refusal formed p wanted
unfolding plan_refusal
no_refusal formed p wanted d = else_b _ _ (ap not d.well) (else_lt _ _ d.few (else_b _ _ (ap not d.wanted_is) refl))
