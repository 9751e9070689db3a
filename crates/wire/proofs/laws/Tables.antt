-- A chain of tests and a table: each row's number is given exactly when the row holds and none before it. Assumes nothing.
use Rattle.std.specs.Prelude.{ℕ, ◌<◌, Bool, true, false, cond, not, ◌≡◌, refl, ◌↔◌, ltb, eqb}
use Rattle.std.proofs.lemmas.Bool.{false≢true}
use Rattle.std.proofs.Common.{true≢false, sym, subst, ◌∙◌, ltb-true, lt-ltb}
use Rattle.wire.specs.Conditions.{is, none, Rows, here, later}
use Rattle.wire.proofs.laws.Cases.{cond_cases}
use Rattle.wire.proofs.laws.Chains.{eq_holds, not_passes}

pub lt_holds : (m n : ℕ) → (ltb m n ≡ true) ↔ (m < n)
lt_holds m n = (ltb-true m n, lt-ltb m n)

-- a test that lets pass where P holds, holds where P doesn't
pub fails : {t : Bool} {P : Type 0} → (t ≡ false) ↔ P → (t ≡ true) ↔ (P → ⊥)
fails {t = true} p = (λ h k. true≢false (p.1 k), λ h. refl)
fails {t = false} p = (λ h. absurd (false≢true h), λ h. absurd (h (p.0 refl)))

pub differs : (m n : ℕ) → (not (eqb m n) ≡ true) ↔ (m ≡ n → ⊥)
differs m n = fails (not_passes (eq_holds m n))

module _ {A N : Type 0} (Gives : A → N → Type 0) where
  -- x gives a number exactly when the table does
  pub record ByTable (x : A) (T : N → Type 0) : Type 0 where
    pub exactly : (n : N) → Gives x n ↔ T n

  pub by_none : {x : A} → ((n : N) → Gives x n → ⊥) → ByTable x none
  by_none h = record { exactly = λ n. (h n, λ z. absurd z) }

  pub by_is : {x : A} {v : N} → Gives x v → ((n : N) → Gives x n → n ≡ v) → ByTable x (is v)
  by_is {x = x} g one = record { exactly = λ n. (one n, λ e. subst (λ (m : N). Gives x m) (sym e) g) }

  module _ {P : Type 0} {T S : N → Type 0} where
    row_held : {n : N} → P → Rows P T S n → T n
    row_held p (here h t) = t
    row_held p (later h t) = absurd (h p)

    row_passed : {n : N} → (P → ⊥) → Rows P T S n → S n
    row_passed p (here h t) = absurd (p h)
    row_passed p (later h t) = t

    -- a row that holds, and one that doesn't
    pub hit : {x : A} → P → ByTable x T → ByTable x (Rows P T S)
    hit p a = record { exactly = λ n. (λ g. here p ((a.exactly n).0 g), λ r. (a.exactly n).1 (row_held p r)) }

    pub miss : {x : A} → (P → ⊥) → ByTable x S → ByTable x (Rows P T S)
    miss p a = record { exactly = λ n. (λ g. later p ((a.exactly n).0 g), λ r. (a.exactly n).1 (row_passed p r)) }

    -- a test and its row
    pub by_rows : {x y : A} {t : Bool} → (t ≡ true) ↔ P → ByTable x T → ByTable y S → ByTable (cond t x y) (Rows P T S)
    by_rows {t = t} p a b =
        cond_cases (λ (v : A). ByTable v (Rows P T S)) t (λ h. hit (p.0 h) a) (λ h. miss (λ k. true≢false (sym (p.1 k) ∙ h)) b)
