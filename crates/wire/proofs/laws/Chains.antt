-- A chain of tests, each of which may refuse: from "it accepts" to the conditions, and back. Assumes nothing.
use Rattle.wire.proofs.laws.Cases.{cond_cases}
use Rattle.std.specs.Prelude.{ℕ, ◌<◌, ◌≤◌, Bool, true, false, cond, not, ◌≡◌, refl, ◌↔◌, ◌⊎◌, ltb, leb, eqb}
use Rattle.std.proofs.lemmas.Bool.{false≢true, eqb-false, not-false, lt-leb}
use Rattle.std.proofs.Common.{true≢false, sym, ap, ◌∙◌, inl, inr, ⊎_elim, arith, ltb-false, leb-true, leb-false, eqb-true, le-ltb, le-leb, eq-eqb, ne_eqb}
use Rattle.std.proofs.Math.Logic.Iff
use Rattle.wire.specs.Conditions.{◌and◌}

-- a test is itself a chain that accepts or doesn't
abbrev pub holds : Bool → Bool
holds b = b

-- ---- one test: when it holds, and when it lets pass

pub eq_holds : (m n : ℕ) → (eqb m n ≡ true) ↔ (m ≡ n)
eq_holds m n = (eqb-true m n, eq-eqb m n)

pub le_holds : (m n : ℕ) → (leb m n ≡ true) ↔ (m ≤ n)
le_holds m n = (leb-true m n, le-leb m n)

pub eq_passes : (m n : ℕ) → (eqb m n ≡ false) ↔ (m ≡ n → ⊥)
eq_passes m n = (eqb-false m n, ne_eqb m n)

pub lt_passes : (m n : ℕ) → (ltb m n ≡ false) ↔ (n ≤ m)
lt_passes m n = (ltb-false m n, le-ltb m n)

pub le_passes : (m n : ℕ) → (leb m n ≡ false) ↔ (n < m)
le_passes m n = (leb-false m n, lt-leb m n)

pub zero_passes : (n : ℕ) → (eqb n 0 ≡ false) ↔ (1 ≤ n)
zero_passes n = (λ h. let e = eqb-false n 0 h in omega arith, λ h. ne_eqb n 0 (λ e. omega arith))

pub not_passes : {b : Bool} {P : Type 0} → (b ≡ true) ↔ P → (not b ≡ false) ↔ P
not_passes {b} p = (λ h. p.0 (not-false b h), λ h. ap not (p.1 h))

-- what comes after a test that refuses
pub passed : (t b : Bool) → cond t false b ≡ true → (t ≡ false) × (b ≡ true)
passed true b h = absurd (false≢true h)
passed false b h = (refl, h)

-- where the first test isn't met, the second
pub or_so : {t y : Bool} {T Y : Type 0} → (t ≡ true) ↔ T → (y ≡ true) ↔ Y → (cond t true y ≡ true) ↔ ((T → ⊥) → Y)
or_so {t = true} p r = (λ h k. absurd (k (p.0 refl)), λ h. refl)
or_so {t = false} p r = (λ h k. r.0 h, λ h. r.1 (h (λ k. false≢true (p.1 k))))

-- ---- a chain: `accepts` says of what is chosen whether it accepts

module _ {A : Type 0} (accepts : A → Bool) {x y : A} {P : Type 0} where
  -- x refuses: the test lets pass, and the rest accepts
  pub unless : {Q : Type 0} {t : Bool} → accepts x ≡ false → (t ≡ false) ↔ P → (accepts y ≡ true) ↔ Q → (accepts (cond t x y) ≡ true) ↔ (P and Q)
  unless {t = true} e p q = (λ h. absurd (false≢true (sym e ∙ h)), λ h. absurd (true≢false (p.1 h.0)))
  unless {t = false} e p q = (λ h. (p.0 refl, q.0 h), λ h. q.1 h.1)

  -- the last test: what follows accepts
  pub unless_last : {t : Bool} → accepts x ≡ false → (t ≡ false) ↔ P → accepts y ≡ true → (accepts (cond t x y) ≡ true) ↔ P
  unless_last {t = true} e p q = (λ h. absurd (false≢true (sym e ∙ h)), λ h. absurd (true≢false (p.1 h)))
  unless_last {t = false} e p q = (λ h. p.0 refl, λ h. q)

  -- x accepts: only where b holds are the rest's conditions asked
  pub if_needed : {Q : Type 0} {b : Bool} → accepts x ≡ true → (b ≡ true) ↔ P → (accepts y ≡ true) ↔ Q → (accepts (cond (not b) x y) ≡ true) ↔ (P → Q)
  if_needed {b = true} e p q = (λ h k. q.0 h, λ h. q.1 (h (p.0 refl)))
  if_needed {b = false} e p q = (λ h k. absurd (false≢true (p.1 k)), λ h. e)

  -- x accepts: one or the other
  pub or_else : {Q : Type 0} {t : Bool} → accepts x ≡ true → (t ≡ true) ↔ P → (accepts y ≡ true) ↔ Q → (accepts (cond t x y) ≡ true) ↔ (P ⊎ Q)
  or_else {t = true} e p q = (λ h. inl (p.0 refl), λ h. e)
  or_else {t = false} e p q = (λ h. inr (q.0 h), λ h. ⊎_elim (λ k. absurd (false≢true (p.1 k))) (λ k. q.1 k) h)

-- ---- a chain with its end: v accepts exactly when P, and then v is z

pub record Ends {A : Type 0} (accepts : A → Bool) (v : A) (P : Type 0) (z : A) : Type 0 where
  pub exactly : (accepts v ≡ true) ↔ P
  pub is : accepts v ≡ true → v ≡ z

module _ {A : Type 0} (accepts : A → Bool) {P : Type 0} where
  pub ends_unless : {Q : Type 0} {x y z : A} {t : Bool} → accepts x ≡ false
      → (t ≡ false) ↔ P → Ends accepts y Q z → Ends accepts (cond t x y) (P and Q) z
  ends_unless {t = true} e p q = record { exactly = unless accepts e p q.exactly; is = λ h. absurd (false≢true (sym e ∙ h)) }
  ends_unless {t = false} e p q = record { exactly = unless accepts e p q.exactly; is = q.is }

  pub ends_if_needed : {Q : Type 0} {x y z : A} {b : Bool} → accepts x ≡ true → (b ≡ true) ↔ P
      → Ends accepts y Q z → Ends accepts (cond (not b) x y) (P → Q) (cond (not b) x z)
  ends_if_needed {b = true} e p q = record { exactly = if_needed accepts e p q.exactly; is = q.is }
  ends_if_needed {b = false} e p q = record { exactly = if_needed accepts e p q.exactly; is = λ h. refl }

  -- the same conditions in other words
  pub ends_when : {Q : Type 0} {y z : A} → P ↔ Q → Ends accepts y P z → Ends accepts y Q z
  ends_when e p = record { exactly = Iff.trans p.exactly e; is = p.is }

  -- the last test
  pub ends_last : {x y : A} {t : Bool} → accepts x ≡ false → (t ≡ false) ↔ P → accepts y ≡ true → Ends accepts (cond t x y) P y
  ends_last {t = true} e p q = record { exactly = unless_last accepts e p q; is = λ h. absurd (false≢true (sym e ∙ h)) }
  ends_last {t = false} e p q = record { exactly = unless_last accepts e p q; is = λ h. refl }

-- ---- conditions that single numbers bring

module _ (m n : ℕ) {x : Bool} {P : Type 0} (p : (x ≡ false) ↔ P) where
  -- n brings one, and the rest another, which n fulfils
  pub if_is : {y : Bool} {Q : Type 0} → (y ≡ false) ↔ Q → (m ≡ n → Q) → (cond (eqb m n) x y ≡ false) ↔ ((m ≡ n → P) and Q)
  if_is {Q = Q} q free =
      cond_cases (λ (z : Bool). (z ≡ false) ↔ ((m ≡ n → P) and Q)) (eqb m n)
      (λ t. let e = eqb-true m n t in (λ h. (λ k. p.0 h, free e), λ h. p.1 (h.0 e)))
      (λ t. (λ h. (λ k. absurd (eqb-false m n t k), q.0 h), λ h. q.1 h.1))

  -- n alone brings one
  pub if_is_last : (cond (eqb m n) x false ≡ false) ↔ (m ≡ n → P)
  if_is_last =
      cond_cases (λ (z : Bool). (z ≡ false) ↔ (m ≡ n → P)) (eqb m n)
      (λ t. (λ h k. p.0 h, λ h. p.1 (h (eqb-true m n t))))
      (λ t. (λ h k. absurd (eqb-false m n t k), λ h. refl))

-- ---- a number that chooses: the cases stand in rising order

module _ {A : Type 0} (accepts : A → Bool) (m : ℕ) where
  -- y, for the numbers from low on, accepts exactly when Q
  pub record Cases (low : ℕ) (y : A) (Q : Type 0) : Type 0 where
    pub exactly : (accepts y ≡ true) ↔ Q
    pub above : Q → low ≤ m

  -- the last number; any other is refused
  pub last_case : (n : ℕ) {x y : A} {P : Type 0} → (accepts x ≡ true) ↔ P → accepts y ≡ false → Cases n (cond (eqb m n) x y) ((m ≡ n) and P)
  last_case n {x} {y} {P} p e = record { exactly = cond_cases Exactly (eqb m n) is isn't; above = λ h. let k = h.0 in omega arith }
    where
      Exactly : A → Type 0
      Exactly z = (accepts z ≡ true) ↔ ((m ≡ n) and P)

      is : eqb m n ≡ true → Exactly x
      is t = (λ h. (eqb-true m n t, p.0 h), λ h. p.1 h.1)

      isn't : eqb m n ≡ false → Exactly y
      isn't t = (λ h. absurd (false≢true (sym e ∙ h)), λ h. absurd (eqb-false m n t h.0))

  -- a number below those that follow
  pub or_case : (n : ℕ) {low : ℕ} {x y : A} {P Q : Type 0} → n < low → (accepts x ≡ true) ↔ P
      → Cases low y Q → Cases n (cond (eqb m n) x y) (((m ≡ n) and P) ⊎ Q)
  or_case n {low} {x} {y} {P} {Q} l p q = record { exactly = cond_cases Exactly (eqb m n) is isn't; above = ⊎_elim (λ h. let k = h.0 in omega arith) (λ h. let k = q.above h in omega arith) }
    where
      Exactly : A → Type 0
      Exactly z = (accepts z ≡ true) ↔ (((m ≡ n) and P) ⊎ Q)

      is : eqb m n ≡ true → Exactly x
      is t = (λ h. inl (eqb-true m n t, p.0 h), ⊎_elim (λ h. p.1 h.1) (λ h. let k = q.above h in let e = eqb-true m n t in absurd (omega arith)))

      isn't : eqb m n ≡ false → Exactly y
      isn't t = (λ h. inr (q.exactly.0 h), ⊎_elim (λ h. absurd (eqb-false m n t h.0)) (λ h. q.exactly.1 h))
