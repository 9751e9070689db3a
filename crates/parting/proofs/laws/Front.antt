-- Bytes that begin with others, and the most that two begin with. Assumes nothing.
use Rattle.std.specs.Prelude.{ℕ, ◌≤◌, ◌≡◌, refl, List, [], ◌∷◌, ◌++◌, eqb, length, take}
use Rattle.std.proofs.Common.{sym, ap, ap₂, subst, ◌∙◌, append_assoc, arith, eqb-true, length-append}
use Rattle.std.proofs.Math.Seq.{take-append_seam}
use Rattle.wire.proofs.laws.Cases.{if_eq, cond_elim, cond_cases}
use Rattle.parting.specs.Parting.{Begins, front}

-- ---- beginning with

module _ {t p : List ℕ} (b : Begins t p) where
  pub begins_take : take (length p) t ≡ p
  begins_take = ap (take (length p)) b.joins ∙ take-append_seam p b.rest

  pub begins_fits : length p ≤ length t
  begins_fits = omega (arith, ap length b.joins, length-append p b.rest)

  pub begins_on : {q : List ℕ} → Begins p q → Begins t q
  begins_on {q} c = record {
    rest = c.rest ++ b.rest;
    joins = b.joins ∙ ap (λ (l : List ℕ). l ++ b.rest) c.joins ∙ append_assoc q c.rest b.rest;
  }

-- ---- both begin with the front, and with no more

begins_none : (t : List ℕ) → Begins t []
begins_none t = record { rest = t; joins = refl }

begins_more : {x y : ℕ} {t p : List ℕ} → x ≡ y → Begins t p → Begins (x ∷ t) (y ∷ p)
begins_more e b = record { rest = b.rest; joins = ap₂ (λ (z : ℕ) (l : List ℕ). z ∷ l) e b.joins }

pub front_first : (t u : List ℕ) → Begins t (front t u)
unfolding front
front_first [] u = begins_none []
front_first (x ∷ t) [] = begins_none (x ∷ t)
front_first (x ∷ t) (y ∷ u) = cond_elim (Begins (x ∷ t)) (eqb x y) (begins_more refl (front_first t u)) (begins_none (x ∷ t))

pub front_second : (t u : List ℕ) → Begins u (front t u)
unfolding front
front_second [] u = begins_none u
front_second (x ∷ t) [] = begins_none []
front_second (x ∷ t) (y ∷ u) =
    cond_cases (Begins (y ∷ u)) (eqb x y) (λ e. begins_more (sym (eqb-true x y e)) (front_second t u)) (λ e. begins_none (y ∷ u))

front_next : (x : ℕ) (t u : List ℕ) → x ∷ front t u ≡ front (x ∷ t) (x ∷ u)
unfolding front
front_next x t u = if_eq _ _ {m = x} {n = x} refl refl

front_both : (p t u : List ℕ) → Begins (front (p ++ t) (p ++ u)) p
front_both [] t u = begins_none (front t u)
front_both (x ∷ p) t u = subst (λ (l : List ℕ). Begins l (x ∷ p)) (front_next x (p ++ t) (p ++ u)) (begins_more refl (front_both p t u))

pub front_most : (t u p : List ℕ) → Begins t p → Begins u p → Begins (front t u) p
front_most t u p b c =
    let m = front_both p b.rest c.rest in
    record { rest = m.rest; joins = ap₂ front b.joins c.joins ∙ m.joins }

pub front_same : (t : List ℕ) → front t t ≡ t
unfolding front
front_same [] = refl
front_same (x ∷ t) = sym (front_next x t t) ∙ ap (λ (l : List ℕ). x ∷ l) (front_same t)

pub front_none : (t : List ℕ) → front t [] ≡ []
unfolding front
front_none [] = refl
front_none (x ∷ t) = refl
