-- Laws of two thresholds, DVFS and ERROR: the rule in plain conditions, and what it has of document 01's. Assumes nothing.
use Rattle.std.specs.Prelude.{ℕ, ◌<◌, true, false, not, ◌≡◌, refl, ◌↔◌, leb}
use Rattle.std.proofs.Common.{ap, leb-true, leb-false}
use Rattle.std.proofs.lemmas.Bool.{not-true, lt-leb}
use Rattle.wire.specs.Conditions.{◌and◌}
use Rattle.wire.proofs.laws.Chains.{eq_holds, le_holds, eq_passes, or_so, unless}
use Rattle.formed.specs.Formed.{in_order, InOrder, in_order_first}

pub order_exactly : (dvfs error : ℕ) → (in_order dvfs error ≡ true) ↔ InOrder dvfs error
unfolding in_order
order_exactly dvfs error = or_so (eq_holds dvfs 0xFF) (or_so (eq_holds error 0xFF) (le_holds dvfs error))

-- document 02, b: "only when both are defined and out of order"
pub out_of_order : (dvfs error : ℕ) → (in_order dvfs error ≡ false) ↔ ((dvfs ≡ 0xFF → ⊥) and (error ≡ 0xFF → ⊥) and (error < dvfs))
unfolding in_order
out_of_order dvfs error =
    let over : (not (leb dvfs error) ≡ true) ↔ (error < dvfs) = (λ h. leb-false dvfs error (not-true _ h), λ h. ap not (lt-leb dvfs error h)) in
    let q = unless not {x = true} refl (eq_passes dvfs 0xFF) (unless not {x = true} refl (eq_passes error 0xFF) over) in
    (λ h. q.0 (ap not h), λ h. not-true (in_order dvfs error) (q.1 h))

-- what document 01's first rule lets pass, passes
pub first_in_order : (dvfs error : ℕ) → in_order_first dvfs error ≡ true → in_order dvfs error ≡ true
unfolding in_order_first
first_in_order dvfs error h = (order_exactly dvfs error).1 (λ p q. leb-true dvfs error h)
