-- A proposal walked number by number: what is left decides as the whole does. Assumes nothing.
use Prim.Native.Nat.{ℕ, ◌+◌, ◌-◌, ◌<◌, ◌≤◌}
use mathlib.Core.Bool.{Bool, true, false}
use mathlib.Core.Path.{◌≡◌, refl, sym, ap, ◌∙◌}
use mathlib.Core.List.{List, [], ◌∷◌}
use native.Mathlib.Numerals.{add-one}
use native.Mathlib.Omega.{arith}
use Rattle.std.specs.List.{list_any}
use Rattle.std.proofs.Math.Bool.{◌||◌, cond}
use lib.Dec.{eqb}
use lib.ListN.{length, get_or, drop, drop_of_length-le}
use lib.Seq.{drop-cons}
use Rattle.wire.proofs.laws.Cases.{if_b, else_b, if_eq, else_eq, if_lt, else_lt}
use Rattle.plan.specs.Plan.{comes_in, is_order, trimmed}
use Rattle.plan.proofs.laws.Orders.{Named, named}

-- the numbers from i on: the one there, and the rest
pub from_here : (i : ℕ) (o : List ℕ) → i < length o → drop i o ≡ get_or o i 0 ∷ drop (i + 1) o
from_here i o h = drop-cons o i 0 h ∙ ap (λ (k : ℕ). get_or o i 0 ∷ drop k o) (sym (add-one i))

-- ---- whether they are an order: the first number, and the rest

either : (b : Bool) {r s : Bool} → r ≡ s → (b || r) ≡ cond b true s
either true e = refl
either false e = e

pub contained : (x : ℕ) (xs : List ℕ) → list_any (λ y. eqb y x) xs ≡ comes_in x xs
unfolding comes_in
contained x [] = refl
contained x (y ∷ ys) = either (eqb y x) (contained x ys)

module _ (count x : ℕ) (left rest : List ℕ) (split : left ≡ x ∷ rest) where
  whole : is_order count (x ∷ rest) ≡ is_order count left
  whole = ap (is_order count) (sym split)

  pub names_none : x ≡ 0 → false ≡ is_order count left
  unfolding is_order
  names_none z = if_eq false _ z refl ∙ whole

  pub names_no_packet : (x ≡ 0 → ⊥) → count < x → false ≡ is_order count left
  unfolding is_order
  names_no_packet z g = else_eq _ _ z (if_lt false _ g refl) ∙ whole

  module _ (z : x ≡ 0 → ⊥) (g : x ≤ count) (t : Bool) (e : t ≡ list_any (λ y. eqb y x) rest) where
    looked : t ≡ comes_in x rest
    looked = e ∙ contained x rest

    pub names_again : t ≡ true → false ≡ is_order count left
    unfolding is_order
    names_again y = else_eq _ _ z (else_lt _ _ g (if_b false _ (sym looked ∙ y) refl)) ∙ whole

    pub names_one : t ≡ false → is_order count rest ≡ is_order count left
    unfolding is_order
    names_one y = else_eq _ _ z (else_lt _ _ g (else_b _ _ (sym looked ∙ y) refl)) ∙ whole

pub order_ends : (count : ℕ) (left : List ℕ) → length left ≡ 0 → true ≡ is_order count left
unfolding is_order
order_ends count [] h = refl
order_ends count (x ∷ xs) h = absurd (omega (arith, h))

pub named_at : (count i : ℕ) (o : List ℕ) → i < length o → is_order count (drop i o) ≡ true → Named count (get_or o i 0) (drop (i + 1) o)
named_at count i o h e = named count _ _ (ap (is_order count) (sym (from_here i o h)) ∙ e)

pub place_low : (i : ℕ) (o : List ℕ) → i < length o → is_order 5 (drop i o) ≡ true → get_or o i 0 - 1 < 5
place_low i o h e = omega (arith, (named_at 5 i o h e).low)

-- ---- leading zeros

module _ (i : ℕ) (d : List ℕ) (five : length d ≡ 5) where
  split : i < 5 → drop i d ≡ get_or d i 0 ∷ drop (i + 1) d
  split h = from_here i d (omega (arith, h, five))

  pub zero_goes : i < 5 → get_or d i 0 ≡ 0 → trimmed (drop (i + 1) d) ≡ trimmed (drop i d)
  unfolding trimmed
  zero_goes h z = if_eq _ _ z refl ∙ ap trimmed (sym (split h))

  pub digit_stays : i < 5 → (get_or d i 0 ≡ 0 → ⊥) → drop i d ≡ trimmed (drop i d)
  unfolding trimmed
  digit_stays h z = split h ∙ else_eq _ _ z refl ∙ ap trimmed (sym (split h))

  pub none_left_lem : 5 ≤ i → drop i d ≡ trimmed (drop i d)
  unfolding trimmed
  none_left_lem h = let e = drop_of_length-le d {i = i} (omega (arith, h, five)) in e ∙ ap trimmed (sym e)
