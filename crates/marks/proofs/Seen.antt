-- What each turn of `last` keeps, and what it finds where it stops. Assumes nothing.
use Prim.Native.Nat.{ℕ, ◌+◌, ◌≤◌, ◌<◌}
use mathlib.Core.Bool.{Bool, true, false}
use mathlib.Core.Path.{◌≡◌, refl, sym, ap, ◌∙◌}
use mathlib.Core.List.{List}
use native.Mathlib.Omega.{arith}
use borrow.Author.Tests.{ltb-true, ltb-false}
use lib.Dec.{ltb}
use Rattle.marks.specs.Marks.{mark_in, Last}

-- the marks up to this one are used
pub record Seen (m : List ℕ) (number place : ℕ) : Type 0 where
  pub low : number ≤ 31
  pub place_is : place ≡ mark_in m number
  pub used : (i : ℕ) → 1 ≤ i → i ≤ number → mark_in m i ≡ 0 → ⊥

pub seen_first : (m : List ℕ) (place : ℕ) → place ≡ mark_in m 0 → Seen m 0 place
seen_first m place e = record { low = omega arith; place_is = e; used = λ i h k z. omega (arith, h, k) }

module _ {m : List ℕ} {number place : ℕ} (s : Seen m number place) where
  pub seen_all : 31 ≤ number → Last m (record { number = number; place = place })
  seen_all h = record { low = s.low; place_is = s.place_is; used = s.used; ends = λ l. absurd (omega (arith, h, l)) }

  module _ {next : ℕ} (is : next ≡ mark_in m (number + 1)) where
    pub seen_end : next ≡ 0 → Last m (record { number = number; place = place })
    seen_end z = record { low = s.low; place_is = s.place_is; used = s.used; ends = λ l. sym is ∙ z }

    pub seen_more : number < 31 → (next ≡ 0 → ⊥) → Seen m (number + 1) next
    seen_more h z = record { low = omega (arith, h); place_is = is; used = used }
      where
        used : (i : ℕ) → 1 ≤ i → i ≤ number + 1 → mark_in m i ≡ 0 → ⊥
        used i l k = go (ltb number i) refl
          where
            go : (t : Bool) → ltb number i ≡ t → mark_in m i ≡ 0 → ⊥
            go true b e = let new : i ≡ number + 1 = omega (arith, ltb-true number i b, k) in z (is ∙ ap (mark_in m) (sym new) ∙ e)
            go false b e = s.used i l (ltb-false number i b) e
