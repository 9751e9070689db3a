-- The part of the data that is lent to the set readers. Assumes nothing.
use Rattle.std.specs.Prelude.{Option, Some, None, Result, Ok, Err}
use Rattle.std.specs.Result.{IsErrAnd}
use Rattle.std.specs.Option.{ok_or}
use mathlib.Core.Path.{refl}
use Rattle.std.specs.Result.{is_ok}
use Rattle.packet.specs.Packet.{Checked}
use Rattle.packet.specs.declared.Status.{Status}
use Rattle.packet.specs.declared.Status.TheVariants.{InvalidData}
use Prim.Native.Nat.{ℕ, ◌-◌, ◌*◌, ◌≤◌}
use mathlib.Core.Path.{◌≡◌, sym, ap, ◌∙◌}
use mathlib.Core.List.{List}
use native.Mathlib.Omega.{arith}
use lib.ListN.{length, get_or, take, drop, length-take, length-drop}
use lib.Seq.{take_all}
use Rattle.occ.specs.Judge.{sets_status, sets_read}
use Rattle.occ.proofs.laws.Exactly.{sets_status_exactly}

-- what is read from the part that starts at a place is read from all that is left there
of_rest : {A : Type 0} (f : List ℕ → A) (d : List ℕ) (at : ℕ) {x : A} → x ≡ f (take (length d - at) (drop at d)) → x ≡ f (drop at d)
of_rest f d at e = e ∙ ap f (take_all (length d - at) (drop at d) (simp length-drop (omega arith)))

-- and the part is as long as that
length_rest : (d : List ℕ) (at : ℕ) → length (take (length d - at) (drop at d)) ≡ length d - at
length_rest d at = simp (length-take, length-drop) (omega arith)

-- data whose status is good has its count, and as many sets as that says
pub counted_sets : (width : ℕ) (d : List ℕ) {status : Checked} → status ≡ sets_status width d → status ≡ Ok tt → (3 ≤ length d) × (length d - 3 ≡ get_or d 2 0 * width)
counted_sets width d e z = let h = (sets_status_exactly width d).0 (ap is_ok (sym e ∙ z)) in (h.0, h.1.0)

-- what a set reader says of that part, it says of all that is left, and of as many sets
pub read_counted : {A : Type 0} (of : ℕ → List ℕ → A) (width : ℕ) (d : List ℕ) {status : Checked} {v : A} → status ≡ sets_status width d → status ≡ Ok tt
    → ((n : ℕ) → length (take (length d - 3) (drop 3 d)) ≡ n * width → v ≡ of n (take (length d - 3) (drop 3 d))) → v ≡ of (get_or d 2 0) (drop 3 d)
read_counted of width d e z reads = of_rest (of (get_or d 2 0)) d 3 (reads (get_or d 2 0) (length_rest d 3 ∙ (counted_sets width d e z).1))

-- an error handed on
pub handed_on : {A E : Type 0} (r : Result A E) (e : E) → IsErrAnd r (λ y. y ≡ e) → r ≡ Err e
handed_on (Ok x) e h = absurd h
handed_on (Err y) e h = ap Err h

module _ {A : Type 0} {status : Checked} where
  pub count_refused : (v : Option A) (x : Status) → status ≡ Err x → Err x ≡ sets_read status v
  unfolding sets_read
  count_refused v x e = ap (λ (y : Checked). sets_read y v) (sym e)

  pub sets_refused_or_read : (v : Option A) → status ≡ Ok tt → ok_or v InvalidData ≡ sets_read status v
  unfolding sets_read
  sets_refused_or_read v e = by v ∙ ap (λ (y : Checked). sets_read y v) (sym e)
    where
      by : (w : Option A) → ok_or w InvalidData ≡ sets_read (Ok tt) w
      by None = refl
      by (Some t) = refl
