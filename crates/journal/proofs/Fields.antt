-- An entry written field after field from the front. Assumes nothing.
use Prim.Native.Nat.{ℕ, ◌+◌, ◌*◌, ◌<◌, ◌≤◌}
use mathlib.Core.Path.{◌≡◌, refl, ap, ◌∙◌}
use mathlib.Core.List.{List, [], ◌∷◌, ◌++◌}
use native.Mathlib.Nat.{not-suc-le-zero}
use lib.ListN.{length, set, length-set}
use Rattle.wire.specs.Wire.{to_be, pasted}
use Rattle.wire.proofs.laws.Wire.{length_to_be, length_pasted, field_next}
use Rattle.journal.proofs.Spelled.{one_byte, marked_number}

first_put : (k : ℕ) (d : List ℕ) → 1 ≤ length d → set d 0 k ≡ pasted 0 (k ∷ []) d
unfolding pasted
first_put k [] h = absurd (not-suc-le-zero h)
first_put k (b ∷ d) h = refl

pub number_put : (k n v : ℕ) (d y : List ℕ) → 1 ≤ length d → y ≡ pasted 1 (to_be n v) (set d 0 k) → y ≡ pasted 0 (k ∷ to_be n v) d
number_put k n v d y h q = field_next 1 (k ∷ []) (to_be n v) d (set d 0 k) y (first_put k d h) q refl

pub number_long : (k n v : ℕ) (d y : List ℕ) → 1 + n ≤ length d → y ≡ pasted 1 (to_be n v) (set d 0 k) → length y ≡ length d
number_long k n v d y h q = ap length q ∙ length_pasted 1 (to_be n v) (set d 0 k) (simp (length-set, length_to_be) h) ∙ simp length-set

-- a mark of one byte, then bytes
pub marked_put : (k got : ℕ) (bs d x y : List ℕ) → got < 256 → x ≡ pasted 0 (k ∷ to_be 1 got) d → y ≡ pasted 2 bs x → y ≡ pasted 0 (k ∷ got ∷ bs) d
marked_put k got bs d x y h p q = field_next 2 (k ∷ got ∷ []) bs d x y (p ∙ ap (λ (l : List ℕ). pasted 0 (k ∷ l) d) (one_byte got h)) q refl

-- the mark and the presence bits as one number
pub throttles_put : (k got present : ℕ) (sets d x y : List ℕ) → got < 256 → present < 65536 → x ≡ pasted 0 (k ∷ to_be 3 (got * 65536 + present)) d → y ≡ pasted 4 sets x
    → y ≡ pasted 0 (k ∷ got ∷ (to_be 2 present ++ sets)) d
unfolding to_be
throttles_put k got present sets d x y g h p q =
    field_next 4 (k ∷ got ∷ to_be 2 present) sets d x y (p ∙ ap (λ (l : List ℕ). pasted 0 (k ∷ l) d) (marked_number got present g h)) q refl

pub areas_put : (k a m b n : ℕ) (d w x y z : List ℕ) → w ≡ pasted 0 (k ∷ to_be 8 a) d → x ≡ pasted 9 (to_be 4 m) w
    → y ≡ pasted 13 (to_be 8 b) x → z ≡ pasted 21 (to_be 4 n) y → z ≡ pasted 0 (k ∷ ((to_be 8 a ++ to_be 4 m) ++ (to_be 8 b ++ to_be 4 n))) d
unfolding to_be
areas_put k a m b n d w x y z one r s t =
    let two = field_next 9 (k ∷ to_be 8 a) (to_be 4 m) d w x one r refl in
    let three = field_next 13 (k ∷ (to_be 8 a ++ to_be 4 m)) (to_be 8 b) d x y two s refl in
    field_next 21 (k ∷ ((to_be 8 a ++ to_be 4 m) ++ to_be 8 b)) (to_be 4 n) d y z three t refl
