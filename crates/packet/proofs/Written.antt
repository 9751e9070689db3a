-- A reply written field after field from the front, then its checksum over what is written. Assumes nothing.
use Prim.Native.Nat.{ℕ, ◌+◌, ◌-◌, ◌≤◌}
use mathlib.Core.Path.{◌≡◌, refl, sym, ap, ◌∙◌}
use mathlib.Core.List.{List, [], ◌∷◌, ◌++◌}
use native.Mathlib.Nat.{zero-add}
use native.Mathlib.Omega.{arith}
use lib.ListN.{length, take}
use Rattle.wire.specs.Wire.{to_be, packet_sum, pasted}
use Rattle.wire.proofs.laws.Wire.{take_pasted, field_next}
use Rattle.packet.specs.Packet.{unsummed, reply_bytes, replied}
use Rattle.packet.proofs.laws.Packet.{length_unsummed, replied_room}

-- the bytes written from the front are read back
front : (xs d : List ℕ) → length xs ≤ length d → take (length xs) (pasted 0 xs d) ≡ xs
front xs d h = ap (λ (n : ℕ). take n (pasted 0 xs d)) (sym (zero-add (length xs))) ∙ take_pasted 0 xs d (omega arith)

module _ (seq kind status : ℕ) (part d x y z w : List ℕ) (sum : ℕ) (some : 7 ≤ length d) (room : length part ≤ length d - 7) where
  module _ (p : x ≡ pasted 0 (seq ∷ kind ∷ status ∷ []) d) (q : y ≡ pasted 3 (to_be 2 (length part)) x) (r : z ≡ pasted 5 part y) where
    written : z ≡ pasted 0 (unsummed seq kind status part) d
    unfolding unsummed to_be
    written =
        let two = field_next 3 (seq ∷ kind ∷ status ∷ []) (to_be 2 (length part)) d x y p q refl in
        field_next 5 (seq ∷ kind ∷ status ∷ to_be 2 (length part)) part d y z two r refl

    read_back : take (5 + length part) z ≡ unsummed seq kind status part
    read_back =
        let n = length_unsummed seq kind status part in
        let h : length (unsummed seq kind status part) ≤ length d = omega (arith, n) in
        ap (take (5 + length part)) written ∙ ap (λ (m : ℕ). take m (pasted 0 (unsummed seq kind status part) d)) (sym n) ∙ front (unsummed seq kind status part) d h

    pub reply_put : sum ≡ packet_sum (take (5 + length part) z) → w ≡ pasted (5 + length part) (to_be 2 sum) z → w ≡ replied seq kind status part d
    unfolding reply_bytes
    reply_put s t =
        field_next (5 + length part) (unsummed seq kind status part) (to_be 2 sum) d z w written t (sym (length_unsummed seq kind status part))
        ∙ ap (λ (m : ℕ). pasted 0 (unsummed seq kind status part ++ to_be 2 m) d) (s ∙ ap packet_sum read_back)
        ∙ sym (replied_room seq kind status part d (omega arith))
