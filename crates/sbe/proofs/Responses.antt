-- A response written field after field from the front. Assumes nothing.
use Prim.Native.Nat.{ℕ, ◌≤◌}
use mathlib.Core.Path.{◌≡◌, refl}
use mathlib.Core.List.{List, ◌++◌}
use native.Mathlib.Omega.{arith}
use lib.ListN.{length, take, drop, replicate, length-drop}
use lib.Seq.{length-take-le}
use Rattle.wire.specs.Wire.{to_be, pasted}
use Rattle.wire.proofs.laws.Wire.{field_next}
use Rattle.sbe.specs.Mailbox.{response_bytes}

pub response_put : (primary secondary : ℕ) (r d v w x y : List ℕ) → 32 ≤ length r → v ≡ pasted 0 (to_be 2 primary) d → w ≡ pasted 2 (to_be 2 secondary) v
    → x ≡ pasted 4 (take 4 (drop 4 r)) w → y ≡ pasted 8 (replicate 24 0) x → y ≡ pasted 0 (response_bytes primary secondary r) d
unfolding response_bytes to_be
response_put primary secondary r d v w x y h p q s t =
    let n : length (take 4 (drop 4 r)) ≡ 4 = length-take-le 4 (drop 4 r) (simp length-drop (omega arith)) in
    let two = field_next 2 (to_be 2 primary) (to_be 2 secondary) d v w p q refl in
    let three = field_next 4 (to_be 2 primary ++ to_be 2 secondary) (take 4 (drop 4 r)) d w x two s refl in
    field_next 8 (to_be 2 primary ++ (to_be 2 secondary ++ take 4 (drop 4 r))) (replicate 24 0) d x y three t (omega (arith, n))
