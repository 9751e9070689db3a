-- The packet at a place, and what its bytes alone decide. Assumes nothing.
use Prim.Native.Nat.{ℕ, ◌+◌, ◌-◌, ◌*◌, ◌≤◌}
use mathlib.Core.Path.{◌≡◌, sym, ap, ◌∙◌}
use mathlib.Core.List.{List, []}
use native.Mathlib.Nat.{add-sub_cancel_left}
use native.Mathlib.Omega.{arith}
use lib.ListN.{length, take, drop, length-drop, drop_of_length-le}
use lib.Seq.{take_all}
use Rattle.wire.proofs.laws.Wire.{tail_part}
use Rattle.plan.specs.Plan.{packet_at}

module _ (place : ℕ) (p : List ℕ) where
  pub none_there : length p ≤ 4096 * place → [] ≡ packet_at place p
  unfolding packet_at
  none_there h = sym (ap (take 4096) (drop_of_length-le p {i = 4096 * place} h))

  pub last_there : length p - 4096 * place ≤ 4096 → take (length p - 4096 * place) (drop (4096 * place) p) ≡ packet_at place p
  unfolding packet_at
  last_there h = tail_part p (4096 * place) ∙ sym (take_all 4096 (drop (4096 * place) p) (omega (arith, h, length-drop (4096 * place) p)))

  pub whole_there : take (4096 * place + 4096 - 4096 * place) (drop (4096 * place) p) ≡ packet_at place p
  unfolding packet_at
  whole_there = ap (λ (n : ℕ). take n (drop (4096 * place) p)) (add-sub_cancel_left (4096 * place) 4096)
