-- What is told of a buffer of 2,280 bytes. Assumes nothing.
use Prim.Native.Nat.{ℕ, ◌≤◌}
use mathlib.Core.Path.{◌≡◌, ap}
use mathlib.Core.List.{List}
use native.Mathlib.Omega.{arith}
use lib.ListN.{replicate, length-replicate}
use Rattle.inplace.specs.declared.Told.{Told}
use Rattle.saving.specs.Moves.{move_down_to}
use Rattle.saving.proofs.laws.Moves.{move_down_within}

pub within : (b : List ℕ) (t : Told) → t ≡ (move_down_to b (replicate 2280 0)).told → t.beside ≤ 2280
within b t e = omega (arith, ap (λ (x : Told). x.beside) e, move_down_within b (replicate 2280 0), length-replicate {A = ℕ} 2280 0)
