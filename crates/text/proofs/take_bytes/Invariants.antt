use Rattle.text.specs.Text.{hex_run}
use Rattle.text.proofs.Turns.{Left}
use Prim.Native.Nat.{◌≤◌, ◌-◌}
use lib.ListN.{length}
use mathlib.Core.Path.{◌≡◌}
use Rattle.text.proofs.take_bytes.Given as goal

abbrev pub invariant-loop-at : goal.invariant-loop-at
invariant-loop-at l = (l.n ≤ length l.initial.out) × (length l.out ≡ length l.initial.out) × Left l.s l.at (length l.initial.out) l.n l.out (hex_run l.s l.from (length l.initial.out)) l.initial.out

abbrev pub decreases-loop-at : goal.decreases-loop-at
decreases-loop-at l = length l.s - l.at
