use mathlib.Core.Path.{◌≡◌}
use lib.ListN.{length}
use Rattle.plan.specs.Plan.{is_order}
use Rattle.plan.proofs.is_order.Given as goal

abbrev pub invariant-loop-x : goal.invariant-loop-x
invariant-loop-x l = is_order l.count l.left ≡ is_order l.count l.order

abbrev pub decreases-loop-x : goal.decreases-loop-x
decreases-loop-x l = length l.left
