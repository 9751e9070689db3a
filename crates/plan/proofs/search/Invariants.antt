use Rattle.plan.specs.Plan.{least_from, least_plan}
use mathlib.Core.Path.{◌≡◌}
use Prim.Native.Nat.{◌-◌}
use Rattle.plan.proofs.search.Given as goal

abbrev pub invariant-loop-n : goal.invariant-loop-n
invariant-loop-n l = least_from l.packets l.wanted l.start (7776 - l.n) l.n ≡ least_plan l.packets l.wanted l.start
