use Rattle.plan.specs.Plan.{is_order, reaches}
use mathlib.Core.Bool.{true}
use mathlib.Core.Path.{◌≡◌}
use Prim.Native.Nat.{◌+◌, ◌≤◌}
use lib.ListN.{drop}
use Rattle.plan.proofs.reaches.Given as goal

abbrev pub invariant-loop-number : goal.invariant-loop-number
invariant-loop-number l = (l.t.next ≤ 256 + l.number-index) × (is_order 5 (drop l.number-index l.order) ≡ true) × (reaches l.packets l.wanted l.t (drop l.number-index l.order) ≡ reaches l.packets l.wanted l.initial.t l.order)
