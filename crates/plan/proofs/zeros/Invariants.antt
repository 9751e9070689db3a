use Rattle.plan.specs.Plan.{trimmed}
use mathlib.Core.Path.{◌≡◌}
use lib.ListN.{drop}
use Rattle.plan.proofs.zeros.Given as goal

abbrev pub invariant-loop-i : goal.invariant-loop-i
invariant-loop-i l = trimmed (drop l.i l.digit-items) ≡ trimmed l.fn.digits
