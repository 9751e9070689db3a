use Rattle.plan.proofs.Trials.{made_fits, made_is}
use native.Mathlib.Omega.{arith}
use Rattle.plan.proofs.made.Goals as goal

pub overflow_add-result : goal.overflow_add-result
overflow_add-result c = omega (arith, made_fits _ _ _ c.made.ensures c.requires)

pub returns : goal.returns
returns c = made_is _ c.args.e _ (cc) _ c.made.ensures
