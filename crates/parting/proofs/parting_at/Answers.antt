-- `parting::parting_at` meets its contract: counted in the bytes that both begin with. Assumes nothing.
use native.Mathlib.Omega.{arith}
use Rattle.parting.proofs.Told.{count_fits, parting_is}
use Rattle.parting.proofs.parting_at.Goals as goal
use Rattle.std.proofs.Common.{◌∙◌}
use Rattle.parting.proofs.Agreeing.{agreed, agreed_fits}

pub overflow_add-result : goal.overflow_add-result
overflow_add-result c = omega (arith, count_fits _ _ (c.requires ∙ agreed c.args.first.now c.args.second.now) c.count-count.ensures, c.well_formed.0.1)

pub returns : goal.returns
returns c = parting_is _ _ (c.requires ∙ agreed c.args.first.now c.args.second.now) c.count-count.ensures c.refusal_of-refusal.ensures

pub slice_bounds-count-end : goal.slice_bounds-count-end
slice_bounds-count-end c = agreed_fits c.args.first.now c.args.second.now c.requires
