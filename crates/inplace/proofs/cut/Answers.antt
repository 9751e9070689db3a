use native.Mathlib.Omega.{arith}
use Rattle.inplace.proofs.Standing.{lent_on, lent_fits}
use Rattle.journal.specs.Add.{cut_from}
use Rattle.inplace.proofs.cut.Goals as goal

pub overflow_add-end : goal.overflow_add-end
overflow_add-end c = omega (arith, lent_fits c.args.way _ _ c.store_at-start.ensures c.requires)

pub slice_bounds-cut-end : goal.slice_bounds-cut-end
slice_bounds-cut-end c = lent_fits c.args.way _ _ c.store_at-start.ensures c.requires

pub returns : goal.returns
returns c = lent_on c.args.lent.now _ c.args.way _ (cut_from c.args.at c.args.used) c.store_at-start.ensures c.cut.ensures
