use native.Mathlib.Omega.{arith}
use Rattle.inplace.proofs.Standing.{lent_fits}
use Rattle.inplace.proofs.append.Goals as goal

pub overflow_add-end : goal.overflow_add-end
overflow_add-end c = omega (arith, lent_fits c.args.way _ _ c.store_at-start.ensures c.requires.0)

pub slice_bounds-append-end : goal.slice_bounds-append-end
slice_bounds-append-end c = lent_fits c.args.way _ _ c.store_at-start.ensures c.requires.0
