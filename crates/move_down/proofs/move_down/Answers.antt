use Rattle.std.proofs.Common.{arith, length-take-le, sym}
use Rattle.move_down.proofs.Within.{within}
use Rattle.move_down.proofs.move_down.Goals as goal

pub slice_bounds-base-end : goal.slice_bounds-base-end
slice_bounds-base-end g c = omega (arith, within c.args.saved.now _ c.move_down-told.ensures.0, c.move_down-told.auto.out)

pub slice_bounds-write-end : goal.slice_bounds-write-end
slice_bounds-write-end g c = sym (length-take-le _ c.move_down-told.new.out (omega (arith, within c.args.saved.now _ c.move_down-told.ensures.0, c.move_down-told.auto.out)))
