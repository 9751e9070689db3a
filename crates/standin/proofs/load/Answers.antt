use Rattle.std.proofs.Common.{arith, length-take-le, sym}
use Rattle.layout.specs.Layout.{image_length}
use Rattle.standin.proofs.load.Goals as goal

pub slice_bounds-copy-end : goal.slice_bounds-copy-end
slice_bounds-copy-end c = sym (length-take-le image_length c.args.sent.now (omega (arith, c.requires.1)))

pub copy-requires : goal.copy-requires
copy-requires c = omega (arith, c.requires.0, length-take-le image_length c.args.sent.now (omega (arith, c.requires.1)))
