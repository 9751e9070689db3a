use mathlib.Core.Path.{sym, ◌∙◌}
use native.Mathlib.Omega.{arith}
use lib.Seq.{length-take-le}
use Rattle.saving.proofs.Reading.{front_read, front_fits}
use Rattle.saving.proofs.base_record.Goals as goal

pub slice_bounds-copy-end-2 : goal.slice_bounds-copy-end-2
slice_bounds-copy-end-2 c = sym (length-take-le 230 c.args.b.now (omega (arith, c.requires)))
