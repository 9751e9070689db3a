use native.Mathlib.Omega.{arith}
use Rattle.forget_call.proofs.Freeing.{reads_part, used_long, marks_put, marks_fit_lem}
use Rattle.forget_call.proofs.mark_all.Goals as goal

pub marks_of-m-requires : goal.marks_of-m-requires
marks_of-m-requires c = (reads_part c.args.lent.now _ c.requires.1 c.requires.2, used_long c.args.lent.now c.requires.0 _ c.requires.1)

pub returns : goal.returns
returns c = marks_put c.args.lent.now c.requires.0 _ c.requires.1 _ _ c.marks_of-m.ensures c.copy.ensures
