use mathlib.Core.Path.{refl}
use native.Mathlib.Omega.{arith}
use Rattle.forget_call.proofs.Freeing.{long_c, left_fits, left_whole, long_d, session_freed_lem}
use Rattle.forget_call.proofs.free.Goals as goal

pub mark_all-requires : goal.mark_all-requires
mark_all-requires c = (long_c c.args.h c.args.lent.now c.requires.0 _ c.requires.1 c.requires.2 _ c.move_journal.ensures, left_fits c.args.h c.args.lent.now c.requires.0 _ c.requires.1 c.requires.2 _ c.move_journal.ensures _ refl, left_whole c.args.h c.args.lent.now c.requires.0 _ c.requires.1 c.requires.2 _ c.move_journal.ensures _ refl c.requires.3)

pub returns : goal.returns
returns c = session_freed_lem c.args.h c.args.lent.now c.requires.0 _ c.requires.1 c.requires.2 _ c.move_journal.ensures _ refl _ c.mark_all.ensures _ _ c.renewed-head.ensures c.write_head.ensures
