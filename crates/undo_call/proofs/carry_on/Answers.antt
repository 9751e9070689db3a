use native.Mathlib.Omega.{arith}
use mathlib.Core.Path.{refl}
use Rattle.undo_call.proofs.Taking.{room, at_fits, session_moved_lem}
use Rattle.undo_call.proofs.Marking.{marked_again, two_more}
use Rattle.undo_call.proofs.carry_on.Goals as goal

pub mark_again-requires : goal.mark_again-requires
mark_again-requires c = (c.requires.0, c.requires.3, two_more c.args.way _ _ _ c.entry_len-n.ensures.sized (room c.args.way c.args.h c.args.lent.now c.args.at c.args.e c.args.after _ _ refl c.takes_back-back.ensures c.requires.1 c.requires.2))

pub move_entry-requires : goal.move_entry-requires
move_entry-requires c = ((marked_again c.args.way c.args.h c.args.lent.now c.requires.0 c.args.at c.args.e _ c.takes_back-back.ensures c.entry_len-n.ensures.sized c.requires.1 c.requires.2 (room c.args.way c.args.h c.args.lent.now c.args.at c.args.e c.args.after _ _ refl c.takes_back-back.ensures c.requires.1 c.requires.2) c.requires.3 _ c.mark_again.ensures).0, room c.args.way c.args.h c.args.lent.now c.args.at c.args.e c.args.after _ _ c.pick-to.ensures c.takes_back-back.ensures c.requires.1 c.requires.2)

pub overflow_add-to : goal.overflow_add-to
overflow_add-to c = omega (arith, c.entry_len-n.ensures.value, room c.args.way c.args.h c.args.lent.now c.args.at c.args.e c.args.after _ _ c.pick-to.ensures c.takes_back-back.ensures c.requires.1 c.requires.2)

pub head_moved-head-requires : goal.head_moved-head-requires
head_moved-head-requires c = (at_fits c.args.way _ _ _ _ c.requires.1 c.requires.2, omega (arith, c.entry_len-n.ensures.value, room c.args.way c.args.h c.args.lent.now c.args.at c.args.e c.args.after _ _ c.pick-to.ensures c.takes_back-back.ensures c.requires.1 c.requires.2))

pub returns : goal.returns
returns c = let k = marked_again c.args.way c.args.h c.args.lent.now c.requires.0 c.args.at c.args.e _ c.takes_back-back.ensures c.entry_len-n.ensures.sized c.requires.1 c.requires.2 (room c.args.way c.args.h c.args.lent.now c.args.at c.args.e c.args.after _ _ refl c.takes_back-back.ensures c.requires.1 c.requires.2) c.requires.3 _ c.mark_again.ensures in
    session_moved_lem c.args.way c.args.h c.args.lent.now c.args.at c.args.e c.args.after _ _ _ _ c.pick-from.ensures c.pick-to.ensures c.takes_back-back.ensures c.entry_len-n.ensures.value _ _ c.move_entry.ensures k.1 k.2 k.3 _ _ _ c.timer_after-timer.ensures c.head_moved-head.ensures c.write_head.ensures
