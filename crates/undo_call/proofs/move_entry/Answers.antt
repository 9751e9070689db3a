use Rattle.undo_call.proofs.Taking.{entry_moved}
use Rattle.journal.specs.Ways.{other}
use Rattle.undo_call.proofs.move_entry.Goals as goal

pub returns : goal.returns
unfolding other
returns c = entry_moved c.args.way c.args.lent.now _ _ c.args.at c.args.from c.args.to c.args.back _ c.requires.0 c.pick.ensures c.cut.ensures c.append.ensures.lent_after c.append.ensures.lent_len
