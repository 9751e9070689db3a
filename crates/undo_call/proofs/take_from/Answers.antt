use Rattle.undo_call.proofs.Taking.{newest_taken}
use Rattle.undo_call.proofs.take_from.Goals as goal

pub returns : goal.returns
returns c = newest_taken c.args.way c.args.lent.now _ c.in-Some.ensures _ _ (c.take_newest.ensures.value, c.take_newest.ensures.lent_after)
