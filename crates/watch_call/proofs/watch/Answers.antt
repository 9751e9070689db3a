use Rattle.watch_call.proofs.Opening.{opened_in}
use Rattle.watch_call.proofs.watch.Goals as goal

pub returns : goal.returns
returns c = opened_in c.args.lent.now _ c.in-Some.ensures _ _ (c.open_over.ensures.value, c.open_over.ensures.lent_after)
