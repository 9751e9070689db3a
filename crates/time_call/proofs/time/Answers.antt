use Rattle.time_call.proofs.Passing.{passed_in_lem}
use Rattle.time_call.proofs.time.Goals as goal

pub returns : goal.returns
returns c = passed_in_lem c.args.n c.args.lent.now _ c.in-Some.ensures _ _ (c.pass.ensures.value, c.pass.ensures.lent_after)
