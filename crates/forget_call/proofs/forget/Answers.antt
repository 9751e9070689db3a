use Rattle.forget_call.proofs.Freeing.{unopened, oldest_forgotten}
use Rattle.forget_call.proofs.forget.Goals as goal

pub returns : goal.returns
returns c = oldest_forgotten c.args.n c.args.lent.now _ c.in-Some.ensures _ _ (c.forget_oldest.ensures.value, c.forget_oldest.ensures.lent_after)
