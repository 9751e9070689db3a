use Rattle.saving.proofs.Calls.{save_unopened, save_put}
use Rattle.saving.proofs.save.Goals as goal

pub returns : goal.returns
returns c = save_put c.args.session.now c.args.out.now _ _ c.in-Some.ensures _ c.put_new.ensures
