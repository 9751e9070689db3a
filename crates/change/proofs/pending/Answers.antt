use Rattle.std.proofs.Common.{rules}
use Rattle.change.proofs.Logs.{pending_is}
use Rattle.change.proofs.pending.Goals as goal

pub returns : goal.returns
returns c = cc (pending_is c.args.logs (search rules))
