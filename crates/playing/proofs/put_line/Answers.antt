use Rattle.std.proofs.Common.{arith}
use Rattle.playing.proofs.laws.Lengths.{length_line}
use Rattle.playing.proofs.put_line.Goals as goal

pub returns-clause-fits : goal.returns-clause-fits
returns-clause-fits c = length_line c.args.number c.args.answer c.args.status.now (omega arith) (omega arith) c.requires
