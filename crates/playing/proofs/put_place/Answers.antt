use Rattle.std.proofs.Common.{arith}
use Rattle.playing.proofs.laws.Lengths.{length_place}
use Rattle.playing.proofs.put_place.Goals as goal

pub returns-clause-fits : goal.returns-clause-fits
returns-clause-fits c = length_place c.args.words.now c.args.place (omega arith)
