use Rattle.std.proofs.Common.{arith}
use Rattle.parting.proofs.laws.Lengths.{length_shared}
use Rattle.parting.proofs.put_shared.Goals as goal

pub returns-clause-fits : goal.returns-clause-fits
returns-clause-fits c =
    length_shared c.args.entries c.args.bytes c.args.next (omega (arith, c.well_formed.1.0)) (omega (arith, c.well_formed.1.1.0)) (omega (arith, c.well_formed.1.1.1.0))
