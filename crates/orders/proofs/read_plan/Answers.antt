-- The number is at most what it may be.
use Rattle.std.proofs.Common.{arith}
use Rattle.orders.proofs.Reading.{number_fits}
use Rattle.orders.proofs.read_plan.Goals as goal

pub numbered-requires : goal.numbered-requires
numbered-requires c = λ n is _ _ _ _. omega (arith, number_fits c.args.line.now _ 255 c.number_at-read.ensures is)
