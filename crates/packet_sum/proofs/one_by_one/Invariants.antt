use Rattle.wire.specs.Wire.{packet_sum}
use Rattle.std.proofs.Common.{◌≡◌, take}
use Rattle.packet_sum.proofs.one_by_one.Given as goal

abbrev pub invariant-loop-b : goal.invariant-loop-b
invariant-loop-b l = l.acc ≡ packet_sum (take l.b-index l.s)
