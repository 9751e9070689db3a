use Rattle.std.proofs.Common.{◌≡◌, ◌<◌, ◌^◌, take}
use Rattle.wire.specs.Wire.{be_nat}
use Rattle.wire.proofs.be.Given as goal

abbrev pub invariant-loop-b : goal.invariant-loop-b
invariant-loop-b l = (l.acc ≡ be_nat (take l.b-index l.b-items)) × (l.acc < 256 ^ l.b-index)
