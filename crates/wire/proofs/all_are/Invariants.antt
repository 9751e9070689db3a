use Rattle.std.proofs.Common.{◌≡◌, take}
use Rattle.wire.specs.Wire.{all_are}
use Rattle.wire.proofs.all_are.Given as goal

abbrev pub invariant-loop-b : goal.invariant-loop-b
invariant-loop-b l = l.same ≡ all_are l.v (take l.b-index l.s)
