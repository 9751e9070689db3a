use Rattle.std.proofs.Common.{◌≡◌, ◌++◌, replicate, drop}
use Rattle.wire.proofs.zero_all.Given as goal

abbrev pub invariant-loop-b : goal.invariant-loop-b
invariant-loop-b l = l.d ≡ replicate l.b-index 0 ++ drop l.b-index l.initial.d
