use Rattle.std.proofs.Common.{◌≡◌, take}
use Rattle.std.specs.Prelude.{eqb}
use Rattle.wire.specs.Wire.{all_are}
use Rattle.wire.proofs.both_zero.Given as goal

abbrev pub invariant-loop-i : goal.invariant-loop-i
invariant-loop-i l = (eqb l.top 0 ≡ all_are 0 (take (l.i) l.a)) × (eqb l.high 0 ≡ all_are 0 (take (l.i) l.b))
