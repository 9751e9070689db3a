use Rattle.std.proofs.Common.{◌≡◌}
use Rattle.wire.specs.Wire.{pasted, to_be}
use Rattle.wire.proofs.put_be.Given as goal

abbrev pub invariant-loop-i : goal.invariant-loop-i
invariant-loop-i l = pasted l.at (to_be l.i l.left) l.d ≡ pasted l.at (to_be l.n l.v) l.initial.d
