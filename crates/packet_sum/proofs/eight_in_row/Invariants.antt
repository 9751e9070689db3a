use Rattle.wire.specs.Wire.{packet_sum}
use Rattle.std.proofs.Common.{◌≡◌, ◌+◌, ◌*◌, ◌%◌, take}
use Rattle.packet_sum.proofs.eight_in_row.Given as goal

abbrev pub invariant-loop-k : goal.invariant-loop-k
invariant-loop-k l = (l.a + l.b + l.c + l.d + l.e + l.f + l.g + l.h) % 65536 ≡ packet_sum (take (8 * l.k) l.s)
