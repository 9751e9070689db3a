use Rattle.packet_sum.proofs.Sums.{Parts}
use Rattle.packet_sum.proofs.eight_parts.Given as goal

abbrev pub invariant-loop-i : goal.invariant-loop-i
invariant-loop-i l = Parts l.s l.n l.i l.a l.b l.c l.d l.e l.f l.g l.h
