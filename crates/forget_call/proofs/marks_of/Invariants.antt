use Prim.Native.Nat.{◌-◌}
use lib.ListN.{length}
use Rattle.forget_call.proofs.Walks.{Walked}
use Rattle.forget_call.proofs.marks_of.Given as goal

abbrev pub invariant-loop-at : goal.invariant-loop-at
invariant-loop-at l = Walked l.j l.at l.count l.m

abbrev pub decreases-loop-at : goal.decreases-loop-at
decreases-loop-at l = length l.j - l.at
