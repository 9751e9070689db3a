use Prim.Native.Nat.{◌-◌}
use lib.ListN.{length}
use Rattle.entries.proofs.Turns.{Passed}
use Rattle.trace.specs.Trace.{trace_table}
use Rattle.trace.proofs.read.Given as goal

abbrev pub invariant-loop-at : goal.invariant-loop-at
invariant-loop-at l = Passed trace_table l.t l.at l.count l.newest

abbrev pub decreases-loop-at : goal.decreases-loop-at
decreases-loop-at l = length l.t - l.at
