use Rattle.std.proofs.Common.{ℕ, ◌-◌, length}
use Rattle.entries.proofs.Turns.{Passed}
use Rattle.trace.specs.Trace.{trace_table}
use Rattle.trace.proofs.count.Given as goal

abbrev pub invariant-loop-n : goal.invariant-loop-n
invariant-loop-n l = (newest : ℕ) × Passed trace_table l.t l.at l.count newest

abbrev pub decreases-loop-n : goal.decreases-loop-n
decreases-loop-n l = length l.t - l.at
