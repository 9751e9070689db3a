use Rattle.std.proofs.Common.{◌≡◌, ◌-◌, ◌≤◌, length}
use Rattle.io.specs.Counts.{IsPrefixLen}
use Rattle.replay.proofs.play_front.Given as goal

abbrev pub invariant-loop-n : goal.invariant-loop-n
invariant-loop-n g l = (l.bytes ≤ length l.piece) × (IsPrefixLen l.waiting l.out) × (length l.lent ≡ length l.initial.lent) × (length l.out ≡ length l.initial.out)

abbrev pub decreases-loop-n : goal.decreases-loop-n
decreases-loop-n g l = length l.piece - l.bytes
