use Rattle.std.proofs.Common.{◌≡◌, ◌≤◌, length}
use Rattle.replay.proofs.serve.Given as goal

abbrev pub invariant-loop : goal.invariant-loop
invariant-loop g l = (l.have ≤ length l.held) × (length l.lent ≡ length l.initial.lent) × (length l.held ≡ length l.initial.held) × (length l.out ≡ length l.initial.out)
