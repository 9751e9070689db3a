use Rattle.std.proofs.Common.{◌≡◌, length}
use Rattle.standin.proofs.serve_piece.Given as goal

abbrev pub invariant-loop-rest : goal.invariant-loop-rest
invariant-loop-rest g l = (length l.lent ≡ length l.initial.lent) × (length l.line ≡ length l.initial.line) × (length l.sent ≡ length l.initial.sent) × (length l.out ≡ length l.initial.out)

abbrev pub decreases-loop-rest : goal.decreases-loop-rest
decreases-loop-rest g l = length l.rest
