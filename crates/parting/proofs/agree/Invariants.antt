use Rattle.parting.proofs.Agreeing.{Agreed}
use Rattle.parting.proofs.agree.Given as goal

abbrev pub invariant-loop-i : goal.invariant-loop-i
invariant-loop-i l = Agreed l.first l.second l.i
