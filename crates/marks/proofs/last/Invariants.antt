use Rattle.marks.proofs.Seen.{Seen}
use Rattle.marks.proofs.last.Given as goal

abbrev pub invariant-loop-number : goal.invariant-loop-number
invariant-loop-number l = Seen l.m l.number l.place
