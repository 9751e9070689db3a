use Rattle.forget_call.proofs.Walks.{Came}
use Rattle.forget_call.proofs.oldest_end.Given as goal

abbrev pub invariant-loop : goal.invariant-loop
invariant-loop l = Came l.j l.at l.counter
