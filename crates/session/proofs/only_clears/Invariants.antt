use Rattle.entries.specs.Iterating.{entries_left}
use Rattle.entries.proofs.laws.Ahead.{Walked}
use Rattle.session.proofs.Clears.{Clear}
use Rattle.session.proofs.only_clears.Given as goal

abbrev pub invariant-loop-kind : goal.invariant-loop-kind
invariant-loop-kind l = Walked l.b Clear (entries_left l.kind-iterator)
