use Rattle.entries.specs.Iterating.{entries_left}
use Rattle.entries.proofs.laws.Ahead.{Walked}
use Rattle.saving.proofs.Holding.{Good}
use Rattle.saving.proofs.entries_hold.Given as goal

abbrev pub invariant-loop-kind : goal.invariant-loop-kind
invariant-loop-kind l = Walked l.j Good (entries_left l.kind-iterator)
