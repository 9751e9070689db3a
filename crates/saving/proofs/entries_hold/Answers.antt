use Rattle.std.proofs.Common.{rules}
use Rattle.saving.proofs.Holding.{none_held, all_held, entry_whole, next_held, other_held}
use Rattle.saving.proofs.entries_hold.Goals as goal

pub loop-kind-init : goal.loop-kind-init
loop-kind-init c = none_held (search rules)

pub entry_holds-requires : goal.entry_holds-requires
entry_holds-requires c = entry_whole c.loop-kind.invariant _ _ c.in-Some.ensures.steps

pub returns-then-not-entry_holds : goal.returns-then-not-entry_holds
returns-then-not-entry_holds c = other_held c.loop-kind.invariant _ _ c.in-Some.ensures.steps c.entry_holds.ensures c.if-not-entry_holds.true-raw

pub loop-kind-preserved : goal.loop-kind-preserved
loop-kind-preserved c = next_held c.loop-kind.invariant _ _ c.in-Some.ensures.steps c.entry_holds.ensures c.if-not-entry_holds.false-raw

pub returns : goal.returns
returns c = all_held c.loop-kind.invariant c.in-None.ensures.steps.0
