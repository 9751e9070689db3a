use Rattle.std.proofs.Common.{rules}
use Rattle.session.proofs.Clears.{none_cleared, all_clears, next_cleared, other_kind}
use Rattle.session.proofs.only_clears.Goals as goal

pub loop-kind-init : goal.loop-kind-init
loop-kind-init c = none_cleared (search rules)

pub returns-then-kind-ne1 : goal.returns-then-kind-ne1
returns-then-kind-ne1 c = other_kind c.loop-kind.invariant _ _ c.in-Some.ensures.steps c.if-kind-ne1.true

pub loop-kind-preserved : goal.loop-kind-preserved
loop-kind-preserved c = next_cleared c.loop-kind.invariant _ _ c.in-Some.ensures.steps c.if-kind-ne1.false

pub returns : goal.returns
returns c = all_clears c.loop-kind.invariant c.in-None.ensures.steps.0
