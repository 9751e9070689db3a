use mathlib.Core.Path.{◌∙◌}
use Rattle.plan.proofs.Searching.{order_is, found, not_this, none_passes, from_nought}
use Rattle.plan.proofs.search.Goals as goal

pub loop-n-init : goal.loop-n-init
loop-n-init c = from_nought _ _ _

pub returns-then-passes : goal.returns-then-passes
returns-then-passes c =
    let order = order_is _ _ c.digits-digits.ensures c.zeros-from.result c.zeros-from.ensures.1 in
    found _ _ _ _ _ _ c.passes.ensures order c.loop-n-test.true c.if-passes.true ∙ c.loop-n.invariant

pub loop-n-preserved : goal.loop-n-preserved
loop-n-preserved c =
    let order = order_is _ _ c.digits-digits.ensures c.zeros-from.result c.zeros-from.ensures.1 in
    not_this _ _ _ _ _ _ c.passes.ensures order c.loop-n-test.true c.if-passes.false ∙ c.loop-n.invariant

pub returns : goal.returns
returns c = none_passes _ _ _ _ c.loop-n-test.false ∙ c.loop-n.invariant
