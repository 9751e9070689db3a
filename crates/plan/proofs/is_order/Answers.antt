use mathlib.Core.Path.{◌∙◌}
use Rattle.plan.proofs.Orders.{names_none, names_no_packet, names_again, names_one, order_ends}
use Rattle.plan.proofs.is_order.Goals as goal

pub returns-then-x-eq0 : goal.returns-then-x-eq0
returns-then-x-eq0 c = names_none _ _ _ _ c.in-Some.ensures.cases.0 c.if-x-eq0.true ∙ c.loop-x.invariant

pub returns-then-count-x : goal.returns-then-count-x
returns-then-count-x c = names_no_packet _ _ _ _ c.in-Some.ensures.cases.0 c.if-x-eq0.false c.if-count-x.true ∙ c.loop-x.invariant

pub returns-then-contains : goal.returns-then-contains
returns-then-contains c = names_again _ _ _ _ c.in-Some.ensures.cases.0 c.if-x-eq0.false c.if-count-x.false _ c.contains.ensures.value c.if-contains.true ∙ c.loop-x.invariant

pub loop-x-preserved : goal.loop-x-preserved
loop-x-preserved c = names_one _ _ _ _ c.in-Some.ensures.cases.0 c.if-x-eq0.false c.if-count-x.false _ c.contains.ensures.value c.if-contains.false ∙ c.loop-x.invariant

pub returns : goal.returns
returns c = order_ends _ _ c.in_default.ensures.cases ∙ c.loop-x.invariant
