use Rattle.plan.proofs.Searching.{too_long_lem, no_order, order_of_five, an_order}
use Rattle.plan.specs.Plan.{packets_in}
use native.Mathlib.Omega.{arith}
use Rattle.plan.proofs.passes.Goals as goal

pub returns-then-order-gt5 : goal.returns-then-order-gt5
returns-then-order-gt5 c = too_long_lem _ _ _ _ c.if-order-gt5.true

pub overflow_cast-count : goal.overflow_cast-count
unfolding packets_in
overflow_cast-count c = omega (arith, c.requires.2)

pub returns-then-not-is_order : goal.returns-then-not-is_order
returns-then-not-is_order c = no_order _ _ _ _ c.if-order-gt5.false _ c.is_order.ensures c.if-not-is_order.true-raw

pub reaches-requires : goal.reaches-requires
unfolding packets_in
reaches-requires c = (c.requires.0, c.requires.1, c.if-order-gt5.false, order_of_five c.args.packets.now 0 c.args.start _ c.if-order-gt5.false _ c.is_order.ensures c.requires.2 c.if-not-is_order.false-raw)

pub returns : goal.returns
returns c = an_order _ _ _ _ c.if-order-gt5.false _ c.is_order.ensures c.if-not-is_order.false-raw _ c.reaches.ensures
