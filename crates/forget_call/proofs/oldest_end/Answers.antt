use native.Mathlib.Omega.{arith}
use Rattle.forget_call.proofs.Walks.{none_came, stays_in, came_next, too_few, found_end}
use Rattle.forget_call.proofs.oldest_end.Goals as goal

pub returns-then-j-at : goal.returns-then-j-at
returns-then-j-at c = too_few _ c.requires _ _ c.loop.invariant _ c.if-j-at.true c.loop-test.true

pub overflow_add-at : goal.overflow_add-at
overflow_add-at c = omega (arith, stays_in _ c.requires _ _ c.loop.invariant (omega (arith, c.if-j-at.false)) _ c.body_len.ensures)

pub overflow_add-at-in-loop : goal.overflow_add-at-in-loop
overflow_add-at-in-loop c = omega (arith, stays_in _ c.requires _ _ c.loop.invariant (omega (arith, c.if-j-at.false)) _ c.body_len.ensures)
