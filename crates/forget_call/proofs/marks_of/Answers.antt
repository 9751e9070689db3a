use mathlib.Core.Path.{sym}
use native.Mathlib.Omega.{arith}
use Rattle.forget_call.proofs.Walks.{stays_in, few, none_walked, marks_wide, walked_next, walked_all}
use Rattle.forget_call.proofs.marks_of.Goals as goal

pub loop-at-init : goal.loop-at-init
loop-at-init c = none_walked c.args.j.now

pub mark-requires : goal.mark-requires
mark-requires c = (marks_wide _ c.requires.0 _ _ _ c.loop-at.invariant, few _ c.requires.0 _ _ c.loop-at.invariant.came c.loop-at-test.true c.requires.1)

pub overflow_add-at : goal.overflow_add-at
overflow_add-at c = omega (arith, c.requires.1, stays_in _ c.requires.0 _ _ c.loop-at.invariant.came c.loop-at-test.true _ c.body_len.ensures)

pub overflow_add-at-in-loop-at : goal.overflow_add-at-in-loop-at
overflow_add-at-in-loop-at c = omega (arith, c.requires.1, stays_in _ c.requires.0 _ _ c.loop-at.invariant.came c.loop-at-test.true _ c.body_len.ensures)

pub overflow_add-count : goal.overflow_add-count
overflow_add-count c = omega (arith, few _ c.requires.0 _ _ c.loop-at.invariant.came c.loop-at-test.true c.requires.1)

pub loop-at-preserved : goal.loop-at-preserved
loop-at-preserved c = walked_next _ c.requires.0 _ _ _ c.loop-at.invariant c.loop-at-test.true c.requires.1 _ c.body_len.ensures _ c.mark.ensures

pub returns : goal.returns
returns c = walked_all _ c.requires.0 _ _ _ c.loop-at.invariant c.loop-at-test.false
