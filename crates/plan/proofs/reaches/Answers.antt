use mathlib.Core.Path.{sym, ◌∙◌}
use native.Mathlib.Omega.{arith}
use Rattle.plan.proofs.Orders.{named_at, place_low}
use Rattle.plan.proofs.Trials.{known_sound, next_drawn, at_the_end, one_fails, one_succeeds}
use Rattle.plan.proofs.reaches.Goals as goal

pub overflow_sub-place : goal.overflow_sub-place
overflow_sub-place c = omega (arith, (named_at _ _ _ c.loop-number-test.true c.loop-number.invariant.1).some)

pub bounds-fine-place : goal.bounds-fine-place
bounds-fine-place c = omega (arith, place_low _ _ c.loop-number-test.true c.loop-number.invariant.1)

pub packet_at-requires : goal.packet_at-requires
packet_at-requires c = omega (arith, place_low _ _ c.loop-number-test.true c.loop-number.invariant.1)

pub attempt-requires : goal.attempt-requires
attempt-requires c =
    let place = place_low _ _ c.loop-number-test.true c.loop-number.invariant.1 in
    (omega (arith, c.loop-number.invariant.0, c.loop-number-test.true, c.requires.2), known_sound _ _ _ _ c.requires.0 place c.packet_at.ensures)

pub returns-in_default : goal.returns-in_default
returns-in_default c = one_fails _ _ _ _ _ c.loop-number-test.true _ c.packet_at.ensures _ c.attempt.ensures c.in_default.is ∙ c.loop-number.invariant.2

pub loop-number-preserved : goal.loop-number-preserved
loop-number-preserved c = (
  next_drawn _ _ _ _ (sym c.in-Some.is ∙ c.attempt.ensures) c.loop-number.invariant.0,
  (named_at _ _ _ c.loop-number-test.true c.loop-number.invariant.1).rest,
  one_succeeds _ _ _ _ _ c.loop-number-test.true _ c.packet_at.ensures _ c.attempt.ensures _ c.in-Some.is ∙ c.loop-number.invariant.2,
)

pub returns : goal.returns
returns c = at_the_end _ _ _ _ _ c.loop-number-test.false ∙ c.loop-number.invariant.2
