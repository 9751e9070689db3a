use Rattle.std.proofs.Common.{◌∙◌, lit<}
use Rattle.record.specs.Record.{no_throttles}
use Rattle.sets.specs.Sets.{one_set, throttles_of}
use Rattle.sets.proofs.Reading.{left_more, left_refused, left_none}
use Rattle.sets.proofs.read_sets.Goals as goal

pub loop-set-preserved : goal.loop-set-preserved
loop-set-preserved c =
    let step = c.in-Some.ensures.steps in
    left_more one_set 12 (lit< tt) no_throttles c.loop-set.invariant _ _ step.1.0 step.1.1 _ _ c.in_ok-one_set.ensures step.0

pub returns-in_err-one_set : goal.returns-in_err-one_set
unfolding throttles_of
returns-in_err-one_set c n h =
    let step = c.in-Some.ensures.steps in
    c.from_residual.ensures ∙ left_refused one_set 12 (lit< tt) no_throttles c.loop-set.invariant _ _ step.1.0 step.1.1 c.in_err-one_set.ensures n h

pub returns : goal.returns
unfolding throttles_of
returns c = left_none one_set 12 (lit< tt) no_throttles c.loop-set.invariant c.in-None.ensures.steps.1.0
