use Rattle.plan.proofs.Calling.{unopened, refused, few_enough, ids_left, not_accepted, accepted}
use Rattle.plan.proofs.plan_ok.Goals as goal

pub returns-in_default : goal.returns-in_default
returns-in_default c = unopened _ _ _ c.in_default.ensures _ _ c.answer_with.ensures

pub returns-then-not-plannable : goal.returns-then-not-plannable
returns-then-not-plannable c = refused _ _ _ _ c.in-Some.ensures _ c.plannable.ensures c.if-not-plannable.true _ _ c.answer_with-then-not-plannable.ensures

pub passes-requires : goal.passes-requires
passes-requires c =
    let opens = c.in-Some.ensures in
    (c.sounds.ensures, ids_left _ _ _ _ opens _ c.plannable.ensures c.if-not-plannable.false _ c.start_of-start.ensures, few_enough _ _ _ _ opens _ c.plannable.ensures c.if-not-plannable.false)

pub returns-then-not-passes : goal.returns-then-not-passes
returns-then-not-passes c =
    not_accepted _ _ _ _ c.in-Some.ensures _ c.plannable.ensures c.if-not-plannable.false _ c.start_of-start.ensures _ _ c.passes.ensures c.if-not-passes.true _
    c.answer_with-then-not-passes.ensures

pub returns : goal.returns
returns c = accepted _ _ _ _ c.in-Some.ensures _ c.plannable.ensures c.if-not-plannable.false _ c.start_of-start.ensures _ _ c.passes.ensures c.if-not-passes.false
