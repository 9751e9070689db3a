use Rattle.plan.proofs.Calling.{unopened_plan, refused_plan, few_enough, no_room_lem, ids_left, numbered, the_least}
use Rattle.plan.proofs.plan.Goals as goal

pub returns-in_default : goal.returns-in_default
returns-in_default c = unopened_plan _ _ _ c.in_default.ensures _ _ c.answer_with.ensures

pub returns-then-not-plannable : goal.returns-then-not-plannable
returns-then-not-plannable c = refused_plan _ _ _ _ c.in-Some.ensures _ c.plannable.ensures c.if-not-plannable.true _ _ c.answer_with-then-not-plannable.ensures

pub returns-then-order-lt5 : goal.returns-then-order-lt5
returns-then-order-lt5 c = no_room_lem _ _ _ _ c.in-Some.ensures _ c.plannable.ensures c.if-not-plannable.false _ c.if-order-lt5.true _ c.answer_with-then-order-lt5.ensures

pub search-requires : goal.search-requires
search-requires c =
    let opens = c.in-Some.ensures in
    (ids_left _ _ _ _ opens _ c.plannable.ensures c.if-not-plannable.false _ c.start_of-start.ensures, few_enough _ _ _ _ opens _ c.plannable.ensures c.if-not-plannable.false)

pub give-requires : goal.give-requires
give-requires c = (numbered _ _ _ _ c.in-Some.ensures _ c.plannable.ensures c.if-not-plannable.false _ c.start_of-start.ensures _ c.search.ensures, c.if-order-lt5.false)

pub returns : goal.returns
returns c =
    the_least _ _ _ _ c.in-Some.ensures _ c.plannable.ensures c.if-not-plannable.false _ c.start_of-start.ensures _ c.if-order-lt5.false _ c.search.ensures _ _
    c.give.ensures.value c.give.ensures.order_after
