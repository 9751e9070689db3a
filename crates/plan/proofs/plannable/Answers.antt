use Rattle.plan.proofs.Calling.{too_many, by_wanted}
use Rattle.plan.proofs.plannable.Goals as goal

pub returns-then-packets-gt20480 : goal.returns-then-packets-gt20480
returns-then-packets-gt20480 c = too_many _ _ c.if-packets-gt20480.true

pub returns : goal.returns
returns c = by_wanted _ _ c.if-packets-gt20480.false _ c.wanted_ok.ensures
