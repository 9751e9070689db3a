-- `parting::refusal_of` meets its contract: the first trace's before the second's. Assumes nothing.
use Rattle.parting.proofs.Told.{first_refused, second_refused, none_refused}
use Rattle.parting.proofs.refusal_of.Goals as goal

pub returns-in-Err : goal.returns-in-Err
returns-in-Err c = first_refused _ _ c.next.ensures c.in-Err.is

pub returns-in-Err-next : goal.returns-in-Err-next
returns-in-Err-next c = second_refused _ _ c.next.ensures c.next-2.ensures c.in_default.is c.in-Err-next.is

pub returns : goal.returns
returns c = none_refused _ _ c.next.ensures c.next-2.ensures c.in_default.is c.in_default-next.is
