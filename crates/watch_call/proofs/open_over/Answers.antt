use Rattle.watch_call.proofs.Opening.{opened_on}
use Rattle.wire.proofs.laws.Pairs.{second_of_two}
use Rattle.watch_call.proofs.open_over.Goals as goal

pub returns-clause-lent_after : goal.returns-clause-lent_after
returns-clause-lent_after c = second_of_two (opened_on c.args.h c.args.lent.now c.requires _ c.work_out.ensures _ _ c.answer_with.ensures c.write.ensures)
