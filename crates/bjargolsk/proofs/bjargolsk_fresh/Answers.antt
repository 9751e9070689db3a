use Rattle.bjargolsk.proofs.Leaving.{fresh_kept, fresh_left}
use Rattle.bjargolsk.proofs.bjargolsk_fresh.Goals as goal

pub returns-then-lent-ne-IMAGE : goal.returns-then-lent-ne-IMAGE
returns-then-lent-ne-IMAGE c = fresh_kept c.args.lent.now _ _ c.pack.ensures c.if-lent-ne-IMAGE.true c.answer_with.ensures

pub returns : goal.returns
returns c = fresh_left c.args.lent.now _ _ c.pack-2.ensures c.if-lent-ne-IMAGE.false c.answer_with-2.ensures _ _ c.fresh.ensures c.write.ensures
