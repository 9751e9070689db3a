use Rattle.undo_call.proofs.Taking.{put_done}
use Rattle.undo_call.proofs.take.Goals as goal

pub returns : goal.returns
returns c =
    let a = put_done c.args.way _ c.args.lent.now c.requires.0 c.args.at _ _ c.put.ensures _
    c.in-Some.is _ c.record_ok.ensures _ _ _ c.requires.4 c.if-not-record_ok.false c.kind.ensures c.carry_on.ensures in
    record { value = a.0; lent_after = a.1 }
