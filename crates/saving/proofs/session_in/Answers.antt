use Rattle.saving.proofs.Reading.{session_read}
use Rattle.saving.proofs.session_in.Goals as goal

pub returns : goal.returns
returns c = session_read c.args.b.now _ _ _ _ _ _ _ _ _ c.record_in-held.ensures c.work_out-worked.ensures c.be16-next.ensures c.used_in-used.ensures.0 c.used_in-ahead.ensures.0 c.part_at-journal.ensures c.part_at-redo.ensures c.part_at-marks.ensures c.timer_from-timer.ensures
