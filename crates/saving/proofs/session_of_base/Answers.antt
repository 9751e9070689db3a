use Rattle.saving.proofs.Reading.{base_read, journal_reads}
use Rattle.saving.proofs.session_of_base.Goals as goal

pub returns : goal.returns
returns c = base_read c.args.b.now _ _ _ _ _ c.base_record-held.ensures c.work_out-worked.ensures c.be16-next.ensures c.pad-journal.ensures c.marks_of-marks.ensures
