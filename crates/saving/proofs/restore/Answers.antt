use Rattle.saving.proofs.Calls.{restore_length, restore_ill, restore_done}
use borrow.Author.Rules.{rules}
use Rattle.saving.proofs.restore.Goals as goal

pub returns : goal.returns
returns c = restore_done c.args.saved.now c.args.session.now _ _ _ (c.read_saved.ensures.value, c.read_saved.ensures.d_after) c.if-session-ne-IMAGE.false (search rules) c.if-not-read_saved.false-raw _ c.copy.ensures c.answer_with-2.ensures
