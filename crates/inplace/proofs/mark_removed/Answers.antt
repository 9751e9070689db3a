use Rattle.inplace.proofs.Marking.{still_less, marked_less}
use Rattle.inplace.proofs.mark_removed.Goals as goal

pub returns-then-last-at : goal.returns-then-last-at
returns-then-last-at c = still_less c.args.lent.now c.requires.0 _ _ c.requires.1 _ c.last-last.ensures c.if-last-at.true

pub returns : goal.returns
returns c = marked_less c.args.lent.now c.requires.0 _ _ c.requires.1 _ c.last-last.ensures c.if-last-at.false _ c.put_be.ensures
