use Rattle.journal.proofs.Parts.{entry_sized}
use borrow.Author.Rules.{rules}
use Rattle.journal.proofs.entry_len.Goals as goal

pub returns-clause-sized : goal.returns-clause-sized
returns-clause-sized c = entry_sized c.args.e (search rules) (search rules)
