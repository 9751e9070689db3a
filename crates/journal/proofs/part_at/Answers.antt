use Rattle.std.proofs.Common.{rules}
use Rattle.journal.proofs.Parts.{copied_from}
use Rattle.journal.proofs.part_at.Goals as goal

pub returns : goal.returns
returns g c = copied_from c.args.b.now _ _ c.args.at g.row.N (search rules) (search rules) c.copy.ensures
