use Rattle.std.proofs.Common.{refl}
use Rattle.text.proofs.laws.Pieces.{last_piece}
use Rattle.answers.proofs.Saying.{listed_there}
use Rattle.answers.proofs.put_used.Goals as goal

pub returns : goal.returns
returns c = (refl, last_piece _ _ (listed_there _ _ _ c.if-page-past.false c.if-page-past-lt-LONGEST.false c.list.ensures.value c.list.ensures.out_after))
