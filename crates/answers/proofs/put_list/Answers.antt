use Rattle.std.proofs.Common.{refl}
use Rattle.text.specs.Text.{put_all}
use Rattle.text.proofs.laws.Pieces.{same_pieces}
use Rattle.answers.proofs.Saying.{list_long, list_short, list_used}
use Rattle.answers.proofs.put_list.Goals as goal

pub returns-then-j-used : goal.returns-then-j-used
returns-then-j-used c = (c.put.ensures.0, same_pieces _ (list_long _ _ _ c.if-j-used.true) c.put.ensures.1)

pub returns-then-page-lt-LONGEST : goal.returns-then-page-lt-LONGEST
unfolding put_all
returns-then-page-lt-LONGEST c = (refl, same_pieces _ (list_short _ _ _ c.if-j-used.false c.if-page-lt-LONGEST.true) refl)

pub returns : goal.returns
returns c = (c.put_used.ensures.0, same_pieces _ (list_used _ _ _ c.if-j-used.false c.if-page-lt-LONGEST.false) c.put_used.ensures.1)
