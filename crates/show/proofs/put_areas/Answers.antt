use Rattle.std.proofs.Common.{rules}
use Rattle.text.proofs.laws.Pieces.{pieces}
use Rattle.show.specs.Show.{areas_text}
use Rattle.show.proofs.put_areas.Goals as goal

pub returns : goal.returns
unfolding areas_text
returns c = (search rules, pieces _ _ _ c.put_area.ensures.1 c.put_area-2.ensures.1)
