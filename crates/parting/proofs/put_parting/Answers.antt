use Rattle.std.proofs.Common.{rules}
use Rattle.parting.proofs.Told.{parting_pieces, parting_short}
use Rattle.text.proofs.laws.Pieces.{pieces, same_pieces}
use Rattle.parting.proofs.put_parting.Goals as goal

pub returns-clause-puts : goal.returns-clause-puts
returns-clause-puts c = (
  search rules,
  same_pieces _ (parting_pieces _ _ c.parting_at-parting.ensures c.part_shared-part.ensures) (pieces _ _ _ c.put_shared.ensures.puts.1 c.put_refusal.ensures.1),
)

pub returns-clause-fits : goal.returns-clause-fits
returns-clause-fits c = parting_short _ _ c.parting_at-parting.ensures c.part_shared-part.ensures c.put_shared.ensures.fits
