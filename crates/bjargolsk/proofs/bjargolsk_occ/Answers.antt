use mathlib.Core.Path.{ap, ◌∙◌}
use Rattle.bjargolsk.specs.Calls.{packed}
use Rattle.bjargolsk.proofs.bjargolsk_occ.Goals as goal

pub returns : goal.returns
returns c = (c.pack.ensures ∙ ap packed c.occ.ensures.0, c.occ.ensures.1)
