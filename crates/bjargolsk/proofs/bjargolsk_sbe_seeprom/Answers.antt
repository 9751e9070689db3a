use mathlib.Core.Path.{ap, ◌∙◌}
use Rattle.bjargolsk.specs.Calls.{packed}
use Rattle.bjargolsk.proofs.bjargolsk_sbe_seeprom.Goals as goal

pub returns : goal.returns
returns c = (c.pack.ensures ∙ ap packed c.sbe.ensures.0, c.sbe.ensures.1)
