use mathlib.Core.Path.{ap, ◌∙◌}
use Rattle.bjargolsk.specs.Calls.{packed}
use Rattle.bjargolsk.proofs.bjargolsk_sbe.Goals as goal

pub returns : goal.returns
returns c = (c.pack.ensures ∙ ap packed c.alone.ensures.0, c.alone.ensures.1)
