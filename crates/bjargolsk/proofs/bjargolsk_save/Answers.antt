use mathlib.Core.Path.{ap, ◌∙◌}
use Rattle.bjargolsk.specs.Calls.{packed}
use Rattle.bjargolsk.proofs.bjargolsk_save.Goals as goal

pub returns : goal.returns
returns c = (c.pack.ensures ∙ ap packed c.save.ensures.0, c.save.ensures.1)
