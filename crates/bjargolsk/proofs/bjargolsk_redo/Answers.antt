use mathlib.Core.Path.{ap, ◌∙◌}
use Rattle.bjargolsk.specs.Calls.{packed}
use Rattle.bjargolsk.proofs.bjargolsk_redo.Goals as goal

pub returns : goal.returns
returns c = (c.pack.ensures ∙ ap packed c.redo.ensures.0, c.redo.ensures.1)
