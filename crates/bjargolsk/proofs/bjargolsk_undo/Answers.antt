use mathlib.Core.Path.{ap, ◌∙◌}
use Rattle.bjargolsk.specs.Calls.{packed}
use Rattle.bjargolsk.proofs.bjargolsk_undo.Goals as goal

pub returns : goal.returns
returns c = (c.pack.ensures ∙ ap packed c.undo.ensures.0, c.undo.ensures.1)
