use mathlib.Core.Path.{ap, ◌∙◌}
use Rattle.bjargolsk.specs.Calls.{packed}
use Rattle.bjargolsk.proofs.bjargolsk_restore.Goals as goal

pub returns : goal.returns
returns c = (c.pack.ensures ∙ ap packed c.restore.ensures.0, c.restore.ensures.1)
