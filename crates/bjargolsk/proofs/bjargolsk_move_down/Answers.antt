use mathlib.Core.Path.{ap, ◌∙◌}
use Rattle.bjargolsk.specs.Calls.{packed}
use Rattle.bjargolsk.proofs.bjargolsk_move_down.Goals as goal

pub returns : goal.returns
returns c = (c.pack.ensures ∙ ap packed c.move_down.ensures.0, c.move_down.ensures.1)
