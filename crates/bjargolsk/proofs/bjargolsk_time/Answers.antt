use mathlib.Core.Path.{ap, ◌∙◌}
use Rattle.bjargolsk.specs.Calls.{packed}
use Rattle.bjargolsk.proofs.bjargolsk_time.Goals as goal

pub returns : goal.returns
returns c = (c.pack.ensures ∙ ap packed c.time.ensures.0, c.time.ensures.1)
