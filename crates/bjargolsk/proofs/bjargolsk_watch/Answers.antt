use mathlib.Core.Path.{ap, ◌∙◌}
use Rattle.bjargolsk.specs.Calls.{packed}
use Rattle.bjargolsk.proofs.bjargolsk_watch.Goals as goal

pub returns : goal.returns
returns c = (c.pack.ensures ∙ ap packed c.watch.ensures.0, c.watch.ensures.1)
