use mathlib.Core.Path.{ap, ◌∙◌}
use Rattle.bjargolsk.specs.Calls.{packed}
use Rattle.bjargolsk.proofs.bjargolsk_forget.Goals as goal

pub returns : goal.returns
returns c = (c.pack.ensures ∙ ap packed c.forget.ensures.0, c.forget.ensures.1)
