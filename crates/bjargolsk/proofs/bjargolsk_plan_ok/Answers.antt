use mathlib.Core.Path.{ap, ◌∙◌}
use Rattle.bjargolsk.specs.Calls.{packed}
use Rattle.bjargolsk.proofs.bjargolsk_plan_ok.Goals as goal

pub returns : goal.returns
returns c = c.pack.ensures ∙ ap packed c.plan_ok.ensures
