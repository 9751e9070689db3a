use Rattle.std.proofs.Common.{◌∙◌}
use Rattle.text.proofs.Turns.{same_pointwise}
use Rattle.text.proofs.same.Goals as goal

pub returns : goal.returns
returns c = c.eq.ensures ∙ same_pointwise _ _
