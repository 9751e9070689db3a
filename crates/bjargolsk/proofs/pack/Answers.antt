use mathlib.Core.Path.{refl}
use Rattle.bjargolsk.specs.Calls.{packed}
use Rattle.bjargolsk.proofs.pack.Goals as goal

pub returns : goal.returns
unfolding packed
returns c = refl
