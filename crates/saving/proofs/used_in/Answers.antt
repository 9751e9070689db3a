use native.Mathlib.Omega.{arith}
use Rattle.saving.proofs.Reading.{used, used_broken}
use Rattle.saving.proofs.used_in.Goals as goal

pub returns-in-Ok : goal.returns-in-Ok
returns-in-Ok c = (used c.args.j.now _ _ c.read.ensures.value c.in-Ok.is, omega arith)
