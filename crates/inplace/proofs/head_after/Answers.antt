use native.Mathlib.Omega.{arith}
use Rattle.inplace.proofs.Carrying.{made_fits}
use Rattle.inplace.proofs.head_after.Goals as goal

pub overflow_add-next : goal.overflow_add-next
overflow_add-next c = omega (arith, made_fits _ _ _ c.made.ensures c.requires)
