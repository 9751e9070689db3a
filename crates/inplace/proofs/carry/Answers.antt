use Rattle.std.proofs.Common.{refl}
use native.Mathlib.Omega.{arith}
use Rattle.inplace.proofs.Carrying.{end_fits}
use Rattle.inplace.proofs.Standing.{is_marked, done_in}
use Rattle.inplace.proofs.carry.Goals as goal

pub enter_back-requires : goal.enter_back-requires
enter_back-requires c = is_marked _ c.args.lent.now c.requires.0 c.requires.1

pub overflow_cast-used : goal.overflow_cast-used
overflow_cast-used c = omega (arith, end_fits 2048 _ _ _ _ c.enter_back.ensures.value c.in-Some.is)

pub returns : goal.returns
returns c =
    let a = done_in c.args.lent.now c.requires.0 c.args.h c.args.e _ _ _ refl c.enter_back.ensures.value c.enter_back.ensures.entered c.requires.1 _ c.in-Some.is _ c.cut.ensures _ _ c.head_after-after.ensures c.write_head.ensures in
    record { value = a.0; lent_after = a.1 }
