use native.Mathlib.Omega.{arith}
use Rattle.wire.proofs.laws.Wire.{bytes_of}
use Rattle.saving.proofs.Calls.{up_ill, up_put}
use Rattle.saving.proofs.move_up.Goals as goal

pub returns : goal.returns
returns c = up_put c.args.saved.now c.args.out.now _ _ _ (c.read_base.ensures.value, c.read_base.ensures.d_after) (bytes_of c.args.saved.now (λ i. omega (arith, c.shared_slice_known-1.given i))) c.if-not-read_base.false-raw _ c.put_new.ensures
