use native.Mathlib.Omega.{arith}
use Rattle.wire.proofs.laws.Wire.{bytes_of}
use Rattle.saving.proofs.Holding.{used_fits}
use Rattle.saving.proofs.Calls.{down_ill, down_formed, down_used, down_not, down_put}
use borrow.Author.Rules.{rules}
use Rattle.saving.proofs.move_down.Goals as goal

pub put_old-requires : goal.put_old-requires
put_old-requires c = (search rules, down_used c.args.saved.now c.args.out.now (record { answer = 0; small = 0; beside = 0 }) _ _ (c.read_saved.ensures.value, c.read_saved.ensures.d_after) (bytes_of c.args.saved.now (λ i. omega (arith, c.shared_slice_known-1.given i))) c.if-not-read_saved.false-raw _ c.read_head-h.ensures.value, used_fits _ _ c.read_head-h.ensures.value (down_formed c.args.saved.now c.args.out.now (record { answer = 0; small = 0; beside = 0 }) _ _ (c.read_saved.ensures.value, c.read_saved.ensures.d_after) (bytes_of c.args.saved.now (λ i. omega (arith, c.shared_slice_known-1.given i))) c.if-not-read_saved.false-raw _ c.read_head-h.ensures.value))

pub returns : goal.returns
returns c = down_put c.args.saved.now c.args.out.now _ _ _ (c.read_saved.ensures.value, c.read_saved.ensures.d_after) (bytes_of c.args.saved.now (λ i. omega (arith, c.shared_slice_known-1.given i))) c.if-not-read_saved.false-raw _ c.read_head-h.ensures.value _ c.goes_down.ensures c.if-not-goes_down.false-raw _ c.put_old.ensures
