use mathlib.Core.Path.{sym}
use native.Mathlib.Omega.{arith}
use lib.Seq.{length-take-le}
use Rattle.wire.proofs.laws.Wire.{bytes_of}
use Rattle.saving.proofs.Writing.{base_put}
use Rattle.wire.proofs.laws.Pairs.{first_of_two, second_of_two}
use Rattle.saving.proofs.put_base.Goals as goal

pub slice_bounds-copy-end : goal.slice_bounds-copy-end
slice_bounds-copy-end c = sym (length-take-le 230 c.args.b.now (omega (arith, c.requires.0)))

pub copy-requires : goal.copy-requires
copy-requires c = omega (arith, length-take-le 230 c.args.b.now (omega (arith, c.requires.0)), c.requires.3)

pub returns : goal.returns
returns c = record { out_after = first_of_two (base_put c.args.b.now (bytes_of c.args.b.now (λ i. omega (arith, c.shared_slice_known-1.given i))) c.requires.0 _ c.requires.1 c.requires.2 c.args.out.now _ _ _ c.copy.ensures c.copy-2.ensures c.copy-3.ensures); b_len = second_of_two (base_put c.args.b.now (bytes_of c.args.b.now (λ i. omega (arith, c.shared_slice_known-1.given i))) c.requires.0 _ c.requires.1 c.requires.2 c.args.out.now _ _ _ c.copy.ensures c.copy-2.ensures c.copy-3.ensures) }
