use mathlib.Core.Path.{sym}
use native.Mathlib.Omega.{arith}
use lib.Seq.{length-take-le}
use Rattle.wire.proofs.laws.Wire.{bytes_of}
use Rattle.saving.proofs.Writing.{part_long, saved_put}
use lib.Dec.{lit<}
use Rattle.wire.proofs.laws.Pairs.{first_of_two, second_of_two}
use Rattle.saving.proofs.put_saved.Goals as goal

pub slice_bounds-put_part-end : goal.slice_bounds-put_part-end
slice_bounds-put_part-end c = sym (length-take-le 230 c.args.b.now (omega (arith, c.requires.0)))

pub put_part-requires : goal.put_part-requires
put_part-requires c = omega (arith, length-take-le 230 c.args.b.now (omega (arith, c.requires.0)), c.requires.1)

pub returns : goal.returns
returns c = record { out_after = first_of_two (saved_put c.args.b.now (bytes_of c.args.b.now (λ i. omega (arith, c.shared_slice_known-1.given i))) c.requires.0 c.args.out.now _ _ _ _ _ _ _ c.put_part.ensures c.put_part-2.ensures c.put_part-3.ensures c.put_part-4.ensures c.put_part-5.ensures c.put_part-6.ensures c.put_part-7.ensures); b_len = second_of_two (saved_put c.args.b.now (bytes_of c.args.b.now (λ i. omega (arith, c.shared_slice_known-1.given i))) c.requires.0 c.args.out.now _ _ _ _ _ _ _ c.put_part.ensures c.put_part-2.ensures c.put_part-3.ensures c.put_part-4.ensures c.put_part-5.ensures c.put_part-6.ensures c.put_part-7.ensures) }
