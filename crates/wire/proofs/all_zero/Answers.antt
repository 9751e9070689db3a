use mathlib.Core.Path.{sym}
use native.Mathlib.Omega.{arith}
use lib.ListN.{length}
use lib.Seq.{length-take-le}
use Rattle.wire.proofs.Loops.{half_fits, halves_long, halves_bad, halves_good}
use Rattle.wire.proofs.all_zero.Goals as goal

pub returns-then-n-lt64 : goal.returns-then-n-lt64
returns-then-n-lt64 c = c.all_are.ensures

pub slice_bounds-both_zero-end : goal.slice_bounds-both_zero-end
slice_bounds-both_zero-end c = sym (length-take-le _ _ (omega (arith, half_fits (length c.args.s.now))))

pub slice_bounds-both_zero-end-2 : goal.slice_bounds-both_zero-end-2
slice_bounds-both_zero-end-2 c = omega (arith, half_fits (length c.args.s.now))

pub both_zero-requires : goal.both_zero-requires
both_zero-requires c = halves_long c.args.s.now c.if-n-lt64.false

pub returns-then-not-both_zero : goal.returns-then-not-both_zero
returns-then-not-both_zero c = halves_bad c.args.s.now c.if-n-lt64.false _ c.both_zero.ensures c.if-not-both_zero.true-raw

pub returns : goal.returns
returns c = halves_good c.args.s.now c.if-n-lt64.false _ _ c.both_zero.ensures c.if-not-both_zero.false-raw c.all_are-2.ensures
