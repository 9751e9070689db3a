use Rattle.std.proofs.Common.{sym, ◌∙◌, subst, arith, lit<, ◌<◌, ◌^◌, ◌≡◌, ℕ}
use Rattle.wire.proofs.Loops.{be_none, be_more, be_all, part_length, pow_step, pow_seven}
use Rattle.wire.proofs.be.Goals as goal

pub loop-b-init : goal.loop-b-init
loop-b-init c = (sym (be_none c.args.s.now), lit< tt)

pub overflow_mul-acc : goal.overflow_mul-acc
overflow_mul-acc c = omega (arith, pow_seven c.loop-b.b-index (omega (arith, part_length c.args.s.now c.args.at c.args.n c.requires.1)))

pub overflow_add-acc : goal.overflow_add-acc
overflow_add-acc c = omega (arith, pow_seven c.loop-b.b-index (omega (arith, part_length c.args.s.now c.args.at c.args.n c.requires.1)))

pub loop-b-preserved : goal.loop-b-preserved
loop-b-preserved c =
    (cc (be_more _ c.loop-b.b-index c.loop-b-test.true), omega (arith, pow_step c.loop-b.b-index))

pub returns : goal.returns
returns c =
    let read : c.loop-b.b-index ≡ c.args.n = omega (arith, part_length c.args.s.now c.args.at c.args.n c.requires.1) in
    (c.loop-b.invariant.0 ∙ be_all c.args.s.now c.args.at c.args.n c.loop-b.b-index c.requires.1 read, subst (λ (k : ℕ). c.loop-b.acc < 256 ^ k) read c.loop-b.invariant.1)
