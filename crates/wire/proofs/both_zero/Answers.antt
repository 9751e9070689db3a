use Rattle.std.proofs.Common.{ap, ◌∙◌, arith, ℕ, rules, get_or, ◌≡◌}
use Rattle.std.specs.Prelude.{eqb, max}
use Rattle.wire.proofs.Loops.{are_none, are_next, higher_zero}
use Rattle.wire.proofs.both_zero.Goals as goal

pub loop-i-init : goal.loop-i-init
loop-i-init c = (are_none _ c.args.a.now, are_none _ c.args.b.now)

pub loop-i-preserved : goal.loop-i-preserved
loop-i-preserved c =
    let t : c.max-top.result ≡ max c.loop-i.top (get_or c.args.a.now c.loop-i.i 0) = search rules in
    let h : c.max-high.result ≡ max c.loop-i.high (get_or c.args.b.now c.loop-i.i 0) = search rules in (
      ap (λ (n : ℕ). eqb n 0) t ∙ higher_zero c.loop-i.top _ ∙ are_next _ c.args.a.now c.loop-i.i _ (omega arith) c.loop-i.invariant.0,
      ap (λ (n : ℕ). eqb n 0) h ∙ higher_zero c.loop-i.high _ ∙ are_next _ c.args.b.now c.loop-i.i _ (omega arith) c.loop-i.invariant.1,
    )
