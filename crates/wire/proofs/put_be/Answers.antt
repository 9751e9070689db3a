use Rattle.std.proofs.Common.{sym, ◌∙◌, refl, arith}
use Rattle.wire.proofs.Loops.{put_more, put_end}
use Rattle.wire.proofs.put_be.Goals as goal

pub loop-i-init : goal.loop-i-init
loop-i-init c = refl

pub loop-i-preserved : goal.loop-i-preserved
loop-i-preserved c = put_more _ c.loop-i.i _ _ c.loop-i.d (omega arith) (omega arith) refl ∙ c.loop-i.invariant

pub returns : goal.returns
returns c = sym (put_end _ c.loop-i.i _ _ (omega arith)) ∙ c.loop-i.invariant
