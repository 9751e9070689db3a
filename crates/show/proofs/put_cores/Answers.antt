use Rattle.std.proofs.Common.{rules, refl, ◌∙◌}
use Rattle.wire.proofs.laws.Cases.{if_eq, else_eq}
use Rattle.text.proofs.laws.Pieces.{same_pieces}
use Rattle.show.specs.Show.{cores_text}
use Rattle.show.proofs.Turns.{set_more, set_end}
use Rattle.show.proofs.put_cores.Goals as goal

pub returns-then-mask-eq0 : goal.returns-then-mask-eq0
unfolding cores_text
returns-then-mask-eq0 c = (c.put.ensures.0, same_pieces _ (if_eq _ _ c.if-mask-eq0.true refl) c.put.ensures.1)

pub loop-core-preserved : goal.loop-core-preserved
loop-core-preserved c = (search rules, set_more _ _ _ 32 c.loop-core.core c.loop-core.left _ c.loop-core-test.true c.put_core.ensures.1 ∙ c.loop-core.invariant.1)

pub returns : goal.returns
unfolding cores_text
returns c = (c.loop-core.invariant.0, same_pieces _ (else_eq _ _ c.if-mask-eq0.false refl) (set_end _ _ _ 32 c.loop-core.core c.loop-core.left _ c.loop-core-test.false ∙ c.loop-core.invariant.1))
