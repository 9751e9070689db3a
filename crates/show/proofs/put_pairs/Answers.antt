use Rattle.std.proofs.Common.{rules, refl, ◌∙◌}
use Rattle.wire.proofs.laws.Cases.{if_eq, else_eq}
use Rattle.text.proofs.laws.Pieces.{same_pieces}
use Rattle.show.specs.Show.{pairs_text}
use Rattle.show.proofs.Turns.{set_more, set_end}
use Rattle.show.proofs.put_pairs.Goals as goal

pub returns-then-present-eq0 : goal.returns-then-present-eq0
unfolding pairs_text
returns-then-present-eq0 c = (c.put.ensures.0, same_pieces _ (if_eq _ _ c.if-present-eq0.true refl) c.put.ensures.1)

pub loop-pair-preserved : goal.loop-pair-preserved
loop-pair-preserved c = (search rules, set_more _ _ _ 16 c.loop-pair.pair c.loop-pair.left _ c.loop-pair-test.true c.put_present.ensures.1 ∙ c.loop-pair.invariant.1)

pub returns : goal.returns
unfolding pairs_text
returns c = (c.loop-pair.invariant.0, same_pieces _ (else_eq _ _ c.if-present-eq0.false refl) (set_end _ _ _ 16 c.loop-pair.pair c.loop-pair.left _ c.loop-pair-test.false ∙ c.loop-pair.invariant.1))
