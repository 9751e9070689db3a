-- The words left, put now, give the end.
use Rattle.std.proofs.Common.{rules, refl, ◌∙◌}
use Rattle.words.proofs.Walk.{words_more, words_end}
use Rattle.words.proofs.put_words.Goals as goal

pub loop-at-init : goal.loop-at-init
loop-at-init c = (refl, refl)

pub loop-at-preserved : goal.loop-at-preserved
loop-at-preserved c = (search rules, words_more _ c.loop-at.at c.loop-at-test.true c.find-len.ensures.value _ c.put.ensures.1 ∙ c.loop-at.invariant.1)

pub returns : goal.returns
returns c = (c.loop-at.invariant.0, words_end _ c.loop-at.at c.loop-at-test.false _ ∙ c.loop-at.invariant.1)
