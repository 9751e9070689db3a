-- `words::nth` meets its contract: the word wanted is the one left to count to among the words left. Assumes nothing.
use mathlib.Core.Path.{refl}
use Rattle.words.specs.Words.{word_at}
use Rattle.words.proofs.Walk.{word_here, word_later, word_none}
use Rattle.words.proofs.nth.Goals as goal

pub loop-at-init : goal.loop-at-init
unfolding word_at
loop-at-init c = refl

pub returns-then-left-eq0 : goal.returns-then-left-eq0
returns-then-left-eq0 c = word_here _ c.loop-at.at c.loop-at-test.true c.find-len.ensures.value c.if-left-eq0.true c.loop-at.invariant

pub loop-at-preserved : goal.loop-at-preserved
loop-at-preserved c = word_later _ c.loop-at.at c.loop-at-test.true c.find-len.ensures.value c.if-left-eq0.false c.loop-at.invariant

pub returns : goal.returns
returns c = word_none _ c.loop-at.at c.loop-at-test.false c.loop-at.left c.loop-at.invariant
