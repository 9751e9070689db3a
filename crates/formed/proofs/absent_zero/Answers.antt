use Rattle.std.proofs.Common.{sym, ◌∙◌, arith}
use Rattle.formed.proofs.Loops.{pairs_bad, pairs_more, pairs_end}
use Rattle.formed.proofs.absent_zero.Goals as goal

pub returns-then-not-pair_ok : goal.returns-then-not-pair_ok
returns-then-not-pair_ok c =
    pairs_bad c.loop-i.i c.loop-i.left _ (omega arith) (sym c.pair_ok.ensures ∙ c.if-not-pair_ok.true) ∙ c.loop-i.invariant

pub loop-i-preserved : goal.loop-i-preserved
loop-i-preserved c =
    pairs_more c.loop-i.i c.loop-i.left _ (omega arith) (sym c.pair_ok.ensures ∙ c.if-not-pair_ok.false) ∙ c.loop-i.invariant

pub returns : goal.returns
returns c = pairs_end c.loop-i.i c.loop-i.left _ (omega arith) ∙ c.loop-i.invariant
