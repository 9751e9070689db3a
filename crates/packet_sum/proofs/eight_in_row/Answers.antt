use Rattle.packet_sum.proofs.Sums.{row_none, row_more, rows_all}
use Rattle.std.proofs.Common.{◌∙◌, arith}
use Rattle.packet_sum.proofs.eight_in_row.Goals as goal

pub loop-k-init : goal.loop-k-init
loop-k-init c = row_none c.args.s.now

pub loop-k-preserved : goal.loop-k-preserved
loop-k-preserved c = row_more _ c.loop-k.k _ _ _ _ _ _ _ _ _ _ _ _ _ _ _ _ c.loop-k.invariant c.plus-a.ensures c.plus-b.ensures c.plus-c.ensures c.plus-d.ensures c.plus-e.ensures c.plus-f.ensures c.plus-g.ensures c.plus-h.ensures

pub returns : goal.returns
returns c = c.eight_joined.ensures ∙ c.loop-k.invariant ∙ rows_all _ c.loop-k.k c.args.n (omega arith)
