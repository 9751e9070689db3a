use Rattle.packet_sum.proofs.Sums.{parts_none, parts_more, parts_joined}
use Rattle.std.proofs.Common.{arith}
use Rattle.packet_sum.proofs.eight_parts.Goals as goal

pub loop-i-init : goal.loop-i-init
loop-i-init c = parts_none _ _

pub loop-i-preserved : goal.loop-i-preserved
loop-i-preserved c = parts_more _ _ _ c.loop-i.invariant c.plus-a.ensures c.plus-b.ensures c.plus-c.ensures c.plus-d.ensures c.plus-e.ensures c.plus-f.ensures c.plus-g.ensures c.plus-h.ensures

pub returns : goal.returns
returns c = parts_joined _ c.args.n c.loop-i.i (omega arith) c.loop-i.invariant c.eight_joined.ensures
