use Rattle.packet_sum.proofs.Sums.{sum_none, sum_more}
use Rattle.std.proofs.Common.{sym}
use Rattle.packet_sum.proofs.one_by_one.Goals as goal

pub loop-b-init : goal.loop-b-init
loop-b-init c = sym sum_none

pub loop-b-preserved : goal.loop-b-preserved
loop-b-preserved c = sum_more _ c.loop-b.b-index _ _ c.loop-b.invariant c.plus-acc.ensures
