use Rattle.packet_sum.proofs.Sums.{eight_join}
use Rattle.packet_sum.proofs.eight_joined.Goals as goal

pub returns : goal.returns
returns c = eight_join _ _ _ _ _ _ _ _ _ _ _ _ _ _ _ c.joined.ensures c.joined-2.ensures c.joined-front.ensures c.joined-3.ensures c.joined-4.ensures c.joined-5.ensures c.joined-6.ensures
