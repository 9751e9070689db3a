use Rattle.packet_sum.proofs.Sums.{rest_joins}
use Rattle.std.proofs.Common.{rules}
use Rattle.packet_sum.proofs.sum.Goals as goal

pub returns-then-all-lt128 : goal.returns-then-all-lt128
returns-then-all-lt128 c = c.rows_and_leftovers.ensures

pub returns : goal.returns
returns c = rest_joins c.args.s.now _ _ _ _ (search rules) c.eight_parts.ensures c.rows_and_leftovers-2.ensures c.joined.ensures
