use Rattle.packet_sum.proofs.Sums.{rest_joins}
use Rattle.std.proofs.Common.{rules}
use Rattle.packet_sum.proofs.rows_and_leftovers.Goals as goal

pub returns : goal.returns
returns c = rest_joins c.args.s.now _ _ _ _ (search rules) c.eight_in_row.ensures c.one_by_one.ensures c.joined.ensures
