use Rattle.orders.proofs.Reading.{bytes_as}
use Rattle.orders.specs.Orders.{plain_bytes}
use borrow.Author.Rules.{rules}
use Rattle.orders.proofs.plain_bytes.Goals as goal

pub returns : goal.returns
unfolding plain_bytes
returns c = record { sent_after = bytes_as c.take-taken.ensures.reads_as c.take-taken.ensures.sent_after _ _ _ _ c.with_bytes.ensures.value; count_bound = search rules }
