-- `orders::send` meets its contract: what was read is judged as the definition judges it. Assumes nothing.
use Rattle.orders.proofs.Reading.{bytes_as}
use Rattle.orders.specs.Orders.{send_of}
use borrow.Author.Rules.{rules}
use Rattle.orders.proofs.send.Goals as goal

pub returns : goal.returns
unfolding send_of
returns c = record { sent_after = bytes_as c.take-taken.ensures.reads_as c.take-taken.ensures.sent_after _ _ _ _ c.with_bytes.ensures.value; count_bound = search rules }
