-- `orders::load` meets its contract: what was read is judged as the definition judges it. Assumes nothing.
use Rattle.orders.proofs.Reading.{image_as}
use Rattle.orders.specs.Orders.{load_of}
use borrow.Author.Rules.{rules}
use Rattle.orders.proofs.load.Goals as goal

pub returns : goal.returns
unfolding load_of
returns c = record { sent_after = image_as c.take.ensures.reads_as c.take.ensures.sent_after c.with_image.ensures.value; count_bound = search rules }
