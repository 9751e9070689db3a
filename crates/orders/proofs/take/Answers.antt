-- `orders::take` meets its contract: the part lent has as many bytes as there is room. Assumes nothing.
use Rattle.orders.proofs.Reading.{part_read}
use native.Mathlib.Omega.{arith}
use Rattle.wire.proofs.laws.Pairs.{first_of_two, second_of_two}
use Rattle.orders.proofs.take.Goals as goal

pub returns : goal.returns
returns c = record { reads_as = first_of_two (part_read _ _ _ _ _ (omega arith) (omega arith) (omega arith) c.take_bytes.ensures.takes); sent_after = first_of_two (second_of_two (part_read _ _ _ _ _ (omega arith) (omega arith) (omega arith) c.take_bytes.ensures.takes)); count_le_room = second_of_two (second_of_two (part_read _ _ _ _ _ (omega arith) (omega arith) (omega arith) c.take_bytes.ensures.takes)) }
