-- `text::number_at` meets its contract: its test is that of the definition. Assumes nothing.
use Rattle.text.proofs.Numbers.{number_none, number_there}
use Rattle.text.proofs.number_at.Goals as goal

pub returns-then-digit_at-gt9 : goal.returns-then-digit_at-gt9
returns-then-digit_at-gt9 c = number_none _ _ _ c.digit_at.ensures.value c.if-digit_at-gt9.true

pub returns : goal.returns
returns c = number_there _ _ _ c.digit_at.ensures.value c.if-digit_at-gt9.false c.read_digits.ensures
