-- `text::glyph` meets its contract: the test is that of the definition. Assumes nothing.
use Rattle.text.specs.Text.{hex_digit}
use Rattle.wire.proofs.laws.Cases.{if_lt, else_lt}
use mathlib.Core.Path.{refl}
use Rattle.text.proofs.glyph.Goals as goal

pub returns-then-d-lt10 : goal.returns-then-d-lt10
unfolding hex_digit
returns-then-d-lt10 c = if_lt _ _ c.if-d-lt10.true refl

pub returns-else-d-lt10 : goal.returns-else-d-lt10
unfolding hex_digit
returns-else-d-lt10 c = else_lt _ _ c.if-d-lt10.false refl
