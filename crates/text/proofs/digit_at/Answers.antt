-- `text::digit_at` meets its contract: the tests are those of the definition, in its order. Assumes nothing.
use mathlib.Core.Path.{refl}
use Rattle.wire.proofs.laws.Cases.{else_lt, if_lt}
use Rattle.text.specs.Text.{digit_at}
use borrow.Author.Rules.{rules}
use Rattle.text.proofs.digit_at.Goals as goal

pub returns-then-at-s : goal.returns-then-at-s
unfolding digit_at
returns-then-at-s c = record { value = if_lt _ _ c.if-at-s.true c.digit.ensures.value; upper_bound = search rules }

pub returns : goal.returns
unfolding digit_at
returns c = record { value = else_lt _ _ c.if-at-s.false refl; upper_bound = search rules }
