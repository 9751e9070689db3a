-- `text::digit` meets its contract: the tests are those of the definition, in its order. Assumes nothing.
use mathlib.Core.Path.{refl}
use Rattle.wire.proofs.laws.Cases.{else_le, else_lt, if_le, if_lt}
use Rattle.text.specs.Text.{digit_of}
use borrow.Author.Rules.{rules}
use Rattle.text.proofs.digit.Goals as goal

pub returns-then-c-lt48 : goal.returns-then-c-lt48
unfolding digit_of
returns-then-c-lt48 c = record { value = if_lt _ _ c.if-c-lt48.true refl; upper_bound = search rules }

pub returns-then-c-le57 : goal.returns-then-c-le57
unfolding digit_of
returns-then-c-le57 c = record { value = else_lt _ _ c.if-c-lt48.false (if_le _ _ c.if-c-le57.true refl); upper_bound = search rules }

pub returns-then-c-lt65 : goal.returns-then-c-lt65
unfolding digit_of
returns-then-c-lt65 c = record { value = else_lt _ _ c.if-c-lt48.false (else_le _ _ c.if-c-le57.false (if_lt _ _ c.if-c-lt65.true refl)); upper_bound = search rules }

pub returns-then-c-le70 : goal.returns-then-c-le70
unfolding digit_of
returns-then-c-le70 c = record { value = else_lt _ _ c.if-c-lt48.false (else_le _ _ c.if-c-le57.false (else_lt _ _ c.if-c-lt65.false (if_le _ _ c.if-c-le70.true refl))); upper_bound = search rules }

pub returns-then-c-lt97 : goal.returns-then-c-lt97
unfolding digit_of
returns-then-c-lt97 c = record { value = else_lt _ _ c.if-c-lt48.false (else_le _ _ c.if-c-le57.false (else_lt _ _ c.if-c-lt65.false (else_le _ _ c.if-c-le70.false (if_lt _ _ c.if-c-lt97.true refl)))); upper_bound = search rules }

pub returns-then-c-le102 : goal.returns-then-c-le102
unfolding digit_of
returns-then-c-le102 c = record { value = else_lt _ _ c.if-c-lt48.false (else_le _ _ c.if-c-le57.false (else_lt _ _ c.if-c-lt65.false (else_le _ _ c.if-c-le70.false (else_lt _ _ c.if-c-lt97.false (if_le _ _ c.if-c-le102.true refl))))); upper_bound = search rules }

pub returns : goal.returns
unfolding digit_of
returns c = record { value = else_lt _ _ c.if-c-lt48.false (else_le _ _ c.if-c-le57.false (else_lt _ _ c.if-c-lt65.false (else_le _ _ c.if-c-le70.false (else_lt _ _ c.if-c-lt97.false (else_le _ _ c.if-c-le102.false refl))))); upper_bound = search rules }
