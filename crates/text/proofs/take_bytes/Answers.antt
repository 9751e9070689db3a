-- `text::take_bytes` meets its contract: what is left to read, read now, gives the end. Assumes nothing.
use Rattle.text.proofs.Turns.{left_all, left_end, left_blank, left_over, left_no_high, left_no_low, left_byte}
use mathlib.Core.Path.{refl, sym, ◌∙◌}
use lib.Seq.{length-take-le}
use native.Mathlib.Omega.{arith}
use borrow.Author.Rules.{rules}
use Rattle.text.proofs.take_bytes.Goals as goal

pub loop-at-init : goal.loop-at-init
loop-at-init c = (search rules, refl, left_all _ _ _)

pub loop-at-preserved-then-is_blank : goal.loop-at-preserved-then-is_blank
loop-at-preserved-then-is_blank c = (search rules, search rules, left_blank c.loop-at.invariant.2 c.loop-at-test.true (sym c.is_blank.ensures ∙ c.if-is_blank.true))

pub returns-then-out-n : goal.returns-then-out-n
returns-then-out-n c = record { takes = left_over c.loop-at.invariant.2 c.loop-at-test.true (sym c.is_blank.ensures ∙ c.if-is_blank.false) (omega arith); prefix_len = (omega arith, sym (length-take-le _ _ (omega arith))) }

pub returns-then-high-gt15 : goal.returns-then-high-gt15
returns-then-high-gt15 c = record { takes = left_no_high c.loop-at.invariant.2 c.loop-at-test.true (sym c.is_blank.ensures ∙ c.if-is_blank.false) (omega arith) c.digit-high.ensures.value c.if-high-gt15.true; prefix_len = (omega arith, sym (length-take-le _ _ (omega arith))) }

pub returns-then-low-gt15 : goal.returns-then-low-gt15
returns-then-low-gt15 c = record { takes = left_no_low c.loop-at.invariant.2 c.loop-at-test.true (sym c.is_blank.ensures ∙ c.if-is_blank.false) (omega arith) c.digit-high.ensures.value c.digit_at-low.ensures.value c.if-high-gt15.false c.if-low-gt15.true; prefix_len = (omega arith, sym (length-take-le _ _ (omega arith))) }

pub loop-at-preserved : goal.loop-at-preserved
loop-at-preserved c = (search rules, search rules, left_byte c.loop-at.invariant.2 c.loop-at-test.true (sym c.is_blank.ensures ∙ c.if-is_blank.false) (omega arith) c.digit-high.ensures.value c.digit_at-low.ensures.value c.if-high-gt15.false c.if-low-gt15.false (omega arith))

pub returns : goal.returns
returns c = record { takes = left_end c.loop-at.invariant.2 c.loop-at-test.false; prefix_len = (omega arith, sym (length-take-le _ _ (omega arith))) }
