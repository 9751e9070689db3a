-- `text::read_digits` meets its contract: what is left to read, read now, gives the number. Assumes nothing.
use Rattle.text.proofs.Numbers.{digits_none, digits_end, digits_stop, digits_over, digits_more}
use mathlib.Core.Path.{sym, ◌∙◌}
use borrow.Author.Tests.{leb-true, leb-false}
use native.Mathlib.Omega.{arith}
use Rattle.text.proofs.read_digits.Goals as goal

pub loop-i-init : goal.loop-i-init
loop-i-init c = digits_none _ _ _

pub returns-then-next-gt9 : goal.returns-then-next-gt9
returns-then-next-gt9 c = digits_stop c.loop-i.invariant c.loop-i-test.true c.digit-next.ensures.value c.if-next-gt9.true

pub returns-then-not-fits : goal.returns-then-not-fits
returns-then-not-fits c =
    digits_over c.loop-i.invariant c.loop-i-test.true c.digit-next.ensures.value c.if-next-gt9.false (leb-false _ _ (sym c.fits.ensures ∙ c.if-not-fits.true))

pub overflow_mul-value : goal.overflow_mul-value
overflow_mul-value c = omega (arith, leb-true _ _ (sym c.fits.ensures ∙ c.if-not-fits.false))

pub overflow_add-value : goal.overflow_add-value
overflow_add-value c = omega (arith, leb-true _ _ (sym c.fits.ensures ∙ c.if-not-fits.false))

pub loop-i-preserved : goal.loop-i-preserved
loop-i-preserved c =
    digits_more c.loop-i.invariant c.loop-i-test.true c.digit-next.ensures.value c.if-next-gt9.false (leb-true _ _ (sym c.fits.ensures ∙ c.if-not-fits.false))

pub returns : goal.returns
returns c = digits_end c.loop-i.invariant c.loop-i-test.false
