-- `text::fits` meets its contract: the product is no more than the most, so the rest decides. Assumes nothing.
use Rattle.text.proofs.Numbers.{fits_not, fits_by}
use Rattle.text.proofs.fits.Goals as goal

pub returns-then-most-value : goal.returns-then-most-value
returns-then-most-value c = fits_not c.args.digit c.args.most c.if-most-value.true

pub returns : goal.returns
returns c = fits_by c.args.digit c.args.most c.if-most-value.false
