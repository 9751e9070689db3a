-- `io::decimal` made the digits.
use Rattle.std.proofs.Common.{ap, ◌∙◌, ◌∷◌, List, ℕ, []}
use Rattle.text.specs.Text.{put_all}
use Rattle.text.specs.Pages.{sheet_of}
use Rattle.text.proofs.laws.Decimal.{digits_decimal}
use Rattle.text.proofs.Page.put_decimal.Goals as goal

pub returns : goal.returns
returns c = (
  c.put.ensures.0,
  c.put.ensures.1 ∙ ap (λ (x : List ℕ). put_all (sheet_of c.args.self.now) (x ∷ [])) (c.decimal-k.ensures.digits ∙ digits_decimal _ _ c.decimal-k.ensures.len),
)
