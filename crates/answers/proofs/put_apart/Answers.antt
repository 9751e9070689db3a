use Rattle.std.proofs.Common.{ℕ, List, ap, arith, ◌∙◌, ◌∷◌, []}
use Rattle.text.specs.Text.{put_all}
use Rattle.text.specs.Pages.{sheet_of}
use Rattle.answers.proofs.Saying.{listed_apart}
use Rattle.answers.proofs.put_apart.Goals as goal

pub returns : goal.returns
returns c = (c.put.ensures.0, c.put.ensures.1 ∙ ap (λ (s : List ℕ). put_all (sheet_of c.args.page.now) (s ∷ [])) (listed_apart _ _ (omega arith) c.list-n.ensures.value c.list-n.ensures.out_after))
