use Rattle.std.proofs.Common.{rules, ◌≡◌, ◌∙◌}
use Rattle.text.specs.Text.{ascii}
use Rattle.places.specs.Reasons.{words_for}
use Rattle.answers.proofs.Words.{reason_words}
use Rattle.answers.proofs.put_reason.Goals as goal

pub returns : goal.returns
returns c =
    let words : c.nth.result.now ≡ ascii (words_for c.args.reason) = c.nth.ensures ∙ reason_words _ in
    search (rules, words)
