use Rattle.std.proofs.Common.{rules}
use Rattle.text.proofs.laws.Pieces.{pieces}
use Rattle.words.specs.Words.{words_in, begun_by}
use Rattle.answers.specs.Answers.{help_text}
use Rattle.answers.proofs.help.Goals as goal

pub returns : goal.returns
unfolding help_text words_in begun_by
returns c = (
  search rules,
  pieces _ _ _ c.put_words.ensures.1 (pieces _ _ _ c.put_decimal.ensures.1 (pieces _ _ _ c.put_words-2.ensures.1 c.put.ensures.1)),
)
