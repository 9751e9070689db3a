use Rattle.std.proofs.Common.{refl, ap, ◌∙◌}
use Rattle.text.specs.Text.{put_all}
use Rattle.text.proofs.laws.Pieces.{same_pieces}
use Rattle.answers.specs.Answers.{data_text}
use Rattle.answers.proofs.Saying.{read_no_request, read_no_response, read_other, read_refused, read_done}
use Rattle.answers.proofs.put_read.Goals as goal

pub returns-then-request-lt32 : goal.returns-then-request-lt32
unfolding put_all
returns-then-request-lt32 c = (refl, same_pieces _ (read_no_request _ _ _ c.if-request-lt32.true) refl)

pub returns-then-response-lt32 : goal.returns-then-response-lt32
unfolding put_all
returns-then-response-lt32 c = (refl, same_pieces _ (read_no_response _ _ _ c.if-request-lt32.false c.if-response-lt32.true) refl)

pub returns-then-be16-ne55043 : goal.returns-then-be16-ne55043
unfolding put_all
returns-then-be16-ne55043 c =
    (refl, same_pieces _ (read_other _ _ _ c.if-request-lt32.false c.if-response-lt32.false c.be16.ensures c.if-be16-ne55043.true) refl)

pub returns-then-be32-ne0 : goal.returns-then-be32-ne0
unfolding put_all
returns-then-be32-ne0 c = (
  refl,
  same_pieces _
      (read_refused _ _ _ c.if-request-lt32.false c.if-response-lt32.false c.be16.ensures c.if-be16-ne55043.false c.be32.ensures c.if-be32-ne0.true)
      refl,
)

pub returns : goal.returns
returns c = (
  c.put_data.ensures.0,
  same_pieces _
      (ap data_text c.bytes_read.ensures
      ∙ read_done _ _ _ c.if-request-lt32.false c.if-response-lt32.false c.be16.ensures c.if-be16-ne55043.false c.be32.ensures c.if-be32-ne0.false)
      c.put_data.ensures.1,
)
