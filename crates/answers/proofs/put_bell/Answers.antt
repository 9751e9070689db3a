-- The array holds the doorbell's bytes.
use Rattle.std.proofs.Common.{rules, refl, ◌≡◌, ◌∙◌}
use Rattle.wire.specs.Wire.{to_be}
use Rattle.text.specs.Text.{put_all}
use Rattle.text.proofs.laws.Pieces.{put_all_append, filled}
use Rattle.answers.specs.Answers.{bell_text}
use Rattle.answers.proofs.put_bell.Goals as goal

pub returns : goal.returns
unfolding bell_text put_all
returns c =
    let bytes : c.put_be.new.d ≡ to_be 2 c.args.bell = c.put_be.ensures ∙ filled 2 _ _ refl in
    search (rules, bytes, put_all_append)
