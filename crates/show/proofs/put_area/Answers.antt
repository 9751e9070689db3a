-- The two arrays hold the numbers' bytes.
use Rattle.std.proofs.Common.{rules, refl, ◌≡◌, ◌∙◌}
use Rattle.wire.specs.Wire.{to_be}
use Rattle.text.specs.Text.{put_all}
use Rattle.text.proofs.laws.Pieces.{put_all_append, filled}
use Rattle.show.specs.Show.{area_text}
use Rattle.show.proofs.put_area.Goals as goal

pub returns : goal.returns
unfolding area_text put_all
returns c =
    let address : c.put_be.new.d ≡ to_be 8 c.args.area.address = c.put_be.ensures ∙ filled 8 _ _ refl in
    let size : c.put_be-2.new.d ≡ to_be 4 c.args.area.size = c.put_be-2.ensures ∙ filled 4 _ _ refl in
    search (rules, address, size, put_all_append)
