use Rattle.std.proofs.Common.{rules}
use Rattle.text.specs.Text.{put_all}
use Rattle.text.proofs.Page.put_number.Goals as goal

pub returns : goal.returns
unfolding put_all
returns c = search rules
