use Rattle.std.proofs.Common.{rules}
use Rattle.text.specs.Text.{hex_of}
use Rattle.text.proofs.Page.put_hex.Goals as goal

pub returns : goal.returns
unfolding hex_of
returns c = search rules
