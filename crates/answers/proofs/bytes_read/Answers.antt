use lib.Seq.{length-take-le}
use mathlib.Core.Path.{sym}
use Rattle.answers.proofs.Saying.{read_all, read_part}
use Rattle.answers.proofs.bytes_read.Goals as goal

pub returns-then-buffer-n : goal.returns-then-buffer-n
returns-then-buffer-n c = read_all _ _ c.be32-n.ensures c.if-buffer-n.true

pub slice_bounds-result-end : goal.slice_bounds-result-end
slice_bounds-result-end c = sym (length-take-le _ _ c.if-buffer-n.false)

pub returns : goal.returns
returns c = read_part _ _ c.be32-n.ensures
