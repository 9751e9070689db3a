-- The fields are written one after the other, then the sum of what is written.
use lib.Seq.{length-take-le}
use mathlib.Core.Path.{refl, sym}
use Rattle.packet.specs.Packet.{replied}
use Rattle.wire.proofs.laws.Cases.{if_lt, else_lt}
use Rattle.packet.proofs.Written.{reply_put}
use native.Mathlib.Omega.{arith}
use Rattle.packet.proofs.reply.Goals as goal

pub returns-then-d-lt7 : goal.returns-then-d-lt7
unfolding replied
returns-then-d-lt7 c = if_lt _ _ c.if-d-lt7.true refl

pub returns-then-d-part : goal.returns-then-d-part
unfolding replied
returns-then-d-part c = else_lt _ _ c.if-d-lt7.false (if_lt _ _ c.if-d-part.true refl)

pub slice_bounds-sum-end-2 : goal.slice_bounds-sum-end-2
slice_bounds-sum-end-2 c = sym (length-take-le _ _ (omega arith))

pub returns : goal.returns
returns c =
    reply_put _ _ _ _ _ _ _ _ _ _ c.if-d-lt7.false c.if-d-part.false c.copy.ensures c.put_be.ensures c.copy-2.ensures c.sum-sum.ensures c.put_be-2.ensures
