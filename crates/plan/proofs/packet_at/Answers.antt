use Rattle.plan.proofs.Packets.{none_there, last_there, whole_there}
use Rattle.plan.proofs.packet_at.Goals as goal

pub returns-then-packets-at : goal.returns-then-packets-at
returns-then-packets-at c = none_there _ _ c.if-packets-at.true

pub returns-then-packets-at-le4096 : goal.returns-then-packets-at-le4096
returns-then-packets-at-le4096 c = last_there _ _ c.if-packets-at-le4096.true

pub returns : goal.returns
returns c = whole_there _ _
