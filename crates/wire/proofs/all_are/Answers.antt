use Rattle.wire.proofs.Loops.{are_none, are_next}
use Rattle.wire.proofs.all_are.Goals as goal

pub loop-b-init : goal.loop-b-init
loop-b-init c = are_none _ c.args.s.now

pub loop-b-preserved : goal.loop-b-preserved
loop-b-preserved c = are_next _ _ c.loop-b.b-index _ c.loop-b-test.true c.loop-b.invariant
