use native.Mathlib.Omega.{arith}
use Rattle.parting.proofs.Agreeing.{agreed_none, they_differ, agreed_next, all_agree}
use Rattle.parting.proofs.agree.Goals as goal

pub loop-i-init : goal.loop-i-init
loop-i-init c = agreed_none _ _

pub returns-then-first-i : goal.returns-then-first-i
returns-then-first-i c = they_differ c.loop-i.invariant (omega (arith, c.loop-i-test.true, c.min-n.ensures)) (omega (arith, c.loop-i-test.true, c.min-n.ensures)) c.if-first-i.true

pub loop-i-preserved : goal.loop-i-preserved
loop-i-preserved c = agreed_next c.loop-i.invariant (omega (arith, c.loop-i-test.true, c.min-n.ensures)) (omega (arith, c.loop-i-test.true, c.min-n.ensures)) c.if-first-i.false

pub returns : goal.returns
returns c = all_agree c.loop-i.invariant c.min-n.ensures c.loop-i-test.false c.loop-i.auto.i-end
