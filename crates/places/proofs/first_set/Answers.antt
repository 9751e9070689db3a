use mathlib.Core.Path.{sym, ap, ◌∙◌}
use native.Mathlib.Omega.{arith}
use Rattle.places.specs.Places.{set_fault, first_below, first_set}
use Rattle.places.proofs.laws.Below.{first_none, first_more, first_found}
use Rattle.places.proofs.Loops.{starts_apart}
use Rattle.places.proofs.first_set.Goals as goal

pub loop-i-init : goal.loop-i-init
loop-i-init c = first_none _

pub set_fault-found-requires : goal.set_fault-found-requires
set_fault-found-requires c = (omega (arith, c.requires.0, c.loop-i-test.true), omega (arith, c.requires.1, starts_apart c.args.table c.loop-i.i c.args.n c.loop-i-test.true))

pub returns-in-Some : goal.returns-in-Some
unfolding first_set
returns-in-Some c = c.in-Some.is ∙ sym (first_found _ _ c.loop-i.i c.args.n c.loop-i-test.true c.loop-i.invariant (sym c.set_fault-found.ensures ∙ c.in-Some.is))

pub loop-i-preserved : goal.loop-i-preserved
loop-i-preserved c = first_more _ c.loop-i.i c.loop-i.invariant (sym c.set_fault-found.ensures ∙ c.in_default.is)

pub returns : goal.returns
unfolding first_set
returns c = sym (ap (first_below (set_fault c.args.table c.args.d.now)) (omega (arith, c.loop-i-test.false, c.loop-i.auto.i-end)) ∙ c.loop-i.invariant)
