use Rattle.std.proofs.Common.{refl, rules}
use Rattle.entries.proofs.laws.Ahead.{walked_next, walked_all}
use Rattle.listing.proofs.Lines.{lined_none, lined_next}
use Rattle.listing.proofs.put_lines.Goals as goal

pub loop-kind-init : goal.loop-kind-init
loop-kind-init c = (refl, lined_none _ (search rules))

pub loop-kind-preserved : goal.loop-kind-preserved
loop-kind-preserved c =
    let w = c.loop-kind.invariant.1 in
    (search rules, walked_next w _ _ c.in-Some.ensures.steps (lined_next _ _ w.given w.holds c.put_line.ensures.1))

pub returns : goal.returns
returns c = (c.loop-kind.invariant.0, walked_all c.loop-kind.invariant.1 c.in-None.ensures.steps.0)
