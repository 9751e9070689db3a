use Rattle.std.proofs.Common.{◌∙◌, ap, sym, lit<}
use Rattle.std.specs.Option.{option_map}
use Rattle.sets.specs.declared.Frus.{Frus}
use Rattle.sets.specs.Sets.{empty_frus, one_fru, thermal_of}
use Rattle.sets.proofs.Reading.{left_more, left_refused, left_none}
use Rattle.sets.proofs.read_frus.Goals as goal

pub loop-set-preserved : goal.loop-set-preserved
loop-set-preserved c =
    let step = c.in-Some.ensures.steps in
    left_more one_fru 4 (lit< tt) empty_frus c.loop-set.invariant _ _ step.1.0 step.1.1 _ _ (sym c.one_fru.ensures ∙ c.in_ok-t.was) step.0

pub returns-in_err-t : goal.returns-in_err-t
unfolding thermal_of
returns-in_err-t c n h =
    let step = c.in-Some.ensures.steps in
    c.from_residual.ensures
    ∙ ap (option_map (λ (t : Frus). t.bytes)) (left_refused one_fru 4 (lit< tt) empty_frus c.loop-set.invariant _ _ step.1.0 step.1.1 (sym c.one_fru.ensures ∙ c.in_err-t.was) n h)

pub returns : goal.returns
unfolding thermal_of
returns c n h = ap (option_map (λ (t : Frus). t.bytes)) (left_none one_fru 4 (lit< tt) empty_frus c.loop-set.invariant c.in-None.ensures.steps.1.0 n h)
