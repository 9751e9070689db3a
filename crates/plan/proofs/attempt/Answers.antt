use Rattle.plan.proofs.Trials.{unsound, long_enough, by_verdict}
use native.Mathlib.Omega.{arith}
use mathlib.Core.Path.{refl, ap}
use Rattle.std.specs.Prelude.{Some}
use Rattle.plan.specs.Plan.{trial_by}
use Rattle.plan.proofs.attempt.Goals as goal

pub returns-then-not-fine : goal.returns-then-not-fine
returns-then-not-fine c = unsound _ _ _ c.requires.1 c.if-not-fine.true-raw

pub bounds-command-1 : goal.bounds-command-1
bounds-command-1 c = omega (arith, long_enough c.args.t _ _ c.requires.1 c.if-not-fine.false-raw)

pub returns-in-Refuse : goal.returns-in-Refuse
unfolding trial_by
returns-in-Refuse c = by_verdict _ _ _ c.requires.1 c.if-not-fine.false-raw _ c.work_out-worked.ensures _ c.data_part.ensures _ c.judge-judged.ensures _ c.in-Refuse.is _ refl

pub returns-in-Poll : goal.returns-in-Poll
unfolding trial_by
returns-in-Poll c = by_verdict _ _ _ c.requires.1 c.if-not-fine.false-raw _ c.work_out-worked.ensures _ c.data_part.ensures _ c.judge-judged.ensures _ c.in-Poll.is _ refl

pub returns-in-Make : goal.returns-in-Make
unfolding trial_by
returns-in-Make c = by_verdict _ _ _ c.requires.1 c.if-not-fine.false-raw _ c.work_out-worked.ensures _ c.data_part.ensures _ c.judge-judged.ensures _ c.in-Make.is _ (ap Some c.made.ensures)
