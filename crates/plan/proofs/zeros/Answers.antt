use mathlib.Core.Path.{◌≡◌, ap, ◌∙◌}
use Prim.Native.Nat.{ℕ}
use native.Mathlib.Omega.{arith}
use borrow.Author.Rules.{rules}
use lib.ListN.{drop}
use Rattle.plan.specs.Plan.{trimmed}
use Rattle.plan.proofs.Orders.{zero_goes, digit_stays, none_left_lem}
use Rattle.plan.proofs.zeros.Goals as goal

pub returns-then-digit-ne0 : goal.returns-then-digit-ne0
returns-then-digit-ne0 c = (c.loop-i.auto.i-end, digit_stays _ _ (search rules) c.loop-i-test.true c.if-digit-ne0.true ∙ c.loop-i.invariant)

pub loop-i-preserved : goal.loop-i-preserved
loop-i-preserved c = zero_goes _ _ (search rules) c.loop-i-test.true c.if-digit-ne0.false ∙ c.loop-i.invariant

pub returns : goal.returns
returns c =
    let end : 5 ≡ c.loop-i.i = omega (arith, c.loop-i-test.false, c.loop-i.auto.i-end) in
    (omega arith, none_left_lem 5 c.args.digits (search rules) (omega arith) ∙ ap (λ (k : ℕ). trimmed (drop k c.args.digits)) end ∙ c.loop-i.invariant)
