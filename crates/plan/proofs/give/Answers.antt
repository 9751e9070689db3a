use mathlib.Core.Path.{refl, sym, ap, ◌∙◌}
use Prim.Native.Nat.{ℕ}
use Rattle.std.specs.Prelude.{Option}
use Rattle.plan.specs.Plan.{given}
use Rattle.plan.proofs.Searching.{order_given}
use Rattle.plan.proofs.give.Goals as goal

pub returns : goal.returns
returns c =
    let q = order_given _ _ c.digits-digits.ensures c.zeros-from.result c.zeros-from.ensures.1 c.args.order.now _ c.copy.ensures _ refl in
    record {
      value = q.0 ∙ ap (λ (v : Option ℕ). (given v c.args.order.now).told) (sym c.in-Some.is);
      order_after = q.1 ∙ ap (λ (v : Option ℕ). (given v c.args.order.now).order) (sym c.in-Some.is);
    }
