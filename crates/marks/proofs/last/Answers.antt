use native.Mathlib.Omega.{arith}
use Rattle.std.proofs.Common.{◌≡◌, ℕ, subst}
use Rattle.marks.proofs.Seen.{Seen, seen_first, seen_all, seen_end, seen_more}
use Rattle.marks.proofs.last.Goals as goal

pub place_in-place-requires : goal.place_in-place-requires
place_in-place-requires c = (c.requires, omega arith)

pub loop-number-init : goal.loop-number-init
loop-number-init c = seen_first _ _ c.place_in-place.ensures

pub place_in-next-requires : goal.place_in-next-requires
place_in-next-requires c = (c.requires, omega (arith, c.loop-number-test.true))

pub returns-then-next-eq0 : goal.returns-then-next-eq0
returns-then-next-eq0 c = seen_end c.loop-number.invariant c.place_in-next.ensures c.if-next-eq0.true

pub loop-number-preserved : goal.loop-number-preserved
loop-number-preserved c = seen_more c.loop-number.invariant c.place_in-next.ensures c.loop-number-test.true c.if-next-eq0.false

pub returns : goal.returns
returns c =
    let all : c.loop-number.number ≡ 31 = omega arith in
    seen_all (subst (λ (n : ℕ). Seen c.args.m.now n c.loop-number.place) all c.loop-number.invariant) (omega arith)
