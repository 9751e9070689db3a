use native.Mathlib.Omega.{arith}
use mathlib.Core.Path.{refl, ◌∙◌}
use Rattle.wire.proofs.laws.Cases.{if_lt, else_lt, if_not, else_not}
use Rattle.image.specs.Image.{session_in}
use Rattle.inplace.proofs.Marking.{all_tests, parts_long}
use Rattle.inplace.proofs.stores_ok.Goals as goal

pub returns-then-used-ahead-gt-STORE : goal.returns-then-used-ahead-gt-STORE
unfolding session_in
returns-then-used-ahead-gt-STORE c = if_lt _ _ c.if-used-ahead-gt-STORE.true refl ∙ all_tests (session_in c.args.h c.args.lent.now)

pub slice_bounds-marks-end : goal.slice_bounds-marks-end
slice_bounds-marks-end c = omega (arith, c.requires)

pub slice_bounds-store_ok-end : goal.slice_bounds-store_ok-end
slice_bounds-store_ok-end c = omega (arith, c.requires)

pub store_ok-requires : goal.store_ok-requires
store_ok-requires c = ((parts_long c.args.lent.now c.requires).0, (parts_long c.args.lent.now c.requires).1)

pub returns-then-not-store_ok : goal.returns-then-not-store_ok
unfolding session_in
returns-then-not-store_ok c = else_lt _ _ c.if-used-ahead-gt-STORE.false (if_not _ _ c.store_ok.ensures c.if-not-store_ok.true-raw refl) ∙ all_tests (session_in c.args.h c.args.lent.now)

pub slice_bounds-store_ok-end-2 : goal.slice_bounds-store_ok-end-2
slice_bounds-store_ok-end-2 c = omega (arith, c.requires)

pub store_ok-requires-2 : goal.store_ok-requires-2
store_ok-requires-2 c = ((parts_long c.args.lent.now c.requires).0, (parts_long c.args.lent.now c.requires).2)

pub returns : goal.returns
unfolding session_in
returns c = else_lt _ _ c.if-used-ahead-gt-STORE.false (else_not _ _ c.store_ok.ensures c.if-not-store_ok.false-raw c.store_ok-2.ensures) ∙ all_tests (session_in c.args.h c.args.lent.now)
