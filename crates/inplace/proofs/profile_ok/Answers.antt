use native.Mathlib.Omega.{arith}
use mathlib.Core.Path.{refl}
use Rattle.wire.proofs.laws.Cases.{if_eq, else_eq, if_ne, else_ne, if_not, else_not}
use Rattle.session.specs.Session.{profile_ok}
use Rattle.inplace.proofs.Watching.{both_low, journal_clears, redo_clears}
use Rattle.inplace.proofs.profile_ok.Goals as goal

pub returns-then-h-eq0 : goal.returns-then-h-eq0
unfolding profile_ok
returns-then-h-eq0 c = if_eq _ _ c.if-h-eq0.true refl

pub returns-then-h-ne1 : goal.returns-then-h-ne1
unfolding profile_ok
returns-then-h-ne1 c = else_eq _ _ c.if-h-eq0.false (if_ne _ _ c.if-h-ne1.true refl)

pub slice_bounds-only_clears-end : goal.slice_bounds-only_clears-end
slice_bounds-only_clears-end c = omega (arith, c.requires.0, (both_low c.args.h c.args.lent.now c.requires.1).0)

pub returns-then-not-only_clears : goal.returns-then-not-only_clears
unfolding profile_ok
returns-then-not-only_clears c = else_eq _ _ c.if-h-eq0.false (else_ne _ _ c.if-h-ne1.false (if_not _ _ (journal_clears c.args.h c.args.lent.now c.requires.1 _ c.only_clears.ensures) c.if-not-only_clears.true-raw refl))

pub slice_bounds-only_clears-end-2 : goal.slice_bounds-only_clears-end-2
slice_bounds-only_clears-end-2 c = omega (arith, c.requires.0, (both_low c.args.h c.args.lent.now c.requires.1).1)

pub returns : goal.returns
unfolding profile_ok
returns c = else_eq _ _ c.if-h-eq0.false (else_ne _ _ c.if-h-ne1.false (else_not _ _ (journal_clears c.args.h c.args.lent.now c.requires.1 _ c.only_clears.ensures) c.if-not-only_clears.false-raw (redo_clears c.args.h c.args.lent.now c.requires.1 _ c.only_clears-2.ensures)))
