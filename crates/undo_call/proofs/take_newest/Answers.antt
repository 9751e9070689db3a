use native.Mathlib.Omega.{arith}
use mathlib.Core.Path.{refl, subst}
use Rattle.image.proofs.laws.Stores.{store_low}
use Rattle.undo_call.specs.Undo.{NewestFound, none_left}
use Rattle.undo_call.proofs.Taking.{none_held, sum_fits, count_fits, by_newest, at_low, entry_bad, entry_good, entry_ends}
use Rattle.undo_call.proofs.Finding.{marks_before}
use Rattle.undo_call.proofs.take_newest.Goals as goal

pub returns-then-used-eq0 : goal.returns-then-used-eq0
unfolding none_left
returns-then-used-eq0 c =
    let a = none_held c.args.way _ c.args.lent.now c.requires.0 c.requires.1 _ c.pick-used.ensures _ _ c.pick.ensures c.answer_with.ensures c.if-used-eq0.true in
    record { value = a.0; lent_after = a.1 }

pub overflow_add-start : goal.overflow_add-start
overflow_add-start c = omega (arith, count_fits c.args.way _ c.args.lent.now c.requires.0 c.requires.1 _ c.pick-used.ensures, at_low c.args.way _ c.args.lent.now c.requires.0 c.requires.1 _ c.pick-used.ensures c.if-used-eq0.false _ (subst (NewestFound c.args.way _) c.in-Some.is c.newest_of.ensures), c.store_at-store.ensures, store_low c.args.way)

pub slice_bounds-get-count : goal.slice_bounds-get-count
slice_bounds-get-count c = omega (arith, at_low c.args.way _ c.args.lent.now c.requires.0 c.requires.1 _ c.pick-used.ensures c.if-used-eq0.false _ (subst (NewestFound c.args.way _) c.in-Some.is c.newest_of.ensures))

pub slice_bounds-get-start : goal.slice_bounds-get-start
slice_bounds-get-start c = omega (arith, at_low c.args.way _ c.args.lent.now c.requires.0 c.requires.1 _ c.pick-used.ensures c.if-used-eq0.false _ (subst (NewestFound c.args.way _) c.in-Some.is c.newest_of.ensures))

pub returns-in_default-get : goal.returns-in_default-get
returns-in_default-get c =
    let a = by_newest c.args.way _ c.args.lent.now c.requires.0 c.requires.1 _ c.pick-used.ensures c.if-used-eq0.false _ (subst (NewestFound c.args.way _) c.in-Some.is c.newest_of.ensures) _ _ (entry_bad c.args.way _ c.args.lent.now c.requires.0 _ c.store_at-store.ensures _ c.pick-used.ensures (count_fits c.args.way _ c.args.lent.now c.requires.0 c.requires.1 _ c.pick-used.ensures) _ (at_low c.args.way _ c.args.lent.now c.requires.0 c.requires.1 _ c.pick-used.ensures c.if-used-eq0.false _ (subst (NewestFound c.args.way _) c.in-Some.is c.newest_of.ensures)) _ c.get.ensures _ _ _ c.answer_with-in_default-get.ensures c.in_default-get.is refl) in
    record { value = a.0; lent_after = a.1 }

pub take-requires : goal.take-requires
take-requires c = (c.requires.0, entry_ends c.args.way _ c.args.lent.now c.requires.0 _ c.store_at-store.ensures _ c.pick-used.ensures (count_fits c.args.way _ c.args.lent.now c.requires.0 c.requires.1 _ c.pick-used.ensures) _ (at_low c.args.way _ c.args.lent.now c.requires.0 c.requires.1 _ c.pick-used.ensures c.if-used-eq0.false _ (subst (NewestFound c.args.way _) c.in-Some.is c.newest_of.ensures)) _ c.get.ensures _ c.in-Some-get.is, sum_fits c.args.way _ c.args.lent.now c.requires.0 c.requires.1, marks_before c.args.way _ c.args.lent.now c.requires.0 c.requires.1 _ c.pick-used.ensures c.if-used-eq0.false _ (subst (NewestFound c.args.way _) c.in-Some.is c.newest_of.ensures), ((subst (NewestFound c.args.way _) c.in-Some.is c.newest_of.ensures)).2)

pub returns : goal.returns
returns c =
    let a = by_newest c.args.way _ c.args.lent.now c.requires.0 c.requires.1 _ c.pick-used.ensures c.if-used-eq0.false _ (subst (NewestFound c.args.way _) c.in-Some.is c.newest_of.ensures) _ _ (entry_good c.args.way _ c.args.lent.now c.requires.0 _ c.store_at-store.ensures _ c.pick-used.ensures (count_fits c.args.way _ c.args.lent.now c.requires.0 c.requires.1 _ c.pick-used.ensures) _ (at_low c.args.way _ c.args.lent.now c.requires.0 c.requires.1 _ c.pick-used.ensures c.if-used-eq0.false _ (subst (NewestFound c.args.way _) c.in-Some.is c.newest_of.ensures)) _ c.get.ensures _ _ _ _ _ c.in-Some-get.is refl (c.take.ensures.value, c.take.ensures.lent_after)) in
    record { value = a.0; lent_after = a.1 }
