use native.Mathlib.Omega.{arith}
use Rattle.image.proofs.laws.Stores.{store_low}
use Rattle.undo_call.proofs.Taking.{count_fits}
use Rattle.undo_call.proofs.Finding.{from_low, found_there, never_nothing}
use Rattle.undo_call.proofs.newest_of.Goals as goal

pub overflow_add-first : goal.overflow_add-first
overflow_add-first c = omega (arith, from_low _ c.args.lent.now c.requires.0 c.requires.1 c.args.way _ c.requires.2 _ c.look_from-from.ensures, count_fits c.args.way _ c.args.lent.now c.requires.0 c.requires.1 _ c.requires.2, c.store_at-store.ensures, store_low c.args.way)

pub overflow_add-end : goal.overflow_add-end
overflow_add-end c = omega (arith, count_fits c.args.way _ c.args.lent.now c.requires.0 c.requires.1 _ c.requires.2, c.store_at-store.ensures, store_low c.args.way)

pub slice_bounds-find_newest-count : goal.slice_bounds-find_newest-count
slice_bounds-find_newest-count c = omega (arith, from_low _ c.args.lent.now c.requires.0 c.requires.1 c.args.way _ c.requires.2 _ c.look_from-from.ensures)

pub slice_bounds-find_newest-start : goal.slice_bounds-find_newest-start
slice_bounds-find_newest-start c = omega (arith, from_low _ c.args.lent.now c.requires.0 c.requires.1 c.args.way _ c.requires.2 _ c.look_from-from.ensures)

pub slice_bounds-find_newest-end : goal.slice_bounds-find_newest-end
slice_bounds-find_newest-end c = omega (arith, count_fits c.args.way _ c.args.lent.now c.requires.0 c.requires.1 _ c.requires.2, c.requires.0.long, c.store_at-store.ensures, store_low c.args.way)

pub returns-in_err-found : goal.returns-in_err-found
returns-in_err-found c = absurd (never_nothing _ c.args.lent.now c.requires.0 c.requires.1 _ _ _ _ c.find_newest.ensures.value c.args.way c.store_at-store.ensures c.requires.2 c.requires.3 c.look_from-from.ensures c.in_err-found.was)

pub returns : goal.returns
returns c = found_there _ c.args.lent.now c.requires.0 c.requires.1 _ _ _ _ c.find_newest.ensures.value c.args.way c.store_at-store.ensures c.requires.2 c.look_from-from.ensures _ _ c.in_ok-found.was c.pick-passed.ensures
