use native.Mathlib.Omega.{arith}
use Rattle.inplace.proofs.laws.Marked.{place_low}
use Rattle.inplace.proofs.Marking.{none_more, unmarked_more, marked_more, next_room}
use Rattle.inplace.proofs.mark_added.Goals as goal

pub overflow_add-start : goal.overflow_add-start
overflow_add-start c = omega (arith, c.requires, place_low c.args.lent.now c.requires.0 _ c.requires.1 _ c.last-last.ensures)

pub slice_bounds-find_newest-count : goal.slice_bounds-find_newest-count
slice_bounds-find_newest-count c = omega (arith, place_low c.args.lent.now c.requires.0 _ c.requires.1 _ c.last-last.ensures)

pub slice_bounds-find_newest-start : goal.slice_bounds-find_newest-start
slice_bounds-find_newest-start c = omega (arith, place_low c.args.lent.now c.requires.0 _ c.requires.1 _ c.last-last.ensures)

pub returns-in_default : goal.returns-in_default
returns-in_default c = none_more c.args.lent.now c.requires.0 _ c.requires.1 c.requires.2 _ c.last-last.ensures _ c.find_newest.ensures.value c.in_default.is

pub returns-then-newest-ne31 : goal.returns-then-newest-ne31
returns-then-newest-ne31 c = unmarked_more c.args.lent.now c.requires.0 _ c.requires.1 c.requires.2 _ c.last-last.ensures _ c.find_newest.ensures.value _ c.in-Some.is c.if-newest-ne31.true

pub put_be-requires : goal.put_be-requires
put_be-requires c = next_room c.args.lent.now c.requires.0 _ c.requires.1 c.requires.2 _ c.last-last.ensures _ c.find_newest.ensures.value _ c.in-Some.is c.if-newest-ne31.false

pub returns : goal.returns
returns c = marked_more c.args.lent.now c.requires.0 _ c.requires.1 c.requires.2 _ c.last-last.ensures _ c.find_newest.ensures.value _ c.in-Some.is c.if-newest-ne31.false _ c.put_be.ensures
