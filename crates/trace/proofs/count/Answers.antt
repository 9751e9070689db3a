use Rattle.std.proofs.Common.{◌≡◌, None, Ok, ap, ◌∙◌, arith, rules}
use Rattle.entries.proofs.Turns.{passed_none, count_fits}
use Rattle.trace.specs.Trace.{trace_table}
use Rattle.trace.proofs.Counting.{counted_to_end, counted_to_fault, one_more}
use Rattle.trace.proofs.count.Goals as goal

pub loop-n-init : goal.loop-n-init
loop-n-init c = (0, passed_none trace_table c.args.t.now)

pub slice_bounds-next-start : goal.slice_bounds-next-start
slice_bounds-next-start c = c.loop-n.invariant.1.place.fits

pub overflow_add-count : goal.overflow_add-count
overflow_add-count c =
    let more = one_more c.loop-n.invariant.1 c.next.ensures (c.in-Ok-Some.is ∙ ap Ok c.in-Ok-Some.field-0-is) in
    omega (arith, more.1, count_fits more.2)

pub overflow_add-at : goal.overflow_add-at
overflow_add-at c = omega (arith, (one_more c.loop-n.invariant.1 c.next.ensures (c.in-Ok-Some.is ∙ ap Ok c.in-Ok-Some.field-0-is)).1)

pub loop-n-smaller : goal.loop-n-smaller
loop-n-smaller c =
    let more = one_more c.loop-n.invariant.1 c.next.ensures (c.in-Ok-Some.is ∙ ap Ok c.in-Ok-Some.field-0-is) in
    omega (arith, more.0, more.1)

pub loop-n-preserved : goal.loop-n-preserved
loop-n-preserved c = (_, (one_more c.loop-n.invariant.1 c.next.ensures (c.in-Ok-Some.is ∙ ap Ok c.in-Ok-Some.field-0-is)).2)

pub returns-in_default : goal.returns-in_default
returns-in_default c =
    let none : c.in_default.field-0 ≡ None = search rules in
    counted_to_end c.loop-n.invariant.1 c.next.ensures (c.in_default.is ∙ ap Ok none)

pub returns-in_default-2 : goal.returns-in_default-2
returns-in_default-2 c = counted_to_fault c.loop-n.invariant.1 c.next.ensures c.in_default.is
