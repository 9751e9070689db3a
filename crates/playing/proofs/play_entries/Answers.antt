use Rattle.std.proofs.Common.{◌≡◌, None, Ok, ap, ◌∙◌, rules, refl}
use native.Mathlib.Omega.{arith}
use Rattle.playing.proofs.Playing.{playing_none, playing_next, played_all, played_stop, number_fits, stands_at_lem, next_ends, next_some, next_whole}
use Rattle.playing.proofs.play_entries.Goals as goal

pub loop-n-init : goal.loop-n-init
loop-n-init c = (omega arith, refl, refl, playing_none _ _ _ c.requires)

pub overflow_add-past : goal.overflow_add-past
overflow_add-past c = omega (arith, next_ends c.args.t.now _ _ (stands_at_lem c.args.t.now _ (c.in-Ok-Some.is ∙ ap Ok c.in-Ok-Some.field-0-is) c.next.ensures) c.loop-n.invariant.0)

pub overflow_add-number : goal.overflow_add-number
overflow_add-number c = omega (arith, number_fits c.loop-n.invariant.3)

pub slice_bounds-play_entry-end : goal.slice_bounds-play_entry-end
slice_bounds-play_entry-end c = omega (arith, next_ends c.args.t.now _ _ (stands_at_lem c.args.t.now _ (c.in-Ok-Some.is ∙ ap Ok c.in-Ok-Some.field-0-is) c.next.ensures) c.loop-n.invariant.0)

pub play_entry-requires : goal.play_entry-requires
play_entry-requires c = next_whole c.args.t.now _ _ (stands_at_lem c.args.t.now _ (c.in-Ok-Some.is ∙ ap Ok c.in-Ok-Some.field-0-is) c.next.ensures)

pub loop-n-smaller : goal.loop-n-smaller
loop-n-smaller c =
    let stands = stands_at_lem c.args.t.now c.loop-n.at (c.in-Ok-Some.is ∙ ap Ok c.in-Ok-Some.field-0-is) c.next.ensures in
    omega (arith, next_some c.args.t.now c.loop-n.at _ stands, next_ends c.args.t.now c.loop-n.at _ stands c.loop-n.invariant.0)

pub loop-n-preserved : goal.loop-n-preserved
loop-n-preserved c =
    let stands = stands_at_lem c.args.t.now _ (c.in-Ok-Some.is ∙ ap Ok c.in-Ok-Some.field-0-is) c.next.ensures in
    (next_ends c.args.t.now _ _ stands c.loop-n.invariant.0, search rules, search rules, playing_next c.loop-n.invariant.3 stands refl c.play_entry.ensures)

pub returns-in_default : goal.returns-in_default
returns-in_default c =
    let none : c.in_default.field-0 ≡ None = search rules in
    let done = played_all c.loop-n.invariant.3 c.next.ensures (c.in_default.is ∙ ap Ok none) in
    record { lent_after = done.0; puts = (c.loop-n.invariant.2, done.1.0); fits = done.1.1 }

pub returns-in_default-2 : goal.returns-in_default-2
returns-in_default-2 c =
    let done = played_stop c.loop-n.invariant.3 c.next.ensures c.in_default.is in
    record { lent_after = done.0; puts = (c.loop-n.invariant.2, done.1.0); fits = done.1.1 }
