use mathlib.Core.Path.{refl}
use native.Mathlib.Omega.{arith}
use Rattle.entries.proofs.Turns.{kind_zero}
use Rattle.journal.proofs.Judging.{judged_none, judged_end, judged_unknown, judged_cut, judged_bad, judged_off, judged_next, body_room, count_low}
use Rattle.journal.proofs.all_ok.Goals as goal

pub loop-at-init : goal.loop-at-init
loop-at-init c = (judged_none _ c.args.m.now _ c.requires.0 (λ i. omega (arith, c.shared_slice_known-2-1.given i)) c.requires.1, kind_zero 0 refl)

pub next_len-n-requires : goal.next_len-n-requires
next_len-n-requires c = c.loop-at.invariant.1

pub returns-then-n-eq0 : goal.returns-then-n-eq0
returns-then-n-eq0 c = judged_unknown c.loop-at.invariant.0 c.next_len-n.ensures c.loop-at-test.true c.if-n-eq0.true

pub returns-then-j-at : goal.returns-then-j-at
returns-then-j-at c = judged_cut c.loop-at.invariant.0 c.next_len-n.ensures c.loop-at-test.true c.if-n-eq0.false c.if-j-at.true

pub body_ok-requires : goal.body_ok-requires
body_ok-requires c = body_room c.loop-at.invariant.0 c.next_len-n.ensures c.loop-at-test.true c.if-n-eq0.false c.if-j-at.false

pub returns-then-not-body_ok : goal.returns-then-not-body_ok
returns-then-not-body_ok c = judged_bad c.loop-at.invariant.0 c.next_len-n.ensures c.loop-at-test.true c.if-n-eq0.false c.if-j-at.false c.body_ok.ensures c.if-not-body_ok.true-raw

pub mark_stands-requires : goal.mark_stands-requires
mark_stands-requires c = (c.requires.0, (count_low c.loop-at.invariant.0).0 c.loop-at-test.true)

pub returns-then-not-mark_stands : goal.returns-then-not-mark_stands
returns-then-not-mark_stands c = judged_off c.loop-at.invariant.0 c.next_len-n.ensures c.loop-at-test.true c.if-n-eq0.false c.if-j-at.false c.body_ok.ensures c.mark_stands.ensures c.if-not-mark_stands.true-raw

pub overflow_add-count : goal.overflow_add-count
overflow_add-count c = omega (arith, (count_low c.loop-at.invariant.0).0 c.loop-at-test.true)

pub loop-at-preserved : goal.loop-at-preserved
loop-at-preserved c = (judged_next c.loop-at.invariant.0 c.next_len-n.ensures c.loop-at-test.true c.if-n-eq0.false c.if-j-at.false c.body_ok.ensures c.mark_stands.ensures c.if-not-body_ok.false-raw c.if-not-mark_stands.false-raw, c.next_len-n.ensures)

pub rest_unused-requires : goal.rest_unused-requires
rest_unused-requires c = (c.requires.0, (count_low c.loop-at.invariant.0).1 c.loop-at-test.false)

pub returns : goal.returns
returns c = judged_end c.loop-at.invariant.0 c.loop-at-test.false c.rest_unused.ensures
