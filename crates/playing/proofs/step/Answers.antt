use mathlib.Core.Path.{sym, ◌∙◌}
use Rattle.std.proofs.Common.{rules}
use borrow.Author.Tests.{not-false}
use Rattle.playing.proofs.Playing.{step_none, step_short, step_put}
use Rattle.wire.proofs.laws.Pairs.{first_of_two, second_of_two}
use Rattle.playing.proofs.step.Goals as goal

pub returns-then-not-is_whole : goal.returns-then-not-is_whole
returns-then-not-is_whole c = record { step_allows = first_of_two (step_none c.args.lent.now c.args.number c.args.entry.now c.args.out.now c.is_whole.ensures c.if-not-is_whole.true-raw); prefix_len = second_of_two (step_none c.args.lent.now c.args.number c.args.entry.now c.args.out.now c.is_whole.ensures c.if-not-is_whole.true-raw) }

pub returns-then-out-lt-LINE : goal.returns-then-out-lt-LINE
returns-then-out-lt-LINE c = record { step_allows = first_of_two (step_short c.args.lent.now c.args.number c.args.entry.now c.args.out.now c.is_whole.ensures c.if-not-is_whole.false-raw c.if-out-lt-LINE.true); prefix_len = second_of_two (step_short c.args.lent.now c.args.number c.args.entry.now c.args.out.now c.is_whole.ensures c.if-not-is_whole.false-raw c.if-out-lt-LINE.true) }

pub play_entry-requires : goal.play_entry-requires
play_entry-requires c = sym c.is_whole.ensures ∙ not-false _ c.if-not-is_whole.false-raw

pub returns : goal.returns
returns c =
    let put = step_put c.args.lent.now c.args.number c.args.entry.now c.args.out.now c.is_whole.ensures c.if-not-is_whole.false-raw c.if-out-lt-LINE.false c.new-page.ensures.empty c.play_entry.ensures in
    search (rules, put)
