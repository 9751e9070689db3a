use Rattle.std.proofs.Common.{rules, ap, ◌∙◌}
use Rattle.text.specs.Text.{Sheet, put_all}
use Rattle.entries.specs.Entries.{entries_of}
use Rattle.trace.specs.Trace.{trace_scan}
use Rattle.playing.specs.Playing.{lines_of}
use Rattle.playing.proofs.Playing.{fresh_written, play_no_image, play_no_room, play_lines}
use Rattle.playing.proofs.play.Goals as goal

pub returns-then-lent-ne-IMAGE : goal.returns-then-lent-ne-IMAGE
returns-then-lent-ne-IMAGE c = play_no_image c.args.lent.now c.args.t.now c.args.out.now c.if-lent-ne-IMAGE.true

pub returns-then-not-has_room : goal.returns-then-not-has_room
returns-then-not-has_room c = play_no_room c.args.lent.now c.args.t.now c.args.out.now c.if-lent-ne-IMAGE.false c.count-count.ensures c.has_room.ensures c.if-not-has_room.true-raw

pub play_entries-requires : goal.play_entries-requires
play_entries-requires c = fresh_written c.args.lent.now _ _ c.if-lent-ne-IMAGE.false c.fresh.ensures c.write.ensures

pub returns : goal.returns
returns c =
    let lines = lines_of (entries_of (trace_scan c.args.t.now)) in
    let put = c.play_entries.ensures.puts.1 ∙ ap (λ (s : Sheet). put_all s lines) c.new-page.ensures.empty in
    let played =
    play_lines c.args.lent.now c.args.t.now c.args.out.now c.if-lent-ne-IMAGE.false c.count-count.ensures c.has_room.ensures c.if-not-has_room.false-raw
    (c.play_entries.ensures.lent_after, (put, c.play_entries.ensures.fits)) c.read-reading.ensures.value c.put_stop.ensures.puts.1 c.put_stop.ensures.fits in
    search (rules, played)
