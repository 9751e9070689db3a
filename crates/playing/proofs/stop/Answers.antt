use Rattle.std.proofs.Common.{rules, arith, ap, ◌≡◌, ◌≤◌, ◌∙◌, length}
use Rattle.text.specs.Text.{Sheet, sheet, put_all}
use Rattle.text.specs.Pages.{sheet_of}
use Rattle.text.proofs.laws.Pieces.{past_within}
use Rattle.playing.specs.Playing.{stop_line}
use Rattle.playing.proofs.stop.Goals as goal

pub returns-clause-prefix_len : goal.returns-clause-prefix_len
returns-clause-prefix_len c =
    let page = c.put_stop.new.page in
    let pieces = stop_line c.args.reading in
    let put : sheet_of page ≡ put_all (sheet c.args.out.now 0) pieces =
    c.put_stop.ensures.puts.1 ∙ ap (λ (s : Sheet). put_all s pieces) c.new-page.ensures.empty in
    let within : page.past ≤ length page.out.now =
    omega (arith, past_within (sheet c.args.out.now 0) pieces (omega arith), ap (λ (s : Sheet). s.past) put, ap (λ (s : Sheet). length s.text) put) in
    search (rules, within)
