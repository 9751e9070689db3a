use Rattle.std.proofs.Common.{◌≡◌, ◌-◌}
use Rattle.text.specs.Text.{put_all}
use Rattle.text.specs.Pages.{sheet_of}
use Rattle.show.specs.Show.{pairs_from}
use Rattle.show.proofs.put_pairs.Given as goal

abbrev pub invariant-loop-pair : goal.invariant-loop-pair
invariant-loop-pair l =
    (l.page.out.ghost_name ≡ l.initial.page.out.ghost_name)
    × (put_all (sheet_of l.page) (pairs_from (16 - l.pair) l.pair l.left) ≡ put_all (sheet_of l.initial.page) (pairs_from 16 0 l.initial.left))
