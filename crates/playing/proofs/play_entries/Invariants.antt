use Rattle.std.proofs.Common.{◌≡◌, ◌-◌, ◌≤◌, length}
use Rattle.text.specs.Pages.{sheet_of}
use Rattle.playing.proofs.Playing.{Playing}
use Rattle.playing.proofs.play_entries.Given as goal

abbrev pub invariant-loop-n : goal.invariant-loop-n
invariant-loop-n l =
    (l.at ≤ length l.t)
    × (length l.lent ≡ length l.initial.lent)
    × (l.page.out.ghost_name ≡ l.initial.page.out.ghost_name)
    × Playing l.t (sheet_of l.initial.page) (sheet_of l.page) l.at l.number l.lent

abbrev pub decreases-loop-n : goal.decreases-loop-n
decreases-loop-n l = length l.t - l.at
