use Rattle.std.proofs.Common.{◌≡◌, ◌-◌}
use Rattle.text.specs.Text.{put_all}
use Rattle.text.specs.Pages.{sheet_of}
use Rattle.show.specs.Show.{cores_from}
use Rattle.show.proofs.put_cores.Given as goal

abbrev pub invariant-loop-core : goal.invariant-loop-core
invariant-loop-core l =
    (l.page.out.ghost_name ≡ l.initial.page.out.ghost_name)
    × (put_all (sheet_of l.page) (cores_from (32 - l.core) l.core l.left) ≡ put_all (sheet_of l.initial.page) (cores_from 32 0 l.initial.left))
