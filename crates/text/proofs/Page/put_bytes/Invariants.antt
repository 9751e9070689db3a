use Rattle.std.proofs.Common.{◌≡◌, drop}
use Rattle.text.specs.Text.{put_all, spaced}
use Rattle.text.specs.Pages.{sheet_of}
use Rattle.text.proofs.Page.put_bytes.Given as goal

abbrev pub invariant-loop-b : goal.invariant-loop-b
invariant-loop-b l =
    (l.self.out.ghost_name ≡ l.initial.self.out.ghost_name)
    × (put_all (sheet_of l.self) (spaced (drop l.b-index l.s)) ≡ put_all (sheet_of l.initial.self) (spaced l.s))
