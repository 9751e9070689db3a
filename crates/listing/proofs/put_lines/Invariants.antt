use Rattle.std.proofs.Common.{◌≡◌}
use Rattle.text.specs.Pages.{sheet_of}
use Rattle.entries.specs.Iterating.{entries_left}
use Rattle.entries.proofs.laws.Ahead.{Walked}
use Rattle.listing.proofs.Lines.{Lined}
use Rattle.listing.proofs.put_lines.Given as goal

abbrev pub invariant-loop-kind : goal.invariant-loop-kind
invariant-loop-kind l =
    (l.page.out.ghost_name ≡ l.initial.page.out.ghost_name) × Walked l.j (Lined (sheet_of l.initial.page) (sheet_of l.page)) (entries_left l.kind-iterator)
