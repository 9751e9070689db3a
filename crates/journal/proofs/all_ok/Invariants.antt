use Prim.Native.Nat.{◌-◌}
use mathlib.Core.Path.{◌≡◌}
use lib.ListN.{length}
use Rattle.entries.specs.Entries.{body_len}
use Rattle.journal.proofs.Judging.{Judged}
use Rattle.journal.proofs.all_ok.Given as goal

abbrev pub invariant-loop-at : goal.invariant-loop-at
invariant-loop-at l = Judged l.way l.m l.j l.at l.count × (l.n ≡ body_len l.last)

abbrev pub decreases-loop-at : goal.decreases-loop-at
decreases-loop-at l = length l.j - l.at
