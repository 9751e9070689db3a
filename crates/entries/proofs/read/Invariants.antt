use Prim.Native.Nat.{◌-◌}
use mathlib.Core.Path.{◌≡◌}
use lib.ListN.{length}
use Rattle.entries.specs.Entries.{body_len, journal_table}
use Rattle.entries.proofs.Turns.{Passed}
use Rattle.entries.proofs.read.Given as goal

abbrev pub invariant-loop-at : goal.invariant-loop-at
invariant-loop-at l = Passed journal_table l.j l.at l.count l.newest × (l.n ≡ body_len l.last)

abbrev pub decreases-loop-at : goal.decreases-loop-at
decreases-loop-at l = length l.j - l.at
