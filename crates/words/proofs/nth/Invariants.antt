use Prim.Native.Nat.{◌-◌}
use mathlib.Core.Path.{◌≡◌}
use mathlib.Core.List.{[]}
use lib.ListN.{length, drop, get_or}
use Rattle.words.specs.Words.{words_in, word_at}
use Rattle.words.proofs.nth.Given as goal

abbrev pub invariant-loop-at : goal.invariant-loop-at
invariant-loop-at l = get_or (words_in (drop l.at l.words)) l.left [] ≡ word_at l.words l.n

abbrev pub decreases-loop-at : goal.decreases-loop-at
decreases-loop-at l = length l.words - l.at
