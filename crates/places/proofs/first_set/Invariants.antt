use mathlib.Core.Path.{◌≡◌}
use Rattle.std.specs.Prelude.{None}
use Rattle.places.specs.Places.{set_fault, first_below}
use Rattle.places.proofs.first_set.Given as goal

abbrev pub invariant-loop-i : goal.invariant-loop-i
invariant-loop-i l = first_below (set_fault l.table l.d) l.i ≡ None
