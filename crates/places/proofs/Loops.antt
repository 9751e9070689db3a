-- Where the sets stand, one after the other. Assumes nothing.
use Prim.Native.Nat.{ℕ, ◌+◌, ◌*◌, ◌<◌, ◌≤◌}
use native.Mathlib.Omega.{arith}
use Rattle.places.specs.declared.SetTable.{SetTable}
use Rattle.places.specs.declared.SetTable.TheVariants.{Throttles, Thermal}
use Rattle.places.specs.Places.{width_of}

pub starts_apart : (t : SetTable) (k i : ℕ) → k < i → k * width_of t + width_of t ≤ i * width_of t
unfolding width_of
starts_apart Throttles k i h = omega arith
starts_apart Thermal k i h = omega arith
