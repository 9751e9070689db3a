-- An empty store is a refusal. Assumes nothing.
use Rattle.std.specs.Prelude.{◌≡◌}
use Rattle.std.proofs.Common.{arith}
use Rattle.journal.specs.Ways.{by_way}
use Rattle.journal.specs.declared.Way.{Way}
use Rattle.journal.specs.declared.Way.TheVariants.{Before, After}
use Rattle.undo_call.specs.Undo.{none_left}

-- neither 6 nor 8 is 0
pub none_zero : (w : Way) → none_left w ≡ 0 → ⊥
unfolding none_left by_way
none_zero Before z = omega (arith, z)
none_zero After z = omega (arith, z)
