-- The fresh record has what the types of its fields say. Assumes nothing.
use Rattle.std.specs.Prelude.{refl}
use Rattle.std.proofs.Common.{arith}
use Rattle.record.specs.Record.{fresh_record}
use Rattle.links.specs.Typed.{TypedRecord}

-- "Fresh record"
pub typed_fresh : TypedRecord fresh_record
unfolding fresh_record
typed_fresh = record {
  logs = refl;
  thermal = refl;
  sets = refl;
  present = omega arith;
  caps = record { min = omega arith; max = omega arith; over = omega arith };
  user = omega arith;
  mask = omega arith;
  time = omega arith;
  ffdc = record { address = omega arith; size = omega arith };
  pass = record { address = omega arith; size = omega arith };
}
