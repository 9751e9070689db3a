-- The test of the journal's marks is made while its entries are read, and stands after the test of the store. Assumes nothing.
use Prim.Native.Nat.{ℕ}
use mathlib.Core.Bool.{Bool, true, false, cond, not}
use mathlib.Core.Path.{◌≡◌, refl}
use mathlib.Core.List.{List}
use lib.Dec.{ltb}
use lib.ListN.{length, take, drop}
use Rattle.wire.specs.Wire.{all_are}
use Rattle.journal.specs.declared.Way.{Way}
use Rattle.journal.specs.Read.{entries_ok, marks_ok, read_ok}
use Rattle.session.specs.Session.{store_ok, entries_in}

in_order_lem : (long reads marked unused : Bool) → cond long false (cond (not (cond reads marked false)) false unused) ≡ cond (cond long false (cond (not reads) false unused)) marked false
in_order_lem true reads marked unused = refl
in_order_lem false true true true = refl
in_order_lem false true true false = refl
in_order_lem false true false true = refl
in_order_lem false true false false = refl
in_order_lem false false marked unused = refl

pub tests_are : (w : Way) (m j : List ℕ) (used : ℕ)
    → cond (ltb (length j) used) false (cond (not (read_ok w m (take used j))) false (all_are 0 (drop used j))) ≡ cond (store_ok w j used) (marks_ok w m (entries_in used j)) false
unfolding store_ok read_ok entries_in
tests_are w m j used = in_order_lem (ltb (length j) used) (entries_ok w (take used j)) (marks_ok w m (entries_in used j)) (all_are 0 (drop used j))
