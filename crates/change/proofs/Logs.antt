-- Laws of the four places for the functions that read them. Assumes nothing.
use Rattle.std.proofs.Common.{ℕ, Bool, cond, not, ◌≡◌, ◌≤◌, List, length, refl, ap, arith}
use Rattle.std.proofs.Math.Dec.{eqb}
use Rattle.std.specs.Option.{unwrap_or}
use Rattle.std.specs.List.{position, position_or_len}
use Rattle.std.proofs.lemmas.List.Recursion.{is_position_or_len}
use Rattle.std.proofs.lemmas.List.Sums.{prefix_len-le-length}
use Rattle.record.specs.declared.Log.{Log}
use Rattle.change.specs.Logs.{pending_of}

abbrev unused : Log → Bool
unused x = eqb x.id 0

-- how many pend is the first unused place
pending_first : (l : List Log) → pending_of l ≡ position_or_len unused l
unfolding pending_of
pending_first =
    is_position_or_len pending_of unused refl (λ x xs. ap (λ (n : ℕ). cond (unused x) 0 n) (omega arith))

pub pending_is : (l : List Log) → length l ≡ 4 → unwrap_or (position unused l) 4 ≡ pending_of l
pending_is l four = rw pending_first (grind (arith, prefix_len-le-length (λ (x : Log). not (unused x)) l))

pub pending_le : (l : List Log) → pending_of l ≤ length l
pending_le l = rw pending_first (prefix_len-le-length _ l)
