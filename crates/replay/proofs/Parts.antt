-- What counts within the front of bytes, and an entry there. Assumes nothing.
use Rattle.std.proofs.Common.{ℕ, ◌≤◌, List, length, take, arith, length-take, IfSome, Some, None, Ok, Err}
use Rattle.std.specs.Option.{option_flatten}
use Rattle.std.specs.Result.{result_ok}
use Rattle.entries.specs.Entries.{Next}
use Rattle.entries.proofs.laws.Next.{Fits}
use Rattle.trace.specs.Trace.{trace_table}

pub within : (n : ℕ) (l : List ℕ) {k : ℕ} → k ≤ length (take n l) → k ≤ n
within n l h = omega (arith, length-take n l)

pub whole_front : (b : List ℕ) (x : Next) → Fits trace_table b x → IfSome (option_flatten (result_ok x)) (λ n. (1 ≤ n) × (n ≤ length b))
whole_front b (Ok (Some n)) f = (f.1, f.2)
whole_front b (Ok None) f = tt
whole_front b (Err fault) f = tt
