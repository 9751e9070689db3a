-- What a read put at the front of a space.
use Rattle.std.specs.Prelude.{ℕ, Result, Ok, Err}
use Rattle.streams.specs.declared.Failed.{Failed}

-- how many bytes, before it failed too
abbrev pub count_of : Result ℕ Failed → ℕ
count_of (Ok n) = n
count_of (Err failed) = failed.count
