-- A place between two entries.
use Rattle.std.specs.Prelude.{ℕ, ◌≤◌, ◌≡◌, List, length, take}
use Rattle.entries.specs.Entries.{Entry, Table, between, scan_by, journal_table}

-- the bytes before `at` read as the entries es
pub record Placed (t : Table) (j : List ℕ) (at : ℕ) (es : List Entry) : Type 0 where
  pub fits : at ≤ length j
  pub reads : scan_by t (take at j) ≡ between es

abbrev pub Place : List ℕ → ℕ → List Entry → Type 0
Place j at es = Placed journal_table j at es
