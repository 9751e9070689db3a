-- Document 02, a: "A trace is a row of entries, one byte of kind and a fixed body".
use Rattle.std.specs.Prelude.{ℕ, List, [], ◌∷◌, get_or}
use Rattle.entries.specs.Entries.{Table, Scan, scan_by}

-- "01 is sender and 64 command bytes, 02 sender and 4,096 command bytes, 03 the 32 request bytes, 04 undo with no body": the length of an entry, its
-- kind included; 0 stands for no such kind
abbrev pub entry_lengths : List ℕ
entry_lengths = 0 ∷ 66 ∷ 4098 ∷ 33 ∷ 1 ∷ []

unfoldable pub trace_table : Table
trace_table k = get_or entry_lengths k 0

-- a trace as entries, newest first, and how it ends
abbrev pub trace_scan : List ℕ → Scan
trace_scan t = scan_by trace_table t
