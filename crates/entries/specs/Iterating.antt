-- What the iterator over the journal's entries gives, and what it has left.
use Rattle.std.specs.Prelude.{ℕ, List}
use Rattle.std.specs.Borrow.{Bor}
use Rattle.entries.specs.Entries.{Entry, scan, entries_of}
use Rattle.entries.specs.declared.Entries.{Entries}

-- newest first, as everywhere: it gives the last of them
abbrev pub entries_left : Entries → List Entry
entries_left it = entries_of (scan it.rest.now)

abbrev pub entry_given : ℕ × Bor (List ℕ) → Entry
entry_given item = record { kind = item.0; body = item.1.now }
