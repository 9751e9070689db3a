-- An entry at the end of the used bytes, and the newest one cut off.
use Rattle.std.specs.Prelude.{ℕ, ◌+◌, ◌-◌, cond, List, length, replicate, ltb, Option, Some, None}
use Rattle.wire.specs.Wire.{pasted}
use Rattle.change.specs.Change.{kind_of}
use Rattle.change.specs.declared.Edit.{Edit}
use Rattle.entries.specs.Entries.{body_len}
use Rattle.journal.specs.Bytes.{entry_bytes}

-- the bytes of a change's entry
abbrev pub entry_len : Edit → ℕ
entry_len e = body_len (kind_of e.change) + 1

-- answer 5's test: an entry longer than the unused bytes has no room. n bytes in all, of which some are used
unfoldable pub end_of : ℕ → ℕ → Edit → Option ℕ
end_of n used e = cond (ltb n used) None (cond (ltb (n - used) (entry_len e)) None (Some (used + entry_len e)))

unfoldable pub added_to : ℕ → Edit → List ℕ → List ℕ
added_to used e j =
    cond (ltb (length j) used) j (cond (ltb (length j - used) (entry_len e)) j (pasted used (entry_bytes e) j))

-- "Undo .. zeroes the entry": the used bytes from `at` on; bytes that can't be meant are kept
unfoldable pub cut_from : ℕ → ℕ → List ℕ → List ℕ
cut_from at used j = cond (ltb (length j) used) j (cond (ltb used at) j (pasted at (replicate (used - at) 0) j))
