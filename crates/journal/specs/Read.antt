-- Document 01, "The journal": what an entry's bytes say, and whether its values are ones that a well-formed record could hold.
use Rattle.std.specs.Prelude.{ℕ, ◌+◌, ◌-◌, Bool, true, false, cond, not, List, [], ◌∷◌, length, get_or, take, drop, replicate, eqb, Option, Some, None}
use Rattle.wire.specs.Wire.{be_nat}
use Rattle.record.specs.Record.{no_throttles}
use Rattle.record.specs.declared.Caps.{Caps}
use Rattle.record.specs.declared.Area.{Area}
use Rattle.record.specs.declared.Throttles.{Throttles}
use Rattle.change.specs.Change.{no_tables}
use Rattle.record.specs.declared.Log.{Log}
use Rattle.change.specs.declared.Change.{Change}
use Rattle.change.specs.declared.Change.TheVariants.{Clear, Unclear, SetState, SetRole, SetCaps, SetUser, SetThermal, SetThrottles, Reset, Unreset, SetMask, SetDeadman, SetAreas, SetTimer}
use Rattle.change.specs.declared.Tables.{Tables}
use Rattle.entries.specs.Entries.{Entry, body_len, Scan, between, within, unknown, entries_of, scan}
use Rattle.marks.specs.Marks.{marks_of, same}
use Rattle.formed.specs.Formed.{made_ok, unreset_ok, change_ok}
use Rattle.journal.specs.Ways.{by_way}
use Rattle.change.specs.declared.Edit.{Edit}
use Rattle.journal.specs.declared.Way.{Way}
use Rattle.journal.specs.declared.Way.TheVariants.{Before, After}

-- ---- fields of a body, by their place

unfoldable pub caps_at : ℕ → List ℕ → Caps
caps_at at b = record { min = be_nat (take 2 (drop at b)); max = be_nat (take 2 (drop (at + 2) b)); over = be_nat (take 2 (drop (at + 4) b)) }

unfoldable pub area_at : ℕ → List ℕ → Area
area_at at b = record { address = be_nat (take 8 (drop at b)); size = be_nat (take 4 (drop (at + 8) b)) }

abbrev pub throttles_at : ℕ → List ℕ → Throttles
throttles_at at b = record { present = be_nat (take 2 (drop at b)); sets = take 160 (drop (at + 2) b) }

-- ---- what a body says, by its kind, or None where there is no such kind. The journal's bodies hold "what was before", those of the redo store (document 02) "what was after":
-- "for kind 08 that is the log's id and reason, 0 and 0 without one"

unfoldable pub cleared_as : Way → ℕ → Log → Change
cleared_as Before place log = Unclear place log
cleared_as After place log = Clear place log

unfoldable pub reset_as : Way → ℕ → ℕ → Change
reset_as Before state made = Unreset state made
reset_as After id reason = Reset (record { id = id; reason = reason })

unfoldable pub found_for : Way → ℕ → List ℕ → Option Change
found_for w k b =
    cond (eqb k 0x01) (Some (cleared_as w (get_or b 0 0) (record { id = get_or b 1 0; reason = get_or b 2 0 })))
    (cond (eqb k 0x02) (Some (SetState (get_or b 0 0)))
    (cond (eqb k 0x03) (Some (SetRole (get_or b 0 0) (get_or b 1 0)))
    (cond (eqb k 0x04) (Some (SetCaps (get_or b 0 0) (caps_at 1 b)))
    (cond (eqb k 0x05) (Some (SetUser (be_nat (take 2 (drop 0 b)))))
    (cond (eqb k 0x06) (Some (SetThermal (get_or b 0 0)))
    (cond (eqb k 0x07) (Some (SetThrottles (get_or b 0 0)))
    (cond (eqb k 0x08) (Some (reset_as w (get_or b 0 0) (get_or b 1 0)))
    (cond (eqb k 0x09) (Some (SetMask (be_nat (take 4 (drop 0 b)))))
    (cond (eqb k 0x0A) (Some (SetDeadman (record { running = get_or b 0 0; time = be_nat (take 8 (drop 1 b)) })))
    (cond (eqb k 0x0B) (Some (SetAreas (record { ffdc = area_at 0 b; pass = area_at 12 b })))
    (cond (eqb k 0x0C) (Some (SetTimer (record { running = get_or b 0 0; left = be_nat (take 8 (drop 1 b)) })))
    None)))))))))))

-- the tables that stand beside it, and both together
unfoldable pub tables_in : ℕ → List ℕ → Tables
tables_in k b =
    cond (eqb k 0x06) (record { thermal = take 9 (drop 1 b); throttles = no_throttles })
    (cond (eqb k 0x07) (record { thermal = replicate 9 0; throttles = throttles_at 1 b })
    no_tables)

unfoldable pub edit_by : Tables → Option Change → Option Edit
edit_by t None = None
edit_by t (Some change) = Some (record { change = change; tables = t })

-- bytes that should be one whole entry, of kind k
unfoldable pub got_for : Way → ℕ → List ℕ → Option Edit
got_for w k e =
    cond (not (eqb (length e - 1) (body_len k))) None
    (edit_by (tables_in k (drop 1 e)) (found_for w k (drop 1 e)))

unfoldable pub got_of : Way → List ℕ → Option Edit
got_of w e = cond (eqb (length e) 0) None (got_for w (get_or e 0 0) e)

-- ---- "the used journal reads exactly as entries, each body's values ones that a well-formed record could hold"

unfoldable pub values_ok : Tables → Option Change → Bool
values_ok t (Some change) = change_ok t change
values_ok t None = false

unfoldable pub entry_ok : Way → Entry → Bool
entry_ok w e = values_ok (tables_in e.kind e.body) (found_for w e.kind e.body)

-- what that comes to for kind 08
unfoldable pub reset_ok : Way → ℕ → ℕ → Bool
reset_ok Before state made = unreset_ok state made
reset_ok After id reason = made_ok (record { id = id; reason = reason })

unfoldable pub all_ok : Way → List Entry → Bool
all_ok w [] = true
all_ok w (e ∷ es) = cond (entry_ok w e) (all_ok w es) false

unfoldable pub scan_ok : Way → Scan → Bool
scan_ok w (between es) = all_ok w es
scan_ok w (within es k b n) = false
scan_ok w (unknown es) = false

unfoldable pub entries_ok : Way → List ℕ → Bool
entries_ok w j = scan_ok w (scan j)

-- document 02, i: "one not at its entry, or unused and not 0, makes it ill formed": the journal has marks m, the redo store none
unfoldable pub marks_ok : Way → List ℕ → List Entry → Bool
marks_ok w m es = by_way w (same m (marks_of es)) true

unfoldable pub read_ok : Way → List ℕ → List ℕ → Bool
read_ok w m j = cond (entries_ok w j) (marks_ok w m (entries_of (scan j))) false
