-- Document 02, m: the two forms in which a session is saved: its bytes, and the session that bytes are read as. Beside each row is its offset; those of the
-- record's fields are the image's (image/specs/Image.antt: `record_rows`, `record_in`).
use Rattle.std.specs.Prelude.{ℕ, ◌-◌, Bool, false, cond, not, List, [], ◌∷◌, ◌++◌, length, get_or, take, drop, replicate, eqb}
use Rattle.wire.specs.Wire.{to_be, joined}
use Rattle.record.specs.Record.{timer_off, worked_of}
use Rattle.record.specs.declared.Timer.{Timer}
use Rattle.entries.specs.Entries.{Table, Entry, written, entries_of, scan}
use Rattle.marks.specs.Marks.{marks_of}
use Rattle.session.specs.declared.Session.{Session}
use Rattle.image.specs.Image.{byte, byte_at, part_at, number_at, record_rows, record_in}
use Rattle.layout.specs.Layout.{store_size, marks_size}

-- ---- the base version's: "record, next id, used journal". "Fields stand in the order of document 01's fresh record, big-endian"

-- the record and the next id; with a journal that is full
abbrev pub base_head : ℕ
base_head = 232

abbrev pub base_most : ℕ
base_most = 2280

unfoldable pub base_rows : Session → List (List ℕ)
base_rows s =
    joined (record_rows s.held)  --   0
    ∷ to_be 2 s.next  -- 230
    ∷ take s.used s.journal  -- 232
    ∷ []

unfoldable pub base_of : Session → List ℕ
base_of s = joined (base_rows s)

-- "the journal padded to 2,048"
unfoldable pub padded : List ℕ → List ℕ
padded j = j ++ replicate (store_size - length j) 0

-- "Moving up leaves redo empty, profile full and timer off, and works the marks out"
unfoldable pub session_of_base : List ℕ → Session
session_of_base b =
    record {
      held = record_in b;
      worked = worked_of (record_in b);
      next = number_at 2 230 b;
      journal = padded (drop base_head b);
      used = length (drop base_head b);
      redo = replicate store_size 0;
      ahead = 0;
      marks = marks_of (entries_of (scan (drop base_head b)));
      timer = timer_off;
      profile = 0;
    }

-- ---- the new one: "redo store, marks, profile and timer" more, "each part one byte of kind and a body whose length the kind fixes"

abbrev pub saved_length : ℕ
saved_length = 4409

unfoldable pub saved_rows : Session → List (List ℕ)
saved_rows s =
    byte 0x01 ∷ joined (record_rows s.held)  --    0 the record
    ∷ byte 0x02 ∷ to_be 2 s.next  --  231 the next id
    ∷ byte 0x03 ∷ s.journal  --  234 the journal
    ∷ byte 0x04 ∷ s.redo  -- 2283 the redo store
    ∷ byte 0x05 ∷ s.marks  -- 4332 the marks
    ∷ byte 0x06 ∷ byte s.profile  -- 4397 the profile
    ∷ byte 0x07 ∷ byte s.timer.running ∷ to_be 8 s.timer.left  -- 4399 the timer
    ∷ []

unfoldable pub saved_of : Session → List ℕ
saved_of s = joined (saved_rows s)

-- the length of each kind's part, its kind included; 0 stands for no such kind (laws/Parts.antt: read by this table, the new form is its seven parts)
unfoldable pub part_table : Table
part_table k = get_or (0 ∷ 231 ∷ 3 ∷ 2049 ∷ 2049 ∷ 65 ∷ 2 ∷ 10 ∷ []) k 0

-- the parts as the machine of `entries` gives them, the last first
unfoldable pub parts_of : Session → List Entry
parts_of s =
    record { kind = 7; body = s.timer.running ∷ to_be 8 s.timer.left }
    ∷ record { kind = 6; body = s.profile ∷ [] }
    ∷ record { kind = 5; body = s.marks }
    ∷ record { kind = 4; body = s.redo }
    ∷ record { kind = 3; body = s.journal }
    ∷ record { kind = 2; body = to_be 2 s.next }
    ∷ record { kind = 1; body = joined (record_rows s.held) }
    ∷ []

-- the seven kinds, each where its part begins
unfoldable pub kinds_ok : List ℕ → Bool
kinds_ok b =
    cond (not (eqb (byte_at 0 b) 0x01)) false
    (cond (not (eqb (byte_at 231 b) 0x02)) false
    (cond (not (eqb (byte_at 234 b) 0x03)) false
    (cond (not (eqb (byte_at 2283 b) 0x04)) false
    (cond (not (eqb (byte_at 4332 b) 0x05)) false
    (cond (not (eqb (byte_at 4397 b) 0x06)) false
    (eqb (byte_at 4399 b) 0x07))))))

-- no used length is stored: a store is read entry by entry, up to what is none. 00 is no kind
unfoldable pub used_in : List ℕ → ℕ
used_in j = length (written (entries_of (scan j)))

unfoldable pub timer_from : List ℕ → Timer
timer_from b = record { running = byte_at 4400 b; left = number_at 8 4401 b }

-- nor is what is worked out
unfoldable pub session_of_saved : List ℕ → Session
session_of_saved b =
    record {
      held = record_in (drop 1 b);
      worked = worked_of (record_in (drop 1 b));
      next = number_at 2 232 b;
      journal = part_at store_size 235 b;
      used = used_in (part_at store_size 235 b);
      redo = part_at store_size 2284 b;
      ahead = used_in (part_at store_size 2284 b);
      marks = part_at marks_size 4333 b;
      timer = timer_from b;
      profile = byte_at 4398 b;
    }
