-- The image of a session, part after part: a request that adds to the session appends its width here, and no place before it moves.
use Rattle.std.specs.Prelude.{ℕ, List, [], ◌∷◌, take}
use Rattle.wire.specs.Wire.{sum_of}

-- "a journal of 2,048 bytes", "a redo store of 2,048 bytes"
abbrev pub store_size : ℕ
store_size = 2048

-- after the redo store: 32 marks of two bytes (document 02, i); the timer (h): running, and what is left; the profile (k)
abbrev pub marks_size : ℕ
marks_size = 64

abbrev pub later_widths : List ℕ
later_widths = marks_size ∷ 1 ∷ 8 ∷ 1 ∷ []

-- the head (record, worked-out values, next id, used bytes of the journal), the journal, the used bytes of the redo store, the redo store, and what came later
unfoldable pub part_widths : List ℕ
part_widths = 239 ∷ store_size ∷ 2 ∷ store_size ∷ later_widths

-- where the part with so many before it begins
unfoldable pub place_of : ℕ → ℕ
place_of n = sum_of (take n part_widths)

-- the places by name (laws/Layout.antt: they are those of the table)

abbrev pub journal_at : ℕ
journal_at = 239

abbrev pub ahead_at : ℕ
ahead_at = 2287

abbrev pub redo_at : ℕ
redo_at = 2289

abbrev pub marks_at : ℕ
marks_at = 4337

abbrev pub timer_at : ℕ
timer_at = 4401

abbrev pub profile_at : ℕ
profile_at = 4410

abbrev pub image_length : ℕ
image_length = 4411
