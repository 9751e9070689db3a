-- The names are the table's places. Assumes nothing.
use Rattle.std.specs.Prelude.{◌≡◌, refl}
use Rattle.wire.specs.Wire.{sum_of}
use Rattle.layout.specs.Layout.{part_widths, place_of, journal_at, ahead_at, redo_at, marks_at, timer_at, profile_at, image_length}

pub record Named : Type 0 where
  pub journal : journal_at ≡ place_of 1
  pub ahead : ahead_at ≡ place_of 2
  pub redo : redo_at ≡ place_of 3
  pub marks : marks_at ≡ place_of 4
  pub timer : timer_at ≡ place_of 5
  pub profile : profile_at ≡ place_of 7
  pub all : image_length ≡ sum_of part_widths

pub named : Named
unfolding sum_of part_widths place_of
named = record { journal = refl; ahead = refl; redo = refl; marks = refl; timer = refl; profile = refl; all = refl }
