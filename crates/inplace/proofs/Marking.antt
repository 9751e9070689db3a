-- The stores' tests in one, and what `mark_added` and `mark_removed` leave. Assumes nothing.
use Prim.Native.Nat.{ℕ, ◌+◌, ◌-◌, ◌*◌, ◌≤◌}
use mathlib.Core.Bool.{Bool, true, false, cond, not}
use mathlib.Core.Path.{◌≡◌, refl, sym, ap, ◌∙◌}
use mathlib.Core.List.{List, ◌∷◌}
use native.Mathlib.Omega.{arith}
use lib.Dec.{ltb}
use lib.ListN.{length, take, drop, length-drop}
use lib.Seq.{length-take-le}
use Rattle.wire.specs.Wire.{to_be, pasted}
use Rattle.entries.specs.Entries.{Entry, scan, reading_of}
use Rattle.marks.specs.declared.Mark.{Mark}
use Rattle.marks.specs.declared.Newest.{Newest}
use Rattle.std.specs.Prelude.{Option, None, Some}
use Rattle.marks.specs.Marks.{marks_of, same, passed_of, Last, newest_of}
use Rattle.marks.proofs.laws.Last.{NewestIs}
use Rattle.journal.specs.Ways.{by_way}
use Rattle.journal.specs.Read.{marks_ok}
use Rattle.journal.specs.declared.Way.TheVariants.{Before, After}
use Rattle.session.specs.Session.{store_ok, entries_in, stores_ok}
use Rattle.session.specs.declared.Session.{Session}
use Rattle.image.specs.Image.{with_part, journal_in, redo_in, marks_in}
use Rattle.image.proofs.laws.Stores.{part_same}
use Rattle.layout.specs.Layout.{marks_size, journal_at, redo_at, marks_at, image_length}
use Rattle.inplace.specs.InPlace.{Marked, MarksMore, MarkedTo}
use Rattle.inplace.proofs.laws.Marked.{entries_are, empty_journal, newest_there, first_marks, same_marks, one_marked, next_low, still_marked, no_longer_marked, older_reads}

-- ---- the journal is tested with its marks, the redo store has none

in_order_lem : (sum journal marked redo : Bool)
    → cond sum false (cond (not (cond journal marked false)) false (cond redo true false)) ≡ cond sum false (cond (not journal) false (cond (not marked) false redo))
in_order_lem true journal marked redo = refl
in_order_lem false true true true = refl
in_order_lem false true true false = refl
in_order_lem false true false redo = refl
in_order_lem false false marked redo = refl

pub all_tests : (s : Session)
    → cond (ltb 2048 (s.used + s.ahead)) false
    (cond (not (cond (store_ok Before s.journal s.used) (marks_ok Before s.marks (entries_in s.used s.journal)) false)) false
    (cond (store_ok After s.redo s.ahead) (marks_ok After s.marks (entries_in s.ahead s.redo)) false))
    ≡ stores_ok s
unfolding stores_ok marks_ok by_way
all_tests s = in_order_lem (ltb 2048 (s.used + s.ahead)) (store_ok Before s.journal s.used) (same s.marks (marks_of (entries_in s.used s.journal))) (store_ok After s.redo s.ahead)

-- the marks, the journal and the redo store have their bytes
pub parts_long : (b : List ℕ) → length b ≡ image_length → (length (marks_in b) ≡ 64) × (length (journal_in b) ≡ 2048) × (length (redo_in b) ≡ 2048)
parts_long b long = (
  length-take-le 64 (drop marks_at b) (simp length-drop (omega arith)),
  length-take-le 2048 (drop journal_at b) (simp length-drop (omega arith)),
  length-take-le 2048 (drop redo_at b) (simp length-drop (omega arith)),
)

-- ---- an entry more

module _ (b : List ℕ) (long : length b ≡ image_length) (used : ℕ) (m : Marked used b) (room : used + 2 ≤ 2048) (x : Mark) (l : Last (marks_in b) x) where
  more_are : (y : List ℕ) → ((e : Entry) → marks_of (e ∷ m.entries) ≡ y) → MarksMore used b (with_part marks_size marks_at y b)
  more_are y h e = ap (λ (z : List ℕ). with_part marks_size marks_at z b) (sym (h e) ∙ ap (λ (es : List Entry). marks_of (e ∷ es)) (sym (entries_are b long used m)))

  unchanged : ((e : Entry) → marks_of (e ∷ m.entries) ≡ marks_in b) → MarksMore used b b
  unchanged h e = sym (part_same marks_size b (marks_in b) marks_at refl) ∙ more_are (marks_in b) h e

  module _ (found : Option Newest) (is : found ≡ newest_of (reading_of (scan (take (journal_at + used - (journal_at + x.place)) (drop (journal_at + x.place) b))))) where
    pub none_more : found ≡ None → MarksMore used b b
    none_more z = unchanged (λ e. first_marks b long used m x l room e (empty_journal b long used m x l found is z))

    module _ (n : Newest) (there : found ≡ Some n) where
      newest : NewestIs m.entries (x.place + n.place) n.passed
      newest = newest_there b long used m x l found is n there

      pub unmarked_more : (n.passed ≡ 31 → ⊥) → MarksMore used b b
      unmarked_more h = unchanged (λ e. same_marks b long used m x l room _ n.passed newest e h)

      pub marked_more : n.passed ≡ 31 → (y : List ℕ) → y ≡ pasted (2 * (x.number + 1)) (to_be 2 used) (marks_in b) → MarksMore used b (with_part marks_size marks_at y b)
      marked_more h y p = more_are y (λ e. one_marked b long used m x l room _ n.passed newest e h ∙ sym p)

      -- the next mark is one of the 32
      pub next_room : n.passed ≡ 31 → 2 * (x.number + 1) + 2 ≤ length (marks_in b)
      next_room h = omega (arith, next_low b long used m x l room _ n.passed newest h, (parts_long b long).0)

-- ---- the newest less

module _ (b : List ℕ) (long : length b ≡ image_length) (used at : ℕ) (m : MarkedTo used at b) (x : Mark) (l : Last (marks_in b) x) where
  abbrev newest_is : NewestIs m.marked.entries at (passed_of (length m.marked.entries))
  newest_is = record { newest = m.newest; older = m.older; are = m.are; begins = m.begins; counted = refl }

  left_are : marks_of m.older ≡ marks_of (entries_in at (journal_in b))
  left_are = ap marks_of (sym (older_reads b long used at m))

  pub still_less : (x.place ≡ at → ⊥) → b ≡ with_part marks_size marks_at (marks_of (entries_in at (journal_in b))) b
  still_less h =
      sym (part_same marks_size b (marks_of (entries_in at (journal_in b))) marks_at (sym left_are ∙ still_marked b long used m.marked x l at _ newest_is h))

  pub marked_less : x.place ≡ at → (y : List ℕ) → y ≡ pasted (2 * x.number) (to_be 2 0) (marks_in b)
      → with_part marks_size marks_at y b ≡ with_part marks_size marks_at (marks_of (entries_in at (journal_in b))) b
  unfolding to_be
  marked_less h y p =
      ap (λ (z : List ℕ). with_part marks_size marks_at z b) (p ∙ sym (no_longer_marked b long used m.marked x l at _ newest_is h) ∙ left_are)
