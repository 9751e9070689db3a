-- The newest entry of a store, found from the last mark on or from the front. Assumes nothing.
use Prim.Native.Nat.{ℕ, ◌+◌, ◌-◌, ◌≤◌}
use mathlib.Core.Bool.{Bool, true, false, cond}
use mathlib.Core.Path.{◌≡◌, refl, sym, ap, ◌∙◌}
use mathlib.Core.List.{List, [], ◌∷◌}
use native.Mathlib.Omega.{arith}
use borrow.Author.Tests.{eqb-true}
use lib.Dec.{eqb}
use lib.ListN.{length, take, drop}
use lib.Seq.{length-take-le, take-take}
use Rattle.entries.specs.Entries.{Entry, written, Scan, between, entries_of, scan, newest_at, Reading, reading_of}
use Rattle.entries.proofs.laws.Entries.{scan_written, newest_written}
use Rattle.std.specs.Prelude.{Option, None, Some, Ok}
use Rattle.entries.specs.declared.Whole.{Whole}
use Rattle.marks.specs.declared.Mark.{Mark}
use Rattle.marks.specs.declared.Newest.{Newest}
use Rattle.marks.specs.Marks.{passed_of, newest_of}
use Rattle.journal.specs.Ways.{by_way}
use Rattle.journal.specs.declared.Way.{Way}
use Rattle.journal.specs.declared.Way.TheVariants.{Before, After}
use Rattle.session.specs.Session.{entries_in, well_formed}
use Rattle.session.specs.Road.{store_of, used_of}
use Rattle.session.proofs.laws.Session.{formed}
use Rattle.session.proofs.laws.Reads.{Reads, reads}
use Rattle.session.specs.declared.Session.{Session}
use Rattle.image.specs.declared.Head.{Head}
use Rattle.image.specs.Image.{store_at, redo_in, session_in}
use Rattle.layout.specs.Layout.{journal_at, redo_at}
use Rattle.inplace.specs.InPlace.{HeadStands, Marked}
use Rattle.inplace.proofs.laws.Marked.{formed_marked, used_is, place_low, empty_journal, newest_there}
use Rattle.undo_call.specs.Undo.{passed_by, LooksFrom, NewestFound, MarksBefore}

abbrev reads_as : ℕ → ℕ → Reading
reads_as count newest = Ok (record { count = count; newest = newest })

begins_at : {m n x y : ℕ} → reads_as m x ≡ reads_as n y → x ≡ y
begins_at {m} {n} {x} {y} e = let w : ◌≡◌ {A = Whole} (record { count = m; newest = x }) (record { count = n; newest = y }) = cc in ap (λ (v : Whole). v.newest) w

-- what is found in a part that is the whole store
found_whole : (count newest : ℕ) (x : Newest) → Some x ≡ newest_of (reads_as count newest) → x.place ≡ newest
unfolding newest_of
found_whole count newest x = go (eqb count 0)
  where
    go : (t : Bool) → Some x ≡ cond t None (Some (record { place = newest; passed = count - 1 })) → x.place ≡ newest
    go true h = cc
    go false h = let e : x ≡ record { place = newest; passed = count - 1 } = cc in ap (λ (v : Newest). v.place) e

none_whole : (count newest : ℕ) → ◌≡◌ {A = Option Newest} None (newest_of (reads_as count newest)) → count ≡ 0
unfolding newest_of
none_whole count newest = go (eqb count 0) refl
  where
    go : (t : Bool) → eqb count 0 ≡ t → ◌≡◌ {A = Option Newest} None (cond t None (Some (record { place = newest; passed = count - 1 }))) → count ≡ 0
    go true e h = eqb-true count 0 e
    go false e h = cc

no_bytes : (es : List Entry) → length es ≡ 0 → length (written es) ≡ 0
unfolding written
no_bytes [] z = refl
no_bytes (e ∷ es) z = absurd (omega (arith, z))

-- ---- the store of a well-formed session

store_reads : (w : Way) (s : Session) → well_formed s ≡ true → Reads w (take (used_of w s) (store_of w s))
unfolding used_of store_of by_way
store_reads Before s whole = reads Before _ (formed s whole).journal.reads
store_reads After s whole = reads After _ (formed s whole).redo.reads

store_fits : (w : Way) (s : Session) → well_formed s ≡ true → used_of w s ≤ length (store_of w s)
unfolding used_of store_of by_way
store_fits Before s whole = (formed s whole).journal.fits
store_fits After s whole = (formed s whole).redo.fits

module _ (w : Way) (s : Session) (whole : well_formed s ≡ true) where
  abbrev store : List ℕ
  store = take (used_of w s) (store_of w s)

  pub whole_reading : (es : List Entry) → scan store ≡ between es → reading_of (scan store) ≡ Ok (record { count = length es; newest = newest_at es })
  unfolding reading_of
  whole_reading es r = ap reading_of r

  store_long : (es : List Entry) → scan store ≡ between es → length (written es) ≡ used_of w s
  store_long es r = ap length (sym (scan_written store es r)) ∙ length-take-le (used_of w s) (store_of w s) (store_fits w s whole)

used_of_lem : (w : Way) (h : Head) (b : List ℕ) → used_of w (session_in h b) ≡ by_way w h.used h.ahead
unfolding used_of by_way session_in
used_of_lem Before h b = refl
used_of_lem After h b = refl

pub newest_low : (w : Way) (h : Head) (b : List ℕ) → HeadStands h b → (whole : well_formed (session_in h b) ≡ true) (found : Newest) → NewestFound w (session_in h b) (Some found)
    → found.place ≤ by_way w h.used h.ahead
newest_low w h b here whole found x =
    let s = session_in h b in
    let r = store_reads w s whole in
    let is = begins_at (sym x.1 ∙ whole_reading w s whole r.entries r.scanned) in
    omega (arith, is, newest_written r.entries, store_long w s whole r.entries r.scanned, used_of_lem w h b)

-- ---- what the marks ask for: the newest entry begins at `at`

newest_first : (es : List Entry) (at : ℕ) → at ≡ newest_at es → (length es ≡ 0 → ⊥) → (e : Entry) × (older : List Entry) × (es ≡ e ∷ older) × (at ≡ length (written older))
unfolding newest_at
newest_first [] at is some = absurd (some refl)
newest_first (e ∷ es) at is some = (e, es, refl, is)

pub marks_before : (w : Way) (h : Head) (b : List ℕ) → HeadStands h b → well_formed (session_in h b) ≡ true → (n : ℕ) → n ≡ by_way w h.used h.ahead → (n ≡ 0 → ⊥)
    → (found : Newest) → NewestFound w (session_in h b) (Some found) → MarksBefore w h.used found.place b
unfolding used_of store_of by_way session_in reading_of written
marks_before Before h b here whole n counted some found x =
    let m = formed_marked h b whole in
    let is = begins_at (sym x.1 ∙ ap reading_of m.reads) in
    let full : length m.entries ≡ 0 → ⊥ = λ z. some (counted ∙ sym (used_is b here.long h.used m) ∙ no_bytes m.entries z) in
    let f = newest_first m.entries found.place is full in
    record { marked = m; newest = f.0; older = f.1; are = f.2; begins = f.3 }
marks_before After h b here whole n counted some found x = formed_marked h b whole

-- ---- found: n is the used end, m where the store stands in the lent bytes

module _ (h : Head) (b : List ℕ) (here : HeadStands h b) (whole : well_formed (session_in h b) ≡ true) where
  abbrev s : Session
  s = session_in h b

  marked : Marked h.used b
  marked = formed_marked h b whole

  pub from_low : (w : Way) (n : ℕ) → n ≡ by_way w h.used h.ahead → (from : ℕ) → LooksFrom w b from → from ≤ n
  unfolding by_way
  from_low Before n counted from looks = omega (arith, counted, looks.2, place_low b here.long h.used marked looks.0 looks.1)
  from_low After n counted from looks = omega (arith, looks)

  module _ (m n from : ℕ) (found : Option Newest) (is : found ≡ newest_of (reading_of (scan (take (m + n - (m + from)) (drop (m + from) b))))) where
    -- undo: from the last mark on
    marked_part : (x : Mark) → m ≡ journal_at → n ≡ h.used → from ≡ x.place
        → found ≡ newest_of (reading_of (scan (take (journal_at + h.used - (journal_at + x.place)) (drop (journal_at + x.place) b))))
    marked_part x p q r = is ∙ (λ i. newest_of (reading_of (scan (take (p i + q i - (p i + r i)) (drop (p i + r i) b)))))

    -- redo: the whole store
    whole_part_lem : m ≡ redo_at → n ≡ h.ahead → from ≡ 0 → found ≡ newest_of (reading_of (scan (take h.ahead (redo_in b))))
    unfolding session_in
    whole_part_lem p q r =
        let fits : h.ahead ≤ 2048 = omega (arith, (formed s whole).both_fit) in
        let k : m + n - (m + from) ≡ h.ahead = omega (arith, q, r) in
        let l : m + from ≡ redo_at = omega (arith, p, r) in
        is ∙ (λ i. newest_of (reading_of (scan (take (k i) (drop (l i) b))))) ∙ ap (λ (j : List ℕ). newest_of (reading_of (scan j))) (sym (take-take h.ahead 2048 (drop redo_at b) fits))

    pub found_there : (w : Way) → m ≡ store_at w → n ≡ by_way w h.used h.ahead → LooksFrom w b from → (x : Newest) (told : ℕ) → found ≡ Some x → told ≡ by_way w x.passed 0
        → NewestFound w s (Some (record { place = from + x.place; passed = told }))
    unfolding store_at by_way used_of store_of session_in reading_of newest_at passed_by entries_in entries_of
    found_there Before p q looks x told there tp =
        let n = newest_there b here.long h.used marked looks.0 looks.1 found (marked_part looks.0 p q looks.2) x there in
        let at : from + x.place ≡ newest_at marked.entries = omega (arith, looks.2, n.begins, ap newest_at n.are) in
        (length marked.entries, ap reading_of marked.reads ∙ ap (reads_as (length marked.entries)) (sym at), tp ∙ n.counted ∙ ap (λ (y : Scan). passed_of (length (entries_of y))) (sym marked.reads))
    found_there After p q looks x told there tp =
        let r = store_reads After s whole in
        let read = whole_reading After s whole r.entries r.scanned in
        let at : x.place ≡ newest_at r.entries = found_whole _ _ x (sym there ∙ whole_part_lem p q looks ∙ ap newest_of read) in
        let sum : from + x.place ≡ newest_at r.entries = omega (arith, looks, at) in
        (length r.entries, read ∙ ap (reads_as (length r.entries)) (sym sum), tp)

    pub never_nothing : (w : Way) → m ≡ store_at w → n ≡ by_way w h.used h.ahead → (n ≡ 0 → ⊥) → LooksFrom w b from → found ≡ None → ⊥
    unfolding store_at by_way used_of store_of session_in
    never_nothing Before p q some looks none =
        let z = empty_journal b here.long h.used marked looks.0 looks.1 found (marked_part looks.0 p q looks.2) none in
        some (q ∙ sym (used_is b here.long h.used marked) ∙ no_bytes marked.entries (ap length z))
    never_nothing After p q some looks none =
        let r = store_reads After s whole in
        let read = whole_reading After s whole r.entries r.scanned in
        let z : length r.entries ≡ 0 = none_whole _ _ (sym none ∙ whole_part_lem p q looks ∙ ap newest_of read) in
        some (q ∙ sym (store_long After s whole r.entries r.scanned) ∙ no_bytes r.entries z)
