-- The marks of a lent session: where the last part of its journal begins, and the marks with an entry more or less. Assumes nothing.
use Rattle.std.specs.Prelude.{ℕ, ◌+◌, ◌-◌, ◌*◌, ◌/◌, ◌%◌, ◌≤◌, ◌<◌, true, ◌≡◌, List, [], ◌∷◌, length, take, drop, Option, None, Some}
use Rattle.std.proofs.Math.Path.{sym, ap}
use Rattle.std.proofs.Common.{subst, ◌∙◌, arith, length-drop, length-take-le, take-take, take_all, drop-drop}
use Rattle.wire.specs.Wire.{to_be, pasted}
use Rattle.wire.proofs.laws.Wire.{part_of_part}
use Rattle.entries.specs.Entries.{Entry, written, Scan, between, entries_of, scan, newest_at, reading_of}
use Rattle.entries.proofs.laws.Entries.{Proper, scan_written, scan_proper, scan_older, take_newest, length_written}
use Rattle.marks.specs.declared.Mark.{Mark}
use Rattle.marks.specs.declared.Newest.{Newest}
use Rattle.marks.specs.Marks.{marks_of, passed_of, Last, newest_of, last_mark}
use Rattle.marks.proofs.laws.Marks.{two_each, keeps_marks, marks_first, marks_more, marks_less, zeros}
use Rattle.marks.proofs.laws.Last.{NewestIs, last_number, last_place, mark_within, at_mark, mark_here, found_at, found_none}
use Rattle.journal.specs.declared.Way.TheVariants.{Before}
use Rattle.session.specs.Session.{well_formed, entries_in}
use Rattle.session.proofs.laws.Session.{formed}
use Rattle.session.proofs.laws.Reads.{reads}
use Rattle.image.specs.declared.Head.{Head}
use Rattle.image.specs.Image.{journal_in, marks_in, session_in}
use Rattle.layout.specs.Layout.{journal_at, image_length}
use Rattle.inplace.specs.InPlace.{Marked, MarkedTo}

-- a well-formed session is marked
pub formed_marked : (h : Head) (b : List ℕ) → well_formed (session_in h b) ≡ true → Marked h.used b
unfolding session_in entries_in entries_of
formed_marked h b whole =
    let f = formed (session_in h b) whole in
    let r = reads Before (take h.used (journal_in b)) f.journal.reads in
    record { fits = omega (arith, f.both_fit); entries = r.entries; reads = r.scanned; marks_are = f.marks_are ∙ ap (λ (x : Scan). marks_of (entries_of x)) r.scanned }

-- the part of the lent bytes from a place of the journal to its used end
pub journal_part : (b : List ℕ) (at used : ℕ) → at ≤ used → used ≤ 2048 → length b ≡ image_length
    → take (journal_at + used - (journal_at + at)) (drop (journal_at + at) b) ≡ drop at (take used (journal_in b))
journal_part b at used low fits long =
    let k : journal_at + used - (journal_at + at) ≡ used - at = omega arith in
    let all : length (take used (journal_in b)) ≡ used = length-take-le used (journal_in b) (omega (arith, length-take-le 2048 (drop journal_at b) (simp length-drop (omega arith)))) in
    ap (λ (n : ℕ). take n (drop (journal_at + at) b)) k
    ∙ ap (take (used - at)) (sym (drop-drop at journal_at b))
    ∙ sym (part_of_part (used - at) at 2048 (drop journal_at b) (omega arith))
    ∙ sym (part_of_part (used - at) at used (journal_in b) (omega arith))
    ∙ take_all (used - at) (drop at (take used (journal_in b))) (simp length-drop (omega (arith, all)))

module _ (b : List ℕ) (long : length b ≡ image_length) (used : ℕ) (m : Marked used b) where
  abbrev es : List Entry
  es = m.entries

  pub entries_are : entries_in used (journal_in b) ≡ es
  unfolding entries_in entries_of
  entries_are = ap entries_of m.reads

  bytes_are : take used (journal_in b) ≡ written es
  bytes_are = scan_written (take used (journal_in b)) es m.reads

  pub used_is : length (written es) ≡ used
  used_is =
      ap length (sym bytes_are) ∙ length-take-le used (journal_in b) (omega (arith, m.fits, length-take-le 2048 (drop journal_at b) (simp length-drop (omega arith))))

  proper : Proper es
  proper = scan_proper (take used (journal_in b)) es m.reads

  small : length (written es) ≤ 2048
  small = omega (arith, used_is, m.fits)

  halves : 2 * length es ≤ used
  halves = omega (arith, two_each es proper, used_is)

  -- the last mark is found where its last part begins
  module _ (x : Mark) (l : Last (marks_in b) x) where
    last : Last (marks_of es) x
    last = subst (λ (y : List ℕ). Last y x) m.marks_are l

    pub number_is : x.number ≡ (length es - 1) / 32
    number_is = last_number es small (omega (arith, halves, m.fits)) x last

    pub place_is : x.place ≡ last_mark es
    place_is = last_place es small (omega (arith, halves, m.fits)) x last

    pub place_low : x.place ≤ used
    place_low = omega (arith, place_is, mark_within es, used_is)

    part_is : take (journal_at + used - (journal_at + x.place)) (drop (journal_at + x.place) b) ≡ drop (last_mark es) (written es)
    part_is = journal_part b x.place used place_low m.fits long ∙ (λ i. drop (place_is i) (bytes_are i))

    -- what is found there: nothing in an empty journal, else its newest entry
    module _ (found : Option Newest) (is : found ≡ newest_of (reading_of (scan (take (journal_at + used - (journal_at + x.place)) (drop (journal_at + x.place) b))))) where
      found_is : found ≡ newest_of (reading_of (scan (drop (last_mark es) (written es))))
      found_is = is ∙ ap (λ (j : List ℕ). newest_of (reading_of (scan j))) part_is

      pub empty_journal : found ≡ None → es ≡ []
      empty_journal z = found_none es proper (sym z ∙ found_is)

      pub newest_there : (newest : Newest) → found ≡ Some newest → NewestIs es (x.place + newest.place) newest.passed
      newest_there newest e =
          subst (λ (n : ℕ). NewestIs es (n + newest.place) newest.passed) (sym place_is) (found_at es proper newest (sym e ∙ found_is))

    -- with one entry more, which begins at the used end
    module _ (room : used + 2 ≤ 2048) where
      pub first_marks : (e : Entry) → es ≡ [] → marks_of (e ∷ es) ≡ marks_in b
      first_marks e z = ap (λ (fs : List Entry). marks_of (e ∷ fs)) z ∙ marks_first e ∙ ap marks_of (sym z) ∙ sym m.marks_are

      module _ (at passed : ℕ) (n : NewestIs es at passed) where
        some : 1 ≤ length es
        some = omega (arith, ap length n.are)

        pub same_marks : (e : Entry) → (passed ≡ 31 → ⊥) → marks_of (e ∷ es) ≡ marks_in b
        unfolding passed_of
        same_marks e h = keeps_marks e es (λ z. h (omega (arith, n.counted, some, z))) ∙ sym m.marks_are

        full_part : passed ≡ 31 → length es % 32 ≡ 0
        unfolding passed_of
        full_part h = omega (arith, n.counted, some, h)

        pub one_marked : (e : Entry) → passed ≡ 31 → marks_of (e ∷ es) ≡ pasted (2 * (x.number + 1)) (to_be 2 used) (marks_in b)
        one_marked e h =
            let k : length es / 32 ≡ x.number + 1 = omega (arith, number_is, some, full_part h) in
            marks_more e es (full_part h) (omega (arith, halves))
            ∙ (λ i. pasted (2 * k i) (to_be 2 (used_is i)) (sym m.marks_are i))

        pub next_low : passed ≡ 31 → x.number + 1 ≤ 31
        next_low h = omega (arith, number_is, some, full_part h, halves)

    -- with the newest entry less, which begins at a place
    module _ (at passed : ℕ) (n : NewestIs es at passed) where
      abbrev older : List Entry
      older = n.older

      older_long : length (written older) < used
      older_long = omega (arith, used_is, ap (λ (fs : List Entry). length (written fs)) n.are, length_written n.newest older)

      older_few : length older ≤ 1023
      older_few = omega (arith, ap length n.are, halves, m.fits)

      is_marked : x.place ≡ last_mark (n.newest ∷ older)
      is_marked = place_is ∙ ap last_mark n.are

      marks_were : marks_in b ≡ marks_of (n.newest ∷ older)
      marks_were = m.marks_are ∙ ap marks_of n.are

      pub still_marked : (x.place ≡ at → ⊥) → marks_of older ≡ marks_in b
      still_marked h =
          sym (keeps_marks n.newest older (λ z. h (is_marked ∙ (at_mark n.newest older z).0 ∙ sym n.begins))) ∙ sym marks_were

      pub no_longer_marked : x.place ≡ at → marks_of older ≡ pasted (2 * x.number) (zeros 2) (marks_in b)
      no_longer_marked h =
          let z : length older % 32 ≡ 0 = mark_here n.newest older (sym is_marked ∙ h ∙ n.begins) in
          let k : length older / 32 ≡ x.number = sym number_is' in
          marks_less n.newest older z older_few ∙ (λ i. pasted (2 * k i) (zeros 2) (sym marks_were i))
        where
          number_is' : x.number ≡ length older / 32
          number_is' = omega (arith, number_is, ap length n.are)

-- the bytes before the newest entry read as the older ones
pub older_reads : (b : List ℕ) → length b ≡ image_length → (used at : ℕ) (m : MarkedTo used at b) → entries_in at (journal_in b) ≡ m.older
unfolding entries_in entries_of newest_at
older_reads b long used at m =
    let j = take used (journal_in b) in
    let read : scan j ≡ between (m.newest ∷ m.older) = m.marked.reads ∙ ap between m.are in
    let low : at ≤ used = omega (arith, m.begins, used_is b long used m.marked, ap (λ (fs : List Entry). length (written fs)) m.are, length_written m.newest m.older) in
    ap (λ (l : List ℕ). entries_of (scan l))
    (sym (take-take at used (journal_in b) low) ∙ ap (λ (n : ℕ). take n j) m.begins ∙ take_newest j m.newest m.older read)
    ∙ ap entries_of (scan_older j m.newest m.older read)
