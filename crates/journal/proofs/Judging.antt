-- What each turn of `all_ok` keeps, and what it finds where it stops. Assumes nothing.
use Prim.Native.Nat.{ℕ, zero, suc, ◌+◌, ◌-◌, ◌*◌, ◌%◌, ◌≤◌, ◌<◌}
use mathlib.Core.Bool.{Bool, true, false, cond, not}
use mathlib.Core.Path.{◌≡◌, refl, sym, ap, subst, ◌∙◌}
use mathlib.Core.List.{List, [], ◌∷◌, ◌++◌}
use native.Mathlib.Numerals.{add-one}
use native.Mathlib.Nat.{add-sub_cancel_left}
use native.Mathlib.Omega.{arith}
use borrow.Author.Tests.{not-true, not-false}
use lib.ListN.{length, get_or, take, drop, take-append-drop}
use Rattle.wire.proofs.laws.Cases.{if_b, else_b, else_eq, cond_elim}
use Rattle.wire.specs.Wire.{Bytes}
use Rattle.wire.proofs.laws.Wire.{bytes_of}
use Rattle.entries.specs.Entries.{Entry, body_len, written, journal_table, Scan, between, within, unknown, opened, eat, scan_from, entries_of, scan}
use Rattle.entries.proofs.laws.ByTable.{whole_length, whole_reads}
use Rattle.entries.proofs.laws.Entries.{scan_append, scan_proper}
use Rattle.entries.proofs.laws.Places.{first_place, place_written, next_place, scan_end, scan_unknown, scan_cut, entry_at, length_body}
use Rattle.entries.specs.Places.{Place}
use Rattle.marks.specs.Marks.{stands_at, all_stand, rest_unused, marks_fit}
use Rattle.marks.proofs.laws.Marks.{two_each}
use Rattle.marks.proofs.laws.Tested.{tested}
use Rattle.journal.specs.declared.Way.{Way}
use Rattle.journal.specs.declared.Way.TheVariants.{Before, After}
use Rattle.journal.specs.Ways.{by_way}
use Rattle.journal.specs.Read.{entry_ok, all_ok, scan_ok, entries_ok, marks_ok, read_ok}

-- ---- an entry whose values are bad spoils all that is read after it

fine : Way → Scan → Bool
fine w (between es) = all_ok w es
fine w (within es k b n) = all_ok w es
fine w (unknown es) = false

bad_more : (w : Way) (e : Entry) (es : List Entry) → all_ok w es ≡ false → all_ok w (e ∷ es) ≡ false
unfolding all_ok
bad_more w e es h = cond_elim (λ (t : Bool). t ≡ false) (entry_ok w e) h refl

bad_opened : (w : Way) (es : List Entry) (k n : ℕ) → all_ok w es ≡ false → fine w (opened es k n) ≡ false
unfolding fine opened
bad_opened w es k zero h = refl
bad_opened w es k (suc zero) h = bad_more w (record { kind = k; body = [] }) es h
bad_opened w es k (suc (suc n)) h = h

bad_eat : (w : Way) (s : Scan) (x : ℕ) → fine w s ≡ false → fine w (eat journal_table s x) ≡ false
unfolding fine eat
bad_eat w (between es) x h = bad_opened w es x (journal_table x) h
bad_eat w (within es k b zero) x h = bad_more w (record { kind = k; body = b ++ (x ∷ []) }) es h
bad_eat w (within es k b (suc n)) x h = h
bad_eat w (unknown es) x h = refl

bad_from : (w : Way) (s : Scan) (xs : List ℕ) → fine w s ≡ false → fine w (scan_from journal_table s xs) ≡ false
unfolding scan_from
bad_from w s [] h = h
bad_from w s (x ∷ xs) h = bad_from w (eat journal_table s x) xs (bad_eat w s x h)

bad_scan : (w : Way) (s : Scan) → fine w s ≡ false → false ≡ scan_ok w s
unfolding fine scan_ok
bad_scan w (between es) h = sym h
bad_scan w (within es k b n) h = refl
bad_scan w (unknown es) h = refl

-- what doesn't read, or holds bad values, isn't helped by its marks
no_entries : (w : Way) (m j : List ℕ) → false ≡ entries_ok w j → false ≡ read_ok w m j
unfolding read_ok
no_entries w m j h = else_b _ _ (sym h) refl

-- ---- an entry without its mark spoils all that is read after it, likewise

pub stood : Way → List ℕ → List Entry → Bool
stood w m es = by_way w (all_stand m es) true

off_more : (w : Way) (m : List ℕ) (e : Entry) (es : List Entry) → stood w m es ≡ false → stood w m (e ∷ es) ≡ false
unfolding stood by_way all_stand
off_more Before m e es h = sym (else_b _ _ h refl)
off_more After m e es h = h

off_opened : (w : Way) (m : List ℕ) (es : List Entry) (k n : ℕ) → stood w m es ≡ false → stood w m (entries_of (opened es k n)) ≡ false
unfolding entries_of opened
off_opened w m es k zero h = h
off_opened w m es k (suc zero) h = off_more w m (record { kind = k; body = [] }) es h
off_opened w m es k (suc (suc n)) h = h

off_eat : (w : Way) (m : List ℕ) (s : Scan) (x : ℕ) → stood w m (entries_of s) ≡ false → stood w m (entries_of (eat journal_table s x)) ≡ false
unfolding entries_of eat
off_eat w m (between es) x h = off_opened w m es x (journal_table x) h
off_eat w m (within es k b zero) x h = off_more w m (record { kind = k; body = b ++ (x ∷ []) }) es h
off_eat w m (within es k b (suc n)) x h = h
off_eat w m (unknown es) x h = h

off_from : (w : Way) (m : List ℕ) (s : Scan) (xs : List ℕ) → stood w m (entries_of s) ≡ false → stood w m (entries_of (scan_from journal_table s xs)) ≡ false
unfolding scan_from
off_from w m s [] h = h
off_from w m s (x ∷ xs) h = off_from w m (eat journal_table s x) xs (off_eat w m s x h)

one_off : (w : Way) (m : List ℕ) (e : Entry) (es : List Entry) → by_way w (stands_at m (length es) (length (written es))) true ≡ false → stood w m (e ∷ es) ≡ false
unfolding stood by_way all_stand
one_off Before m e es h = cond_elim (λ (t : Bool). t ≡ false) (all_stand m es) h refl
one_off After m e es h = h

one_stands : (w : Way) (m : List ℕ) (e : Entry) (es : List Entry) → stood w m es ≡ true → by_way w (stands_at m (length es) (length (written es))) true ≡ true
    → stood w m (e ∷ es) ≡ true
unfolding stood by_way all_stand
one_stands Before m e es h k = sym (if_b _ _ h (sym k))
one_stands After m e es h k = refl

no_marks : (t : Bool) {b : Bool} → false ≡ b → false ≡ cond t b false
no_marks true h = h
no_marks false h = refl

-- the test entry by entry is the test of all marks
few : (j : List ℕ) → length j ≤ 2048 → (length (entries_of (scan j)) ≤ 1024) × (length (written (entries_of (scan j))) ≤ 2048)
few j h =
    let es = entries_of (scan j) in
    let n : length (written es) ≤ length j = whole_length journal_table j in
    (omega (arith, n, two_each es (scan_proper (written es) es (whole_reads journal_table j))), omega (arith, n))

by_tests : (w : Way) (m : List ℕ) (es : List Entry) → length m ≡ 64 → Bytes m → (length es ≤ 1024) × (length (written es) ≤ 2048)
    → cond (stood w m es) (by_way w (rest_unused m (length es)) true) false ≡ marks_ok w m es
unfolding stood marks_ok by_way marks_fit
by_tests Before m es wide bytes f = tested m wide bytes es f.0 f.1
by_tests After m es wide bytes f = refl

-- ---- `at` is a place, the entries before it have good values, and their marks stand

pub record Judged (w : Way) (m j : List ℕ) (at count : ℕ) : Type 0 where
  pub entries : List Entry
  pub place : Place j at entries
  pub counted : count ≡ length entries
  pub good : all_ok w entries ≡ true
  pub stand : stood w m entries ≡ true
  -- what was lent
  pub wide : length m ≡ 64
  pub bytes : Bytes m
  pub short : length j ≤ 2048

pub not_marked : (w : Way) (m : List ℕ) (n at : ℕ) → (n % 32 ≡ 0 → ⊥) → true ≡ by_way w (stands_at m n at) true
unfolding by_way stands_at
not_marked Before m n at z = else_eq _ _ {m = n % 32} {n = 0} z refl
not_marked After m n at z = refl

none_stand : (w : Way) (m : List ℕ) → stood w m [] ≡ true
unfolding stood by_way all_stand
none_stand Before m = refl
none_stand After m = refl

pub judged_none : (w : Way) (m j : List ℕ) → length m ≡ 64 → ((i : ℕ) → get_or m i 0 < 256) → length j ≤ 2048 → Judged w m j 0 0
unfolding all_ok
judged_none w m j wide bytes short =
    record { entries = []; place = first_place j; counted = refl; good = refl; stand = none_stand w m; wide = wide; bytes = bytes_of m bytes; short = short }

module _ {w : Way} {m j : List ℕ} {at count : ℕ} (p : Judged w m j at count) where
  -- each entry has two bytes, so fewer than 1,024 stand before another one
  pub count_low : (at < length j → count < 1024) × (length j ≤ at → count ≤ 1024)
  count_low = (λ h. omega (arith, h, halves, p.short), λ h. omega (arith, halves, p.place.fits, p.short))
    where
      halves : 2 * count ≤ at
      halves = omega (arith, p.counted, place_written p.place, two_each p.entries (scan_proper (take at j) p.entries p.place.reads))

  pub judged_end : length j ≤ at → {x : Bool} → x ≡ by_way w (rest_unused m count) true → x ≡ read_ok w m j
  unfolding entries_ok scan_ok read_ok entries_of
  judged_end h {x} e =
      let all = scan_end p.place h in
      if_b _ _ (ap (scan_ok w) all ∙ p.good)
      (if_b _ false p.stand (e ∙ ap (λ (n : ℕ). by_way w (rest_unused m n) true) p.counted)
      ∙ by_tests w m p.entries p.wide p.bytes (subst (λ (s : Scan). (length (entries_of s) ≤ 1024) × (length (written (entries_of s)) ≤ 2048)) all (few j p.short))
      ∙ sym (ap (λ (s : Scan). marks_ok w m (entries_of s)) all))

  module _ {n : ℕ} (size : n ≡ body_len (get_or j at 0)) (more : at < length j) where
    pub judged_unknown : n ≡ 0 → false ≡ read_ok w m j
    unfolding entries_ok scan_ok
    judged_unknown z = no_entries w m j (sym (ap (scan_ok w) (scan_unknown p.place size more z)))

    pub judged_cut : (n ≡ 0 → ⊥) → length j - at ≤ n → false ≡ read_ok w m j
    unfolding entries_ok scan_ok
    judged_cut z h = no_entries w m j (sym (ap (scan_ok w) (scan_cut p.place size more z h)))

    module _ (known : n ≡ 0 → ⊥) (uncut : n < length j - at) where
      -- the bytes lent, those of the body
      body_part : take (at + 1 + n - (at + 1)) (drop (at + 1) j) ≡ (entry_at j at n).body
      body_part = rw (add-sub_cancel_left, add-one)

      end : at + (n + 1) ≡ at + 1 + n
      end = omega arith

      next : Place j (at + 1 + n) (entry_at j at n ∷ p.entries)
      next = subst (λ (m : ℕ). Place j m (entry_at j at n ∷ p.entries)) end (next_place p.place size more known uncut)

      pub body_room : body_len (get_or j at 0) ≤ length (take (at + 1 + n - (at + 1)) (drop (at + 1) j))
      body_room = omega (arith, size, ap length body_part, length_body j at n uncut)

      module _ {x : Bool} (judged : x ≡ entry_ok w (record { kind = get_or j at 0; body = take (at + 1 + n - (at + 1)) (drop (at + 1) j) })) where
        value : x ≡ entry_ok w (entry_at j at n)
        value = judged ∙ ap (λ (b : List ℕ). entry_ok w (record { kind = get_or j at 0; body = b })) body_part

        spoilt : x ≡ false → fine w (between (entry_at j at n ∷ p.entries)) ≡ false
        unfolding fine all_ok
        spoilt h = sym (else_b _ _ (sym value ∙ h) refl)

        whole_scan : scan j ≡ scan_from journal_table (scan (take (at + 1 + n) j)) (drop (at + 1 + n) j)
        whole_scan = ap scan (sym (take-append-drop (at + 1 + n) j)) ∙ scan_append (take (at + 1 + n) j) (drop (at + 1 + n) j)

        pub judged_bad : not x ≡ true → false ≡ read_ok w m j
        unfolding entries_ok
        judged_bad h =
            let bad : fine w (scan (take (at + 1 + n) j)) ≡ false = ap (fine w) next.reads ∙ spoilt (not-true x h) in
            no_entries w m j (bad_scan w (scan j) (ap (fine w) whole_scan ∙ bad_from w (scan (take (at + 1 + n) j)) (drop (at + 1 + n) j) bad))

        module _ {y : Bool} (marked : y ≡ by_way w (stands_at m count at) true) where
          mark_is : y ≡ by_way w (stands_at m (length p.entries) (length (written p.entries))) true
          mark_is = marked ∙ (λ i. by_way w (stands_at m (p.counted i) (place_written p.place i)) true)

          pub judged_off : not y ≡ true → false ≡ read_ok w m j
          unfolding read_ok entries_of
          judged_off h =
              let off : stood w m (entries_of (scan (take (at + 1 + n) j))) ≡ false =
              ap (λ (s : Scan). stood w m (entries_of s)) next.reads ∙ one_off w m (entry_at j at n) p.entries (sym mark_is ∙ not-true y h) in
              let all : stood w m (entries_of (scan j)) ≡ false =
              ap (λ (s : Scan). stood w m (entries_of s)) whole_scan ∙ off_from w m (scan (take (at + 1 + n) j)) (drop (at + 1 + n) j) off in
              no_marks (entries_ok w j) (else_b _ false all refl ∙ by_tests w m (entries_of (scan j)) p.wide p.bytes (few j p.short))

          pub judged_next : not x ≡ false → not y ≡ false → Judged w m j (at + 1 + n) (count + 1)
          unfolding all_ok
          judged_next h k = record {
            entries = entry_at j at n ∷ p.entries;
            place = next;
            counted = add-one count ∙ ap suc p.counted;
            good = sym (if_b _ _ (sym value ∙ not-false x h) (sym p.good));
            stand = one_stands w m (entry_at j at n) p.entries p.stand (sym mark_is ∙ not-false y k);
            wide = p.wide;
            bytes = p.bytes;
            short = p.short;
          }
