-- A session and its two saved forms are inverse to each other. Assumes nothing.
use Rattle.std.specs.Prelude.{ℕ, zero, suc, ◌+◌, ◌≤◌, ◌<◌, ◌^◌, true, ◌≡◌, refl, eqb, length, take, drop, replicate}
use Rattle.std.proofs.Math.Path.{sym, ap}
use Rattle.std.proofs.Common.{ap₂, subst, ◌∙◌, arith, eqb-true, eq-eqb, lit<, length-drop, take-append-drop, length-take-le, drop-cons}
use mathlib.Core.List.{List, [], ◌∷◌}
use Rattle.std.proofs.Math.ListN.{get_or}
use Rattle.std.proofs.Math.Seq.{take_all}
use Rattle.wire.specs.Wire.{sum_of, to_be, Bytes, joined, all_are}
use Rattle.wire.proofs.laws.Wire.{bytes_take, bytes_drop, to_be_be, be_fits, take_all_are}
use Rattle.record.specs.Record.{worked_of}
use Rattle.formed.proofs.laws.Formed.{both_hold, hold_both}
use Rattle.entries.specs.Entries.{Entry, Scan, between, unknown, opened, eat, scan_from, scan, entries_of, written, body_len, with_kind, journal_table}
use Rattle.entries.proofs.laws.Entries.{scan_append, scan_written}
use Rattle.entries.proofs.laws.ByTable.{whole_length}
use Rattle.journal.specs.declared.Way.{Way}
use Rattle.journal.specs.declared.Way.TheVariants.{Before, After}
use Rattle.session.specs.Session.{well_formed}
use Rattle.session.proofs.laws.Session.{Store, formed}
use Rattle.session.proofs.laws.Reads.{reads}
use Rattle.session.specs.declared.Session.{Session}
use Rattle.links.specs.Typed.{TypedSession}
use Rattle.image.specs.Rows.{widths_of, rows_from}
use Rattle.image.specs.Image.{byte, byte_at, part_at, number_at, record_in}
use Rattle.image.proofs.laws.Rows.{length_joined, rows_joined, joined_rows}
use Rattle.image.proofs.laws.Image.{Typed, byte_back, number_back}
use Rattle.saving.specs.Forms.{saved_length, saved_rows, saved_of, kinds_ok, used_in, timer_from, session_of_saved}
use Rattle.saving.proofs.laws.Record.{length_record, record_back, record_typed, record_again, worked_fits_lem}

-- ---- a store's used length is read off its entries

unknown_stays : (es : List Entry) (xs : List ℕ) → scan_from journal_table (unknown es) xs ≡ unknown es
unfolding scan_from eat
unknown_stays es [] = refl
unknown_stays es (x ∷ xs) = unknown_stays es xs

-- 00 is no kind
zeros_stop : (es : List Entry) (n : ℕ) → entries_of (scan_from journal_table (between es) (replicate n 0)) ≡ es
unfolding scan_from eat opened entries_of journal_table with_kind body_len
zeros_stop es zero = refl
zeros_stop es (suc n) = ap entries_of (unknown_stays es (replicate n 0))

pub zeros_are : (l : List ℕ) → all_are 0 l ≡ true → l ≡ replicate (length l) 0
zeros_are l h = sym (take_all (length l) l (omega arith)) ∙ take_all_are 0 (length l) l h (omega arith)

pub used_back : (w : Way) (j : List ℕ) (used : ℕ) → Store w j used → used_in j ≡ used
unfolding used_in
used_back w j used s =
    let r = reads w (take used j) s.reads in
    let front : scan j ≡ scan_from journal_table (between r.entries) (replicate (length (drop used j)) 0) =
    ap scan (sym (take-append-drop used j))
    ∙ scan_append (take used j) (drop used j)
    ∙ ap₂ (λ (x : Scan) (l : List ℕ). scan_from journal_table x l) r.scanned (zeros_are (drop used j) s.unused) in
    ap (λ (x : Scan). length (written (entries_of x))) front
    ∙ ap (λ (es : List Entry). length (written es)) (zeros_stop r.entries (length (drop used j)))
    ∙ ap length (sym (scan_written (take used j) r.entries r.scanned))
    ∙ length-take-le used j s.fits

pub used_low : (j : List ℕ) → used_in j ≤ length j
unfolding used_in
used_low j = whole_length journal_table j

-- ---- the new form: reading what was written gives the session

unfoldable saved_widths : List ℕ
saved_widths = 1 ∷ 230 ∷ 1 ∷ 2 ∷ 1 ∷ 2048 ∷ 1 ∷ 2048 ∷ 1 ∷ 64 ∷ 1 ∷ 1 ∷ 1 ∷ 1 ∷ 8 ∷ []

widths_saved : (s : Session) → TypedSession s → widths_of (saved_rows s) ≡ saved_widths
unfolding widths_of saved_widths saved_rows to_be
widths_saved s t = λ i. 1 ∷ length_record s.held t.held i ∷ 1 ∷ 2 ∷ 1 ∷ t.journal i ∷ 1 ∷ t.redo i ∷ 1 ∷ t.marks i ∷ 1 ∷ 1 ∷ 1 ∷ 1 ∷ 8 ∷ []

pub length_saved : (s : Session) → TypedSession s → length (saved_of s) ≡ saved_length
unfolding saved_of saved_widths sum_of
length_saved s t = length_joined (saved_rows s) ∙ ap sum_of (widths_saved s t)

module _ (s : Session) (t : TypedSession s) where
  row : (k : ℕ) → get_or (rows_from 0 saved_widths (saved_of s)) k [] ≡ get_or (saved_rows s) k []
  unfolding saved_of
  row k =
      ap (λ (rs : List (List ℕ)). get_or rs k []) (ap (λ (ws : List ℕ). rows_from 0 ws (saved_of s)) (sym (widths_saved s t)) ∙ rows_joined (saved_rows s))

  -- its kinds
  kind : (at k : ℕ) → part_at 1 at (saved_of s) ≡ byte k → eqb (byte_at at (saved_of s)) k ≡ true
  kind at k e = eq-eqb _ k (byte_back at k (saved_of s) e)

  pub kinds_saved : kinds_ok (saved_of s) ≡ true
  unfolding kinds_ok rows_from saved_widths saved_rows
  kinds_saved =
      hold_both (kind 0 1 (row 0))
      (hold_both (kind 231 2 (row 2))
      (hold_both (kind 234 3 (row 4))
      (hold_both (kind 2283 4 (row 6))
      (hold_both (kind 4332 5 (row 8))
      (hold_both (kind 4397 6 (row 10)) (kind 4399 7 (row 12)))))))

  record_saved : record_in (drop 1 (saved_of s)) ≡ s.held
  unfolding saved_of saved_rows joined
  record_saved = record_back s.held t.held _

  journal_saved : part_at 2048 235 (saved_of s) ≡ s.journal
  unfolding rows_from saved_widths saved_rows
  journal_saved = row 5

  redo_saved : part_at 2048 2284 (saved_of s) ≡ s.redo
  unfolding rows_from saved_widths saved_rows
  redo_saved = row 7

  timer_saved : timer_from (saved_of s) ≡ s.timer
  unfolding timer_from rows_from saved_widths saved_rows
  timer_saved = λ i. record { running = byte_back 4400 _ (saved_of s) (row 13) i; left = number_back 8 4401 _ (saved_of s) (row 14) t.timer i }

  pub saved_back : well_formed s ≡ true → session_of_saved (saved_of s) ≡ s
  unfolding session_of_saved rows_from saved_widths saved_rows
  saved_back whole =
      let f = formed s whole in
      λ i.
      record {
        held = record_saved i;
        worked = (ap worked_of record_saved ∙ sym f.worked_is) i;
        next = number_back 2 232 _ (saved_of s) (row 3) t.next i;
        journal = journal_saved i;
        used = (ap used_in journal_saved ∙ used_back Before s.journal s.used f.journal) i;
        redo = redo_saved i;
        ahead = (ap used_in redo_saved ∙ used_back After s.redo s.ahead f.redo) i;
        marks = row 9 i;
        timer = timer_saved i;
        profile = byte_back 4398 _ (saved_of s) (row 11) i;
      }

-- ---- writing what was read gives the bytes

module _ (b : List ℕ) (bytes : Bytes b) where
  -- one byte, one that is known, and a number of so many
  pub one : (at : ℕ) → at < length b → byte (byte_at at b) ≡ part_at 1 at b
  one at h = sym (ap (take 1) (drop-cons b at 0 h))

  is : (at k : ℕ) → at < length b → eqb (byte_at at b) k ≡ true → byte k ≡ part_at 1 at b
  is at k h e = ap byte (sym (eqb-true (byte_at at b) k e)) ∙ one at h

  pub part_long : (n at : ℕ) → at + n ≤ length b → length (part_at n at b) ≡ n
  part_long n at h = length-take-le n (drop at b) (simp length-drop (omega arith))

  pub number : (n at : ℕ) → at + n ≤ length b → to_be n (number_at n at b) ≡ part_at n at b
  number n at h =
      ap (λ (k : ℕ). to_be k (number_at n at b)) (sym (part_long n at h)) ∙ to_be_be (part_at n at b) (bytes_take n (drop at b) (bytes_drop at b bytes))

  pub fits : (n at : ℕ) → at + n ≤ length b → number_at n at b < 256 ^ n
  fits n at h = subst (λ (k : ℕ). number_at n at b < 256 ^ k) (part_long n at h) (be_fits (part_at n at b) (bytes_take n (drop at b) (bytes_drop at b bytes)))

  module _ (long : length b ≡ saved_length) where
    inside : (at n : ℕ) → at + n ≤ saved_length → at + n ≤ length b
    inside at n h = omega (arith, long, h)

    behind : 230 ≤ length (drop 1 b)
    behind = omega (arith, length-drop 1 b, long)

    pub saved_typed : Typed (session_of_saved b)
    unfolding session_of_saved timer_from
    saved_typed = record {
      session = record {
        held = record_typed (drop 1 b) (bytes_drop 1 b bytes) behind;
        journal = part_long 2048 235 (inside 235 2048 (lit< tt));
        next = fits 2 232 (inside 232 2 (lit< tt));
        used = omega (arith, used_low (part_at 2048 235 b), part_long 2048 235 (inside 235 2048 (lit< tt)));
        redo = part_long 2048 2284 (inside 2284 2048 (lit< tt));
        ahead = omega (arith, used_low (part_at 2048 2284 b), part_long 2048 2284 (inside 2284 2048 (lit< tt)));
        marks = part_long 64 4333 (inside 4333 64 (lit< tt));
        timer = fits 8 4401 (inside 4401 8 (lit< tt));
      };
      limit = worked_fits_lem (record_in (drop 1 b)) (record_typed (drop 1 b) (bytes_drop 1 b bytes) behind);
    }

    module _ (kinds : kinds_ok b ≡ true) where
      rows_again : saved_rows (session_of_saved b) ≡ rows_from 0 saved_widths b
      unfolding saved_rows session_of_saved timer_from rows_from saved_widths kinds_ok
      rows_again =
          let k1 = both_hold (eqb (byte_at 0 b) 1) _ kinds in
          let k2 = both_hold (eqb (byte_at 231 b) 2) _ k1.1 in
          let k3 = both_hold (eqb (byte_at 234 b) 3) _ k2.1 in
          let k4 = both_hold (eqb (byte_at 2283 b) 4) _ k3.1 in
          let k5 = both_hold (eqb (byte_at 4332 b) 5) _ k4.1 in
          let k6 = both_hold (eqb (byte_at 4397 b) 6) _ k5.1 in
          λ i.
          is 0 1 (inside 0 1 (lit< tt)) k1.0 i
          ∷ record_again (drop 1 b) (bytes_drop 1 b bytes) behind i
          ∷ is 231 2 (inside 231 1 (lit< tt)) k2.0 i
          ∷ number 2 232 (inside 232 2 (lit< tt)) i
          ∷ is 234 3 (inside 234 1 (lit< tt)) k3.0 i
          ∷ part_at 2048 235 b
          ∷ is 2283 4 (inside 2283 1 (lit< tt)) k4.0 i
          ∷ part_at 2048 2284 b
          ∷ is 4332 5 (inside 4332 1 (lit< tt)) k5.0 i
          ∷ part_at 64 4333 b
          ∷ is 4397 6 (inside 4397 1 (lit< tt)) k6.0 i
          ∷ one 4398 (inside 4398 1 (lit< tt)) i
          ∷ is 4399 7 (inside 4399 1 (lit< tt)) k6.1 i
          ∷ one 4400 (inside 4400 1 (lit< tt)) i
          ∷ number 8 4401 (inside 4401 8 (lit< tt)) i
          ∷ []

      pub saved_again : saved_of (session_of_saved b) ≡ b
      unfolding saved_of saved_widths sum_of
      saved_again = ap joined rows_again ∙ joined_rows 0 saved_widths b ∙ take_all saved_length b (omega (arith, long))
