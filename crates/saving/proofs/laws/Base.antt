-- A session and its base save are inverse to each other. Assumes nothing.
use Rattle.std.specs.Prelude.{ℕ, ◌+◌, ◌-◌, ◌≤◌, true, cond, not, ◌≡◌, eqb}
use Rattle.std.proofs.Math.Path.{refl, sym, ap, ap₂}
use Rattle.std.proofs.Common.{subst, ◌∙◌, arith, length-append, take_all, take_at, drop_at, drop-drop}
use mathlib.Core.List.{List, ◌++◌, append-nil}
use borrow.Author.Tests.{eqb-true}
use Rattle.std.proofs.Math.Dec.{lit<}
use Rattle.std.proofs.Math.ListN.{length, take, drop, replicate, length-drop, length-replicate, take-append-drop}
use Rattle.std.proofs.Math.Seq.{length-take-le, take-append_seam}
use Rattle.wire.specs.Wire.{to_be, joined, all_are, Bytes}
use Rattle.wire.proofs.laws.Wire.{length_to_be}
use Rattle.record.specs.Record.{worked_of}
use Rattle.formed.specs.Formed.{timer_ok, clock_ok, flag_ok}
use Rattle.formed.proofs.laws.Formed.{both_hold}
use Rattle.entries.specs.Entries.{Scan, entries_of, scan, written, journal_table, ReadsWhole}
use Rattle.entries.proofs.laws.Entries.{scan_written}
use Rattle.entries.proofs.laws.ByTable.{whole_front, whole_reads}
use Rattle.marks.specs.Marks.{marks_of}
use Rattle.marks.proofs.laws.Marks.{length_marks}
use Rattle.journal.specs.Read.{entries_ok}
use Rattle.journal.specs.declared.Way.TheVariants.{Before}
use Rattle.session.specs.Session.{well_formed, entries_in}
use Rattle.session.proofs.laws.Session.{formed}
use Rattle.session.proofs.laws.Reads.{reads}
use Rattle.session.specs.declared.Session.{Session}
use Rattle.links.specs.Typed.{TypedSession}
use Rattle.image.specs.Image.{part_at, record_rows, record_in}
use Rattle.image.proofs.laws.Image.{Typed, number_back}
use Rattle.saving.specs.Forms.{base_head, base_most, base_rows, base_of, padded, session_of_base, used_in}
use Rattle.saving.specs.Moves.{goes_down}
use Rattle.saving.proofs.laws.Record.{length_record, record_back, record_typed, record_again, worked_fits_lem}
use Rattle.saving.proofs.laws.Forms.{zeros_are, number, fits}

pub length_padded : (j : List ℕ) → length j ≤ 2048 → length (padded j) ≡ 2048
unfolding padded
length_padded j h = length-append j (replicate (2048 - length j) 0) ∙ omega (arith, h, length-replicate {A = ℕ} (2048 - length j) 0)

pub take_padded : (j : List ℕ) → take (length j) (padded j) ≡ j
unfolding padded
take_padded j = take-append_seam j (replicate (2048 - length j) 0)

-- ---- bytes that read as entries are all used, and the other way round

pub all_used : (j : List ℕ) → used_in j ≡ length j → ReadsWhole j
unfolding used_in
all_used j e =
    let is : j ≡ written (entries_of (scan j)) = sym (take_all (length j) j (omega arith)) ∙ ap (λ (n : ℕ). take n j) (sym e) ∙ whole_front journal_table j in
    record { entries = entries_of (scan j); reads = ap scan is ∙ whole_reads journal_table j }

pub formed_used : (b : List ℕ) → well_formed (session_of_base b) ≡ true → used_in (drop base_head b) ≡ length (drop base_head b)
unfolding session_of_base used_in entries_of
formed_used b whole =
    let j = drop base_head b in
    let f = formed (session_of_base b) whole in
    let ok : entries_ok Before j ≡ true = ap (entries_ok Before) (sym (take_padded j)) ∙ f.journal.reads in
    let r = reads Before j ok in
    ap (λ (x : Scan). length (written (entries_of x))) r.scanned ∙ ap length (sym (scan_written j r.entries r.scanned))

-- ---- what is read

module _ (b : List ℕ) (bytes : Bytes b) (long : base_head ≤ length b) where
  front : 230 ≤ length b
  front = omega (arith, long)

  next_in : 230 + 2 ≤ length b
  next_in = omega (arith, long)

  pub base_typed : length b ≤ base_most → Typed (session_of_base b)
  unfolding session_of_base
  base_typed most =
      let held = record_typed b bytes front in
      record {
        session = record {
          held = held;
          journal = length_padded (drop base_head b) (omega (arith, length-drop base_head b, most));
          next = fits b bytes 2 230 next_in;
          used = omega (arith, length-drop base_head b, most);
          redo = length-replicate {A = ℕ} 2048 0;
          ahead = lit< tt;
          marks = length_marks _;
          timer = lit< tt;
        };
        limit = worked_fits_lem (record_in b) held;
      }

  -- writing what was read gives the bytes
  pub base_again : base_of (session_of_base b) ≡ b
  unfolding base_of base_rows joined session_of_base
  base_again =
      (λ i.
      record_again b bytes front i
      ++ (number b bytes 2 230 next_in i
      ++ (append-nil (take (length (drop base_head b)) (padded (drop base_head b))) ∙ take_padded (drop base_head b)) i))
      ∙ ap (λ (l : List ℕ). take 230 b ++ (part_at 2 230 b ++ l)) (sym (drop-drop 2 230 b))
      ∙ ap (λ (l : List ℕ). take 230 b ++ l) (take-append-drop 2 (drop 230 b))
      ∙ take-append-drop 230 b

-- ---- reading what was written gives the session, where it can go down

clock_off : (running left : ℕ) → clock_ok running left ≡ true → running ≡ 0 → left ≡ 0
unfolding clock_ok
clock_off running left h z =
    let p = both_hold (flag_ok running) _ h in
    let q : cond (not (eqb 0 0)) true (eqb left 0) ≡ true = subst (λ (n : ℕ). cond (not (eqb n 0)) true (eqb left 0) ≡ true) z p.1 in
    eqb-true left 0 q

module _ (s : Session) (t : TypedSession s) where
  abbrev r : List ℕ
  r = joined (record_rows s.held)

  abbrev n : List ℕ
  n = to_be 2 s.next

  abbrev u : List ℕ
  u = take s.used s.journal

  parts : base_of s ≡ r ++ (n ++ u)
  unfolding base_of base_rows joined
  parts = ap (λ (l : List ℕ). r ++ (n ++ l)) (append-nil u)

  pub length_base : s.used ≤ 2048 → length (base_of s) ≡ base_head + s.used
  length_base h =
      ap length parts
      ∙ length-append r (n ++ u)
      ∙ omega (arith, length_record s.held t.held, length-append n u, length_to_be 2 s.next, length-take-le s.used s.journal (omega (arith, h, t.journal)))

  past : drop 230 (base_of s) ≡ n ++ u
  past = ap (drop 230) parts ∙ drop_at r (n ++ u) 230 (length_record s.held t.held)

  journal_part : drop base_head (base_of s) ≡ u
  journal_part = sym (drop-drop 2 230 (base_of s)) ∙ ap (drop 2) past ∙ drop_at n u 2 (length_to_be 2 s.next)

  next_part : part_at 2 230 (base_of s) ≡ n
  next_part = ap (take 2) past ∙ take_at n u 2 (length_to_be 2 s.next)

  padded_by : (j : List ℕ) → replicate (2048 - length u) 0 ≡ drop s.used j → u ≡ take s.used j → padded u ≡ j
  unfolding padded
  padded_by j e q = ap₂ (λ (a b : List ℕ). a ++ b) q e ∙ take-append-drop s.used j

  pub base_back : well_formed s ≡ true → goes_down s ≡ true → session_of_base (base_of s) ≡ s
  unfolding session_of_base goes_down timer_ok entries_in
  base_back whole down =
      let f = formed s whole in
      let d1 = both_hold (eqb s.ahead 0) _ down in
      let d2 = both_hold (eqb s.profile 0) _ d1.1 in
      let d3 = both_hold (eqb s.timer.running 0) _ d2.1 in
      let empty = eqb-true s.ahead 0 d1.0 in
      let off = eqb-true s.timer.running 0 d3.0 in
      let record_is : record_in (base_of s) ≡ s.held = ap record_in parts ∙ record_back s.held t.held (n ++ u) in
      let long : length u ≡ s.used = length-take-le s.used s.journal f.journal.fits in
      let as_many : 2048 - length u ≡ length (drop s.used s.journal) = omega (arith, long, t.journal, length-drop s.used s.journal) in
      let left_over : replicate (2048 - length u) 0 ≡ drop s.used s.journal =
      ap (λ (m : ℕ). replicate m 0) as_many ∙ sym (zeros_are (drop s.used s.journal) f.journal.unused) in
      let whole-journal : padded u ≡ s.journal = padded_by s.journal left_over refl in
      let no-redo : replicate 2048 0 ≡ s.redo =
      ap (λ (m : ℕ). replicate m 0) (sym t.redo) ∙ sym (zeros_are s.redo (subst (λ (m : ℕ). all_are 0 (drop m s.redo) ≡ true) empty f.redo.unused)) in
      λ i.
      record {
        held = record_is i;
        worked = (ap worked_of record_is ∙ sym f.worked_is) i;
        next = number_back 2 230 _ (base_of s) next_part t.next i;
        journal = (ap padded journal_part ∙ whole-journal) i;
        used = (ap length journal_part ∙ long) i;
        redo = no-redo i;
        ahead = sym empty i;
        marks = (ap (λ (j : List ℕ). marks_of (entries_of (scan j))) journal_part ∙ sym f.marks_are) i;
        timer = record { running = sym off i; left = sym (clock_off s.timer.running s.timer.left f.timer_ok_lem off) i };
        profile = sym (eqb-true s.profile 0 d2.0) i;
      }
