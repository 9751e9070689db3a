-- Document 02, j: a journal without its oldest entries reads as the others, and the session stays well formed. Assumes nothing.
use Rattle.std.specs.Prelude.{ℕ, zero, suc, ◌+◌, ◌-◌, ◌≤◌, true, ◌≡◌, refl, length, take}
use Rattle.std.proofs.Math.Path.{sym, ap}
use Rattle.std.proofs.Common.{subst, ◌∙◌, arith, length-append, take-append-drop, drop-drop}
use mathlib.Core.List.{List, [], ◌∷◌, ◌++◌, append_assoc, append-nil}
use Rattle.std.proofs.Math.ListN.{drop, replicate, length-drop}
use Rattle.std.proofs.lemmas.List.{length-replicate}
use Rattle.std.proofs.Math.Seq.{take_all, take-append-le, drop-append-le, drop-append_seam, length-take-le}
use Rattle.wire.specs.Wire.{all_are}
use Rattle.wire.proofs.laws.Wire.{part_of_part, all_append, all_replicate}
use Rattle.entries.specs.Entries.{Entry, Scan, journal_table, bytes_of, written, between, entries_of, scan}
use Rattle.entries.proofs.laws.ByTable as by-table
use Rattle.entries.proofs.laws.Entries.{scan_written}
use Rattle.marks.proofs.laws.Tested.{both_true, both_hold}
use Rattle.journal.specs.Read.{entry_ok, all_ok, scan_ok, entries_ok}
use Rattle.journal.specs.declared.Way.{Way}
use Rattle.journal.specs.declared.Way.TheVariants.{Before}
use Rattle.session.specs.Session.{entries_in, only_clears, well_formed, renewed}
use Rattle.session.specs.Road.{oldest, freed_by, moved_down, session_freed, forgotten}
use Rattle.session.proofs.laws.Session.{Store, formed, formed_ok}
use Rattle.session.proofs.laws.Reads.{reads}
use Rattle.session.proofs.laws.Watch.{clears_take, profile_kept, entries_read}
use Rattle.session.specs.declared.Session.{Session}

-- ---- entries in two parts

-- without the n oldest
abbrev pub newer : ℕ → List Entry → List Entry
newer n es = take (length es - n) es

pub two_parts : (n : ℕ) (es : List Entry) → newer n es ++ oldest n es ≡ es
unfolding oldest
two_parts n es = take-append-drop (length es - n) es

pub written_append : (ns es : List Entry) → written (ns ++ es) ≡ written es ++ written ns
unfolding written
written_append [] es = sym (append-nil (written es))
written_append (e ∷ ns) es = ap (λ (l : List ℕ). l ++ bytes_of e) (written_append ns es) ∙ append_assoc (written es) (written ns) (bytes_of e)

proper_take : (k : ℕ) (es : List Entry) → by-table.Proper journal_table es → by-table.Proper journal_table (take k es)
proper_take zero es h = tt
proper_take (suc k) [] h = tt
proper_take (suc k) (e ∷ es) h = (h.0, proper_take k es h.1)

ok_take : (w : Way) (k : ℕ) (es : List Entry) → all_ok w es ≡ true → all_ok w (take k es) ≡ true
unfolding all_ok
ok_take w zero es h = refl
ok_take w (suc k) [] h = refl
ok_take w (suc k) (e ∷ es) h = let t = both_true (entry_ok w e) (all_ok w es) h in both_hold t.0 (ok_take w k es t.1)

-- ---- a journal's bytes moved down

pub length_moved : (at : ℕ) (j : List ℕ) → at ≤ length j → length (moved_down at j) ≡ length j
unfolding moved_down
length_moved at j low = omega (arith, low, length-append (drop at j) (replicate at 0), length-drop at j, length-replicate {A = ℕ} at 0)

module _ (at used : ℕ) (j : List ℕ) (low : at ≤ used) (fits : used ≤ length j) where
  -- what is used then
  pub moved_part : take (used - at) (moved_down at j) ≡ drop at (take used j)
  unfolding moved_down
  moved_part =
      take-append-le (used - at) (drop at j) (replicate at 0) (omega (arith, low, fits, length-drop at j))
      ∙ sym (part_of_part (used - at) at used j (omega (arith, low)))
      ∙ take_all (used - at) (drop at (take used j)) (omega (arith, length-drop at (take used j), length-take-le used j fits))

  -- and what isn't
  pub moved_rest : drop (used - at) (moved_down at j) ≡ drop used j ++ replicate at 0
  unfolding moved_down
  moved_rest =
      let sum : at + (used - at) ≡ used = omega (arith, low) in
      drop-append-le (used - at) (drop at j) (replicate at 0) (omega (arith, low, fits, length-drop at j))
      ∙ ap (λ (l : List ℕ). l ++ replicate at 0) (drop-drop (used - at) at j ∙ ap (λ (n : ℕ). drop n j) sum)

-- ---- without the n oldest

module _ (n used : ℕ) (j : List ℕ) (fits : used ≤ length j) (es : List Entry) (reads : scan (take used j) ≡ between es) where
  abbrev at : ℕ
  at = length (written (oldest n es))

  bytes : take used j ≡ written (oldest n es) ++ written (newer n es)
  bytes = scan_written (take used j) es reads ∙ ap written (sym (two_parts n es)) ∙ written_append (newer n es) (oldest n es)

  pub freed_low : at ≤ used
  freed_low = omega (arith, ap length bytes, length-append (written (oldest n es)) (written (newer n es)), length-take-le used j fits)

  pub rest_reads : scan (drop at (take used j)) ≡ between (newer n es)
  rest_reads =
      ap (λ (l : List ℕ). scan (drop at l)) bytes
      ∙ ap scan (drop-append_seam (written (oldest n es)) (written (newer n es)))
      ∙ by-table.scan_of_written journal_table (newer n es) (proper_take (length es - n) es (by-table.scan_proper journal_table (take used j) es reads))

  pub left_reads : scan (take (used - at) (moved_down at j)) ≡ between (newer n es)
  left_reads = ap scan (moved_part at used j freed_low fits) ∙ rest_reads

  pub left_stands : all_ok Before es ≡ true → all_are 0 (drop used j) ≡ true → Store Before (moved_down at j) (used - at)
  unfolding entries_ok scan_ok
  left_stands good unused = record {
    fits = omega (arith, fits, freed_low, length_moved at j (omega (arith, fits, freed_low)));
    reads = ap (scan_ok Before) left_reads ∙ ok_take Before (length es - n) es good;
    unused = ap (all_are 0) (moved_rest at used j freed_low fits) ∙ all_append 0 (drop used j) (replicate at 0) ∙ both_hold unused (all_replicate 0 at);
  }

-- ---- the session

pub freed_is : (n : ℕ) (s : Session) (es : List Entry) → scan (take s.used s.journal) ≡ between es → freed_by n s ≡ length (written (oldest n es))
unfolding freed_by entries_in entries_of
freed_is n s es r = ap (λ (x : Scan). length (written (oldest n (entries_of x)))) r

pub forgotten_formed : (n : ℕ) (s : Session) → well_formed s ≡ true → well_formed (forgotten n s) ≡ true
unfolding forgotten session_freed renewed
forgotten_formed n s whole =
    let f = formed s whole in
    let r = reads Before (take s.used s.journal) f.journal.reads in
    let at = length (written (oldest n r.entries)) in
    let is : freed_by n s ≡ at = freed_is n s r.entries r.scanned in
    let stands = left_stands n s.used s.journal f.journal.fits r.entries r.scanned r.good f.journal.unused in
    let kept-clears : only_clears (entries_in s.used s.journal) ≡ true → only_clears (entries_in (s.used - freed_by n s) (moved_down (freed_by n s) s.journal)) ≡ true = λ j.
    ap only_clears
    (ap (λ (k : ℕ). entries_in (s.used - k) (moved_down k s.journal)) is
    ∙ entries_read (s.used - at) (moved_down at s.journal) (newer n r.entries) (left_reads n s.used s.journal f.journal.fits r.entries r.scanned))
    ∙ clears_take (length r.entries - n) r.entries (sym (ap only_clears (entries_read s.used s.journal r.entries r.scanned)) ∙ j) in
    formed_ok (forgotten n s)
    (record {
      record_ok_lem = f.record_ok_lem;
      worked_is = refl;
      timer_ok_lem = f.timer_ok_lem;
      both_fit = omega (arith, f.both_fit);
      journal = subst (λ (k : ℕ). Store Before (moved_down k s.journal) (s.used - k)) (sym is) stands;
      marks_are = refl;
      redo = f.redo;
      profile_is = profile_kept s.profile _ _ _ _ f.profile_is (λ j r. (kept-clears j, r));
    })
