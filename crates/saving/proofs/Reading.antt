-- What the parts of a saved session are read as. Assumes nothing.
use Prim.Native.Nat.{ℕ, zero, suc, ◌+◌, ◌-◌, ◌≤◌}
use mathlib.Core.Path.{◌≡◌, refl, sym, ap, subst, ◌∙◌}
use mathlib.Core.List.{List, ◌++◌}
use native.Mathlib.Nat.{zero-add, sub-zero, suc-sub-suc}
use native.Mathlib.Omega.{arith}
use lib.ListN.{length, take, drop, replicate, length-drop, length-replicate}
use lib.Seq.{length-take-le, take_at}
use Rattle.wire.specs.Wire.{pasted}
use Rattle.wire.proofs.laws.Wire.{tail_part}
use Rattle.record.specs.Record.{worked_of}
use Rattle.record.specs.declared.Record.{Record}
use Rattle.record.specs.declared.Timer.{Timer}
use Rattle.record.specs.declared.Worked.{Worked}
use Rattle.entries.specs.Entries.{written, Scan, between, within, unknown, entries_of, scan, Reading, reading_of, ReadingFits, ReadsWhole}
use Rattle.entries.proofs.laws.Entries.{scan_written}
use Rattle.entries.specs.declared.Broken.{Broken}
use Rattle.std.specs.Prelude.{Ok, Err}
use Rattle.marks.specs.Marks.{marks_of}
use Rattle.journal.proofs.Parts.{part_copied}
use Rattle.image.specs.Image.{byte_at, part_at, number_at, record_in}
use Rattle.saving.specs.Forms.{padded, session_of_base, used_in, timer_from, session_of_saved}
use Rattle.saving.proofs.laws.Record.{same_front}

-- ---- how far a store's entries go

abbrev pub Used : List ℕ → Reading → Type 0
Used j (Ok whole) = length j ≡ used_in j
Used j (Err broken) = broken.place ≡ used_in j

used_by : (j : List ℕ) (s : Scan) → scan j ≡ s → Used j (reading_of s)
unfolding reading_of used_in entries_of
used_by j (between es) r = ap length (scan_written j es r) ∙ ap (λ (s : Scan). length (written (entries_of s))) (sym r)
used_by j (within es k b n) r = ap (λ (s : Scan). length (written (entries_of s))) (sym r)
used_by j (unknown es) r = ap (λ (s : Scan). length (written (entries_of s))) (sym r)

pub used : (j : List ℕ) (x y : Reading) → x ≡ reading_of (scan j) → x ≡ y → Used j y
used j x y e f = subst (Used j) (sym e ∙ f) (used_by j (scan j) refl)

-- and no further than its bytes
module _ (j : List ℕ) (x : Reading) (e : x ≡ reading_of (scan j)) (fits : ReadingFits (length j) x) where
  pub used_broken : {broken : Broken} → x ≡ Err broken → (broken.place ≡ used_in j) × (broken.place ≤ length j)
  used_broken f = (used j x _ e f, subst (ReadingFits (length j)) f fits)

-- ---- a base save's record, and its journal

drop_zeros : (n m : ℕ) → drop n (replicate {A = ℕ} m 0) ≡ replicate (m - n) 0
drop_zeros zero m = ap (λ (k : ℕ). replicate k 0) (sym (sub-zero m))
drop_zeros (suc n) zero = let e : 0 ≡ 0 - suc n = omega arith in ap (λ (k : ℕ). replicate k 0) e
drop_zeros (suc n) (suc m) = drop_zeros n m ∙ ap (λ (k : ℕ). replicate k 0) (sym (suc-sub-suc m n))

pub padded_is : (j x : List ℕ) → x ≡ pasted 0 j (replicate 2048 0) → x ≡ padded j
unfolding pasted padded
padded_is j x p = p ∙ ap (λ (l : List ℕ). j ++ l) (ap (λ (n : ℕ). drop n (replicate 2048 0)) (zero-add (length j)) ∙ drop_zeros (length j) 2048)

pub front_read : (b x : List ℕ) → 232 ≤ length b → x ≡ pasted 0 (take 230 b) (replicate 239 0) → record_in x ≡ record_in b
unfolding pasted
front_read b x h p =
    same_front x b (ap (take 230) p ∙ take_at (take 230 b) (drop (0 + length (take 230 b)) (replicate 239 0)) 230 (length-take-le 230 b (omega arith)))

pub front_fits : (b : List ℕ) → 232 ≤ length b → 0 + length (take 230 b) ≤ 239
front_fits b h = omega (arith, length-take-le 230 b (omega arith))

-- ---- the session of a new form, and of a base save, field by field

pub session_read : (b : List ℕ) (held : Record) (worked : Worked) (next used ahead : ℕ) (journal redo marks : List ℕ) (timer : Timer)
    → held ≡ record_in (take (length b - 1) (drop 1 b)) → worked ≡ worked_of held → next ≡ number_at 2 232 b → used ≡ used_in (part_at 2048 235 b) → ahead ≡ used_in (part_at 2048 2284 b)
    → journal ≡ part_at 2048 235 b → redo ≡ part_at 2048 2284 b → marks ≡ part_at 64 4333 b → timer ≡ timer_from b
    → record { held = held; worked = worked; next = next; journal = journal; used = used; redo = redo; ahead = ahead; marks = marks; timer = timer; profile = byte_at 4398 b } ≡ session_of_saved b
unfolding session_of_saved
session_read b held worked next used ahead journal redo marks timer e f g h k l m n o =
    let is : held ≡ record_in (drop 1 b) = e ∙ ap record_in (tail_part b 1) in
    λ i.
    record { held = is i; worked = (f ∙ ap worked_of is) i; next = g i; journal = l i; used = h i; redo = m i; ahead = k i; marks = n i; timer = o i; profile = byte_at 4398 b }

pub base_read : (b : List ℕ) (held : Record) (worked : Worked) (next : ℕ) (journal marks : List ℕ)
    → held ≡ record_in b → worked ≡ worked_of held → next ≡ number_at 2 230 b → journal ≡ padded (take (length b - 232) (drop 232 b))
    → marks ≡ marks_of (entries_of (scan (take (length b - 232) (drop 232 b))))
    → record { held = held; worked = worked; next = next; journal = journal; used = length b - 232; redo = replicate 2048 0; ahead = 0; marks = marks; timer = record { running = 0; left = 0 }; profile = 0 } ≡ session_of_base b
unfolding session_of_base
base_read b held worked next journal marks e f g h k =
    let tail = tail_part b 232 in
    λ i.
    record {
      held = e i;
      worked = (f ∙ ap worked_of e) i;
      next = g i;
      journal = (h ∙ ap padded tail) i;
      used = sym (length-drop 232 b) i;
      redo = replicate 2048 0;
      ahead = 0;
      marks = (k ∙ ap (λ (j : List ℕ). marks_of (entries_of (scan j))) tail) i;
      timer = record { running = 0; left = 0 };
      profile = 0;
    }

pub journal_reads : (b : List ℕ) → length b ≤ 2280 → ReadsWhole (drop 232 b) → ReadsWhole (take (length b - 232) (drop 232 b)) × (length (take (length b - 232) (drop 232 b)) ≤ 2048)
journal_reads b h w =
    (subst ReadsWhole (sym (tail_part b 232)) w, omega (arith, ap length (tail_part b 232), length-drop 232 b))
