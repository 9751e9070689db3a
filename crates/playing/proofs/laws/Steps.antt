-- Steps one after the other are the whole. Assumes nothing.
use Prim.Native.Nat.{ℕ, suc, ◌+◌, ◌≤◌}
use Rattle.std.specs.Prelude.{true, ◌≡◌, refl, List, [], ◌∷◌, ◌++◌, length, take, drop}
use Rattle.std.proofs.Math.Bool.{not}
use Rattle.std.proofs.Math.Path.{sym, ap}
use Rattle.std.proofs.Common.{ap₂, ◌∙◌, append_assoc, append-nil, add-zero, arith, length-append, eq-eqb}
use Rattle.std.proofs.Math.Seq.{take-append_seam}
use Rattle.wire.proofs.laws.Wire.{joined_append}
use Rattle.wire.specs.Wire.{pasted, joined}
use Rattle.wire.proofs.laws.Cases.{else_eq, else_b, else_lt}
use Rattle.entries.specs.Entries.{Entry, bytes_of, written, Scan, between, entries_of, reading_of}
use Rattle.entries.proofs.laws.ByTable.{Sized, Proper, scan_proper, whole_reads}
use Rattle.trace.specs.Trace.{trace_table, trace_scan}
use Rattle.session.specs.Session.{fresh_session}
use Rattle.image.specs.Image.{image_of}
use Rattle.playing.specs.Playing.{heard, line, image_after, lines_of, stop_line, pieces_of, line_room, whole_entry, Stepped, stepped_to, stepped}
use Rattle.playing.specs.Steps.{oldest_first, image_from, lines_from, gone_with, steps_from}

-- ---- one entry more at the end

image_last : (b : List ℕ) (es : List Entry) (e : Entry) → image_from b (es ++ (e ∷ [])) ≡ (heard (image_from b es) e).image
unfolding image_from
image_last b [] e = refl
image_last b (x ∷ es) e = image_last (heard b x).image es e

lines_last : (b : List ℕ) (n : ℕ) (es : List Entry) (e : Entry) → lines_from b n (es ++ (e ∷ [])) ≡ lines_from b n es ++ line (n + length es) (heard (image_from b es) e)
unfolding lines_from image_from
lines_last b n [] e = append-nil (line n (heard b e)) ∙ ap (λ (m : ℕ). line m (heard b e)) (sym (add-zero n))
lines_last b n (x ∷ es) e =
    let next : suc n + length es ≡ n + suc (length es) = omega arith in
    ap (λ (l : List (List ℕ)). line n (heard b x) ++ l) (lines_last (heard b x).image (suc n) es e)
    ∙ sym (append_assoc (line n (heard b x)) (lines_from (heard b x).image (suc n) es) (line (suc n + length es) (heard (image_from (heard b x).image es) e)))
    ∙ ap (λ (m : ℕ). (line n (heard b x) ++ lines_from (heard b x).image (suc n) es) ++ line m (heard (image_from (heard b x).image es) e)) next

pub length_oldest : (es : List Entry) → length (oldest_first es) ≡ length es
unfolding oldest_first
length_oldest [] = refl
length_oldest (e ∷ es) = omega (arith, length-append (oldest_first es) (e ∷ []), length_oldest es)

-- ---- the whole, step by step from a fresh session

pub image_by_steps : (es : List Entry) → image_from (image_of fresh_session) (oldest_first es) ≡ image_after es
unfolding image_from oldest_first image_after
image_by_steps [] = refl
image_by_steps (e ∷ es) = image_last (image_of fresh_session) (oldest_first es) e ∙ ap (λ (b : List ℕ). (heard b e).image) (image_by_steps es)

pub lines_by_steps : (es : List Entry) → lines_from (image_of fresh_session) 1 (oldest_first es) ≡ lines_of es
unfolding lines_from oldest_first lines_of
lines_by_steps [] = refl
lines_by_steps (e ∷ es) =
    let number : 1 + length (oldest_first es) ≡ suc (length es) = omega (arith, length_oldest es) in
    lines_last (image_of fresh_session) 1 (oldest_first es) e
    ∙ ap₂ (λ (l : List (List ℕ)) (b : List ℕ). l ++ line (1 + length (oldest_first es)) (heard b e)) (lines_by_steps es) (image_by_steps es)
    ∙ ap (λ (n : ℕ). lines_of es ++ line n (heard (image_after es) e)) number

-- ---- `step` plays each of them: an entry's bytes are a whole entry, and are played as it

module _ (e : Entry) (sized : Sized trace_table e) where
  pub bytes_whole : whole_entry (bytes_of e) ≡ true
  unfolding whole_entry bytes_of
  bytes_whole = sym (else_eq _ _ {m = suc (length e.body)} {n = 0} (λ z. omega arith) (sym (eq-eqb _ _ sized)))

  pub step_plays : (b : List ℕ) (number : ℕ) (d : List ℕ) → line_room ≤ length d → stepped b number (bytes_of e) d ≡ stepped_to number (heard b e) d
  unfolding stepped bytes_of
  step_plays b number d room = sym (else_b _ _ (ap not bytes_whole) (else_lt _ _ room refl))

-- the line is what `step` counts of its buffer
counted : (number : ℕ) (b : List ℕ) (e : Entry) (d : List ℕ)
    → take (stepped_to number (heard b e) d).count (stepped_to number (heard b e) d).out ≡ joined (line number (heard b e))
unfolding pasted
counted number b e d = take-append_seam (joined (line number (heard b e))) (drop (0 + length (joined (line number (heard b e)))) d)

gone_by : (d b : List ℕ) (n : ℕ) (es : List Entry) → Proper trace_table es → line_room ≤ length d
    → steps_from d b n es ≡ record { image = image_from b es; text = joined (lines_from b n es) }
unfolding steps_from gone_with image_from lines_from joined
gone_by d b n [] p room = refl
gone_by d b n (e ∷ es) p room =
    ap (λ (x : Stepped). gone_with x (steps_from d x.image (suc n) es)) (step_plays e p.0 b n d room)
    ∙ ap (gone_with (stepped_to n (heard b e) d)) (gone_by d (heard b e).image (suc n) es p.1 room)
    ∙ ap (λ (l : List ℕ). record { image = image_from (heard b e).image es; text = l })
    (ap (λ (l : List ℕ). l ++ joined (lines_from (heard b e).image (suc n) es)) (counted n b e d)
    ∙ sym (joined_append (line n (heard b e)) (lines_from (heard b e).image (suc n) es)))

proper_last : (xs : List Entry) (e : Entry) → Proper trace_table xs → Sized trace_table e → Proper trace_table (xs ++ (e ∷ []))
proper_last [] e p h = (h, tt)
proper_last (x ∷ xs) e p h = (p.0, proper_last xs e p.1 h)

proper_oldest : (es : List Entry) → Proper trace_table es → Proper trace_table (oldest_first es)
unfolding oldest_first
proper_oldest [] p = tt
proper_oldest (e ∷ es) p = proper_last (oldest_first es) e (proper_oldest es p.1) p.0

-- the whole entries of a trace, one after the other through `step`
pub steps_whole : (t d : List ℕ) → line_room ≤ length d
    → steps_from d (image_of fresh_session) 1 (oldest_first (entries_of (trace_scan t)))
    ≡ record { image = image_after (entries_of (trace_scan t)); text = joined (lines_of (entries_of (trace_scan t))) }
steps_whole t d room =
    let es = entries_of (trace_scan t) in
    gone_by d (image_of fresh_session) 1 (oldest_first es) (proper_oldest es (scan_proper trace_table (written es) es (whole_reads trace_table t))) room
    ∙ ap₂ (λ (i : List ℕ) (l : List (List ℕ)). record { image = i; text = joined l }) (image_by_steps es) (lines_by_steps es)

-- ---- a broken trace plays as its whole entries do, and then stops

whole_lines : (s : Scan) (es : List Entry) → s ≡ between es → lines_of (entries_of s) ++ stop_line (reading_of s) ≡ lines_of es
unfolding entries_of reading_of stop_line
whole_lines s es e = ap (λ (x : Scan). lines_of (entries_of x) ++ stop_line (reading_of x)) e ∙ append-nil (lines_of es)

module _ (t : List ℕ) where
  abbrev whole : List ℕ
  whole = written (entries_of (trace_scan t))

  pub pieces_of_whole : pieces_of whole ≡ lines_of (entries_of (trace_scan t))
  unfolding pieces_of
  pieces_of_whole = whole_lines (trace_scan whole) (entries_of (trace_scan t)) (whole_reads trace_table t)

  pub entries_of_whole : entries_of (trace_scan whole) ≡ entries_of (trace_scan t)
  unfolding entries_of
  entries_of_whole = ap entries_of (whole_reads trace_table t)
