-- The marks of entries: how many there are, and what an entry more or less does to them. Assumes nothing.
use Rattle.std.specs.Prelude.{ℕ, suc, ◌+◌, ◌-◌, ◌*◌, ◌/◌, ◌%◌, ◌≤◌, Bool, true, false, ◌≡◌, refl, eqb, replicate}
use Rattle.std.proofs.Math.Path.{sym, ap}
use Rattle.std.proofs.Common.{◌∙◌, arith, eqb-true, length-take, take_at, drop_at}
use mathlib.Core.List.{List, [], ◌∷◌, ◌++◌, append_assoc, append-nil}
use Rattle.std.proofs.lemmas.Bool.{eqb-false}
use Rattle.std.proofs.Math.ListN.{length, take, length-append}
use Rattle.std.proofs.lemmas.List.{length-replicate, replicate-append-replicate}
use Rattle.std.proofs.Math.Seq.{take-append_seam, drop-append_seam, drop-append-add}
use Rattle.wire.specs.Wire.{to_be, pasted}
use Rattle.wire.proofs.laws.Cases.{if_eq, else_eq}
use Rattle.wire.proofs.laws.Wire.{length_to_be}
use Rattle.entries.specs.Entries.{Entry, written}
use Rattle.entries.proofs.laws.Entries.{Proper, length_written}
use Rattle.marks.specs.Marks.{milestones, spelled, marks_of}

-- ---- an entry more is marked, or not

module _ (e : Entry) (es : List Entry) where
  pub marked_one : length es % 32 ≡ 0 → milestones (e ∷ es) ≡ milestones es ++ (length (written es) ∷ [])
  unfolding milestones
  marked_one h = sym (if_eq _ _ {m = length es % 32} {n = 0} h refl)

  pub unmarked_one : (length es % 32 ≡ 0 → ⊥) → milestones (e ∷ es) ≡ milestones es
  unfolding milestones
  unmarked_one h = sym (else_eq _ _ {m = length es % 32} {n = 0} h refl)

-- a number is a multiple of 32, or not
pub thirty_second : {A : Type 0} (n : ℕ) → (n % 32 ≡ 0 → A) → ((n % 32 ≡ 0 → ⊥) → A) → A
thirty_second {A} n f g = go (eqb (n % 32) 0) refl
  where
    go : (t : Bool) → eqb (n % 32) 0 ≡ t → A
    go true h = f (eqb-true (n % 32) 0 h)
    go false h = g (eqb-false (n % 32) 0 h)

-- ---- how many

one_more : (n c : ℕ) → n % 32 ≡ 0 → c ≡ (n + 31) / 32 → c + 1 ≡ (suc n + 31) / 32
one_more n c h e = omega (arith, h, e)

none_more : (n c : ℕ) → (n % 32 ≡ 0 → ⊥) → c ≡ (n + 31) / 32 → c ≡ (suc n + 31) / 32
none_more n c h e = omega (arith, h, e)

pub count_milestones : (es : List Entry) → length (milestones es) ≡ (length es + 31) / 32
unfolding milestones
count_milestones [] = refl
count_milestones (e ∷ es) =
    thirty_second (length es)
    (λ h. ap length (marked_one e es h) ∙ length-append (milestones es) (length (written es) ∷ []) ∙ one_more (length es) (length (milestones es)) h (count_milestones es))
    (λ h. ap length (unmarked_one e es h) ∙ none_more (length es) (length (milestones es)) h (count_milestones es))

-- an entry has two bytes at least
pub two_each : (es : List Entry) → Proper es → 2 * length es ≤ length (written es)
unfolding written
two_each [] p = omega arith
two_each (e ∷ es) p = omega (arith, two_each es p.1, length_written e es, p.0.1)

-- ---- their bytes

pub length_spelled : (ps : List ℕ) → length (spelled ps) ≡ 2 * length ps
unfolding spelled
length_spelled [] = refl
length_spelled (p ∷ ps) = omega (arith, length-append (to_be 2 p) (spelled ps), length_to_be 2 p, length_spelled ps)

pub spelled_append : (ps qs : List ℕ) → spelled (ps ++ qs) ≡ spelled ps ++ spelled qs
unfolding spelled
spelled_append [] qs = refl
spelled_append (p ∷ ps) qs = ap (λ (l : List ℕ). to_be 2 p ++ l) (spelled_append ps qs) ∙ sym (append_assoc (to_be 2 p) (spelled ps) (spelled qs))

abbrev pub zeros : ℕ → List ℕ
zeros n = replicate n 0

pub length_marks : (es : List Entry) → length (marks_of es) ≡ 64
unfolding marks_of
length_marks es = simp (length-take, length-append, length-replicate) (omega arith)

pub zeros_split : (a b n : ℕ) → a + b ≡ n → zeros n ≡ zeros a ++ zeros b
zeros_split a b n e = ap zeros (sym e) ∙ sym (replicate-append-replicate a b 0)

cut_zeros : (l : List ℕ) → length l ≤ 64 → take 64 (l ++ zeros 64) ≡ l ++ zeros (64 - length l)
cut_zeros l h =
    let k : ℕ = 64 - length l in
    ap (λ (z : List ℕ). take 64 (l ++ z)) (zeros_split k (length l) 64 (omega arith))
    ∙ ap (take 64) (sym (append_assoc l (zeros k) (zeros (length l))))
    ∙ take_at (l ++ zeros k) (zeros (length l)) 64 (length-append l (zeros k) ∙ ap (λ (n : ℕ). length l + n) (length-replicate k 0) ∙ omega arith)

-- 32 marks are enough for 1,024 entries, which fill a journal
pub marks_padded : (es : List Entry) → length es ≤ 1024 → marks_of es ≡ spelled (milestones es) ++ zeros (64 - length (spelled (milestones es)))
unfolding marks_of
marks_padded es h = cut_zeros (spelled (milestones es)) (omega (arith, length_spelled (milestones es), count_milestones es))

-- bytes pasted behind a list, over zeros; and taken off again
over_zeros : (l b : List ℕ) (n : ℕ) → length b ≤ n → pasted (length l) b (l ++ zeros n) ≡ l ++ (b ++ zeros (n - length b))
unfolding pasted
over_zeros l b n h =
    let m : ℕ = n - length b in
    rw (take-append_seam l (zeros n), drop-append-add l (zeros n) (length b), zeros_split (length b) m n (omega arith), drop_at (zeros (length b)) (zeros m) (length b) (length-replicate (length b) 0))

back_to_zeros : (l b : List ℕ) (n : ℕ) → length b ≤ n → pasted (length l) (zeros (length b)) (l ++ (b ++ zeros (n - length b))) ≡ l ++ zeros n
unfolding pasted
back_to_zeros l b n h =
    let m : ℕ = n - length b in
    rw (take-append_seam l (b ++ zeros m), length-replicate {A = ℕ} (length b) 0, drop-append-add l (b ++ zeros m) (length b), drop-append_seam b (zeros m), ← zeros_split (length b) m n (omega arith))

-- ---- one entry more, or the newest less

module _ (e : Entry) (es : List Entry) where
  pub keeps_marks : (length es % 32 ≡ 0 → ⊥) → marks_of (e ∷ es) ≡ marks_of es
  unfolding marks_of
  keeps_marks h = ap (λ (ps : List ℕ). take 64 (spelled ps ++ zeros 64)) (unmarked_one e es h)

  module _ (h : length es % 32 ≡ 0) (room : length es ≤ 1023) where
    abbrev p : List ℕ
    p = to_be 2 (length (written es))

    abbrev l : List ℕ
    l = spelled (milestones es)

    wide : length l ≡ 2 * (length es / 32)
    wide = omega (arith, length_spelled (milestones es), count_milestones es)

    longer : marks_of (e ∷ es) ≡ l ++ (p ++ zeros (64 - length l - length p))
    unfolding spelled
    longer =
        let all : spelled (milestones (e ∷ es)) ≡ l ++ p = ap spelled (marked_one e es h) ∙ spelled_append (milestones es) (length (written es) ∷ []) ∙ ap (λ (x : List ℕ). l ++ x) (append-nil p) in
        let n : 64 - length (l ++ p) ≡ 64 - length l - length p = omega (arith, length-append l p) in
        marks_padded (e ∷ es) (omega arith) ∙ ap (λ (x : List ℕ). x ++ zeros (64 - length x)) all ∙ append_assoc l p (zeros (64 - length (l ++ p))) ∙ ap (λ (k : ℕ). l ++ (p ++ zeros k)) n

    pub marks_more : marks_of (e ∷ es) ≡ pasted (2 * (length es / 32)) p (marks_of es)
    marks_more =
        longer ∙ sym (over_zeros l p (64 - length l) (omega (arith, length_to_be 2 (length (written es)), wide)))
        ∙ ap (λ (n : ℕ). pasted n p (l ++ zeros (64 - length l))) wide
        ∙ ap (pasted (2 * (length es / 32)) p) (sym (marks_padded es (omega arith)))

    pub marks_less : marks_of es ≡ pasted (2 * (length es / 32)) (zeros 2) (marks_of (e ∷ es))
    marks_less =
        marks_padded es (omega arith) ∙ sym (back_to_zeros l p (64 - length l) (omega (arith, length_to_be 2 (length (written es)), wide)))
        ∙ ap (λ (n : ℕ). pasted n (zeros (length p)) (l ++ (p ++ zeros (64 - length l - length p)))) wide
        ∙ ap (λ (n : ℕ). pasted (2 * (length es / 32)) (zeros n) (l ++ (p ++ zeros (64 - length l - length p)))) (length_to_be 2 (length (written es)))
        ∙ ap (pasted (2 * (length es / 32)) (zeros 2)) (sym longer)

-- the first entry's mark is 0, as none is
pub marks_first : (e : Entry) → marks_of (e ∷ []) ≡ marks_of []
unfolding marks_of milestones spelled written to_be
marks_first e = refl
