-- The test goes entry by entry, and says whether the bytes are the marks of the entries. Assumes nothing.
use Rattle.std.specs.Prelude.{ℕ, ◌+◌, ◌-◌, ◌*◌, ◌/◌, ◌%◌, ◌≤◌, ◌<◌, Bool, true, false, cond, ◌≡◌, eqb}
use Rattle.std.proofs.lemmas.Bool.{false≢true}
use Rattle.std.proofs.Math.Path.{refl, sym, ap, ap₂, subst}
use Rattle.std.proofs.Common.{◌∙◌, arith, eqb-true, eq-eqb, length-append, length-drop, take-append-drop, take-add, length-take-le, take_all}
use mathlib.Core.List.{List, [], ◌∷◌, ◌++◌, append-nil}
use Rattle.std.proofs.Math.ListN.{length, take, drop}
use Rattle.std.proofs.Math.Seq.{take_at, drop_at}
use Rattle.wire.specs.Wire.{be_nat, to_be, all_are, Bytes}
use Rattle.wire.proofs.laws.Cases.{if_eq, else_eq, if_b}
use Rattle.wire.proofs.laws.Wire.{be_to_be, to_be_be, bytes_take, bytes_drop, part_fits, all_replicate, take_all_are}
use Rattle.entries.specs.Entries.{Entry, written}
use Rattle.entries.proofs.laws.Entries.{length_written}
use Rattle.marks.specs.Marks.{milestones, spelled, marks_of, same, mark_in, stands_at, all_stand, rest_unused, marks_fit}
use Rattle.marks.proofs.laws.Marks.{thirty_second, marked_one, unmarked_one, count_milestones, length_spelled, spelled_append, marks_padded, zeros}

-- ---- tests

pub both_true : (a b : Bool) → cond a b false ≡ true → (a ≡ true) × (b ≡ true)
both_true true b h = (refl, h)
both_true false b h = absurd (false≢true h)

pub both_hold : {a b : Bool} → a ≡ true → b ≡ true → cond a b false ≡ true
both_hold {a} {b} p q = sym (if_b b false p (sym q))

-- two tests that hold together are one
one_test : (a b : Bool) → (a ≡ true → b ≡ true) → (b ≡ true → a ≡ true) → a ≡ b
one_test true b f g = sym (f refl)
one_test false true f g = g refl
one_test false false f g = refl

-- ---- lists that are the same

pub same_is : (xs ys : List ℕ) → same xs ys ≡ true → xs ≡ ys
unfolding same
same_is [] [] h = refl
same_is [] (y ∷ ys) h = absurd (false≢true h)
same_is (x ∷ xs) [] h = absurd (false≢true h)
same_is (x ∷ xs) (y ∷ ys) h = let t = both_true (eqb x y) (same xs ys) h in ap₂ (λ (a : ℕ) (l : List ℕ). a ∷ l) (eqb-true x y t.0) (same_is xs ys t.1)

pub is_same : (xs : List ℕ) → same xs xs ≡ true
unfolding same
is_same [] = refl
is_same (x ∷ xs) = sym (if_eq _ _ {m = x} {n = x} refl (sym (is_same xs)))

-- ---- the bytes of the marks that are used, one after the other

module _ (m : List ℕ) (wide : length m ≡ 64) (bytes : Bytes m) where
  -- the next two bytes are the mark that they spell
  next_two : (c : ℕ) → c ≤ 31 → take 2 (drop (2 * c) m) ≡ to_be 2 (mark_in m c)
  next_two c h =
      let x : List ℕ = take 2 (drop (2 * c) m) in
      let two : length x ≡ 2 = length-take-le 2 (drop (2 * c) m) (simp length-drop (omega arith)) in
      sym (to_be_be x (bytes_take 2 (drop (2 * c) m) (bytes_drop (2 * c) m bytes))) ∙ ap (λ (n : ℕ). to_be n (be_nat x)) two

  one_further : (c : ℕ) → take (2 * (c + 1)) m ≡ take (2 * c) m ++ take 2 (drop (2 * c) m)
  one_further c = let twice : 2 * (c + 1) ≡ 2 * c + 2 = omega arith in ap (λ (n : ℕ). take n m) twice ∙ take-add (2 * c) 2 m

  -- the marks used are those of the entries
  abbrev Used : List Entry → Type 0
  Used es = take (2 * length (milestones es)) m ≡ spelled (milestones es)

  module _ (e : Entry) (es : List Entry) (few : length es ≤ 1023) (z : length es % 32 ≡ 0) where
    abbrev c : ℕ
    c = length (milestones es)

    c_is : c ≡ length es / 32
    c_is = omega (arith, z, count_milestones es)

    longer : spelled (milestones (e ∷ es)) ≡ spelled (milestones es) ++ to_be 2 (length (written es))
    unfolding spelled
    longer =
        ap spelled (marked_one e es z) ∙ spelled_append (milestones es) (length (written es) ∷ []) ∙ ap (λ (l : List ℕ). spelled (milestones es) ++ l) (append-nil (to_be 2 (length (written es))))

    further : take (2 * length (milestones (e ∷ es))) m ≡ take (2 * c) m ++ to_be 2 (mark_in m c)
    further =
        ap (λ (n : ℕ). take (2 * n) m) (ap length (marked_one e es z) ∙ length-append (milestones es) (length (written es) ∷ []))
        ∙ one_further c
        ∙ ap (λ (l : List ℕ). take (2 * c) m ++ l) (next_two c (omega (arith, c_is)))

    stands : stands_at m (length es) (length (written es)) ≡ eqb (mark_in m (length es / 32)) (length (written es))
    unfolding stands_at
    stands = sym (if_eq _ _ {m = length es % 32} {n = 0} z refl)

    used_more : Used es → stands_at m (length es) (length (written es)) ≡ true → Used (e ∷ es)
    used_more u h =
        let is : mark_in m c ≡ length (written es) = ap (mark_in m) c_is ∙ eqb-true (mark_in m (length es / 32)) (length (written es)) (sym stands ∙ h) in
        further ∙ ap₂ (λ (l : List ℕ) (n : ℕ). l ++ to_be 2 n) u is ∙ sym longer

    front : length (take (2 * c) m) ≡ 2 * c
    front = length-take-le (2 * c) m (omega (arith, c_is))

    joint : Used (e ∷ es) → take (2 * c) m ++ to_be 2 (mark_in m c) ≡ spelled (milestones es) ++ to_be 2 (length (written es))
    joint u = sym further ∙ u ∙ longer

    used_less : Used (e ∷ es) → Used es
    used_less u =
        sym (take_at (take (2 * c) m) (to_be 2 (mark_in m c)) (2 * c) front) ∙ ap (take (2 * c)) (joint u)
        ∙ take_at (spelled (milestones es)) (to_be 2 (length (written es))) (2 * c) (length_spelled (milestones es))

    used_stands : length (written es) ≤ 2048 → Used (e ∷ es) → stands_at m (length es) (length (written es)) ≡ true
    used_stands small u =
        let bs : to_be 2 (mark_in m c) ≡ to_be 2 (length (written es)) =
        sym (drop_at (take (2 * c) m) (to_be 2 (mark_in m c)) (2 * c) front) ∙ ap (drop (2 * c)) (joint u)
        ∙ drop_at (spelled (milestones es)) (to_be 2 (length (written es))) (2 * c) (length_spelled (milestones es)) in
        let fits : mark_in m c < 65536 = part_fits 2 (2 * c) m bytes in
        let is : mark_in m c ≡ length (written es) = sym (be_to_be 2 (mark_in m c) fits) ∙ ap be_nat bs ∙ be_to_be 2 (length (written es)) (omega (arith, small)) in
        stands ∙ ap (λ (k : ℕ). eqb (mark_in m k) (length (written es))) (sym c_is) ∙ eq-eqb (mark_in m c) (length (written es)) is

  unmarked_stands : (n at : ℕ) → (n % 32 ≡ 0 → ⊥) → stands_at m n at ≡ true
  unfolding stands_at
  unmarked_stands n at z = sym (else_eq _ _ {m = n % 32} {n = 0} z refl)

  used_same : (e : Entry) (es : List Entry) → (length es % 32 ≡ 0 → ⊥) → Used (e ∷ es) ≡ Used es
  used_same e es z = ap (λ (ps : List ℕ). take (2 * length ps) m ≡ spelled ps) (unmarked_one e es z)

  stand_used : (es : List Entry) → length es ≤ 1024 → all_stand m es ≡ true → Used es
  unfolding all_stand milestones spelled
  stand_used [] few h = refl
  stand_used (e ∷ es) few h =
      let t = both_true (all_stand m es) _ h in
      let u = stand_used es (omega arith) t.0 in
      thirty_second (length es) (λ z. used_more e es (omega arith) z u t.1) (λ z. subst (λ (T : Type 0). T) (sym (used_same e es z)) u)

  used_stand : (es : List Entry) → length es ≤ 1024 → length (written es) ≤ 2048 → Used es → all_stand m es ≡ true
  unfolding all_stand
  used_stand [] few small u = refl
  used_stand (e ∷ es) few small u =
      let before : length (written es) ≤ 2048 = omega (arith, length_written e es) in
      thirty_second (length es)
      (λ z. both_hold (used_stand es (omega arith) before (used_less e es (omega arith) z u)) (used_stands e es (omega arith) z before u))
      (λ z. both_hold (used_stand es (omega arith) before (subst (λ (T : Type 0). T) (used_same e es z) u)) (unmarked_stands (length es) (length (written es)) z))

  -- ---- and the others are 0

  module _ (es : List Entry) (few : length es ≤ 1024) (small : length (written es) ≤ 2048) where
    abbrev n : ℕ
    n = 2 * length (milestones es)

    low : n ≤ 64
    low = omega (arith, count_milestones es)

    rest_is : rest_unused m (length es) ≡ all_are 0 (drop n m)
    unfolding rest_unused
    rest_is = ap (λ (k : ℕ). all_are 0 (drop (2 * k) m)) (sym (count_milestones es))

    padded : marks_of es ≡ spelled (milestones es) ++ zeros (64 - n)
    padded = marks_padded es few ∙ ap (λ (k : ℕ). spelled (milestones es) ++ zeros (64 - k)) (length_spelled (milestones es))

    long : length (drop n m) ≡ 64 - n
    long = length-drop n m ∙ ap (λ (k : ℕ). k - n) wide

    fits_is : marks_fit m es ≡ true → m ≡ marks_of es
    unfolding marks_fit
    fits_is h =
        let t = both_true (all_stand m es) _ h in
        let rest : drop n m ≡ zeros (64 - n) =
        sym (take_all (64 - n) (drop n m) (omega (arith, long))) ∙ take_all_are 0 (64 - n) (drop n m) (sym rest_is ∙ t.1) (omega (arith, long)) in
        sym (take-append-drop n m) ∙ ap₂ (λ (x y : List ℕ). x ++ y) (stand_used es few t.0) rest ∙ sym padded

    is_fits : m ≡ marks_of es → marks_fit m es ≡ true
    unfolding marks_fit
    is_fits h =
        let front : take n m ≡ spelled (milestones es) = ap (take n) (h ∙ padded) ∙ take_at (spelled (milestones es)) (zeros (64 - n)) n (length_spelled (milestones es)) in
        let rest : drop n m ≡ zeros (64 - n) = ap (drop n) (h ∙ padded) ∙ drop_at (spelled (milestones es)) (zeros (64 - n)) n (length_spelled (milestones es)) in
        both_hold (used_stand es few small front) (rest_is ∙ ap (all_are 0) rest ∙ all_replicate 0 (64 - n))

    pub tested : marks_fit m es ≡ same m (marks_of es)
    tested =
        one_test (marks_fit m es) (same m (marks_of es)) (λ h. ap (same m) (sym (fits_is h)) ∙ is_same m) (λ h. is_fits (same_is m (marks_of es) h))
