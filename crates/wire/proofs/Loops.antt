-- What each turn of a loop does. Assumes nothing.
use Prim.Native.Nat.{ℕ, zero, suc, ◌+◌, ◌-◌, ◌*◌, ◌/◌, ◌%◌, ◌^◌, ◌<◌, ◌≤◌}
use mathlib.Core.Bool.{Bool, true, false, cond, not, ◌&&◌}
use mathlib.Core.Path.{◌≡◌, refl, sym, ap, ◌∙◌}
use mathlib.Core.List.{List, [], ◌∷◌, ◌++◌, append_assoc}
use native.Mathlib.Numerals.{add-one}
use native.Mathlib.Nat.{add-zero, zero-add, suc-add, add-suc, pow-suc, pow-le-pow_right, not-suc-le-zero, le_of_suc-le-suc, add-sub_cancel_left}
use native.Mathlib.Omega.{arith}
use Rattle.std.specs.Prelude.{max}
use Rattle.std.proofs.lemmas.Bool.Decides.{nat_tests}
use borrow.Author.Tests.{not-true, not-false}
use lib.Dec.{lit<, eqb}
use lib.ListN.{length, get_or, take, drop, set, length-append, length-drop, length-set, take-append-drop}
use lib.Seq.{take_all, take-add, length-take-le, drop-drop, take-suc, take-length, drop-cons, take-set-le, drop-set-lt, take-suc-set, get_or-set_same}
use Rattle.wire.specs.Wire.{be_onto, be_nat, to_be, pasted, all_are}
use Rattle.wire.proofs.laws.Wire.{onto_append, length_to_be, tail_part, all_append, all_drop}

-- ---- be: the first i bytes are read

pub be_none : (l : List ℕ) → be_nat (take 0 l) ≡ 0
unfolding be_nat be_onto
be_none l = refl

pub be_more : (l : List ℕ) (i : ℕ) → i < length l → be_nat (take (i + 1) l) ≡ be_nat (take i l) * 256 + get_or l i 0
unfolding be_nat be_onto
be_more l i h = rw (add-one, take-suc l i 0 h) (onto_append 0 (take i l) (get_or l i 0 ∷ []))

pub part_length : (s : List ℕ) (at n : ℕ) → at + n ≤ length s → length (take (at + n - at) (drop at s)) ≡ n
part_length s at n h = rw (add-sub_cancel_left at n) (length-take-le n (drop at s) (simp length-drop (omega arith)))

-- all are read
pub be_all : (s : List ℕ) (at n i : ℕ) → at + n ≤ length s → i ≡ n → be_nat (take i (take (at + n - at) (drop at s))) ≡ be_nat (take n (drop at s))
be_all s at n i h e =
    let long = part_length s at n h in
    ap be_nat (ap (λ (k : ℕ). take k (take (at + n - at) (drop at s))) (e ∙ sym long) ∙ take-length (take (at + n - at) (drop at s)) ∙ ap (λ (k : ℕ). take k (drop at s)) (add-sub_cancel_left at n))

pub pow_step : (i : ℕ) → 256 ^ (i + 1) ≡ 256 ^ i * 256
pow_step i = rw (add-one, pow-suc)

pub pow_seven : (i : ℕ) → i < 8 → 256 ^ i ≤ 256 ^ 7
pow_seven i h = let k : i ≤ 7 = omega arith in pow-le-pow_right (lit< tt) k

-- ---- copy and put_be: what is left to paste, pasted now, gives the end

pub paste_none : (at : ℕ) (d : List ℕ) → pasted at [] d ≡ d
unfolding pasted
paste_none at d = rw add-zero (take-append-drop at d)

-- the first byte of those left is stored
pub store_first : (at x : ℕ) (bs d : List ℕ) → at < length d → pasted (at + 1) bs (set d at x) ≡ pasted at (x ∷ bs) d
unfolding pasted
store_first at x bs d h =
    let e : at + 1 + length bs ≡ at + suc (length bs) = omega arith in
    let k : at < at + suc (length bs) = omega arith in
    rw (e, drop-set-lt (at + suc (length bs)) d at x k, add-one, take-suc-set d at x h, append_assoc)

drop_store : (n x : ℕ) (d : List ℕ) → n < length d → drop n (set d n x) ≡ x ∷ drop (suc n) d
drop_store n x d h =
    let k : n < length (set d n x) = simp length-set h in
    let m : n < suc n = omega arith in
    rw (drop-cons (set d n x) n 0 k, get_or-set_same d n x 0 h, drop-set-lt (suc n) d n x m)

-- the last byte of those left is stored
pub store_last : (at n x : ℕ) (bs d : List ℕ) → length bs ≡ n → at + n < length d → pasted at bs (set d (at + n) x) ≡ pasted at (bs ++ (x ∷ [])) d
unfolding pasted
store_last at n x bs d e h =
    let k : at ≤ at + n = omega arith in
    let m : n ≡ length bs = sym e in
    rw (take-set-le at d (at + n) x k, e, drop_store (at + n) x d h, length-append, e, add-one, add-suc, append_assoc)

pub put_more : (at i v x : ℕ) (d : List ℕ) → 0 < i → at + i ≤ length d → x ≡ v % 256 → pasted at (to_be (i - 1) (v / 256)) (set d (at + (i - 1)) x) ≡ pasted at (to_be i v) d
unfolding to_be
put_more at zero v x d p q e = absurd (not-suc-le-zero p)
put_more at (suc i) v x d p q e =
    let k : suc i - 1 ≡ i = omega arith in
    rw (k, e, store_last at i (v % 256) (to_be i (v / 256)) d (length_to_be i (v / 256)) (omega arith))

pub put_end : (at i v : ℕ) (d : List ℕ) → i ≤ 0 → pasted at (to_be i v) d ≡ d
unfolding to_be
put_end at zero v d h = paste_none at d
put_end at (suc i) v d h = absurd (not-suc-le-zero h)

-- ---- all_are: the mark says it of the bytes before i

-- the higher of two is 0 where both are
pub higher_zero : (a b : ℕ) → eqb (max a b) 0 ≡ (eqb a 0 && eqb b 0)
higher_zero a b = grind (arith, nat_tests)

pub are_none : (v : ℕ) (l : List ℕ) → true ≡ all_are v (take 0 l)
unfolding all_are
are_none v l = refl

alone : (b : Bool) → cond b true false ≡ b
alone true = refl
alone false = refl

are_more : (v : ℕ) (l : List ℕ) (i : ℕ) → i < length l → all_are v (take (suc i) l) ≡ (all_are v (take i l) && eqb (get_or l i 0) v)
unfolding all_are
are_more v [] i h = absurd (not-suc-le-zero h)
are_more v (x ∷ l) zero h = alone (eqb x v)
are_more v (x ∷ l) (suc i) h = go (eqb x v) (are_more v l i (le_of_suc-le-suc h))
  where
    go : (t : Bool) → all_are v (take (suc i) l) ≡ (all_are v (take i l) && eqb (get_or l i 0) v)
        → cond t (all_are v (take (suc i) l)) false ≡ (cond t (all_are v (take i l)) false && eqb (get_or l i 0) v)
    go true e = e
    go false e = refl

pub are_next : (v : ℕ) (l : List ℕ) (i : ℕ) (a : Bool) → i < length l → a ≡ all_are v (take i l) → (a && eqb (get_or l i 0) v) ≡ all_are v (take (i + 1) l)
are_next v l i a h p = ap (λ (b : Bool). b && eqb (get_or l i 0) v) p ∙ rw add-one (sym (are_more v l i h))

pub are_all : (v : ℕ) (l : List ℕ) (i : ℕ) → i ≡ length l → all_are v (take i l) ≡ all_are v l
are_all v l i e = rw (e, take-length)

-- ---- the halves of a list beside each other, and what is left after them

-- how far the halves reach: within the last 64 bytes
pub half_fits : (n : ℕ) → n / 64 * 32 + n / 64 * 32 ≤ n
half_fits n = omega arith

half_reaches : (n : ℕ) → 64 ≤ n → n - 64 ≤ n / 64 * 32 + n / 64 * 32
half_reaches n h = omega arith

part_swap : (m k : ℕ) (s : List ℕ) → take k (drop m s) ≡ drop m (take (m + k) s)
part_swap zero k s = ap (λ (n : ℕ). take n s) (sym (zero-add k))
part_swap (suc m) k [] = take_all {A = ℕ} k [] (omega arith) ∙ sym (ap (drop (suc m)) (take_all {A = ℕ} (suc m + k) [] (omega arith)))
part_swap (suc m) k (x ∷ s) = part_swap m k s ∙ ap (λ (n : ℕ). drop (suc m) (take n (x ∷ s))) (sym (suc-add m k))

-- a front and a tail that reaches into it
covered : (s : List ℕ) (m k : ℕ) → all_are 0 s ≡ cond (all_are 0 (take (m + k) s)) (all_are 0 (drop m s)) false
covered s m k = whole ∙ go (all_are 0 (take (m + k) s)) refl
  where
    whole : all_are 0 s ≡ cond (all_are 0 (take (m + k) s)) (all_are 0 (drop (m + k) s)) false
    whole = ap (all_are 0) (sym (take-append-drop (m + k) s)) ∙ all_append 0 (take (m + k) s) (drop (m + k) s)

    tail : all_are 0 (take (m + k) s) ≡ true → all_are 0 (drop (m + k) s) ≡ all_are 0 (drop m s)
    tail e =
        let front : all_are 0 (take k (drop m s)) ≡ true = ap (all_are 0) (part_swap m k s) ∙ all_drop 0 m (take (m + k) s) e in
        sym (ap (all_are 0) (sym (take-append-drop k (drop m s))) ∙ all_append 0 (take k (drop m s)) (drop k (drop m s))
        ∙ ap (λ (b : Bool). cond b (all_are 0 (drop k (drop m s))) false) front ∙ ap (all_are 0) (drop-drop k m s))

    go : (b : Bool) → all_are 0 (take (m + k) s) ≡ b → cond b (all_are 0 (drop (m + k) s)) false ≡ cond b (all_are 0 (drop m s)) false
    go true e = tail e
    go false e = refl

-- the halves are the front
front_is : (s : List ℕ) (h : ℕ) → all_are 0 (take (h + h) s) ≡ cond (all_are 0 (take h s)) (all_are 0 (take (h + h - h) (drop h s))) false
front_is s h =
    ap (all_are 0) (take-add h h s)
    ∙ all_append 0 (take h s) (take h (drop h s))
    ∙ ap (λ (n : ℕ). cond (all_are 0 (take h s)) (all_are 0 (take n (drop h s))) false) (sym (add-sub_cancel_left h h))

module _ (s : List ℕ) (long : 64 ≤ length s) where
  abbrev h : ℕ
  h = length s / 64 * 32

  abbrev m : ℕ
  m = length s - 64

  reached : m + (h + h - m) ≡ h + h
  reached = omega (arith, half_reaches (length s) long)

  halves : all_are 0 s ≡ cond (cond (all_are 0 (take h s)) (all_are 0 (take (h + h - h) (drop h s))) false) (all_are 0 (drop m s)) false
  halves =
      covered s m (h + h - m)
      ∙ ap (λ (n : ℕ). cond (all_are 0 (take n s)) (all_are 0 (drop m s)) false) reached
      ∙ ap (λ (b : Bool). cond b (all_are 0 (drop m s)) false) (front_is s h)

  pub halves_bad : (x : Bool) → x ≡ cond (all_are 0 (take h s)) (all_are 0 (take (h + h - h) (drop h s))) false → not x ≡ true → false ≡ all_are 0 s
  halves_bad x e bad = sym (halves ∙ ap (λ (b : Bool). cond b (all_are 0 (drop m s)) false) (sym e ∙ not-true x bad))

  pub halves_good : (x y : Bool) → x ≡ cond (all_are 0 (take h s)) (all_are 0 (take (h + h - h) (drop h s))) false → not x ≡ false
      → y ≡ all_are 0 (take (length s - m) (drop m s)) → y ≡ all_are 0 s
  halves_good x y e good p =
      p ∙ ap (all_are 0) (tail_part s m) ∙ sym (halves ∙ ap (λ (b : Bool). cond b (all_are 0 (drop m s)) false) (sym e ∙ not-false x good))

  pub halves_long : length (take h s) ≡ length (take (h + h - h) (drop h s))
  halves_long =
      let fits = half_fits (length s) in
      length-take-le h s (omega (arith, fits)) ∙ sym (ap (λ (n : ℕ). length (take n (drop h s))) (add-sub_cancel_left h h) ∙ length-take-le h (drop h s) (simp length-drop (omega (arith, fits))))
