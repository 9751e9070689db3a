-- Laws of bytes on the wire that other crates build on. Assumes nothing.
use Rattle.std.specs.Prelude.{ℕ, zero, suc, ◌+◌, ◌-◌, ◌*◌, ◌/◌, ◌%◌, ◌^◌, ◌<◌, ◌≤◌, Bool, true, false, cond, ◌≡◌, refl, List, [], ◌∷◌, ◌++◌, eqb, get_or, take, drop, replicate}
use Rattle.std.proofs.lemmas.Bool.{false≢true}
use Rattle.std.proofs.Common.{sym, ap₂, subst, ◌∙◌, append_assoc, append-nil, add-one, add-zero, zero-add, add-suc, suc-add, pow-suc, lt_of_lt_of_le, div-add-mod', div-lt_iff_lt-mul, not-suc-le-zero, le_of_suc-le-suc, arith, eqb-true, lit<, length-append, length-drop, take-append-drop, length-take-le, take-take, drop-drop, take_all}
use Rattle.std.proofs.Math.Path.{ap}
use Rattle.std.proofs.Math.Nat.{pow-le-pow_right}
use Rattle.std.proofs.Math.Arith.{digits_div, digits_mod}
use Rattle.std.proofs.Math.ListN.{length, length-take}
use Rattle.std.proofs.Math.Seq.{take_at, drop_at, take-append_seam, drop-append-add}
use Rattle.wire.proofs.laws.Cases.{if_eq}
use Rattle.wire.specs.Wire.{be_onto, be_nat, to_be, pasted, joined, all_are, Bytes}

-- ---- big-endian numbers, over the width

pub bytes_take : (n : ℕ) (bs : List ℕ) → Bytes bs → Bytes (take n bs)
bytes_take zero bs h = tt
bytes_take (suc n) [] h = tt
bytes_take (suc n) (b ∷ bs) h = (h.0, bytes_take n bs h.1)

pub bytes_drop : (n : ℕ) (bs : List ℕ) → Bytes bs → Bytes (drop n bs)
bytes_drop zero bs h = h
bytes_drop (suc n) [] h = tt
bytes_drop (suc n) (b ∷ bs) h = bytes_drop n bs h.1

pub onto_append : (n : ℕ) (xs ys : List ℕ) → be_onto n (xs ++ ys) ≡ be_onto (be_onto n xs) ys
unfolding be_onto
onto_append n [] ys = refl
onto_append n (x ∷ xs) ys = onto_append (n * 256 + x) xs ys

pub length_to_be : (k n : ℕ) → length (to_be k n) ≡ k
unfolding to_be
length_to_be zero n = refl
length_to_be (suc k) n = length-append (to_be k (n / 256)) (n % 256 ∷ []) ∙ ap (λ (m : ℕ). m + 1) (length_to_be k (n / 256)) ∙ add-one k

-- reading what was written gives the number
pub be_to_be : (k n : ℕ) → n < 256 ^ k → be_nat (to_be k n) ≡ n
unfolding be_nat be_onto to_be
be_to_be zero n h = omega arith
be_to_be (suc k) n h =
    let q : n / 256 < 256 ^ k = (div-lt_iff_lt-mul (lit< tt)).1 (rw pow-suc at h) in
    onto_append 0 (to_be k (n / 256)) (n % 256 ∷ []) ∙ ap (λ (m : ℕ). m * 256 + n % 256) (be_to_be k (n / 256) q) ∙ div-add-mod' n 256

last_byte : (k n b : ℕ) → b < 256 → to_be (suc k) (n * 256 + b) ≡ to_be k n ++ (b ∷ [])
unfolding to_be
last_byte k n b h = rw (digits_div n h, digits_mod n h)

to_be_onto : (k n : ℕ) (bs : List ℕ) → Bytes bs → to_be (k + length bs) (be_onto n bs) ≡ to_be k n ++ bs
unfolding be_onto
to_be_onto k n [] h = rw (add-zero, append-nil)
to_be_onto k n (b ∷ bs) h =
    ap (λ (m : ℕ). to_be m (be_onto (n * 256 + b) bs)) (add-suc k (length bs) ∙ sym (suc-add k (length bs)))
    ∙ to_be_onto (suc k) (n * 256 + b) bs h.1
    ∙ ap (λ (l : List ℕ). l ++ bs) (last_byte k n b h.0)
    ∙ append_assoc (to_be k n) (b ∷ []) bs

-- writing what was read gives the bytes
pub to_be_be : (bs : List ℕ) → Bytes bs → to_be (length bs) (be_nat bs) ≡ bs
unfolding be_nat to_be
to_be_be bs h = ap (λ (m : ℕ). to_be m (be_onto 0 bs)) (sym (zero-add (length bs))) ∙ to_be_onto 0 0 bs h

onto_fits : (k n : ℕ) (bs : List ℕ) → n < 256 ^ k → Bytes bs → be_onto n bs < 256 ^ (k + length bs)
unfolding be_onto
onto_fits k n [] h b = rw add-zero h
onto_fits k n (x ∷ bs) h b =
    let m : n * 256 + x < 256 ^ suc k = rw pow-suc (omega (arith, b.0)) in
    subst (λ (i : ℕ). be_onto (n * 256 + x) bs < 256 ^ i) (suc-add k (length bs) ∙ sym (add-suc k (length bs))) (onto_fits (suc k) (n * 256 + x) bs m b.1)

-- so many bytes spell a number of that width
pub be_fits : (bs : List ℕ) → Bytes bs → be_nat bs < 256 ^ length bs
unfolding be_nat
be_fits bs h = subst (λ (i : ℕ). be_onto 0 bs < 256 ^ i) (zero-add (length bs)) (onto_fits 0 0 bs (lit< tt) h)

pub part_fits : (n at : ℕ) (r : List ℕ) → Bytes r → be_nat (take n (drop at r)) < 256 ^ n
part_fits n at r h =
    let l : length (take n (drop at r)) ≤ n = simp length-take (omega arith) in
    lt_of_lt_of_le (be_fits (take n (drop at r)) (bytes_take n (drop at r) (bytes_drop at r h))) (pow-le-pow_right (lit< tt) l)

-- what is a byte at each place is a list of bytes
pub bytes_of : (b : List ℕ) → ((i : ℕ) → get_or b i 0 < 256) → Bytes b
bytes_of [] h = tt
bytes_of (x ∷ xs) h = (h 0, bytes_of xs (λ i. h (suc i)))

-- the part of lent bytes from a place to their end
pub tail_part : (j : List ℕ) (at : ℕ) → take (length j - at) (drop at j) ≡ drop at j
tail_part j at = take_all (length j - at) (drop at j) (simp length-drop (omega arith))

-- a part of a part
pub part_of_part : (m at n : ℕ) (l : List ℕ) → at + m ≤ n → take m (drop at (take n l)) ≡ take m (drop at l)
part_of_part m zero n l h = take-take m n l (omega arith)
part_of_part m (suc at) zero l h = let z : ⊥ = omega arith in absurd z
part_of_part m (suc at) (suc n) [] h = refl
part_of_part m (suc at) (suc n) (x ∷ l) h = part_of_part m at n l (omega arith)

-- ---- bytes pasted into a buffer

module _ (at : ℕ) (bs d : List ℕ) (fits : at + length bs ≤ length d) where
  pub length_pasted : length (pasted at bs d) ≡ length d
  unfolding pasted
  length_pasted = simp (length-append, length-take, length-drop) (omega arith)

  pub take_pasted : take (at + length bs) (pasted at bs d) ≡ take at d ++ bs
  unfolding pasted
  take_pasted =
      ap (take (at + length bs)) (sym (append_assoc (take at d) bs (drop (at + length bs) d)))
      ∙ take_at (take at d ++ bs) (drop (at + length bs) d) (at + length bs) (length-append (take at d) bs ∙ ap (λ (n : ℕ). n + length bs) (length-take-le at d (omega arith)))

  pub drop_pasted : drop (at + length bs) (pasted at bs d) ≡ drop (at + length bs) d
  unfolding pasted
  drop_pasted =
      ap (drop (at + length bs)) (sym (append_assoc (take at d) bs (drop (at + length bs) d)))
      ∙ drop_at (take at d ++ bs) (drop (at + length bs) d) (at + length bs) (length-append (take at d) bs ∙ ap (λ (n : ℕ). n + length bs) (length-take-le at d (omega arith)))

-- what stands at a place, written there again
pub paste_self : (at n : ℕ) (d : List ℕ) → at + n ≤ length d → pasted at (take n (drop at d)) d ≡ d
unfolding pasted
paste_self at n d h =
    let l : length (take n (drop at d)) ≡ n = length-take-le n (drop at d) (simp length-drop (omega arith)) in
    rw (l, ← drop-drop n at d, take-append-drop, take-append-drop)

-- bytes written after those that were written from the front
pub paste_next : (at : ℕ) (xs bs d : List ℕ) → at ≡ length xs → pasted at bs (pasted 0 xs d) ≡ pasted 0 (xs ++ bs) d
unfolding pasted
paste_next at xs bs d e =
    ap (λ (n : ℕ). take n (xs ++ drop (0 + length xs) d) ++ (bs ++ drop (n + length bs) (xs ++ drop (0 + length xs) d))) e
    ∙ rw (take-append_seam xs (drop (0 + length xs) d), drop-append-add xs (drop (0 + length xs) d) (length bs), zero-add, drop-drop, zero-add, length-append, append_assoc)

-- the same, for buffers one after the other: x holds xs at its front, y what was written next
pub field_next : (at : ℕ) (xs bs d x y : List ℕ) → x ≡ pasted 0 xs d → y ≡ pasted at bs x → at ≡ length xs → y ≡ pasted 0 (xs ++ bs) d
field_next at xs bs d x y p q e = q ∙ ap (pasted at bs) p ∙ paste_next at xs bs d e

-- ---- rows one after the other

pub joined_append : (rs ss : List (List ℕ)) → joined (rs ++ ss) ≡ joined rs ++ joined ss
unfolding joined
joined_append [] ss = refl
joined_append (r ∷ rs) ss = ap (λ (l : List ℕ). r ++ l) (joined_append rs ss) ∙ sym (append_assoc r (joined rs) (joined ss))

-- ---- zeros

pub all_replicate : (v n : ℕ) → all_are v (replicate n v) ≡ true
unfolding all_are
all_replicate v zero = refl
all_replicate v (suc n) = sym (if_eq (all_are v (replicate n v)) false {m = v} {n = v} refl (sym (all_replicate v n)))

pub all_append : (v : ℕ) (xs ys : List ℕ) → all_are v (xs ++ ys) ≡ cond (all_are v xs) (all_are v ys) false
unfolding all_are
all_append v [] ys = refl
all_append v (x ∷ xs) ys = go (eqb x v) (all_append v xs ys)
  where
    go : (t : Bool) → all_are v (xs ++ ys) ≡ cond (all_are v xs) (all_are v ys) false → cond t (all_are v (xs ++ ys)) false ≡ cond (cond t (all_are v xs) false) (all_are v ys) false
    go true e = e
    go false e = refl

-- a list that begins with v
all_cons : (v b : ℕ) (bs : List ℕ) → all_are v (b ∷ bs) ≡ true → (b ≡ v) × (all_are v bs ≡ true)
unfolding all_are
all_cons v b bs h = go (eqb b v) refl h
  where
    go : (t : Bool) → eqb b v ≡ t → cond t (all_are v bs) false ≡ true → (b ≡ v) × (all_are v bs ≡ true)
    go true e h = (eqb-true b v e, h)
    go false e h = absurd (false≢true h)

pub take_all_are : (v n : ℕ) (bs : List ℕ) → all_are v bs ≡ true → n ≤ length bs → take n bs ≡ replicate n v
take_all_are v zero bs h l = refl
take_all_are v (suc n) [] h l = absurd (not-suc-le-zero l)
take_all_are v (suc n) (b ∷ bs) h l =
    let p = all_cons v b bs h in ap₂ (λ (x : ℕ) (t : List ℕ). x ∷ t) p.0 (take_all_are v n bs p.1 (le_of_suc-le-suc l))

pub all_drop : (v n : ℕ) (bs : List ℕ) → all_are v bs ≡ true → all_are v (drop n bs) ≡ true
unfolding all_are
all_drop v zero bs h = h
all_drop v (suc n) [] h = refl
all_drop v (suc n) (b ∷ bs) h = all_drop v n bs (all_cons v b bs h).1
