-- Laws of text put piece by piece. Assumes nothing.
use Rattle.std.specs.Prelude.{ℕ, ◌+◌, ◌-◌, ◌*◌, ◌≤◌, ◌≡◌, refl, List, [], ◌∷◌, ◌++◌, ltb, length, take, drop}
use Rattle.std.proofs.Common.{sym, ap₂, ◌∙◌, append_assoc, append-nil, add-zero, zero-add, arith, length-append, drop_of_length-le, drop-drop, length-take-le, ltb-false}
use Rattle.std.proofs.Math.Path.{ap}
use Rattle.io.specs.Counts.{IsPrefixLen}
use Rattle.wire.specs.Wire.{pasted, to_be, joined}
use Rattle.wire.proofs.laws.Wire.{length_to_be, length_pasted, take_pasted, drop_pasted}
use Rattle.wire.proofs.laws.Cases.{else_lt, cond_cases}
use Rattle.wire.proofs.Loops.{paste_none}
use Rattle.text.specs.Text.{Sheet, sheet, put_on, put_all, from_front, hex_of, hexes}

-- ---- calls one after the other are one list of pieces: q is the sheet in between, r the last one

module _ (p : Sheet) {q : Sheet} where
  pub last_piece : (x : List ℕ) → q ≡ put_on p x → q ≡ put_all p (x ∷ [])
  unfolding put_all
  last_piece x e = e

  pub piece : {r : Sheet} (x : List ℕ) (xs : List (List ℕ)) → q ≡ put_on p x → r ≡ put_all q xs → r ≡ put_all p (x ∷ xs)
  unfolding put_all
  piece x xs e f = f ∙ ap (λ (s : Sheet). put_all s xs) e

pub put_all_append : (p : Sheet) (xs ys : List (List ℕ)) → put_all p (xs ++ ys) ≡ put_all (put_all p xs) ys
unfolding put_all
put_all_append p [] ys = refl
put_all_append p (x ∷ xs) ys = put_all_append (put_on p x) xs ys

pub pieces : (p : Sheet) {q r : Sheet} (xs ys : List (List ℕ)) → q ≡ put_all p xs → r ≡ put_all q ys → r ≡ put_all p (xs ++ ys)
pieces p xs ys e f = f ∙ ap (λ (s : Sheet). put_all s ys) e ∙ sym (put_all_append p xs ys)

pub same_pieces : (p : Sheet) {q : Sheet} {xs ys : List (List ℕ)} → xs ≡ ys → q ≡ put_all p xs → q ≡ put_all p ys
same_pieces p e h = h ∙ ap (put_all p) e

-- ---- no place is past the end

put_within : (p : Sheet) (x : List ℕ) → (put_on p x).past ≤ length (put_on p x).text
unfolding put_on
put_within p x =
    cond_cases (λ (s : Sheet). s.past ≤ length s.text) (ltb (length p.text) p.past) (λ e. omega arith)
    (λ e.
    let within : p.past ≤ length p.text = ltb-false (length p.text) p.past e in
    cond_cases (λ (s : Sheet). s.past ≤ length s.text) (ltb (length p.text - p.past) (length x)) (λ f. within)
    (λ f.
    let fits : p.past + length x ≤ length p.text = omega (arith, ltb-false (length p.text - p.past) (length x) f, within) in
    omega (arith, length_pasted p.past x p.text fits)))

pub past_within : (p : Sheet) (xs : List (List ℕ)) → p.past ≤ length p.text → (put_all p xs).past ≤ length (put_all p xs).text
unfolding put_all
past_within p [] h = h
past_within p (x ∷ xs) h = past_within (put_on p x) xs (put_within p x)

-- once a piece is put, wherever that was to begin
pub some_within : (p : Sheet) (x : List ℕ) (xs : List (List ℕ)) → (put_all p (x ∷ xs)).past ≤ length (put_all p (x ∷ xs)).text
unfolding put_all
some_within p x xs = past_within (put_on p x) xs (put_within p x)

-- ---- where all fits, the pieces stand as one text

pasted_is : (at : ℕ) (bs d : List ℕ) → pasted at bs d ≡ take at d ++ (bs ++ drop (at + length bs) d)
unfolding pasted
pasted_is at bs d = refl

pub paste_then : (at : ℕ) (xs ys d : List ℕ) → at + length xs ≤ length d → pasted (at + length xs) ys (pasted at xs d) ≡ pasted at (xs ++ ys) d
paste_then at xs ys d h =
    let past : at + length xs + length ys ≡ at + length (xs ++ ys) = omega (arith, length-append xs ys) in
    let kept : drop (at + length xs + length ys) (pasted at xs d) ≡ drop (at + length (xs ++ ys)) d =
    sym (drop-drop (length ys) (at + length xs) (pasted at xs d)) ∙ rw (drop_pasted at xs d h, drop-drop, past) in
    pasted_is (at + length xs) ys (pasted at xs d)
    ∙ (rw (take_pasted at xs d h, kept, append_assoc (take at d) xs, append_assoc xs ys))
    ∙ sym (pasted_is at (xs ++ ys) d)

pub put_fits : (at : ℕ) (bs d : List ℕ) {d' : List ℕ} → at ≤ length d → length bs ≤ length d - at → d' ≡ pasted at bs d
    → sheet d' (at + length bs) ≡ put_on (sheet d at) bs
unfolding put_on
put_fits at bs d h k e = else_lt _ _ h (else_lt _ _ k (ap (λ (x : List ℕ). sheet x (at + length bs)) e))

pub all_fit : (at : ℕ) (xs : List (List ℕ)) (d : List ℕ) → at + length (joined xs) ≤ length d
    → put_all (sheet d at) xs ≡ sheet (pasted at (joined xs) d) (at + length (joined xs))
unfolding joined put_all
all_fit at [] d h = ap₂ sheet (sym (paste_none at d)) (sym (add-zero at))
all_fit at (x ∷ xs) d h =
    let here : at + length x ≤ length d = omega (arith, length-append x (joined xs)) in
    let there : at + length x + length (joined xs) ≤ length (pasted at x d) = omega (arith, length-append x (joined xs), length_pasted at x d here) in
    ap (λ (s : Sheet). put_all s xs) (sym (put_fits at x d (omega arith) (omega arith) refl))
    ∙ all_fit (at + length x) xs (pasted at x d) there
    ∙ ap₂ sheet (paste_then at x (joined xs) d here) (omega (arith, length-append x (joined xs)))

-- what a call says that puts pieces at the front of a buffer with room for them all: their length, the bytes, and that they stand within it
pub fitting : (ps : List (List ℕ)) (d : List ℕ) {d' : List ℕ} {end : ℕ} → length (joined ps) ≤ length d → sheet d' end ≡ from_front d ps
    → (end ≡ length (joined ps)) × ((d' ≡ pasted 0 (joined ps) d) × IsPrefixLen end d')
fitting ps d {d'} {end} h e =
    let put : sheet d' end ≡ sheet (pasted 0 (joined ps) d) (0 + length (joined ps)) = e ∙ all_fit 0 ps d (omega arith) in
    let past : end ≡ length (joined ps) = ap (λ (s : Sheet). s.past) put ∙ zero-add _ in
    let text : d' ≡ pasted 0 (joined ps) d = ap (λ (s : Sheet). s.text) put in
    let within : end ≤ length d' = omega (arith, ap length text, length_pasted 0 (joined ps) d (omega arith)) in
    (past, (text, (within, sym (length-take-le end d' within))))

-- a number's bytes, written into an array of as many
pub filled : (k v : ℕ) (d : List ℕ) → length d ≡ k → pasted 0 (to_be k v) d ≡ to_be k v
unfolding pasted
filled k v d e =
    let none : length d ≤ k = omega arith in
    rw (zero-add, length_to_be, drop_of_length-le d none, append-nil)

pub length_hexes : (bs : List ℕ) → length (joined (hexes bs)) ≡ 2 * length bs
unfolding joined hexes hex_of
length_hexes [] = refl
length_hexes (b ∷ bs) = omega (arith, length_hexes bs)
