-- Laws of the sets that other crates build on: what was read is what a well-formed record can hold. Assumes nothing.
use Rattle.std.specs.Prelude.{ℕ, zero, suc, ◌+◌, ◌-◌, ◌*◌, ◌/◌, ◌%◌, ◌^◌, ◌<◌, ◌≤◌, true, not, ◌≡◌, refl, Option, Some, None, List, [], ◌∷◌, ◌++◌, ltb, eqb, length, get_or, take, drop}
use Rattle.std.proofs.Common.{sym, ap, ◌∙◌, append_assoc, div-one, add_assoc, not-suc-le-zero, le_of_suc-le-suc, arith, ltb-false, eqb-true, length-take, length-drop, take-add, take_at, drop_at, drop-drop, length-take-le}
use Rattle.std.proofs.Math.Nat.{two-pow-succ, pow-succ', div-div-eq-div-mul}
use Rattle.std.proofs.lemmas.Bool.{not-false}
use Rattle.std.proofs.Math.Seq.{drop-append-add}
use Rattle.std.specs.Option.{IfSome, option_map}
use Rattle.std.proofs.lemmas.Option.{IfSome_then}
use Rattle.wire.specs.Wire.{pasted, all_are}
use Rattle.wire.proofs.laws.Cases.{if_eq, cond_cases}
use Rattle.wire.proofs.laws.Wire.{length_pasted}
use Rattle.record.specs.declared.Throttles.{Throttles}
use Rattle.formed.specs.Formed.{pair_ok, pairs_ok, absent_zero, in_order, thermal_rule}
use Rattle.formed.proofs.laws.Formed.{both_hold, hold_both}
use Rattle.formed.proofs.laws.Thresholds.{order_exactly}
use Rattle.sets.specs.declared.Frus.{Frus}
use Rattle.sets.specs.Sets.{bit_of, one_more, read_of, with_pair, one_set, throttles_of, with_fru, one_fru, thermal_of}

-- ---- set after set

module _ {A : Type 0} (one : A → List ℕ → Option A) (w : ℕ) where
  pub none_read : (t : Option A) (l : List ℕ) → read_of one w 0 t l ≡ t
  unfolding read_of
  none_read t l = refl

  pub more_read : (n : ℕ) (t : Option A) (l : List ℕ) → read_of one w (suc n) t l ≡ read_of one w n (one_more one t (take w l)) (drop w l)
  unfolding read_of
  more_read n t l = refl

  -- once one is refused, all are
  pub none_stays : (n : ℕ) (l : List ℕ) → read_of one w n None l ≡ None
  none_stays zero l = none_read None l
  none_stays (suc n) l = more_read n None l ∙ none_stays n (drop w l)

  -- what each set keeps, all of them keep
  read_keeps : (P : A → Type 0) → ((t : A) (s : List ℕ) → P t → IfSome (one t s) P) → (n : ℕ) (t : Option A) (l : List ℕ) → IfSome t P → IfSome (read_of one w n t l) P
  unfolding read_of
  read_keeps P keep zero t l h = h
  read_keeps P keep (suc n) None l h = read_keeps P keep n None (drop w l) h
  read_keeps P keep (suc n) (Some t) l h = read_keeps P keep n (one t (take w l)) (drop w l) (keep t (take w l) h)

-- bytes pasted past the first k
pub paste_past : (k at : ℕ) (v d : List ℕ) → pasted (k + at) v d ≡ take k d ++ pasted at v (drop k d)
unfolding pasted
paste_past k at v d = rw (take-add, append_assoc, drop-drop, add_assoc)

-- past those pasted to the front, all is as it was
pub past_front : (k : ℕ) (v d : List ℕ) → length v ≤ k → drop k (pasted 0 v d) ≡ drop k d
unfolding pasted
past_front k v d h =
    let e : k ≡ length v + (k - length v) = omega arith in
    let f : 0 + length v + (k - length v) ≡ k = omega arith in
    ap (λ (n : ℕ). drop n (v ++ drop (0 + length v) d)) e
    ∙ drop-append-add v (drop (0 + length v) d) (k - length v)
    ∙ drop-drop (k - length v) (0 + length v) d
    ∙ ap (λ (n : ℕ). drop n d) f

-- ---- bits

-- a bit but the lowest is one of the half
bit_half : (x p : ℕ) → x / 2 ^ suc p ≡ x / 2 / 2 ^ p
bit_half x p = ap (λ (n : ℕ). x / n) (pow-succ' 2 p) ∙ sym (div-div-eq-div-mul x 2 (2 ^ p))

-- a free bit may be added
pub bit_free : (n p x : ℕ) → x < 2 ^ n → p < n → x / 2 ^ p % 2 ≡ 0 → x + 2 ^ p < 2 ^ n
bit_free zero p x h l e = absurd (not-suc-le-zero l)
bit_free (suc n) zero x h l e =
    let b : x % 2 ≡ 0 = rw div-one at e in
    omega (arith, two-pow-succ n, b)
bit_free (suc n) (suc p) x h l e =
    let b : x / 2 < 2 ^ n = omega (arith, two-pow-succ n) in
    let s = bit_free n p (x / 2) b (le_of_suc-le-suc l) (rw bit_half at e) in
    omega (arith, two-pow-succ n, two-pow-succ p, s)

-- ---- throttle sets

present_ok : (bit : ℕ) (s : List ℕ) → bit ≡ 1 → pair_ok bit s ≡ true
unfolding pair_ok
present_ok bit s e = sym (if_eq true _ e refl)

-- a pair that was absent is stored, and its bit set
pairs_with : (n p x : ℕ) (v l : List ℕ) → p < n → length v ≤ 10 → n * 10 ≤ length l → x / 2 ^ p % 2 ≡ 0 → pairs_ok n x l ≡ true
    → pairs_ok n (x + 2 ^ p) (pasted (p * 10) v l) ≡ true
unfolding pairs_ok
pairs_with zero p x v l h k m e ok = absurd (not-suc-le-zero h)
pairs_with (suc n) zero x v l h k m e ok =
    let b : x % 2 ≡ 0 = rw div-one at e in
    let half : (x + 1) / 2 ≡ x / 2 = omega (arith, b) in
    hold_both (present_ok ((x + 1) % 2) _ (omega (arith, b)))
    (rw (half, past_front 10 v l k) (both_hold (pair_ok (x % 2) (take 10 l)) _ ok).1)
pairs_with (suc n) (suc p) x v l h k m e ok =
    let place : suc p * 10 ≡ 10 + p * 10 = omega arith in
    let ten : length (take 10 l) ≡ 10 = length-take-le 10 l (omega arith) in
    let rest : n * 10 ≤ length (drop 10 l) = simp length-drop (omega arith) in
    let low : (x + 2 ^ suc p) % 2 ≡ x % 2 = omega (arith, two-pow-succ p) in
    let half : (x + 2 ^ suc p) / 2 ≡ x / 2 + 2 ^ p = omega (arith, two-pow-succ p) in
    let parts = both_hold (pair_ok (x % 2) (take 10 l)) _ ok in
    rw (place, paste_past, low, half, take_at _ _ 10 ten, drop_at _ _ 10 ten)
    (hold_both parts.0 (pairs_with n p (x / 2) v (drop 10 l) (le_of_suc-le-suc h) k rest (rw bit_half at e) parts.1))

-- a table that a well-formed record can hold
pub record PairsFormed (t : Throttles) : Type 0 where
  pub absent : absent_zero t.present t.sets ≡ true
  pub long : length t.sets ≡ 160
  pub small : t.present < 2 ^ 16

with_keeps : (t : Throttles) (p : ℕ) (v : List ℕ) → p < 16 → length v ≤ 10 → bit_of t.present p ≡ 0 → PairsFormed t → PairsFormed (with_pair t p v)
unfolding with_pair bit_of absent_zero
with_keeps t p v h k e f =
    let long = f.long in
    let fits : p * 10 + length v ≤ length t.sets = omega arith in
    let room : 16 * 10 ≤ length t.sets = omega arith in
    record {
      absent = pairs_with 16 p t.present v t.sets h k room e f.absent;
      long = length_pasted (p * 10) v t.sets fits ∙ long;
      small = bit_free 16 p t.present f.small h e;
    }

set_keeps : (t : Throttles) (s : List ℕ) → PairsFormed t → IfSome (one_set t s) PairsFormed
unfolding one_set
set_keeps t s f =
    let hub = get_or s 0 0 in
    let mba = get_or s 1 0 in
    let Formed : Option Throttles → Type 0 = λ v. IfSome v PairsFormed in
    cond_cases Formed (ltb 7 hub) (λ _. tt)
    (λ a. cond_cases Formed (ltb 1 mba) (λ _. tt)
    (λ b. cond_cases Formed (not (eqb (bit_of t.present (hub * 2 + mba)) 0)) (λ _. tt)
    (λ c.
    let h : hub ≤ 7 = ltb-false 7 hub a in
    let m : mba ≤ 1 = ltb-false 1 mba b in
    with_keeps t (hub * 2 + mba) (take 10 (drop 2 s)) (omega arith) (simp length-take (omega arith)) (eqb-true _ 0 (not-false _ c)) f)))

-- whatever was read
pub sets_formed : (n : ℕ) (l : List ℕ) → IfSome (throttles_of n l) PairsFormed
unfolding throttles_of absent_zero pairs_ok pair_ok all_are
sets_formed n l = read_keeps one_set 12 PairsFormed set_keeps n _ l (record { absent = refl; long = refl; small = omega arith })

-- ---- thermal thresholds

-- n times three bytes, the first two in order
data Triples : ℕ → List ℕ → Type 0 where
  none : Triples 0 []
  next : {a b c n : ℕ} {l : List ℕ} → in_order a b ≡ true → Triples n l → Triples (suc n) (a ∷ b ∷ c ∷ l)

-- v goes over any three bytes
abbrev Over : List ℕ → Type 0
Over v = (a b c n : ℕ) (l : List ℕ) → in_order a b ≡ true → Triples n l → Triples (suc n) (pasted 0 v (a ∷ b ∷ c ∷ l))

triples_with : {n : ℕ} {l : List ℕ} (p : ℕ) (v : List ℕ) → Over v → p < n → Triples n l → Triples n (pasted (p * 3) v l)
triples_with p v o h none = absurd (not-suc-le-zero h)
triples_with zero v o h (next e t) = o _ _ _ _ _ e t
triples_with (suc p) v o h (next {a = a} {b = b} {c = c} {l = l} e t) =
    let place : suc p * 3 ≡ 3 + p * 3 = omega arith in
    rw (place, paste_past) (next e (triples_with p v o (le_of_suc-le-suc h) t))

-- in order with 0, in order with all
zero_over : (x b : ℕ) → in_order x 0 ≡ true → in_order x b ≡ true
zero_over x b h = (order_exactly x b).1 (λ p q. let k : x ≤ 0 = (order_exactly x 0).0 h p (λ e. omega (arith, e)) in omega (arith, k))

set_over : (s : List ℕ) → in_order (get_or s 1 0) (get_or s 2 0) ≡ true → Over (take 3 (drop 1 s))
unfolding pasted
set_over [] h a b c n l e t = next e t
set_over (f ∷ []) h a b c n l e t = next e t
set_over (f ∷ x ∷ []) h a b c n l e t = next (zero_over x b h) t
set_over (f ∷ x ∷ y ∷ []) h a b c n l e t = next h t
set_over (f ∷ x ∷ y ∷ z ∷ s) h a b c n l e t = next h t

abbrev Ruled : Frus → Type 0
Ruled t = Triples 3 t.bytes

fru_keeps : (t : Frus) (s : List ℕ) → Ruled t → IfSome (one_fru t s) Ruled
unfolding one_fru with_fru
fru_keeps t s f =
    let fru = get_or s 0 0 in
    let Kept : Option Frus → Type 0 = λ v. IfSome v Ruled in
    cond_cases Kept (ltb 2 fru) (λ _. tt)
    (λ a. cond_cases Kept (not (in_order (get_or s 1 0) (get_or s 2 0))) (λ _. tt)
    (λ b. cond_cases Kept (not (eqb (bit_of t.seen fru) 0)) (λ _. tt)
    (λ _.
    let h : fru ≤ 2 = ltb-false 2 fru a in
    let k : fru < 3 = omega arith in
    triples_with fru (take 3 (drop 1 s)) (set_over s (not-false _ b)) k f)))

triples_rule : {l : List ℕ} → Triples 3 l → (thermal_rule l ≡ true) × (length l ≡ 9)
unfolding thermal_rule
triples_rule (next p (next q (next r none))) = (hold_both p (hold_both q r), refl)

-- what holds of the bytes that were read holds of the table
pub bytes_read : (P : List ℕ → Type 0) (v : Option Frus) → IfSome v (λ t. P t.bytes) → IfSome (option_map (λ (t : Frus). t.bytes) v) P
bytes_read P None h = tt
bytes_read P (Some t) h = h

abbrev pub ThermalFormed : List ℕ → Type 0
ThermalFormed t = (thermal_rule t ≡ true) × (length t ≡ 9)

pub frus_formed : (n : ℕ) (l : List ℕ) → IfSome (thermal_of n l) ThermalFormed
unfolding thermal_of in_order
frus_formed n l =
    let read = read_keeps one_fru 4 Ruled fru_keeps n _ l (next refl (next refl (next refl none))) in
    bytes_read ThermalFormed _ (IfSome_then _ read (λ t. triples_rule))
