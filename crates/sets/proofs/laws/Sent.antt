-- Document 01, formats 0x12 and 0x13: the tables hold what was sent, and what was not sent is as fresh. Assumes nothing.
use Prim.Native.Nat.{ℕ, zero, suc, ◌+◌, ◌*◌, ◌<◌, ◌≤◌}
use Rattle.std.specs.Prelude.{true, ◌≡◌, Option, Some, None, refl, take, drop, replicate}
use Rattle.std.proofs.Common.{sym, subst, ◌∙◌, not-suc-le-zero, le_of_suc-le-suc, drop_at, take_all, length-take-le}
use Rattle.std.proofs.Math.Path.{ap}
use mathlib.Core.List.{List}
use native.Mathlib.Omega.{arith}
use Rattle.std.proofs.Math.ListN.{length, length-drop}
use Rattle.std.proofs.Math.Seq.{take_at}
use Rattle.wire.specs.Wire.{pasted, all_are}
use Rattle.wire.proofs.laws.Wire.{length_pasted, all_replicate, all_drop, take_all_are}
use Rattle.wire.specs.Conditions.{◌and◌}
use Rattle.std.specs.Option.{IfSome, is_some, option_map}
use Rattle.std.proofs.lemmas.Option.{same_Some, none-some}
use Rattle.record.specs.declared.Throttles.{Throttles}
use Rattle.sets.specs.declared.Frus.{Frus}
use Rattle.sets.specs.Sets.{bit_of, read_of, with_pair, one_set, throttles_of, with_fru, one_fru, thermal_of}
use Rattle.sets.specs.Conditions.{set_at, InPairs, pair_of, SentPairs, InFrus, fru_of, SentFrus}
use Rattle.sets.proofs.laws.Sets.{none_read, paste_past, past_front, PairsFormed, sets_formed, ThermalFormed, frus_formed}
use Rattle.sets.proofs.laws.Exactly.{bit_none, bit_added, bit_kept, Stepped, first_then, all_exactly, with_set, pairs_held, set_stepped, with_three, frus_held, fru_stepped}

-- ---- parts of k bytes

module _ (k : ℕ) where
  -- past the first part, what is pasted further on is pasted
  drop_further : (p : ℕ) (v l : List ℕ) → k ≤ length l → drop k (pasted (suc p * k) v l) ≡ pasted (p * k) v (drop k l)
  drop_further p v l h =
      let place : suc p * k ≡ k + p * k = omega arith in
      ap (λ (n : ℕ). drop k (pasted n v l)) place
      ∙ ap (drop k) (paste_past k (p * k) v l)
      ∙ drop_at (take k l) (pasted (p * k) v (drop k l)) k (length-take-le k l h)

  take_further : (p : ℕ) (v l : List ℕ) → k ≤ length l → take k (pasted (suc p * k) v l) ≡ take k l
  take_further p v l h =
      let place : suc p * k ≡ k + p * k = omega arith in
      ap (λ (n : ℕ). take k (pasted n v l)) place
      ∙ ap (take k) (paste_past k (p * k) v l)
      ∙ take_at (take k l) (pasted (p * k) v (drop k l)) k (length-take-le k l h)

  front : (v l : List ℕ) → pasted (0 * k) v l ≡ pasted 0 v l
  front v l = ap (λ (n : ℕ). pasted n v l) (omega arith)

  -- a part pasted in is there
  part_pasted : (p : ℕ) (v l : List ℕ) → length v ≡ k → suc p * k ≤ length l → set_at k p (pasted (p * k) v l) ≡ v
  unfolding set_at pasted
  part_pasted zero v l n h = ap (take k) (front v l) ∙ take_at v (drop (0 + length v) l) k n
  part_pasted (suc p) v l n h =
      let room : k ≤ length l = omega arith in
      let rest : suc p * k ≤ length (drop k l) = simp length-drop (omega arith) in
      ap (set_at k p) (drop_further p v l room) ∙ part_pasted p v (drop k l) n rest

  -- the others stay
  part_kept : (p q : ℕ) (v l : List ℕ) → length v ≡ k → suc p * k ≤ length l → (p ≡ q → ⊥) → set_at k q (pasted (p * k) v l) ≡ set_at k q l
  unfolding set_at
  part_kept zero zero v l n h ne = absurd (ne refl)
  part_kept zero (suc q) v l n h ne =
      let fits : length v ≤ k = omega arith in
      ap (λ (x : List ℕ). set_at k q (drop k x)) (front v l) ∙ ap (set_at k q) (past_front k v l fits)
  part_kept (suc p) zero v l n h ne = let room : k ≤ length l = omega arith in take_further p v l room
  part_kept (suc p) (suc q) v l n h ne =
      let room : k ≤ length l = omega arith in
      let rest : suc p * k ≤ length (drop k l) = simp length-drop (omega arith) in
      ap (set_at k q) (drop_further p v l room) ∙ part_kept p q v (drop k l) n rest (λ e. ne (ap suc e))

  -- of bytes that are all the same
  part_uniform : (p b : ℕ) (l : List ℕ) → all_are b l ≡ true → suc p * k ≤ length l → set_at k p l ≡ replicate k b
  unfolding set_at
  part_uniform zero b l all h = let room : k ≤ length l = omega arith in take_all_are b k l all room
  part_uniform (suc p) b l all h =
      let rest : suc p * k ≤ length (drop k l) = simp length-drop (omega arith) in
      part_uniform p b (drop k l) (all_drop b k l all) rest

-- ---- set after set: what each number has in the end

module _ {A : Type 0} (one : A → List ℕ → Option A) (w : ℕ) (held : A → ℕ) (InRange : List ℕ → Type 0) (number : List ℕ → ℕ) (with_one : A → List ℕ → A) (step : Stepped one w held InRange number with_one) where
  module _ {B : Type 0} (has : A → ℕ → B) (value : List ℕ → B) (Long : A → Type 0) where
    -- one whole set that is read: its number has its value, the others what they had
    pub record Stores : Type 0 where
      pub stored : (t : A) (s : List ℕ) → length s ≡ w → Long t → InRange s → bit_of (held t) (number s) ≡ 0 → has (with_one t s) (number s) ≡ value s
      pub kept : (t : A) (s : List ℕ) (p : ℕ) → length s ≡ w → Long t → InRange s → bit_of (held t) (number s) ≡ 0 → (number s ≡ p → ⊥) → has (with_one t s) p ≡ has t p
      pub long : (t : A) (s : List ℕ) → length s ≡ w → Long t → InRange s → Long (with_one t s)

    -- none of the n sets has the number p
    abbrev Unnamed : ℕ → List ℕ → ℕ → Type 0
    Unnamed n l p = (i : ℕ) → i < n → number (set_at w i l) ≡ p → ⊥

    module _ (stores : Stores) (u : A) where
      -- what is known where the first set is read and n more are to come
      module _ (n : ℕ) (t : A) (l : List ℕ) (h : read_of one w (suc n) (Some t) l ≡ Some u) (room : suc n * w ≤ length l) (long : Long t) where
        on : read_of one w n (Some (with_one t (take w l))) (drop w l) ≡ Some u
        on = sym (first_then one w held InRange number with_one step n t l (ap is_some h)).1 ∙ h

        read : InRange (take w l) and (bit_of (held t) (number (take w l)) ≡ 0)
        read = (step.ends t (take w l)).exactly.0 (ap is_some (first_then one w held InRange number with_one step n t l (ap is_some h)).0)

        whole : length (take w l) ≡ w
        whole = let k : w ≤ length l = omega arith in length-take-le w l k

        more_room : n * w ≤ length (drop w l)
        more_room = simp length-drop (omega arith)

        longer : Long (with_one t (take w l))
        longer = stores.long t (take w l) whole long read.0

        once : Unnamed n (drop w l) (number (take w l))
        unfolding set_at
        once i k e =
            let q = ((all_exactly one w held InRange number with_one step (suc n) t l).0 (ap is_some h)).1.1 in
            let a : 0 < suc i = omega arith in
            let b : suc i < suc n = omega arith in
            q 0 (suc i) a b (sym e)

      pub unnamed_kept : (n : ℕ) (t : A) (l : List ℕ) → read_of one w n (Some t) l ≡ Some u → n * w ≤ length l → Long t → (p : ℕ) → Unnamed n l p → has u p ≡ has t p
      unfolding set_at
      unnamed_kept zero t l h room long p un = ap (λ (x : A). has x p) (same_Some u t (sym h ∙ none_read one w (Some t) l))
      unnamed_kept (suc n) t l h room long p un =
          unnamed_kept n (with_one t (take w l)) (drop w l) (on n t l h room long) (more_room n t l h room long) (longer n t l h room long) p (λ i k. un (suc i) (omega arith))
          ∙ stores.kept t (take w l) p (whole n t l h room long) long (read n t l h room long).0 (read n t l h room long).1 (un 0 (omega arith))

      pub named_stored : (n : ℕ) (t : A) (l : List ℕ) → read_of one w n (Some t) l ≡ Some u → n * w ≤ length l → Long t
          → (i : ℕ) → i < n → has u (number (set_at w i l)) ≡ value (set_at w i l)
      unfolding set_at
      named_stored zero t l h room long i k = absurd (not-suc-le-zero k)
      named_stored (suc n) t l h room long zero k =
          unnamed_kept n (with_one t (take w l)) (drop w l) (on n t l h room long) (more_room n t l h room long) (longer n t l h room long) (number (take w l)) (once n t l h room long)
          ∙ stores.stored t (take w l) (whole n t l h room long) long (read n t l h room long).0 (read n t l h room long).1
      named_stored (suc n) t l h room long (suc i) k =
          named_stored n (with_one t (take w l)) (drop w l) (on n t l h room long) (more_room n t l h room long) (longer n t l h room long) i (le_of_suc-le-suc k)

-- what is left of a part after its number's bytes is all taken
rest_taken : (k n : ℕ) (s : List ℕ) → length s ≡ n + k → (take k (drop n s) ≡ drop n s) × (length (drop n s) ≡ k)
rest_taken k n s h =
    let e : length (drop n s) ≡ k = simp length-drop (omega arith) in
    let m : length (drop n s) ≤ k = omega arith in
    (take_all k (drop n s) m, e)

-- ---- throttle sets

abbrev pair_in : Throttles → ℕ → ℕ × List ℕ
pair_in t p = (bit_of t.present p, set_at 10 p t.sets)

abbrev pair_sent : List ℕ → ℕ × List ℕ
pair_sent s = (1, drop 2 s)

abbrev PairsLong : Throttles → Type 0
PairsLong t = length t.sets ≡ 160

module _ (t : Throttles) (s : List ℕ) (whole : length s ≡ 12) (long : PairsLong t) (pair : InPairs s) where
  ten : take 10 (drop 2 s) ≡ drop 2 s
  ten = (rest_taken 10 2 s whole).0

  pair_room : suc (pair_of s) * 10 ≤ length t.sets
  pair_room = omega (arith, pair.0, pair.1, long)

  set_stored : bit_of t.present (pair_of s) ≡ 0 → pair_in (with_set t s) (pair_of s) ≡ pair_sent s
  unfolding with_pair
  set_stored free =
      let b = bit_added (pair_of s) t.present free in
      let v = part_pasted 10 (pair_of s) (drop 2 s) t.sets (rest_taken 10 2 s whole).1 pair_room in
      ap (λ (x : List ℕ). pair_in (with_pair t (pair_of s) x) (pair_of s)) ten ∙ (λ i. (b i, v i))

  set_kept : (p : ℕ) → bit_of t.present (pair_of s) ≡ 0 → (pair_of s ≡ p → ⊥) → pair_in (with_set t s) p ≡ pair_in t p
  unfolding with_pair
  set_kept p free ne =
      let b = bit_kept (pair_of s) p t.present free ne in
      let v = part_kept 10 (pair_of s) p (drop 2 s) t.sets (rest_taken 10 2 s whole).1 pair_room ne in
      ap (λ (x : List ℕ). pair_in (with_pair t (pair_of s) x) p) ten ∙ (λ i. (b i, v i))

  set_long : PairsLong (with_set t s)
  unfolding with_pair
  set_long =
      let fits : pair_of s * 10 + length (drop 2 s) ≤ length t.sets = omega (arith, pair_room, (rest_taken 10 2 s whole).1) in
      ap (λ (x : List ℕ). length (pasted (pair_of s * 10) x t.sets)) ten ∙ length_pasted (pair_of s * 10) (drop 2 s) t.sets fits ∙ long

set_stores : Stores one_set 12 pairs_held InPairs pair_of with_set set_stepped pair_in pair_sent PairsLong
set_stores = record { stored = set_stored; kept = λ t s p w l r. set_kept t s w l r p; long = set_long }

pub sets_sent : (n : ℕ) (l : List ℕ) (t : Throttles) → throttles_of n l ≡ Some t → n * 12 ≤ length l → SentPairs n l t
unfolding throttles_of
sets_sent n l t h room =
    let f : PairsFormed t = subst (λ (v : Option Throttles). IfSome v PairsFormed) h (sets_formed n l) in
    record {
      sent = λ i k. let e = named_stored one_set 12 pairs_held InPairs pair_of with_set set_stepped pair_in pair_sent PairsLong set_stores t n _ l h room refl i k in
          (ap (λ (x : ℕ × List ℕ). x.0) e, ap (λ (x : ℕ × List ℕ). x.1) e);
      others = λ p k un. let e = unnamed_kept one_set 12 pairs_held InPairs pair_of with_set set_stepped pair_in pair_sent PairsLong set_stores t n _ l h room refl p un in
          (ap (λ (x : ℕ × List ℕ). x.0) e ∙ bit_none p, ap (λ (x : ℕ × List ℕ). x.1) e ∙ part_uniform 10 p 0 (replicate 160 0) (all_replicate 0 160) (omega arith));
      pairs = f.small;
      long = f.long;
    }

-- ---- thermal thresholds

abbrev fru_in : Frus → ℕ → List ℕ
fru_in t p = set_at 3 p t.bytes

abbrev FrusLong : Frus → Type 0
FrusLong t = length t.bytes ≡ 9

module _ (t : Frus) (s : List ℕ) (whole : length s ≡ 4) (long : FrusLong t) (fru : InFrus s) where
  three : take 3 (drop 1 s) ≡ drop 1 s
  three = (rest_taken 3 1 s whole).0

  fru_room : suc (fru_of s) * 3 ≤ length t.bytes
  fru_room = omega (arith, fru.0, long)

  fru_stored : bit_of t.seen (fru_of s) ≡ 0 → fru_in (with_three t s) (fru_of s) ≡ drop 1 s
  unfolding with_fru
  fru_stored free =
      ap (λ (x : List ℕ). fru_in (with_fru t (fru_of s) x) (fru_of s)) three ∙ part_pasted 3 (fru_of s) (drop 1 s) t.bytes (rest_taken 3 1 s whole).1 fru_room

  fru_kept : (p : ℕ) → bit_of t.seen (fru_of s) ≡ 0 → (fru_of s ≡ p → ⊥) → fru_in (with_three t s) p ≡ fru_in t p
  unfolding with_fru
  fru_kept p free ne = ap (λ (x : List ℕ). fru_in (with_fru t (fru_of s) x) p) three ∙ part_kept 3 (fru_of s) p (drop 1 s) t.bytes (rest_taken 3 1 s whole).1 fru_room ne

  fru_long : FrusLong (with_three t s)
  unfolding with_fru
  fru_long =
      let fits : fru_of s * 3 + length (drop 1 s) ≤ length t.bytes = omega (arith, fru_room, (rest_taken 3 1 s whole).1) in
      ap (λ (x : List ℕ). length (pasted (fru_of s * 3) x t.bytes)) three ∙ length_pasted (fru_of s * 3) (drop 1 s) t.bytes fits ∙ long

fru_stores : Stores one_fru 4 frus_held InFrus fru_of with_three fru_stepped fru_in (λ (s : List ℕ). drop 1 s) FrusLong
fru_stores = record { stored = fru_stored; kept = λ t s p w l r. fru_kept t s w l r p; long = fru_long }

-- the table that was read, as what was read
bytes_from : (v : Option Frus) (t : List ℕ) → option_map (λ (x : Frus). x.bytes) v ≡ Some t → (x : Frus) × (v ≡ Some x) × (x.bytes ≡ t)
bytes_from None t e = absurd (none-some t e)
bytes_from (Some x) t e = (x, refl, same_Some x.bytes t e)

pub frus_sent : (n : ℕ) (l t : List ℕ) → thermal_of n l ≡ Some t → n * 4 ≤ length l → SentFrus n l t
unfolding thermal_of
frus_sent n l t h room =
    let r = bytes_from _ t h in
    let start : Frus = record { seen = 0; bytes = replicate 9 0xFF } in
    subst (SentFrus n l) r.2
    (record {
      sent = named_stored one_fru 4 frus_held InFrus fru_of with_three fru_stepped fru_in (λ (s : List ℕ). drop 1 s) FrusLong fru_stores r.0 n start l r.1 room refl;
      others = λ p k un. unnamed_kept one_fru 4 frus_held InFrus fru_of with_three fru_stepped fru_in (λ (s : List ℕ). drop 1 s) FrusLong fru_stores r.0 n start l r.1 room refl p un
          ∙ part_uniform 3 p 0xFF (replicate 9 0xFF) (all_replicate 0xFF 9) (omega arith);
      long = (subst (λ (v : Option (List ℕ)). IfSome v ThermalFormed) (ap (option_map (λ (x : Frus). x.bytes)) r.1) (frus_formed n l)).1;
    })
