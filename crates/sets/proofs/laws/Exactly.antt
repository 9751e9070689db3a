-- Document 01, formats 0x12 and 0x13: sets are read without fault exactly when each is in range and none comes twice. Assumes nothing.
use Prim.Native.Nat.{ℕ, zero, suc, ◌+◌, ◌/◌, ◌%◌, ◌^◌, ◌<◌}
use Rattle.std.specs.Prelude.{Bool, true, ◌≡◌, refl, Option, Some, None, List, ◌↔◌, take, drop}
use Rattle.std.proofs.lemmas.Bool.{false≢true}
use Rattle.std.proofs.Common.{sym, ap, subst, ◌∙◌, div-one, not-suc-le-zero, le_of_suc-le-suc, arith}
use Rattle.std.proofs.Math.Nat.{two-pow-succ, pow-succ', div-div-eq-div-mul, zero-div, zero-mod}
use Rattle.formed.proofs.laws.Thresholds.{order_exactly}
use Rattle.std.specs.Option.{is_some, option_map}
use Rattle.record.specs.declared.Throttles.{Throttles}
use Rattle.sets.specs.declared.Frus.{Frus}
use Rattle.sets.specs.Sets.{bit_of, read_of, with_pair, one_set, throttles_of, with_fru, one_fru, thermal_of}
use Rattle.sets.proofs.laws.Sets.{none_read, more_read, none_stays}
use Rattle.wire.proofs.laws.Chains.{eq_holds, lt_passes, not_passes, Ends, ends_unless, ends_when, ends_last}
use Rattle.wire.specs.Conditions.{◌and◌}
use Rattle.sets.specs.Conditions.{set_at, Each, NoneTwice, InPairs, pair_of, SetsOk, InFrus, fru_of, FrusOk}

-- ---- bits

bit_half : (x i : ℕ) → bit_of x (suc i) ≡ bit_of (x / 2) i
unfolding bit_of
bit_half x i = ap (λ (n : ℕ). n % 2) (ap (λ (n : ℕ). x / n) (pow-succ' 2 i) ∙ sym (div-div-eq-div-mul x 2 (2 ^ i)))

bit_low : (x : ℕ) → bit_of x 0 ≡ x % 2
unfolding bit_of
bit_low x = ap (λ (n : ℕ). n % 2) (div-one x)

pub bit_none : (i : ℕ) → bit_of 0 i ≡ 0
unfolding bit_of
bit_none i = ap (λ (n : ℕ). n % 2) (zero-div (2 ^ i)) ∙ zero-mod 2

half_more : (x i : ℕ) → (x + 2 ^ suc i) / 2 ≡ x / 2 + 2 ^ i
half_more x i = omega (arith, two-pow-succ i)

-- a free bit that is added is set
pub bit_added : (i x : ℕ) → bit_of x i ≡ 0 → bit_of (x + 2 ^ i) i ≡ 1
bit_added zero x h = bit_low (x + 1) ∙ omega (arith, sym (bit_low x) ∙ h)
bit_added (suc i) x h =
    bit_half (x + 2 ^ suc i) i ∙ ap (λ (n : ℕ). bit_of n i) (half_more x i) ∙ bit_added i (x / 2) (sym (bit_half x i) ∙ h)

-- the others stay
pub bit_kept : (i j x : ℕ) → bit_of x i ≡ 0 → (i ≡ j → ⊥) → bit_of (x + 2 ^ i) j ≡ bit_of x j
bit_kept zero zero x h ne = absurd (ne refl)
bit_kept zero (suc j) x h ne =
    let e : (x + 1) / 2 ≡ x / 2 = omega (arith, sym (bit_low x) ∙ h) in
    bit_half (x + 1) j ∙ ap (λ (n : ℕ). bit_of n j) e ∙ sym (bit_half x j)
bit_kept (suc i) zero x h ne =
    let e : (x + 2 ^ suc i) % 2 ≡ x % 2 = omega (arith, two-pow-succ i) in
    bit_low (x + 2 ^ suc i) ∙ e ∙ sym (bit_low x)
bit_kept (suc i) (suc j) x h ne =
    bit_half (x + 2 ^ suc i) j
    ∙ ap (λ (n : ℕ). bit_of n j) (half_more x i)
    ∙ bit_kept i j (x / 2) (sym (bit_half x i) ∙ h) (λ e. ne (ap suc e))
    ∙ sym (bit_half x j)

-- ---- the first part and the others

module _ (w n : ℕ) (l : List ℕ) where
  each_cons : (P : List ℕ → Type 0) → P (take w l) → Each w P n (drop w l) → Each w P (suc n) l
  unfolding set_at
  each_cons P p q zero h = p
  each_cons P p q (suc i) h = q i (le_of_suc-le-suc h)

  each_head : (P : List ℕ → Type 0) → Each w P (suc n) l → P (take w l)
  unfolding set_at
  each_head P q = q 0 (omega arith)

  each_tail : (P : List ℕ → Type 0) → Each w P (suc n) l → Each w P n (drop w l)
  unfolding set_at
  each_tail P q i h = q (suc i) (omega arith)

  module _ (number : List ℕ → ℕ) where
    -- the others' numbers aren't the first one's
    abbrev Others : List ℕ → Type 0
    Others s = number (take w l) ≡ number s → ⊥

    none_cons : Each w Others n (drop w l) → NoneTwice w number n (drop w l) → NoneTwice w number (suc n) l
    unfolding set_at
    none_cons o q i zero h k = absurd (not-suc-le-zero h)
    none_cons o q zero (suc j) h k = o j (le_of_suc-le-suc k)
    none_cons o q (suc i) (suc j) h k = q i j (le_of_suc-le-suc h) (le_of_suc-le-suc k)

    none_head : NoneTwice w number (suc n) l → Each w Others n (drop w l)
    unfolding set_at
    none_head q j h = q 0 (suc j) (omega arith) (omega arith)

    none_tail : NoneTwice w number (suc n) l → NoneTwice w number n (drop w l)
    unfolding set_at
    none_tail q i j h k = q (suc i) (suc j) (omega arith) (omega arith)

-- ---- set after set: what is held has a bit for each number that came

module _ {A : Type 0} (one : A → List ℕ → Option A) (w : ℕ) (held : A → ℕ) (InRange : List ℕ → Type 0) (number : List ℕ → ℕ) (with_set : A → List ℕ → A) where
  -- one set: read exactly when it is in range and its bit is free, and then the bit is added
  pub record Stepped : Type 0 where
    pub ends : (t : A) (s : List ℕ) → Ends is_some (one t s) (InRange s and (bit_of (held t) (number s) ≡ 0)) (Some (with_set t s))
    pub adds : (t : A) (s : List ℕ) → held (with_set t s) ≡ held t + 2 ^ number s

  -- the bit of a set's number is free
  abbrev pub Free : ℕ → List ℕ → Type 0
  Free x s = bit_of x (number s) ≡ 0

  -- what is asked of n sets, with what is held
  abbrev pub Right : ℕ → A → List ℕ → Type 0
  Right n t l = Each w InRange n l and Each w (Free (held t)) n l and NoneTwice w number n l

  -- two numbers of which one's bit was added and the other's is free differ
  apart : (x a b : ℕ) → bit_of x a ≡ 0 → bit_of (x + 2 ^ a) b ≡ 0 → a ≡ b → ⊥
  apart x a b h f e =
      let added = bit_added a x h in
      let free = subst (λ (n : ℕ). bit_of (x + 2 ^ a) n ≡ 0) (sym e) f in
      omega (arith, added, free)

  module _ (step : Stepped) where
    -- from the others, once the first is read, to all
    with_first : (n : ℕ) (t : A) (l : List ℕ) → is_some (one t (take w l)) ≡ true → Right n (with_set t (take w l)) (drop w l) → Right (suc n) t l
    with_first n t l e q =
        let p = (step.ends t (take w l)).exactly.0 e in
        let free = subst (λ (x : ℕ). Each w (Free x) n (drop w l)) (step.adds t (take w l)) q.1.0 in
        let other : Each w (Others w n l number) n (drop w l) = λ i h. apart (held t) _ _ p.1 (free i h) in (
          each_cons w n l InRange p.0 q.0,
          (
            each_cons w n l (Free (held t)) p.1 (λ i h. sym (bit_kept _ _ (held t) p.1 (other i h)) ∙ free i h),
            none_cons w n l number other q.1.1,
          ),
        )

    -- and back
    first_read : (n : ℕ) (t : A) (l : List ℕ) → Right (suc n) t l → is_some (one t (take w l)) ≡ true
    first_read n t l q = (step.ends t (take w l)).exactly.1 (each_head w n l InRange q.0, each_head w n l (Free (held t)) q.1.0)

    past_first : (n : ℕ) (t : A) (l : List ℕ) → Right (suc n) t l → Right n (with_set t (take w l)) (drop w l)
    past_first n t l q =
        let first = each_head w n l (Free (held t)) q.1.0 in
        let other = none_head w n l number q.1.1 in
        let free : Each w (Free (held t + 2 ^ number (take w l))) n (drop w l) =
        λ i h. bit_kept _ _ (held t) first (other i h) ∙ each_tail w n l (Free (held t)) q.1.0 i h in (
          each_tail w n l InRange q.0,
          (
            subst (λ (x : ℕ). Each w (Free x) n (drop w l)) (sym (step.adds t (take w l))) free,
            none_tail w n l number q.1.1,
          ),
        )

    -- the first of several is read, and then the others
    pub first_then : (n : ℕ) (t : A) (l : List ℕ) → is_some (read_of one w (suc n) (Some t) l) ≡ true
        → (one t (take w l) ≡ Some (with_set t (take w l))) × (read_of one w (suc n) (Some t) l ≡ read_of one w n (Some (with_set t (take w l))) (drop w l))
    first_then n t l h = go (one t (take w l)) refl
      where
        go : (v : Option A) → one t (take w l) ≡ v
            → (one t (take w l) ≡ Some (with_set t (take w l))) × (read_of one w (suc n) (Some t) l ≡ read_of one w n (Some (with_set t (take w l))) (drop w l))
        go None e = let z = more_read one w n (Some t) l ∙ ap (λ (v : Option A). read_of one w n v (drop w l)) e ∙ none_stays one w n (drop w l) in
            absurd (false≢true (sym (ap is_some z) ∙ h))
        go (Some u) e = let is = (step.ends t (take w l)).is (ap is_some e) in
            (is, more_read one w n (Some t) l ∙ ap (λ (v : Option A). read_of one w n v (drop w l)) is)

    pub all_exactly : (n : ℕ) (t : A) (l : List ℕ) → (is_some (read_of one w n (Some t) l) ≡ true) ↔ Right n t l
    all_exactly zero t l =
        let nothing : (i : ℕ) → i < 0 → ⊥ = λ i k. not-suc-le-zero k in (
          λ h. ((λ i k. absurd (nothing i k)), ((λ i k. absurd (nothing i k)), (λ i j h k. absurd (nothing j k)))),
          λ h. ap is_some (none_read one w (Some t) l),
        )
    all_exactly (suc n) t l =
        let q = all_exactly n (with_set t (take w l)) (drop w l) in (
          λ h. let f = first_then n t l h in with_first n t l (ap is_some f.0) (q.0 (sym (ap is_some f.1) ∙ h)),
          λ h. let is = (step.ends t (take w l)).is (first_read n t l h) in
              ap is_some (more_read one w n (Some t) l ∙ ap (λ (v : Option A). read_of one w n v (drop w l)) is) ∙ q.1 (past_first n t l h),
        )

    -- where nothing is held yet, every bit is free
    pub from_none : (n : ℕ) (t : A) (l : List ℕ) → held t ≡ 0 → (is_some (read_of one w n (Some t) l) ≡ true) ↔ (Each w InRange n l and NoneTwice w number n l)
    from_none n t l z =
        let q = all_exactly n t l in (
          λ h. let p = q.0 h in (p.0, p.1.1),
          λ h. q.1 (h.0, ((λ i k. ap (λ (x : ℕ). bit_of x (number (set_at w i l))) z ∙ bit_none _), h.1)),
        )

-- ---- the two formats

-- a throttle set's range is two of the tests
grouped : {A B C : Type 0} → (A and B and C) ↔ ((A and B) and C)
grouped = (λ x. ((x.0, x.1.0), x.1.1), λ p. (p.0.0, (p.0.1, p.1)))

abbrev pub with_set : Throttles → List ℕ → Throttles
with_set t s = with_pair t (pair_of s) (take 10 (drop 2 s))

abbrev pub pairs_held : Throttles → ℕ
pairs_held t = t.present

pub set_stepped : Stepped one_set 12 pairs_held InPairs pair_of with_set
unfolding one_set with_pair
set_stepped = record {
  ends = λ t s.
      ends_when is_some grouped
      (ends_unless is_some refl (lt_passes _ _)
      (ends_unless is_some refl (lt_passes _ _)
      (ends_last is_some refl (not_passes (eq_holds _ _)) refl)));
  adds = λ t s. refl;
}

pub sets_exactly : (n : ℕ) (l : List ℕ) → (is_some (throttles_of n l) ≡ true) ↔ SetsOk n l
unfolding SetsOk throttles_of
sets_exactly n l = from_none one_set 12 pairs_held InPairs pair_of with_set set_stepped n _ l refl

abbrev pub with_three : Frus → List ℕ → Frus
with_three t s = with_fru t (fru_of s) (take 3 (drop 1 s))

abbrev pub frus_held : Frus → ℕ
frus_held t = t.seen

pub fru_stepped : Stepped one_fru 4 frus_held InFrus fru_of with_three
unfolding one_fru with_fru
fru_stepped = record {
  ends = λ t s.
      ends_when is_some grouped
      (ends_unless is_some refl (lt_passes _ _)
      (ends_unless is_some refl (not_passes (order_exactly _ _))
      (ends_last is_some refl (not_passes (eq_holds _ _)) refl)));
  adds = λ t s. refl;
}

is_some_map : {A B : Type 0} (f : A → B) (v : Option A) → is_some (option_map f v) ≡ is_some v
is_some_map f None = refl
is_some_map f (Some x) = refl

pub frus_exactly : (n : ℕ) (l : List ℕ) → (is_some (thermal_of n l) ≡ true) ↔ FrusOk n l
unfolding FrusOk thermal_of
frus_exactly n l =
    subst (λ (b : Bool). (b ≡ true) ↔ (Each 4 InFrus n l and NoneTwice 4 fru_of n l)) (sym (is_some_map _ _))
    (from_none one_fru 4 frus_held InFrus fru_of with_three fru_stepped n _ l refl)
