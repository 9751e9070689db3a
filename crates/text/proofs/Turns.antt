-- What each turn of a loop does. Assumes nothing.
use Prim.Native.Nat.{ℕ, suc, ◌+◌, ◌-◌, ◌*◌, ◌<◌, ◌≤◌}
use mathlib.Core.Bool.{Bool, true, false, cond, not}
use mathlib.Core.Path.{◌≡◌, refl, sym, ap, subst, ◌∙◌}
use mathlib.Core.List.{List, [], ◌∷◌, ◌++◌}
use native.Mathlib.Numerals.{add-one}
use native.Mathlib.Nat.{add-zero, zero-add, sub-zero, mul-suc, add_comm}
use native.Mathlib.Omega.{arith}
use lib.Dec.{ltb, eqb}
use lib.ListN.{length, get_or, drop, set, drop_of_length-le, length-append}
use lib.Seq.{drop-cons}
use borrow.Author.Tests.{ltb-true, ltb-false}
use Rattle.std.specs.Prelude.{nat_eq, ◌&&◌, Option, Some, None}
use Rattle.std.specs.List.{prefix_len}
use Rattle.std.specs.Cmp.Lexicographic.{pointwise}
use Rattle.wire.specs.Wire.{pasted, joined}
use Rattle.wire.proofs.laws.Cases.{if_b, else_b, if_lt, else_lt, if_le, else_le}
use Rattle.wire.proofs.Loops.{store_first, paste_none}
use Rattle.text.specs.declared.Fault.{Fault}
use Rattle.text.specs.declared.Fault.TheVariants.{Digit, Over}
use Rattle.text.specs.Text.{blank, digit_of, digit_at, HexRun, stopped, onto, high, low, hex_from, hex_run, Takes, same_text, Sheet, put_all}
use Rattle.text.proofs.laws.Pieces.{put_all_append, paste_then}

-- ---- tests of a call's answer: t is the answer, b what the contract says of it

module _ {b : Bool} where
  pub not-true : {t : Bool} → t ≡ b → not t ≡ true → b ≡ false
  not-true {t = true} e h = sym e ∙ sym h
  not-true {t = false} e h = sym e

  pub not-false : {t : Bool} → t ≡ b → not t ≡ false → b ≡ true
  not-false {t = true} e h = sym e
  not-false {t = false} e h = sym e ∙ sym h

-- ---- counting in front

module _ (p : ℕ → Bool) (s : List ℕ) (i : ℕ) where
  pub prefix_more : i < length s → p (get_or s i 0) ≡ true → i + 1 + prefix_len p (drop (i + 1) s) ≡ i + prefix_len p (drop i s)
  prefix_more h e =
      let one : suc (prefix_len p (drop (suc i) s)) ≡ prefix_len p (drop i s) = rw (drop-cons s i 0) (if_b _ _ e (omega arith)) in
      rw (add-one i) (omega (arith, one))

  pub prefix_stop : i < length s → p (get_or s i 0) ≡ false → i ≡ i + prefix_len p (drop i s)
  prefix_stop h e =
      let none : 0 ≡ prefix_len p (drop i s) = rw (drop-cons s i 0) (else_b _ _ e refl) in
      omega (arith, none)

  pub prefix_end : length s ≤ i → i ≡ i + prefix_len p (drop i s)
  prefix_end h = rw (drop_of_length-le s h) (sym (add-zero i))

-- ---- what is read from a place on

there_by : (s : List ℕ) (i : ℕ) (t : Bool) → ltb i (length s) ≡ t → cond t (digit_of (get_or s i 0)) 16 ≤ 15
    → (i < length s) × (cond t (digit_of (get_or s i 0)) 16 ≡ digit_of (get_or s i 0))
there_by s i true e h = (ltb-true i (length s) e, refl)
there_by s i false e h = absurd (omega arith)

-- a digit is there
there : (s : List ℕ) (i : ℕ) → digit_at s i ≤ 15 → (i < length s) × (digit_at s i ≡ digit_of (get_or s i 0))
unfolding digit_at
there s i h = there_by s i (ltb i (length s)) refl h

module _ (s : List ℕ) (at room column : ℕ) where
  end : length s ≤ at → stopped None ≡ hex_from high room column (drop at s)
  unfolding hex_from
  end h = rw (drop_of_length-le s h)

  no_low_by : (h : ℕ) (t : Bool) → ltb at (length s) ≡ t → 15 < cond t (digit_of (get_or s at 0)) 16
      → stopped (Some (Digit column)) ≡ hex_from (low h) room column (drop at s)
  unfolding hex_from
  no_low_by h true e b = let k : at < length s = ltb-true at (length s) e in rw (drop-cons s at 0) (if_lt _ _ b refl)
  no_low_by h false e b = rw (drop_of_length-le s (ltb-false at (length s) e))

  no_low : (h : ℕ) → 15 < digit_at s at → stopped (Some (Digit column)) ≡ hex_from (low h) room column (drop at s)
  unfolding digit_at
  no_low h b = no_low_by h (ltb at (length s)) refl b

  module _ (more : at < length s) where
    at_low : (h : ℕ) → digit_of (get_or s at 0) ≤ 15
        → onto (h * 16 + digit_of (get_or s at 0)) (hex_from high (room - 1) (suc column) (drop (suc at) s)) ≡ hex_from (low h) room column (drop at s)
    unfolding hex_from
    at_low h d = rw (drop-cons s at 0) (else_lt _ _ d refl)

    at_blank : blank (get_or s at 0) ≡ true → hex_from high room (suc column) (drop (suc at) s) ≡ hex_from high room column (drop at s)
    unfolding hex_from
    at_blank e = rw (drop-cons s at 0) (if_b _ _ e refl)

    module _ (dense : blank (get_or s at 0) ≡ false) where
      over : room ≤ 0 → stopped (Some (Over column)) ≡ hex_from high room column (drop at s)
      unfolding hex_from
      over r = rw (drop-cons s at 0) (else_b _ _ dense (if_le _ _ r refl))

      no_high : 0 < room → 15 < digit_of (get_or s at 0) → stopped (Some (Digit column)) ≡ hex_from high room column (drop at s)
      unfolding hex_from
      no_high r d = rw (drop-cons s at 0) (else_b _ _ dense (else_le _ _ r (if_lt _ _ d refl)))

      at_high : 0 < room → digit_of (get_or s at 0) ≤ 15
          → hex_from (low (digit_of (get_or s at 0))) room (suc column) (drop (suc at) s) ≡ hex_from high room column (drop at s)
      unfolding hex_from
      at_high r d = rw (drop-cons s at 0) (else_b _ _ dense (else_le _ _ r (else_lt _ _ d refl)))

-- ---- what is left to read, read now, gives the end

-- q is to read yet and n bytes stand in d; q₀ was to read into d₀
record Rest (n : ℕ) (d : List ℕ) (q q₀ : HexRun) (d₀ : List ℕ) : Type 0 where
  stands : pasted n q.bytes d ≡ pasted 0 q₀.bytes d₀
  count : n + length q.bytes ≡ length q₀.bytes
  wrong : q.fault ≡ q₀.fault

rest_as : {n : ℕ} {d d₀ : List ℕ} {q q' q₀ : HexRun} → q' ≡ q → Rest n d q q₀ d₀ → Rest n d q' q₀ d₀
rest_as {n} {d} {d₀} {q₀ = q₀} e l = subst (λ (x : HexRun). Rest n d x q₀ d₀) (sym e) l

stop : {n : ℕ} {d d₀ : List ℕ} {q q₀ : HexRun} {f : Option Fault} → stopped f ≡ q → Rest n d q q₀ d₀ → Takes q₀ d₀ d n f
stop {n} {d} e l =
    let k = rest_as e l in
    record { stands = sym (paste_none n d) ∙ k.stands; count = omega (arith, k.count); wrong = k.wrong }

store : {n b : ℕ} {d d₀ : List ℕ} {q q' q₀ : HexRun} → n < length d → onto b q' ≡ q → Rest n d q q₀ d₀ → Rest (n + 1) (set d n b) q' q₀ d₀
store {n} {b} {d} {q' = q'} h e l =
    let k = rest_as e l in
    record { stands = store_first n b q'.bytes d h ∙ k.stands; count = omega (arith, k.count); wrong = k.wrong }

-- s is to read yet from `at` on; the buffer has m bytes
pub record Left (s : List ℕ) (at m n : ℕ) (d : List ℕ) (q₀ : HexRun) (d₀ : List ℕ) : Type 0 where
  rest : Rest n d (hex_run s at (m - n)) q₀ d₀

pub left_all : (s : List ℕ) (from : ℕ) (d : List ℕ) → Left s from (length d) 0 d (hex_run s from (length d)) d
left_all s from d =
    let e : hex_run s from (length d - 0) ≡ hex_run s from (length d) = rw sub-zero in
    record { rest = rest_as e (record { stands = refl; count = zero-add _; wrong = refl }) }

module _ {s : List ℕ} {at m n : ℕ} {d : List ℕ} {q₀ : HexRun} {d₀ : List ℕ} (l : Left s at m n d q₀ d₀) where
  pub left_end : length s ≤ at → Takes q₀ d₀ d n None
  left_end h = stop (end s at (m - n) (at + 1) h) l.rest

  module _ (more : at < length s) where
    pub left_blank : blank (get_or s at 0) ≡ true → Left s (at + 1) m n d q₀ d₀
    left_blank e = record { rest = rest_as (rw (add-one (at + 1), add-one at) (at_blank s at (m - n) (suc at) more e)) l.rest }

    module _ (dense : blank (get_or s at 0) ≡ false) where
      pub left_over : m ≤ n → Takes q₀ d₀ d n (Some (Over (at + 1)))
      left_over h = stop (over s at (m - n) (at + 1) more dense (omega arith)) l.rest

      module _ {x : ℕ} (room : n < m) (hx : x ≡ digit_of (get_or s at 0)) where
        pub left_no_high : 15 < x → Takes q₀ d₀ d n (Some (Digit (at + 1)))
        left_no_high b = stop (no_high s at (m - n) (at + 1) more dense (omega arith) (omega arith)) l.rest

        module _ {y : ℕ} (hy : y ≡ digit_at s (at + 1)) where
          pub left_no_low : x ≤ 15 → 15 < y → Takes q₀ d₀ d n (Some (Digit (at + 1 + 1)))
          left_no_low g b =
              let e : y ≡ digit_at s (suc at) = rw (add-one at) at hy in
              stop
              (rw (add-one (at + 1), add-one at)
              (no_low s (suc at) (m - n) (suc (suc at)) (digit_of (get_or s at 0)) (omega arith) ∙ at_high s at (m - n) (suc at) more dense (omega arith) (omega arith)))
              l.rest

          pub left_byte : x ≤ 15 → y ≤ 15 → n < length d → Left s (at + 1 + 1) m (n + 1) (set d n (x * 16 + y)) q₀ d₀
          left_byte g b h =
              let e : y ≡ digit_at s (suc at) = rw (add-one at) at hy in
              let t = there s (suc at) (omega arith) in
              let less : m - (n + 1) ≡ m - n - 1 = omega arith in
              let eq : y ≡ digit_of (get_or s (suc at) 0) = e ∙ t.1 in
              let byte : onto (x * 16 + y) (hex_run s (at + 1 + 1) (m - (n + 1))) ≡ hex_run s at (m - n) =
              rw (less, hx, eq, add-one (at + 1 + 1), add-one (at + 1), add-one at)
              (at_low s (suc at) (m - n) (suc (suc at)) t.0 (digit_of (get_or s at 0)) (omega arith)
              ∙ at_high s at (m - n) (suc at) more dense (omega arith) (omega arith)) in
              record { rest = store h byte l.rest }

-- ---- two texts

pub same_pointwise : (a b : List ℕ) → pointwise nat_eq a b ≡ same_text a b
unfolding same_text
same_pointwise [] [] = refl
same_pointwise [] (y ∷ ys) = refl
same_pointwise (x ∷ xs) [] = refl
same_pointwise (x ∷ xs) (y ∷ ys) = go (eqb x y) (same_pointwise xs ys)
  where
    go : (t : Bool) → pointwise nat_eq xs ys ≡ same_text xs ys → (t && pointwise nat_eq xs ys) ≡ cond (not t) false (same_text xs ys)
    go true e = e
    go false e = refl

-- ---- pieces: those left, put now, give the end

-- g puts the pieces of f for each byte
module _ (g : List ℕ → List (List ℕ)) (f : ℕ → List (List ℕ)) (none : g [] ≡ [])
    (more : (b : ℕ) (bs : List ℕ) → g (b ∷ bs) ≡ f b ++ g bs) (s : List ℕ) (i : ℕ) (p : Sheet) where
  pub each_more : {q : Sheet} → i < length s → q ≡ put_all p (f (get_or s i 0)) → put_all q (g (drop (i + 1) s)) ≡ put_all p (g (drop i s))
  each_more {q} h e =
      rw (add-one i, drop-cons s i 0 h, more (get_or s i 0) (drop (suc i) s), put_all_append p (f (get_or s i 0)))
      (ap (λ (x : Sheet). put_all x (g (drop (suc i) s))) e)

  pub each_end : length s ≤ i → p ≡ put_all p (g (drop i s))
  unfolding put_all
  each_end h = rw (drop_of_length-le s h, none)

-- ---- pieces that have room, w bytes for each number: those that are left, put behind the ones before

module _ (pieces : List ℕ → List (List ℕ)) (one : ℕ → List ℕ) (w : ℕ) (wide : (b : ℕ) → length (one b) ≡ w)
    (none : joined (pieces []) ≡ []) (more : (b : ℕ) (bs : List ℕ) → joined (pieces (b ∷ bs)) ≡ one b ++ joined (pieces bs)) where
  pub room_for_all : (s : List ℕ) → length (joined (pieces s)) ≡ w * length s
  room_for_all [] = ap length none ∙ omega arith
  room_for_all (b ∷ bs) =
      ap length (more b bs) ∙ length-append (one b) (joined (pieces bs)) ∙ ap (λ (n : ℕ). n + length (joined (pieces bs))) (wide b)
      ∙ ap (λ (n : ℕ). w + n) (room_for_all bs) ∙ add_comm w (w * length bs) ∙ sym (mul-suc w (length bs))

  module _ (s d : List ℕ) (i end : ℕ) where
    pub spelt_next : {d' : List ℕ} → i < length s → end + w ≤ length d → d' ≡ pasted end (one (get_or s i 0)) d
        → pasted (end + w) (joined (pieces (drop (i + 1) s))) d' ≡ pasted end (joined (pieces (drop i s))) d
    spelt_next {d'} h fits e =
        let b = get_or s i 0 in
        let rest = joined (pieces (drop (suc i) s)) in
        let whole : joined (pieces (drop i s)) ≡ one b ++ rest = ap (λ (l : List ℕ). joined (pieces l)) (drop-cons s i 0 h) ∙ more b (drop (suc i) s) in
        ap (λ (x : List ℕ). pasted (end + w) (joined (pieces (drop (i + 1) s))) x) e
        ∙ ap (λ (k : ℕ). pasted (end + w) (joined (pieces (drop k s))) (pasted end (one b) d)) (add-one i)
        ∙ ap (λ (n : ℕ). pasted (end + n) rest (pasted end (one b) d)) (sym (wide b))
        ∙ paste_then end (one b) rest d (omega (arith, wide b))
        ∙ ap (λ (x : List ℕ). pasted end x d) (sym whole)

    pub spelt_all : length s ≤ i → pasted end (joined (pieces (drop i s))) d ≡ d
    spelt_all h = ap (λ (l : List ℕ). pasted end (joined (pieces l)) d) (drop_of_length-le s h) ∙ ap (λ (x : List ℕ). pasted end x d) none ∙ paste_none end d
