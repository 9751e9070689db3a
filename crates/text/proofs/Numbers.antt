-- Digits left to read: what they make of the number so far, and where they end. Assumes nothing.
use Prim.Native.Nat.{ℕ, ◌+◌, ◌-◌, ◌*◌, ◌/◌, ◌<◌, ◌≤◌}
use mathlib.Core.Bool.{true, false}
use mathlib.Core.Path.{◌≡◌, refl, sym, ◌∙◌}
use mathlib.Core.List.{List, [], ◌∷◌}
use native.Mathlib.Numerals.{add-one}
use native.Mathlib.Omega.{arith}
use lib.Dec.{leb}
use lib.ListN.{length, get_or, drop, drop_of_length-le}
use lib.Seq.{drop-cons}
use borrow.Author.Tests.{le-leb, lt-leb}
use Rattle.wire.proofs.laws.Cases.{if_b, else_b, if_lt, else_lt, cond_elim, same_le}
use Rattle.text.specs.declared.Number.{Number}
use Rattle.text.specs.declared.NumberError.{NumberError}
use Rattle.text.specs.declared.NumberError.TheVariants.{Missing, TooGreat}
use Rattle.std.specs.Prelude.{Result, Ok, Err}
use Rattle.text.specs.Text.{digit_of, digit_at}
use Rattle.std.specs.List.{prefix_len}
use Rattle.text.specs.Numbers.{decimal, value_from, number_by, digits_at, number_at}
use Rattle.text.proofs.Turns.{prefix_more, prefix_stop, prefix_end}

abbrev number : ℕ → ℕ → Result Number NumberError
number value past = Ok (record { value = value; past = past })

-- digits more make no number less
value_grows : (v : ℕ) (s : List ℕ) → v ≤ value_from v s
unfolding value_from
value_grows v [] = omega arith
value_grows v (x ∷ xs) =
    let more = value_grows (v * 10 + digit_of x) xs in
    cond_elim (λ (r : ℕ). v ≤ r) (decimal x) (omega arith) (omega arith)

-- ---- one digit more

module _ {v : ℕ} (x most : ℕ) where
  pub fits_not : most / 10 < v → false ≡ leb (v * 10 + x) most
  fits_not h = sym (lt-leb (v * 10 + x) most (omega arith))

  pub fits_by : v ≤ most / 10 → leb x (most - v * 10) ≡ leb (v * 10 + x) most
  fits_by h = same_le x (most - v * 10) (v * 10 + x) most (λ k. omega arith) (λ k. omega arith)

-- ---- what is left to read, read now, gives the number

-- the digits from `at` up to i stand for v
pub record Digits (s : List ℕ) (at most i v : ℕ) : Type 0 where
  small : v ≤ most
  value : value_from v (drop i s) ≡ value_from 0 (drop at s)
  past : i + prefix_len decimal (drop i s) ≡ at + prefix_len decimal (drop at s)

pub digits_none : (s : List ℕ) (at most : ℕ) → Digits s at most at 0
digits_none s at most = record { small = omega arith; value = refl; past = refl }

module _ {s : List ℕ} {at most i v : ℕ} (l : Digits s at most i v) where
  number_end : v ≡ value_from v (drop i s) → i ≡ i + prefix_len decimal (drop i s) → number v i ≡ digits_at s at most
  unfolding number_by
  number_end e k =
      let value : v ≡ value_from 0 (drop at s) = e ∙ l.value in
      let past : i ≡ at + prefix_len decimal (drop at s) = k ∙ l.past in
      let small : value_from 0 (drop at s) ≤ most = omega (arith, l.small) in
      else_lt _ _ small (rw (← value, ← past))

  pub digits_end : length s ≤ i → number v i ≡ digits_at s at most
  unfolding value_from
  digits_end h = number_end (rw (drop_of_length-le s h)) (prefix_end decimal s i h)

  module _ {x : ℕ} (more : i < length s) (is : x ≡ digit_of (get_or s i 0)) where
    pub digits_stop : 9 < x → number v i ≡ digits_at s at most
    unfolding decimal value_from
    digits_stop h =
        let none : decimal (get_or s i 0) ≡ false = lt-leb (digit_of (get_or s i 0)) 9 (omega arith) in
        number_end (rw (drop-cons s i 0) (else_b _ _ none refl)) (prefix_stop decimal s i more none)

    module _ (h : x ≤ 9) where
      one : decimal (get_or s i 0) ≡ true
      unfolding decimal
      one = le-leb (digit_of (get_or s i 0)) 9 (omega arith)

      value_more : value_from (v * 10 + x) (drop (i + 1) s) ≡ value_from v (drop i s)
      unfolding value_from
      value_more = rw (add-one i, is, drop-cons s i 0) (if_b _ _ one refl)

      pub digits_over : most < v * 10 + x → Err TooGreat ≡ digits_at s at most
      unfolding number_by
      digits_over k =
          let grows = value_grows (v * 10 + x) (drop (i + 1) s) in
          let value = value_more ∙ l.value in
          let great : most < value_from 0 (drop at s) = omega arith in
          if_lt _ _ great refl

      pub digits_more : v * 10 + x ≤ most → Digits s at most (i + 1) (v * 10 + x)
      digits_more k = record { small = k; value = value_more ∙ l.value; past = prefix_more decimal s i more one ∙ l.past }

-- ---- by the digit at the place

module _ (s : List ℕ) (at most : ℕ) {x : ℕ} (is : x ≡ digit_at s at) where
  pub number_none : 9 < x → Err Missing ≡ number_at s at most
  unfolding number_at
  number_none h = let k : 9 < digit_at s at = omega arith in if_lt _ _ k refl

  pub number_there : {r : Result Number NumberError} → x ≤ 9 → r ≡ digits_at s at most → r ≡ number_at s at most
  unfolding number_at
  number_there h e = let k : digit_at s at ≤ 9 = omega arith in else_lt _ _ k e
