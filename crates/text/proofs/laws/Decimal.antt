-- Laws of numbers in decimal: the digits spell the number, the first isn't 0, and how many there are. Assumes nothing.
use Rattle.std.specs.Prelude.{ℕ, zero, suc, ◌+◌, ◌-◌, ◌*◌, ◌/◌, ◌%◌, ◌^◌, ◌≤◌, ◌<◌, ◌≡◌, refl, List, [], ◌∷◌, ◌++◌, ltb, length, get_or}
use Rattle.std.proofs.Common.{sym, ap, ap₂, ◌∙◌, pow-suc, arith, length-append, ltb-true, ltb-false}
use Rattle.std.proofs.Math.Nat.{pow-zero}
use Rattle.std.proofs.Math.ListN.{get_or-append}
use Rattle.io.specs.Digits.{last_digits, hex_digit_ascii, IsDigitCount}
use Rattle.wire.proofs.laws.Cases.{if_lt, else_lt, cond_cases}
use Rattle.text.specs.Text.{decimal_by, decimal}

-- the number that digits spell
unfoldable pub spelled : ℕ → List ℕ → ℕ
spelled n [] = n
spelled n (x ∷ xs) = spelled (n * 10 + (x - 48)) xs

spelled_last : (n x : ℕ) (xs : List ℕ) → spelled n (xs ++ (x ∷ [])) ≡ spelled n xs * 10 + (x - 48)
unfolding spelled
spelled_last n x [] = refl
spelled_last n x (y ∷ ys) = spelled_last (n * 10 + (y - 48)) x ys

spelled_by : (most n : ℕ) → n < most → spelled 0 (decimal_by most n) ≡ n
unfolding spelled decimal_by
spelled_by zero n h = omega arith
spelled_by (suc most) n h =
    cond_cases (λ (l : List ℕ). spelled 0 l ≡ n) (ltb n 10)
    (λ e. omega (arith, ltb-true n 10 e))
    (λ e. spelled_last 0 (48 + n % 10) (decimal_by most (n / 10)) ∙ omega (arith, spelled_by most (n / 10) (omega (arith, ltb-false n 10 e))))

pub spelled_decimal : (n : ℕ) → spelled 0 (decimal n) ≡ n
unfolding decimal
spelled_decimal n = spelled_by (suc n) n (omega arith)

-- ---- no digit is missing, and none is too many

some_by : (most n : ℕ) → n < most → 0 < length (decimal_by most n)
unfolding decimal_by
some_by zero n h = absurd (omega arith)
some_by (suc most) n h =
    cond_cases (λ (l : List ℕ). 0 < length l) (ltb n 10) (λ e. omega arith)
    (λ e. omega (arith, length-append (decimal_by most (n / 10)) ((48 + n % 10) ∷ [])))

first_by : (most n : ℕ) → n < most → 0 < n → 48 < get_or (decimal_by most n) 0 0
unfolding decimal_by
first_by zero n h p = absurd (omega arith)
first_by (suc most) n h p =
    cond_cases (λ (l : List ℕ). 48 < get_or l 0 0) (ltb n 10) (λ e. omega arith)
    (λ e.
    let less : n / 10 < most = omega (arith, ltb-false n 10 e) in
    rw (get_or-append (decimal_by most (n / 10)) ((48 + n % 10) ∷ []) 0 0 (some_by most (n / 10) less)) (first_by most (n / 10) less (omega (arith, ltb-false n 10 e))))

-- no number but 0 begins with a 0
pub first_decimal : (n : ℕ) → 0 < n → 48 < get_or (decimal n) 0 0
unfolding decimal
first_decimal n h = first_by (suc n) n (omega arith) h

length_by : (most k n : ℕ) → n < 10 ^ suc k → length (decimal_by most n) ≤ suc k
unfolding decimal_by
length_by zero k n h = omega arith
length_by (suc most) zero n h =
    cond_cases (λ (l : List ℕ). length l ≤ 1) (ltb n 10) (λ e. omega arith) (λ e. absurd (omega (arith, ltb-false n 10 e)))
length_by (suc most) (suc k) n h =
    cond_cases (λ (l : List ℕ). length l ≤ suc (suc k)) (ltb n 10) (λ e. omega arith)
    (λ e.
    let less : n / 10 < 10 ^ suc k = omega (arith, rw (pow-suc 10 (suc k)) at h) in
    omega (arith, length-append (decimal_by most (n / 10)) ((48 + n % 10) ∷ []), length_by most k (n / 10) less))

-- a number below the power has no more digits
pub length_decimal : (k n : ℕ) → n < 10 ^ suc k → length (decimal n) ≤ suc k
unfolding decimal
length_decimal k n h = length_by (suc n) k n h

-- ---- the digits that `io::decimal` makes

glyph_below : (d : ℕ) → d < 10 → hex_digit_ascii d ≡ 48 + d
glyph_below d h = sym (if_lt (48 + d) (87 + d) h refl)

one_le_pow : (k : ℕ) → 1 ≤ 10 ^ k
one_le_pow zero = omega (arith, pow-zero 10)
one_le_pow (suc k) = omega (arith, pow-suc 10 k, one_le_pow k)

digits_by : (most k n : ℕ) → n < most → IsDigitCount 10 1 n k → last_digits 10 k n ≡ decimal_by most n
unfolding decimal_by
digits_by zero k n h f = absurd (omega arith)
digits_by (suc most) zero n h f = absurd (omega arith)
digits_by (suc most) (suc zero) n h f =
    let small : n < 10 = omega arith in
    let same : n % 10 ≡ n = omega arith in
    if_lt _ _ small (ap (λ (x : ℕ). x ∷ []) (glyph_below (n % 10) (omega arith) ∙ ap (λ (x : ℕ). 48 + x) same))
digits_by (suc most) (suc (suc k)) n h f =
    let one_less : (m : ℕ) → suc m - 1 ≡ m = λ m. omega arith in
    let large : 10 ^ suc k ≤ n = rw (one_less (suc k)) at (f.2 (omega arith)) in
    let ten : 10 ^ suc k ≡ 10 ^ k * 10 = pow-suc 10 k in
    let more : 10 ≤ n = omega (arith, one_le_pow k) in
    let fewer : IsDigitCount 10 1 (n / 10) (suc k) = (omega arith, omega (arith, rw (pow-suc 10 (suc k)) at f.1), λ g. rw (one_less k) (omega arith)) in
    else_lt _ _ more (ap₂ (λ (l : List ℕ) (x : ℕ). l ++ (x ∷ [])) (digits_by most (suc k) (n / 10) (omega arith) fewer) (glyph_below (n % 10) (omega arith)))

pub digits_decimal : (k n : ℕ) → IsDigitCount 10 1 n k → last_digits 10 k n ≡ decimal n
unfolding decimal
digits_decimal k n f = digits_by (suc n) k n (omega arith) f
