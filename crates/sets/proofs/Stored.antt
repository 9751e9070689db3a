-- The bit of a pair or FRU, as the code shifts it. Assumes nothing.
use Prim.Native.Nat.{ℕ, ◌+◌, ◌*◌, ◌%◌, ◌/◌, ◌^◌, ◌<◌}
use mathlib.Core.Path.{◌≡◌, sym, ap, subst, ◌∙◌}
use native.Mathlib.Nat.{one-mul, mod-eq_of_lt}
use lib.Pow.{pow-lt}
use Rattle.sets.proofs.laws.Sets.{bit_free}

pub shifted : (p : ℕ) → p < 16 → 1 * 2 ^ p % 65536 ≡ 2 ^ p
shifted p h = ap (λ (n : ℕ). n % 65536) (one-mul (2 ^ p)) ∙ mod-eq_of_lt (pow-lt h)

-- a free one fits
pub bit_fits : (x p : ℕ) → p < 16 → x < 2 ^ 16 → x / 2 ^ p % 2 ≡ 0 → x + 1 * 2 ^ p % 65536 < 2 ^ 16
bit_fits x p h k e = subst (λ (n : ℕ). x + n < 2 ^ 16) (sym (shifted p h)) (bit_free 16 p x k h e)
