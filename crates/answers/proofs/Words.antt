-- What the words for reasons say. Assumes nothing.
use Prim.Native.Nat.{ℕ, zero, suc, ◌<◌}
use mathlib.Core.Path.{◌≡◌, refl, ap}
use native.Mathlib.Omega.{arith}
use Rattle.wire.proofs.laws.Cases.{else_eq}
use Rattle.text.specs.Text.{ascii}
use Rattle.words.specs.Words.{begun_by, words_in, word_at}
use Rattle.places.specs.Reasons.{named, words_among, words_for}

pub reason_words : (n : ℕ) → word_at (ascii "|bad version|bad count|out of range|repeated|clash|not pending|") n ≡ ascii (words_for n)
unfolding word_at words_in begun_by words_for words_among named
reason_words zero = refl
reason_words (suc zero) = refl
reason_words (suc (suc zero)) = refl
reason_words (suc (suc (suc zero))) = refl
reason_words (suc (suc (suc (suc zero)))) = refl
reason_words (suc (suc (suc (suc (suc zero))))) = refl
reason_words (suc (suc (suc (suc (suc (suc zero)))))) = refl
reason_words (suc (suc (suc (suc (suc (suc (suc n))))))) =
    let none : (k : ℕ) → k < 7 → k ≡ suc (suc (suc (suc (suc (suc (suc n)))))) → ⊥ = λ k h e. omega (arith, h, e) in
    ap ascii
    (else_eq _ _ (none 1 (omega arith))
    (else_eq _ _ (none 2 (omega arith))
    (else_eq _ _ (none 3 (omega arith)) (else_eq _ _ (none 4 (omega arith)) (else_eq _ _ (none 5 (omega arith)) (else_eq _ _ (none 6 (omega arith)) refl))))))
