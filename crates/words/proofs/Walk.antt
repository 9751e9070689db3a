-- Words in one text, one after the other. Assumes nothing.
use Prim.Native.Nat.{ℕ, zero, suc, ◌+◌, ◌-◌, ◌<◌, ◌≤◌}
use mathlib.Core.Bool.{Bool, true, false, cond, not}
use mathlib.Core.Path.{◌≡◌, refl, sym, ap, ap₂, ◌∙◌}
use mathlib.Core.List.{List, [], ◌∷◌}
use native.Mathlib.Numerals.{add-one}
use native.Mathlib.Omega.{arith}
use lib.Dec.{eqb}
use lib.ListN.{length, take, drop, get_or, length-drop, drop_of_length-le}
use lib.Seq.{drop-drop}
use Rattle.wire.proofs.laws.Wire.{tail_part}
use Rattle.std.specs.List.{prefix_len}
use Rattle.text.specs.Text.{Sheet, put_all, other}
use Rattle.text.proofs.laws.Pieces.{pieces}
use Rattle.words.specs.Words.{begun_by, words_in}

-- ---- the first word, and those after its bar

later : (n : ℕ) (w : List ℕ) (ws : List (List ℕ)) → (n ≡ 0 → ⊥) → get_or ws (n - 1) [] ≡ get_or (w ∷ ws) n []
later zero w ws h = absurd (h refl)
later (suc n) w ws h = let one_less : suc n - 1 ≡ n = omega arith in ap (λ (m : ℕ). get_or ws m []) one_less

abbrev bar_at : List ℕ → ℕ
bar_at s = prefix_len (other 124) s

-- t says whether x is the bar
by_bar : (t : Bool) (x : ℕ) (xs : List ℕ) → (0 < length xs → words_in xs ≡ take (bar_at xs) xs ∷ words_in (drop (suc (bar_at xs)) xs))
    → cond t ([] ∷ words_in xs) (begun_by x (words_in xs))
    ≡ take (cond (not t) (suc (bar_at xs)) 0) (x ∷ xs) ∷ words_in (drop (suc (cond (not t) (suc (bar_at xs)) 0)) (x ∷ xs))
unfolding words_in begun_by
by_bar true x xs h = refl
by_bar false x [] h = refl
by_bar false x (y ∷ ys) h = ap (begun_by x) (h (omega arith))

one_more : (n : ℕ) → 1 + n ≡ suc n
one_more n = omega arith

first_word : (s : List ℕ) → 0 < length s → words_in s ≡ take (bar_at s) s ∷ words_in (drop (suc (bar_at s)) s)
unfolding words_in
first_word [] h = absurd (omega arith)
first_word (x ∷ xs) h = rw (one_more (bar_at xs)) (by_bar (eqb x 124) x xs (first_word xs))

-- the bytes from a place on, as the code lends them
abbrev from : List ℕ → ℕ → List ℕ
from s i = take (length s - i) (drop i s)

module _ (s : List ℕ) (i : ℕ) {len : ℕ} (more : i < length s) (bar : len ≡ bar_at (from s i)) where
  one_word : words_in (drop i s) ≡ take len (from s i) ∷ words_in (drop (i + (len + 1)) s)
  one_word =
      let rest : from s i ≡ drop i s = tail_part s i in
      let at : len ≡ bar_at (drop i s) = bar ∙ ap bar_at rest in
      let past : drop (suc len) (drop i s) ≡ drop (i + (len + 1)) s = drop-drop (suc len) i s ∙ ap (λ (n : ℕ). drop (i + n) s) (sym (add-one len)) in
      first_word (drop i s) (omega (arith, length-drop i s))
      ∙ ap (λ (n : ℕ). take n (drop i s) ∷ words_in (drop (suc n) (drop i s))) (sym at)
      ∙ ap₂ (λ (l m : List ℕ). take len l ∷ words_in m) (sym rest) past

  pub words_more : (p : Sheet) {q : Sheet} → q ≡ put_all p (take len (from s i) ∷ []) → put_all q (words_in (drop (i + (len + 1)) s)) ≡ put_all p (words_in (drop i s))
  words_more p e = pieces p (take len (from s i) ∷ []) _ e refl ∙ ap (put_all p) (sym one_word)

  pub word_here : {left : ℕ} {w : List ℕ} → left ≡ 0 → get_or (words_in (drop i s)) left [] ≡ w → take len (from s i) ≡ w
  word_here none e = sym (ap₂ (λ (ws : List (List ℕ)) (n : ℕ). get_or ws n []) one_word none) ∙ e

  pub word_later : {left : ℕ} {w : List ℕ} → (left ≡ 0 → ⊥) → get_or (words_in (drop i s)) left [] ≡ w → get_or (words_in (drop (i + (len + 1)) s)) (left - 1) [] ≡ w
  word_later {left} some e = later left (take len (from s i)) (words_in (drop (i + (len + 1)) s)) some ∙ sym (ap (λ (ws : List (List ℕ)). get_or ws left []) one_word) ∙ e

module _ (s : List ℕ) (i : ℕ) (done : length s ≤ i) where
  no_words : words_in (drop i s) ≡ []
  unfolding words_in
  no_words = ap words_in (drop_of_length-le s done)

  pub words_end : (p : Sheet) → p ≡ put_all p (words_in (drop i s))
  unfolding put_all
  words_end p = ap (put_all p) (sym no_words)

  pub word_none : (left : ℕ) {w : List ℕ} → get_or (words_in (drop i s)) left [] ≡ w → [] ≡ w
  word_none left e = sym (ap (λ (ws : List (List ℕ)). get_or ws left []) no_words) ∙ e
