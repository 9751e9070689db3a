-- Set after set, as the loops read them: what the sets that are left make of the table so far is what all of them make of the empty one.
-- Assumes nothing.
use Rattle.std.specs.Prelude.{ℕ, zero, suc, ◌*◌, ◌<◌, ◌≡◌, Option, Some, None, List, ◌++◌, length, take, drop}
use Rattle.std.proofs.Common.{sym, ap, ◌∙◌, arith, length-append, take_at, drop_at}
use Rattle.sets.specs.Sets.{read_of}
use Rattle.sets.proofs.laws.Sets.{none_read, more_read, none_stays}

module _ {A : Type 0} (one : A → List ℕ → Option A) (w : ℕ) (some : 0 < w) (empty : A) where
  -- `rest` is left of `part`, and t is what was read so far
  pub record Left (part rest : List ℕ) (size : ℕ) (t : A) : Type 0 where
    pub sized : size ≡ w
    pub left : (n : ℕ) → length part ≡ n * w → (m : ℕ) × (length rest ≡ m * w) × (read_of one w m (Some t) rest ≡ read_of one w n (Some empty) part)

  abbrev Rest : List ℕ → List ℕ → A → ℕ → Type 0
  Rest part rest t n = (m : ℕ) × (length rest ≡ m * w) × (read_of one w m (Some t) rest ≡ read_of one w n (Some empty) part)

  module _ {part rest : List ℕ} {size : ℕ} {t : A} (l : Left part rest size t) where
    module _ (s rest' : List ℕ) (split : rest ≡ s ++ rest') (long : length s ≡ size) where
      whole : length s ≡ w
      whole = long ∙ l.sized

      -- the next set, and what is left after it
      next : (m : ℕ) → read_of one w (suc m) (Some t) rest ≡ read_of one w m (one t s) rest'
      next m =
          more_read one w m (Some t) rest
          ∙ ap (λ (x : List ℕ). read_of one w m (one t (take w x)) (drop w x)) split
          ∙ (λ i. read_of one w m (one t (take_at s rest' w whole i)) (drop_at s rest' w whole i))

      fewer : (m : ℕ) → length rest ≡ suc m * w → length rest' ≡ m * w
      fewer m h = omega (arith, h, whole, ap length split ∙ length-append s rest')

      none_there : length rest ≡ 0 * w → ⊥
      none_there h = omega (arith, h, whole, some, ap length split ∙ length-append s rest')

      -- a set is read
      pub left_more : (u : A) (size' : ℕ) → one t s ≡ Some u → size' ≡ size → Left part rest' size' u
      left_more u size' e k = record { sized = k ∙ l.sized; left = λ n h. go n (l.left n h) }
        where
          go : (n : ℕ) → Rest part rest t n → Rest part rest' u n
          go n (zero, p, q) = absurd (none_there p)
          go n (suc m, p, q) = (m, fewer m p, sym (next m ∙ ap (λ (v : Option A). read_of one w m v rest') e) ∙ q)

      -- a set is refused
      pub left_refused : one t s ≡ None → (n : ℕ) → length part ≡ n * w → None ≡ read_of one w n (Some empty) part
      left_refused e n h = go (l.left n h)
        where
          go : Rest part rest t n → None ≡ read_of one w n (Some empty) part
          go (zero, p, q) = absurd (none_there p)
          go (suc m, p, q) = sym (next m ∙ ap (λ (v : Option A). read_of one w m v rest') e ∙ none_stays one w m rest') ∙ q

    -- none is left
    pub left_none : length rest < size → (n : ℕ) → length part ≡ n * w → Some t ≡ read_of one w n (Some empty) part
    left_none k n h = go (l.left n h)
      where
        go : Rest part rest t n → Some t ≡ read_of one w n (Some empty) part
        go (zero, p, q) = sym (none_read one w (Some t) rest) ∙ q
        go (suc m, p, q) = absurd (omega (arith, p, k, l.sized))
