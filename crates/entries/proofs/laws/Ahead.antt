-- The entry at the front of bytes, and those that are left behind it. Assumes nothing.
use Rattle.std.specs.Prelude.{ℕ, ◌+◌, ◌≤◌, ◌<◌, ◌≡◌, ◌⊎◌, List, [], ◌∷◌, ◌++◌, length, take, drop}
use Rattle.std.proofs.Common.{sym, append-nil, append_assoc, subst, ◌∙◌, zero-add, add-one, arith, length-append, inl, inr}
use Rattle.std.proofs.lemmas.List.{nil_from_length}
use Rattle.std.proofs.Math.Path.{ap}
use Rattle.entries.specs.Entries.{Entry, scan, scan_by, scan_from, entries_of, body_len}
use Rattle.entries.proofs.laws.Places.{first_place, scan_unknown, scan_cut, next_place, place_entries}

pub left_none : (j : List ℕ) → length j ≡ 0 → entries_of (scan j) ≡ []
unfolding entries_of scan_by scan_from
left_none j h = rw (nil_from_length j h)

-- bytes that begin with a kind, whose body has n bytes
module _ {j : List ℕ} {k : ℕ} {after : List ℕ} (begins : j ≡ k ∷ after) {n : ℕ} (size : n ≡ body_len k) where
  pub left_stopped : (n ≡ 0) ⊎ ((n ≡ 0 → ⊥) × (length after < n)) → entries_of (scan j) ≡ []
  unfolding entries_of
  left_stopped (inl none) = rw begins (ap entries_of (scan_unknown (first_place (k ∷ after)) size (omega arith) none))
  left_stopped (inr cut) = rw begins (ap entries_of (scan_cut (first_place (k ∷ after)) size (omega arith) cut.0 (omega (arith, cut.1))))

  module _ (known : n ≡ 0 → ⊥) (fits : n ≤ length after) {body rest : List ℕ} (front : body ≡ take n after) (back : rest ≡ drop n after) where
    pub left_first : entries_of (scan j) ≡ entries_of (scan rest) ++ (record { kind = k; body = body } ∷ [])
    left_first =
        rw (begins, front, back)
        (rw (zero-add, add-one) at (place_entries (next_place (first_place (k ∷ after)) size (omega arith) known (omega arith))))

    pub left_fewer : length (entries_of (scan j)) ≡ length (entries_of (scan rest)) + 1
    left_fewer = ap length left_first ∙ length-append _ _

-- ---- a walk by the iterator: what it gave so far are the oldest entries, and P holds of them; these are left

pub record Walked (j : List ℕ) (P : List Entry → Type 0) (left : List Entry) : Type 0 where
  pub given : List Entry
  pub all : entries_of (scan j) ≡ left ++ given
  pub holds : P given

pub walked_none : {i j : List ℕ} (P : List Entry → Type 0) → i ≡ j → P [] → Walked j P (entries_of (scan i))
walked_none P e h = record { given = []; all = rw append-nil (ap (λ (l : List ℕ). entries_of (scan l)) (sym e)); holds = h }

module _ {j : List ℕ} {P : List Entry → Type 0} {left : List Entry} (w : Walked j P left) where
  pub walked_all : left ≡ [] → P (entries_of (scan j))
  walked_all none = subst P (sym (w.all ∙ ap (λ (es : List Entry). es ++ w.given) none)) w.holds

  module _ (e : Entry) (next : List Entry) (step : left ≡ next ++ (e ∷ [])) where
    -- an entry that is given stands before those given so far
    pub walked_here : entries_of (scan j) ≡ next ++ (e ∷ w.given)
    walked_here = w.all ∙ ap (λ (es : List Entry). es ++ w.given) step ∙ append_assoc next (e ∷ []) w.given

    pub walked_next : {Q : List Entry → Type 0} → Q (e ∷ w.given) → Walked j Q next
    walked_next h = record { given = e ∷ w.given; all = walked_here; holds = h }
