-- The places that a loop over entries goes through, by any table: each stands between two entries. Assumes nothing.
use Rattle.std.specs.Prelude.{ℕ, zero, suc, ◌+◌, ◌-◌, ◌≤◌, ◌<◌, ◌≡◌, refl, List, [], ◌∷◌, ◌++◌, length, take, drop, get_or}
use Rattle.std.proofs.Common.{sym, ◌∙◌, append-nil, append_assoc, not-suc-le-zero, le_of_suc-le-suc, arith, length-drop, take-append-drop, take_all, length-take-le}
use Rattle.std.proofs.Math.Path.{ap}
use Rattle.std.proofs.Math.Nat.{sub-zero, suc-sub-suc}
use Rattle.std.proofs.Math.Seq.{take-add, drop-cons}
use Rattle.entries.specs.Entries.{Entry, Table, bytes_of, written, Scan, between, within, unknown, opened, eat, scan_from, scan_by}
use Rattle.entries.specs.Places.{Placed}
use Rattle.entries.proofs.laws.ByTable.{scan_append, read_append, scan_written}

-- the entry at a place, with n bytes of body
abbrev pub entry_at : List ℕ → ℕ → ℕ → Entry
entry_at j at n = record { kind = get_or j at 0; body = take n (drop (suc at) j) }

pub length_body : (j : List ℕ) (at n : ℕ) → n < length j - at → length (entry_at j at n).body ≡ n
length_body j at n h = length-take-le n (drop (suc at) j) (simp length-drop (omega arith))

never_unknown : (s : Scan) (es es' : List Entry) → s ≡ between es → s ≡ unknown es' → ⊥
never_unknown s es es' p q = let z : ◌≡◌ {A = ℕ} 0 1 = cc in omega arith

never_within : (s : Scan) (es es' : List Entry) (k : ℕ) (b : List ℕ) (n : ℕ) → s ≡ between es → s ≡ within es' k b n → ⊥
never_within s es es' k b n p q = let z : ◌≡◌ {A = ℕ} 0 1 = cc in omega arith

eat_unknown : (t : Table) (es : List Entry) (xs : List ℕ) → scan_from t (unknown es) xs ≡ unknown es
unfolding scan_from eat
eat_unknown t es [] = refl
eat_unknown t es (x ∷ xs) = eat_unknown t es xs

eat_cut : (t : Table) (es : List Entry) (k n : ℕ) (b xs : List ℕ) → length xs ≤ n → scan_from t (within es k b n) xs ≡ within es k (b ++ xs) (n - length xs)
unfolding scan_from eat
eat_cut t es k n b [] h = rw (append-nil, sub-zero)
eat_cut t es k zero b (x ∷ xs) h = absurd (not-suc-le-zero h)
eat_cut t es k (suc n) b (x ∷ xs) h =
    eat_cut t es k n (b ++ (x ∷ [])) xs (le_of_suc-le-suc h) ∙ rw (append_assoc b (x ∷ []) xs, suc-sub-suc n (length xs))

-- n bytes of body, of which some are missing
eat_opened : (t : Table) (es : List Entry) (k n : ℕ) (xs : List ℕ) → length xs < n → scan_from t (opened es k (suc n)) xs ≡ within es k xs (n - 1 - length xs)
unfolding opened
eat_opened t es k zero xs h = absurd (not-suc-le-zero h)
eat_opened t es k (suc n) xs h = eat_cut t es k n [] xs (le_of_suc-le-suc h) ∙ rw (suc-sub-suc n 0, sub-zero)

pub first_place : (t : Table) (j : List ℕ) → Placed t j 0 []
unfolding scan_by scan_from
first_place t j = record { fits = omega arith; reads = refl }

module _ {t : Table} {j : List ℕ} {at : ℕ} {es : List Entry} (p : Placed t j at es) where
  pub place_written : at ≡ length (written es)
  place_written = sym (length-take-le at j p.fits) ∙ ap length (scan_written t (take at j) es p.reads)

  pub scan_end : length j ≤ at → scan_by t j ≡ between es
  scan_end h = ap (scan_by t) (sym (take_all at j h)) ∙ p.reads

  -- what stands at a place: a kind
  module _ (more : at < length j) where
    scan_opened : {n : ℕ} → n ≡ t (get_or j at 0) → scan_by t j ≡ scan_from t (opened es (get_or j at 0) n) (drop (suc at) j)
    unfolding scan_from eat
    scan_opened size =
        ap (scan_by t) (sym (take-append-drop at j))
        ∙ scan_append t (take at j) (drop at j)
        ∙ ap (λ (s : Scan). scan_from t s (drop at j)) p.reads
        ∙ ap (scan_from t (between es)) (drop-cons j at 0 more)
        ∙ ap (λ (m : ℕ). scan_from t (opened es (get_or j at 0) m) (drop (suc at) j)) (sym size)

    pub scan_unknown : 0 ≡ t (get_or j at 0) → scan_by t j ≡ unknown es
    unfolding opened
    scan_unknown none = scan_opened none ∙ eat_unknown t es (drop (suc at) j)

    -- one whose entries have n bytes of body
    module _ {n : ℕ} (size : suc n ≡ t (get_or j at 0)) where
      pub scan_cut : length j - at ≤ n → scan_by t j ≡ within es (get_or j at 0) (drop (suc at) j) (n - 1 - length (drop (suc at) j))
      scan_cut h = scan_opened size ∙ eat_opened t es (get_or j at 0) n (drop (suc at) j) (simp length-drop (omega arith))

      next_bytes : {past : ℕ} → past ≡ at + suc n → take past j ≡ take at j ++ bytes_of (entry_at j at n)
      unfolding bytes_of
      next_bytes e = rw (e, take-add at (suc n) j, drop-cons j at 0 more)

      pub next_place : {past : ℕ} → n < length j - at → past ≡ at + suc n → Placed t j past (entry_at j at n ∷ es)
      next_place h e = record {
        fits = omega arith;
        reads = ap (scan_by t) (next_bytes e) ∙ read_append t (take at j) es (entry_at j at n) p.reads (sym size ∙ ap suc (sym (length_body j at n h)));
      }

    -- where the whole reads as entries, the kind is known and its entry is there
    pub whole_fits : {n : ℕ} {all : List Entry} → n ≡ t (get_or j at 0) → scan_by t j ≡ between all → (1 ≤ n) × (n ≤ length j - at)
    whole_fits {n = zero} {all = all} size w = absurd (never_unknown (scan_by t j) all es w (scan_unknown size))
    whole_fits {n = suc n} {all = all} size w =
        let uncut : length j - at ≤ n → ⊥ = λ h. never_within (scan_by t j) all es _ _ _ w (scan_cut size h) in
        (omega arith, omega arith)
