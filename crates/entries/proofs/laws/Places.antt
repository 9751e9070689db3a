-- The places that a loop over the journal's entries goes through: the laws for any table, by the length of a kind's body. Assumes nothing.
use Rattle.std.specs.Prelude.{ℕ, zero, suc, ◌+◌, ◌-◌, ◌≤◌, ◌<◌, ◌≡◌, refl, length, take, drop, get_or}
use Rattle.std.proofs.Common.{sym, ◌∙◌, arith, take-append-drop}
use Rattle.std.proofs.Math.Path.{ap}
use mathlib.Core.List.{List, [], ◌∷◌, ◌++◌}
use Rattle.entries.specs.Entries.{Entry, Scan, body_len, with_kind, journal_table, written, between, within, unknown, opened, eat, scan_from, scan_by, scan, entries_of}
use Rattle.entries.specs.Places.{Place}
use Rattle.entries.proofs.laws.Entries.{no_kind, known_kind, scan_append}
use Rattle.entries.proofs.laws.Placed as placed
pub use Rattle.entries.proofs.laws.Placed.{entry_at, length_body}

pub first_place : (j : List ℕ) → Place j 0 []
first_place = placed.first_place journal_table

body_fits : (n m : ℕ) → (1 ≤ with_kind n) × (with_kind n ≤ m) → (1 ≤ n) × (n < m)
unfolding with_kind
body_fits zero m h = absurd (omega (arith, h.0))
body_fits (suc n) m h = (omega arith, h.1)

module _ {j : List ℕ} {at : ℕ} {es : List Entry} (p : Place j at es) where
  pub place_written : at ≡ length (written es)
  place_written = placed.place_written p

  pub scan_end : length j ≤ at → scan j ≡ between es
  scan_end = placed.scan_end p

  -- what stands at a place: a kind, whose body has n bytes
  module _ {n : ℕ} (size : n ≡ body_len (get_or j at 0)) (more : at < length j) where
    pub scan_unknown : n ≡ 0 → scan j ≡ unknown es
    scan_unknown z = placed.scan_unknown p more (no_kind n (get_or j at 0) size z)

    pub scan_cut : (n ≡ 0 → ⊥) → length j - at ≤ n → scan j ≡ within es (get_or j at 0) (drop (suc at) j) (n - 1 - length (drop (suc at) j))
    scan_cut z = placed.scan_cut p more (known_kind n (get_or j at 0) size z)

    -- where the whole reads as entries, the kind is known and its body is there
    pub whole_fits : {all : List Entry} → scan j ≡ between all → (1 ≤ n) × (n < length j - at)
    unfolding journal_table
    whole_fits w = body_fits n (length j - at) (placed.whole_fits p more (ap with_kind size) w)

    pub next_place : (n ≡ 0 → ⊥) → n < length j - at → Place j (at + (n + 1)) (entry_at j at n ∷ es)
    next_place z h = placed.next_place p more (known_kind n (get_or j at 0) size z) h (omega arith)

-- ---- the entries before a place are the oldest

-- a reading, after entries es
unfoldable shifted : List Entry → Scan → Scan
shifted es (between ns) = between (ns ++ es)
shifted es (within ns k b n) = within (ns ++ es) k b n
shifted es (unknown ns) = unknown (ns ++ es)

shifted_opened : (es ns : List Entry) (k n : ℕ) → opened (ns ++ es) k n ≡ shifted es (opened ns k n)
unfolding opened shifted
shifted_opened es ns k zero = refl
shifted_opened es ns k (suc zero) = refl
shifted_opened es ns k (suc (suc n)) = refl

shifted_eat : (es : List Entry) (s : Scan) (x : ℕ) → eat journal_table (shifted es s) x ≡ shifted es (eat journal_table s x)
unfolding eat shifted
shifted_eat es (between ns) x = shifted_opened es ns x (journal_table x)
shifted_eat es (within ns k b zero) x = refl
shifted_eat es (within ns k b (suc n)) x = refl
shifted_eat es (unknown ns) x = refl

shifted_from : (es : List Entry) (s : Scan) (xs : List ℕ) → scan_from journal_table (shifted es s) xs ≡ shifted es (scan_from journal_table s xs)
unfolding scan_from shifted
shifted_from es s [] = refl
shifted_from es s (x ∷ xs) =
    ap (λ (u : Scan). scan_from journal_table u xs) (shifted_eat es s x) ∙ shifted_from es (eat journal_table s x) xs

entries_shifted : (es : List Entry) (s : Scan) → entries_of (shifted es s) ≡ entries_of s ++ es
unfolding entries_of shifted
entries_shifted es (between ns) = refl
entries_shifted es (within ns k b n) = refl
entries_shifted es (unknown ns) = refl

module _ {j : List ℕ} {at : ℕ} {es : List Entry} (p : Place j at es) where
  pub place_entries : entries_of (scan j) ≡ entries_of (scan (drop at j)) ++ es
  unfolding scan_by shifted
  place_entries =
      ap (λ (l : List ℕ). entries_of (scan l)) (sym (take-append-drop at j))
      ∙ ap entries_of (scan_append (take at j) (drop at j))
      ∙ ap (λ (s : Scan). entries_of (scan_from journal_table s (drop at j))) p.reads
      ∙ ap entries_of (shifted_from es (between []) (drop at j))
      ∙ entries_shifted es (scan (drop at j))
