-- The loop over the bytes that two traces begin with, and what a reading says of the whole entries. Assumes nothing.
use Prim.Native.Nat.{ℕ, suc, ◌+◌, ◌≤◌, ◌<◌, min}
use mathlib.Core.Path.{◌≡◌, refl, sym, ap, ap₂, ◌∙◌}
use mathlib.Core.List.{List, [], ◌∷◌}
use native.Mathlib.Omega.{arith}
use lib.ListN.{length, take, drop, get_or, drop_of_length-le}
use lib.Seq.{drop-cons, length-take-le}
use native.Mathlib.Numerals.{add-one}
use Rattle.std.specs.Prelude.{◌⊎◌, leb}
use Rattle.std.proofs.Common.{inl, inr, leb-true, leb-false}
use Rattle.wire.proofs.laws.Cases.{if_eq, else_eq}
use Rattle.io.specs.Counts.{IsPrefixLen}
use Rattle.std.specs.Prelude.{Ok, Err, ◌==◌, Bool, true, false, cond, eqb}
use Rattle.entries.specs.Entries.{written, Scan, between, within, unknown, entries_of, reading_of, Reading}
use Rattle.entries.proofs.laws.ByTable.{scan_written, whole_length}
use Rattle.trace.specs.Trace.{trace_table, trace_scan}
use Rattle.parting.specs.Parting.{front}
use Rattle.parting.proofs.laws.Front.{front_none, begins_fits, front_first}
use Rattle.std.specs.List.{take_while, zip, prefix_len}
use native.Mathlib.Nat.{suc-add, zero-add}

counts : (n : ℕ) (l : List ℕ) → n ≤ length l → IsPrefixLen n l
counts n l h = (h, sym (length-take-le n l h))

-- ---- the bytes that both begin with

abbrev same_pair : ℕ × ℕ → Bool
same_pair p = p.0 == p.1

pub agreed : (t u : List ℕ) → length (take_while (λ p. p.0 == p.1) (zip t u)) ≡ length (front t u)
unfolding front
agreed [] u = refl
agreed (x ∷ t) [] = refl
agreed (x ∷ t) (y ∷ u) = go (eqb x y) (agreed t u)
  where
    go : (b : Bool) → length (take (prefix_len same_pair (zip t u)) (zip t u)) ≡ length (front t u)
        → length (take (cond b (1 + prefix_len same_pair (zip t u)) 0) ((x, y) ∷ zip t u)) ≡ length (cond b (x ∷ front t u) [])
    go true e = rw (suc-add 0 (prefix_len same_pair (zip t u)), zero-add) (ap suc e)
    go false e = refl

-- no more than the first one has
pub agreed_fits : (t u : List ℕ) {n : ℕ} → n ≡ length (take_while (λ p. p.0 == p.1) (zip t u)) → n ≡ length (take n t)
agreed_fits t u {n} e = sym (length-take-le n t (omega (arith, e, agreed t u, begins_fits (front_first t u))))

-- the first i bytes agree: what both begin with from there on is the rest of what both begin with
pub record Agreed (t u : List ℕ) (i : ℕ) : Type 0 where
  pub in_first : i ≤ length t
  pub rest : i + length (front (drop i t) (drop i u)) ≡ length (front t u)

pub agreed_none : (t u : List ℕ) → Agreed t u 0
agreed_none t u = record { in_first = omega arith; rest = omega arith }

front_end : (u : List ℕ) → front [] u ≡ []
unfolding front
front_end u = refl

front_differs : (x y : ℕ) (t u : List ℕ) → (x ≡ y → ⊥) → [] ≡ front (x ∷ t) (y ∷ u)
unfolding front
front_differs x y t u h = else_eq _ _ h refl

front_more : (x y : ℕ) (t u : List ℕ) → x ≡ y → x ∷ front t u ≡ front (x ∷ t) (y ∷ u)
unfolding front
front_more x y t u h = if_eq _ _ h refl

module _ {t u : List ℕ} {i : ℕ} (a : Agreed t u i) where
  stops : front (drop i t) (drop i u) ≡ [] → i ≡ length (take_while (λ p. p.0 == p.1) (zip t u))
  stops none = omega (arith, ap length none, a.rest, agreed t u)

  pub either_ends : (length t ≤ i) ⊎ (length u ≤ i) → i ≡ length (take_while (λ p. p.0 == p.1) (zip t u))
  either_ends (inl h) = stops (ap (λ (l : List ℕ). front l (drop i u)) (drop_of_length-le t h) ∙ front_end (drop i u))
  either_ends (inr h) = stops (ap (front (drop i t)) (drop_of_length-le u h) ∙ front_none (drop i t))

  module _ (more : i < length t) (more' : i < length u) where
    here : front (drop i t) (drop i u) ≡ front (get_or t i 0 ∷ drop (suc i) t) (get_or u i 0 ∷ drop (suc i) u)
    here = ap₂ front (drop-cons t i 0 more) (drop-cons u i 0 more')

    pub they_differ : (get_or t i 0 ≡ get_or u i 0 → ⊥) → i ≡ length (take_while (λ p. p.0 == p.1) (zip t u))
    they_differ h = stops (here ∙ sym (front_differs (get_or t i 0) (get_or u i 0) (drop (suc i) t) (drop (suc i) u) h))

    pub agreed_next : get_or t i 0 ≡ get_or u i 0 → Agreed t u (i + 1)
    agreed_next h =
        let on = ap length (here ∙ sym (front_more (get_or t i 0) (get_or u i 0) (drop (suc i) t) (drop (suc i) u) h)) in
        record {
          in_first = omega arith;
          rest = ap (λ (n : ℕ). n + length (front (drop n t) (drop n u))) (add-one i) ∙ omega (arith, on, a.rest);
        }

-- n is the shorter one's length, to which all agree
pub all_agree : {t u : List ℕ} {i n : ℕ} → Agreed t u i → n ≡ min (length t) (length u) → n ≤ i → i ≤ n → n ≡ length (take_while (λ p. p.0 == p.1) (zip t u))
all_agree {t} {u} {i} {n} a e f g = go (leb (length t) (length u)) refl
  where
    go : (b : Bool) → leb (length t) (length u) ≡ b → n ≡ length (take_while (λ p. p.0 == p.1) (zip t u))
    go true h = let end : length t ≤ i = omega (arith, leb-true _ _ h, e) in omega (arith, either_ends a (inl end))
    go false h = let end : length u ≤ i = omega (arith, leb-false _ _ h, e) in omega (arith, either_ends a (inr end))

-- ---- the whole entries of a trace, by its reading

abbrev whole_by : ℕ → Reading → ℕ
whole_by n (Ok whole) = n
whole_by n (Err broken) = broken.place

whole_by_lem : (j : List ℕ) (s : Scan) → trace_scan j ≡ s → whole_by (length j) (reading_of s) ≡ length (written (entries_of s))
unfolding reading_of entries_of
whole_by_lem j (between es) e = ap length (scan_written trace_table j es e)
whole_by_lem j (within es k b n) e = refl
whole_by_lem j (unknown es) e = refl

-- r is what `read` found, c the variant that it is
pub whole_as : (j : List ℕ) {r c : Reading} → r ≡ c → r ≡ reading_of (trace_scan j)
    → (whole_by (length j) c ≡ length (written (entries_of (trace_scan j)))) × IsPrefixLen (whole_by (length j) c) j
whole_as j is e =
    let same = ap (whole_by (length j)) (sym is ∙ e) ∙ whole_by_lem j (trace_scan j) refl in
    (same, counts _ j (omega (arith, whole_length trace_table j)))
