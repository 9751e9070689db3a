-- Entries one at a time, by any table: at a place, what stands at the front of the bytes from there on leads to the next place, or says how all
-- of them read. Assumes nothing.
use Prim.Native.Nat.{ℕ, zero, suc, ◌+◌, ◌-◌, ◌≤◌, ◌<◌}
use Rattle.std.specs.Prelude.{◌≡◌, refl, eqb, ltb, take, drop, get_or, None, Some, Result, Ok, Err}
use Rattle.std.proofs.Common.{sym, ◌∙◌, arith, drop-cons}
use Rattle.std.proofs.Math.Path.{ap, subst}
use mathlib.Core.List.{List, ◌∷◌}
use borrow.Author.Tests.{eqb-true, eqb-false, ltb-true, ltb-false}
use Rattle.std.proofs.Math.ListN.{length, length-drop}
use Rattle.std.proofs.lemmas.Bool.Decides.{nat_tests}
use Rattle.wire.proofs.laws.Cases.{cond_cases}
use Rattle.entries.specs.declared.Fault.{Fault}
use Rattle.entries.specs.declared.Fault.TheVariants.{UnknownKind, Cut}
use Rattle.entries.specs.Entries.{Entry, Table, written, between, scan_by, entries_of, reading_of, Next, next_for, some_next, next_by, entry_of}
use Rattle.entries.specs.Places.{Placed}
use Rattle.entries.proofs.laws.Placed.{entry_at, place_written, scan_end, scan_unknown, scan_cut, next_place}

-- after the entries es, which end at `at`: one more, or all is read
abbrev pub Leads : Table → List ℕ → ℕ → List Entry → Next → Type 0
Leads t j at es (Ok (Some n)) = Placed t j (at + n) (entry_of (take n (drop at j)) ∷ es)
Leads t j at es (Ok None) = scan_by t j ≡ between es
Leads t j at es (Err fault) = (entries_of (scan_by t j) ≡ es) × (reading_of (scan_by t j) ≡ Err (record { place = at; fault = fault }))

-- where it breaks, by the number of bytes before it
broken_at : {t : Table} {j : List ℕ} {at : ℕ} {es : List Entry} (fault : Fault) → Placed t j at es
    → reading_of (scan_by t j) ≡ Err (record { place = length (written es); fault = fault })
    → reading_of (scan_by t j) ≡ Err (record { place = at; fault = fault })
broken_at fault p e = e ∙ ap (λ (n : ℕ). Err (record { place = n; fault = fault })) (sym (place_written p))

one_at_least : (n : ℕ) → (n ≡ 0 → ⊥) → 1 ≤ n
one_at_least n h = omega arith

entry_here : (j : List ℕ) (at n : ℕ) → at < length j → entry_at j at n ≡ entry_of (take (suc n) (drop at j))
entry_here j at n more = ap (λ (l : List ℕ). entry_of (take (suc n) l)) (sym (drop-cons j at 0 more))

-- a whole entry has a byte at least, its kind
pub next_low : (m have : ℕ) {n : ℕ} → Ok n ≡ next_for m have → 1 ≤ n
unfolding next_for
next_low m have e = grind (arith, nat_tests)

module _ {t : Table} {j : List ℕ} {at : ℕ} {es : List Entry} (p : Placed t j at es) where
  at_kind : at < length j → (n : ℕ) → n ≡ t (get_or j at 0) → Leads t j at es (some_next (next_for n (length (drop at j))))
  unfolding next_for some_next entries_of reading_of
  at_kind more zero size =
      let e = scan_unknown p more size in
      (ap entries_of e, broken_at UnknownKind p (ap reading_of e))
  at_kind more (suc n) size =
      cond_cases (λ (r : Result ℕ Fault). Leads t j at es (some_next r)) (eqb (suc n) 0) (λ z. absurd (omega (arith, eqb-true (suc n) 0 z)))
      (λ z.
      cond_cases (λ (r : Result ℕ Fault). Leads t j at es (some_next r)) (ltb (length (drop at j)) (suc n))
      (λ h.
      let e = scan_cut p more size (omega (arith, ltb-true (length (drop at j)) (suc n) h, length-drop at j)) in
      (ap entries_of e, broken_at Cut p (ap reading_of e)))
      (λ h.
      subst (λ (e : Entry). Placed t j (at + suc n) (e ∷ es)) (entry_here j at n more)
      (next_place p more size (omega (arith, ltb-false (length (drop at j)) (suc n) h, length-drop at j)) refl)))

  -- by the length that its kind has, and how much is left
  pub leads_at : at < length j → {n : ℕ} {x : Result ℕ Fault} → n ≡ t (get_or j at 0) → x ≡ next_for n (length j - at) → Leads t j at es (some_next x)
  leads_at more {n} size e =
      subst (λ (r : Result ℕ Fault). Leads t j at es (some_next r)) (ap (next_for n) (length-drop at j) ∙ sym e) (at_kind more n size)

  pub leads_on : {x : Next} → x ≡ next_by t (drop at j) → Leads t j at es x
  unfolding next_by
  leads_on e =
      subst (Leads t j at es) (sym e)
      (cond_cases (Leads t j at es) (eqb (length (drop at j)) 0)
      (λ h. scan_end p (omega (arith, eqb-true (length (drop at j)) 0 h, length-drop at j)))
      (λ h.
      let none = eqb-false (length (drop at j)) 0 h in
      let more : at < length j = omega (arith, length-drop at j) in
      at_kind more (t (get_or (drop at j) 0 0)) (ap (λ (l : List ℕ). t (get_or l 0 0)) (drop-cons j at 0 more))))

-- ---- a whole entry is as long as its kind says, and is all there

abbrev pub Fits : Table → List ℕ → Next → Type 0
Fits t b (Ok (Some n)) = (n ≡ t (get_or b 0 0)) × (1 ≤ n) × (n ≤ length b)
Fits t b (Ok None) = Unit {0}
Fits t b (Err fault) = Unit {0}

pub next_fits : (t : Table) (b : List ℕ) {x : Next} → x ≡ next_by t b → Fits t b x
unfolding next_by next_for some_next
next_fits t b e =
    subst (Fits t b) (sym e)
    (cond_cases (Fits t b) (eqb (length b) 0) (λ z. tt)
    (λ some.
    cond_cases (λ (r : Result ℕ Fault). Fits t b (some_next r)) (eqb (t (get_or b 0 0)) 0) (λ z. tt)
    (λ known.
    cond_cases (λ (r : Result ℕ Fault). Fits t b (some_next r)) (ltb (length b) (t (get_or b 0 0))) (λ z. tt)
    (λ uncut. (refl, one_at_least (t (get_or b 0 0)) (eqb-false _ 0 known), ltb-false _ _ uncut)))))
