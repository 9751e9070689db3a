-- What each turn of a loop that reads by a table keeps, and what it finds where it stops; and the journal's kinds. Assumes nothing.
use Prim.Native.Nat.{ℕ, suc, ◌+◌, ◌-◌, ◌≤◌, ◌<◌}
use mathlib.Core.Path.{◌≡◌, refl, sym, ap, ◌∙◌}
use mathlib.Core.List.{List, [], ◌∷◌}
use native.Mathlib.Numerals.{add-one}
use native.Mathlib.Omega.{arith}
use lib.ListN.{length, get_or}
use Rattle.std.specs.Prelude.{Result, Ok, Err}
use Rattle.entries.specs.declared.Fault.{Fault}
use Rattle.entries.specs.declared.Fault.TheVariants.{UnknownKind, Cut}
use Rattle.entries.specs.Entries.{Entry, Table, body_len, journal_table, scan_by, newest_at, reading_of, next_for, some_next}
use Rattle.entries.proofs.laws.ByTable.{count_written, newest_written}
use Rattle.entries.proofs.laws.Entries.{known_kind}
use Rattle.entries.proofs.laws.Placed.{first_place, place_written, scan_end, scan_unknown, scan_cut, entry_at, next_place}
use Rattle.entries.proofs.laws.Next.{Leads, leads_at}
use Rattle.entries.specs.Places.{Placed}

-- ---- the journal's kinds

pub kind_zero : (k : ℕ) → k ≡ 0 → 0 ≡ body_len k
unfolding body_len
kind_zero k e = sym (ap body_len e)

-- a known kind, by its body's length
pub whole_kind : (n k : ℕ) → n ≡ body_len k → (n ≡ 0 → ⊥) → n + 1 ≡ journal_table k
whole_kind n k e z = add-one n ∙ known_kind n k e z

pub some : (n : ℕ) → n + 1 ≡ 0 → ⊥
some n z = omega arith

-- ---- a turn, by any table

-- `at` is a place, after `count` entries, the newest of them at `newest`
pub record Passed (t : Table) (j : List ℕ) (at count newest : ℕ) : Type 0 where
  pub entries : List Entry
  pub place : Placed t j at entries
  pub counted : count ≡ length entries
  pub placed : newest ≡ newest_at entries

pub passed_none : (t : Table) (j : List ℕ) → Passed t j 0 0 0
unfolding newest_at
passed_none t j = record { entries = []; place = first_place t j; counted = refl; placed = refl }

module _ {t : Table} {j : List ℕ} {at count newest : ℕ} (p : Passed t j at count newest) where
  pub passed_all : length j ≤ at → Ok (record { count = count; newest = newest }) ≡ reading_of (scan_by t j)
  unfolding reading_of
  passed_all h = rw (scan_end p.place h, p.counted, p.placed)

  pub count_fits : count ≤ at
  count_fits = omega (arith, count_written p.entries, place_written p.place)

  pub newest_fits : newest ≤ at
  newest_fits = omega (arith, newest_written p.entries, place_written p.place)

  module _ (more : at < length j) where
    pub passed_unknown : 0 ≡ t (get_or j at 0) → Err (record { place = at; fault = UnknownKind }) ≡ reading_of (scan_by t j)
    unfolding reading_of
    passed_unknown none = ap (λ (n : ℕ). Err (record { place = n; fault = UnknownKind })) (place_written p.place) ∙ sym (ap reading_of (scan_unknown p.place more none))

    -- a kind whose entries have n bytes
    module _ {n : ℕ} (size : n ≡ t (get_or j at 0)) (known : n ≡ 0 → ⊥) where
      with_body : suc (n - 1) ≡ t (get_or j at 0)
      with_body = omega arith

      pub passed_cut : length j - at < n → Err (record { place = at; fault = Cut }) ≡ reading_of (scan_by t j)
      unfolding reading_of
      passed_cut h = ap (λ (n : ℕ). Err (record { place = n; fault = Cut })) (place_written p.place) ∙ sym (ap reading_of (scan_cut p.place more with_body (omega arith)))

      pub passed_next : n ≤ length j - at → Passed t j (at + n) (count + 1) at
      unfolding newest_at
      passed_next h = record {
        entries = entry_at j at (n - 1) ∷ p.entries;
        place = next_place p.place more with_body (omega arith) (omega arith);
        counted = add-one count ∙ ap suc p.counted;
        placed = place_written p.place;
      }

    -- by the length of its entries and how much is left
    module _ {m : ℕ} {x : Result ℕ Fault} (size : m ≡ t (get_or j at 0)) (is : x ≡ next_for m (length j - at)) where
      pub turn_broken : {fault : Fault} → x ≡ Err fault → Leads t j at p.entries (Err fault)
      unfolding some_next
      turn_broken e = leads_at p.place more size (sym e ∙ is)

      pub turn_next : {n : ℕ} → x ≡ Ok n → Passed t j (at + n) (count + 1) at
      unfolding some_next newest_at
      turn_next e = record {
        entries = _;
        place = leads_at p.place more size (sym e ∙ is);
        counted = add-one count ∙ ap suc p.counted;
        placed = place_written p.place;
      }
