-- Walks over bytes that read as entries: the oldest come first, and each entry puts its mark. Assumes nothing.
use Prim.Native.Nat.{ℕ, suc, ◌+◌, ◌-◌, ◌*◌, ◌/◌, ◌%◌, ◌≤◌, ◌<◌}
use mathlib.Core.Path.{◌≡◌, refl, sym, ap, ◌∙◌}
use mathlib.Core.List.{List, [], ◌∷◌, ◌++◌}
use native.Mathlib.Numerals.{add-one}
use native.Mathlib.Omega.{arith}
use lib.ListN.{length, get_or, take, drop, replicate, length-append}
use lib.Seq.{drop_at}
use Rattle.wire.specs.Wire.{to_be, pasted}
use Rattle.wire.proofs.laws.Cases.{if_eq, else_eq}
use Rattle.entries.specs.Entries.{Entry, body_len, scan, entries_of, written, ReadsWhole}
use Rattle.entries.proofs.laws.Entries.{scan_proper}
use Rattle.entries.proofs.laws.Places.{entry_at, first_place, place_written, place_entries, scan_end, whole_fits, next_place}
use Rattle.entries.specs.Places.{Place}
use Rattle.marks.specs.Marks.{milestones, spelled, marks_of}
use Rattle.marks.proofs.laws.Marks.{thirty_second, two_each, length_marks, keeps_marks, marks_more}
use Rattle.session.specs.Road.{oldest}
use Rattle.std.specs.Prelude.{None, Some}
use Rattle.forget_call.specs.Forget.{OldestEnd, marked_at}

-- ---- the entries before a place are the oldest

oldest_last : (ns es : List Entry) → oldest (length es) (ns ++ es) ≡ es
unfolding oldest
oldest_last ns es = drop_at ns es (length (ns ++ es) - length es) (omega (arith, length-append ns es))

module _ (j : List ℕ) (at : ℕ) (es : List Entry) (p : Place j at es) where
  module _ (n : ℕ) (counted : length es ≡ n) where
    pub oldest_are : oldest n (entries_of (scan j)) ≡ es
    oldest_are = (λ i. oldest (sym counted i) (place_entries p i)) ∙ oldest_last (entries_of (scan (drop at j))) es

    pub enough : n ≤ length (entries_of (scan j))
    enough = omega (arith, counted, ap length (place_entries p), length-append (entries_of (scan (drop at j))) es)

    pub ends_at : at ≡ length (written (oldest n (entries_of (scan j))))
    ends_at = place_written p ∙ ap (λ (l : List Entry). length (written l)) (sym oldest_are)

-- ---- a walk: `at` is a place, after `count` entries

pub record Came (j : List ℕ) (at count : ℕ) : Type 0 where
  pub entries : List Entry
  pub place : Place j at entries
  pub counted : count ≡ length entries

pub none_came : (j : List ℕ) → Came j 0 0
none_came j = record { entries = []; place = first_place j; counted = refl }

module _ (j : List ℕ) (whole : ReadsWhole j) (at count : ℕ) (c : Came j at count) where
  module _ (more : at < length j) (n : ℕ) (size : n ≡ body_len (get_or j at 0)) where
    pub stays_in : at + (n + 1) ≤ length j
    stays_in = omega (arith, more, whole_fits c.place size more whole.reads)

    pub came_next : Came j (at + (n + 1)) (count + 1)
    came_next =
        let f = whole_fits c.place size more whole.reads in
        record {
          entries = entry_at j at n ∷ c.entries;
          place = next_place c.place size more (λ z. omega (arith, f.0, z)) f.1;
          counted = add-one count ∙ ap suc c.counted;
        }

  pub came_all : length j ≤ at → entries_of (scan j) ≡ c.entries
  unfolding entries_of
  came_all h = ap entries_of (scan_end c.place h)

  pub too_few : (n : ℕ) → length j ≤ at → count < n → OldestEnd j n None
  too_few n h less = omega (arith, less, c.counted, ap length (came_all h))

  pub found_end : (n : ℕ) → n ≤ count → count ≤ n → OldestEnd j n (Some at)
  found_end n low high = (c.entries, c.place, omega (arith, low, high, c.counted))

  pub few : at < length j → length j ≤ 2048 → count < 1024
  few more fits =
      omega (arith, more, fits, c.counted, place_written c.place, two_each c.entries (scan_proper (take at j) c.entries c.place.reads))

-- ---- the marks of the entries passed

pub no_marks : replicate 64 0 ≡ marks_of []
unfolding marks_of milestones spelled
no_marks = refl

marked_on : (e : Entry) (es : List Entry) → length es ≤ 1023 → marked_at (length es) (length (written es)) (marks_of es) ≡ marks_of (e ∷ es)
unfolding marked_at
marked_on e es few =
    thirty_second (length es)
    (λ z. sym (if_eq _ _ {m = length es % 32} {n = 0} z refl) ∙ sym (marks_more e es z few))
    (λ z. sym (else_eq _ _ {m = length es % 32} {n = 0} z refl) ∙ sym (keeps_marks e es z))

pub record Walked (j : List ℕ) (at count : ℕ) (m : List ℕ) : Type 0 where
  pub came : Came j at count
  pub marks_are : m ≡ marks_of came.entries

pub none_walked : (j : List ℕ) → Walked j 0 0 (replicate 64 0)
unfolding none_came
none_walked j = record { came = none_came j; marks_are = no_marks }

module _ (j : List ℕ) (whole : ReadsWhole j) (at count : ℕ) (m : List ℕ) (w : Walked j at count m) where
  pub marks_wide : length m ≡ 64
  marks_wide = ap length w.marks_are ∙ length_marks w.came.entries

  pub walked_next : at < length j → length j ≤ 2048 → (n : ℕ) → n ≡ body_len (get_or j at 0) → (y : List ℕ) → y ≡ marked_at count at m → Walked j (at + (n + 1)) (count + 1) y
  unfolding came_next
  walked_next more fits n size y e =
      let c = w.came in
      let next = came_next j whole at count c more n size in
      record {
        came = next;
        marks_are =
            e ∙ (λ i. marked_at (c.counted i) (place_written c.place i) (w.marks_are i))
            ∙ marked_on (entry_at j at n) c.entries (omega (arith, few j whole at count c more fits, c.counted));
      }

  pub walked_all : length j ≤ at → m ≡ marks_of (entries_of (scan j))
  walked_all h = w.marks_are ∙ ap marks_of (sym (came_all j whole at count w.came h))

-- ---- one mark

pub put_mark : (n at : ℕ) (m y : List ℕ) → n % 32 ≡ 0 → y ≡ pasted (2 * (n / 32)) (to_be 2 at) m → y ≡ marked_at n at m
unfolding marked_at
put_mark n at m y z e = e ∙ if_eq _ _ {m = n % 32} {n = 0} z refl

pub no_mark : (n at : ℕ) (m : List ℕ) → (n % 32 ≡ 0 → ⊥) → m ≡ marked_at n at m
unfolding marked_at
no_mark n at m z = else_eq _ _ {m = n % 32} {n = 0} z refl
