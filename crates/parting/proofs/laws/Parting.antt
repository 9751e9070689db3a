-- The shared part is the longest common start of whole entries, and the only one. Assumes nothing.
use Rattle.std.specs.Prelude.{ℕ, zero, suc, ◌≤◌, ◌≡◌, refl, take}
use Rattle.std.proofs.Math.Path.{sym, ap}
use Rattle.std.proofs.Common.{◌∙◌, take-append-drop}
use mathlib.Core.List.{List, [], ◌∷◌, ◌++◌, append_assoc}
use native.Mathlib.Omega.{arith}
use Rattle.std.proofs.Math.ListN.{length, drop}
use Rattle.entries.specs.Entries.{Entry, Table, written, Scan, between, within, unknown, opened, eat, scan_from, scan_by, entries_of}
use Rattle.entries.proofs.laws.ByTable.{length_written, scan_append, scan_written, whole_front, whole_reads}
use Rattle.trace.specs.Trace.{trace_table, trace_scan}
use Rattle.wire.specs.Conditions.{◌and◌}
use Rattle.parting.specs.Parting.{Begins, CommonStart, Longest, front, shared_entries, shared_part, parting_of}
use Rattle.parting.proofs.laws.Front.{begins_take, begins_on, front_first, front_second, front_most, front_same, front_none}

-- ---- reading on keeps the entries read, and adds newer ones

-- fs has the entries es, and newer ones before them
abbrev pub Newer : List Entry → List Entry → Type 0
Newer fs es = (more : List Entry) × (fs ≡ more ++ es)

newer_on : {fs gs es : List Entry} → Newer fs es → Newer gs fs → Newer gs es
newer_on {es = es} n m = (m.0 ++ n.0, m.1 ∙ ap (λ (l : List Entry). m.0 ++ l) n.1 ∙ sym (append_assoc m.0 n.0 es))

newer_opened : (es : List Entry) (k n : ℕ) → Newer (entries_of (opened es k n)) es
unfolding entries_of opened
newer_opened es k zero = ([], refl)
newer_opened es k (suc zero) = (record { kind = k; body = [] } ∷ [], refl)
newer_opened es k (suc (suc n)) = ([], refl)

newer_eat : (t : Table) (s : Scan) (x : ℕ) → Newer (entries_of (eat t s x)) (entries_of s)
unfolding entries_of eat
newer_eat t (between es) x = newer_opened es x (t x)
newer_eat t (within es k b zero) x = (record { kind = k; body = b ++ (x ∷ []) } ∷ [], refl)
newer_eat t (within es k b (suc n)) x = ([], refl)
newer_eat t (unknown es) x = ([], refl)

newer_from : (t : Table) (s : Scan) (xs : List ℕ) → Newer (entries_of (scan_from t s xs)) (entries_of s)
unfolding scan_from
newer_from t s [] = ([], refl)
newer_from t s (x ∷ xs) = newer_on (newer_eat t s x) (newer_from t (eat t s x) xs)

entries_between : (es : List Entry) → entries_of (between es) ≡ es
unfolding entries_of
entries_between es = refl

-- bytes that begin with whole entries have those, and newer ones
pub newer_scan : {t p : List ℕ} {es : List Entry} → Begins t p → trace_scan p ≡ between es → Newer (entries_of (trace_scan t)) es
newer_scan {t} {p} {es} b whole =
    let n = newer_from trace_table (trace_scan p) b.rest in (
      n.0,
      ap (λ (l : List ℕ). entries_of (trace_scan l)) b.joins
          ∙ ap entries_of (scan_append trace_table p b.rest)
          ∙ n.1
          ∙ ap (λ (l : List Entry). n.0 ++ l) (ap entries_of whole ∙ entries_between es),
    )

longer_written : (more es : List Entry) → length (written es) ≤ length (written (more ++ es))
longer_written [] es = omega arith
longer_written (e ∷ more) es = omega (arith, length_written e (more ++ es), longer_written more es)

-- ---- the part

module _ (t u : List ℕ) where
  pub part_reads : trace_scan (shared_part t u) ≡ between (shared_entries t u)
  unfolding shared_part
  part_reads = whole_reads trace_table (front t u)

  pub part_number : (es : List Entry) × ((trace_scan (shared_part t u) ≡ between es) and ((parting_of t u).entries ≡ length es) and ((parting_of t u).next ≡ suc (length es)))
  unfolding parting_of
  part_number = (shared_entries t u, (part_reads, (refl, refl)))

  part_begins : Begins (front t u) (shared_part t u)
  unfolding shared_part
  part_begins =
      let n = length (written (shared_entries t u)) in
      record {
        rest = drop n (front t u);
        joins = sym (take-append-drop n (front t u)) ∙ ap (λ (l : List ℕ). l ++ drop n (front t u)) (whole_front trace_table (front t u));
      }

  pub part_common : CommonStart t u (shared_part t u)
  part_common = record {
    entries = shared_entries t u;
    whole = part_reads;
    first = begins_on (front_first t u) part_begins;
    second = begins_on (front_second t u) part_begins;
  }

  no_longer : (q : List ℕ) → CommonStart t u q → length q ≤ length (shared_part t u)
  unfolding shared_part
  no_longer q c =
      let n = newer_scan (front_most t u q c.first c.second) c.whole in
      omega (
        arith,
        ap length (scan_written trace_table q c.entries c.whole),
        longer_written n.0 c.entries,
        ap (λ (l : List Entry). length (written l)) n.1,
      )

  pub part_longest : Longest t u (shared_part t u)
  part_longest = record { common = part_common; longest = no_longer }

  pub longest_is_one : (p q : List ℕ) → Longest t u p → Longest t u q → p ≡ q
  longest_is_one p q l m =
      let same : length p ≡ length q = omega (arith, l.longest q m.common, m.longest p l.common) in
      sym (begins_take l.common.first) ∙ ap (λ (n : ℕ). take n t) same ∙ begins_take m.common.first

  -- its entries are the oldest of both
  pub newer_first : Newer (entries_of (trace_scan t)) (shared_entries t u)
  newer_first = newer_scan part_common.first part_reads

  pub newer_second : Newer (entries_of (trace_scan u)) (shared_entries t u)
  newer_second = newer_scan part_common.second part_reads

-- ---- equal traces, and empty ones

pub equal_share_all : (t : List ℕ) (es : List Entry) → trace_scan t ≡ between es → shared_part t t ≡ t
unfolding shared_part
equal_share_all t es whole =
    ap (λ (l : List ℕ). written (entries_of (trace_scan l))) (front_same t)
    ∙ ap written (ap entries_of whole ∙ entries_between es)
    ∙ sym (scan_written trace_table t es whole)

pub first_empty : (u : List ℕ) → shared_part [] u ≡ []
unfolding shared_part front scan_by scan_from entries_of written
first_empty u = refl

pub second_empty : (t : List ℕ) → shared_part t [] ≡ []
unfolding shared_part scan_by scan_from entries_of written
second_empty t = ap (λ (l : List ℕ). written (entries_of (trace_scan l))) (front_none t)
