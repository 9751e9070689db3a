-- The refusal is the player's at a trace's first entry, and such a trace shares nothing. Assumes nothing.
use Rattle.std.specs.Prelude.{ℕ, ◌≤◌, ◌≡◌, refl, List, [], ◌∷◌, ◌++◌, length, drop, Option, None, Some, Ok, Err}
use Rattle.std.proofs.Common.{sym, subst, ◌∙◌, arith, length-append, take-append-drop}
use Rattle.std.proofs.Math.Path.{ap}
use Rattle.wire.specs.Conditions.{here, later, row}
use Rattle.entries.specs.Entries.{Entry, written, Scan, between, within, unknown, entries_of, reading_of, next_by, Reading, Next}
use Rattle.entries.proofs.laws.ByTable.{count_written}
use Rattle.entries.proofs.laws.Placed.{first_place}
use Rattle.entries.specs.Places.{Placed}
use Rattle.entries.proofs.laws.Next.{Leads, leads_on}
use Rattle.trace.specs.Trace.{trace_table, trace_scan}
use Rattle.parting.specs.declared.Refusal.{Refusal}
use Rattle.parting.specs.declared.Refusal.TheVariants.{InFirst, InSecond}
use Rattle.entries.specs.declared.Fault.{Fault}
use Rattle.entries.specs.declared.Fault.TheVariants.{UnknownKind, Cut}
use Rattle.parting.specs.Parting.{shared_entries, shared_part, refused_for, refusal_of, PlayersRefusal}
use Rattle.parting.proofs.laws.Parting.{Newer, newer_scan, newer_first, newer_second}
use Rattle.entries.specs.declared.Broken.{Broken}

-- ---- what stands at the front of a trace leads on from its start

leads_first : (t : List ℕ) → Leads trace_table t 0 [] (next_by trace_table t)
leads_first t = leads_on (first_place trace_table t) refl

-- ---- where the player's reading stops: at 0 only before the first entry

abbrev stops_at : Reading → ℕ
stops_at (Ok whole) = 1
stops_at (Err broken) = broken.place

abbrev breaks : Fault → Reading
breaks fault = Err (record { place = 0; fault = fault })

abbrev NotAt0 : Reading → Type 0
NotAt0 r = (r ≡ breaks UnknownKind → ⊥) × (r ≡ breaks Cut → ⊥)

not_at_0 : (r : Reading) → 1 ≤ stops_at r → NotAt0 r
not_at_0 r h = (λ e. omega (arith, ap stops_at e), λ e. omega (arith, ap stops_at e))

after_entries : (s : Scan) → 1 ≤ length (entries_of s) → 1 ≤ stops_at (reading_of s)
unfolding entries_of reading_of
after_entries (between es) h = omega arith
after_entries (within es k b n) h = omega (arith, count_written es)
after_entries (unknown es) h = omega (arith, count_written es)

after_first : (t : List ℕ) (n : ℕ) (e : Entry) → Placed trace_table t n (e ∷ []) → NotAt0 (reading_of (trace_scan t))
after_first t n e p =
    let newer = newer_scan (record { rest = drop n t; joins = sym (take-append-drop n t) }) p.reads in
    not_at_0 (reading_of (trace_scan t))
    (after_entries (trace_scan t) (omega (arith, ap length newer.1, length-append newer.0 (e ∷ []))))

at_end : (s : Scan) → s ≡ between [] → 1 ≤ stops_at (reading_of s)
unfolding reading_of
at_end s e = subst (λ (x : Scan). 1 ≤ stops_at (reading_of x)) (sym e) (omega arith)

abbrev Stops : Next → Reading → Type 0
Stops (Ok next) r = NotAt0 r
Stops (Err fault) r = r ≡ breaks fault

stops_by : (t : List ℕ) (x : Next) → Leads trace_table t 0 [] x → Stops x (reading_of (trace_scan t))
stops_by t (Ok (Some n)) p = after_first t _ _ p
stops_by t (Err fault) p = p.1
stops_by t (Ok None) p = not_at_0 (reading_of (trace_scan t)) (at_end (trace_scan t) p)

-- ---- the table

cut_only : (r : Reading) → r ≡ breaks Cut → r ≡ breaks UnknownKind → ⊥
cut_only r e f =
    let both : ◌≡◌ {A = Broken} (record { place = 0; fault = Cut }) (record { place = 0; fault = UnknownKind }) = cc in
    let faults : Cut ≡ UnknownKind = ap (λ (b : Broken). b.fault) both in
    let z : ◌≡◌ {A = ℕ} 0 1 = cc in
    omega arith

-- of one trace: its two rows, then those of the other
rows_by : (which : Fault → Refusal) (x : Next) (r : Reading) {rest : Option Refusal → Type 0} (refusal : Option Refusal) → Stops x r → rest refusal
    → row (Some (which UnknownKind)) (r ≡ breaks UnknownKind) (row (Some (which Cut)) (r ≡ breaks Cut) rest) (refused_for x which refusal)
unfolding refused_for
rows_by which (Ok next) r refusal h k = later h.0 (later h.1 k)
rows_by which (Err UnknownKind) r refusal h k = here h refl
rows_by which (Err Cut) r refusal h k = later (cut_only r h) (here h refl)

pub refusal_is_the_players : (t u : List ℕ) → PlayersRefusal (reading_of (trace_scan t)) (reading_of (trace_scan u)) (refusal_of t u)
unfolding refusal_of
refusal_is_the_players t u =
    rows_by InFirst (next_by trace_table t) (reading_of (trace_scan t)) _ (stops_by t _ (leads_first t))
    (rows_by InSecond (next_by trace_table u) (reading_of (trace_scan u)) None (stops_by u _ (leads_first u)) refl)

-- ---- "a trace whose first entry won't read shares nothing"

none_in : (more es : List Entry) → more ++ es ≡ [] → es ≡ []
none_in [] es e = e
none_in (x ∷ more) es e = absurd (omega (arith, ap length e))

none_shared : {fs es : List Entry} → Newer fs es → fs ≡ [] → es ≡ []
none_shared {es = es} n e = none_in n.0 es (sym n.1 ∙ e)

module _ (t u : List ℕ) where
  none_by_second : (y : Next) → Leads trace_table u 0 [] y → (refused_for y InSecond None ≡ None → ⊥) → shared_entries t u ≡ []
  unfolding refused_for
  none_by_second (Ok next) m h = absurd (h refl)
  none_by_second (Err fault) m h = none_shared (newer_second t u) m.0

  none_by_first : (x y : Next) → Leads trace_table t 0 [] x → Leads trace_table u 0 [] y → (refused_for x InFirst (refused_for y InSecond None) ≡ None → ⊥) → shared_entries t u ≡ []
  unfolding refused_for
  none_by_first (Ok next) y l m h = none_by_second y m h
  none_by_first (Err fault) y l m h = none_shared (newer_first t u) l.0

  pub refused_shares_nothing : (refusal_of t u ≡ None → ⊥) → shared_part t u ≡ []
  unfolding refusal_of shared_part written
  refused_shares_nothing h = ap written (none_by_first (next_by trace_table t) (next_by trace_table u) (leads_first t) (leads_first u) h)
