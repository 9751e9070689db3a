-- What the calls give, by the bytes that both begin with, and what `tell` puts. Assumes nothing.
use Prim.Native.Nat.{ℕ, ◌+◌, ◌≤◌, ◌<◌}
use mathlib.Core.Path.{◌≡◌, refl, sym, ap, ap₂, ◌∙◌}
use mathlib.Core.List.{List, [], ◌∷◌, ◌++◌}
use native.Mathlib.Numerals.{add-one}
use native.Mathlib.Omega.{arith}
use lib.ListN.{length, take, length-append}
use Rattle.wire.proofs.laws.Wire.{joined_append}
use Rattle.wire.specs.Wire.{joined}
use Rattle.io.specs.Counts.{IsPrefixLen}
use Rattle.wire.proofs.laws.Cases.{if_lt, else_lt}
use Rattle.text.specs.Text.{Sheet, sheet, put_on, put_all, ascii, line_end, decimal}
use Rattle.text.proofs.laws.Pieces.{piece, pieces, last_piece, fitting}
use Rattle.entries.specs.Entries.{written, entries_of, next_by, Next}
use Rattle.entries.proofs.laws.ByTable.{count_written}
use Rattle.trace.specs.Trace.{trace_table, trace_scan}
use Rattle.parting.specs.declared.Refusal.{Refusal}
use Rattle.parting.specs.declared.Refusal.TheVariants.{InFirst, InSecond}
use Rattle.entries.specs.declared.Fault.{Fault}
use Rattle.parting.specs.declared.Parting.{Parting}
use Rattle.parting.specs.Parting.{front, shared_entries, shared_part, refused_for, refusal_of, parting_of}
use Rattle.parting.specs.Lines.{shared_line, refusal_line, pieces_of, text_of, longest, told, told_length}
use Rattle.parting.proofs.laws.Front.{begins_take, begins_fits, front_first}
use Rattle.parting.proofs.laws.Parting.{part_common}
use Rattle.parting.proofs.laws.Lengths.{length_refusal}
use Rattle.std.specs.Prelude.{Option, None, Some, Ok, Err}

abbrev parting_at : ℕ → ℕ → Option Refusal → Parting
parting_at entries next refusal = record { entries = entries; next = next; refusal = refusal }

module _ (t u : List ℕ) {n : ℕ} (agree : n ≡ length (front t u)) where
  both_begin : take n t ≡ front t u
  both_begin = ap (λ (m : ℕ). take m t) agree ∙ begins_take (front_first t u)

  module _ {end : ℕ} (e : end ≡ length (written (entries_of (trace_scan (take n t))))) where
    part_length : end ≡ length (shared_part t u)
    unfolding shared_part
    part_length = e ∙ ap (λ (l : List ℕ). length (written (entries_of (trace_scan l)))) both_begin

    pub part_taken : take end t ≡ shared_part t u
    part_taken = ap (λ (m : ℕ). take m t) part_length ∙ begins_take (part_common t u).first

    pub part_size : end ≡ length (take end t)
    part_size = part_length ∙ sym (ap length part_taken)

  module _ {count : ℕ} (e : count ≡ length (entries_of (trace_scan (take n t)))) where
    counted : count ≡ length (shared_entries t u)
    counted = e ∙ ap (λ (l : List ℕ). length (entries_of (trace_scan l))) both_begin

    pub count_fits : count ≤ length t
    unfolding shared_part
    count_fits = omega (arith, counted, count_written (shared_entries t u), begins_fits (part_common t u).first)

    pub parting_is : {r : Option Refusal} → r ≡ refusal_of t u → parting_at count (count + 1) r ≡ parting_of t u
    unfolding parting_of
    parting_is f =
        ap₂ (λ (m : ℕ) (x : Option Refusal). parting_at m (m + 1) x) counted f
        ∙ ap (λ (m : ℕ). parting_at (length (shared_entries t u)) m (refusal_of t u)) (add-one (length (shared_entries t u)))

-- ---- the refusal: m and n are what stands at the front of the traces

module _ (t u : List ℕ) {m : Next} (first : m ≡ next_by trace_table t) where
  abbrev by_both : Next → Next → Option Refusal
  by_both x y = refused_for x InFirst (refused_for y InSecond None)

  pub first_refused : {fault : Fault} → m ≡ Err fault → Some (InFirst fault) ≡ refusal_of t u
  unfolding refused_for refusal_of
  first_refused is = ap (λ (x : Next). by_both x (next_by trace_table u)) (sym is ∙ first)

  module _ {n : Next} (second : n ≡ next_by trace_table u) {one : Option ℕ} (reads : m ≡ Ok one) where
    pub second_refused : {fault : Fault} → n ≡ Err fault → Some (InSecond fault) ≡ refusal_of t u
    unfolding refused_for refusal_of
    second_refused is = ap₂ by_both (sym reads ∙ first) (sym is ∙ second)

    pub none_refused : {two : Option ℕ} → n ≡ Ok two → None ≡ refusal_of t u
    unfolding refused_for refusal_of
    none_refused is = ap₂ by_both (sym reads ∙ first) (sym is ∙ second)

-- ---- the lines: x is what was found

module _ (t u : List ℕ) {x : Parting} {part : List ℕ} (e : x ≡ parting_of t u) (f : part ≡ shared_part t u) where
  pub parting_pieces : shared_line x.entries (length part) x.next ++ refusal_line x.refusal ≡ pieces_of t u
  unfolding pieces_of
  parting_pieces = ap₂ (λ (y : Parting) (l : List ℕ). shared_line y.entries (length l) y.next ++ refusal_line y.refusal) e f

  pub parting_short : length (joined (shared_line x.entries (length part) x.next)) ≤ 91 → length (joined (pieces_of t u)) ≤ longest
  parting_short short =
      omega (
        arith,
        ap (λ (ps : List (List ℕ)). length (joined ps)) parting_pieces,
        ap length (joined_append (shared_line x.entries (length part) x.next) (refusal_line x.refusal)),
        length-append (joined (shared_line x.entries (length part) x.next)) (joined (refusal_line x.refusal)),
        length_refusal x.refusal,
      )

module _ (t u d : List ℕ) where
  pub told_none : length d < longest → (0 ≡ told_length t u d) × ((d ≡ told t u d) × (IsPrefixLen 0 d × (0 ≤ longest)))
  unfolding told told_length
  told_none h = (if_lt _ _ h refl, (if_lt _ _ h refl, ((omega arith, refl), omega arith)))

  pub told_put : {d' : List ℕ} {end : ℕ} → longest ≤ length d → length (joined (pieces_of t u)) ≤ longest
      → sheet d' end ≡ put_all (sheet d 0) (pieces_of t u)
      → (end ≡ told_length t u d) × ((d' ≡ told t u d) × (IsPrefixLen end d' × (end ≤ longest)))
  unfolding told told_length text_of
  told_put h short e =
      let put = fitting (pieces_of t u) d (omega (arith, short, h)) e in
      (else_lt _ _ h put.0, (else_lt _ _ h put.1.0, (put.1.1, omega (arith, put.0, short))))
