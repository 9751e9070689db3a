-- Document 02, f: "Given two lent traces, return the longest run of whole entries they share at the start, as a part of the first one, with the number of
-- the entry after it."
use Rattle.std.specs.Prelude.{ℕ, suc, ◌≤◌, cond, ◌≡◌, List, [], ◌∷◌, ◌++◌, eqb, length, Option, None, Some, Ok, Err}
use Rattle.wire.specs.Conditions.{row, is}
use Rattle.entries.specs.Entries.{Entry, written, between, entries_of, next_by, Reading, Next}
use Rattle.trace.specs.Trace.{trace_table, trace_scan}
use Rattle.parting.specs.declared.Refusal.{Refusal}
use Rattle.parting.specs.declared.Refusal.TheVariants.{InFirst, InSecond}
use Rattle.entries.specs.declared.Fault.{Fault}
use Rattle.entries.specs.declared.Fault.TheVariants.{UnknownKind, Cut}
use Rattle.parting.specs.declared.Parting.{Parting}

-- ---- what is asked for

-- t begins with p
pub record Begins (t p : List ℕ) : Type 0 where
  pub rest : List ℕ
  pub joins : t ≡ p ++ rest

-- whole entries that both begin with
pub record CommonStart (t u p : List ℕ) : Type 0 where
  pub entries : List Entry
  pub whole : trace_scan p ≡ between entries
  pub first : Begins t p
  pub second : Begins u p

-- "the longest run of whole entries they share at the start"
pub record Longest (t u p : List ℕ) : Type 0 where
  pub common : CommonStart t u p
  pub longest : (q : List ℕ) → CommonStart t u q → length q ≤ length p

-- ---- which it is

-- the bytes that both begin with
unfoldable pub front : List ℕ → List ℕ → List ℕ
front [] u = []
front (x ∷ t) [] = []
front (x ∷ t) (y ∷ u) = cond (eqb x y) (x ∷ front t u) []

-- the entries that are whole in them, newest first, and "as a part of the first one"
abbrev pub shared_entries : List ℕ → List ℕ → List Entry
shared_entries t u = entries_of (trace_scan (front t u))

unfoldable pub shared_part : List ℕ → List ℕ → List ℕ
shared_part t u = written (shared_entries t u)

-- ---- "a trace whose first entry won't read shares nothing, and the player's refusal for it stands beside the answer, the first trace's before the second's"

-- by what stands at the front of a trace; an empty one refuses nothing
unfoldable pub refused_for : Next → (Fault → Refusal) → Option Refusal → Option Refusal
refused_for (Ok next) which later = later
refused_for (Err fault) which later = Some (which fault)

unfoldable pub refusal_of : List ℕ → List ℕ → Option Refusal
refusal_of t u =
    refused_for (next_by trace_table t) InFirst
    (refused_for (next_by trace_table u) InSecond None)

-- the same by how the player reads the traces, in order: the first row that holds
abbrev pub PlayersRefusal : Reading → Reading → Option Refusal → Type 0
PlayersRefusal r s =
    row (Some (InFirst UnknownKind)) (r ≡ Err (record { place = 0; fault = UnknownKind }))
    (row (Some (InFirst Cut)) (r ≡ Err (record { place = 0; fault = Cut }))
    (row (Some (InSecond UnknownKind)) (s ≡ Err (record { place = 0; fault = UnknownKind }))
    (row (Some (InSecond Cut)) (s ≡ Err (record { place = 0; fault = Cut }))
    (is None))))

-- "with the number of the entry after it": entries are numbered from 1
unfoldable pub parting_of : List ℕ → List ℕ → Parting
parting_of t u = record { entries = length (shared_entries t u); next = suc (length (shared_entries t u)); refusal = refusal_of t u }
