-- Document 02, i: "Keep a mark at every 32nd entry, counting the first as marked". Demand 3 has marks of its own, so in definitions these places are milestones.
use Rattle.std.specs.Prelude.{ℕ, ◌+◌, ◌-◌, ◌*◌, ◌/◌, ◌%◌, ◌≤◌, ◌<◌, Bool, true, false, cond, ◌≡◌, List, [], ◌∷◌, ◌++◌, eqb, length, take, drop, replicate, Option, None, Some, Ok, Err}
use Rattle.wire.specs.Wire.{be_nat, to_be, all_are}
use Rattle.entries.specs.Entries.{Entry, written, Reading}
use Rattle.marks.specs.declared.Mark.{Mark}
use Rattle.marks.specs.declared.Newest.{Newest}

-- where every 32nd entry begins, the oldest first; the entries stand newest first
unfoldable pub milestones : List Entry → List ℕ
milestones [] = []
milestones (e ∷ es) = cond (eqb (length es % 32) 0) (milestones es ++ (length (written es) ∷ [])) (milestones es)

unfoldable pub spelled : List ℕ → List ℕ
spelled [] = []
spelled (p ∷ ps) = to_be 2 p ++ spelled ps

-- the marks of a journal's entries: 32 numbers of two bytes, the unused ones 0
unfoldable pub marks_of : List Entry → List ℕ
marks_of es = take 64 (spelled (milestones es) ++ replicate 64 0)

-- "it equals the entries held, less one, less the greatest multiple of 32 not above that"
unfoldable pub passed_of : ℕ → ℕ
passed_of held = held - 1 - 32 * ((held - 1) / 32)

unfoldable pub same : List ℕ → List ℕ → Bool
same [] [] = true
same [] (y ∷ ys) = false
same (x ∷ xs) [] = false
same (x ∷ xs) (y ∷ ys) = cond (eqb x y) (same xs ys) false

-- ---- the same, as it is tested: "one not at its entry, or unused and not 0, makes it ill formed"

-- the mark with so many before it, in the bytes of all
abbrev pub mark_in : List ℕ → ℕ → ℕ
mark_in m k = be_nat (take 2 (drop (2 * k) m))

-- an entry at a place, with n before it: if it is a 32nd one, its mark says so
unfoldable pub stands_at : List ℕ → ℕ → ℕ → Bool
stands_at m n at = cond (eqb (n % 32) 0) (eqb (mark_in m (n / 32)) at) true

unfoldable pub all_stand : List ℕ → List Entry → Bool
all_stand m [] = true
all_stand m (e ∷ es) = cond (all_stand m es) (stands_at m (length es) (length (written es))) false

-- of n entries
unfoldable pub rest_unused : List ℕ → ℕ → Bool
rest_unused m n = all_are 0 (drop (2 * ((n + 31) / 32)) m)

unfoldable pub marks_fit : List ℕ → List Entry → Bool
marks_fit m es = cond (all_stand m es) (rest_unused m (length es)) false

-- ---- the last mark, and what stands from there on

-- x is the last mark that is used, or the first one where none is; the first one may be 0
pub record Last (m : List ℕ) (x : Mark) : Type 0 where
  pub low : x.number ≤ 31
  pub place_is : x.place ≡ mark_in m x.number
  pub used : (i : ℕ) → 1 ≤ i → i ≤ x.number → mark_in m i ≡ 0 → ⊥
  pub ends : x.number < 31 → mark_in m (x.number + 1) ≡ 0

-- what a part's reading says: where its newest entry begins, and how many are passed on the way there
unfoldable pub newest_of : Reading → Option Newest
newest_of (Ok whole) = cond (eqb whole.count 0) None (Some (record { place = whole.newest; passed = whole.count - 1 }))
newest_of (Err broken) = None

-- both lie within the n bytes read
abbrev pub NewestFits : ℕ → Option Newest → Type 0
NewestFits n (Some newest) = (newest.place ≤ n) × (newest.passed ≤ n)
NewestFits n None = Unit {0}

unfoldable pub last_mark : List Entry → ℕ
last_mark [] = 0
last_mark (e ∷ es) = cond (eqb (length es % 32) 0) (length (written es)) (last_mark es)

unfoldable pub from_mark : List Entry → List Entry
from_mark [] = []
from_mark (e ∷ es) = e ∷ cond (eqb (length es % 32) 0) [] (from_mark es)
