-- The last mark, found in the marks' bytes, and what stands from there on. Assumes nothing.
use Rattle.std.specs.Prelude.{ℕ, zero, suc, ◌+◌, ◌-◌, ◌*◌, ◌/◌, ◌%◌, ◌≤◌, ◌<◌, Bool, true, false, ◌≡◌, refl, ltb, get_or, take, drop, Option, None, Some}
use Rattle.std.proofs.Common.{sym, subst, ◌∙◌, arith, ltb-true, ltb-false, length-append, take_at}
use Rattle.std.proofs.Math.Path.{ap}
use mathlib.Core.List.{List, [], ◌∷◌, ◌++◌, append_assoc}
use Rattle.std.proofs.Math.ListN.{length, get_or-append, get_or-eq_default}
use Rattle.std.proofs.Math.Seq.{drop-append_seam, drop-append-add}
use Rattle.std.proofs.lemmas.List.{drop-append-le, get_or_at}
use Rattle.wire.specs.Wire.{be_nat, be_onto, to_be}
use Rattle.wire.proofs.laws.Cases.{if_eq, else_eq}
use Rattle.wire.proofs.laws.Wire.{length_to_be, be_to_be, part_of_part}
use Rattle.entries.specs.Entries.{Entry, bytes_of, written, Scan, between, scan_by, scan_from, scan, newest_at, reading_of}
use Rattle.entries.proofs.laws.Entries.{Proper, length_written, count_written, read_append}
use Rattle.marks.specs.declared.Mark.{Mark}
use Rattle.marks.specs.declared.Newest.{Newest}
use Rattle.marks.specs.Marks.{milestones, spelled, marks_of, passed_of, mark_in, Last, newest_of, last_mark, from_mark}
use Rattle.marks.proofs.laws.Marks.{thirty_second, marked_one, unmarked_one, count_milestones, zeros}

-- ---- a mark read from the bytes is the milestone

abbrev Low : List ℕ → Type 0
Low [] = Unit {0}
Low (p ∷ ps) = (p < 65536) × Low ps

spells_zero : (j k n : ℕ) → be_onto 0 (take j (drop k (zeros n))) ≡ 0
unfolding be_onto
spells_zero zero k n = refl
spells_zero (suc j) zero zero = refl
spells_zero (suc j) zero (suc n) = spells_zero j zero n
spells_zero (suc j) (suc k) zero = refl
spells_zero (suc j) (suc k) (suc n) = spells_zero (suc j) k n

read_spelled : (ps : List ℕ) (i n : ℕ) → Low ps → mark_in (spelled ps ++ zeros n) i ≡ get_or ps i 0
unfolding spelled be_nat
read_spelled [] i n low = spells_zero 2 (2 * i) n
read_spelled (p ∷ ps) zero n low =
    ap (λ (l : List ℕ). be_nat (take 2 l)) (append_assoc (to_be 2 p) (spelled ps) (zeros n))
    ∙ ap be_nat (take_at (to_be 2 p) (spelled ps ++ zeros n) 2 (length_to_be 2 p)) ∙ be_to_be 2 p low.0
read_spelled (p ∷ ps) (suc i) n low =
    let twice : 2 * suc i ≡ length (to_be 2 p) + 2 * i = omega (arith, length_to_be 2 p) in
    ap (λ (k : ℕ). be_nat (take 2 (drop k (spelled (p ∷ ps) ++ zeros n)))) twice
    ∙ ap (λ (l : List ℕ). be_nat (take 2 (drop (length (to_be 2 p) + 2 * i) l))) (append_assoc (to_be 2 p) (spelled ps) (zeros n))
    ∙ ap (λ (l : List ℕ). be_nat (take 2 l)) (drop-append-add (to_be 2 p) (spelled ps ++ zeros n) (2 * i))
    ∙ read_spelled ps i n low.1

low_append : (ps : List ℕ) (p : ℕ) → Low ps → p < 65536 → Low (ps ++ (p ∷ []))
low_append [] p low h = (h, tt)
low_append (q ∷ ps) p low h = (low.0, low_append ps p low.1 h)

-- a store's places are numbers of two bytes
low_milestones : (es : List Entry) → length (written es) ≤ 2048 → Low (milestones es)
unfolding milestones
low_milestones [] h = tt
low_milestones (e ∷ es) h =
    let before : length (written es) ≤ 2048 = omega (arith, length_written e es) in
    thirty_second (length es)
    (λ z. subst Low (sym (marked_one e es z)) (low_append (milestones es) (length (written es)) (low_milestones es before) (omega arith)))
    (λ z. subst Low (sym (unmarked_one e es z)) (low_milestones es before))

module _ (es : List Entry) (small : length (written es) ≤ 2048) where
  pub read_mark : (i : ℕ) → i ≤ 31 → mark_in (marks_of es) i ≡ get_or (milestones es) i 0
  unfolding marks_of
  read_mark i h = ap be_nat (part_of_part 2 (2 * i) 64 (spelled (milestones es) ++ zeros 64) (omega arith)) ∙ read_spelled (milestones es) i 64 (low_milestones es small)

-- ---- the milestones: but for the first they aren't 0, and the last one is the last mark

get_d_last : (ps : List ℕ) (p i : ℕ) → i ≡ length ps → get_or (ps ++ (p ∷ [])) i 0 ≡ p
get_d_last ps p i h = get_or_at ps p [] 0 i (sym h)

-- i is before the last of them, or it is the last
before_last : (ps : List ℕ) (p i : ℕ) → (i < length ps → 1 ≤ get_or ps i 0) → (i ≡ length ps → 1 ≤ p) → i < length (ps ++ (p ∷ [])) → 1 ≤ get_or (ps ++ (p ∷ [])) i 0
before_last ps p i f g h = go (ltb i (length ps)) refl
  where
    go : (t : Bool) → ltb i (length ps) ≡ t → 1 ≤ get_or (ps ++ (p ∷ [])) i 0
    go true b = subst (λ (n : ℕ). 1 ≤ n) (sym (get_or-append ps (p ∷ []) 0 i (ltb-true i _ b))) (f (ltb-true i _ b))
    go false b =
        let is : i ≡ length ps = omega (arith, ltb-false i (length ps) b, length-append ps (p ∷ [])) in
        subst (λ (n : ℕ). 1 ≤ n) (sym (get_d_last ps p i is)) (g is)

later_on : (es : List Entry) (i : ℕ) → 1 ≤ i → i < length (milestones es) → 1 ≤ get_or (milestones es) i 0
unfolding milestones
later_on [] i h k = absurd (omega arith)
later_on (e ∷ es) i h k =
    thirty_second (length es)
    (λ z.
    let m = marked_one e es z in
    subst (λ (ps : List ℕ). 1 ≤ get_or ps i 0) (sym m)
    (before_last (milestones es) (length (written es)) i (later_on es i h) (λ is. omega (arith, count_written es, count_milestones es, is)) (subst (λ (ps : List ℕ). i < length ps) m k)))
    (λ z. let m = unmarked_one e es z in subst (λ (ps : List ℕ). 1 ≤ get_or ps i 0) (sym m) (later_on es i h (subst (λ (ps : List ℕ). i < length ps) m k)))

last_milestone : (es : List Entry) → get_or (milestones es) ((length es - 1) / 32) 0 ≡ last_mark es
unfolding last_mark milestones
last_milestone [] = refl
last_milestone (e ∷ es) =
    thirty_second (length es)
    (λ z.
    ap (λ (ps : List ℕ). get_or ps ((length (e ∷ es) - 1) / 32) 0) (marked_one e es z)
    ∙ get_d_last (milestones es) (length (written es)) ((length (e ∷ es) - 1) / 32) (omega (arith, z, count_milestones es))
    ∙ if_eq _ _ {m = length es % 32} {n = 0} z refl)
    (λ z.
    let same : (length (e ∷ es) - 1) / 32 ≡ (length es - 1) / 32 = omega (arith, z) in
    ap (λ (ps : List ℕ). get_or ps ((length (e ∷ es) - 1) / 32) 0) (unmarked_one e es z)
    ∙ ap (λ (k : ℕ). get_or (milestones es) k 0) same ∙ last_milestone es
    ∙ else_eq _ _ {m = length es % 32} {n = 0} z refl)

-- ---- so the last mark is found

module _ (es : List Entry) (small : length (written es) ≤ 2048) (few : length es ≤ 1024) (x : Mark) (l : Last (marks_of es) x) where
  past : 1 ≤ x.number → length (milestones es) ≤ x.number → ⊥
  past h k =
      l.used x.number h (omega arith) (read_mark es small x.number l.low ∙ get_or-eq_default (milestones es) 0 k)

  short : x.number + 1 < length (milestones es) → ⊥
  short h =
      let low : x.number < 31 = omega (arith, h, count_milestones es) in
      omega (arith, later_on es (x.number + 1) (omega arith) h, read_mark es small (x.number + 1) (omega arith), l.ends low)

  pub last_number : x.number ≡ (length es - 1) / 32
  last_number = go (ltb x.number 1) (ltb x.number (length (milestones es))) (ltb (x.number + 1) (length (milestones es))) refl refl refl
    where
      go : (p q r : Bool) → ltb x.number 1 ≡ p → ltb x.number (length (milestones es)) ≡ q → ltb (x.number + 1) (length (milestones es)) ≡ r → x.number ≡ (length es - 1) / 32
      go p q true e f g = absurd (short (ltb-true (x.number + 1) (length (milestones es)) g))
      go true q false e f g = omega (arith, count_milestones es, ltb-true x.number 1 e, ltb-false (x.number + 1) (length (milestones es)) g)
      go false true false e f g = omega (arith, count_milestones es, ltb-true x.number (length (milestones es)) f, ltb-false (x.number + 1) (length (milestones es)) g)
      go false false false e f g = absurd (past (ltb-false x.number 1 e) (ltb-false x.number (length (milestones es)) f))

  pub last_place : x.place ≡ last_mark es
  last_place = l.place_is ∙ read_mark es small x.number l.low ∙ ap (λ (k : ℕ). get_or (milestones es) k 0) last_number ∙ last_milestone es

-- ---- what stands from the last mark on

pub mark_within : (es : List Entry) → last_mark es ≤ length (written es)
unfolding last_mark
mark_within [] = omega arith
mark_within (e ∷ es) = thirty_second (length es)
    (λ z. subst (λ (n : ℕ). n ≤ length (written (e ∷ es))) (if_eq _ _ {m = length es % 32} {n = 0} z refl) (omega (arith, length_written e es)))
    (λ z. subst (λ (n : ℕ). n ≤ length (written (e ∷ es))) (else_eq _ _ {m = length es % 32} {n = 0} z refl) (omega (arith, length_written e es, mark_within es)))

-- no entry has a mark after it
before_newest : (e : Entry) (es : List Entry) → last_mark (e ∷ es) ≤ length (written es)
unfolding last_mark
before_newest e es = thirty_second (length es)
    (λ z. subst (λ (n : ℕ). n ≤ length (written es)) (if_eq _ _ {m = length es % 32} {n = 0} z refl) (omega arith))
    (λ z. subst (λ (n : ℕ). n ≤ length (written es)) (else_eq _ _ {m = length es % 32} {n = 0} z refl) (mark_within es))

module _ (e : Entry) (es : List Entry) where
  pub at_mark : length es % 32 ≡ 0 → (last_mark (e ∷ es) ≡ length (written es)) × (from_mark (e ∷ es) ≡ e ∷ [])
  unfolding last_mark from_mark
  at_mark z = (sym (if_eq _ _ {m = length es % 32} {n = 0} z refl), ap (λ (l : List Entry). e ∷ l) (sym (if_eq _ _ {m = length es % 32} {n = 0} z refl)))

  past_mark : (length es % 32 ≡ 0 → ⊥) → (last_mark (e ∷ es) ≡ last_mark es) × (from_mark (e ∷ es) ≡ e ∷ from_mark es)
  unfolding last_mark from_mark
  past_mark z = (sym (else_eq _ _ {m = length es % 32} {n = 0} z refl), ap (λ (l : List Entry). e ∷ l) (sym (else_eq _ _ {m = length es % 32} {n = 0} z refl)))

-- entries have bytes, so the newest begins at a mark only where it is marked itself
pub mark_here : (e : Entry) (es : List Entry) → last_mark (e ∷ es) ≡ length (written es) → length es % 32 ≡ 0
mark_here e [] h = refl
mark_here e (f ∷ es) h =
    thirty_second (length (f ∷ es)) (λ z. z)
    (λ z. absurd (omega (arith, h, (past_mark e (f ∷ es) z).0, before_newest f es, length_written f es)))

-- the part from the last mark on reads as its entries
part_reads : (es : List Entry) → Proper es → scan (drop (last_mark es) (written es)) ≡ between (from_mark es)
unfolding last_mark from_mark written scan_by scan_from
part_reads [] p = refl
part_reads (e ∷ es) p = thirty_second (length es)
    (λ z.
    let m = at_mark e es z in
    ap (λ (n : ℕ). scan (drop n (written (e ∷ es)))) m.0
    ∙ ap scan (drop-append_seam (written es) (bytes_of e))
    ∙ read_append [] [] e refl p.0.0 p.0.1
    ∙ ap between (sym m.1))
    (λ z.
    let m = past_mark e es z in
    ap (λ (n : ℕ). scan (drop n (written (e ∷ es)))) m.0
    ∙ ap scan (drop-append-le (last_mark es) (written es) (bytes_of e) (mark_within es))
    ∙ read_append (drop (last_mark es) (written es)) (from_mark es) e (part_reads es p.1) p.0.0 p.0.1
    ∙ ap between (sym m.1))

-- how many these are, and where the newest of them begins
part_count : (e : Entry) (es : List Entry) → length (from_mark (e ∷ es)) ≡ length es % 32 + 1
part_count e [] = ap length (at_mark e [] refl).1
part_count e (f ∷ es) = thirty_second (length (f ∷ es))
    (λ z. ap length (at_mark e (f ∷ es) z).1 ∙ omega (arith, z))
    (λ z. ap length (past_mark e (f ∷ es) z).1 ∙ omega (arith, z, part_count f es))

part_long : (es : List Entry) → last_mark es + length (written (from_mark es)) ≡ length (written es)
unfolding last_mark from_mark written
part_long [] = refl
part_long (e ∷ es) = thirty_second (length es)
    (λ z. let m = at_mark e es z in omega (arith, m.0, ap (λ (l : List Entry). length (written l)) m.1, length_written e es, length_written e []))
    (λ z. let m = past_mark e es z in omega (arith, m.0, ap (λ (l : List Entry). length (written l)) m.1, length_written e es, length_written e (from_mark es), part_long es))

part_newest : (e : Entry) (es : List Entry) → last_mark (e ∷ es) + newest_at (from_mark (e ∷ es)) ≡ length (written es)
unfolding newest_at written
part_newest e es = thirty_second (length es)
    (λ z. let m = at_mark e es z in omega (arith, m.0, ap newest_at m.1))
    (λ z. let m = past_mark e es z in omega (arith, m.0, ap newest_at m.1, part_long es))

abbrev pub found : ℕ → ℕ → Option Newest
found place passed = Some (record { place = place; passed = passed })

-- so it says where the newest of all begins, and the number passed is that of the entries held
part_found : (e : Entry) (es : List Entry) → Proper (e ∷ es)
    → newest_of (reading_of (scan (drop (last_mark (e ∷ es)) (written (e ∷ es))))) ≡ found (newest_at (from_mark (e ∷ es))) (passed_of (length (e ∷ es)))
unfolding reading_of newest_of passed_of
part_found e es p =
    let n = part_count e es in
    let some : length (from_mark (e ∷ es)) ≡ 0 → ⊥ = λ z. omega (arith, n, z) in
    let passed : length (from_mark (e ∷ es)) - 1 ≡ length (e ∷ es) - 1 - 32 * ((length (e ∷ es) - 1) / 32) = omega (arith, n) in
    ap (λ (s : Scan). newest_of (reading_of s)) (part_reads (e ∷ es) p)
    ∙ sym (else_eq None (found (newest_at (from_mark (e ∷ es))) (length (from_mark (e ∷ es)) - 1)) some refl)
    ∙ ap (found (newest_at (from_mark (e ∷ es)))) passed

part_empty : newest_of (reading_of (scan (drop (last_mark []) (written [])))) ≡ None
unfolding reading_of newest_of last_mark written scan_by scan_from
part_empty = refl

-- the newest of these entries begins at a place, and so many are passed
pub record NewestIs (es : List Entry) (at passed : ℕ) : Type 0 where
  pub newest : Entry
  pub older : List Entry
  pub are : es ≡ newest ∷ older
  pub begins : at ≡ length (written older)
  pub counted : passed ≡ passed_of (length es)

pub found_at : (es : List Entry) → Proper es → (x : Newest) → Some x ≡ newest_of (reading_of (scan (drop (last_mark es) (written es))))
    → NewestIs es (last_mark es + x.place) x.passed
found_at [] p x h = absurd (let e = h ∙ part_empty in cc)
found_at (e ∷ es) p x h =
    let is : x ≡ record { place = newest_at (from_mark (e ∷ es)); passed = passed_of (length (e ∷ es)) } = let f = h ∙ part_found e es p in cc in
    record {
      newest = e;
      older = es;
      are = refl;
      begins = omega (arith, ap (λ (n : Newest). n.place) is, part_newest e es);
      counted = ap (λ (n : Newest). n.passed) is;
    }

pub found_none : (es : List Entry) → Proper es → None ≡ newest_of (reading_of (scan (drop (last_mark es) (written es)))) → es ≡ []
found_none [] p h = refl
found_none (e ∷ es) p h = let f = h ∙ part_found e es p in cc
