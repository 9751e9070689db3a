-- What the functions that read, add and cut an entry do to the part that is lent to them. Assumes nothing.
use native.Mathlib.Nat.{add-sub_cancel_left}
use Rattle.std.specs.Prelude.{Option}
use Prim.Native.Nat.{ℕ, zero, suc, ◌+◌, ◌-◌, ◌≤◌}
use mathlib.Core.Bool.{Bool, true, false, cond, false≢true}
use mathlib.Core.Path.{◌≡◌, refl, sym, ap, subst, ◌∙◌}
use mathlib.Core.List.{List, [], ◌∷◌, ◌++◌, append-nil}
use native.Mathlib.Nat.{zero-add}
use native.Mathlib.Omega.{arith}
use borrow.Author.Tests.{leb-true}
use lib.Dec.{leb}
use lib.ListN.{length, get_or, take, drop, replicate, length-drop, length-replicate, drop_of_length-le}
use lib.Seq.{drop-drop, length-take-le}
use Rattle.wire.specs.Wire.{pasted}
use Rattle.wire.proofs.laws.Wire.{tail_part}
use Rattle.change.specs.declared.Change.{Change}
use Rattle.change.specs.declared.Edit.{Edit}
use Rattle.change.specs.Change.{kind_of}
use Rattle.entries.specs.Entries.{bytes_of, body_lengths, body_len}
use Rattle.entries.specs.Entries.{Sized}
use Rattle.journal.proofs.laws.Bodies.{lengths}
use Rattle.journal.specs.declared.Way.{Way}
use Rattle.journal.specs.Bytes.{body_of, entry_for, entry_bytes}
use Rattle.journal.specs.Read.{found_for}

-- ---- parts of lent bytes

-- bytes written to the front of the part from a place to the end
pub tail_pasted : (j x bs : List ℕ) (at : ℕ) → x ≡ pasted 0 bs (take (length j - at) (drop at j)) → take at j ++ (x ++ drop (length j - at) (drop at j)) ≡ pasted at bs j
unfolding pasted
tail_pasted j x bs at p =
    let z : drop (length j - at) (drop at j) ≡ [] = drop_of_length-le (drop at j) {i = length j - at} (simp length-drop (omega arith)) in
    rw (p, z, append-nil, tail_part, zero-add, drop-drop)

-- the part between two places zeroed
pub part_zeroed : (j x : List ℕ) (at end : ℕ) → at ≤ end → end ≤ length j → x ≡ replicate (length (take (end - at) (drop at j))) 0
    → take at j ++ (x ++ drop (end - at) (drop at j)) ≡ pasted at (replicate (end - at) 0) j
unfolding pasted
part_zeroed j x at end h k p =
    let n : length (take (end - at) (drop at j)) ≡ end - at = length-take-le (end - at) (drop at j) (simp length-drop (omega arith)) in
    rw (p, n, length-replicate, drop-drop)

-- ---- by kind

-- no body is longer than the throttles'
abbrev under : ℕ → List ℕ → Bool
under m [] = true
under m (x ∷ l) = cond (leb x m) (under m l) false

under_both : (m x : ℕ) (b : Bool) → cond (leb x m) b false ≡ true → (x ≤ m) × (b ≡ true)
under_both m x b h = go (leb x m) refl h
  where
    go : (t : Bool) → leb x m ≡ t → cond t b false ≡ true → (x ≤ m) × (b ≡ true)
    go true e h = (leb-true x m e, h)
    go false e h = absurd (false≢true h)

get_d_under : (m : ℕ) (l : List ℕ) (i : ℕ) → under m l ≡ true → get_or l i 0 ≤ m
get_d_under m [] i h = omega arith
get_d_under m (x ∷ l) zero h = (under_both m x (under m l) h).0
get_d_under m (x ∷ l) (suc i) h = get_d_under m l i (under_both m x (under m l) h).1

pub body_short : (k : ℕ) → body_len k ≤ 163
unfolding body_len
body_short k = get_d_under 163 body_lengths k refl

pub entry_sized : (e : Edit) → length e.tables.thermal ≡ 9 → length e.tables.throttles.sets ≡ 160 → Sized (entry_for e)
unfolding entry_for
entry_sized e n m = let l = lengths e.tables e.change n m in (sym l.0, omega (arith, l.0, l.1))

pub room_for : (k n m : ℕ) → k ≡ n → body_len k ≤ m → body_len n ≤ m
room_for k n m e h = subst (λ (i : ℕ). body_len i ≤ m) e h

pub put_by : (e : Edit) (ch : Change) (d x : List ℕ) → e.change ≡ ch → x ≡ pasted 0 (kind_of ch ∷ body_of e.tables ch) d → x ≡ pasted 0 (entry_bytes e) d
unfolding entry_bytes entry_for bytes_of
put_by e ch d x h p = p ∙ sym (ap (λ (c : Change). pasted 0 (kind_of c ∷ body_of e.tables c) d) h)

pub put_room : (e : Edit) (ch : Change) (n : ℕ) → e.change ≡ ch → body_len (kind_of e.change) + 1 ≤ n → body_len (kind_of ch) + 1 ≤ n
put_room e ch n h p = subst (λ (c : Change). body_len (kind_of c) + 1 ≤ n) h p

-- ---- what was got

module _ (w : Way) (k : ℕ) (e : List ℕ) (f : Option Change) (found : f ≡ found_for w k (take (length e - 1) (drop 1 e))) where
  found_is : f ≡ found_for w k (drop 1 e)
  found_is = found ∙ ap (found_for w k) (tail_part e 1)

-- ---- room

pub add_room : (used n m l : ℕ) → n ≡ m → used ≤ l → n ≤ l - used → used + m ≤ l
add_room used n m l p h k = omega (arith, p)

pub append_room : (j : List ℕ) (used n : ℕ) → used + n ≤ length j → n ≤ length (take (length j - used) (drop used j))
append_room j used n h = rw (tail_part j used, length-drop) (omega arith)

-- a part copied over a whole array
pub part_copied : (b d x : List ℕ) (at n : ℕ) → at + n ≤ length b → length d ≡ n → x ≡ pasted 0 (take n (drop at b)) d → x ≡ take n (drop at b)
unfolding pasted
part_copied b d x at n h l p =
    let m : length (take n (drop at b)) ≡ n = length-take-le n (drop at b) (simp length-drop (omega arith)) in
    let z : drop (0 + length (take n (drop at b))) d ≡ [] = drop_of_length-le d {i = 0 + length (take n (drop at b))} (omega (arith, m)) in
    p ∙ rw (z, append-nil)

-- the same, with its bounds as the code writes them
pub copied_from : (b d x : List ℕ) (at n : ℕ) → at + n ≤ length b → length d ≡ n → x ≡ pasted 0 (take (at + n - at) (drop at b)) d → x ≡ take n (drop at b)
copied_from b d x at n h l p = part_copied b d x at n h l (p ∙ ap (λ (k : ℕ). pasted 0 (take k (drop at b)) d) (add-sub_cancel_left at n))
