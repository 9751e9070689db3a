-- A store in lent bytes: what stands there after it was changed, and that the other one stays. Assumes nothing.
use Rattle.std.specs.Prelude.{ℕ, ◌+◌, ◌-◌, ◌≤◌, ◌≡◌, length}
use Rattle.std.proofs.Math.Path.{sym, ap}
use Rattle.std.proofs.Common.{◌∙◌, arith, length-append, length-drop, take-append-drop, take_at, drop_at, drop-drop, length-take-le}
use mathlib.Core.List.{List, ◌++◌}
use Rattle.std.proofs.Math.Nat.{add-sub_cancel_left}
use Rattle.std.proofs.Math.ListN.{take, drop}
use Rattle.std.proofs.Math.Seq.{drop-append-add}
use Rattle.wire.specs.Wire.{pasted}
use Rattle.wire.proofs.laws.Wire.{part_of_part}
use Rattle.journal.specs.declared.Way.{Way}
use Rattle.journal.specs.declared.Way.TheVariants.{Before, After}
use Rattle.image.specs.Image.{part_at, store_at, store_in, with_part, with_store, marks_in}
use Rattle.layout.specs.Layout.{marks_at, image_length}

pub store_low : (w : Way) → store_at w ≤ 2289
unfolding store_at
store_low Before = omega arith
store_low After = omega arith

-- ---- n bytes at a place

module _ (n : ℕ) (b x : List ℕ) (long : length b ≡ image_length) (wide : length x ≡ n) (at : ℕ) (low : at + n ≤ image_length) where
  front : length (take at b) ≡ at
  front = length-take-le at b (omega arith)

  pub part_long : length (with_part n at x b) ≡ image_length
  part_long = simp (length-append, length-drop) (omega (arith, front, wide, long))

  pub part_back : part_at n at (with_part n at x b) ≡ x
  part_back = ap (take n) (drop_at (take at b) (x ++ drop n (drop at b)) at front) ∙ take_at x (drop n (drop at b)) n wide

  -- a part that begins where this one ends or later, and one that ends where it begins or earlier
  pub part_above : (m k : ℕ) → part_at m (at + (n + k)) (with_part n at x b) ≡ part_at m (at + (n + k)) b
  part_above m k =
      let rest = drop n (drop at b) in
      let past : drop (at + (n + k)) (with_part n at x b) ≡ drop (n + k) (x ++ rest) =
      ap (λ (l : ℕ). drop (l + (n + k)) (with_part n at x b)) (sym front) ∙ drop-append-add (take at b) (x ++ rest) (n + k) in
      let over : drop (n + k) (x ++ rest) ≡ drop k rest = ap (λ (l : ℕ). drop (l + k) (x ++ rest)) (sym wide) ∙ drop-append-add x rest k in
      let back : drop k rest ≡ drop (at + (n + k)) b = drop-drop k n (drop at b) ∙ drop-drop (n + k) at b in
      ap (take m) (past ∙ over ∙ back)

  pub part_below : (m p : ℕ) → p + m ≤ at → part_at m p (with_part n at x b) ≡ part_at m p b
  part_below m p h =
      sym (part_of_part m p at (with_part n at x b) h)
      ∙ ap (λ (l : List ℕ). take m (drop p l)) (take_at (take at b) (x ++ drop n (drop at b)) at front)
      ∙ part_of_part m p at b h

  pub part_pasted : pasted at x b ≡ with_part n at x b
  unfolding pasted
  part_pasted = ap (λ (l : List ℕ). take at b ++ (x ++ l)) (ap (λ (l : ℕ). drop (at + l) b) wide ∙ sym (drop-drop n at b))

-- the part that stands there changes nothing
pub part_same : (n : ℕ) (b x : List ℕ) (at : ℕ) → x ≡ part_at n at b → with_part n at x b ≡ b
part_same n b x at e =
    ap (λ (y : List ℕ). with_part n at y b) e ∙ ap (λ (l : List ℕ). take at b ++ l) (take-append-drop n (drop at b)) ∙ take-append-drop at b

-- ---- a store

module _ (b x : List ℕ) (long : length b ≡ image_length) (wide : length x ≡ 2048) (at : ℕ) (low : at ≤ 2289) where
  pub store_long : length (with_store at x b) ≡ image_length
  store_long = part_long 2048 b x long wide at (omega arith)

  pub store_back : part_at 2048 at (with_store at x b) ≡ x
  store_back = part_back 2048 b x long wide at (omega arith)

  pub store_above : (k : ℕ) → part_at 2048 (at + (2048 + k)) (with_store at x b) ≡ part_at 2048 (at + (2048 + k)) b
  store_above = part_above 2048 b x long wide at (omega arith) 2048

  pub store_below : (p : ℕ) → p + 2048 ≤ at → part_at 2048 p (with_store at x b) ≡ part_at 2048 p b
  store_below = part_below 2048 b x long wide at (omega arith) 2048

  -- the marks stand above both
  pub store_marks : marks_in (with_store at x b) ≡ marks_in b
  store_marks =
      let is : at + (2048 + (2289 - at)) ≡ marks_at = omega arith in
      ap (λ (p : ℕ). part_at 64 p (with_store at x b)) (sym is) ∙ part_above 2048 b x long wide at (omega arith) 64 (2289 - at) ∙ ap (λ (p : ℕ). part_at 64 p b) is

-- the store that stands there changes nothing
pub store_same : (b x : List ℕ) (at : ℕ) → x ≡ part_at 2048 at b → with_store at x b ≡ b
store_same = part_same 2048

-- ---- the marks

module _ (b x : List ℕ) (long : length b ≡ image_length) (wide : length x ≡ 64) where
  pub marks_long : length (with_part 64 marks_at x b) ≡ image_length
  marks_long = part_long 64 b x long wide marks_at (omega arith)

  pub marks_back : marks_in (with_part 64 marks_at x b) ≡ x
  marks_back = part_back 64 b x long wide marks_at (omega arith)

  pub marks_store : (w : Way) → store_in w (with_part 64 marks_at x b) ≡ store_in w b
  marks_store w = part_below 64 b x long wide marks_at (omega arith) 2048 (store_at w) (omega (arith, store_low w))

-- the part that is lent, from a place to 2,048 bytes on
pub lent_part : (b : List ℕ) (at : ℕ) → take (at + 2048 - at) (drop at b) ≡ part_at 2048 at b
lent_part b at = ap (λ (n : ℕ). take n (drop at b)) (add-sub_cancel_left at 2048)

pub lent_back : (b x : List ℕ) (at : ℕ) → take at b ++ (x ++ drop (at + 2048 - at) (drop at b)) ≡ with_store at x b
lent_back b x at = ap (λ (n : ℕ). take at b ++ (x ++ drop n (drop at b))) (add-sub_cancel_left at 2048)
