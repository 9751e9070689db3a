-- What was found case by case is the order. Assumes nothing.
use Prim.Native.Nat.{ℕ, ◌+◌, ◌-◌, ◌<◌, ◌≤◌}
use mathlib.Core.Bool.{Bool, true, false, cond}
use mathlib.Core.Path.{◌≡◌, refl, sym, ap, ◌∙◌}
use mathlib.Core.List.{List, ◌++◌, append_assoc}
use native.Mathlib.Nat.{zero-add, add-sub_cancel_left}
use native.Mathlib.Omega.{arith}
use borrow.Author.Tests.{ltb-false}
use lib.Dec.{ltb}
use lib.ListN.{length, take, drop, length-take, length-drop, take-append-drop}
use lib.Seq.{drop-append-le, drop-drop}
use Rattle.wire.specs.Wire.{pasted}
use Rattle.wire.proofs.laws.Cases.{if_lt}
use Rattle.text.specs.declared.Fault.{Fault}
use Rattle.text.specs.declared.Number.{Number}
use Rattle.text.specs.declared.NumberError.{NumberError}
use Rattle.text.specs.declared.NumberError.TheVariants.{Missing, TooGreat}
use Rattle.std.specs.Prelude.{Option, Result, Ok, Err}
use Rattle.std.specs.List.{prefix_len}
use Rattle.text.specs.Text.{HexRun, hex_run, Takes}
use Rattle.text.specs.Text.{digit_at}
use Rattle.text.specs.Numbers.{value_from, decimal, number_by, number_at}
use Rattle.orders.specs.declared.Wrong.{Wrong}
use Rattle.orders.specs.declared.Wrong.TheVariants.{LongLine}
use Rattle.orders.specs.declared.Word.{Word}
use Rattle.orders.specs.declared.Order.{Order}
use Rattle.orders.specs.Orders.{wrong_at, bytes_by, image_by, ReadsAs, ordered, order_of}

-- ---- by the number

-- a number that was read is at most what it may be
fitting : (value past most : ℕ) {x : Result Number NumberError} {n : Number} → x ≡ number_by value past most → x ≡ Ok n → n.value ≤ most
unfolding number_by
fitting value past most {x} {n} e is = go (ltb most value) refl (sym is ∙ e)
  where
    go : (t : Bool) → ltb most value ≡ t → Ok n ≡ cond t (Err TooGreat) (Ok (record { value = value; past = past })) → n.value ≤ most
    go true h k = let z : ◌≡◌ {A = ℕ} 0 1 = cc in absurd (omega (arith, z))
    go false h k = let same : n.value ≡ value = cc in omega (arith, same, ltb-false most value h)

pub number_fits : (s : List ℕ) (at most : ℕ) {x : Result Number NumberError} {n : Number} → x ≡ number_at s at most → x ≡ Ok n → n.value ≤ most
unfolding number_at
number_fits s at most {x} {n} e is = go (ltb 9 (digit_at s at)) (sym is ∙ e)
  where
    go : (t : Bool) → Ok n ≡ cond t (Err Missing) (number_by (value_from 0 (drop at s)) (at + prefix_len decimal (drop at s)) most) → n.value ≤ most
    go true k = let z : ◌≡◌ {A = ℕ} 0 1 = cc in absurd (omega (arith, z))
    go false k = fitting (value_from 0 (drop at s)) (at + prefix_len decimal (drop at s)) most k refl

-- ---- by the run

reads_as : (line : List ℕ) (from : ℕ) {m room : ℕ} {d d' : List ℕ} {n : ℕ} {f : Option Fault} → m ≡ room → Takes (hex_run line from m) d d' n f → ReadsAs (hex_run line from room) n f
reads_as line from e t = record {
  count = t.count ∙ ap (λ (k : ℕ). length (hex_run line from k).bytes) e;
  wrong = t.wrong ∙ ap (λ (k : ℕ). (hex_run line from k).fault) e;
}

-- a part of the buffer was lent, and holds the bytes at its front
part_pasted : (at room : ℕ) (bs d : List ℕ) {part : List ℕ} → at + room ≤ length d → length bs ≤ room → part ≡ pasted 0 bs (take (at + room - at) (drop at d))
    → take at d ++ (part ++ drop (at + room - at) (drop at d)) ≡ pasted at bs d
unfolding pasted
part_pasted at room bs d {part} h k e =
    let inner : length bs ≤ length (take room (drop at d)) = simp (length-take, length-drop) (omega arith) in
    let rest : drop (length bs) (take room (drop at d)) ++ drop room (drop at d) ≡ drop (at + length bs) d =
    sym (drop-append-le (length bs) (take room (drop at d)) (drop room (drop at d)) inner) ∙ rw take-append-drop (drop-drop (length bs) at d) in
    rw (e, add-sub_cancel_left, zero-add, append_assoc) (ap (λ (l : List ℕ). take at d ++ (bs ++ l)) rest)

pub part_read : (line : List ℕ) (from at room : ℕ) (d : List ℕ) {m n : ℕ} {part : List ℕ} {f : Option Fault} → at + room ≤ length d → m ≡ room → n ≤ room
    → Takes (hex_run line from m) (take (at + room - at) (drop at d)) part n f
    → ReadsAs (hex_run line from room) n f × ((take at d ++ (part ++ drop (at + room - at) (drop at d)) ≡ pasted at (hex_run line from room).bytes d) × (n ≤ room))
part_read line from at room d h e k t =
    let reads : ReadsAs (hex_run line from room) _ _ = reads_as line from e t in
    let stands = t.stands ∙ ap (λ (x : ℕ). pasted 0 (hex_run line from x).bytes (take (at + room - at) (drop at d))) e in
    (reads, (part_pasted at room (hex_run line from room).bytes d h (omega (arith, reads.count)) stands, k))

module _ {q : HexRun} {n : ℕ} {f : Option Fault} {r : Order} {d d' : List ℕ} (h : ReadsAs q n f) (p : d' ≡ d) where
  pub bytes_as : (over : Wrong) (w : Word) (due end : ℕ) → r ≡ bytes_by f over w n due end
      → ordered r d' ≡ ordered (bytes_by q.fault over w (length q.bytes) due end) d
  bytes_as over w due end e =
      let o : r ≡ bytes_by q.fault over w (length q.bytes) due end =
      e ∙ ap (λ (x : Option Fault). bytes_by x over w n due end) h.wrong ∙ ap (λ (m : ℕ). bytes_by q.fault over w m due end) h.count in
      rw (o, p)

  pub image_as : r ≡ image_by f n → ordered r d' ≡ ordered (image_by q.fault (length q.bytes)) d
  image_as e =
      let o : r ≡ image_by q.fault (length q.bytes) = e ∙ ap (λ (x : Option Fault). image_by x n) h.wrong ∙ ap (λ (m : ℕ). image_by q.fault m) h.count in
      rw (o, p)
