-- A head written around the stores that stand in the lent bytes. Assumes nothing.
use Prim.Native.Nat.{ℕ, ◌+◌, ◌≤◌}
use mathlib.Core.Path.{◌≡◌, sym, ap, ◌∙◌}
use mathlib.Core.List.{List}
use native.Mathlib.Omega.{arith}
use lib.ListN.{length, take, drop, length-drop}
use lib.Seq.{length-take-le, drop-drop}
use Rattle.wire.specs.Wire.{to_be, pasted, joined}
use Rattle.wire.proofs.laws.Wire.{drop_pasted, length_pasted, paste_self}
use Rattle.image.specs.declared.Head.{Head}
use Rattle.image.specs.Image.{record_rows, worked_rows, timer_rows, image_of, part_at, store_at, journal_in, redo_in, marks_in, with_part, with_store, session_in}
use Rattle.journal.specs.declared.Way.TheVariants.{Before, After}
use Rattle.layout.specs.Layout.{image_length}
use Rattle.image.proofs.laws.Stores.{part_pasted, store_long, store_back, store_below, marks_back, marks_store}
use Rattle.image.proofs.Fields.{filled, length_session, session_put}

-- a store has its 2,048 bytes
pub length_store : (b : List ℕ) → length b ≡ image_length → (at : ℕ) → at ≤ 2289 → length (part_at 2048 at b) ≡ 2048
length_store b long at h = length-take-le 2048 (drop at b) (simp length-drop (omega arith))

-- both stores and the marks written
pub stores_put : (d j r m x y z : List ℕ) → x ≡ pasted 239 j d → y ≡ pasted 2289 r x → z ≡ pasted 4337 m y → length d ≡ image_length → length j ≡ 2048 → length r ≡ 2048
    → length m ≡ 64 → (journal_in z ≡ j) × ((redo_in z ≡ r) × (marks_in z ≡ m))
unfolding store_at
stores_put d j r m x y z p q t long wj wr wm =
    let one : x ≡ with_store 239 j d = p ∙ part_pasted 2048 d j long wj 239 (omega arith) in
    let same : length x ≡ image_length = ap length one ∙ store_long d j long wj 239 (omega arith) in
    let two : y ≡ with_store 2289 r x = q ∙ part_pasted 2048 x r same wr 2289 (omega arith) in
    let still : length y ≡ image_length = ap length two ∙ store_long x r same wr 2289 (omega arith) in
    let three : z ≡ with_part 64 4337 m y = t ∙ part_pasted 64 y m still wm 4337 (omega arith) in (
      ap journal_in three ∙ marks_store y m still wm Before ∙ ap journal_in two ∙ store_below x r same wr 2289 (omega arith) 239 (omega arith) ∙ ap journal_in one ∙ store_back d j long wj 239 (omega arith),
      (ap redo_in three ∙ marks_store y m still wm After ∙ ap redo_in two ∙ store_back x r same wr 2289 (omega arith), ap marks_in three ∙ marks_back y m still wm),
    )

module _ (d : List ℕ) (long : length d ≡ image_length) (h : Head) (x y z a : List ℕ) (wide : length (joined (record_rows h.held)) ≡ 230)
    (p : x ≡ pasted 0 (joined (record_rows h.held)) d) (q : y ≡ pasted 230 (joined (worked_rows h.worked h.next h.used)) x)
    (r : z ≡ pasted 2287 (to_be 2 h.ahead) y) (t : a ≡ pasted 4401 (joined (timer_rows h.timer h.profile)) z) where
  abbrev first : List ℕ
  first = joined (record_rows h.held)

  -- what stands after the worked-out values stays
  tail_kept : drop 239 y ≡ drop 239 d
  unfolding joined worked_rows to_be
  tail_kept =
      let w = joined (worked_rows h.worked h.next h.used) in
      let fits : 0 + length first ≤ length d = omega arith in
      let same : length x ≡ length d = ap length p ∙ length_pasted 0 first d fits in
      let end : 0 + length first ≡ 230 = omega arith in
      let front : drop 230 x ≡ drop 230 d = ap (drop 230) p ∙ ap (λ (n : ℕ). drop n (pasted 0 first d)) (sym end) ∙ drop_pasted 0 first d fits ∙ ap (λ (n : ℕ). drop n d) end in
      ap (drop 239) q ∙ drop_pasted 230 w x (omega arith) ∙ sym (drop-drop 9 230 x) ∙ ap (drop 9) front ∙ drop-drop 9 230 d

  length_kept : length y ≡ image_length
  unfolding joined worked_rows to_be
  length_kept =
      let same : length x ≡ length d = ap length p ∙ length_pasted 0 first d (omega arith) in
      ap length q ∙ length_pasted 230 (joined (worked_rows h.worked h.next h.used)) x (omega arith) ∙ same ∙ long

  length_after : length z ≡ image_length
  unfolding to_be
  length_after = ap length r ∙ length_pasted 2287 (to_be 2 h.ahead) y (omega (arith, length_kept)) ∙ length_kept

  -- so does what stands after the redo store's used length
  end_kept : drop 2289 z ≡ drop 2289 d
  unfolding to_be
  end_kept =
      ap (drop 2289) r ∙ drop_pasted 2287 (to_be 2 h.ahead) y (omega (arith, length_kept))
      ∙ sym (drop-drop 2050 239 y) ∙ ap (drop 2050) tail_kept ∙ drop-drop 2050 239 d

  pub head_stands : a ≡ image_of (session_in h d)
  unfolding session_in
  head_stands =
      let journal : y ≡ pasted 239 (journal_in d) y = sym (paste_self 239 2048 y (omega (arith, length_kept))) ∙ ap (λ (l : List ℕ). pasted 239 (take 2048 l) y) tail_kept in
      let redo : z ≡ pasted 2289 (redo_in d) z = sym (paste_self 2289 2048 z (omega (arith, length_after))) ∙ ap (λ (l : List ℕ). pasted 2289 (take 2048 l) z) end_kept in
      let above : drop 4337 z ≡ drop 4337 d = sym (drop-drop 2048 2289 z) ∙ ap (drop 2048) end_kept ∙ drop-drop 2048 2289 d in
      let marks : z ≡ pasted 4337 (marks_in d) z = sym (paste_self 4337 64 z (omega (arith, length_after))) ∙ ap (λ (l : List ℕ). pasted 4337 (take 64 l) z) above in
      let one = length_store d long 239 (omega arith) in
      let two = length_store d long 2289 (omega arith) in
      let three : length (marks_in d) ≡ 64 = length-take-le 64 (drop 4337 d) (simp length-drop (omega arith)) in
      let all = session_put d (omega arith) (session_in h d) wide one two three x y y z z z a p q journal r redo marks t in
      filled image_length _ d a (length_session (session_in h d) wide one two three) all long
