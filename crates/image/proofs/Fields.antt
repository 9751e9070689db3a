-- An image written row after row, from a place on. Assumes nothing.
use Prim.Native.Nat.{ℕ, ◌+◌, ◌≤◌}
use mathlib.Core.Path.{◌≡◌, refl, sym, ap, ap₂, ◌∙◌}
use mathlib.Core.List.{List, [], ◌∷◌, ◌++◌, append_assoc, append-nil}
use native.Mathlib.Nat.{add_assoc, zero-add}
use native.Mathlib.Omega.{arith}
use lib.Dec.{lit<}
use lib.ListN.{length, take, drop, length-append, drop_of_length-le}
use lib.Seq.{drop-drop}
use Rattle.wire.specs.Wire.{sum_of, to_be, pasted, joined}
use Rattle.wire.proofs.laws.Wire.{take_pasted, drop_pasted, joined_append}
use Rattle.record.specs.declared.Caps.{Caps}
use Rattle.record.specs.declared.Areas.{Areas}
use Rattle.record.specs.declared.Deadman.{Deadman}
use Rattle.record.specs.declared.Record.{Record}
use Rattle.record.specs.declared.Throttles.{Throttles}
use Rattle.record.specs.declared.Timer.{Timer}
use Rattle.record.specs.declared.Worked.{Worked}
use Rattle.session.specs.declared.Session.{Session}
use Rattle.image.specs.Rows.{widths_of}
use Rattle.image.proofs.laws.Rows.{length_joined}
use Rattle.image.proofs.laws.Image.{record_widths, widths_record}
use Rattle.image.specs.Image.{byte, head_rows, throttles_rows, thermal_rows, logs_rows, mailbox_rows, worked_rows, record_rows, timer_rows, later_rows, session_rows, image_of}
use Rattle.layout.specs.Layout.{timer_at, image_length}

-- bytes written after those that were written from a place on
pub paste_on : (at : ℕ) (xs bs d : List ℕ) → at + length xs ≤ length d → pasted (at + length xs) bs (pasted at xs d) ≡ pasted at (xs ++ bs) d
unfolding pasted
paste_on at xs bs d h =
    ap₂ (λ (a b : List ℕ). a ++ (bs ++ b)) (take_pasted at xs d h) back
    ∙ append_assoc (take at d) xs (bs ++ drop (at + length (xs ++ bs)) d)
    ∙ ap (λ (l : List ℕ). take at d ++ l) (sym (append_assoc xs bs (drop (at + length (xs ++ bs)) d)))
  where
    back : drop (at + length xs + length bs) (pasted at xs d) ≡ drop (at + length (xs ++ bs)) d
    back =
        sym (drop-drop (length bs) (at + length xs) (pasted at xs d))
        ∙ ap (drop (length bs)) (drop_pasted at xs d h)
        ∙ drop-drop (length bs) (at + length xs) d
        ∙ ap (λ (n : ℕ). drop n d) (add_assoc at (length xs) (length bs) ∙ ap (λ (n : ℕ). at + n) (sym (length-append xs bs)))

-- where rows of these widths end
from_front_lem : (rs : List (List ℕ)) (ws : List ℕ) → widths_of rs ≡ ws → 0 + length (joined rs) ≡ sum_of ws
from_front_lem rs ws e = zero-add (length (joined rs)) ∙ length_joined rs ∙ ap sum_of e

pub length_record : (r : Record) → length r.throttles.sets ≡ 160 → length r.thermal ≡ 9 → length (joined (record_rows r)) ≡ 230
unfolding sum_of record_widths
length_record r sets thermal = length_joined (record_rows r) ∙ ap sum_of (widths_record r sets thermal)

pub length_session : (s : Session) → length (joined (record_rows s.held)) ≡ 230 → length s.journal ≡ 2048 → length s.redo ≡ 2048 → length s.marks ≡ 64
    → length (image_of s) ≡ image_length
unfolding sum_of widths_of image_of session_rows worked_rows timer_rows to_be
length_session s h e f g =
    let rest = worked_rows s.worked s.next s.used ++ (s.journal ∷ to_be 2 s.ahead ∷ s.redo ∷ later_rows s) in
    let m = length_joined rest ∙ ap sum_of (λ i. 2 ∷ 1 ∷ 1 ∷ 1 ∷ 2 ∷ 2 ∷ e i ∷ 2 ∷ f i ∷ g i ∷ 1 ∷ 8 ∷ 1 ∷ []) in
    ap length (joined_append (record_rows s.held) rest) ∙ length-append (joined (record_rows s.held)) (joined rest) ∙ ap₂ (λ (a b : ℕ). a + b) h m

-- a buffer that is filled by what is written
pub filled : (n : ℕ) (bs d x : List ℕ) → length bs ≡ n → x ≡ pasted 0 bs d → length d ≡ n → x ≡ bs
unfolding pasted
filled n bs d x h p e =
    let z : drop (0 + length bs) d ≡ [] = drop_of_length-le d {i = 0 + length bs} (omega arith) in
    p ∙ rw (z, append-nil)

-- so far the first `top` bytes of d are written
module _ (top : ℕ) (d : List ℕ) (long : top ≤ length d) where
  -- rows written after rows: x holds the ones from `at` on, y the others from `m` on too
  rows_on : (at m : ℕ) (rs ss : List (List ℕ)) (x y : List ℕ) → m ≤ top → at + length (joined rs) ≡ m → x ≡ pasted at (joined rs) d → y ≡ pasted m (joined ss) x
      → y ≡ pasted at (joined (rs ++ ss)) d
  rows_on at m rs ss x y h e p q =
      q ∙ ap₂ (λ (n : ℕ) (l : List ℕ). pasted n (joined ss) l) (sym e) p
      ∙ paste_on at (joined rs) (joined ss) d (omega arith)
      ∙ ap (λ (l : List ℕ). pasted at l d) (sym (joined_append rs ss))

  row_on : (at m : ℕ) (rs : List (List ℕ)) (r x y : List ℕ) → m ≤ top → at + length (joined rs) ≡ m → x ≡ pasted at (joined rs) d → y ≡ pasted m r x
      → y ≡ pasted at (joined (rs ++ (r ∷ []))) d
  unfolding joined
  row_on at m rs r x y h e p q = rows_on at m rs (r ∷ []) x y h e p (q ∙ ap (λ (l : List ℕ). pasted m l x) (sym (append-nil r)))

module _ (d : List ℕ) (long : 239 ≤ length d) where
  pub head_put : (state role : ℕ) (caps : Caps) (w x y z : List ℕ) → w ≡ pasted 0 (state ∷ role ∷ []) d → x ≡ pasted 2 (to_be 2 caps.min) w
      → y ≡ pasted 4 (to_be 2 caps.max) x → z ≡ pasted 6 (to_be 2 caps.over) y → z ≡ pasted 0 (joined (head_rows state role caps)) d
  unfolding joined head_rows to_be
  head_put state role caps w x y z p q r s =
      let two = row_on 239 d long 0 2 (byte state ∷ byte role ∷ []) (to_be 2 caps.min) w x (lit< tt) refl p q in
      let three = row_on 239 d long 0 4 (byte state ∷ byte role ∷ to_be 2 caps.min ∷ []) (to_be 2 caps.max) x y (lit< tt) refl two r in
      row_on 239 d long 0 6 (byte state ∷ byte role ∷ to_be 2 caps.min ∷ to_be 2 caps.max ∷ []) (to_be 2 caps.over) y z (lit< tt) refl three s

  pub throttles_put : (t : Throttles) (x y : List ℕ) → x ≡ pasted 8 (to_be 2 t.present) d → y ≡ pasted 10 t.sets x → y ≡ pasted 8 (joined (throttles_rows t)) d
  unfolding joined throttles_rows to_be
  throttles_put t x y p q = row_on 239 d long 8 10 (to_be 2 t.present ∷ []) t.sets x y (lit< tt) refl p q

  pub thermal_put : (user : ℕ) (thermal x y : List ℕ) → x ≡ pasted 170 (to_be 2 user) d → y ≡ pasted 172 thermal x → y ≡ pasted 170 (joined (thermal_rows user thermal)) d
  unfolding joined thermal_rows to_be
  thermal_put user thermal x y p q = row_on 239 d long 170 172 (to_be 2 user ∷ []) thermal x y (lit< tt) refl p q

  pub mailbox_put : (mask : ℕ) (k : Deadman) (a : Areas) (t u v w x y z : List ℕ) → t ≡ pasted 193 (to_be 4 mask) d → u ≡ pasted 197 (byte k.running) t
      → v ≡ pasted 198 (to_be 8 k.time) u → w ≡ pasted 206 (to_be 8 a.ffdc.address) v → x ≡ pasted 214 (to_be 4 a.ffdc.size) w
      → y ≡ pasted 218 (to_be 8 a.pass.address) x → z ≡ pasted 226 (to_be 4 a.pass.size) y → z ≡ pasted 193 (joined (mailbox_rows mask k a)) d
  unfolding joined mailbox_rows to_be
  mailbox_put mask k a t u v w x y z e f g h i j l =
      let b = to_be 4 mask ∷ [] in
      let two = row_on 239 d long 193 197 b (byte k.running) t u (lit< tt) refl e f in
      let three = row_on 239 d long 193 198 (b ++ (byte k.running ∷ [])) (to_be 8 k.time) u v (lit< tt) refl two g in
      let c = b ++ (byte k.running ∷ to_be 8 k.time ∷ []) in
      let four = row_on 239 d long 193 206 c (to_be 8 a.ffdc.address) v w (lit< tt) refl three h in
      let five = row_on 239 d long 193 214 (c ++ (to_be 8 a.ffdc.address ∷ [])) (to_be 4 a.ffdc.size) w x (lit< tt) refl four i in
      let n = c ++ (to_be 8 a.ffdc.address ∷ to_be 4 a.ffdc.size ∷ []) in
      let six = row_on 239 d long 193 218 n (to_be 8 a.pass.address) x y (lit< tt) refl five j in
      row_on 239 d long 193 226 (n ++ (to_be 8 a.pass.address ∷ [])) (to_be 4 a.pass.size) y z (lit< tt) refl six l

  pub worked_put : (k : Worked) (next used : ℕ) (w x y z : List ℕ) → w ≡ pasted 230 (to_be 2 k.limit) d
      → x ≡ pasted 232 (k.observation ∷ k.active ∷ k.wanted ∷ []) w → y ≡ pasted 235 (to_be 2 next) x → z ≡ pasted 237 (to_be 2 used) y
      → z ≡ pasted 230 (joined (worked_rows k next used)) d
  unfolding joined worked_rows to_be
  worked_put k next used w x y z p q r s =
      let marks = byte k.observation ∷ byte k.active ∷ byte k.wanted ∷ [] in
      let two = rows_on 239 d long 230 232 (to_be 2 k.limit ∷ []) marks w x (lit< tt) refl p q in
      let three = row_on 239 d long 230 235 (to_be 2 k.limit ∷ marks) (to_be 2 next) x y (lit< tt) refl two r in
      row_on 239 d long 230 237 (to_be 2 k.limit ∷ (marks ++ (to_be 2 next ∷ []))) (to_be 2 used) y z (lit< tt) refl three s

  pub record_put : (r : Record) → length r.throttles.sets ≡ 160 → length r.thermal ≡ 9 → (v w x y z : List ℕ) → v ≡ pasted 0 (joined (head_rows r.state r.role r.caps)) d → w ≡ pasted 8 (joined (throttles_rows r.throttles)) v
      → x ≡ pasted 170 (joined (thermal_rows r.user r.thermal)) w → y ≡ pasted 181 (joined (logs_rows r.received r.logs)) x
      → z ≡ pasted 193 (joined (mailbox_rows r.mask r.deadman r.areas)) y → z ≡ pasted 0 (joined (record_rows r)) d
  unfolding sum_of widths_of record_widths record_rows head_rows throttles_rows thermal_rows logs_rows mailbox_rows to_be
  record_put r sets thermal v w x y z e f g h j =
      let one = head_rows r.state r.role r.caps in
      let two = one ++ throttles_rows r.throttles in
      let three = two ++ thermal_rows r.user r.thermal in
      let four = three ++ logs_rows r.received r.logs in
      let p = rows_on 239 d long 0 8 one (throttles_rows r.throttles) v w (lit< tt) (from_front_lem one (1 ∷ 1 ∷ 2 ∷ 2 ∷ 2 ∷ []) refl) e f in
      let q = rows_on 239 d long 0 170 two (thermal_rows r.user r.thermal) w x (lit< tt) (from_front_lem two (1 ∷ 1 ∷ 2 ∷ 2 ∷ 2 ∷ 2 ∷ 160 ∷ []) (λ i. 1 ∷ 1 ∷ 2 ∷ 2 ∷ 2 ∷ 2 ∷ sets i ∷ [])) p g in
      let k = rows_on 239 d long 0 181 three (logs_rows r.received r.logs) x y (lit< tt) (from_front_lem three (1 ∷ 1 ∷ 2 ∷ 2 ∷ 2 ∷ 2 ∷ 160 ∷ 2 ∷ 9 ∷ []) (λ i. 1 ∷ 1 ∷ 2 ∷ 2 ∷ 2 ∷ 2 ∷ sets i ∷ 2 ∷ thermal i ∷ [])) q h in
      rows_on 239 d long 0 193 four (mailbox_rows r.mask r.deadman r.areas) y z (lit< tt) (from_front_lem four (take 21 record_widths) (ap (take 21) (widths_record r sets thermal))) k j

pub timer_put : (d : List ℕ) → image_length ≤ length d → (t : Timer) (profile : ℕ) (x y z : List ℕ) → x ≡ pasted 4401 (byte t.running) d → y ≡ pasted 4402 (to_be 8 t.left) x
    → z ≡ pasted 4410 (byte profile) y → z ≡ pasted timer_at (joined (timer_rows t profile)) d
unfolding joined timer_rows to_be
timer_put d long t profile x y z p q r =
    let both = row_on 4402 d (omega arith) 4401 4402 (byte t.running ∷ []) (to_be 8 t.left) x y (lit< tt) refl p q in
    row_on 4410 d (omega arith) 4401 4410 (byte t.running ∷ to_be 8 t.left ∷ []) (byte profile) y z (lit< tt) refl both r

-- the whole image, field after field
module _ (d : List ℕ) (long : 4401 ≤ length d) (s : Session) (wide : length (joined (record_rows s.held)) ≡ 230) (journal : length s.journal ≡ 2048)
    (redo : length s.redo ≡ 2048) (marks : length s.marks ≡ 64) where
  abbrev head : List (List ℕ)
  head = record_rows s.held ++ worked_rows s.worked s.next s.used

  length_head : length (joined head) ≡ 239
  unfolding joined worked_rows to_be
  length_head =
      ap length (joined_append (record_rows s.held) (worked_rows s.worked s.next s.used)) ∙ length-append (joined (record_rows s.held)) _ ∙ ap (λ (n : ℕ). n + 9) wide

  -- one row more
  row_long : (rs : List (List ℕ)) (r : List ℕ) (n m : ℕ) → length (joined rs) ≡ n → length r ≡ m → length (joined (rs ++ (r ∷ []))) ≡ n + m
  unfolding joined
  row_long rs r n m p q =
      ap length (joined_append rs (r ∷ []) ∙ ap (λ (l : List ℕ). joined rs ++ l) (append-nil r)) ∙ length-append (joined rs) r ∙ ap₂ (λ (a b : ℕ). a + b) p q

  abbrev to_journal : List (List ℕ)
  to_journal = head ++ (s.journal ∷ [])

  abbrev to_ahead : List (List ℕ)
  to_ahead = to_journal ++ (to_be 2 s.ahead ∷ [])

  abbrev to_redo : List (List ℕ)
  to_redo = to_ahead ++ (s.redo ∷ [])

  abbrev to_marks : List (List ℕ)
  to_marks = to_redo ++ (s.marks ∷ [])

  length_journal : length (joined to_journal) ≡ 2287
  length_journal = row_long head s.journal 239 2048 length_head journal

  length_ahead : length (joined to_ahead) ≡ 2289
  unfolding to_be
  length_ahead = row_long to_journal (to_be 2 s.ahead) 2287 2 length_journal refl

  length_redo : length (joined to_redo) ≡ 4337
  length_redo = row_long to_ahead s.redo 2289 2048 length_ahead redo

  length_marks : length (joined to_marks) ≡ 4401
  length_marks = row_long to_redo s.marks 4337 64 length_redo marks

  pub session_put : (x y u v w z a : List ℕ) → x ≡ pasted 0 (joined (record_rows s.held)) d → y ≡ pasted 230 (joined (worked_rows s.worked s.next s.used)) x
      → u ≡ pasted 239 s.journal y → v ≡ pasted 2287 (to_be 2 s.ahead) u → w ≡ pasted 2289 s.redo v → z ≡ pasted 4337 s.marks w
      → a ≡ pasted 4401 (joined (timer_rows s.timer s.profile)) z → a ≡ pasted 0 (image_of s) d
  unfolding image_of session_rows
  session_put x y u v w z a p q r t k m n =
      let timer = timer_rows s.timer s.profile in
      let two = rows_on 4401 d long 0 230 (record_rows s.held) (worked_rows s.worked s.next s.used) x y (lit< tt) (zero-add _ ∙ wide) p q in
      let three = row_on 4401 d long 0 239 head s.journal y u (lit< tt) (zero-add _ ∙ length_head) two r in
      let four = row_on 4401 d long 0 2287 to_journal (to_be 2 s.ahead) u v (lit< tt) (zero-add _ ∙ length_journal) three t in
      let five = row_on 4401 d long 0 2289 to_ahead s.redo v w (lit< tt) (zero-add _ ∙ length_ahead) four k in
      let six = row_on 4401 d long 0 4337 to_redo s.marks w z (lit< tt) (zero-add _ ∙ length_redo) five m in
      rows_on 4401 d long 0 4401 to_marks timer z a (omega arith) (zero-add _ ∙ length_marks) six n
      ∙ ap (λ (l : List (List ℕ)). pasted 0 (joined l) d)
      (append_assoc to_redo (s.marks ∷ []) timer
      ∙ append_assoc to_ahead (s.redo ∷ []) (s.marks ∷ timer)
      ∙ append_assoc to_journal (to_be 2 s.ahead ∷ []) (s.redo ∷ s.marks ∷ timer)
      ∙ append_assoc head (s.journal ∷ []) (to_be 2 s.ahead ∷ s.redo ∷ s.marks ∷ timer)
      ∙ append_assoc (record_rows s.held) (worked_rows s.worked s.next s.used) (s.journal ∷ to_be 2 s.ahead ∷ s.redo ∷ s.marks ∷ timer))
