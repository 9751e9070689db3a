-- The reply's bytes as the code writes them. Assumes nothing.
use Prim.Native.Nat.{ℕ, ◌+◌, ◌*◌, ◌/◌, ◌%◌, ◌<◌}
use mathlib.Core.Path.{◌≡◌, refl, sym, ◌∙◌}
use mathlib.Core.List.{List, [], ◌∷◌, ◌++◌, append-nil}
use native.Mathlib.Omega.{arith}
use lib.ListN.{length, drop, drop_of_length-le}
use Rattle.wire.specs.Wire.{to_be, pasted}
use Rattle.wire.proofs.laws.Wire.{field_next}
use Rattle.record.specs.declared.Caps.{Caps}
use Rattle.poll.specs.Poll.{log_length, code_level, sensor_text, poll_head, caps_block}

-- ---- the 40 bytes: a log's address and length, as numbers of several bytes

address_bytes : (id : ℕ) → id < 256 → to_be 4 (id * 256) ≡ 0 ∷ 0 ∷ id ∷ 0 ∷ []
unfolding to_be
address_bytes id h =
    let high : id * 256 / 256 ≡ id = omega arith in
    let low : id * 256 % 256 ≡ 0 = omega arith in
    let none : id / 256 ≡ 0 = omega arith in
    let same : id % 256 ≡ id = omega arith in
    rw (high, low, none, same)

length_bytes : (n : ℕ) → n < 256 → to_be 2 n ≡ 0 ∷ n ∷ []
unfolding to_be
length_bytes n h =
    let none : n / 256 ≡ 0 = omega arith in
    let same : n % 256 ≡ n = omega arith in
    rw (none, same)

pub head_bytes : (status wanted state id blocks len : ℕ) → id < 256 → len < 256 → len ≡ log_length id
    → status ∷ 0 ∷ 0x01 ∷ wanted ∷ state ∷ 0 ∷ 0 ∷ id ∷ 0 ∷ 0 ∷ id ∷ 0 ∷ 0 ∷ len ∷ 0 ∷ 0 ∷ (code_level ++ (sensor_text ++ (blocks ∷ 0x01 ∷ [])))
    ≡ poll_head status wanted state id blocks
unfolding poll_head
head_bytes status wanted state id blocks len h l e = rw (address_bytes id h, ← e, length_bytes len l)

-- ---- parts written one after the other, over a whole array

whole : (xs d y : List ℕ) → y ≡ pasted 0 xs d → length xs ≡ length d → y ≡ xs
unfolding pasted
whole xs d y p e =
    let z : drop (0 + length xs) d ≡ [] = drop_of_length-le d {i = 0 + length xs} (omega arith) in
    p ∙ rw (z, append-nil)

pub both_put : (xs bs d x y : List ℕ) (at : ℕ) → x ≡ pasted 0 xs d → y ≡ pasted at bs x → at ≡ length xs → length (xs ++ bs) ≡ length d → y ≡ xs ++ bs
both_put xs bs d x y at p q e l = whole (xs ++ bs) d y (field_next at xs bs d x y p q e) l

-- the CAPS block's header
abbrev header : List ℕ
header = 0x43 ∷ 0x41 ∷ 0x50 ∷ 0x53 ∷ 0x00 ∷ 0x01 ∷ 0x0C ∷ 0x01 ∷ []

pub block_put : (limit : ℕ) (caps : Caps) (user : ℕ) (d a b c e f g h : List ℕ) → length d ≡ 20
    → a ≡ pasted 0 header d → b ≡ pasted 8 (to_be 2 limit) a → c ≡ pasted 10 (to_be 2 0) b → e ≡ pasted 12 (to_be 2 caps.max) c
    → f ≡ pasted 14 (to_be 2 caps.max) e → g ≡ pasted 16 (to_be 2 caps.min) f → h ≡ pasted 18 (to_be 2 user) g
    → h ≡ caps_block limit caps user
unfolding caps_block to_be
block_put limit caps user d a b c e f g h l p q r s t u v =
    let two = header ++ to_be 2 limit in
    let three = two ++ to_be 2 0 in
    let four = three ++ to_be 2 caps.max in
    let five = four ++ to_be 2 caps.max in
    let six = five ++ to_be 2 caps.min in
    let i = field_next 8 header (to_be 2 limit) d a b p q refl in
    let j = field_next 10 two (to_be 2 0) d b c i r refl in
    let k = field_next 12 three (to_be 2 caps.max) d c e j s refl in
    let m = field_next 14 four (to_be 2 caps.max) d e f k t refl in
    let n = field_next 16 five (to_be 2 caps.min) d f g m u refl in
    both_put six (to_be 2 user) d g h 18 n v refl (sym l)
