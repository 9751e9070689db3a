-- docs/PROTOCOL.md, "Lines" and "Bytes": blanks, words, and bytes in hex. Text is a list of ASCII numbers.
use Rattle.std.specs.Prelude.{ℕ, zero, suc, ◌+◌, ◌-◌, ◌*◌, ◌/◌, ◌%◌, Bool, true, false, cond, not, Option, Some, None, ◌≡◌, List, [], ◌∷◌, ◌++◌, eqb, ltb, leb, length, drop, get_or}
use Rattle.std.specs.List.{prefix_len}
use Prim.Native.Char.{code}
use Prim.Native.String.{String, [] as empty, ◌∷◌ as ◌then◌}
use Rattle.wire.specs.Wire.{pasted}
use Rattle.text.specs.declared.Fault.{Fault}
use Rattle.text.specs.declared.Fault.TheVariants.{Digit, Over}

-- whether two texts are equal
unfoldable pub same_text : List ℕ → List ℕ → Bool
same_text [] [] = true
same_text [] (y ∷ ys) = false
same_text (x ∷ xs) [] = false
same_text (x ∷ xs) (y ∷ ys) = cond (not (eqb x y)) false (same_text xs ys)

-- ---- words

-- "a blank is a space or a tab"
abbrev pub blank : ℕ → Bool
blank c = cond (eqb c 32) true (eqb c 9)

abbrev pub in_word : ℕ → Bool
in_word c = not (blank c)

abbrev pub other : ℕ → ℕ → Bool
other c x = not (eqb x c)

-- the first place from `from` on that holds no blank, or the end
unfoldable pub past_blanks : List ℕ → ℕ → ℕ
past_blanks s from = cond (ltb (length s) from) (length s) (from + prefix_len blank (drop from s))

-- ---- bytes

-- the number of a hex digit "in either case"; 16 for what is none
unfoldable pub digit_of : ℕ → ℕ
digit_of c =
    cond (ltb c 48) 16
    (cond (leb c 57) (c - 48)
    (cond (ltb c 65) 16
    (cond (leb c 70) (c - 65 + 10)
    (cond (ltb c 97) 16
    (cond (leb c 102) (c - 97 + 10) 16)))))

-- there is none past the end
unfoldable pub digit_at : List ℕ → ℕ → ℕ
digit_at s at = cond (ltb at (length s)) (digit_of (get_or s at 0)) 16

-- the bytes read, and what then was wrong
pub record HexRun : Type 0 where
  pub bytes : List ℕ
  pub fault : Option Fault

abbrev pub stopped : Option Fault → HexRun
stopped f = record { bytes = []; fault = f }

abbrev pub onto : ℕ → HexRun → HexRun
onto b q = record { bytes = b ∷ q.bytes; fault = q.fault }

-- which digit of a byte is due; the low one after the high one's number
pub data Due : Type 0 where
  high : Due
  low : ℕ → Due

-- "They are read from left to right and the first thing that is wrong is answered": `room` bytes more are taken
unfoldable pub hex_from : Due → ℕ → ℕ → List ℕ → HexRun
hex_from high room column [] = stopped None
hex_from (low h) room column [] = stopped (Some (Digit column))
hex_from high room column (x ∷ xs) =
    cond (blank x) (hex_from high room (suc column) xs)
    (cond (leb room 0) (stopped (Some (Over column)))
    (cond (ltb 15 (digit_of x)) (stopped (Some (Digit column)))
    (hex_from (low (digit_of x)) room (suc column) xs)))
hex_from (low h) room column (x ∷ xs) =
    cond (ltb 15 (digit_of x)) (stopped (Some (Digit column)))
    (onto (h * 16 + digit_of x) (hex_from high (room - 1) (suc column) xs))

-- what a line holds from `from` on, for a buffer of `room` bytes
abbrev pub hex_run : List ℕ → ℕ → ℕ → HexRun
hex_run s from room = hex_from high room (from + 1) (drop from s)

-- the bytes stand at the front of a buffer, n of them, and the rest is kept
pub record Takes (q : HexRun) (d d' : List ℕ) (n : ℕ) (f : Option Fault) : Type 0 where
  pub stands : d' ≡ pasted 0 q.bytes d
  pub count : n ≡ length q.bytes
  pub wrong : f ≡ q.fault

-- ---- text put into a buffer

-- a buffer, and the place past what was put last
pub record Sheet : Type 0 where
  pub text : List ℕ
  pub past : ℕ

abbrev pub sheet : List ℕ → ℕ → Sheet
sheet d at = record { text = d; past = at }

-- what doesn't fit is left out whole, and no place is past the end
unfoldable pub put_on : Sheet → List ℕ → Sheet
put_on p bs =
    cond (ltb (length p.text) p.past) (sheet p.text (length p.text))
    (cond (ltb (length p.text - p.past) (length bs)) p
    (sheet (pasted p.past bs p.text) (p.past + length bs)))

-- one piece after the other
unfoldable pub put_all : Sheet → List (List ℕ) → Sheet
put_all p [] = p
put_all p (x ∷ xs) = put_all (put_on p x) xs

-- text at the front of a buffer
abbrev pub from_front : List ℕ → List (List ℕ) → Sheet
from_front d pieces = put_all (sheet d 0) pieces

-- a text as its ASCII numbers
abbrev pub ascii : String → List ℕ
ascii empty = []
ascii (c then s) = code c ∷ ascii s

abbrev pub line_end : List ℕ
line_end = ascii "\n"

-- "hex letters are capitals": 48 is "0", 65 is "A"
unfoldable pub hex_digit : ℕ → ℕ
hex_digit d = cond (ltb d 10) (48 + d) (65 + (d - 10))

unfoldable pub hex_of : ℕ → List ℕ
hex_of b = hex_digit (b / 16) ∷ hex_digit (b % 16) ∷ []

-- bytes with nothing between
unfoldable pub hexes : List ℕ → List (List ℕ)
hexes [] = []
hexes (b ∷ bs) = hex_of b ∷ hexes bs

-- bytes, each after a blank
unfoldable pub spaced : List ℕ → List (List ℕ)
spaced [] = []
spaced (b ∷ bs) = (32 ∷ []) ∷ hex_of b ∷ spaced bs

-- a number in decimal: its fewest digits, the most significant first. No number has more digits than `most`, one more than itself
unfoldable pub decimal_by : ℕ → ℕ → List ℕ
decimal_by zero n = []
decimal_by (suc most) n = cond (ltb n 10) ((48 + n) ∷ []) (decimal_by most (n / 10) ++ ((48 + n % 10) ∷ []))

unfoldable pub decimal : ℕ → List ℕ
decimal n = decimal_by (suc n) n

-- a number in decimal after a blank, and several
abbrev pub number : ℕ → List (List ℕ)
number n = (32 ∷ []) ∷ decimal n ∷ []

unfoldable pub numbers : List ℕ → List (List ℕ)
numbers [] = []
numbers (n ∷ ns) = number n ++ numbers ns
