-- docs/PROTOCOL.md, "Numbers": a decimal number in a line. Text is a list of ASCII numbers.
use Rattle.std.specs.Prelude.{ℕ, ◌+◌, ◌*◌, Bool, cond, Result, Ok, Err, List, [], ◌∷◌, ltb, leb, drop}
use Rattle.text.specs.Text.{digit_of, digit_at}
use Rattle.std.specs.List.{prefix_len}
use Rattle.text.specs.declared.Number.{Number}
use Rattle.text.specs.declared.NumberError.{NumberError}
use Rattle.text.specs.declared.NumberError.TheVariants.{Missing, TooGreat}

unfoldable pub decimal : ℕ → Bool
decimal c = leb (digit_of c) 9

-- what the digits at the front stand for, "as many as one likes", after digits that stand for v
unfoldable pub value_from : ℕ → List ℕ → ℕ
value_from v [] = v
value_from v (x ∷ xs) = cond (decimal x) (value_from (v * 10 + digit_of x) xs) v

-- "the value decides"; a number is read together with the place past its digits
unfoldable pub number_by : ℕ → ℕ → ℕ → Result Number NumberError
number_by value past most = cond (ltb most value) (Err TooGreat) (Ok (record { value = value; past = past }))

abbrev pub digits_at : List ℕ → ℕ → ℕ → Result Number NumberError
digits_at s at most = number_by (value_from 0 (drop at s)) (at + prefix_len decimal (drop at s)) most

-- "one or more of the digits", "no sign"
unfoldable pub number_at : List ℕ → ℕ → ℕ → Result Number NumberError
number_at s at most = cond (ltb 9 (digit_at s at)) (Err Missing) (digits_at s at most)
