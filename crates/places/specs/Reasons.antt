-- Document 02, c: "0x13 splits beside the wire into bad version, bad count, out of range, repeated, clash and not pending, in that order".
use Rattle.std.specs.Prelude.{ℕ, cond, List, [], ◌∷◌, eqb}
use Prim.Native.String.{String}
use Rattle.places.specs.declared.Reason.{Reason}
use Rattle.places.specs.declared.Reason.TheVariants.{BadVersion, BadCount, OutOfRange, Repeated, Clash, NotPending}

pub record Named : Type 0 where
  pub number : ℕ
  pub words : String

unfoldable pub named : Reason → Named
named BadVersion = record { number = 1; words = "bad version" }
named BadCount = record { number = 2; words = "bad count" }
named OutOfRange = record { number = 3; words = "out of range" }
named Repeated = record { number = 4; words = "repeated" }
named Clash = record { number = 5; words = "clash" }
named NotPending = record { number = 6; words = "not pending" }

abbrev pub number_of : Reason → ℕ
number_of r = (named r).number

abbrev pub reasons : List Reason
reasons = BadVersion ∷ BadCount ∷ OutOfRange ∷ Repeated ∷ Clash ∷ NotPending ∷ []

-- the words of the reason with a number
unfoldable pub words_among : List Reason → ℕ → String
words_among [] n = ""
words_among (r ∷ rs) n = cond (eqb (named r).number n) (named r).words (words_among rs n)

unfoldable pub words_for : ℕ → String
words_for n = words_among reasons n
