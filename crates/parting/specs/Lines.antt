-- Document 02, f: the answer as the program `part` prints it. Text is put piece by piece.
use Rattle.std.specs.Prelude.{ℕ, cond, List, [], ◌∷◌, ◌++◌, ltb, length, Option, None, Some}
use Rattle.wire.specs.Wire.{pasted, joined}
use Rattle.text.specs.Text.{ascii, line_end, decimal}
use Rattle.parting.specs.declared.Refusal.{Refusal}
use Rattle.parting.specs.declared.Refusal.TheVariants.{InFirst, InSecond}
use Rattle.entries.specs.declared.Fault.TheVariants.{UnknownKind, Cut}
use Rattle.parting.specs.Parting.{shared_part, parting_of}

-- `shared N entries, M bytes; next N+1`
unfoldable pub shared_line : ℕ → ℕ → ℕ → List (List ℕ)
shared_line entries bytes next =
    ascii "shared " ∷ decimal entries ∷ ascii " entries, " ∷ decimal bytes ∷ ascii " bytes; next " ∷ decimal next ∷ line_end ∷ []

-- "if a first entry won't read, a second line"
unfoldable pub refusal_line : Option Refusal → List (List ℕ)
refusal_line None = []
refusal_line (Some (InFirst UnknownKind)) = ascii "unknown kind in the first\n" ∷ []
refusal_line (Some (InFirst Cut)) = ascii "cut entry in the first\n" ∷ []
refusal_line (Some (InSecond UnknownKind)) = ascii "unknown kind in the second\n" ∷ []
refusal_line (Some (InSecond Cut)) = ascii "cut entry in the second\n" ∷ []

unfoldable pub pieces_of : List ℕ → List ℕ → List (List ℕ)
pieces_of t u =
    shared_line (parting_of t u).entries (length (shared_part t u)) (parting_of t u).next ++ refusal_line (parting_of t u).refusal

unfoldable pub text_of : List ℕ → List ℕ → List ℕ
text_of t u = joined (pieces_of t u)

-- ---- into a buffer

-- the longest text: 31 bytes of words and three numbers of 20 digits, and 27 bytes of a refusal
abbrev pub longest : ℕ
longest = 118

-- a buffer after the call, and the bytes written: one too short for the longest text is kept
unfoldable pub told : List ℕ → List ℕ → List ℕ → List ℕ
told t u d = cond (ltb (length d) longest) d (pasted 0 (text_of t u) d)

unfoldable pub told_length : List ℕ → List ℕ → List ℕ → ℕ
told_length t u d = cond (ltb (length d) longest) 0 (length (text_of t u))
