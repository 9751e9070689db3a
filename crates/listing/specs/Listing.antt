-- Document 01, "The journal": a program lists raw journal bytes. A listing is put piece by piece; text is a list of ASCII numbers.
use Rattle.std.specs.Prelude.{ℕ, cond, List, [], ◌∷◌, ◌++◌, ltb, length}
use Rattle.wire.specs.Wire.{pasted, joined}
use Rattle.entries.specs.Entries.{Entry, Scan, between, within, unknown, scan, written}
use Rattle.text.specs.Text.{ascii, line_end, hex_of, hexes, decimal}

-- ---- lines, in pieces

-- an entry: kind, one space, body
unfoldable pub line : Entry → List (List ℕ)
line e = hex_of e.kind ∷ ascii " " ∷ (hexes e.body ++ (line_end ∷ []))

-- entries stand newest first, their lines oldest first
unfoldable pub lines_of : List Entry → List (List ℕ)
lines_of [] = []
lines_of (e ∷ es) = lines_of es ++ line e

-- `journal N`, and a line for each entry
unfoldable pub whole : ℕ → List Entry → List (List ℕ)
whole n es = ascii "journal " ∷ decimal n ∷ line_end ∷ lines_of es

-- only `damaged at N`
unfoldable pub damaged_at : ℕ → List (List ℕ)
damaged_at n = ascii "damaged at " ∷ decimal n ∷ line_end ∷ []

abbrev pub too_long : List ℕ
too_long = ascii "too long\n"

-- "an unknown kind or a cut body": N is the offset of that entry's kind
unfoldable pub listing_of : Scan → List (List ℕ)
listing_of (between es) = whole (length es) es
listing_of (within es k b n) = damaged_at (length (written es))
listing_of (unknown es) = damaged_at (length (written es))

-- "longer input gives only `too long`, judged before anything else"
unfoldable pub pieces_of : List ℕ → List (List ℕ)
pieces_of j = cond (ltb 2048 (length j)) (too_long ∷ []) (listing_of (scan j))

unfoldable pub listing : List ℕ → List ℕ
listing j = joined (pieces_of j)

-- ---- into a buffer

-- the longest listing: 13 bytes of `journal N`, and at most 3 for each of 2,048 bytes
abbrev pub longest : ℕ
longest = 6157

-- a buffer after the call, and the bytes written: a buffer too short for the longest listing is kept
unfoldable pub listed : List ℕ → List ℕ → List ℕ
listed j d = cond (ltb (length d) longest) d (pasted 0 (listing j) d)

unfoldable pub listed_length : List ℕ → List ℕ → ℕ
listed_length j d = cond (ltb (length d) longest) 0 (length (listing j))
