-- The lines of the entries that were given, one after the other. Assumes nothing.
use Rattle.std.specs.Prelude.{ℕ, ◌≡◌, refl, List, ◌∷◌}
use Rattle.entries.specs.Entries.{Entry, scan, entries_of}
use Rattle.entries.proofs.laws.Ahead.{Walked, walked_none}
use Rattle.text.specs.Text.{Sheet, put_all}
use Rattle.text.proofs.laws.Pieces.{pieces}
use Rattle.listing.specs.Listing.{line, lines_of}

abbrev pub Lined : Sheet → Sheet → List Entry → Type 0
Lined p q es = q ≡ put_all p (lines_of es)

pub lined_none : {i j : List ℕ} (p : Sheet) → i ≡ j → Walked j (Lined p p) (entries_of (scan i))
unfolding lines_of put_all
lined_none p e = walked_none (Lined p p) e refl

pub lined_next : (p : Sheet) {q r : Sheet} (e : Entry) (es : List Entry) → Lined p q es → r ≡ put_all q (line e) → Lined p r (e ∷ es)
unfolding lines_of
lined_next p e es = pieces p (lines_of es) (line e)
