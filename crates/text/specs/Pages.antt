-- A page: a lent buffer, and the place past what was put last.
use Rattle.std.specs.Prelude.{ℕ, ◌≡◌, List}
use Rattle.text.specs.Text.{Sheet, sheet, put_all}
use Rattle.text.specs.declared.Page.{Page}

abbrev pub sheet_of : Page → Sheet
sheet_of p = sheet p.out.now p.past

-- these pieces are put on it, one after the other; it is a page of the same buffer
abbrev pub Puts : Page → Page → List (List ℕ) → Type 0
Puts p q pieces = (q.out.ghost_name ≡ p.out.ghost_name) × (sheet_of q ≡ put_all (sheet_of p) pieces)
