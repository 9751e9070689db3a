-- Document 02, a: a trace of any length, played entry by entry as it comes in: the oldest first, each session handed on to the next.
use Rattle.std.specs.Prelude.{ℕ, suc, List, [], ◌∷◌, ◌++◌, take}
use Rattle.entries.specs.Entries.{Entry, bytes_of}
use Rattle.playing.specs.Playing.{heard, line, Stepped, stepped}

-- entries that stand newest first, the other way round
unfoldable pub oldest_first : List Entry → List Entry
oldest_first [] = []
oldest_first (e ∷ es) = oldest_first es ++ (e ∷ [])

-- the session after them, where they are played on one
unfoldable pub image_from : List ℕ → List Entry → List ℕ
image_from b [] = b
image_from b (e ∷ es) = image_from (heard b e).image es

-- their lines, the first of them numbered n
unfoldable pub lines_from : List ℕ → ℕ → List Entry → List (List ℕ)
lines_from b n [] = []
lines_from b n (e ∷ es) = line n (heard b e) ++ lines_from (heard b e).image (suc n) es

-- the same by `playing::step`: each entry's bytes are handed to it with the entry's number and the buffer d, and the bytes that it counts go out
pub record Gone : Type 0 where
  pub image : List ℕ
  pub text : List ℕ

unfoldable pub gone_with : Stepped → Gone → Gone
gone_with x rest = record { image = rest.image; text = take x.count x.out ++ rest.text }

unfoldable pub steps_from : List ℕ → List ℕ → ℕ → List Entry → Gone
steps_from d b n [] = record { image = b; text = [] }
steps_from d b n (e ∷ es) = gone_with (stepped b n (bytes_of e) d) (steps_from d (stepped b n (bytes_of e) d).image (suc n) es)
