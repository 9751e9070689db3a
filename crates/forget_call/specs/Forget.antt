-- Document 02, j: "Add a call that forgets the n oldest changes and moves the rest down, so that their room is used again": what the call `forget` comes
-- to, for every session and every number.
use Rattle.std.specs.Prelude.{ℕ, ◌*◌, ◌/◌, ◌%◌, ◌<◌, cond, not, List, [], ◌≡◌, length, ltb, eqb, Option, None, Some}
use Rattle.wire.specs.Conditions.{◌and◌}
use Rattle.wire.specs.Wire.{to_be, pasted}
use Rattle.entries.specs.Entries.{Entry, entries_of, scan}
use Rattle.entries.specs.Places.{Place}
use Rattle.session.specs.Session.{well_formed}
use Rattle.session.specs.Road.{held_in, Asks, refuses, forgets, Said, settled}
use Rattle.session.specs.declared.Session.{Session}
use Rattle.image.specs.Image.{image_of}
use Rattle.inplace.specs.declared.Told.{Told}
use Rattle.inplace.specs.InPlace.{Left, on_image}

-- "9, n greater than the changes held"
unfoldable pub oldest_asks : ℕ → Session → Asks
oldest_asks n s = cond (ltb (held_in s) n) (refuses 9) (forgets n)

-- "after 1": session not well formed
unfoldable pub forget_asks : ℕ → Session → Asks
forget_asks n s = cond (not (well_formed s)) (refuses 1) (oldest_asks n s)

-- no reply is written
unfoldable pub forget_call : ℕ → Session → Said
forget_call n s = settled s [] (forget_asks n s)

-- ---- on a session that is lent as its image's bytes: nothing stands beside the answer

unfoldable pub forget_left : Said → Left
forget_left q = record { told = record { answer = q.answer; small = 0; beside = 0 }; image = image_of q.session; reply = q.reply }

-- what is asked of a session, settled on its image
unfoldable pub forgot_by : Session → Asks → Left
forgot_by s a = forget_left (settled s [] a)

unfoldable pub forget_on : ℕ → List ℕ → Left
forget_on n b = on_image b [] (λ (s : Session). forget_left (forget_call n s))

-- what the contract allows: what is told, and the lent bytes as they are left
abbrev pub ForgetAllows : ℕ → List ℕ → Told → List ℕ → Type 0
ForgetAllows n b told image = (told ≡ (forget_on n b).told) and (image ≡ (forget_on n b).image)

-- ---- walks over a journal's bytes, which read as entries

-- the n oldest stand before a place; or there are fewer
abbrev pub OldestEnd : List ℕ → ℕ → Option ℕ → Type 0
OldestEnd j n (Some at) = (es : List Entry) × Place j at es × (length es ≡ n)
OldestEnd j n None = length (entries_of (scan j)) < n

-- an entry with n before it, which begins at a place, put into the marks (i): they say where every 32nd one begins
unfoldable pub marked_at : ℕ → ℕ → List ℕ → List ℕ
marked_at n at m = cond (eqb (n % 32) 0) (pasted (2 * (n / 32)) (to_be 2 at) m) m
