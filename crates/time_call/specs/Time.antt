-- Document 02, h: "expires only when the bench reports as many microseconds as are left, or more": what the call `time` comes to, for every session and every number.
use Rattle.std.specs.Prelude.{ℕ, cond, not, List, [], ◌≡◌}
use Rattle.wire.specs.Conditions.{◌and◌}
use Rattle.session.specs.Session.{well_formed}
use Rattle.session.specs.Road.{Asks, refuses, passes, Said, settled}
use Rattle.session.specs.declared.Session.{Session}
use Rattle.inplace.specs.declared.Told.{Told}
use Rattle.inplace.specs.InPlace.{Left, rung_left, on_image}

-- 1: session not well formed
unfoldable pub time_asks : ℕ → Session → Asks
time_asks n s = cond (not (well_formed s)) (refuses 1) (passes n)

-- no reply is written
unfoldable pub time_call : ℕ → Session → Said
time_call n s = settled s [] (time_asks n s)

-- ---- on a session that is lent as its image's bytes

-- what is asked of a session, settled on its image
unfoldable pub timed_by : Session → Asks → Left
timed_by s a = rung_left (settled s [] a)

unfoldable pub time_on : ℕ → List ℕ → Left
time_on n b = on_image b [] (λ (s : Session). rung_left (time_call n s))

-- what the contract allows: what is told, and the lent bytes as they are left
abbrev pub TimeAllows : ℕ → List ℕ → Told → List ℕ → Type 0
TimeAllows n b told image = (told ≡ (time_on n b).told) and (image ≡ (time_on n b).image)
