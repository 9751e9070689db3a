-- Document 02, k: "Watch-only is opened over a well-formed session": what the call `watch` comes to, for every session.
use Rattle.std.specs.Prelude.{ℕ, cond, not, List, [], ◌≡◌}
use Rattle.wire.specs.Conditions.{◌and◌}
use Rattle.session.specs.Session.{well_formed}
use Rattle.session.specs.Road.{Asks, refuses, opens, Said, settled}
use Rattle.session.specs.declared.Session.{Session}
use Rattle.inplace.specs.declared.Told.{Told}
use Rattle.inplace.specs.InPlace.{Left, rung_left, on_image}

-- 1: session not well formed; over a watch-only one it is opened anew
unfoldable pub watch_asks : Session → Asks
watch_asks s = cond (not (well_formed s)) (refuses 1) opens

-- no reply is written, and nothing rung
unfoldable pub watch_call : Session → Said
watch_call s = settled s [] (watch_asks s)

-- ---- on a session that is lent as its image's bytes

-- what is asked of a session, settled on its image
unfoldable pub opened_by : Session → Asks → Left
opened_by s a = rung_left (settled s [] a)

unfoldable pub watch_on : List ℕ → Left
watch_on b = on_image b [] (λ (s : Session). rung_left (watch_call s))

-- what the contract allows: what is told, and the lent bytes as they are left
abbrev pub WatchAllows : List ℕ → Told → List ℕ → Type 0
WatchAllows b told image = (told ≡ (watch_on b).told) and (image ≡ (watch_on b).image)
