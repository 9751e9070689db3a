-- What the steps of the call give back, from what they call. Assumes nothing.
use Prim.Native.Nat.{ℕ}
use mathlib.Core.Path.{◌≡◌, ap, ◌∙◌}
use mathlib.Core.List.{List}
use Rattle.record.specs.declared.Timer.{Timer}
use Rattle.session.specs.Session.{with_timer}
use Rattle.session.specs.Road.{passes, ticked, timer_bell, time_passed, done, settled}
use Rattle.session.specs.declared.Session.{Session}
use Rattle.image.specs.declared.Head.{Head}
use Rattle.image.specs.Image.{image_of, head_timed, session_in}
use Rattle.inplace.specs.declared.Told.{Told}
use Rattle.inplace.specs.InPlace.{Opens, Unopened, rung_left, HeadStands}
use Rattle.inplace.proofs.laws.Silent as silent
use Rattle.time_call.specs.Time.{time_asks, time_call, timed_by, time_on}

-- ---- on the head h that stands in the lent bytes b

abbrev pub Tells : Session → Told → List ℕ → ℕ → Type 0
Tells s t y n = (t ≡ (timed_by s (passes n)).told) × (y ≡ (timed_by s (passes n)).image)

module _ (h : Head) (b : List ℕ) (here : HeadStands h b) (n : ℕ) where
  abbrev s : Session
  s = session_in h b

  pub time_passes : (t : Told) (x : Timer) (head : Head) (y : List ℕ) (bell : ℕ) → x ≡ ticked n h.timer → head ≡ head_timed h x → y ≡ image_of (session_in head b)
      → bell ≡ timer_bell n h.timer → t ≡ record { answer = 0; small = 0; beside = bell } → Tells s t y n
  unfolding timed_by rung_left settled done time_passed with_timer session_in head_timed
  time_passes t x head y bell xp hp yp bp p = (
    p ∙ (λ i. record { answer = 0; small = 0; beside = bp i }),
    yp ∙ ap (λ (k : Head). image_of (session_in k b)) (hp ∙ ap (head_timed h) xp),
  )

-- ---- the whole call

module _ (n : ℕ) where
  pub unopened : (b : List ℕ) → Unopened b → (t : Told) → t ≡ record { answer = 1; small = 0; beside = 0 } → (t ≡ (time_on n b).told) × (b ≡ (time_on n b).image)
  unfolding time_on time_call time_asks
  unopened = silent.unopened (λ (x : Session). passes n) rung_left silent.rung_refused

  pub passed_in_lem : (b : List ℕ) (h : Head) → Opens b h → (t : Told) (y : List ℕ) → Tells (session_in h b) t y n → (t ≡ (time_on n b).told) × (y ≡ (time_on n b).image)
  unfolding time_on time_call time_asks timed_by
  passed_in_lem = silent.formed_told (λ (x : Session). passes n) rung_left silent.rung_refused
