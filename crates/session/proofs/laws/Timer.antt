-- Document 02, h: a session with another timer, and after time has passed, is well formed if it was. Assumes nothing.
use Rattle.std.specs.Prelude.{ℕ, ◌-◌, ◌^◌, ◌<◌, true, false, ◌≡◌, refl, eqb, length, Option, Some, None}
use Rattle.std.proofs.Common.{true≢false, sym, arith}
use Rattle.std.proofs.lemmas.Bool.{eqb-false}
use Rattle.wire.proofs.laws.Cases.{cond_cases, if_ne}
use Rattle.record.specs.declared.Timer.{Timer}
use Rattle.change.specs.Change.{takes_back, timer_after}
use Rattle.change.specs.declared.Edit.{Edit}
use Rattle.journal.specs.Add.{end_of}
use Rattle.formed.specs.Formed.{flag_ok, clock_ok, timer_ok}
use Rattle.formed.proofs.laws.Formed.{both_hold, hold_both}
use Rattle.session.specs.Session.{well_formed, renewed, with_timer, carried_to, carried_of}
use Rattle.session.specs.Road.{expires, ticked, time_passed}
use Rattle.session.proofs.laws.Session.{formed, formed_ok}
use Rattle.session.specs.declared.Session.{Session}

-- running or off with 0 left, and of the width of its field
pub record Clock (t : Timer) : Type 0 where
  pub ok : timer_ok t ≡ true
  pub fits : t.left < 256 ^ 8

pub timer_formed : (s : Session) (t : Timer) → well_formed s ≡ true → timer_ok t ≡ true → well_formed (with_timer s t) ≡ true
unfolding with_timer
timer_formed s t whole ok =
    let f = formed s whole in
    formed_ok (with_timer s t) (record { record_ok_lem = f.record_ok_lem; worked_is = f.worked_is; timer_ok_lem = ok; both_fit = f.both_fit; journal = f.journal; marks_are = f.marks_are; redo = f.redo; profile_is = f.profile_is })

-- one that runs may have any time left
runs_ok : (t : Timer) (left : ℕ) → timer_ok t ≡ true → eqb t.running 0 ≡ false → timer_ok (record { running = t.running; left = left }) ≡ true
unfolding timer_ok clock_ok
runs_ok t left ok on = hold_both (both_hold (flag_ok t.running) _ ok).0 (sym (if_ne _ _ (eqb-false t.running 0 on) refl))

pub ticked_clock : (n : ℕ) (t : Timer) → Clock t → Clock (ticked n t)
unfolding ticked timer_ok clock_ok flag_ok
ticked_clock n t c =
    cond_cases Clock (expires n t) (λ over. record { ok = refl; fits = omega arith })
    (λ more. cond_cases Clock (eqb t.running 0) (λ off. c) (λ on. record { ok = runs_ok t (t.left - n) c.ok on; fits = omega (arith, c.fits) }))

ticked_ok : (n : ℕ) (t : Timer) → timer_ok t ≡ true → timer_ok (ticked n t) ≡ true
unfolding ticked timer_ok clock_ok flag_ok
ticked_ok n t ok =
    cond_cases (λ (x : Timer). timer_ok x ≡ true) (expires n t) (λ over. refl)
    (λ more. cond_cases (λ (x : Timer). timer_ok x ≡ true) (eqb t.running 0) (λ off. ok) (λ on. runs_ok t (t.left - n) ok on))

pub passed_formed : (n : ℕ) (s : Session) → well_formed s ≡ true → well_formed (time_passed n s) ≡ true
unfolding time_passed
passed_formed n s whole = timer_formed s (ticked n s.timer) whole (ticked_ok n s.timer (formed s whole).timer_ok_lem)

-- after carrying out, the timer is the one that the change sets
pub carried_timer : (s : Session) (e : Edit) → (carried_of s e).full ≡ false → (carried_of s e).session.timer ≡ timer_after s.timer e.change
unfolding carried_of carried_to renewed with_timer
carried_timer s e f = go (end_of (length s.journal) s.used (takes_back s.held s.timer e)) f
  where
    go : (x : Option ℕ) → (carried_to s e x).full ≡ false → (carried_to s e x).session.timer ≡ timer_after s.timer e.change
    go (Some used) f = refl
    go None f = absurd (true≢false f)
