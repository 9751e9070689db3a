-- Demands 1 and 2 of the call `time`: its answers, and what it does. Assumes nothing.
use Rattle.std.specs.Prelude.{ℕ, ◌-◌, Bool, cond, not, ◌↔◌, ◌≡◌}
use Rattle.std.proofs.Math.Bool.{true, false, true≢false}
use Rattle.std.proofs.Math.Path.{refl, sym}
use Rattle.std.proofs.Common.{◌∙◌, arith}
use mathlib.Core.List.{[]}
use borrow.Author.Tests.{not-true, not-false, eqb-true, eqb-false, leb-true, leb-false}
use Rattle.std.proofs.Math.Dec.{eqb, leb}
use Rattle.wire.proofs.laws.Cases.{cond_cases}
use Rattle.wire.proofs.laws.Tables.{ByTable, by_is, hit, miss}
use Rattle.record.specs.Record.{timer_off}
use Rattle.session.specs.Session.{well_formed, with_timer}
use Rattle.session.specs.Road.{Asks, passes, expires, ticked, timer_bell, time_passed, kept, done, settled}
use Rattle.session.specs.declared.Session.{Session}
use Rattle.time_call.specs.Time.{time_asks, time_call}
use Rattle.promises.specs.Demand1.{TimeAnswer}
use Rattle.promises.specs.Effects.{TimeEffect, off, fewer, expired}

module _ (n : ℕ) (s : Session) where
  abbrev Answers : Asks → ℕ → Type 0
  Answers a k = (settled s [] a).answer ≡ k

  time_table : ByTable Answers (time_asks n s) (TimeAnswer s)
  unfolding time_asks TimeAnswer settled kept done
  time_table =
      cond_cases (λ (a : Asks). ByTable Answers a (TimeAnswer s)) (not (well_formed s))
      (λ f. hit Answers (λ x. true≢false (sym x ∙ not-true _ f)) (by_is Answers refl (λ m e. sym e)))
      (λ f. miss Answers (λ h. h (not-false _ f)) (by_is Answers refl (λ m e. sym e)))

  pub time_answers : (k : ℕ) → ((time_call n s).answer ≡ k) ↔ TimeAnswer s k
  unfolding time_call
  time_answers = time_table.exactly

  -- ---- what it does

  -- off, fewer than are left, or as many and more
  passed : TimeEffect n s (settled s [] (passes n))
  unfolding settled time_passed ticked timer_bell expires with_timer
  passed = go (eqb s.timer.running 0) (leb s.timer.left n) refl refl
    where
      go : (x y : Bool) → eqb s.timer.running 0 ≡ x → leb s.timer.left n ≡ y
          → TimeEffect n s (done (with_timer s (cond (cond x false y) timer_off (cond x s.timer (record { running = s.timer.running; left = s.timer.left - n })))) (cond (cond x false y) 0x0002 0) 0 [])
      go true y a b = off (eqb-true _ 0 a)
      go false true a b = expired (eqb-false _ 0 a) (leb-true _ n b)
      go false false a b = fewer (eqb-false _ 0 a) (leb-false _ n b)

  pub time_effect : (time_call n s).answer ≡ 0 → TimeEffect n s (time_call n s)
  unfolding time_call time_asks settled kept
  time_effect =
      cond_cases (λ (a : Asks). (settled s [] a).answer ≡ 0 → TimeEffect n s (settled s [] a)) (not (well_formed s)) (λ f z. absurd (omega (arith, z))) (λ f z. passed)
