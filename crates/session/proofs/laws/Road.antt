-- What comes of a call, read off what it asks: once for all calls. Assumes nothing.
use Rattle.std.specs.Prelude.{ℕ, true, false, not, List, ◌⊎◌, eqb}
use Rattle.std.proofs.Math.Logic.{inl, inr}
use Rattle.std.proofs.Math.Path.{◌≡◌, refl, sym}
use Rattle.std.proofs.Common.{arith, eqb-true}
use Rattle.std.proofs.lemmas.Bool.{not-false, not-true, eqb-false}
use Rattle.wire.proofs.laws.Cases.{cond_cases, if_b, else_b}
use Rattle.record.specs.Record.{worked_of}
use Rattle.change.specs.declared.Edit.{Edit}
use Rattle.session.specs.Session.{well_formed, renewed, with_timer, carried_of}
use Rattle.session.specs.Road.{Asks, refuses, tells, makes, moves, forgets, passes, opens, due, session_moved, session_freed, forgotten, time_passed, watch_only, Said, kept, done, carried_says, settled}
use Rattle.session.proofs.laws.Session.{formed, carried_worked}
use Rattle.session.specs.declared.Session.{Session}

-- a number that is due, or none
pub due_cases : (P : Asks → Type 0) (n : ℕ) {a : Asks} → ((n ≡ 0 → ⊥) → P (refuses n)) → (n ≡ 0 → P a) → P (due n a)
unfolding due
due_cases P n f g = cond_cases P (not (eqb n 0)) (λ h. f (eqb-false n 0 (not-true _ h))) (λ h. g (eqb-true n 0 (not-false _ h)))

module _ (s : Session) (d : List ℕ) where
  -- a change whose entry has no room, and one whose entry has
  pub made_full : (e : Edit) (bell : ℕ) (y : List ℕ) → (carried_of s e).full ≡ true → settled s d (makes e bell y) ≡ kept 5 s d
  unfolding settled carried_says
  made_full e bell y f = sym (if_b _ _ f refl)

  pub made_done : (e : Edit) (bell : ℕ) (y : List ℕ) → (carried_of s e).full ≡ false → settled s d (makes e bell y) ≡ done (carried_of s e).session bell 0 y
  unfolding settled carried_says
  made_done e bell y f = sym (else_b _ _ f refl)

  -- ---- demand 1: an answer other than 0 leaves session and buffer as they were, rings nothing and reports no kind

  abbrev Keeps : Said → Type 0
  Keeps q = (q.answer ≡ 0 → ⊥) → (q.session ≡ s) × (q.reply ≡ d) × (q.bell ≡ 0) × (q.kind ≡ 0)

  pub refusal_keeps : (a : Asks) → Keeps (settled s d a)
  unfolding settled carried_says kept done
  refusal_keeps (refuses n) = λ h. (refl, refl, refl, refl)
  refusal_keeps (tells bell y) = λ h. absurd (h refl)
  refusal_keeps (makes e bell y) = cond_cases Keeps (carried_of s e).full (λ f h. (refl, refl, refl, refl)) (λ f h. absurd (h refl))
  refusal_keeps (moves w at e) = λ h. absurd (h refl)
  refusal_keeps (forgets n) = λ h. absurd (h refl)
  refusal_keeps (passes n) = λ h. absurd (h refl)
  refusal_keeps opens = λ h. absurd (h refl)

  -- what is worked out is the record's
  abbrev Worked : Said → Type 0
  Worked q = q.session.worked ≡ worked_of q.session.held

  pub worked_after : well_formed s ≡ true → (a : Asks) → Worked (settled s d a)
  unfolding settled carried_says kept done session_moved forgotten session_freed time_passed watch_only renewed with_timer
  worked_after w (refuses n) = (formed s w).worked_is
  worked_after w (tells bell y) = (formed s w).worked_is
  worked_after w (makes e bell y) = cond_cases Worked (carried_of s e).full (λ f. (formed s w).worked_is) (λ f. carried_worked s e f)
  worked_after w (moves v at e) = refl
  worked_after w (forgets n) = refl
  worked_after w (passes n) = (formed s w).worked_is
  worked_after w opens = refl

  -- ---- a call that is answered with a reply: refused with a number, or told with its own doorbell, a change with the reply of success

  module _ (bell : ℕ) (success : List ℕ) where
    abbrev pub Speaks : Asks → Type 0
    Speaks (refuses n) = n ≡ 0 → ⊥
    Speaks (tells b y) = b ≡ bell
    Speaks (makes e b y) = (b ≡ bell) × (y ≡ success)
    Speaks (moves w at e) = ⊥
    Speaks (forgets n) = ⊥
    Speaks (passes n) = ⊥
    Speaks opens = ⊥

    -- a session that isn't returned as it was comes with the reply of success
    abbrev Erred : Said → Type 0
    Erred q = (q.session ≡ s) ⊎ (q.reply ≡ success)

    pub error_keeps : (a : Asks) → Speaks a → Erred (settled s d a)
    unfolding settled carried_says kept done
    error_keeps (refuses n) h = inl refl
    error_keeps (tells b y) h = inl refl
    error_keeps (makes e b y) h = cond_cases Erred (carried_of s e).full (λ f. inl refl) (λ f. inr h.1)
    error_keeps (moves w at e) h = absurd h
    error_keeps (forgets n) h = absurd h
    error_keeps (passes n) h = absurd h
    error_keeps opens h = absurd h

    -- on answer 0 the doorbell is rung
    abbrev Rung : Said → Type 0
    Rung q = q.answer ≡ 0 → q.bell ≡ bell

    pub bell_rung : (a : Asks) → Speaks a → Rung (settled s d a)
    unfolding settled carried_says kept done
    bell_rung (refuses n) h = λ z. absurd (h z)
    bell_rung (tells b y) h = λ z. h
    bell_rung (makes e b y) h = cond_cases Rung (carried_of s e).full (λ f z. absurd (five z)) (λ f z. h.0)
      where
        five : ◌≡◌ {A = ℕ} 5 0 → ⊥
        five z = omega (arith, z)
    bell_rung (moves w at e) h = absurd h
    bell_rung (forgets n) h = absurd h
    bell_rung (passes n) h = absurd h
    bell_rung opens h = absurd h
