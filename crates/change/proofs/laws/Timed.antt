-- Document 02, h: a timer change against all others. Assumes nothing.
use Rattle.std.specs.Prelude.{ℕ, ◌≡◌, refl, List, [], ◌∷◌}
use types.Run.{OneOf, miss}
use denote.Enum.Declared.{tag_of}
use Rattle.std.proofs.Math.Path.{sym, ap, subst}
use Rattle.std.proofs.Common.{◌∙◌, arith}
use Rattle.wire.proofs.laws.Cases.{else_eq}
use Rattle.record.specs.declared.Record.{Record}
use Rattle.record.specs.declared.Timer.{Timer}
use Rattle.change.specs.contracts.Change.{the_type}
use Rattle.change.specs.declared.Change.{Change}
use Rattle.change.specs.declared.Change.TheVariants.{Clear, Unclear, SetState, SetRole, SetCaps, SetUser, SetThermal, SetThrottles, Reset, Unreset, SetMask, SetDeadman, SetAreas, SetTimer}
use Rattle.change.specs.declared.Edit.{Edit}
use Rattle.change.specs.Change.{put_of, put_with, back_of, kind_of, tables_for, inverse_of, timed_change, timed, timer_after}

abbrev pub NoTimer : Change → Type 0
NoTimer ch = kind_of ch ≡ 0x0C → ⊥

pub by_timer : (P : Change → Type 0) → ((x : Timer) → P (SetTimer x)) → ((ch : Change) → NoTimer ch → P ch) → (ch : Change) → P ch
unfolding kind_of
by_timer P f g (Clear place log) = g _ (λ e. omega (arith, e))
by_timer P f g (Unclear place log) = g _ (λ e. omega (arith, e))
by_timer P f g (SetState state) = g _ (λ e. omega (arith, e))
by_timer P f g (SetRole got role) = g _ (λ e. omega (arith, e))
by_timer P f g (SetCaps got caps) = g _ (λ e. omega (arith, e))
by_timer P f g (SetUser user) = g _ (λ e. omega (arith, e))
by_timer P f g (SetThermal got) = g _ (λ e. omega (arith, e))
by_timer P f g (SetThrottles got) = g _ (λ e. omega (arith, e))
by_timer P f g (Reset log) = g _ (λ e. omega (arith, e))
by_timer P f g (Unreset state made) = g _ (λ e. omega (arith, e))
by_timer P f g (SetMask mask) = g _ (λ e. omega (arith, e))
by_timer P f g (SetDeadman deadman) = g _ (λ e. omega (arith, e))
by_timer P f g (SetAreas areas) = g _ (λ e. omega (arith, e))
by_timer P f g (SetTimer timer) = f timer

-- another change leaves the timer
pub timer_kept : (t : Timer) (ch : Change) → NoTimer ch → timer_after t ch ≡ t
unfolding kind_of timer_after
timer_kept t (Clear place log) n = refl
timer_kept t (Unclear place log) n = refl
timer_kept t (SetState state) n = refl
timer_kept t (SetRole got role) n = refl
timer_kept t (SetCaps got caps) n = refl
timer_kept t (SetUser user) n = refl
timer_kept t (SetThermal got) n = refl
timer_kept t (SetThrottles got) n = refl
timer_kept t (Reset log) n = refl
timer_kept t (Unreset state made) n = refl
timer_kept t (SetMask mask) n = refl
timer_kept t (SetDeadman deadman) n = refl
timer_kept t (SetAreas areas) n = refl
timer_kept t (SetTimer timer) n = absurd (n refl)

-- that is, one whose tag is among the other thirteen
abbrev others : List ℕ
others = 0 ∷ 1 ∷ 2 ∷ 3 ∷ 4 ∷ 5 ∷ 6 ∷ 7 ∷ 8 ∷ 9 ∷ 10 ∷ 11 ∷ 12 ∷ []

pub timer_stays : (t : Timer) (ch : Change) → OneOf others (tag_of the_type ch) → t ≡ timer_after t ch
timer_stays t =
    by_timer
    (λ (ch : Change). OneOf others (tag_of the_type ch) → t ≡ timer_after t ch)
    (λ x h. absurd (miss others 13 tt h))
    (λ ch n h. sym (timer_kept t ch n))

-- a change and what takes it back are of one kind
pub kind_of_back : (r : Record) (ch : Change) → kind_of (back_of r ch) ≡ kind_of ch
unfolding kind_of back_of
kind_of_back r (Clear place log) = refl
kind_of_back r (Unclear place log) = refl
kind_of_back r (SetState state) = refl
kind_of_back r (SetRole got role) = refl
kind_of_back r (SetCaps got caps) = refl
kind_of_back r (SetUser user) = refl
kind_of_back r (SetThermal got) = refl
kind_of_back r (SetThrottles got) = refl
kind_of_back r (Reset log) = refl
kind_of_back r (Unreset state made) = refl
kind_of_back r (SetMask mask) = refl
kind_of_back r (SetDeadman deadman) = refl
kind_of_back r (SetAreas areas) = refl
kind_of_back r (SetTimer timer) = refl

module _ (t : Timer) where
  -- and is written as it is
  pub timed_other : (ch : Change) → NoTimer ch → timed_change t ch ≡ ch
  unfolding timed_change
  timed_other ch n = sym (else_eq _ _ n refl)

  -- so a law that holds of every timer change with another timer, and of every change with itself, holds of a change and the timed one
  pub timed_cases : (P : Change → Change → Type 0) → ((x : Timer) → P (SetTimer x) (SetTimer t)) → ((ch : Change) → NoTimer ch → P ch ch) → (ch : Change) → P ch (timed_change t ch)
  unfolding timed_change kind_of
  timed_cases P f g = by_timer (λ (ch : Change). P ch (timed_change t ch)) f (λ ch n. subst (P ch) (sym (timed_other ch n)) (g ch n))

  -- the record that it gives, its kind and what takes it back, are the same but for the timer
  pub timed_puts : (r : Record) (e : Edit) → put_of r (timed t e) ≡ put_of r e
  unfolding put_of timed put_with
  timed_puts r e = timed_cases (λ (a b : Change). put_with r e.tables b ≡ put_with r e.tables a) (λ x. refl) (λ ch n. refl) e.change

  pub timed_kind : (ch : Change) → kind_of (timed_change t ch) ≡ kind_of ch
  unfolding kind_of
  timed_kind = timed_cases (λ (a b : Change). kind_of b ≡ kind_of a) (λ x. refl) (λ ch n. refl)

  back_timed : (r : Record) (ch : Change) → back_of r (timed_change t ch) ≡ timed_change t (back_of r ch)
  unfolding back_of timed_change kind_of
  back_timed r =
      timed_cases (λ (a b : Change). back_of r b ≡ timed_change t (back_of r a)) (λ x. refl) (λ ch n. sym (timed_other (back_of r ch) (λ z. n (sym (kind_of_back r ch) ∙ z))))

  pub timed_inverse : (r : Record) (e : Edit) → inverse_of r (timed t e) ≡ timed t (inverse_of r e)
  unfolding inverse_of timed
  timed_inverse r e = λ i. record { change = back_timed r e.change i; tables = ap (λ (k : ℕ). tables_for k r) (timed_kind e.change) i }
