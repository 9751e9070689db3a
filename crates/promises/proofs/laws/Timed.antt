-- Document 02, h, in a history: a timer change that holds another timer gives the same record, draws no id, and can be undone and redone alike. Assumes nothing.
use Rattle.std.specs.Prelude.{ℕ, true, ◌≡◌, refl}
use Rattle.std.proofs.Math.Path.{sym}
use Rattle.std.proofs.Common.{ap, subst, ◌∙◌, add-zero}
use Rattle.record.specs.declared.Record.{Record}
use Rattle.record.specs.declared.Timer.{Timer}
use Rattle.change.specs.Change.{put_of, put_with, back_of, kind_of, inverse_of, timed_change, timed, timer_after}
use Rattle.change.proofs.laws.Timed.{by_timer, timer_kept, timed_cases, timed_other, kind_of_back}
use Rattle.change.specs.declared.Change.{Change}
use Rattle.change.specs.declared.Change.TheVariants.{SetTimer}
use Rattle.change.specs.declared.Edit.{Edit}
use Rattle.change.specs.declared.Tables.{Tables}
use Rattle.formed.specs.Formed.{record_ok, change_ok}
use Rattle.session.specs.Session.{made_of}
use Rattle.session.proofs.laws.Timer.{Clock}
use Rattle.links.specs.Typed.{TypedRecord}
use Rattle.links.proofs.laws.Made.{Made}
use Rattle.links.proofs.laws.Links.{Link, link}
use Rattle.promises.specs.Ids.{id_of}

module _ (t : Timer) where
  pub timed_made : (ch : Change) → made_of (timed_change t ch) ≡ made_of ch
  unfolding made_of
  timed_made = timed_cases t (λ (a b : Change). made_of b ≡ made_of a) (λ x. refl) (λ ch n. refl)

  pub timed_id : (ch : Change) → id_of (timed_change t ch) ≡ id_of ch
  unfolding id_of
  timed_id = timed_cases t (λ (a b : Change). id_of b ≡ id_of a) (λ x. refl) (λ ch n. refl)

  -- what takes a change back sets the timer as that change does
  pub after_back : (r : Record) (ch : Change) → timer_after t (back_of r ch) ≡ timer_after t ch
  unfolding timer_after back_of
  after_back r =
      by_timer (λ (ch : Change). timer_after t (back_of r ch) ≡ timer_after t ch) (λ x. refl)
      (λ ch n. timer_kept t (back_of r ch) (λ z. n (sym (kind_of_back r ch) ∙ z)) ∙ sym (timer_kept t ch n))

  module _ (c : Clock t) where
    pub made_timed : (r : Record) (n : ℕ) (tb : Tables) (ch : Change) → Made r n tb ch → Made r n tb (timed_change t ch)
    unfolding change_ok
    made_timed r n tb = timed_cases t (λ (a b : Change). Made r n tb a → Made r n tb b) (λ x m. record { ok = c.ok; fits = (c.fits, m.fits.1) }) (λ ch k m. m)

    -- so it links as that did
    pub link_timed : (r : Record) (n : ℕ) (e : Edit) → TypedRecord r → Made r n e.tables e.change → Link r n e → Link r n (timed t e)
    unfolding timed put_of put_with made_of change_ok
    link_timed r n e y =
        timed_cases t (λ (a b : Change). Made r n e.tables a → Link r n (record { change = a; tables = e.tables }) → Link r n (record { change = b; tables = e.tables }))
        (λ x m l. link r n (record { change = SetTimer t; tables = e.tables }) (subst (λ (k : ℕ). record_ok r k ≡ true) (add-zero n) l.put_sound) y (record { ok = c.ok; fits = (c.fits, m.fits.1) }))
        (λ ch k m l. l) e.change

-- the timer after a change that is made
pub after_clock : (t : Timer) (r : Record) (n : ℕ) (tb : Tables) (ch : Change) → Clock t → Made r n tb ch → Clock (timer_after t ch)
unfolding timer_after change_ok
after_clock t r n tb ch c =
    by_timer (λ (x : Change). Made r n tb x → Clock (timer_after t x)) (λ x m. record { ok = m.ok; fits = m.fits.0 }) (λ x k m. subst Clock (sym (timer_kept t x k)) c) ch

-- ---- a change, and its undo at once

-- the timer is what it was
pub timer_again : (t : Timer) (ch : Change) → timer_after (timer_after t ch) (timed_change t ch) ≡ t
unfolding timer_after timed_change kind_of
timer_again t =
    by_timer (λ (ch : Change). timer_after (timer_after t ch) (timed_change t ch) ≡ t) (λ x. refl)
    (λ ch n. ap (timer_after (timer_after t ch)) (timed_other t ch n) ∙ timer_kept (timer_after t ch) ch n ∙ timer_kept t ch n)

-- and the redo store holds the change
pub timed_again : (t : Timer) (e : Edit) → timed (timer_after t e.change) (timed t e) ≡ e
unfolding timed timer_after timed_change kind_of
timed_again t e = λ i. record { change = change_again e.change i; tables = e.tables }
  where
    change_again : (ch : Change) → timed_change (timer_after t ch) (timed_change t ch) ≡ ch
    change_again =
        by_timer (λ (ch : Change). timed_change (timer_after t ch) (timed_change t ch) ≡ ch) (λ x. refl)
        (λ ch n. ap (timed_change (timer_after t ch)) (timed_other t ch n) ∙ timed_other (timer_after t ch) ch n)

-- ---- a change, its undo and its redo at once: the timer, and what the change holds of it

pub timer_put_back : (t : Timer) (r : Record) (e : Edit) → timer_after (timer_after t (inverse_of r e).change) (timed t e).change ≡ t
unfolding inverse_of timed
timer_put_back t r e = ap (λ (u : Timer). timer_after u (timed_change t e.change)) (after_back t r e.change) ∙ timer_again t e.change

pub change_put_back : (t : Timer) (r : Record) (e : Edit) → timed (timer_after t (inverse_of r e).change) (timed t e) ≡ e
unfolding inverse_of
change_put_back t r e = ap (λ (u : Timer). timed u (timed t e)) (after_back t r e.change) ∙ timed_again t e
