-- Each change that a command makes is undone by its entry. Assumes nothing.
use Rattle.std.specs.Prelude.{ℕ, ◌+◌, ◌^◌, ◌≤◌, ◌<◌, true, Some, ◌≡◌, refl, ltb, leb}
use Rattle.std.proofs.Common.{sym, ap, subst, ◌∙◌, ⊎_elim, arith, ltb-false}
use Rattle.wire.proofs.laws.Cases.{else_eq}
use Rattle.record.specs.declared.Log.{Log}
use Rattle.record.specs.Record.{timer_off}
use Rattle.record.specs.declared.Record.{Record}
use Rattle.record.specs.declared.Timer.{Timer}
use Rattle.change.specs.With.{with_throttles, with_thermal}
use Rattle.std.specs.Option.{unwrap_or}
use Rattle.change.specs.Change.{put_with, put_of, put_after, back_of, kind_of, tables_for, inverse_of, timed_change, timer_after}
use Rattle.change.proofs.laws.Timed.{by_timer, timer_kept, timed_other, kind_of_back}
use Rattle.change.specs.declared.Change.{Change}
use Rattle.change.specs.declared.Change.TheVariants.{Clear, Unclear, SetState, SetRole, SetCaps, SetUser, SetThermal, SetThrottles, Reset, Unreset, SetMask, SetDeadman, SetAreas, SetTimer}
use Rattle.change.specs.declared.Tables.{Tables}
use Rattle.change.specs.declared.Edit.{Edit}
use Rattle.formed.specs.Formed.{next_ok, logs_ok, made_ok, change_ok, record_ok, edit_ok}
use Rattle.formed.proofs.laws.Formed.{Sound, sound, sound_ok, logs_next_up, pends_cleared, inverse_ok}
use Rattle.journal.specs.Bytes.{entry_for, entry_bytes}
use Rattle.journal.specs.Read.{got_of, entry_ok}
use Rattle.journal.proofs.laws.Bodies.{Writable}
use Rattle.journal.specs.declared.Way.{Way}
use Rattle.journal.specs.declared.Way.TheVariants.{Before, After}
use Rattle.journal.specs.Ways.{by_way, other}
use Rattle.journal.proofs.laws.Says.{Holds}
use Rattle.session.specs.Session.{made_of}
use Rattle.links.specs.Typed.{TypedRecord}
use Rattle.wire.proofs.laws.Chains.{passed}
use Rattle.links.proofs.laws.Made.{NewLog, Made}
use Rattle.links.proofs.laws.Landing.{next_ok_lem, lands}
use Rattle.links.proofs.laws.Entry.{entry_got, entry_ok_lem}

-- ---- a higher next id keeps a record well formed

next_low : (n : ℕ) → next_ok n ≡ true → 1 ≤ n
unfolding next_ok
next_low n h = ltb-false n 1 (passed (ltb n 1) (leb n 256) h).0

pub next_up : (r : Record) (n m : ℕ) → record_ok r n ≡ true → n ≤ m → m ≤ 256 → record_ok r m ≡ true
next_up r n m ok up high =
    let s = sound ok in
    let next : next_ok m ≡ true = next_ok_lem m (omega (arith, next_low n s.next)) high in
    let logs : logs_ok m r.logs ≡ true = logs_next_up n r.logs s.logs m up in
    sound_ok (search (s, next, logs))

-- ---- the change and what takes it back

log_ok_lem : (r : Record) (n : ℕ) (x : Log) → NewLog r n x → made_ok x ≡ true
unfolding made_ok
log_ok_lem r n x new = sym (else_eq _ _ {m = x.id} {n = 0} (λ z. omega arith) (sym new.reason))

-- the values of a change that is made pass
made_ok_lem : (r : Record) (n : ℕ) (t : Tables) (ch : Change) → Sound r n → Made r n t ch → change_ok t ch ≡ true
unfolding change_ok made_ok
made_ok_lem r n t (Clear place log) s m = pends_cleared n r.logs s.logs place log m.0
made_ok_lem r n t (Unclear place log) s m = absurd m
made_ok_lem r n t (SetState state) s m = m.ok
made_ok_lem r n t (SetRole got role) s m = m.ok
made_ok_lem r n t (SetCaps got caps) s m = m.ok
made_ok_lem r n t (SetUser user) s m = m.ok
made_ok_lem r n t (SetThermal got) s m = m.ok
made_ok_lem r n t (SetThrottles got) s m = m.ok
made_ok_lem r n t (Reset log) s m = ⊎_elim (λ e. subst (λ (x : Log). made_ok x ≡ true) (sym e) refl) (log_ok_lem r n log) m.0
made_ok_lem r n t (Unreset state made) s m = absurd m
made_ok_lem r n t (SetMask mask) s m = m.ok
made_ok_lem r n t (SetDeadman deadman) s m = m.ok
made_ok_lem r n t (SetAreas areas) s m = m.ok
made_ok_lem r n t (SetTimer timer) s m = m.ok

-- what takes a change back goes into the other store, and has the widths of the record's fields and of the timer's
pub writable_back : (w : Way) (r : Record) (timer : Timer) (ch : Change) → TypedRecord r → timer.left < 256 ^ 8 → Holds w ch
    → Writable (other w) (tables_for (kind_of ch) r) (timed_change timer (back_of r ch))
unfolding tables_for kind_of back_of timed_change other by_way
writable_back w r t (Clear place log) y f h = (ap other h, refl)
writable_back w r t (Unclear place log) y f h = (ap other h, refl)
writable_back w r t (SetState state) y f h = refl
writable_back w r t (SetRole got role) y f h = refl
writable_back w r t (SetCaps got caps) y f h = (y.caps, refl)
writable_back w r t (SetUser user) y f h = (y.user, refl)
writable_back w r t (SetThermal got) y f h = (y.thermal, refl)
writable_back w r t (SetThrottles got) y f h = (y.present, y.sets, refl)
writable_back w r t (Reset log) y f h = (ap other h, refl)
writable_back w r t (Unreset state made) y f h = (ap other h, refl)
writable_back w r t (SetMask mask) y f h = (y.mask, refl)
writable_back w r t (SetDeadman deadman) y f h = (y.time, refl)
writable_back w r t (SetAreas areas) y f h = (y.ffdc, y.pass, refl)
writable_back w r t (SetTimer timer) y f h = (f, refl)

-- a timer change that is taken back by itself
own_timer : (r : Record) (ch : Change) → timed_change (timer_after timer_off ch) (back_of r ch) ≡ back_of r ch
unfolding timed_change timer_after back_of kind_of
own_timer r =
    by_timer (λ (ch : Change). timed_change (timer_after timer_off ch) (back_of r ch) ≡ back_of r ch) (λ x. refl)
    (λ ch n. timed_other (timer_after timer_off ch) (back_of r ch) (λ z. n (sym (kind_of_back r ch) ∙ z)))

own_fits : (w : Way) (t : Tables) (ch : Change) → Writable w t ch → (timer_after timer_off ch).left < 256 ^ 8
unfolding timer_after
own_fits w t =
    by_timer (λ (ch : Change). Writable w t ch → (timer_after timer_off ch).left < 256 ^ 8) (λ x h. h.0)
    (λ ch n h. subst (λ (x : Timer). x.left < 256 ^ 8) (sym (timer_kept timer_off ch n)) (omega arith))

-- and so has the change itself
writable_made : (r : Record) (n : ℕ) (t : Tables) (ch : Change) → Made r n t ch → Writable After t ch
writable_made r n t (Clear place log) m = (refl, m.1)
writable_made r n t (Unclear place log) m = absurd m
writable_made r n t (SetState state) m = m.fits
writable_made r n t (SetRole got role) m = m.fits
writable_made r n t (SetCaps got caps) m = m.fits
writable_made r n t (SetUser user) m = m.fits
writable_made r n t (SetThermal got) m = m.fits
writable_made r n t (SetThrottles got) m = m.fits
writable_made r n t (Reset log) m = (refl, m.1)
writable_made r n t (Unreset state made) m = absurd m
writable_made r n t (SetMask mask) m = m.fits
writable_made r n t (SetDeadman deadman) m = m.fits
writable_made r n t (SetAreas areas) m = m.fits
writable_made r n t (SetTimer timer) m = m.fits

holds_made : (w : Way) (t : Tables) (ch : Change) → Writable w t ch → Holds w ch
holds_made w t (Clear place log) h = h.0
holds_made w t (Unclear place log) h = h.0
holds_made w t (SetState state) h = tt
holds_made w t (SetRole got role) h = tt
holds_made w t (SetCaps got caps) h = tt
holds_made w t (SetUser user) h = tt
holds_made w t (SetThermal got) h = tt
holds_made w t (SetThrottles got) h = tt
holds_made w t (Reset log) h = h.0
holds_made w t (Unreset state made) h = h.0
holds_made w t (SetMask mask) h = tt
holds_made w t (SetDeadman deadman) h = tt
holds_made w t (SetAreas areas) h = tt
holds_made w t (SetTimer timer) h = tt

-- the tables beside it are those that the record after it has
tables_again : (r : Record) (n : ℕ) (t : Tables) (ch : Change) → Made r n t ch → tables_for (kind_of ch) (unwrap_or (put_with r t ch) r) ≡ t
unfolding tables_for kind_of put_with with_thermal with_throttles
tables_again r n t (Clear place log) m = sym m.1
tables_again r n t (Unclear place log) m = absurd m
tables_again r n t (SetState state) m = sym m.fits
tables_again r n t (SetRole got role) m = sym m.fits
tables_again r n t (SetCaps got caps) m = sym m.fits.1
tables_again r n t (SetUser user) m = sym m.fits.1
tables_again r n t (SetThermal got) m = λ i. record { thermal = t.thermal; throttles = sym m.fits.1 i }
tables_again r n t (SetThrottles got) m = λ i. record { thermal = sym m.fits.2 i; throttles = t.throttles }
tables_again r n t (Reset log) m = sym m.1
tables_again r n t (Unreset state made) m = absurd m
tables_again r n t (SetMask mask) m = sym m.fits.1
tables_again r n t (SetDeadman deadman) m = sym m.fits.1
tables_again r n t (SetAreas areas) m = sym m.fits.2
tables_again r n t (SetTimer timer) m = sym m.fits.1

-- ---- all that is known of a change e that is made on the record r with the next id n: its entry holds inverseOf r e, and once it is undone, the
-- redo store e itself

pub record Link (r : Record) (n : ℕ) (e : Edit) : Type 0 where
  pub put_accepted : put_of r e ≡ Some (put_after r e)
  pub put_sound : record_ok (put_after r e) (n + made_of e.change) ≡ true
  pub put_typed : TypedRecord (put_after r e)
  pub back_writable : Writable Before (inverse_of r e).tables (inverse_of r e).change
  pub here_writable : Writable After e.tables e.change
  pub put_back : put_of (put_after r e) (inverse_of r e) ≡ Some r
  pub again : inverse_of (put_after r e) (inverse_of r e) ≡ e
  pub kind_back : kind_of (inverse_of r e).change ≡ kind_of e.change
  pub entry_good : entry_ok Before (entry_for (inverse_of r e)) ≡ true
  pub entry_reads : got_of Before (entry_bytes (inverse_of r e)) ≡ Some (inverse_of r e)
  pub redo_good : entry_ok After (entry_for e) ≡ true
  pub redo_reads : got_of After (entry_bytes e) ≡ Some e

pub link : (r : Record) (n : ℕ) (e : Edit) → record_ok r n ≡ true → TypedRecord r → Made r n e.tables e.change → Link r n e
unfolding put_of inverse_of edit_ok other by_way
link r n e ok y m =
    let s = sound ok in
    let l = lands r n s y e.tables e.change m in
    let here = writable_made r n e.tables e.change m in
    let back : Writable Before (inverse_of r e).tables (inverse_of r e).change =
    subst (Writable Before (inverse_of r e).tables) (own_timer r e.change)
    (writable_back After r (timer_after timer_off e.change) e.change y (own_fits After e.tables e.change here) (holds_made After e.tables e.change here)) in
    let ok-here : edit_ok e ≡ true = made_ok_lem r n e.tables e.change s m in
    let good : edit_ok (inverse_of r e) ≡ true = inverse_ok r n e s ok-here in
    let kind = kind_of_back r e.change in
    let tables = ap (λ (k : ℕ). tables_for k (put_after r e)) kind ∙ tables_again r n e.tables e.change m in
    record {
      put_accepted = l.put;
      put_sound = sound_ok l.sound;
      put_typed = l.typed;
      back_writable = back;
      here_writable = here;
      put_back = l.back;
      again = λ i. record { change = l.again i; tables = tables i };
      kind_back = kind;
      entry_good = entry_ok_lem Before (inverse_of r e) back good;
      entry_reads = entry_got Before (inverse_of r e) back;
      redo_good = entry_ok_lem After e here ok-here;
      redo_reads = entry_got After e here;
    }
