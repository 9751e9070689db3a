-- Where a change lands: the record after it is well formed, and what was before leads back. Assumes nothing.
use Rattle.std.specs.Prelude.{ℕ, suc, ◌+◌, ◌≤◌, ◌<◌, not, Option, Some, ◌≡◌}
use Rattle.std.specs.Option.{unwrap_or}
use Rattle.std.proofs.Math.Bool.{true}
use Rattle.std.proofs.Math.Path.{refl, ap, subst}
use Rattle.std.proofs.Common.{sym, ◌∙◌, add-zero, arith, le-leb}
use mathlib.Core.List.{List}
use Rattle.std.proofs.Math.Logic.{⊎_elim}
use Rattle.wire.proofs.laws.Cases.{else_b, else_lt, else_le, else_eq}
use Rattle.record.specs.Record.{no_log}
use Rattle.record.specs.declared.Log.{Log}
use Rattle.record.specs.declared.Record.{Record}
use Rattle.change.specs.Logs.{pending_of, remove_at, insert_at, pends_at}
use Rattle.change.specs.With.{with_state, with_role, with_caps, with_throttles, with_user, with_thermal, with_logs, with_mask, with_deadman, with_areas}
use Rattle.change.specs.Change.{clear_of, unclear_of, reset_of, unreset_of, put_with, back_of, kind_of, tables_for, made_by, made_again}
use Rattle.change.specs.declared.Change.{Change}
use Rattle.change.specs.declared.Change.TheVariants.{Clear, Unclear, SetState, SetRole, SetCaps, SetUser, SetThermal, SetThrottles, Reset, Unreset, SetMask, SetDeadman, SetAreas, SetTimer}
use Rattle.change.specs.declared.Tables.{Tables}
use Rattle.formed.specs.Formed.{state_ok, next_ok, change_ok, logs_ok}
use Rattle.formed.proofs.laws.Formed.{Sound, logs_snoc, logs_remove}
use Rattle.session.specs.Session.{made_of}
use Rattle.links.specs.Typed.{TypedRecord}
use Rattle.links.proofs.laws.Logs.{Used, pending_length, Removed, removed, Inserted, inserted}
use Rattle.links.proofs.laws.Made.{NewLog, Made}

-- ---- what a clear, a reset and their ways back make of a record, where they are accepted

clear_puts : (r : Record) (p : ℕ) (x : Log) → pends_at p x r.logs ≡ true → clear_of r p x ≡ Some (with_logs r (remove_at p r.logs))
unfolding clear_of
clear_puts r p x h = sym (else_b _ _ (ap not h) refl)

unclear_puts : (r : Record) (p : ℕ) (x : Log) → p ≤ pending_of r.logs → pending_of r.logs < 4 → unclear_of r p x ≡ Some (with_logs r (insert_at p x r.logs))
unfolding unclear_of
unclear_puts r p x h g = sym (else_lt _ _ h (else_le _ _ g refl))

reset_puts : (r : Record) (x : Log) → Used x → pending_of r.logs < 4 → reset_of r x ≡ Some (with_logs (with_state r 1) (insert_at (pending_of r.logs) x r.logs))
unfolding reset_of
reset_puts r x u g = sym (else_eq _ _ u (else_le _ _ g refl))

unreset_puts : (r : Record) (state made q : ℕ) → made ≡ 1 → pending_of r.logs ≡ suc q → unreset_of r state made ≡ Some (with_logs (with_state r state) (remove_at q r.logs))
unfolding unreset_of
unreset_puts r state made q m e =
    sym (else_eq _ _ {m = made} {n = 0} (λ z. omega arith) (else_eq _ _ {m = pending_of r.logs} {n = 0} (λ z. omega arith) refl))
    ∙ ap (λ (k : ℕ). Some (with_logs (with_state r state) (remove_at k r.logs))) (omega arith)

made_by_used : (x : Log) → Used x → made_by x ≡ 1
unfolding made_by
made_by_used x u = sym (else_eq _ _ u refl)

pub next_ok_lem : (n : ℕ) → 1 ≤ n → n ≤ 256 → next_ok n ≡ true
unfolding next_ok
next_ok_lem n low high = sym (else_lt _ _ low (sym (le-leb n 256 high)))

-- ---- each change

-- p, the change ch put into r: accepted, and the record after it well formed with the ids that it draws; what was before leads back, and what was after is the change
pub record Landing (r : Record) (n : ℕ) (ch : Change) (p : Option Record) : Type 0 where
  pub put : p ≡ Some (unwrap_or p r)
  pub sound : Sound (unwrap_or p r) (n + made_of ch)
  pub typed : TypedRecord (unwrap_or p r)
  pub back : put_with (unwrap_or p r) (tables_for (kind_of ch) r) (back_of r ch) ≡ Some r
  pub again : back_of (unwrap_or p r) (back_of r ch) ≡ ch

landed : {r : Record} {n : ℕ} {ch : Change} (x : Record) → Sound x (n + made_of ch) → TypedRecord x → put_with x (tables_for (kind_of ch) r) (back_of r ch) ≡ Some r
    → back_of x (back_of r ch) ≡ ch → Landing r n ch (Some x)
landed x s y b a = record { put = refl; sound = s; typed = y; back = b; again = a }

still : {r : Record} {n : ℕ} → Sound r n → Sound r (n + 0)
still {n = n} s = rw (add-zero n) s

module _ (r : Record) (n : ℕ) (s : Sound r n) (y : TypedRecord r) where
  -- a cleared log goes back to its place
  clear_back : (p : ℕ) (x : Log) → Removed p x r.logs → unclear_of (with_logs r (remove_at p r.logs)) p x ≡ Some r
  unfolding with_logs
  clear_back p x out =
      unclear_puts (with_logs r (remove_at p r.logs)) p x (omega arith) (omega (arith, pending_length r.logs))
      ∙ ap (λ (l : List Log). Some (with_logs r l)) out.insert_removed

  clear_lands : (p : ℕ) (x : Log) → pends_at p x r.logs ≡ true → Landing r n (Clear p x) (clear_of r p x)
  unfolding made_of put_with back_of with_logs
  clear_lands p x h =
      let out = removed n r.logs s.logs y.logs p x h in
      let ok : logs_ok n (remove_at p r.logs) ≡ true = logs_remove n r.logs s.logs p in
      subst (Landing r n (Clear p x)) (sym (clear_puts r p x h)) (landed _ (still (search (s, ok))) (search (y, out)) (clear_back p x out) refl)

  -- a reset without a log
  plain_lands : Landing r n (Reset no_log) (reset_of r no_log)
  unfolding made_of made_by made_again put_with back_of reset_of unreset_of with_state state_ok
  plain_lands = let state : state_ok 1 ≡ true = refl in landed _ (still (search (s, state))) (search y) refl refl

  -- a reset with a log, which draws the next id
  module _ (x : Log) (new : NewLog r n x) where
    abbrev more : List Log
    more = insert_at (pending_of r.logs) x r.logs

    used : Used x
    used z = omega arith

    into : Inserted x r.logs
    into = inserted n r.logs s.logs y.logs x used new.room

    more_ok : logs_ok (n + made_by x) more ≡ true
    more_ok =
        ap (λ (k : ℕ). logs_ok (n + k) more) (made_by_used x used)
        ∙ ap (λ (i : ℕ). logs_ok (n + 1) (insert_at (pending_of r.logs) (record { id = i; reason = x.reason }) r.logs)) new.id
        ∙ logs_snoc n r.logs s.logs x.reason new.reason new.low y.logs new.room

    -- the log that pends last is taken out again
    reset_back : unreset_of (with_logs (with_state r 1) more) r.state (made_by x) ≡ Some r
    unfolding with_logs with_state
    reset_back =
        unreset_puts (with_logs (with_state r 1) more) r.state (made_by x) (pending_of r.logs) (made_by_used x used) into.pending_inserted
        ∙ ap (λ (l : List Log). Some (with_logs r l)) into.remove_inserted

    -- and it is the one that a redo brings back
    reset_again : Reset (made_again more (made_by x)) ≡ Reset x
    unfolding made_again
    reset_again = ap Reset (sym (else_eq _ _ {m = made_by x} {n = 0} (λ z. omega (arith, made_by_used x used)) refl) ∙ into.last_inserted)

    reset_lands : Landing r n (Reset x) (reset_of r x)
    unfolding made_of put_with back_of with_logs with_state state_ok
    reset_lands =
        let state : state_ok 1 ≡ true = refl in
        let next : next_ok (n + made_by x) ≡ true = next_ok_lem (n + made_by x) (omega arith) (omega (arith, made_by_used x used)) in
        subst (Landing r n (Reset x)) (sym (reset_puts r x used new.room))
        (landed _ (search (s, state, next, more_ok)) (search (y, into)) reset_back reset_again)

  pub lands : (t : Tables) (ch : Change) → Made r n t ch → Landing r n ch (put_with r t ch)
  unfolding put_with made_of tables_for kind_of back_of change_ok with_state with_role with_caps with_throttles with_user with_thermal with_mask with_deadman with_areas
  lands t (Clear place log) m = clear_lands place log m.0
  lands t (Unclear place log) m = absurd m
  lands t (SetState state) m = landed _ (still (search (s, m))) (search y) refl refl
  lands t (SetRole got role) m = landed _ (still (search (s, m))) (search y) refl refl
  lands t (SetCaps got caps) m = landed _ (still (search (s, m))) (search (y, m)) refl refl
  lands t (SetUser user) m = landed _ (still (search s)) (search (y, m)) refl refl
  lands t (SetThermal got) m = landed _ (still (search (s, m))) (search (y, m)) refl refl
  lands t (SetThrottles got) m = landed _ (still (search (s, m))) (search (y, m)) refl refl
  lands t (Reset log) m =
      ⊎_elim (λ e. subst (λ (x : Log). Landing r n (Reset x) (reset_of r x)) (sym e) plain_lands) (reset_lands log) m.0
  lands t (Unreset state made) m = absurd m
  lands t (SetMask mask) m = landed _ (still (search s)) (search (y, m)) refl refl
  lands t (SetDeadman deadman) m = landed _ (still (search (s, m))) (search (y, m)) refl refl
  lands t (SetAreas areas) m = landed _ (still (search (s, m))) (search (y, m)) refl refl
  lands t (SetTimer timer) m = landed r (still s) y refl refl
