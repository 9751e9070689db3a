-- Document 01, "OCC packets": a command gets each status exactly when its row holds and none before it. d is the data. Assumes nothing.
use Rattle.std.specs.Prelude.{ℕ, ◌+◌, ◌-◌, ◌*◌, ◌≤◌, Bool, true, cond, not, ◌≡◌, refl, List, Option, ◌↔◌, ◌⊎◌, ltb, leb, eqb, length, drop, Ok, Err, Some, None}
use Rattle.packet.specs.Packet.{Checked, status_number}
use Rattle.packet.specs.declared.Status.{Status}
use Rattle.packet.specs.declared.Status.TheVariants.{InvalidCommand, InvalidLength, InvalidData, InternalError, StateProhibits}
use Rattle.std.specs.Option.{is_some}
use Rattle.std.proofs.lemmas.Bool.{false≢true}
use Rattle.std.proofs.Math.Bool.{true≢false}
use Rattle.std.proofs.Common.{sym, ap, subst, ◌∙◌, arith, lit<}
use Rattle.std.proofs.Math.Logic.{inl, inr, ⊎_elim}
use borrow.Author.Tests.{ltb-false, ltb-true, eqb-true, eqb-false, not-true, not-false, leb-true, leb-false}
use Rattle.std.proofs.Math.ListN.{get_or}
use Rattle.wire.specs.Conditions.{◌and◌, is, none, row}
use Rattle.wire.proofs.laws.Cases.{cond_cases}
use Rattle.wire.proofs.laws.Chains.{holds, eq_holds, not_passes, eq_passes, unless, or_case, last_case}
use Rattle.wire.proofs.laws.Tables.{lt_holds, fails, differs, ByTable, by_none, by_is, hit, miss, by_rows}
use Rattle.record.specs.declared.Log.{Log}
use Rattle.record.specs.declared.Caps.{Caps}
use Rattle.record.specs.declared.Record.{Record}
use Rattle.record.specs.declared.Worked.{Worked}
use Rattle.change.specs.Logs.{pending_of, find_of}
use Rattle.change.specs.declared.Change.{Change}
use Rattle.change.specs.declared.Tables.{Tables}
use Rattle.sets.specs.Conditions.{SetsOk, FrusOk}
use Rattle.sets.proofs.laws.Exactly.{sets_exactly, frus_exactly}
use Rattle.occ.specs.declared.Verdict.{Verdict}
use Rattle.occ.specs.declared.Verdict.TheVariants.{Refuse, Poll, Make}
use Rattle.occ.specs.declared.Judged.{Judged}
use Rattle.occ.specs.Commands.{poll_verdict, clear_at, clear_verdict, not_ready, state_verdict, role_verdict, caps_for, caps_verdict, user_for, user_verdict, log_due, reset_for, reset_verdict}
use Rattle.occ.specs.Judge.{plainly, count_status, sets_status, sets_read, read_judged, throttles_made, throttles_read, throttles_judged, thermal_made, thermal_read, thermal_judged, format_judged, configure_judged, type_judged, judge_of}
use Rattle.occ.specs.Open.{open_to}
use Rattle.occ.proofs.laws.Open.{open_to_is}
use Rattle.occ.specs.Conditions.{Pends, accepts}
use Rattle.occ.proofs.laws.Exactly.{Search, found, missed, searched, state_fits_exactly, user_allowed_exactly, log_due_exactly, counted}
use Rattle.occ.specs.Statuses.{PollStatus, ClearStatus, StateStatus, RoleStatus, CapsStatus, SetsStatus, ConfigureStatus, UserStatus, ResetStatus, CommandStatus}

-- ---- a verdict gives a status if it refuses with it

abbrev pub Refuses : Verdict → ℕ → Type 0
Refuses v n = (status : Status) × (v ≡ Refuse status) × (n ≡ status_number status)

same_status : (x y : Status) → Refuse x ≡ Refuse y → y ≡ x
same_status x y e = cc

never : (v : Verdict) → accepts v ≡ true → (n : ℕ) → Refuses v n → ⊥
unfolding accepts
never v h n e = true≢false (sym h ∙ ap accepts e.1)

-- one that refuses, with its own number alone
pub refuses_as : (x : Status) (n : ℕ) → Refuses (Refuse x) n → n ≡ status_number x
refuses_as x n e = e.2 ∙ ap status_number (same_status x e.0 e.1)

refuses : (x : Status) → ByTable Refuses (Refuse x) (is (status_number x))
refuses x = by_is Refuses (x, refl, refl) (refuses_as x)

polls : ByTable Refuses Poll none
unfolding accepts
polls = by_none Refuses (never Poll refl)

makes : (ch : Change) → ByTable Refuses (Make ch) none
unfolding accepts
makes ch = by_none Refuses (never (Make ch) refl)

-- ---- each command

poll_rows : (d : List ℕ) → ByTable Refuses (poll_verdict d) (PollStatus d)
unfolding poll_verdict PollStatus
poll_rows d = by_rows Refuses (differs _ _) (refuses InvalidLength) (by_rows Refuses (differs _ _) (refuses InvalidData) polls)

clear_rows : (logs : List Log) (d : List ℕ) → length logs ≡ 4 → ByTable Refuses (clear_verdict logs d) (ClearStatus logs d)
unfolding clear_verdict clear_at ClearStatus Pends
clear_rows logs d four =
    by_rows Refuses (differs _ _) (refuses InvalidLength) (by_search (find_of (get_or d 0 0) logs) (searched (get_or d 0 0) logs four))
  where
    by_search : (o : Option ℕ) → Search (get_or d 0 0) logs o → ByTable Refuses (clear_at o logs) (row 0x13 (Pends (get_or d 0 0) logs → ⊥) none)
    by_search _ (found p n l e) = miss Refuses (λ h. h (n, (p, l, e))) (makes _)
    by_search _ (missed n) = hit Refuses n (refuses InvalidData)

unready_exactly : (w : Worked) (state : ℕ) → (not_ready w state ≡ true) ↔ (((state ≡ 2) and (w.observation ≡ 0)) ⊎ ((state ≡ 3) and (w.active ≡ 0)))
unfolding not_ready
unready_exactly w state = (or_case holds state 2 (lit< tt) (eq_holds _ _) (last_case holds state 3 (eq_holds _ _) refl)).exactly

state_rows : (w : Worked) (d : List ℕ) → ByTable Refuses (state_verdict w d) (StateStatus w d)
unfolding state_verdict StateStatus
state_rows w d =
    by_rows Refuses (differs _ _) (refuses InvalidLength)
    (by_rows Refuses (fails (not_passes (state_fits_exactly _ _ _))) (refuses InvalidData)
    (by_rows Refuses (unready_exactly w _) (refuses StateProhibits) (makes _)))

role_rows : (state : ℕ) (d : List ℕ) → ByTable Refuses (role_verdict state d) (RoleStatus state d)
unfolding role_verdict RoleStatus
role_rows state d =
    by_rows Refuses (differs _ _) (refuses InvalidLength)
    (by_rows Refuses (lt_holds _ _) (refuses InvalidData) (by_rows Refuses (differs _ _) (refuses StateProhibits) (makes _)))

caps_rows : (role : ℕ) (d : List ℕ) → ByTable Refuses (caps_verdict role d) (CapsStatus role d)
unfolding caps_verdict caps_for CapsStatus
caps_rows role d =
    by_rows Refuses (differs _ _) (refuses InvalidLength)
    (by_rows Refuses (differs _ _) (refuses InvalidData)
    (by_rows Refuses (lt_holds _ _) (refuses InvalidData)
    (by_rows Refuses (eq_holds _ _) (refuses StateProhibits) (makes _))))

user_rows : (role got : ℕ) (caps : Caps) (d : List ℕ) → ByTable Refuses (user_verdict role got caps d) (UserStatus role got caps d)
unfolding user_verdict user_for UserStatus
user_rows role got caps d =
    by_rows Refuses (differs _ _) (refuses InvalidLength)
    (by_rows Refuses (fails (not_passes (user_allowed_exactly got caps _))) (refuses InvalidData)
    (by_rows Refuses (eq_holds _ _) (refuses StateProhibits) (makes _)))

module _ (role next reason : ℕ) (logs : List Log) where
  abbrev LogDue : Type 0
  LogDue = (reason ≡ 1) ⊎ ((reason ≡ 2) and (role ≡ 1))

  abbrev NoLogLeft : ℕ → Type 0
  NoLogLeft = row 0x15 (LogDue and ((4 ≤ pending_of logs) ⊎ (256 ≤ next))) none

  log_rows : ByTable Refuses (reset_for role logs next reason) NoLogLeft
  unfolding reset_for
  log_rows =
      let P : Verdict → Type 0 = λ (v : Verdict). ByTable Refuses v NoLogLeft in
      cond_cases P (not (log_due role reason))
      (λ t. miss Refuses (λ h. true≢false (sym ((log_due_exactly role reason).1 h.0) ∙ not-true _ t)) (makes _))
      (λ t. let due = (log_due_exactly role reason).0 (not-false _ t) in
      cond_cases P (leb 4 (pending_of logs)) (λ a. hit Refuses (due, inl (leb-true 4 _ a)) (refuses InternalError))
      (λ a. cond_cases P (leb 256 next) (λ b. hit Refuses (due, inr (leb-true 256 next b)) (refuses InternalError))
      (λ b. miss Refuses (λ h. ⊎_elim (λ k. omega (arith, leb-false 4 (pending_of logs) a, k)) (λ k. omega (arith, leb-false 256 next b, k)) h.1) (makes _))))

reset_rows : (role : ℕ) (logs : List Log) (next : ℕ) (d : List ℕ) → ByTable Refuses (reset_verdict role logs next d) (ResetStatus role logs next d)
unfolding reset_verdict ResetStatus
reset_rows role logs next d =
    by_rows Refuses (differs _ _) (refuses InvalidLength)
    (by_rows Refuses (differs _ _) (refuses InvalidData)
    (by_rows Refuses (lt_holds _ _) (refuses InvalidData) (log_rows role next _ logs)))

-- ---- what is judged, with tables beside it

abbrev pub Declines : Judged → ℕ → Type 0
Declines j n = Refuses j.verdict n

plain : {v : Verdict} {T : ℕ → Type 0} → ByTable Refuses v T → ByTable Declines (plainly v) T
unfolding plainly
plain b = record { exactly = b.exactly }

made : (ch : Change) (t : Tables) → ByTable Declines (record { verdict = Make ch; tables = t }) none
made ch t = record { exactly = (makes ch).exactly }

-- the tests that both formats with sets begin with, and the sets after them
module _ {A : Type 0} (on : A → Judged) (v : Option A) {T : ℕ → Type 0} (rest : ByTable Declines (read_judged on (sets_read (Ok tt) v)) T) where
  abbrev Counted : Checked → ℕ → Type 0
  Counted status n = Declines (read_judged on (sets_read status v)) n

  counts : (x : Status) → ByTable Counted (Err x) (is (status_number x))
  unfolding plainly read_judged sets_read
  counts x = record { exactly = (refuses x).exactly }

  counts_on : ByTable Counted (Ok tt) T
  counts_on = record { exactly = rest.exactly }

  count_rows : (width : ℕ) (d : List ℕ)
      → ByTable Counted (sets_status width d) (row 0x12 (length d ≡ 3 + get_or d 2 0 * width → ⊥) (row 0x13 (get_or d 1 0 ≡ 0x10 → ⊥) (row 0x13 (get_or d 2 0 ≡ 0) T)))
  unfolding sets_status count_status
  count_rows width d =
      let after = by_rows Counted (differs (get_or d 1 0) 0x10) (counts InvalidData) (by_rows Counted (eq_holds (get_or d 2 0) 0) (counts InvalidData) counts_on) in
      cond_cases (λ (x : Checked). ByTable Counted x (row 0x12 (length d ≡ 3 + get_or d 2 0 * width → ⊥) (row 0x13 (get_or d 1 0 ≡ 0x10 → ⊥) (row 0x13 (get_or d 2 0 ≡ 0) T)))) (ltb (length d) 3)
      (λ a. hit Counted (λ e. omega (arith, ltb-true (length d) 3 a, e)) (counts InvalidLength))
      (λ a. cond_cases (λ (x : Checked). ByTable Counted x (row 0x12 (length d ≡ 3 + get_or d 2 0 * width → ⊥) (row 0x13 (get_or d 1 0 ≡ 0x10 → ⊥) (row 0x13 (get_or d 2 0 ≡ 0) T)))) (not (eqb (length d - 3) (get_or d 2 0 * width)))
      (λ b. hit Counted (λ e. eqb-false _ _ (not-true _ b) ((counted (length d) (get_or d 2 0 * width)).1 e).1) (counts InvalidLength))
      (λ b. miss Counted (λ h. h ((counted (length d) (get_or d 2 0 * width)).0 (ltb-false (length d) 3 a, eqb-true _ _ (not-false _ b)))) after))

-- the sets were read without fault
read_rows : {A : Type 0} {rule : Type 0} (on : A → Judged) (v : Option A) → ((t : A) → ByTable Declines (on t) none) → (is_some v ≡ true) ↔ rule
    → ByTable Declines (read_judged on (sets_read (Ok tt) v)) (row 0x13 (rule → ⊥) none)
unfolding read_judged sets_read
read_rows on None h p = hit Declines (λ r. false≢true (p.1 r)) (plain (refuses InvalidData))
read_rows on (Some t) h p = miss Declines (λ r. r (p.0 refl)) (h t)

throttles_rows_lem : (d : List ℕ) → ByTable Declines (throttles_judged d) (SetsStatus 12 d (SetsOk (get_or d 2 0) (drop 3 d)))
unfolding throttles_judged throttles_read SetsStatus
throttles_rows_lem d = record { exactly = (count_rows throttles_made _ (read_rows throttles_made _ (λ t. made _ _) (sets_exactly (get_or d 2 0) (drop 3 d))) 12 d).exactly }

thermal_rows_lem : (d : List ℕ) → ByTable Declines (thermal_judged d) (SetsStatus 4 d (FrusOk (get_or d 2 0) (drop 3 d)))
unfolding thermal_judged thermal_read SetsStatus
thermal_rows_lem d = record { exactly = (count_rows thermal_made _ (read_rows thermal_made _ (λ t. made _ _) (frus_exactly (get_or d 2 0) (drop 3 d))) 4 d).exactly }

-- ---- configuration, and every command

configure_rows : (state role : ℕ) (d : List ℕ) → ByTable Declines (configure_judged state role d) (ConfigureStatus state role d)
unfolding configure_judged format_judged ConfigureStatus
configure_rows state role d =
    by_rows Declines (eq_holds _ _) (plain (refuses InvalidLength))
    (by_rows Declines (eq_holds _ _) (plain (role_rows state d))
    (by_rows Declines (eq_holds _ _) (plain (caps_rows role d))
    (by_rows Declines (eq_holds _ _) (throttles_rows_lem d)
    (by_rows Declines (eq_holds _ _) (thermal_rows_lem d) (plain (refuses InvalidData))))))

barred_exactly : (sender kind : ℕ) → (not (open_to sender kind) ≡ true) ↔ ((sender ≡ 0x20) and (kind ≡ 0x00 → ⊥) and (kind ≡ 0x22 → ⊥))
barred_exactly sender kind =
    subst (λ (b : Bool). (not b ≡ true) ↔ ((sender ≡ 0x20) and (kind ≡ 0x00 → ⊥) and (kind ≡ 0x22 → ⊥))) (sym (open_to_is sender kind))
    (unless not refl (not_passes (eq_holds _ _)) (unless not refl (eq_passes _ _) (differs _ _)))

pub judge_rows : (r : Record) (w : Worked) (next sender kind : ℕ) (d : List ℕ) → length r.logs ≡ 4
    → ByTable Declines (judge_of r w next sender kind d) (CommandStatus r w next sender kind d)
unfolding judge_of type_judged CommandStatus
judge_rows r w next sender kind d four =
    by_rows Declines (barred_exactly sender kind) (plain (refuses InvalidCommand))
    (by_rows Declines (eq_holds _ _) (plain (poll_rows d))
    (by_rows Declines (eq_holds _ _) (plain (clear_rows r.logs d four))
    (by_rows Declines (eq_holds _ _) (plain (state_rows w d))
    (by_rows Declines (eq_holds _ _) (configure_rows r.state r.role d)
    (by_rows Declines (eq_holds _ _) (plain (user_rows r.role r.received.caps r.caps d))
    (by_rows Declines (eq_holds _ _) (plain (reset_rows r.role r.logs next d)) (plain (refuses InvalidCommand))))))))
