-- Document 01, "OCC packets": each command is accepted exactly when its conditions hold. d is the data. Assumes nothing.
use Rattle.std.specs.Prelude.{Ok, Err}
use Rattle.std.specs.Result.{is_ok}
use Rattle.packet.specs.Packet.{Checked}
use Rattle.packet.specs.declared.Status.{Status}
use Rattle.packet.specs.declared.Status.TheVariants.{InvalidCommand, InvalidLength, InvalidData, InternalError, StateProhibits}
use Rattle.std.specs.Prelude.{Option, Some, None}
use Rattle.std.specs.Option.{is_some}
use Rattle.std.proofs.lemmas.Bool.{false≢true}
use Rattle.std.proofs.Common.{◌∙◌}
use Rattle.wire.proofs.laws.Cases.{cond_cases}
use Rattle.std.specs.Prelude.{ℕ, ◌+◌, ◌-◌, ◌*◌, ◌<◌, ◌≤◌, Bool, true, false, cond, not, ◌≡◌, refl, List, Option, Some, None, ◌↔◌, ◌⊎◌, ltb, eqb, get_or, take, drop}
use Rattle.std.specs.Option.{is_some, unwrap_or}
use Rattle.std.specs.List.{position_or_len}
use Rattle.std.proofs.Common.{sym, ◌∙◌, subst, eqb-true, ltb-true, ltb-false, lit<}
use Rattle.std.proofs.lemmas.Bool.{false≢true}
use Rattle.std.proofs.lemmas.List.Sums.{passes_at_first, fails_before_first}
use native.Mathlib.Omega.{arith}
use Rattle.std.proofs.lemmas.Bool.{eqb-false}
use Rattle.std.proofs.Math.ListN.{length}
use Rattle.wire.specs.Wire.{be_nat}
use Rattle.record.specs.Record.{no_log}
use Rattle.record.specs.declared.Log.{Log}
use Rattle.record.specs.declared.Caps.{Caps}
use Rattle.record.specs.declared.Record.{Record}
use Rattle.record.specs.declared.Worked.{Worked}
use Rattle.change.specs.Logs.{find_of}
use Rattle.change.specs.declared.Change.{Change}
use Rattle.change.specs.declared.Change.TheVariants.{Clear, SetState, SetRole, SetCaps, SetUser, Reset}
use Rattle.change.specs.declared.Tables.{Tables}
use Rattle.occ.specs.declared.Verdict.{Verdict}
use Rattle.occ.specs.declared.Verdict.TheVariants.{Refuse, Poll, Make}
use Rattle.occ.specs.declared.Judged.{Judged}
use Rattle.occ.specs.Commands.{poll_verdict, clear_at, clear_verdict, state_fits, not_ready, state_verdict, role_verdict, caps_for, sent_caps, caps_verdict, user_allowed, user_for, user_verdict, log_due, reset_for, reset_verdict}
use Rattle.occ.specs.Judge.{plainly, count_status, sets_status, sets_read, read_judged, throttles_made, throttles_read, throttles_judged, thermal_made, thermal_read, thermal_judged, format_judged, configure_judged, type_judged, judge_of}
use Rattle.occ.specs.Open.{open_to}
use Rattle.occ.proofs.laws.Open.{open_to_is}
use Rattle.wire.proofs.laws.Chains.{holds, eq_holds, le_holds, eq_passes, lt_passes, le_passes, zero_passes, not_passes, unless, unless_last, if_needed, or_else, Ends, ends_unless, ends_if_needed, ends_last, if_is, if_is_last, last_case, or_case}
use Rattle.wire.specs.Conditions.{◌and◌}
use Rattle.sets.proofs.laws.Exactly.{sets_exactly, frus_exactly}
use Rattle.occ.specs.Conditions.{PollOk, Pends, ClearLogOk, SetStateOk, RoleFormatOk, CapsFormatOk, SetsFormatOk, ThrottlesFormatOk, ThermalFormatOk, ConfigureOk, UserCapOk, ResetPrepOk, CommandOk, accepts, accepted}

-- ---- when a verdict accepts

refuses : (status : Status) → accepts (Refuse status) ≡ false
unfolding accepts
refuses status = refl

polls : accepts Poll ≡ true
unfolding accepts
polls = refl

makes : (change : Change) → accepts (Make change) ≡ true
unfolding accepts
makes change = refl

plain : (v : Verdict) {P : Type 0} → (accepts v ≡ true) ↔ P → (accepted (plainly v) ≡ true) ↔ P
unfolding accepted plainly
plain v p = p

plain_refuses : (status : Status) → accepted (plainly (Refuse status)) ≡ false
unfolding accepted plainly accepts
plain_refuses status = refl

made : (change : Change) (tables : Tables) → accepted (record { verdict = Make change; tables = tables }) ≡ true
unfolding accepted accepts
made change tables = refl

-- ---- each command: it is accepted exactly when its conditions hold, and then makes this change

pub poll_exactly : (d : List ℕ) → Ends accepts (poll_verdict d) (PollOk d) Poll
unfolding poll_verdict PollOk
poll_exactly d = ends_unless accepts (refuses InvalidLength) (not_passes (eq_holds _ _)) (ends_last accepts (refuses InvalidData) (not_passes (eq_holds _ _)) polls)

-- what looking for an id comes to: its log pends at the place found, or none pends with it
pub data Search (id : ℕ) (logs : List Log) : Option ℕ → Type 0 where
  found : (place : ℕ) → (id ≡ 0 → ⊥) → place < 4 → (get_or logs place no_log).id ≡ id → Search id logs (Some place)
  missed : (Pends id logs → ⊥) → Search id logs None

module _ (id : ℕ) (logs : List Log) (four : length logs ≡ 4) where
  abbrev with_id : Log → Bool
  with_id x = eqb x.id id

  abbrev first : ℕ
  first = position_or_len with_id logs

  pub searched : Search id logs (find_of id logs)
  unfolding find_of Pends
  searched =
      cond_cases (Search id logs) (eqb id 0)
      (λ t. missed (λ h. h.0 (eqb-true id 0 t)))
      (λ t. cond_cases (Search id logs) (ltb first (length logs))
      (λ l. let inside : first < length logs = ltb-true first (length logs) l in
      found first (eqb-false id 0 t) (omega arith) (eqb-true _ id (passes_at_first with_id logs no_log inside)))
      (λ l. missed (λ h. let past : h.1.0 < first = omega (arith, ltb-false first (length logs) l, h.1.1) in
      eqb-false _ id (fails_before_first with_id logs h.1.0 no_log past) h.1.2)))

  pub found_exactly : (is_some (find_of id logs) ≡ true) ↔ Pends id logs
  unfolding Pends
  found_exactly = by_search (find_of id logs) searched
    where
      by_search : (o : Option ℕ) → Search id logs o → (is_some o ≡ true) ↔ Pends id logs
      by_search _ (found p n l e) = (λ h. (n, (p, l, e)), λ h. refl)
      by_search _ (missed n) = (λ h. absurd (false≢true h), λ h. absurd (n h))

  -- what is found has the id, which isn't 0
  pub found_there : (place : ℕ) → find_of id logs ≡ Some place → (place < 4) and (id ≡ 0 → ⊥) and ((get_or logs place no_log).id ≡ id)
  found_there place = by_search (find_of id logs) searched
    where
      by_search : (o : Option ℕ) → Search id logs o → o ≡ Some place → (place < 4) and (id ≡ 0 → ⊥) and ((get_or logs place no_log).id ≡ id)
      by_search _ (found p n l q) e =
          let k : p ≡ place = cc in
          (subst (λ (i : ℕ). i < 4) k l, (n, subst (λ (i : ℕ). (get_or logs i no_log).id ≡ id) k q))
      by_search _ (missed n) e = let z : ⊥ = cc in absurd z

-- the place of the log that pends with an id
abbrev pub place_of : ℕ → List Log → ℕ
place_of id logs = unwrap_or (find_of id logs) 0

pub clear_log_exactly : (logs : List Log) (d : List ℕ) → length logs ≡ 4
    → Ends accepts (clear_verdict logs d) (ClearLogOk logs d) (Make (Clear (place_of (get_or d 0 0) logs) (get_or logs (place_of (get_or d 0 0) logs) no_log)))
unfolding clear_verdict clear_at ClearLogOk Pends
clear_log_exactly logs d four =
    ends_unless accepts (refuses InvalidLength) (not_passes (eq_holds _ _)) (by_search (find_of (get_or d 0 0) logs) (searched (get_or d 0 0) logs four))
  where
    by_search : (o : Option ℕ) → Search (get_or d 0 0) logs o
        → Ends accepts (clear_at o logs) (Pends (get_or d 0 0) logs) (Make (Clear (unwrap_or o 0) (get_or logs (unwrap_or o 0) no_log)))
    by_search _ (found p n l e) = record { exactly = (λ h. (n, (p, l, e)), λ h. makes _); is = λ h. refl }
    by_search _ (missed n) =
        record { exactly = (λ h. absurd (false≢true (sym (refuses InvalidData) ∙ h)), λ h. absurd (n h)); is = λ h. absurd (false≢true (sym (refuses InvalidData) ∙ h)) }

pub state_fits_exactly : (version state last : ℕ) → (state_fits version state last ≡ true) ↔ ((version ≡ 0) and (1 ≤ state) and (state ≤ 3) and (last ≡ 0))
unfolding state_fits
state_fits_exactly version state last =
    unless holds refl (not_passes (eq_holds _ _)) (unless holds refl (lt_passes _ _) (unless holds refl (lt_passes _ _) (eq_holds _ _)))

ready_exactly : (w : Worked) (state : ℕ) → (not_ready w state ≡ false) ↔ ((state ≡ 2 → w.observation ≡ 0 → ⊥) and (state ≡ 3 → w.active ≡ 0 → ⊥))
unfolding not_ready
ready_exactly w state =
    if_is state 2 (eq_passes _ _) (if_is_last state 3 (eq_passes _ _)) (λ e k. absurd (omega arith))

pub set_state_exactly : (w : Worked) (d : List ℕ) → Ends accepts (state_verdict w d) (SetStateOk w d) (Make (SetState (get_or d 1 0)))
unfolding state_verdict SetStateOk
set_state_exactly w d =
    ends_unless accepts (refuses InvalidLength) (not_passes (eq_holds _ _))
    (ends_unless accepts (refuses InvalidData) (not_passes (state_fits_exactly _ _ _))
    (ends_last accepts (refuses StateProhibits) (ready_exactly w _) (makes _)))

pub role_format_exactly : (state : ℕ) (d : List ℕ) → Ends accepts (role_verdict state d) (RoleFormatOk state d) (Make (SetRole 1 (get_or d 1 0)))
unfolding role_verdict RoleFormatOk
role_format_exactly state d =
    ends_unless accepts (refuses InvalidLength) (not_passes (eq_holds _ _))
    (ends_unless accepts (refuses InvalidData) (lt_passes _ _)
    (ends_last accepts (refuses StateProhibits) (not_passes (eq_holds _ _)) (makes _)))

pub caps_format_exactly : (role : ℕ) (d : List ℕ) → Ends accepts (caps_verdict role d) (CapsFormatOk role d) (Make (SetCaps 1 (sent_caps d)))
unfolding caps_verdict caps_for CapsFormatOk
caps_format_exactly role d =
    ends_unless accepts (refuses InvalidLength) (not_passes (eq_holds _ _))
    (ends_unless accepts (refuses InvalidData) (not_passes (eq_holds _ _))
    (ends_unless accepts (refuses InvalidData) (lt_passes _ _)
    (ends_last accepts (refuses StateProhibits) (eq_passes _ _) (makes _))))

pub user_allowed_exactly : (got : ℕ) (caps : Caps) (user : ℕ)
    → (user_allowed got caps user ≡ true) ↔ ((user ≡ 0) ⊎ ((got ≡ 0 → ⊥) and (caps.min ≤ user) and (user ≤ caps.max)))
unfolding user_allowed
user_allowed_exactly got caps user =
    or_else holds refl (eq_holds _ _)
    (unless holds refl (eq_passes _ _) (unless holds refl (lt_passes _ _) (le_holds _ _)))

pub user_cap_exactly : (role got : ℕ) (caps : Caps) (d : List ℕ)
    → Ends accepts (user_verdict role got caps d) (UserCapOk role got caps d) (Make (SetUser (be_nat (take 2 d))))
unfolding user_verdict user_for UserCapOk
user_cap_exactly role got caps d =
    ends_unless accepts (refuses InvalidLength) (not_passes (eq_holds _ _))
    (ends_unless accepts (refuses InvalidData) (not_passes (user_allowed_exactly got caps _))
    (ends_last accepts (refuses StateProhibits) (eq_passes _ _) (makes _)))

pub log_due_exactly : (role reason : ℕ) → (log_due role reason ≡ true) ↔ ((reason ≡ 1) ⊎ ((reason ≡ 2) and (role ≡ 1)))
unfolding log_due
log_due_exactly role reason = or_else holds refl (eq_holds _ _) (last_case holds reason 2 (eq_holds _ _) refl).exactly

-- the log that a reset makes, if one is due
unfoldable pub reset_made : ℕ → ℕ → ℕ → Verdict
reset_made role next reason =
    cond (not (log_due role reason)) (Make (Reset no_log)) (Make (Reset (record { id = next; reason = reason })))

pub reset_prep_exactly : (role : ℕ) (logs : List Log) (next : ℕ) (d : List ℕ)
    → Ends accepts (reset_verdict role logs next d) (ResetPrepOk role logs next d) (reset_made role next (get_or d 1 0))
unfolding reset_verdict reset_for ResetPrepOk reset_made
reset_prep_exactly role logs next d =
    ends_unless accepts (refuses InvalidLength) (not_passes (eq_holds _ _))
    (ends_unless accepts (refuses InvalidData) (not_passes (eq_holds _ _))
    (ends_unless accepts (refuses InvalidData) (lt_passes _ _)
    (ends_if_needed accepts (makes _) (log_due_exactly role _)
    (ends_unless accepts (refuses InternalError) (le_passes 4 _) (ends_last accepts (refuses InternalError) (le_passes 256 _) (makes _))))))

-- ---- the formats with tables beside the change

-- three bytes and then k more
pub counted : (l k : ℕ) → ((3 ≤ l) and (l - 3 ≡ k)) ↔ (l ≡ 3 + k)
counted l k = (λ h. omega arith, λ h. (omega arith, omega arith))

-- the tests that both begin with
pub sets_status_exactly : (width : ℕ) (d : List ℕ) → (is_ok (sets_status width d) ≡ true) ↔ ((3 ≤ length d) and (length d - 3 ≡ get_or d 2 0 * width) and (get_or d 1 0 ≡ 0x10) and (1 ≤ get_or d 2 0))
unfolding sets_status count_status
sets_status_exactly width d =
    unless is_ok refl (lt_passes _ _)
    (unless is_ok refl (not_passes (eq_holds _ _))
    (unless is_ok refl (not_passes (eq_holds _ _))
    (unless_last is_ok refl (zero_passes _) refl)))

-- the first two are one, and the rule comes after them
counted_first : {X A B C D E R : Type 0} → (A and B) ↔ E → X ↔ ((A and B and C and D) and R) → X ↔ (E and C and D and R)
counted_first e h = (
  λ x. let p = h.0 x in (e.0 (p.0.0, p.0.1.0), (p.0.1.1.0, (p.0.1.1.1, p.1))),
  λ p. let q = e.1 p.0 in h.1 ((q.0, (q.1, (p.1.0, p.1.1.0))), p.1.1.1),
)

-- the count is right, and the sets were read without fault
both_exactly : {A : Type 0} (status : Checked) (made : A → Judged) (v : Option A) {counts rule : Type 0} → ((t : A) → accepted (made t) ≡ true)
    → (is_ok status ≡ true) ↔ counts → (is_some v ≡ true) ↔ rule → (accepted (read_judged made (sets_read status v)) ≡ true) ↔ (counts and rule)
unfolding read_judged sets_read
both_exactly (Err e) made v h p q = (λ x. absurd (false≢true (sym (plain_refuses e) ∙ x)), λ x. absurd (false≢true (p.1 x.0)))
both_exactly (Ok x) made None h p q = (λ y. absurd (false≢true (sym (plain_refuses InvalidData) ∙ y)), λ y. absurd (false≢true (q.1 y.1)))
both_exactly (Ok x) made (Some t) h p q = (λ y. (p.0 refl, q.0 refl), λ y. h t)

sets_format_exactly : {A : Type 0} (width : ℕ) (d : List ℕ) (made : A → Judged) (v : Option A) {rule : Type 0} → ((t : A) → accepted (made t) ≡ true) → (is_some v ≡ true) ↔ rule
    → (accepted (read_judged made (sets_read (sets_status width d) v)) ≡ true) ↔ SetsFormatOk width d rule
unfolding SetsFormatOk
sets_format_exactly width d made v h p =
    counted_first (counted (length d) (get_or d 2 0 * width)) (both_exactly (sets_status width d) made v h (sets_status_exactly width d) p)

pub throttles_format_exactly : (d : List ℕ) → (accepted (throttles_judged d) ≡ true) ↔ ThrottlesFormatOk d
unfolding throttles_judged throttles_read ThrottlesFormatOk
throttles_format_exactly d = sets_format_exactly 12 d throttles_made _ (λ t. made _ _) (sets_exactly (get_or d 2 0) (drop 3 d))

pub thermal_format_exactly : (d : List ℕ) → (accepted (thermal_judged d) ≡ true) ↔ ThermalFormatOk d
unfolding thermal_judged thermal_read ThermalFormatOk
thermal_format_exactly d = sets_format_exactly 4 d thermal_made _ (λ t. made _ _) (frus_exactly (get_or d 2 0) (drop 3 d))

-- ---- configuration, and every command

pub configure_exactly : (state role : ℕ) (d : List ℕ) → (accepted (configure_judged state role d) ≡ true) ↔ ConfigureOk state role d
unfolding configure_judged format_judged ConfigureOk
configure_exactly state role d =
    unless accepted (plain_refuses InvalidLength) (zero_passes _)
    (or_case accepted _ 0x03 (lit< tt) (plain _ (role_format_exactly state d).exactly)
    (or_case accepted _ 0x07 (lit< tt) (plain _ (caps_format_exactly role d).exactly)
    (or_case accepted _ 0x12 (lit< tt) (throttles_format_exactly d)
    (last_case accepted _ 0x13 (thermal_format_exactly d) (plain_refuses InvalidData))))).exactly

open_exactly : (sender kind : ℕ) → (open_to sender kind ≡ true) ↔ (sender ≡ 0x20 → (kind ≡ 0x00) ⊎ (kind ≡ 0x22))
open_exactly sender kind =
    subst (λ (b : Bool). (b ≡ true) ↔ (sender ≡ 0x20 → (kind ≡ 0x00) ⊎ (kind ≡ 0x22))) (sym (open_to_is sender kind))
    (if_needed holds refl (eq_holds _ _) (or_else holds refl (eq_holds _ _) (eq_holds _ _)))

pub judge_exactly : (r : Record) (w : Worked) (next sender kind : ℕ) (d : List ℕ) → length r.logs ≡ 4
    → (accepts (judge_of r w next sender kind d).verdict ≡ true) ↔ CommandOk r w next sender kind d
unfolding judge_of type_judged CommandOk accepted
judge_exactly r w next sender kind d four =
    unless accepted (plain_refuses InvalidCommand) (not_passes (open_exactly sender kind))
    (or_case accepted kind 0x00 (lit< tt) (plain _ (poll_exactly d).exactly)
    (or_case accepted kind 0x12 (lit< tt) (plain _ (clear_log_exactly r.logs d four).exactly)
    (or_case accepted kind 0x20 (lit< tt) (plain _ (set_state_exactly w d).exactly)
    (or_case accepted kind 0x21 (lit< tt) (configure_exactly r.state r.role d)
    (or_case accepted kind 0x22 (lit< tt) (plain _ (user_cap_exactly r.role r.received.caps r.caps d).exactly)
    (last_case accepted kind 0x25 (plain _ (reset_prep_exactly r.role r.logs next d).exactly) (plain_refuses InvalidCommand))))))).exactly
