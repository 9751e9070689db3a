-- Document 02, c: a fault is found exactly where the status is 0x13. d is the data. Assumes nothing.
use Rattle.std.specs.Prelude.{ℕ, zero, suc, ◌+◌, ◌-◌, ◌*◌, ◌<◌, ◌≤◌, Bool, true, false, cond, not, ◌≡◌, refl, List, Some, None, ◌↔◌, ltb, leb, eqb, length, get_or, take, drop, Ok, Err, Option}
use Rattle.std.specs.Option.{is_some}
use Rattle.packet.specs.Packet.{status_number}
use Rattle.packet.specs.declared.Status.TheVariants.{InvalidCommand, InvalidLength, InvalidData, InternalError, StateProhibits}
use Rattle.std.proofs.lemmas.Bool.{false≢true}
use Rattle.std.proofs.lemmas.Option.{none-some}
use Rattle.std.proofs.Math.Bool.{true≢false}
use Rattle.std.proofs.Math.Path.{sym}
use Rattle.std.proofs.Common.{ap, subst, ◌∙◌, lt_of_not-le, arith, get_or-take, get_or-drop}
use Rattle.std.proofs.Math.Logic.{inl, inr, ⊎_elim}
use Rattle.wire.specs.Wire.{be_nat}
use Rattle.wire.proofs.laws.Cases.{by_both}
use Rattle.record.specs.declared.Caps.{Caps}
use Rattle.record.specs.declared.Log.{Log}
use Rattle.record.specs.declared.Record.{Record}
use Rattle.record.specs.declared.Worked.{Worked}
use Rattle.change.specs.Logs.{pending_of, find_of}
use Rattle.change.specs.declared.Change.{Change}
use Rattle.formed.specs.Formed.{in_order}
use Rattle.formed.proofs.laws.Thresholds.{order_exactly, out_of_order}
use Rattle.sets.specs.Sets.{throttles_of, thermal_of}
use Rattle.sets.specs.Conditions.{set_at, InPairs, InFrus, SetsOk, FrusOk}
use Rattle.sets.proofs.laws.Exactly.{sets_exactly, frus_exactly}
use Rattle.occ.specs.declared.Verdict.{Verdict}
use Rattle.occ.specs.declared.Verdict.TheVariants.{Refuse, Poll, Make}
use Rattle.occ.specs.declared.Judged.{Judged}
use Rattle.occ.specs.Commands.{poll_verdict, clear_at, clear_verdict, state_fits, not_ready, state_verdict, role_verdict, sent_caps, caps_for, caps_verdict, user_allowed, user_for, user_verdict, log_due, reset_for, reset_verdict}
use Rattle.occ.specs.Judge.{plainly, count_status, sets_status, sets_read, read_judged, throttles_made, throttles_read, throttles_judged, thermal_made, thermal_read, thermal_judged, format_judged, configure_judged, type_judged, judge_of}
use Rattle.occ.specs.Open.{open_to}
use Rattle.places.specs.declared.Reason.{Reason}
use Rattle.places.specs.declared.Reason.TheVariants.{BadVersion, BadCount, OutOfRange, Clash, NotPending}
use Rattle.places.specs.declared.Fault.{Fault}
use Rattle.places.specs.declared.SetTable.TheVariants.{Throttles, Thermal}
use Rattle.places.specs.Places.{wrong, poll_fault, clear_fault, state_fault, role_fault, caps_fault, user_fault, reset_fault, width_of, first_set, count_fault, sets_fault, format_fault, configure_fault, fault_of}
use Rattle.places.specs.Faults.{Faults, ThrottleFaults, ThermalFaults, each_of, Least, no_fault, least}
use Rattle.places.proofs.laws.Least.{throttles_least, thermals_least}

-- ---- a verdict refuses with 0x13 exactly where a fault is found

pub record Alike (v : Verdict) (found : Option Fault) : Type 0 where
  pub exactly : (v ≡ Refuse InvalidData) ↔ ((x : Fault) × (found ≡ Some x))

-- the status where one refuses
abbrev pub status_of : Verdict → ℕ
status_of (Refuse n) = status_number n
status_of Poll = 0
status_of (Make ch) = 0

wrongs : (reason : Reason) (at : ℕ) → Alike (Refuse InvalidData) (wrong reason at)
unfolding wrong
wrongs reason at = record { exactly = (λ e. (record { reason = reason; at = at }, refl), λ e. refl) }

other : (v : Verdict) → (status_of v ≡ 0x13 → ⊥) → Alike v None
other v n = record { exactly = (λ e. absurd (n (ap status_of e)), λ e. absurd (none-some e.0 e.1)) }

short : Alike (Refuse InvalidLength) None
short = other (Refuse InvalidLength) (λ e. omega (arith, e))

state : Alike (Refuse StateProhibits) None
state = other (Refuse StateProhibits) (λ e. omega (arith, e))

made : (ch : Change) → Alike (Make ch) None
made ch = other (Make ch) (λ e. omega (arith, e))

-- a test that both make, and one that the judge of statuses alone makes
both : {A : Type 0} (Q : A → Option Fault → Type 0) (t : Bool) {v w : A} {a b : Option Fault} → Q v a → Q w b → Q (cond t v w) (cond t a b)
both Q t p q = by_both Q t (λ e. p) (λ e. q)

alone : (t : Bool) {v w : Verdict} {a : Option Fault} → Alike v a → Alike w a → Alike (cond t v w) a
alone true p q = p
alone false p q = q

-- ---- the small commands

-- the length that a type asks for
sized : (d : List ℕ) (n : ℕ) {v : Verdict} {a : Option Fault} → Alike v a → Alike (cond (not (eqb (length d) n)) (Refuse InvalidLength) v) (cond (not (eqb (length d) n)) None a)
sized d n p = both Alike (not (eqb (length d) n)) short p

poll_alike : (d : List ℕ) → Alike (poll_verdict d) (poll_fault d)
unfolding poll_verdict poll_fault
poll_alike d = sized d 1 (both Alike (not (eqb (get_or d 0 0) 0x10)) (wrongs BadVersion 1) (other Poll (λ e. omega (arith, e))))

clear_alike : (logs : List Log) (d : List ℕ) → Alike (clear_verdict logs d) (clear_fault logs d)
unfolding clear_verdict clear_at clear_fault
clear_alike logs d =
    sized d 1
    (elim (find_of (get_or d 0 0) logs) as (λ o. Alike (clear_at o logs) (cond (not (is_some o)) (wrong NotPending 1) None))
    [ None ↦ wrongs NotPending 1 | Some p ↦ made _ ])

-- the four tests of set state's bytes are one to the judge of statuses
fits_alike : (a b c e : Bool) {v : Verdict} → Alike v None
    → Alike (cond (not (cond a false (cond b false (cond c false e)))) (Refuse InvalidData) v)
    (cond a (wrong BadVersion 1) (cond b (wrong OutOfRange 2) (cond c (wrong OutOfRange 2) (cond (not e) (wrong OutOfRange 3) None))))
fits_alike true b c e p = wrongs _ _
fits_alike false true c e p = wrongs _ _
fits_alike false false true e p = wrongs _ _
fits_alike false false false true p = p
fits_alike false false false false p = wrongs _ _

state_alike : (w : Worked) (d : List ℕ) → Alike (state_verdict w d) (state_fault d)
unfolding state_verdict state_fits state_fault
state_alike w d =
    sized d 3
    (fits_alike (not (eqb (get_or d 0 0) 0)) (ltb (get_or d 1 0) 1) (ltb 3 (get_or d 1 0)) (eqb (get_or d 2 0) 0)
    (alone (not_ready w (get_or d 1 0)) state (made _)))

role_alike : (held : ℕ) (d : List ℕ) → Alike (role_verdict held d) (role_fault d)
unfolding role_verdict role_fault
role_alike held d = sized d 2 (both Alike (ltb 1 (get_or d 1 0)) (wrongs OutOfRange 2) (alone (not (eqb held 1)) state (made _)))

caps_alike : (role : ℕ) (d : List ℕ) → Alike (caps_verdict role d) (caps_fault d)
unfolding caps_verdict caps_for sent_caps caps_fault
caps_alike role d =
    sized d 8
    (both Alike (not (eqb (get_or d 1 0) 0x10)) (wrongs BadVersion 2)
    (both Alike (ltb (sent_caps d).max (sent_caps d).min) (wrongs Clash 5)
    (alone (eqb role 0) state (made _))))

user_alike : (role got : ℕ) (caps : Caps) (d : List ℕ) → Alike (user_verdict role got caps d) (user_fault got caps d)
unfolding user_verdict user_for user_fault
user_alike role got caps d = sized d 2 (both Alike (not (user_allowed got caps (be_nat (take 2 d)))) (wrongs OutOfRange 1) (alone (eqb role 0) state (made _)))

-- a log that isn't due or has no room
log_alike : (role : ℕ) (logs : List Log) (next reason : ℕ) → Alike (reset_for role logs next reason) None
unfolding reset_for
log_alike role logs next reason =
    let full = other (Refuse InternalError) (λ e. omega (arith, e)) in
    alone (not (log_due role reason)) (made _) (alone (leb 4 (pending_of logs)) full (alone (leb 256 next) full (made _)))

reset_alike : (role : ℕ) (logs : List Log) (next : ℕ) (d : List ℕ) → Alike (reset_verdict role logs next d) (reset_fault d)
unfolding reset_verdict reset_fault
reset_alike role logs next d =
    sized d 2 (both Alike (not (eqb (get_or d 0 0) 0)) (wrongs BadVersion 1) (both Alike (ltb 2 (get_or d 1 0)) (wrongs OutOfRange 2) (log_alike role logs next (get_or d 1 0))))

-- ---- the formats with sets: none of them is wrong exactly when they were read without fault

-- a byte of the i-th set, in the data
set_byte : (w j i : ℕ) (d : List ℕ) → j < w → get_or (set_at w i (drop 3 d)) j 0 ≡ get_or d (3 + i * w + j) 0
unfolding set_at
set_byte w j i d h = within i (drop 3 d) ∙ get_or-drop 3 d (i * w + j) 0 ∙ ap (λ (n : ℕ). get_or d n 0) (omega arith)
  where
    within : (n : ℕ) (l : List ℕ) → get_or (set_at w n l) j 0 ≡ get_or l (n * w + j) 0
    within zero l = get_or-take w l j 0 h ∙ ap (λ (m : ℕ). get_or l m 0) (omega arith)
    within (suc n) l = within n (drop w l) ∙ get_or-drop w l (n * w + j) 0 ∙ ap (λ (m : ℕ). get_or l m 0) (omega arith)

at_most : (m n : ℕ) → (m < n → ⊥) → n ≤ m
at_most m n h = omega (arith, lt_of_not-le h)

holding : (b : Bool) → (b ≡ false → ⊥) → b ≡ true
holding true h = refl
holding false h = absurd (h refl)

module _ (d : List ℕ) where
  hub : (i : ℕ) → get_or (set_at 12 i (drop 3 d)) 0 0 ≡ get_or d (3 + i * 12) 0
  hub i = set_byte 12 0 i d (omega arith) ∙ ap (λ (m : ℕ). get_or d m 0) (omega arith)

  mba : (i : ℕ) → get_or (set_at 12 i (drop 3 d)) 1 0 ≡ get_or d (4 + i * 12) 0
  mba i = set_byte 12 1 i d (omega arith) ∙ ap (λ (m : ℕ). get_or d m 0) (omega arith)

  fru : (i : ℕ) → get_or (set_at 4 i (drop 3 d)) 0 0 ≡ get_or d (3 + i * 4) 0
  fru i = set_byte 4 0 i d (omega arith) ∙ ap (λ (m : ℕ). get_or d m 0) (omega arith)

  dvfs : (i : ℕ) → get_or (set_at 4 i (drop 3 d)) 1 0 ≡ get_or d (4 + i * 4) 0
  dvfs i = set_byte 4 1 i d (omega arith) ∙ ap (λ (m : ℕ). get_or d m 0) (omega arith)

  error : (i : ℕ) → get_or (set_at 4 i (drop 3 d)) 2 0 ≡ get_or d (5 + i * 4) 0
  error i = set_byte 4 2 i d (omega arith) ∙ ap (λ (m : ℕ). get_or d m 0) (omega arith)

  ordered : (i : ℕ) → in_order (get_or (set_at 4 i (drop 3 d)) 1 0) (get_or (set_at 4 i (drop 3 d)) 2 0) ≡ in_order (get_or d (4 + i * 4) 0) (get_or d (5 + i * 4) 0)
  ordered i = λ j. in_order (dvfs i j) (error i j)

  module _ (n : ℕ) where
    module _ (sound : (x : Fault) → each_of n (ThrottleFaults d) x → ⊥) where
      in_pairs : (i : ℕ) → i < n → InPairs (set_at 12 i (drop 3 d))
      unfolding ThrottleFaults
      in_pairs i h = (
        at_most 7 _ (λ k. sound _ (i, h, inl (refl, omega (arith, hub i, k)))),
        at_most 1 _ (λ k. sound _ (i, h, inr (inr (refl, omega (arith, mba i, k))))),
      )

      sound_throttles : SetsOk n (drop 3 d)
      unfolding SetsOk ThrottleFaults
      sound_throttles = (
        in_pairs,
        λ i j h k e. let p = in_pairs i (omega (arith, h, k)) in let q = in_pairs j k in
            sound _ (j, k, inr (inl (refl, (i, h, (omega (arith, hub i, hub j, p, q, e), omega (arith, mba i, mba j, p, q, e)))))),
      )

    throttles_sound : SetsOk n (drop 3 d) → (x : Fault) → each_of n (ThrottleFaults d) x → ⊥
    unfolding SetsOk ThrottleFaults
    throttles_sound ok x f =
        let i = f.0 in
        let own = ok.0 i f.1 in
        ⊎_elim (λ h. omega (arith, own.0, hub i, h.1))
        (⊎_elim (λ h. ok.1 h.1.0 i h.1.1 f.1 (omega (arith, hub h.1.0, hub i, mba h.1.0, mba i, h.1.2.0, h.1.2.1))) (λ h. omega (arith, own.1, mba i, h.1)))
        f.2

    module _ (sound : (x : Fault) → each_of n (ThermalFaults d) x → ⊥) where
      in_frus : (i : ℕ) → i < n → InFrus (set_at 4 i (drop 3 d))
      unfolding ThermalFaults
      in_frus i h = (
        at_most 2 _ (λ k. sound _ (i, h, inl (refl, omega (arith, fru i, k)))),
        (order_exactly _ _).0 (ordered i ∙ holding _ (λ e. sound _ (i, h, inr (inr (refl, (out_of_order _ _).0 e))))),
      )

      sound_frus : FrusOk n (drop 3 d)
      unfolding FrusOk ThermalFaults
      sound_frus = (in_frus, λ i j h k e. sound _ (j, k, inr (inl (refl, (i, h, sym (fru i) ∙ e ∙ fru j)))))

    frus_sound : FrusOk n (drop 3 d) → (x : Fault) → each_of n (ThermalFaults d) x → ⊥
    unfolding FrusOk ThermalFaults
    frus_sound ok x f =
        let i = f.0 in
        let own = ok.0 i f.1 in
        ⊎_elim (λ h. omega (arith, own.0, fru i, h.1))
        (⊎_elim (λ h. ok.1 h.1.0 i h.1.1 f.1 (fru h.1.0 ∙ h.1.2 ∙ sym (fru i))) (λ h. true≢false (sym ((order_exactly _ _).1 own.1) ∙ ordered i ∙ (out_of_order _ _).1 h.1)))
        f.2

-- nothing is found exactly where there is nothing to find
none_found : {F : Faults} {found : Option Fault} → Least F found → (found ≡ None) ↔ ((x : Fault) → F x → ⊥)
none_found (no_fault h) = (λ e. h, λ e. refl)
none_found (least x h low) = (λ e. absurd (none-some x (sym e)), λ k. absurd (k x h))

throttles_found : (d : List ℕ) (n : ℕ) → (is_some (throttles_of n (drop 3 d)) ≡ true) ↔ (first_set Throttles d n ≡ None)
throttles_found d n =
    let none = none_found (throttles_least d n) in
    let ok = sets_exactly n (drop 3 d) in
    (λ h. none.1 (throttles_sound d n (ok.0 h)), λ h. ok.1 (sound_throttles d n (none.0 h)))

frus_found : (d : List ℕ) (n : ℕ) → (is_some (thermal_of n (drop 3 d)) ≡ true) ↔ (first_set Thermal d n ≡ None)
frus_found d n =
    let none = none_found (thermals_least d n) in
    let ok = frus_exactly n (drop 3 d) in
    (λ h. none.1 (frus_sound d n (ok.0 h)), λ h. ok.1 (sound_frus d n (none.0 h)))

-- the same of what is judged, with tables beside it
record Judges (j : Judged) (found : Option Fault) : Type 0 where
  alike : Alike j.verdict found

plain : {v : Verdict} {a : Option Fault} → Alike v a → Judges (plainly v) a
unfolding plainly
plain p = record { alike = p }

-- the sets were read, or one of them was wrong
read_alike : {A : Type 0} (on : A → Judged) (v : Option A) (found : Option Fault) → (is_some v ≡ true) ↔ (found ≡ None)
    → ((t : A) → Judges (on t) None) → Judges (read_judged on (sets_read (Ok tt) v)) found
unfolding read_judged sets_read
read_alike on (Some t) None e h = h t
read_alike on None (Some x) e h = plain (record { exactly = (λ h. (x, refl), λ h. refl) })
read_alike on (Some t) (Some x) e h = absurd (none-some x (sym (e.0 refl)))
read_alike on None None e h = absurd (false≢true (e.1 refl))

-- the tests that both formats with sets begin with, and the sets after them
counted_alike : {A : Type 0} (on : A → Judged) (v : Option A) (a b c e : Bool) (found : Option Fault) → Judges (read_judged on (sets_read (Ok tt) v)) found
    → Judges (read_judged on (sets_read (cond a (Err InvalidLength) (cond b (Err InvalidLength) (cond c (Err InvalidData) (cond e (Err InvalidData) (Ok tt))))) v))
    (cond a None (cond b None (cond c (wrong BadVersion 2) (cond e (wrong BadCount 3) found))))
unfolding read_judged sets_read
counted_alike on v true b c e f p = plain short
counted_alike on v false true c e f p = plain short
counted_alike on v false false true e f p = plain (wrongs BadVersion 2)
counted_alike on v false false false true f p = plain (wrongs BadCount 3)
counted_alike on v false false false false f p = p

throttles_alike : (d : List ℕ) → Judges (throttles_judged d) (sets_fault Throttles d)
unfolding throttles_judged throttles_read sets_status count_status sets_fault count_fault width_of
throttles_alike d =
    counted_alike throttles_made (throttles_of (get_or d 2 0) (drop 3 d)) (ltb (length d) 3) (not (eqb (length d - 3) (get_or d 2 0 * 12))) (not (eqb (get_or d 1 0) 0x10)) (eqb (get_or d 2 0) 0)
    _ (read_alike throttles_made _ _ (throttles_found d (get_or d 2 0)) (λ t. record { alike = made _ }))

thermal_alike : (d : List ℕ) → Judges (thermal_judged d) (sets_fault Thermal d)
unfolding thermal_judged thermal_read sets_status count_status sets_fault count_fault width_of
thermal_alike d =
    counted_alike thermal_made (thermal_of (get_or d 2 0) (drop 3 d)) (ltb (length d) 3) (not (eqb (length d - 3) (get_or d 2 0 * 4))) (not (eqb (get_or d 1 0) 0x10)) (eqb (get_or d 2 0) 0)
    _ (read_alike thermal_made _ _ (frus_found d (get_or d 2 0)) (λ t. record { alike = made _ }))

-- ---- every command

configure_alike : (held role : ℕ) (d : List ℕ) → Judges (configure_judged held role d) (configure_fault d)
unfolding configure_judged format_judged configure_fault format_fault
configure_alike held role d =
    both Judges (eqb (length d) 0) (plain short)
    (both Judges (eqb (get_or d 0 0) 0x03) (plain (role_alike held d))
    (both Judges (eqb (get_or d 0 0) 0x07) (plain (caps_alike role d))
    (both Judges (eqb (get_or d 0 0) 0x12) (throttles_alike d)
    (both Judges (eqb (get_or d 0 0) 0x13) (thermal_alike d)
    (plain (wrongs OutOfRange 1))))))

type_alike : (r : Record) (w : Worked) (next kind : ℕ) (d : List ℕ) → Judges (type_judged kind r w next d) (fault_of r kind d)
unfolding type_judged fault_of
type_alike r w next kind d =
    both Judges (eqb kind 0x00) (plain (poll_alike d))
    (both Judges (eqb kind 0x12) (plain (clear_alike r.logs d))
    (both Judges (eqb kind 0x20) (plain (state_alike w d))
    (both Judges (eqb kind 0x21) (configure_alike r.state r.role d)
    (both Judges (eqb kind 0x22) (plain (user_alike r.role r.received.caps r.caps d))
    (both Judges (eqb kind 0x25) (plain (reset_alike r.role r.logs next d))
    (plain (other (Refuse InvalidCommand) (λ e. omega (arith, e)))))))))

-- a fault is found exactly where the status is 0x13, of the types that are open to the sender
pub exactly_wrong : (r : Record) (w : Worked) (next sender kind : ℕ) (d : List ℕ) → open_to sender kind ≡ true
    → ((judge_of r w next sender kind d).verdict ≡ Refuse InvalidData) ↔ ((x : Fault) × (fault_of r kind d ≡ Some x))
unfolding judge_of
exactly_wrong r w next sender kind d may =
    (subst (λ (b : Bool). Judges (cond (not b) (plainly (Refuse InvalidCommand)) (type_judged kind r w next d)) (fault_of r kind d)) (sym may) (type_alike r w next kind d)).alike.exactly
