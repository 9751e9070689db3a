-- Document 02, c: the fault that is found is the least of all of them, by place and then by reason, and none is found only where there is
-- none. Assumes nothing.
use Prim.Native.Nat.{ℕ, zero, suc, ◌+◌, ◌-◌, ◌*◌, ◌<◌, ◌≤◌}
use Rattle.std.specs.Prelude.{Bool, not, List, ◌↔◌, ltb, eqb, length, get_or}
use Rattle.std.proofs.Math.Bool.{true, false, cond, true≢false}
use Rattle.std.proofs.Math.Path.{◌≡◌, refl, sym, ap, subst}
use Rattle.std.proofs.Common.{◌∙◌, inl, inr, ⊎_elim, arith, ltb-true, ltb-false}
use Rattle.std.proofs.Math.Logic.Iff
use Rattle.std.proofs.Math.Nat.{not-suc-le-zero}
use Rattle.std.proofs.lemmas.Bool.{not-true}
use Rattle.wire.specs.Conditions.{◌and◌, none, Rows, here, later}
use Rattle.wire.proofs.laws.Cases.{cond_cases}
use Rattle.wire.proofs.laws.Chains.{holds, eq_holds, not_passes, zero_passes, unless, unless_last}
use Rattle.wire.proofs.laws.Tables.{lt_holds, fails, differs}
use Rattle.record.specs.declared.Record.{Record}
use Rattle.formed.specs.Formed.{in_order}
use Rattle.formed.proofs.laws.Thresholds.{out_of_order}
use Rattle.occ.specs.Commands.{sent_caps}
use Rattle.occ.proofs.laws.Exactly.{found_exactly, user_allowed_exactly, counted}
use Rattle.places.specs.declared.Reason.{Reason}
use Rattle.places.specs.declared.Reason.TheVariants.{BadVersion, BadCount, OutOfRange, Repeated, Clash, NotPending}
use Rattle.places.specs.declared.Fault.{Fault}
use Rattle.std.specs.Prelude.{Option, None}
use Rattle.places.specs.declared.SetTable.{SetTable}
use Rattle.places.specs.declared.SetTable.TheVariants.{Throttles, Thermal}
use Rattle.places.specs.Reasons.{named}
use Rattle.places.proofs.laws.Below.{by_order, any_exactly}
use Rattle.places.specs.Places.{wrong, poll_fault, clear_fault, state_fault, role_fault, caps_fault, user_fault, reset_fault, width_of, most_of, start_of, same_second, same_number, seen_before, rest_fault, set_fault, or_else, first_below, first_set, count_fault, sets_fault, format_fault, configure_fault, fault_of}
use Rattle.places.specs.Faults.{Faults, byte, ◌or◌, each_of, of_length, PollFaults, ClearFaults, StateFaults, RoleFaults, CapsFaults, ThrottleFaults, ThermalFaults, SetsFaults, ConfigureFaults, UserFaults, ResetFaults, CommandFaults, NotAfter, Least, no_fault, least}

-- ---- the least of some faults

least_none : Least none None
least_none = no_fault (λ x h. h)

-- the same faults in other words
least_same : {F G : Faults} {found : Option Fault} → ((x : Fault) → F x ↔ G x) → Least F found → Least G found
least_same e (no_fault h) = no_fault (λ x g. h x ((e x).1 g))
least_same e (least x h low) = least x ((e x).0 h) (λ y g. low y ((e y).1 g))

-- of two sorts of which none of the second stands before one of the first
least_or : {F G : Faults} {a b : Option Fault} → Least F a → Least G b → ((x y : Fault) → F x → G y → NotAfter x y) → Least (F or G) (or_else a b)
unfolding or_else
least_or (no_fault f) (no_fault g) after = no_fault (λ x. ⊎_elim (f x) (g x))
least_or (no_fault f) (least x g low) after = least x (inr g) (λ y. ⊎_elim (λ h. absurd (f y h)) (low y))
least_or (least x f low) g after = least x (inl f) (λ y. ⊎_elim (low y) (after x y f))

-- where P holds those of one sort, else those of another
least_rows : {P : Type 0} {F G : Faults} {a b : Option Fault} {t : Bool} → (t ≡ true) ↔ P → Least F a → Least G b → Least (Rows P F G) (cond t a b)
least_rows {P} {F} {G} {a} {b} {t} p f g = cond_cases (Least (Rows P F G)) t is isn't
  where
    held : {x : Fault} → P → Rows P F G x → F x
    held h (here k y) = y
    held h (later k y) = absurd (k h)

    passed : {x : Fault} → (P → ⊥) → Rows P F G x → G x
    passed h (here k y) = absurd (h k)
    passed h (later k y) = y

    is : t ≡ true → Least (Rows P F G) a
    is e = least_same (λ x. (here (p.0 e), held (p.0 e))) f

    isn't : t ≡ false → Least (Rows P F G) b
    isn't e = let no : P → ⊥ = λ k. true≢false (sym (p.1 k) ∙ e) in least_same (λ x. (later no, passed no)) g

-- no byte is judged where the length is wrong
module _ {right : Type 0} {F : Faults} where
  unjudged : (x : Fault) → (right → ⊥) → of_length right F x → ⊥
  unjudged x h (here k y) = h k
  unjudged x h (later k y) = y

  judged : (x : Fault) → of_length right F x → F x
  judged x (here k y) = y
  judged x (later k y) = absurd y

  least_unsized : (right → ⊥) → Least (of_length right F) None
  least_unsized h = no_fault (λ x. unjudged x h)

  least_sized : {found : Option Fault} {t : Bool} → (t ≡ false) ↔ right → Least F found → Least (of_length right F) (cond t None found)
  least_sized {found} {t} p f =
      cond_cases (Least (of_length right F)) t (λ e. least_unsized (λ k. true≢false (sym e ∙ p.1 k))) (λ e. least_same (λ x. (here (p.0 e), judged x)) f)

-- ---- one byte

-- faults at a place or after it
abbrev From : ℕ → Faults → Type 0
From at F = (y : Fault) → F y → at ≤ y.at

at_byte : {P : Type 0} (at : ℕ) (reason : Reason) (x : Fault) → byte at reason P x → x.at ≡ at
at_byte at reason x h = ap (λ (y : Fault). y.at) h.0

from_byte : {P : Type 0} (low at : ℕ) (reason : Reason) → low ≤ at → From low (byte at reason P)
from_byte low at reason h y k = omega (arith, at_byte at reason y k, h)

from_or : {F G : Faults} (low : ℕ) → From low F → From low G → From low (F or G)
from_or low f g y = ⊎_elim (f y) (g y)

before : {P : Type 0} {F : Faults} (at : ℕ) (reason : Reason) → From (suc at) F → (x y : Fault) → byte at reason P x → F y → NotAfter x y
unfolding NotAfter
before at reason from x y h k = inl (omega (arith, at_byte at reason x h, from y k))

itself : (x y : Fault) → y ≡ x → NotAfter x y
unfolding NotAfter
itself x y e = subst (λ (z : Fault). NotAfter x z) (sym e) (inr (refl, omega arith))

-- a test of one byte; the code may write its place in another way
module _ {P : Type 0} {t : Bool} (at : ℕ) (reason : Reason) (p : (t ≡ true) ↔ P) where
  least_byte : {k : ℕ} → k ≡ at → Least (byte at reason P) (cond t (wrong reason k) None)
  unfolding wrong
  least_byte {k} e =
      cond_cases (Least (byte at reason P)) t
      (λ h. let same : ◌≡◌ {A = Fault} (record { reason = reason; at = k }) (record { reason = reason; at = at }) = ap (λ (n : ℕ). record { reason = reason; at = n }) e in
      least _ (same, p.0 h) (λ y f. itself _ y (f.0 ∙ sym same)))
      (λ h. no_fault (λ x f. true≢false (sym (p.1 f.1) ∙ h)))

  least_test : {F : Faults} {found : Option Fault} {k : ℕ} → k ≡ at → ((x y : Fault) → byte at reason P x → F y → NotAfter x y) → Least F found
      → Least (byte at reason P or F) (cond t (wrong reason k) found)
  unfolding or_else wrong
  least_test {F} {found} {k} e after rest = subst (Least (byte at reason P or F)) (chosen t) (least_or (least_byte e) rest after)
    where
      chosen : (b : Bool) → or_else (cond b (wrong reason k) None) found ≡ cond b (wrong reason k) found
      chosen true = refl
      chosen false = refl

-- ---- the small commands

right_length : (m n : ℕ) → (not (eqb m n) ≡ false) ↔ (m ≡ n)
right_length m n = not_passes (eq_holds m n)

poll_least : (d : List ℕ) → Least (of_length (length d ≡ 1) (PollFaults d)) (poll_fault d)
unfolding poll_fault PollFaults
poll_least d = least_sized (right_length _ _) (least_byte 1 BadVersion (differs _ _) refl)

state_least : (d : List ℕ) → Least (of_length (length d ≡ 3) (StateFaults d)) (state_fault d)
unfolding state_fault StateFaults
state_least d =
    least_sized (right_length _ _)
    (least_test 1 BadVersion (differs _ _) refl (before 1 BadVersion (from_or 2 (from_byte 2 2 OutOfRange (omega arith)) (from_or 2 (from_byte 2 2 OutOfRange (omega arith)) (from_byte 2 3 OutOfRange (omega arith)))))
    (least_test 2 OutOfRange (lt_holds _ _) refl (λ x y h. ⊎_elim (λ k. itself x y (k.0 ∙ sym h.0)) (λ k. before 2 OutOfRange (from_byte 3 3 OutOfRange (omega arith)) x y h k))
    (least_test 2 OutOfRange (lt_holds _ _) refl (before 2 OutOfRange (from_byte 3 3 OutOfRange (omega arith)))
    (least_byte 3 OutOfRange (differs _ _) refl))))

role_least : (d : List ℕ) → Least (of_length (length d ≡ 2) (RoleFaults d)) (role_fault d)
unfolding role_fault RoleFaults
role_least d = least_sized (right_length _ _) (least_byte 2 OutOfRange (lt_holds _ _) refl)

caps_least : (d : List ℕ) → Least (of_length (length d ≡ 8) (CapsFaults d)) (caps_fault d)
unfolding caps_fault CapsFaults sent_caps
caps_least d =
    least_sized (right_length _ _)
    (least_test 2 BadVersion (differs _ _) refl (before 2 BadVersion (from_byte 3 5 Clash (omega arith))) (least_byte 5 Clash (lt_holds _ _) refl))

reset_least : (d : List ℕ) → Least (of_length (length d ≡ 2) (ResetFaults d)) (reset_fault d)
unfolding reset_fault ResetFaults
reset_least d =
    least_sized (right_length _ _)
    (least_test 1 BadVersion (differs _ _) refl (before 1 BadVersion (from_byte 2 2 OutOfRange (omega arith))) (least_byte 2 OutOfRange (lt_holds _ _) refl))

clear_least : (r : Record) (d : List ℕ) → length r.logs ≡ 4 → Least (of_length (length d ≡ 1) (ClearFaults r.logs d)) (clear_fault r.logs d)
unfolding clear_fault ClearFaults
clear_least r d four =
    least_sized (right_length _ _) (least_byte 1 NotPending (fails (not_passes (found_exactly (get_or d 0 0) r.logs four))) refl)

user_least : (r : Record) (d : List ℕ) → Least (of_length (length d ≡ 2) (UserFaults r.received.caps r.caps d)) (user_fault r.received.caps r.caps d)
unfolding user_fault UserFaults
user_least r d = least_sized (right_length _ _) (least_byte 1 OutOfRange (fails (not_passes (user_allowed_exactly r.received.caps r.caps _))) refl)

-- ---- one set

-- an earlier set has the number
seen_exactly : (t : SetTable) (d : List ℕ) (i : ℕ) (Same : ℕ → Type 0) → ((k : ℕ) → (same_number t d (start_of t k) (start_of t i) ≡ true) ↔ Same k)
    → (seen_before t d i ≡ true) ↔ ((k : ℕ) × (k < i) × Same k)
unfolding seen_before
seen_exactly t d i Same same =
    let q = any_exactly (λ (k : ℕ). same_number t d (start_of t k) (start_of t i)) i in
    (λ h. let r = q.0 h in (r.0, r.1, (same r.0).0 r.2), λ h. q.1 (h.0, h.1, (same h.0).1 h.2))

same_pair : (d : List ℕ) (i k : ℕ)
    → (same_number Throttles d (start_of Throttles k) (start_of Throttles i) ≡ true)
    ↔ ((get_or d (3 + k * 12) 0 ≡ get_or d (3 + i * 12) 0) and (get_or d (4 + k * 12) 0 ≡ get_or d (4 + i * 12) 0))
unfolding same_number same_second width_of
same_pair d i k =
    let next : (n : ℕ) → 3 + n * 12 + 1 ≡ 4 + n * 12 = λ n. omega arith in
    subst (λ (m : ℕ). (same_number Throttles d (3 + k * 12) (3 + i * 12) ≡ true) ↔ ((get_or d (3 + k * 12) 0 ≡ get_or d (3 + i * 12) 0) and (get_or d m 0 ≡ get_or d (4 + i * 12) 0))) (next k)
    (subst (λ (m : ℕ). (same_number Throttles d (3 + k * 12) (3 + i * 12) ≡ true) ↔ ((get_or d (3 + k * 12) 0 ≡ get_or d (3 + i * 12) 0) and (get_or d (3 + k * 12 + 1) 0 ≡ get_or d m 0))) (next i)
    (unless holds refl (not_passes (eq_holds _ _)) (eq_holds _ _)))

same_fru : (d : List ℕ) (i k : ℕ) → (same_number Thermal d (start_of Thermal k) (start_of Thermal i) ≡ true) ↔ (get_or d (3 + k * 4) 0 ≡ get_or d (3 + i * 4) 0)
unfolding same_number same_second width_of
same_fru d i k = unless_last holds refl (not_passes (eq_holds _ _)) refl

-- a repeated number stands where the number itself does, and comes after a wrong one
second_sighting : {P Q : Type 0} {F : Faults} (at : ℕ) → From (suc at) F → (x y : Fault) → byte at OutOfRange P x → (byte at Repeated Q or F) y → NotAfter x y
unfolding NotAfter named
second_sighting at from x y h =
    ⊎_elim
    (λ k. inr (at_byte at OutOfRange x h ∙ sym (at_byte at Repeated y k), rw (ap (λ (z : Fault). z.reason) h.0, ap (λ (z : Fault). z.reason) k.0) (omega arith)))
    (before at OutOfRange from x y h)

throttle_least : (d : List ℕ) (i : ℕ) → Least (ThrottleFaults d i) (set_fault Throttles d i)
unfolding set_fault rest_fault width_of most_of ThrottleFaults
throttle_least d i =
    let first : 3 + i * 12 + 1 ≡ 4 + i * 12 = omega arith in
    let mba : From (suc (4 + i * 12)) (byte (5 + i * 12) OutOfRange (1 < get_or d (4 + i * 12) 0)) = from_byte (suc (4 + i * 12)) (5 + i * 12) OutOfRange (omega arith) in
    least_test (4 + i * 12) OutOfRange (lt_holds _ _) first (second_sighting (4 + i * 12) mba)
    (least_test (4 + i * 12) Repeated (seen_exactly Throttles d i _ (same_pair d i)) first (before (4 + i * 12) Repeated mba)
    (least_byte (5 + i * 12) OutOfRange (subst (λ (m : ℕ). (ltb 1 (get_or d (3 + i * 12 + 1) 0) ≡ true) ↔ (1 < get_or d m 0)) first (lt_holds _ _)) (omega arith)))

clash_at : (d : List ℕ) {a b m n : ℕ} → a ≡ m → b ≡ n
    → (not (in_order (get_or d a 0) (get_or d b 0)) ≡ true) ↔ ((get_or d m 0 ≡ 0xFF → ⊥) and (get_or d n 0 ≡ 0xFF → ⊥) and (get_or d n 0 < get_or d m 0))
clash_at d {a} {b} {m} {n} p q =
    let rule = out_of_order (get_or d m 0) (get_or d n 0) in
    let same : in_order (get_or d a 0) (get_or d b 0) ≡ in_order (get_or d m 0) (get_or d n 0) = λ j. in_order (get_or d (p j) 0) (get_or d (q j) 0) in
    (λ h. rule.0 (sym same ∙ not-true _ h), λ h. ap not (same ∙ rule.1 h))

thermal_least : (d : List ℕ) (i : ℕ) → Least (ThermalFaults d i) (set_fault Thermal d i)
unfolding set_fault rest_fault width_of most_of ThermalFaults
thermal_least d i =
    let first : 3 + i * 4 + 1 ≡ 4 + i * 4 = omega arith in
    let second : 3 + i * 4 + 2 ≡ 5 + i * 4 = omega arith in
    let error : From (suc (4 + i * 4)) (byte (6 + i * 4) Clash ((get_or d (4 + i * 4) 0 ≡ 0xFF → ⊥) and (get_or d (5 + i * 4) 0 ≡ 0xFF → ⊥) and (get_or d (5 + i * 4) 0 < get_or d (4 + i * 4) 0))) =
    from_byte (suc (4 + i * 4)) (6 + i * 4) Clash (omega arith) in
    least_test (4 + i * 4) OutOfRange (lt_holds _ _) first (second_sighting (4 + i * 4) error)
    (least_test (4 + i * 4) Repeated (seen_exactly Thermal d i _ (same_fru d i)) first (before (4 + i * 4) Repeated error)
    (least_byte (6 + i * 4) Clash (clash_at d first second) (omega arith)))

-- ---- the sets one after the other

module _ (f : ℕ → Option Fault) (F : ℕ → Faults) (each : (i : ℕ) → Least (F i) (f i)) (rising : (i j : ℕ) → i < j → (x y : Fault) → F i x → F j y → NotAfter x y) where
  -- those of the sets before one, and its own
  with_last : (n : ℕ) (x : Fault) → (each_of n F or F n) x ↔ each_of (suc n) F x
  with_last n x = (
    ⊎_elim (λ h. (h.0, omega (arith, h.1), h.2)) (λ h. (n, omega arith, h)),
    λ h. by_order h.0 n h.1 (λ l. inl (h.0, l, h.2)) (λ e. inr (subst (λ (i : ℕ). F i x) e h.2)),
  )

  first_least : (n : ℕ) → Least (each_of n F) (first_below f n)
  unfolding first_below
  first_least zero = no_fault (λ x h. not-suc-le-zero h.1)
  first_least (suc n) = least_same (with_last n) (least_or (first_least n) (each n) (λ x y h. rising h.0 n h.1 x y h.2))

-- the faults of a set lie within it
throttle_within : (d : List ℕ) (i : ℕ) (x : Fault) → ThrottleFaults d i x → (4 + i * 12 ≤ x.at) × (x.at ≤ 5 + i * 12)
unfolding ThrottleFaults
throttle_within d i x =
    ⊎_elim (λ h. (omega (arith, at_byte _ _ x h), omega (arith, at_byte _ _ x h)))
    (⊎_elim (λ h. (omega (arith, at_byte _ _ x h), omega (arith, at_byte _ _ x h))) (λ h. (omega (arith, at_byte _ _ x h), omega (arith, at_byte _ _ x h))))

thermal_within : (d : List ℕ) (i : ℕ) (x : Fault) → ThermalFaults d i x → (4 + i * 4 ≤ x.at) × (x.at ≤ 6 + i * 4)
unfolding ThermalFaults
thermal_within d i x =
    ⊎_elim (λ h. (omega (arith, at_byte _ _ x h), omega (arith, at_byte _ _ x h)))
    (⊎_elim (λ h. (omega (arith, at_byte _ _ x h), omega (arith, at_byte _ _ x h))) (λ h. (omega (arith, at_byte _ _ x h), omega (arith, at_byte _ _ x h))))

throttles_rise : (d : List ℕ) (i j : ℕ) → i < j → (x y : Fault) → ThrottleFaults d i x → ThrottleFaults d j y → NotAfter x y
unfolding NotAfter
throttles_rise d i j h x y f g = let a = throttle_within d i x f in let b = throttle_within d j y g in inl (omega (arith, a, b, h))

thermals_rise : (d : List ℕ) (i j : ℕ) → i < j → (x y : Fault) → ThermalFaults d i x → ThermalFaults d j y → NotAfter x y
unfolding NotAfter
thermals_rise d i j h x y f g = let a = thermal_within d i x f in let b = thermal_within d j y g in inl (omega (arith, a, b, h))

pub throttles_least : (d : List ℕ) (n : ℕ) → Least (each_of n (ThrottleFaults d)) (first_set Throttles d n)
unfolding first_set
throttles_least d n = first_least (set_fault Throttles d) (ThrottleFaults d) (throttle_least d) (throttles_rise d) n

pub thermals_least : (d : List ℕ) (n : ℕ) → Least (each_of n (ThermalFaults d)) (first_set Thermal d n)
unfolding first_set
thermals_least d n = first_least (set_fault Thermal d) (ThermalFaults d) (thermal_least d) (thermals_rise d) n

-- version and count stand before the sets
sets_least : (t : SetTable) (F : ℕ → Faults) (d : List ℕ) → Least (each_of (get_or d 2 0) F) (first_set t d (get_or d 2 0)) → ((i : ℕ) (x : Fault) → F i x → 4 ≤ x.at)
    → Least (of_length (length d ≡ 3 + get_or d 2 0 * width_of t) (SetsFaults F d)) (sets_fault t d)
unfolding sets_fault count_fault SetsFaults
sets_least t F d all from =
    let sets : From 4 (each_of (get_or d 2 0) F) = λ y h. from h.0 y h.2 in
    let tested =
    least_test 2 BadVersion (differs _ _) refl (before 2 BadVersion (from_or 3 (from_byte 3 3 BadCount (omega arith)) (λ y h. omega (arith, sets y h))))
    (least_test 3 BadCount (eq_holds _ _) refl (before 3 BadCount sets) all) in
    cond_cases (Least (of_length (length d ≡ 3 + get_or d 2 0 * width_of t) (SetsFaults F d))) (ltb (length d) 3)
    (λ e. least_unsized (λ k. omega (arith, ltb-true (length d) 3 e, k)))
    (λ e. let long = counted (length d) (get_or d 2 0 * width_of t) in
    least_sized (Iff.trans (right_length (length d - 3) (get_or d 2 0 * width_of t)) (λ q. long.0 (ltb-false (length d) 3 e, q), λ q. (long.1 q).1)) tested)

-- ---- every command

configure_least : (d : List ℕ) → Least (of_length (1 ≤ length d) (ConfigureFaults d)) (configure_fault d)
unfolding configure_fault format_fault ConfigureFaults width_of
configure_least d =
    least_sized (zero_passes (length d))
    (least_rows (eq_holds _ _) (role_least d)
    (least_rows (eq_holds _ _) (caps_least d)
    (least_rows (eq_holds _ _)
    (sets_least Throttles (ThrottleFaults d) d (throttles_least d _) (λ i x h. omega (arith, throttle_within d i x h)))
    (least_rows (eq_holds _ _)
    (sets_least Thermal (ThermalFaults d) d (thermals_least d _) (λ i x h. omega (arith, thermal_within d i x h)))
    (least_byte {t = true} 1 OutOfRange (λ h. tt, λ h. refl) refl)))))

-- "the number of the first data byte that is wrong ..., and the least number wins"
pub least_fault : (r : Record) (kind : ℕ) (d : List ℕ) → length r.logs ≡ 4 → Least (CommandFaults r kind d) (fault_of r kind d)
unfolding fault_of CommandFaults
least_fault r kind d four =
    least_rows (eq_holds _ _) (poll_least d)
    (least_rows (eq_holds _ _) (clear_least r d four)
    (least_rows (eq_holds _ _) (state_least d)
    (least_rows (eq_holds _ _) (configure_least d)
    (least_rows (eq_holds _ _) (user_least r d)
    (least_rows (eq_holds _ _) (reset_least d) least_none)))))
