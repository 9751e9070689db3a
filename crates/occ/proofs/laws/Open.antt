-- The columns of the table of what is open, as conditions; and what a watch-only session lets through. Assumes nothing.
use Rattle.std.specs.Prelude.{ℕ, Bool, true, false, not, ◌↔◌, ◌⊎◌, ◌≡◌, refl, List, Some, None, eqb, length, get_or}
use Rattle.packet.specs.Packet.{status_number}
use Rattle.packet.specs.declared.Status.{Status}
use Rattle.packet.specs.declared.Status.TheVariants.{InvalidCommand, InvalidLength, InvalidData, ChecksumFailure, InternalError, StateProhibits}
use Rattle.std.proofs.Math.Bool.{cond}
use Rattle.std.proofs.lemmas.Bool.{false≢true}
use Rattle.std.proofs.Common.{inl, inr, ⊎_elim, sym, ◌∙◌, arith, eqb-true}
use Rattle.std.proofs.Math.Path.{ap, subst}
use Rattle.wire.proofs.laws.Cases.{cond_elim, cond_cases}
use Rattle.wire.proofs.laws.Chains.{holds, eq_holds, or_else}
use Rattle.occ.specs.Commands.{poll_verdict, clear_at, clear_verdict}
use Rattle.occ.specs.Judge.{plainly, type_judged, judge_of}
use Rattle.occ.specs.Open.{row_of, open_to, open_in, shut_status, shut, by_profile}
use Rattle.record.specs.declared.Record.{Record}
use Rattle.record.specs.declared.Worked.{Worked}
use Rattle.change.specs.Change.{kind_of}
use Rattle.change.specs.Logs.{find_of}
use Rattle.change.specs.declared.Change.{Change}
use Rattle.occ.specs.declared.Judged.{Judged}
use Rattle.occ.specs.declared.Row.{Row}
use Rattle.occ.specs.declared.Verdict.{Verdict}
use Rattle.occ.specs.declared.Verdict.TheVariants.{Refuse, Poll, Make}

-- a type that has a row of its own, by which the claim computes
by_row : (P : ℕ → Type 0) (kind n : ℕ) → P n → eqb kind n ≡ true → P kind
by_row P kind n p e = subst P (sym (eqb-true kind n e)) p

-- where every row holds, the table does
rows : (P : ℕ → Row → Type 0) (kind : ℕ) → P 0x00 (record { bmc = true; watch = true }) → P 0x12 (record { bmc = false; watch = true }) → P 0x20 (record { bmc = false; watch = false })
    → P 0x21 (record { bmc = false; watch = false }) → P 0x22 (record { bmc = true; watch = false }) → P 0x25 (record { bmc = false; watch = false })
    → (eqb kind 0x00 ≡ false → eqb kind 0x12 ≡ false → eqb kind 0x22 ≡ false → P kind (record { bmc = false; watch = false })) → P kind (row_of kind)
unfolding row_of
rows P kind poll clear state configure user reset none =
    cond_cases (P kind) (eqb kind 0x00) (by_row (λ (k : ℕ). P k (record { bmc = true; watch = true })) kind 0x00 poll) (λ a.
    cond_cases (P kind) (eqb kind 0x12) (by_row (λ (k : ℕ). P k (record { bmc = false; watch = true })) kind 0x12 clear) (λ b.
    cond_cases (P kind) (eqb kind 0x20) (by_row (λ (k : ℕ). P k (record { bmc = false; watch = false })) kind 0x20 state) (λ c.
    cond_cases (P kind) (eqb kind 0x21) (by_row (λ (k : ℕ). P k (record { bmc = false; watch = false })) kind 0x21 configure) (λ d.
    cond_cases (P kind) (eqb kind 0x22) (by_row (λ (k : ℕ). P k (record { bmc = true; watch = false })) kind 0x22 user) (λ e.
    cond_cases (P kind) (eqb kind 0x25) (by_row (λ (k : ℕ). P k (record { bmc = false; watch = false })) kind 0x25 reset) (λ f. none a b e))))))

bmc_column : (kind : ℕ) → (row_of kind).bmc ≡ cond (eqb kind 0x00) true (eqb kind 0x22)
bmc_column kind =
    rows (λ (k : ℕ) (r : Row). r.bmc ≡ cond (eqb k 0x00) true (eqb k 0x22)) kind refl refl refl refl refl refl
    (λ a b e. sym (ap (λ (x : Bool). cond x true (eqb kind 0x22)) a ∙ e))

watch_column : (kind : ℕ) → (row_of kind).watch ≡ cond (eqb kind 0x00) true (eqb kind 0x12)
watch_column kind =
    rows (λ (k : ℕ) (r : Row). r.watch ≡ cond (eqb k 0x00) true (eqb k 0x12)) kind refl refl refl refl refl refl
    (λ a b e. sym (ap (λ (x : Bool). cond x true (eqb kind 0x12)) a ∙ b))

pub open_to_is : (sender kind : ℕ) → open_to sender kind ≡ cond (not (eqb sender 0x20)) true (cond (eqb kind 0x00) true (eqb kind 0x22))
unfolding open_to
open_to_is sender kind = ap (cond (not (eqb sender 0x20)) true) (bmc_column kind)

open_in_is : (profile kind : ℕ) → open_in profile kind ≡ cond (eqb profile 0) true (cond (eqb kind 0x00) true (eqb kind 0x12))
unfolding open_in
open_in_is profile kind = ap (cond (eqb profile 0) true) (watch_column kind)

pub open_in_exactly : (profile kind : ℕ) → (open_in profile kind ≡ true) ↔ ((profile ≡ 0) ⊎ ((kind ≡ 0x00) ⊎ (kind ≡ 0x12)))
open_in_exactly profile kind =
    subst (λ (b : Bool). (b ≡ true) ↔ ((profile ≡ 0) ⊎ ((kind ≡ 0x00) ⊎ (kind ≡ 0x12)))) (sym (open_in_is profile kind))
    (or_else holds refl (eq_holds _ _) (or_else holds refl (eq_holds _ _) (eq_holds _ _)))

-- ---- the stage

-- a verdict's status, 0 where it refuses nothing
unfoldable status_in : Verdict → ℕ
status_in (Refuse status) = status_number status
status_in Poll = 0
status_in (Make change) = 0

unfoldable is_made : Verdict → Bool
is_made (Refuse status) = false
is_made Poll = false
is_made (Make change) = true

sixteen : Refuse StateProhibits ≡ Refuse InvalidData → ⊥
unfolding status_in
sixteen e = let z : ◌≡◌ {A = ℕ} 0x16 0x13 = ap status_in e in absurd (omega (arith, z))

poll : Poll ≡ Refuse InvalidData → ⊥
unfolding status_in
poll e = let z : ◌≡◌ {A = ℕ} 0 0x13 = ap status_in e in absurd (omega (arith, z))

make : (ch : Change) → Make ch ≡ Refuse InvalidData → ⊥
unfolding status_in
make ch e = let z : ◌≡◌ {A = ℕ} 0 0x13 = ap status_in e in absurd (omega (arith, z))

module _ (profile kind : ℕ) (v : Verdict) where
  pub stays_open : open_in profile kind ≡ true → by_profile profile kind v ≡ v
  unfolding by_profile
  stays_open o = ap (λ (b : Bool). cond b v (shut v)) o

  pub shuts : open_in profile kind ≡ false → by_profile profile kind v ≡ shut v
  unfolding by_profile
  shuts o = ap (λ (b : Bool). cond b v (shut v)) o

-- 0x13 stays, and nothing else becomes it
pub only_wrong : (x : Status) → status_number x ≡ 0x13 → x ≡ InvalidData
only_wrong InvalidCommand e = absurd (omega (arith, e))
only_wrong InvalidLength e = absurd (omega (arith, e))
only_wrong InvalidData e = refl
only_wrong ChecksumFailure e = absurd (omega (arith, e))
only_wrong InternalError e = absurd (omega (arith, e))
only_wrong StateProhibits e = absurd (omega (arith, e))

wrong_before : (x : Status) → status_number (shut_status x) ≡ 0x13 → x ≡ InvalidData
unfolding shut_status
wrong_before InvalidCommand e = absurd (omega (arith, e))
wrong_before InvalidLength e = absurd (omega (arith, e))
wrong_before InvalidData e = refl
wrong_before ChecksumFailure e = absurd (omega (arith, e))
wrong_before InternalError e = absurd (omega (arith, e))
wrong_before StateProhibits e = absurd (omega (arith, e))

shut_wrong : (v : Verdict) → (shut v ≡ Refuse InvalidData) ↔ (v ≡ Refuse InvalidData)
unfolding shut shut_status status_in
shut_wrong (Refuse x) = (λ e. ap Refuse (wrong_before x (ap status_in e)), λ e. ap (λ (y : Status). Refuse (shut_status y)) (only_wrong x (ap status_in e)))
shut_wrong Poll = ((λ e. absurd (sixteen e)), (λ e. absurd (poll e)))
shut_wrong (Make ch) = ((λ e. absurd (sixteen e)), (λ e. absurd (make ch e)))

pub wrong_stays : (profile kind : ℕ) (v : Verdict) → (by_profile profile kind v ≡ Refuse InvalidData) ↔ (v ≡ Refuse InvalidData)
unfolding by_profile
wrong_stays profile kind v = cond_elim (λ (x : Verdict). (x ≡ Refuse InvalidData) ↔ (v ≡ Refuse InvalidData)) (open_in profile kind) ((λ e. e), (λ e. e)) (shut_wrong v)

-- a change is made only where the type is open, as it was judged
shut_makes : (v : Verdict) (ch : Change) → shut v ≡ Make ch → ⊥
unfolding shut status_in is_made
shut_makes (Refuse x) ch = λ e. false≢true (ap is_made e)
shut_makes Poll ch = λ e. false≢true (ap is_made e)
shut_makes (Make x) ch = λ e. false≢true (ap is_made e)

pub made_open : (profile kind : ℕ) (v : Verdict) (ch : Change) → by_profile profile kind v ≡ Make ch → (open_in profile kind ≡ true) × (v ≡ Make ch)
unfolding by_profile
made_open profile kind v ch =
    cond_cases (λ (x : Verdict). x ≡ Make ch → (open_in profile kind ≡ true) × (v ≡ Make ch)) (open_in profile kind) (λ o e. (o, e)) (λ o e. absurd (shut_makes v ch e))

-- what is open in a watch-only session makes clears alone
abbrev Clears : Verdict → Type 0
Clears (Refuse status) = Unit {0}
Clears Poll = Unit {0}
Clears (Make change) = kind_of change ≡ 0x01

module _ (r : Record) (w : Worked) (next sender : ℕ) (d : List ℕ) where
  abbrev Clearing : Judged → Type 0
  Clearing j = Clears j.verdict

  clears_at : (kind : ℕ) → (kind ≡ 0x00) ⊎ (kind ≡ 0x12) → Clearing (judge_of r w next sender kind d)
  unfolding judge_of type_judged plainly poll_verdict clear_verdict clear_at kind_of
  clears_at kind (inl z) =
      subst (λ (k : ℕ). Clearing (judge_of r w next sender k d)) (sym z)
      (cond_elim Clearing (not (open_to sender 0x00)) tt (cond_elim Clears (not (eqb (length d) 1)) tt (cond_elim Clears (not (eqb (get_or d 0 0) 0x10)) tt tt)))
  clears_at kind (inr z) =
      subst (λ (k : ℕ). Clearing (judge_of r w next sender k d)) (sym z)
      (cond_elim Clearing (not (open_to sender 0x12)) tt
      (cond_elim Clears (not (eqb (length d) 1)) tt (elim (find_of (get_or d 0 0) r.logs) as (λ o. Clears (clear_at o r.logs)) [ None ↦ tt | Some p ↦ refl ])))

  pub open_clears : (profile kind : ℕ) (ch : Change) → (profile ≡ 0 → ⊥) → by_profile profile kind (judge_of r w next sender kind d).verdict ≡ Make ch → kind_of ch ≡ 0x01
  open_clears profile kind ch full e =
      let made = made_open profile kind _ ch e in
      ⊎_elim (λ z. absurd (full z)) (λ k. subst Clears made.1 (clears_at kind k)) ((open_in_exactly profile kind).0 made.0)
