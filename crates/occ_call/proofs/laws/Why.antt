-- Document 02, c: beside the answer a wrong byte stands exactly where the command was read and judged 0x13, and it is the least of all
-- faults. Assumes nothing.
use Rattle.std.specs.Prelude.{Ok, Err}
use Rattle.packet.specs.Packet.{Checked}
use Rattle.packet.proofs.laws.Exactly.{checked_cases}
use Rattle.packet.specs.declared.Status.TheVariants.{InvalidCommand, InvalidLength, InvalidData, ChecksumFailure, InternalError, StateProhibits}
use Rattle.std.specs.Prelude.{ℕ, true, not, List, ◌↔◌, length, get_or}
use Rattle.std.proofs.Math.Path.{◌≡◌, refl, ap}
use Rattle.std.proofs.Common.{sym, subst, ◌∙◌, arith}
use borrow.Author.Tests.{not-false}
use Rattle.wire.specs.Conditions.{◌and◌}
use Rattle.wire.proofs.laws.Cases.{cond_cases}
use Rattle.record.specs.declared.Record.{Record}
use Rattle.packet.specs.Packet.{packet_status, data_of}
use Rattle.occ.specs.Judge.{plainly, judge_of}
use Rattle.occ.specs.Open.{open_to}
use Rattle.occ.proofs.laws.Open.{wrong_stays}
use Rattle.occ.specs.declared.Verdict.{Verdict}
use Rattle.occ.specs.declared.Verdict.TheVariants.{Refuse, Poll, Make}
use Rattle.occ.specs.declared.Judged.{Judged}
use Rattle.std.proofs.lemmas.Option.{none-some}
use Rattle.places.specs.Places.{fault_of}
use Rattle.places.specs.Faults.{Faults, CommandFaults, NotAfter, Least, least}
use Rattle.places.proofs.laws.Exactly.{exactly_wrong, status_of}
use Rattle.places.proofs.laws.Least.{least_fault}
use Rattle.places.specs.declared.Fault.{Fault}
use Rattle.std.specs.Prelude.{Option, Some, None}
use Rattle.session.specs.declared.Session.{Session}
use Rattle.packet.proofs.laws.Exactly.{by_row, number_in, status_overlong, status_summed, status_unsummed}
use Rattle.occ.proofs.laws.Open.{only_wrong}
use Rattle.occ_call.specs.Occ.{asked_for, asked_of, fault_by, fault_for, why_read, beside_of}

-- the answer is what it is
pub answer_beside : (n : ℕ) (f : Option Fault) → (beside_of n f).answer ≡ n
unfolding beside_of
answer_beside n None = refl
answer_beside n (Some x) = refl

-- a fault stands beside 0x13 only, and is the one of the data
beside_only : (v : Verdict) (held : Record) (kind : ℕ) (d : List ℕ) (x : Fault) → fault_for v held kind d ≡ Some x → (v ≡ Refuse InvalidData) × (fault_of held kind d ≡ Some x)
unfolding fault_for fault_by
beside_only (Refuse InvalidData) held kind d x = λ e. (refl, e)
beside_only (Refuse InvalidCommand) held kind d x = λ e. absurd (none-some x e)
beside_only (Refuse InvalidLength) held kind d x = λ e. absurd (none-some x e)
beside_only (Refuse ChecksumFailure) held kind d x = λ e. absurd (none-some x e)
beside_only (Refuse InternalError) held kind d x = λ e. absurd (none-some x e)
beside_only (Refuse StateProhibits) held kind d x = λ e. absurd (none-some x e)
beside_only Poll held kind d x = λ e. absurd (none-some x e)
beside_only (Make ch) held kind d x = λ e. absurd (none-some x e)

never_13 : (c : List ℕ) → packet_status c ≡ Err InvalidData → ⊥
never_13 c e =
    by_row c (λ o. omega (arith, ap number_in (sym e ∙ status_overlong c o))) (λ f k. omega (arith, ap number_in (sym e ∙ status_summed c f k)))
    (λ f k. omega (arith, ap number_in (sym e ∙ status_unsummed c f k)))

is_least : {F : Faults} {x : Fault} → Least F (Some x) → F x and ((y : Fault) → F y → NotAfter x y)
is_least (least x h low) = (h, low)

module _ (s : Session) (sender : ℕ) (c : List ℕ) where
  abbrev judged : Judged
  judged = judge_of s.held s.worked s.next sender (get_or c 1 0) (data_of c)

  abbrev found : Option Fault
  found = fault_of s.held (get_or c 1 0) (data_of c)

  -- a sender that may not send the type gets 0x11
  may_send : judged.verdict ≡ Refuse InvalidData → open_to sender (get_or c 1 0) ≡ true
  unfolding judge_of plainly
  may_send =
      cond_cases (λ (j : Judged). j.verdict ≡ Refuse InvalidData → open_to sender (get_or c 1 0) ≡ true) (not (open_to sender (get_or c 1 0)))
      (λ t e. let z : ◌≡◌ {A = ℕ} 0x11 0x13 = ap status_of e in absurd (omega arith)) (λ t e. not-false _ t)

  -- a packet's own status isn't 0x13
  pub asked_read : (asked_of s.held s.worked s.next sender c).verdict ≡ Refuse InvalidData → (packet_status c ≡ Ok tt) × (judged.verdict ≡ Refuse InvalidData)
  unfolding asked_of asked_for plainly
  asked_read =
      checked_cases (λ (v : Checked). (asked_for v s.held s.worked s.next sender c).verdict ≡ Refuse InvalidData → (packet_status c ≡ Ok tt) × (judged.verdict ≡ Refuse InvalidData))
      (packet_status c) (λ x f e. absurd (never_13 c (f ∙ ap Err (only_wrong x (ap status_of e))))) (λ f e. (f, e))

  pub why_exactly : ((x : Fault) × (why_read s sender c ≡ Some x)) ↔ ((packet_status c ≡ Ok tt) and (judged.verdict ≡ Refuse InvalidData))
  unfolding why_read asked_of asked_for fault_for fault_by
  why_exactly = (
    λ h. asked_read ((wrong_stays s.profile (get_or c 1 0) _).0 (beside_only _ s.held (get_or c 1 0) (data_of c) h.0 h.1).0),
    λ h.
        let q = (exactly_wrong s.held s.worked s.next sender (get_or c 1 0) (data_of c) (may_send h.1)).0 h.1 in
        let asked : judged ≡ asked_of s.held s.worked s.next sender c = ap (λ (v : Checked). asked_for v s.held s.worked s.next sender c) (sym h.0) in
        let still = (wrong_stays s.profile (get_or c 1 0) _).1 (ap (λ (j : Judged). j.verdict) (sym asked) ∙ h.1) in
        (q.0, ap (λ (v : Verdict). fault_for v s.held (get_or c 1 0) (data_of c)) still ∙ q.1),
  )

  pub why_least : length s.held.logs ≡ 4 → (x : Fault) → why_read s sender c ≡ Some x
      → CommandFaults s.held (get_or c 1 0) (data_of c) x and ((y : Fault) → CommandFaults s.held (get_or c 1 0) (data_of c) y → NotAfter x y)
  unfolding why_read
  why_least four x e =
      is_least (subst (Least (CommandFaults s.held (get_or c 1 0) (data_of c))) (beside_only _ s.held (get_or c 1 0) (data_of c) x e).1 (least_fault s.held (get_or c 1 0) (data_of c) four))
