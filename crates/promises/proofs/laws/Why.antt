-- Document 02, c: the data byte that is told beside an answer. Assumes nothing.
use Prim.Native.Nat.{ℕ}
use Rattle.std.proofs.Math.Bool.{not}
use Rattle.std.specs.Prelude.{List, ◌↔◌, ◌≡◌, refl, ltb, eqb, length, get_or}
use Rattle.std.proofs.Math.Path.{sym}
use Rattle.std.proofs.Common.{ap, ◌∙◌, arith}
use borrow.Author.Tests.{ltb-false, eqb-true, not-false}
use Rattle.wire.specs.Conditions.{◌and◌}
use Rattle.wire.proofs.laws.Cases.{cond_cases, else_b, else_lt, else_ne}
use Rattle.packet.specs.Packet.{data_of}
use Rattle.places.specs.Faults.{CommandFaults, NotAfter}
use Rattle.places.specs.declared.Fault.{Fault}
use Rattle.std.specs.Prelude.{Option, Some, None}
use Rattle.session.specs.Session.{well_formed}
use Rattle.session.specs.declared.Session.{Session}
use Rattle.links.specs.Typed.{TypedSession}
use Rattle.occ_call.specs.Occ.{known_sender, refusal_of, occ_refusal, occ_call, why_read, why_from, occ_why}
use Rattle.std.proofs.lemmas.Option.{none-some}
use Rattle.occ_call.proofs.laws.Why.{why_exactly, why_least}
use Rattle.promises.specs.Demand1.{OccDue, occ_error}
use Rattle.promises.proofs.laws.OccWays.{known_exactly}
use Rattle.promises.proofs.laws.OccDemands.{status_13}

module _ (s : Session) (sender : ℕ) (c d : List ℕ) where
  -- no answer but 0 is due
  due_exactly : (occ_refusal s sender (length c) (length d) ≡ 0) ↔ OccDue s sender c d
  unfolding occ_refusal refusal_of
  due_exactly = (
    cond_cases P (not (well_formed s)) (λ f z. absurd (omega (arith, z)))
        (λ f. cond_cases P (not (known_sender sender)) (λ g z. absurd (omega (arith, z)))
        (λ g. cond_cases P (ltb (length d) 4096) (λ h z. absurd (omega (arith, z)))
        (λ h. cond_cases P (ltb (length c) 4) (λ l z. absurd (omega (arith, z)))
        (λ l z. record { formed = not-false _ f; known = (known_exactly sender).0 (not-false _ g); reply = ltb-false _ _ h; command = ltb-false _ _ l })))),
    λ p.
        sym (else_b _ _ (ap not p.formed) (else_b _ _ (ap not ((known_exactly sender).1 p.known)) (else_lt _ _ p.reply (else_lt _ _ p.command refl)))),
  )
    where
      P : ℕ → Type 0
      P n = n ≡ 0 → OccDue s sender c d

  -- beside any other answer stands nothing
  why_due : (x : Fault) → (occ_why s sender c d ≡ Some x) ↔ (OccDue s sender c d and (why_read s sender c ≡ Some x))
  unfolding occ_why why_from
  why_due x = (
    cond_cases (λ (f : Option Fault). f ≡ Some x → OccDue s sender c d and (why_read s sender c ≡ Some x)) (not (eqb (occ_refusal s sender (length c) (length d)) 0)) (λ t e. absurd (none-some x e))
        (λ t e. (due_exactly.0 (eqb-true _ 0 (not-false _ t)), e)),
    λ h. sym (else_ne None _ (due_exactly.1 h.0) refl) ∙ h.1,
  )

module _ (s : Session) (typed : TypedSession s) (sender : ℕ) (c d : List ℕ) where
  pub byte_told : ((x : Fault) × (occ_why s sender c d ≡ Some x)) ↔ (OccDue s sender c d and (occ_call s sender c d ≡ occ_error s c d 0x13))
  byte_told = (
    λ h. let p = (why_due s sender c d h.0).0 h.1 in (p.0, (status_13 s typed sender c d p.0).1 ((why_exactly s sender c).0 (h.0, p.1))),
    λ h. let q = (why_exactly s sender c).1 ((status_13 s typed sender c d h.0).0 h.1) in (q.0, (why_due s sender c d q.0).1 (h.0, q.1)),
  )

  pub byte_least : (x : Fault) → occ_why s sender c d ≡ Some x
      → CommandFaults s.held (get_or c 1 0) (data_of c) x and ((y : Fault) → CommandFaults s.held (get_or c 1 0) (data_of c) y → NotAfter x y)
  byte_least x e = why_least s sender c typed.held.logs x ((why_due s sender c d x).0 e).1
