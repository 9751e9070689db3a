-- Document 02, c in two worlds that differ in ids: the same data byte is told in both. Assumes nothing.
use Rattle.std.specs.Option.{is_some}
use Rattle.std.specs.Prelude.{ℕ, ◌≤◌, ◌<◌, not, List, [], ◌∷◌, map, ◌≡◌, eqb, length, get_or, Option}
use Rattle.packet.specs.declared.Status.TheVariants.{InvalidCommand, InvalidLength, InvalidData, ChecksumFailure, InternalError, StateProhibits}
use Rattle.places.specs.declared.Fault.{Fault}
use Rattle.std.proofs.Math.Bool.{cond}
use Rattle.std.proofs.Math.Path.{refl, ap}
use Rattle.std.proofs.Common.{sym, ◌∙◌, eqb-true}
use Rattle.std.proofs.lemmas.Bool.{not-false}
use Rattle.wire.proofs.laws.Cases.{by_both}
use Rattle.record.specs.declared.Log.{Log}
use Rattle.record.specs.declared.Record.{Record}
use Rattle.change.specs.Logs.{find_of}
use Rattle.change.specs.With.{with_logs}
use Rattle.occ.specs.declared.Verdict.{Verdict}
use Rattle.occ.specs.declared.Verdict.TheVariants.{Refuse, Poll, Make}
use Rattle.places.specs.Places.{wrong, clear_fault, fault_of}
use Rattle.std.specs.Prelude.{Option, None}
use Rattle.places.specs.declared.Reason.TheVariants.{NotPending}
use Rattle.occ_call.specs.Occ.{fault_by, fault_for}
use Rattle.promises.specs.Shifted.{shifted, shifted_log, shifted_record}
use Rattle.promises.proofs.laws.Shifted.{find_shifted, shifted_low}
use Rattle.promises.proofs.laws.Judgements.{shifted_verdict}

abbrev Same : Option Fault → Option Fault → Type 0
Same a b = a ≡ b

module _ (k : ℕ) (low : 1 ≤ k) where
  abbrev f : Log → Log
  f = shifted_log k

  clear_fault_lem : (i j : ℕ) (l : List Log) → find_of j (map f l) ≡ find_of i l → clear_fault (map f l) (j ∷ []) ≡ clear_fault l (i ∷ [])
  unfolding clear_fault
  clear_fault_lem i j l e = ap (λ (o : Option ℕ). cond (not (is_some o)) (wrong NotPending 1) None) e

  old_fault : (l : List Log) (d : List ℕ) → (length d ≡ 1 → get_or d 0 0 < k) → clear_fault (map f l) d ≡ clear_fault l d
  unfolding clear_fault
  old_fault l d old =
      by_both Same (not (eqb (length d) 1)) (λ g. refl)
      (λ g. ap (λ (o : Option ℕ). cond (not (is_some o)) (wrong NotPending 1) None)
      (ap (λ (j : ℕ). find_of j (map f l)) (sym (shifted_low k (get_or d 0 0) (old (eqb-true (length d) 1 (not-false _ g))))) ∙ find_shifted k low (get_or d 0 0) l))

  module _ (r : Record) where
    pub same_fault : (kind : ℕ) (d : List ℕ) → (kind ≡ 0x12 → length d ≡ 1 → get_or d 0 0 < k) → fault_of (shifted_record k r) kind d ≡ fault_of r kind d
    unfolding fault_of shifted_record with_logs
    same_fault kind d old =
        by_both Same (eqb kind 0x00) (λ g. refl) (λ g. by_both Same (eqb kind 0x12) (λ g. old_fault r.logs d (old (eqb-true kind 0x12 g))) (λ g. refl))

    pub clears_fault : (i : ℕ) → fault_of (shifted_record k r) 0x12 (shifted k i ∷ []) ≡ fault_of r 0x12 (i ∷ [])
    unfolding fault_of shifted_record with_logs
    clears_fault i = clear_fault_lem i (shifted k i) r.logs (find_shifted k low i r.logs)

    -- beside a verdict: only 0x13 has one
    pub verdict_fault : (v : Verdict) (kind kind' : ℕ) (d d' : List ℕ) → (v ≡ Refuse InvalidData → fault_of (shifted_record k r) kind' d' ≡ fault_of r kind d)
        → fault_for (shifted_verdict k v) (shifted_record k r) kind' d' ≡ fault_for v r kind d
    unfolding fault_for fault_by shifted_verdict
    verdict_fault (Refuse InvalidData) kind kind' d d' h = h refl
    verdict_fault (Refuse InvalidCommand) kind kind' d d' h = refl
    verdict_fault (Refuse InvalidLength) kind kind' d d' h = refl
    verdict_fault (Refuse ChecksumFailure) kind kind' d d' h = refl
    verdict_fault (Refuse InternalError) kind kind' d d' h = refl
    verdict_fault (Refuse StateProhibits) kind kind' d d' h = refl
    verdict_fault Poll kind kind' d d' h = refl
    verdict_fault (Make ch) kind kind' d d' h = refl
