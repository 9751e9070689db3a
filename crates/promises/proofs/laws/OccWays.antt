-- The ways of the call `occ`, with the tests that led there, and the deed that each counts as. Assumes nothing.
use Rattle.std.proofs.Common.{ap}
use Rattle.std.specs.Prelude.{Ok, Err}
use Rattle.packet.specs.Packet.{Checked, status_number}
use Rattle.packet.proofs.laws.Exactly.{checked_cases}
use Rattle.packet.specs.declared.Status.{Status}
use Rattle.packet.specs.declared.Status.TheVariants.{InvalidCommand, InvalidLength, InvalidData, ChecksumFailure, InternalError, StateProhibits}
use Rattle.std.specs.Prelude.{ℕ, ◌≤◌, ◌<◌, true, false, not, ◌↔◌, ◌≡◌, refl, List, [], ltb, length, get_or}
use Rattle.std.proofs.Math.Bool.{true≢false}
use Rattle.std.proofs.Common.{sym, ◌∙◌, arith}
use Rattle.std.proofs.Math.Path.{subst}
use borrow.Author.Tests.{not-false, not-true, ltb-true, ltb-false}
use Rattle.wire.proofs.laws.Cases.{cond_elim, cond_cases, by_both}
use Rattle.wire.proofs.laws.Chains.{holds, eq_holds, or_else}
use Rattle.change.specs.Change.{no_tables}
use Rattle.change.specs.declared.Change.{Change}
use Rattle.change.specs.declared.Edit.{Edit}
use Rattle.packet.specs.Packet.{packet_status, data_of, no_log_id, replied}
use Rattle.packet.proofs.laws.Exactly.{number_in, status_summed, status_unsummed, status_overlong, by_row}
use Rattle.poll.specs.Poll.{poll_data}
use Rattle.occ.specs.Judge.{plainly, judge_of}
use Rattle.occ.specs.Open.{shut_status, open_in, shut, by_profile}
use Rattle.occ.specs.declared.Verdict.{Verdict}
use Rattle.occ.specs.declared.Verdict.TheVariants.{Refuse, Poll, Make}
use Rattle.occ.specs.declared.Judged.{Judged}
use Rattle.session.specs.Session.{well_formed, carried_of}
use Rattle.session.specs.Road.{Asks, due, Said, kept, done, carried_says, settled}
use Rattle.session.specs.declared.Session.{Session}
use Rattle.occ_call.specs.Occ.{known_sender, refusal_of, occ_refusal, told_of, verdict_asks, judged_asks, asked_for, asked_of, occ_read, occ_asks, occ_call}
use Rattle.promises.specs.Calls.{occ, asks}
use Rattle.promises.specs.History.{Deed, keeps, adds, adding, deed_by, deed}
use Rattle.promises.specs.Demand1.{OccDue}
use Rattle.promises.specs.Demand2.{KnownSender}

pub known_exactly : (sender : ℕ) → (known_sender sender ≡ true) ↔ KnownSender sender
unfolding known_sender
known_exactly sender = or_else holds {x = true} refl (eq_holds sender 0x10) (eq_holds sender 0x20)

-- k: the packet's own refusals stay, whatever the profile
shut_keeps : (x : Status) → (x ≡ InternalError → ⊥) → shut_status x ≡ x
unfolding shut_status
shut_keeps InvalidCommand z = refl
shut_keeps InvalidLength z = refl
shut_keeps InvalidData z = refl
shut_keeps ChecksumFailure z = refl
shut_keeps InternalError z = absurd (z refl)
shut_keeps StateProhibits z = refl

stays_refused : (profile kind : ℕ) (x : Status) → (x ≡ InternalError → ⊥) → by_profile profile kind (Refuse x) ≡ Refuse x
unfolding by_profile shut
stays_refused profile kind x z = cond_elim (λ (v : Verdict). v ≡ Refuse x) (open_in profile kind) refl (ap Refuse (shut_keeps x z))

never_15 : (c : List ℕ) (x : Status) → packet_status c ≡ Err x → x ≡ InternalError → ⊥
never_15 c x f z =
    let e : packet_status c ≡ Err InternalError = f ∙ ap Err z in
    by_row c (λ o. omega (arith, ap number_in (sym e ∙ status_overlong c o))) (λ g k. omega (arith, ap number_in (sym e ∙ status_summed c g k)))
    (λ g k. omega (arith, ap number_in (sym e ∙ status_unsummed c g k)))

module _ (s : Session) (sender : ℕ) (c d : List ℕ) where
  abbrev pub judged : Judged
  judged = judge_of s.held s.worked s.next sender (get_or c 1 0) (data_of c)

  -- by the profile (k)
  abbrev pub verdict : Verdict
  verdict = by_profile s.profile (get_or c 1 0) judged.verdict

  abbrev pub edit : Change → Edit
  edit ch = record { change = ch; tables = judged.tables }

  -- a command that is due an answer
  pub data Heard : Said → Deed → Type 0 where
    ill_read : (x : Status) → packet_status c ≡ Err x → Heard (done s 0 0 (replied (get_or c 0 0) (get_or c 1 0) (status_number x) no_log_id d)) keeps
    declined : packet_status c ≡ Ok tt → (x : Status) → verdict ≡ Refuse x → Heard (done s 0 0 (replied (get_or c 0 0) (get_or c 1 0) (status_number x) no_log_id d)) keeps
    polled : packet_status c ≡ Ok tt → verdict ≡ Poll → Heard (done s 0 0 (replied (get_or c 0 0) 0x00 0x00 (poll_data s.held s.worked) d)) keeps
    no_room_lem : packet_status c ≡ Ok tt → (ch : Change) → verdict ≡ Make ch → (carried_of s (edit ch)).full ≡ true → Heard (kept 5 s d) keeps
    carried : packet_status c ≡ Ok tt → (ch : Change) → verdict ≡ Make ch → (carried_of s (edit ch)).full ≡ false
        → Heard (done (carried_of s (edit ch)).session 0 0 (replied (get_or c 0 0) (get_or c 1 0) 0x00 [] d)) (adds (edit ch))

  abbrev Settles : Asks → Type 0
  Settles a = Heard (settled s d a) (deed_by s a)

  heard_verdict : packet_status c ≡ Ok tt → (v : Verdict) → verdict ≡ v → Settles (verdict_asks s.held s.worked (get_or c 0 0) (get_or c 1 0) d judged.tables v)
  unfolding settled deed_by verdict_asks told_of carried_says adding
  heard_verdict z (Refuse status) e = declined z status e
  heard_verdict z Poll e = polled z e
  heard_verdict z (Make ch) e = by_both Heard (carried_of s (edit ch)).full (no_room_lem z ch e) (carried z ch e)

  abbrev read : Asks
  read = occ_read s sender c d

  heard : Settles read
  unfolding occ_read asked_of asked_for judged_asks verdict_asks told_of plainly settled deed_by
  heard =
      checked_cases (λ (v : Checked). Settles (judged_asks s.profile s.held s.worked (get_or c 0 0) (get_or c 1 0) d (asked_for v s.held s.worked s.next sender c))) (packet_status c)
      (λ x f.
      subst (λ (v : Verdict). Settles (verdict_asks s.held s.worked (get_or c 0 0) (get_or c 1 0) d no_tables v))
      (sym (stays_refused s.profile (get_or c 1 0) x (never_15 c x f))) (ill_read x f))
      (λ f. heard_verdict f verdict refl)

  -- any call
  pub data Called : Said → Deed → Type 0 where
    ill_formed : (well_formed s ≡ true → ⊥) → Called (kept 1 s d) keeps
    unknown : well_formed s ≡ true → (KnownSender sender → ⊥) → Called (kept 2 s d) keeps
    short_reply : well_formed s ≡ true → KnownSender sender → length d < 4096 → Called (kept 3 s d) keeps
    short_command : well_formed s ≡ true → KnownSender sender → 4096 ≤ length d → length c < 4 → Called (kept 4 s d) keeps
    answered : OccDue s sender c d → (q : Said) (e : Deed) → Heard q e → Called q e

  -- what a refusal, if one is due, makes of it
  abbrev Refused : ℕ → Type 0
  Refused n = Called (settled s d (due n read)) (deed_by s (due n read))

  pub called : Called (occ_call s sender c d) (deed s (occ sender c d))
  unfolding occ_call occ_asks due occ_refusal refusal_of deed asks settled deed_by
  called =
      cond_cases Refused (not (well_formed s)) (λ f. ill_formed (λ w. true≢false (sym w ∙ not-true _ f)))
      (λ f. let w = not-false _ f in
      cond_cases Refused (not (known_sender sender)) (λ g. unknown w (λ k. true≢false (sym ((known_exactly sender).1 k) ∙ not-true _ g)))
      (λ g. let k = (known_exactly sender).0 (not-false _ g) in
      cond_cases Refused (ltb (length d) 4096) (λ h. short_reply w k (ltb-true _ _ h))
      (λ h. cond_cases Refused (ltb (length c) 4) (λ l. short_command w k (ltb-false _ _ h) (ltb-true _ _ l))
      (λ l. answered (record { formed = w; known = k; reply = ltb-false _ _ h; command = ltb-false _ _ l }) _ _ heard))))
