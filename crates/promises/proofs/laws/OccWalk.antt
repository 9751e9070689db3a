-- What holds of all that an OCC exchange may ask: of a refusal, of the packet's own statuses, and of the final verdict on a well-formed session. Assumes nothing.
use Rattle.packet.specs.Packet.{Checked}
use Rattle.packet.proofs.laws.Exactly.{checked_cases}
use Rattle.packet.specs.declared.Status.{Status}
use Rattle.std.specs.Prelude.{ℕ, true, ◌≡◌, refl, List, length, get_or}
use Rattle.wire.proofs.laws.Cases.{cond_elim}
use Rattle.change.specs.Change.{no_tables}
use Rattle.change.specs.declared.Tables.{Tables}
use Rattle.packet.specs.Packet.{packet_status, data_of}
use Rattle.occ.specs.Judge.{plainly, judge_of}
use Rattle.occ.specs.Open.{shut_status, open_in, shut, by_profile}
use Rattle.occ.specs.declared.Judged.{Judged}
use Rattle.occ.specs.declared.Verdict.{Verdict}
use Rattle.occ.specs.declared.Verdict.TheVariants.{Refuse}
use Rattle.session.specs.Session.{well_formed}
use Rattle.session.specs.Road.{Asks, refuses}
use Rattle.session.proofs.laws.Road.{due_cases}
use Rattle.session.proofs.laws.Session.{none_due}
use Rattle.session.specs.declared.Session.{Session}
use Rattle.occ_call.specs.Occ.{refusal_of, occ_refusal, verdict_asks, judged_asks, asked_for, asked_of, occ_read, occ_asks}

module _ (s : Session) (sender : ℕ) (c d : List ℕ) where
  abbrev pub judged : Judged
  judged = judge_of s.held s.worked s.next sender (get_or c 1 0) (data_of c)

  -- what the profile lets through
  abbrev pub final : Verdict → Verdict
  final v = by_profile s.profile (get_or c 1 0) v

  abbrev pub asked_by : Tables → Verdict → Asks
  asked_by t v = verdict_asks s.held s.worked (get_or c 0 0) (get_or c 1 0) d t v

  module _ (P : Asks → Type 0) (refused : (n : ℕ) → P (refuses n)) (told : (status : Status) (t : Tables) → P (asked_by t (Refuse status)))
      (heard : well_formed s ≡ true → (v : Verdict) → final judged.verdict ≡ v → P (asked_by judged.tables v)) where
    -- a status that the profile leaves, or makes 0x16
    status_asks : (status : Status) (t : Tables) → P (asked_by t (final (Refuse status)))
    unfolding by_profile shut
    status_asks status t =
        let Asked : Verdict → Type 0 = λ (v : Verdict). P (asked_by t v) in
        cond_elim Asked (open_in s.profile (get_or c 1 0)) (told status t) (told (shut_status status) t)

    pub occ_walk : P (occ_asks s sender c d)
    unfolding occ_asks occ_refusal refusal_of occ_read asked_of asked_for judged_asks plainly
    occ_walk =
        due_cases P (occ_refusal s sender (length c) (length d)) (λ n. refused _)
        (λ z. checked_cases (λ (v : Checked). P (judged_asks s.profile s.held s.worked (get_or c 0 0) (get_or c 1 0) d (asked_for v s.held s.worked s.next sender c))) (packet_status c)
        (λ x f. status_asks x no_tables) (λ f. heard (none_due (well_formed s) _ z) _ refl))
