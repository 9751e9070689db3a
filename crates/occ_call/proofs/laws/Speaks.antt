-- What the call `occ` asks: a refusal, a reply, or a change with the reply of success; no doorbell. Assumes nothing.
use Rattle.std.specs.Prelude.{ℕ, length, get_or}
use mathlib.Core.List.{List, []}
use Rattle.std.proofs.Math.Path.{refl}
use Rattle.change.specs.declared.Tables.{Tables}
use Rattle.packet.specs.Packet.{replied}
use Rattle.occ.specs.Open.{by_profile}
use Rattle.occ.specs.declared.Judged.{Judged}
use Rattle.occ.specs.declared.Verdict.{Verdict}
use Rattle.occ.specs.declared.Verdict.TheVariants.{Refuse, Poll, Make}
use Rattle.session.proofs.laws.Road.{due_cases, Speaks}
use Rattle.session.specs.declared.Session.{Session}
use Rattle.occ_call.specs.Occ.{occ_refusal, verdict_asks, judged_asks, asked_of, occ_read, occ_asks}

module _ (s : Session) (sender : ℕ) (c d : List ℕ) where
  abbrev Spoken : Judged → Type 0
  Spoken j = Speaks s d 0 (replied (get_or c 0 0) (get_or c 1 0) 0x00 [] d) (verdict_asks s.held s.worked (get_or c 0 0) (get_or c 1 0) d j.tables j.verdict)

  spoken : (t : Tables) (v : Verdict) → Spoken (record { verdict = v; tables = t })
  unfolding verdict_asks
  spoken t (Refuse status) = refl
  spoken t Poll = refl
  spoken t (Make change) = (refl, refl)

  pub occ_speaks : Speaks s d 0 (replied (get_or c 0 0) (get_or c 1 0) 0x00 [] d) (occ_asks s sender c d)
  unfolding occ_asks occ_read judged_asks
  occ_speaks =
      let j = asked_of s.held s.worked s.next sender c in
      due_cases (Speaks s d 0 (replied (get_or c 0 0) (get_or c 1 0) 0x00 [] d)) (occ_refusal s sender (length c) (length d)) (λ n. n) (λ z. spoken j.tables (by_profile s.profile (get_or c 1 0) j.verdict))
