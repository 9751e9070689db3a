-- What the call `sbe` asks: a refusal, a response, or a change with the response of success; the doorbell is the one asked for. Assumes nothing.
use Rattle.std.specs.Prelude.{ℕ, List, length}
use Rattle.std.proofs.Math.Path.{refl}
use Rattle.wire.specs.Wire.{pasted}
use Rattle.sbe.specs.Mailbox.{bell_of, response_bytes}
use Rattle.sbe.specs.declared.Ruling.{Ruling}
use Rattle.sbe.specs.declared.Ruling.TheVariants.{Decline, Grant, Done, Read}
use Rattle.session.proofs.laws.Road.{due_cases, Speaks}
use Rattle.session.specs.declared.Session.{Session}
use Rattle.sbe_call.specs.Sbe.{sbe_refusal, ruling_asks, sbe_ruling, by_profile, sbe_read, sbe_asks}

module _ (s : Session) (r d : List ℕ) where
  spoken : (v : Ruling) → Speaks s d (bell_of r) (pasted 0 (response_bytes 0x00 0x00 r) d) (ruling_asks r d v)
  unfolding ruling_asks
  spoken (Decline why) = refl
  spoken (Grant change) = (refl, refl)
  spoken Done = refl
  spoken (Read offset size) = refl

  pub sbe_speaks : (m x : List ℕ) → Speaks s d (bell_of r) (pasted 0 (response_bytes 0x00 0x00 r) d) (sbe_asks s r d m x)
  unfolding sbe_asks sbe_read
  sbe_speaks m x = due_cases (Speaks s d (bell_of r) (pasted 0 (response_bytes 0x00 0x00 r) d)) (sbe_refusal s (length r) (length d)) (λ n. n) (λ z. spoken (by_profile s.profile (sbe_ruling r m x)))
