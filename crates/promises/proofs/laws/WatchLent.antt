-- The call `watch` on lent bytes. Assumes nothing.
use Rattle.std.specs.Prelude.{ℕ, Bool, true, false, not, ◌≡◌, refl, List, [], eqb, length}
use Rattle.std.proofs.Common.{sym, ap, ◌∙◌, eqb-true}
use Rattle.std.proofs.lemmas.Bool.{eqb-false}
use Rattle.wire.specs.Wire.{Bytes}
use Rattle.wire.proofs.laws.Cases.{cond_elim, if_ne, else_ne}
use Rattle.session.specs.Session.{well_formed}
use Rattle.session.specs.Road.{Asks, kept, done, settled}
use Rattle.session.proofs.laws.Road.{refusal_keeps}
use Rattle.session.specs.declared.Session.{Session}
use Rattle.image.specs.Image.{image_of, session_of}
use Rattle.image.proofs.laws.Image.{image_session}
use Rattle.layout.specs.Layout.{image_length}
use Rattle.inplace.specs.InPlace.{Left, rung_left, no_image, on_image}
use Rattle.watch_call.specs.Watch.{watch_asks, watch_call, watch_on}
use Rattle.promises.specs.Lent.{watched_on}

-- nothing is rung, and no reply buffer is lent
module _ (s : Session) where
  abbrev Quiet : Asks → Type 0
  Quiet a = ((settled s [] a).bell ≡ 0) × ((settled s [] a).reply ≡ [])

  quiet : Quiet (watch_asks s)
  unfolding watch_asks settled kept done
  quiet = cond_elim Quiet (not (well_formed s)) (refl, refl) (refl, refl)

  left_quiet : rung_left (watch_call s) ≡ watched_on s
  unfolding rung_left watch_call
  left_quiet = λ i. record { told = record { answer = (watch_call s).answer; small = 0; beside = quiet.0 i }; image = image_of (watch_call s).session; reply = quiet.1 i }

pub watch_lent : (b : List ℕ) → length b ≡ image_length → watch_on b ≡ watched_on (session_of b)
unfolding watch_on on_image
watch_lent b long = sym (else_ne _ _ long refl) ∙ left_quiet (session_of b)

pub watch_no_image : (b : List ℕ) → (length b ≡ image_length → ⊥) → watch_on b ≡ no_image b []
unfolding watch_on on_image
watch_no_image b z = sym (if_ne _ _ z refl)

pub watch_refused : (s : Session) → ((watch_call s).answer ≡ 0 → ⊥) → ((watch_call s).session ≡ s) × ((watch_call s).bell ≡ 0) × ((watch_call s).kind ≡ 0)
unfolding watch_call
watch_refused s h = let k = refusal_keeps s [] (watch_asks s) h in (k.0, k.2, k.3)

-- a refusal keeps every byte
pub watch_keeps_bytes : (b : List ℕ) → Bytes b → ((watch_on b).told.answer ≡ 0 → ⊥) → (watch_on b).image ≡ b
watch_keeps_bytes b bytes h = go (eqb (length b) image_length) refl
  where
    go : (x : Bool) → eqb (length b) image_length ≡ x → (watch_on b).image ≡ b
    go true t =
        let long = eqb-true (length b) image_length t in
        let is = watch_lent b long in
        ap (λ (l : Left). l.image) is
        ∙ ap image_of (watch_refused (session_of b) (λ z. h (ap (λ (l : Left). l.told.answer) is ∙ z))).0
        ∙ image_session b bytes long
    go false t = ap (λ (l : Left). l.image) (watch_no_image b (eqb-false (length b) image_length t))
