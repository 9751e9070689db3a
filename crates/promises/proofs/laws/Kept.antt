-- Calls that count as nothing leave the session as it is. Assumes nothing.
use Rattle.std.specs.Prelude.{ℕ, List, [], ◌∷◌, ◌≡◌}
use Rattle.std.proofs.Math.Path.{refl}
use Rattle.std.proofs.Common.{ap, ◌∙◌}
use Rattle.wire.proofs.laws.Cases.{by_both}
use Rattle.journal.specs.Ways.{by_way}
use Rattle.journal.specs.declared.Way.TheVariants.{Before, After}
use Rattle.session.specs.Session.{carried_of}
use Rattle.session.specs.Road.{Asks, refuses, tells, makes, moves, forgets, passes, opens, Said, kept, done, carried_says, settled}
use Rattle.session.specs.declared.Session.{Session}
use Rattle.promises.specs.Calls.{Call, buffer_of, asks, said}
use Rattle.promises.specs.History.{Deed, keeps, adding, deed_by, deed}
use Rattle.promises.specs.NoTrace.{handed_on, AllKeep}
use Rattle.promises.proofs.laws.Effects.{added_not, struck_not, unstruck_not, dropped_not, ticked_not}
use Rattle.promises.proofs.laws.Profiles.{NoOpening, no_opening}

module _ (s : Session) where
  abbrev Stays : Said → Deed → Type 0
  Stays q d = d ≡ keeps → q.session ≡ s

  asked_stays : (d : List ℕ) (a : Asks) → NoOpening a → Stays (settled s d a) (deed_by s a)
  unfolding settled carried_says kept done deed_by adding by_way
  asked_stays d (refuses n) h = λ e. refl
  asked_stays d (tells bell y) h = λ e. refl
  asked_stays d (makes e bell y) h = by_both Stays (carried_of s e).full (λ f p. refl) (λ f p. absurd (added_not e p))
  asked_stays d (moves Before at e) h = λ p. absurd (struck_not p)
  asked_stays d (moves After at e) h = λ p. absurd (unstruck_not p)
  asked_stays d (forgets n) h = λ p. absurd (dropped_not n p)
  asked_stays d (passes n) h = λ p. absurd (ticked_not n p)
  asked_stays d opens h = absurd h

  pub kept_session : (c : Call) → deed s c ≡ keeps → (said s c).session ≡ s
  unfolding said deed
  kept_session c = asked_stays (buffer_of c) (asks s c) (no_opening s c)

pub handed_same : (s : Session) (ks : List Call) → AllKeep s ks → handed_on s ks ≡ s
handed_same s [] h = refl
handed_same s (k ∷ ks) h = ap (λ (t : Session). handed_on t ks) (kept_session s k h.0) ∙ handed_same s ks h.1
