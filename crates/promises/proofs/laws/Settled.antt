-- What comes of a call on two sessions that have the same room for a change: the same is said where the same is asked. Assumes nothing.
use Rattle.std.specs.Prelude.{ℕ, ◌+◌, ◌-◌, Bool, true, false, ◌≡◌, List, ltb, length, Some, None}
use Rattle.std.proofs.Math.Bool.{cond}
use Rattle.std.proofs.Math.Path.{refl, ap}
use Rattle.std.proofs.Common.{◌∙◌}
use Rattle.wire.proofs.laws.Cases.{by_same}
use Rattle.change.specs.Change.{kind_of, back_of, inverse_of, timed, takes_back}
use Rattle.change.specs.declared.Edit.{Edit}
use Rattle.entries.specs.Entries.{body_len}
use Rattle.journal.specs.Add.{entry_len, end_of}
use Rattle.session.specs.Session.{carried_to, carried_of}
use Rattle.session.specs.Road.{Asks, refuses, tells, makes, moves, forgets, passes, opens, timer_bell, Said, kept, done, carried_says, settled}
use Rattle.session.specs.declared.Session.{Session}
use Rattle.change.proofs.laws.Timed.{kind_of_back, timed_kind}
use Rattle.promises.specs.History.{keeps, adds, adding, deed_by}
use Rattle.promises.specs.NoTrace.{SameSaid}

-- ---- answer 5 looks at the journal's room and at the change's kind

unfoldable pub no_room : ℕ → ℕ → ℕ → Bool
no_room n used kind = cond (ltb n used) true (cond (ltb (n - used) (body_len kind + 1)) true false)

full_by_end : (s : Session) (e b : Edit) (n used : ℕ) → (carried_to s e (end_of n used b)).full ≡ no_room n used (kind_of b.change)
unfolding end_of carried_to no_room
full_by_end s e b n used = go (ltb n used) (ltb (n - used) (entry_len b))
  where
    go : (x y : Bool) → (carried_to s e (cond x None (cond y None (Some (used + entry_len b))))).full ≡ cond x true (cond y true false)
    go true y = refl
    go false true = refl
    go false false = refl

pub full_by_kind : (s : Session) (e : Edit) → (carried_of s e).full ≡ no_room (length s.journal) s.used (kind_of e.change)
unfolding carried_of inverse_of timed takes_back
full_by_kind s e =
    full_by_end s e (takes_back s.held s.timer e) (length s.journal) s.used
    ∙ ap (no_room (length s.journal) s.used) (timed_kind s.timer (back_of s.held e.change) ∙ kind_of_back s.held e.change)

-- ---- the same asked of both

module _ (s t : Session) (full_is : (e : Edit) → (carried_of t e).full ≡ (carried_of s e).full) (timer_is : t.timer ≡ s.timer) (d : List ℕ) where
  alike : {x y : Said} → y.answer ≡ x.answer → y.bell ≡ x.bell → y.kind ≡ x.kind → y.reply ≡ x.reply → SameSaid x y
  alike a b k r = record { answer = a; bell = b; kind = k; reply = r }

  pub same_settled : (a : Asks) → SameSaid (settled s d a) (settled t d a) × (deed_by t a ≡ deed_by s a)
  unfolding settled carried_says kept done deed_by adding
  same_settled (refuses n) = (alike refl refl refl refl, refl)
  same_settled (tells bell y) = (alike refl refl refl refl, refl)
  same_settled (makes e bell y) = (
    by_same SameSaid (carried_of s e).full (carried_of t e).full (full_is e) (λ f. alike refl refl refl refl) (λ f. alike refl refl refl refl),
    ap (λ (b : Bool). cond b keeps (adds e)) (full_is e),
  )
  same_settled (moves w at e) = (alike refl refl refl refl, refl)
  same_settled (forgets n) = (alike refl refl refl refl, refl)
  same_settled (passes n) = (alike refl (ap (timer_bell n) timer_is) refl refl, refl)
  same_settled opens = (alike refl refl refl refl, refl)
