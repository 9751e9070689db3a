-- What is known of what a call asks of a well-formed session: a change is one that can be undone, an entry is its store's newest and can be put in.
-- Assumes nothing.
use Rattle.std.specs.Prelude.{ℕ, Bool, true, false, not, ◌⊎◌, ◌≡◌, refl, Ok, Err, List, eqb, ltb, length, get_or}
use Rattle.std.proofs.Math.Logic.{inl}
use Rattle.std.proofs.Common.{inr, eqb-true}
use Rattle.std.proofs.lemmas.Bool.{eqb-false}
use Rattle.wire.specs.Wire.{Bytes}
use Rattle.wire.proofs.laws.Cases.{cond_elim, cond_cases}
use Rattle.change.specs.Change.{kind_of}
use Rattle.change.specs.declared.Change.{Change}
use Rattle.packet.specs.Packet.{data_of}
use Rattle.formed.specs.Formed.{record_ok}
use Rattle.entries.specs.Entries.{written}
use Rattle.journal.specs.declared.Way.{Way}
use Rattle.occ.proofs.laws.Open.{made_open, open_clears}
use Rattle.occ.specs.declared.Judged.{Judged}
use Rattle.occ.specs.declared.Verdict.{Verdict}
use Rattle.occ.specs.declared.Verdict.TheVariants.{Refuse, Poll, Make}
use Rattle.sbe.specs.Mailbox.{Tested, request_ruling}
use Rattle.sbe.specs.declared.Ruling.{Ruling}
use Rattle.sbe.specs.declared.Ruling.TheVariants.{Decline, Grant, Done, Read}
use Rattle.session.specs.Road.{Asks, refuses, tells, makes, moves, forgets, passes, opens}
use Rattle.session.proofs.laws.Road.{due_cases}
use Rattle.session.specs.Session.{well_formed}
use Rattle.session.specs.Road.{held_in}
use Rattle.session.specs.declared.Session.{Session}
use Rattle.forget_call.specs.Forget.{oldest_asks, forget_asks}
use Rattle.occ_call.specs.Occ.{verdict_asks, occ_asks}
use Rattle.sbe_call.specs.Sbe as sbes
use Rattle.sbe_call.specs.Sbe.{sbe_refusal, read_status, read_at, judged_for, denied, ruling_asks, sbe_ruling, sbe_read, sbe_asks}
use Rattle.undo_call.specs.Undo.{move_asks}
use Rattle.time_call.specs.Time.{time_asks}
use Rattle.links.specs.Typed.{TypedRecord}
use Rattle.links.proofs.laws.Made.{Made}
use Rattle.promises.specs.Demand2.{Newest, Movable}
use Rattle.promises.proofs.laws.Asked.{data_bytes, occ_made, sbe_made}
use Rattle.promises.proofs.laws.OccWalk.{judged, final, asked_by, occ_walk}
use Rattle.promises.proofs.laws.UndoDemands.{Called, ill_formed, empty, barred, goes, called}

-- document 02, k: a full session, or a clear
abbrev pub Lets : ℕ → Change → Type 0
Lets profile ch = (profile ≡ 0) ⊎ (kind_of ch ≡ 0x01)

module _ (s : Session) where
  abbrev pub Sound : Asks → Type 0
  Sound (refuses n) = Unit {0}
  Sound (tells bell y) = Unit {0}
  Sound (makes e bell y) = Made s.held s.next e.tables e.change × Lets s.profile e.change
  Sound (forgets n) = Unit {0}
  Sound (passes n) = Unit {0}
  Sound opens = Unit {0}
  Sound (moves w at e) = (n : Newest w s e) × (at ≡ length (written n.older)) × Movable s e

  module _ (ok : record_ok s.held s.next ≡ true) (typed : TypedRecord s.held) (sender : ℕ) (c d : List ℕ) (bytes : Bytes c) where
    abbrev j : Judged
    j = judged s sender c d

    made_lets : (ch : Change) → final s sender c d j.verdict ≡ Make ch → Lets s.profile ch
    made_lets ch e = go (eqb s.profile 0) refl
      where
        go : (b : Bool) → eqb s.profile 0 ≡ b → Lets s.profile ch
        go true t = inl (eqb-true s.profile 0 t)
        go false t = inr (open_clears s.held s.worked s.next sender (data_of c) s.profile (get_or c 1 0) ch (eqb-false s.profile 0 t) e)

    verdict_sound : (v : Verdict) → final s sender c d j.verdict ≡ v → Sound (asked_by s sender c d j.tables v)
    unfolding verdict_asks
    verdict_sound (Refuse status) e = tt
    verdict_sound Poll e = tt
    verdict_sound (Make ch) e = (
      occ_made s.held s.worked s.next sender (get_or c 1 0) (data_of c) (data_bytes c bytes) ok typed ch (made_open s.profile (get_or c 1 0) j.verdict ch e).1,
      made_lets ch e,
    )

    pub occ_sound : Sound (occ_asks s sender c d)
    unfolding verdict_asks
    occ_sound = occ_walk s sender c d Sound (λ n. tt) (λ status t. tt) (λ w. verdict_sound)

  module _ (r d : List ℕ) (bytes : Bytes r) where
    abbrev Ruled : Ruling → Type 0
    Ruled v = Sound (ruling_asks r d v)

    ruling_sound : (image room : ℕ) (v : Ruling) → request_ruling r ≡ v → Ruled (sbes.by_profile s.profile (judged_for image room v))
    unfolding ruling_asks judged_for read_at sbes.by_profile denied
    ruling_sound image room (Decline why) e = cond_elim Ruled (eqb s.profile 0) tt tt
    ruling_sound image room (Grant ch) e = cond_cases Ruled (eqb s.profile 0) (λ t. (sbe_made s.held s.next r bytes ch e, inl (eqb-true s.profile 0 t))) (λ t. tt)
    ruling_sound image room Done e = cond_elim Ruled (eqb s.profile 0) tt tt
    ruling_sound image room (Read offset size) e =
        read_sound (read_status image room offset size)
      where
        read_sound : (status : Tested) → Ruled (sbes.by_profile s.profile (read_at status))
        read_sound (Err why) = cond_elim Ruled (eqb s.profile 0) tt tt
        read_sound (Ok x) = cond_elim Ruled (eqb s.profile 0) tt tt

    pub sbe_sound : (m x : List ℕ) → Sound (sbe_asks s r d m x)
    unfolding sbe_asks sbe_read sbe_ruling
    sbe_sound m x = due_cases Sound (sbe_refusal s (length r) (length d)) (λ n. tt) (λ z. ruling_sound (length m) (length x) (request_ruling r) refl)

  pub time_sound : (n : ℕ) → Sound (time_asks n s)
  unfolding time_asks
  time_sound n = cond_cases Sound (not (well_formed s)) (λ f. tt) (λ f. tt)

  pub forget_sound : (n : ℕ) → Sound (forget_asks n s)
  unfolding forget_asks oldest_asks
  forget_sound n = cond_cases Sound (not (well_formed s)) (λ f. tt) (λ f. cond_cases Sound (ltb (held_in s) n) (λ t. tt) (λ t. tt))

  module _ (w : Way) where
    called_sound : (a : Asks) → Called w s a → Sound a
    called_sound a (ill_formed h) = tt
    called_sound a (empty x z) = tt
    called_sound a (barred x e n bar) = tt
    called_sound a (goes x e n u) = (n, refl, u)

    pub move_sound : Sound (move_asks w s)
    move_sound = called_sound (move_asks w s) (called w s)
