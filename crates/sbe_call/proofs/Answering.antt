-- What the steps of the call give back, from what they call. Assumes nothing.
use Prim.Native.Nat.{ℕ, ◌≤◌}
use mathlib.Core.Bool.{Bool, true, false, cond, not}
use mathlib.Core.Path.{◌≡◌, refl, sym, ap, ◌∙◌}
use mathlib.Core.List.{List, [], ◌∷◌}
use types.Run.{OneOf, miss}
use native.Mathlib.Omega.{arith}
use borrow.Author.Tests.{ltb-false, eqb-true, not-false}
use lib.Dec.{ltb, eqb}
use lib.ListN.{length}
use Rattle.wire.specs.Wire.{pasted}
use Rattle.wire.proofs.laws.Cases.{cond_cases, if_ne, else_ne}
use Rattle.change.specs.Change.{no_tables}
use Rattle.change.specs.declared.Change.{Change}
use Rattle.change.specs.declared.Edit.{Edit}
use Rattle.sbe.specs.Mailbox.{request_ruling, bell_of, response_bytes}
use Rattle.sbe.specs.declared.Ruling.{Ruling}
use Rattle.sbe.specs.declared.Ruling.TheVariants.{Decline, Grant, Done, Read}
use Rattle.session.specs.Session.{well_formed, carried_of}
use Rattle.session.specs.Road.{Asks, refuses, tells, makes, due, Said, kept, done, settled}
use Rattle.session.proofs.laws.Road.{made_full, made_done}
use Rattle.session.specs.declared.Session.{Session}
use Rattle.sbe_call.specs.Sbe.{refusal_of, sbe_refusal, judged_for, served_by, told_of, ruling_asks, sbe_ruling, by_profile, sbe_read, sbe_asks, sbe_call, ruled_left, sbe_on, data_for, sbe_data, data_on}
use Rattle.image.specs.declared.Head.{Head}
use Rattle.image.specs.Image.{image_of, session_in, session_of}
use Rattle.layout.specs.Layout.{image_length}
use Rattle.inplace.specs.declared.Told.{Told}
use Rattle.inplace.specs.InPlace.{Left, rung_left, HeadStands, Opens, Unopened, carried_in}
use Rattle.inplace.proofs.laws.InPlace.{Parts, parts, as_read, stands, on_read, carried_kept, carried_new}
use Rattle.inplace.proofs.laws.InPlace as inplace
use Rattle.sbe.specs.contracts.Ruling.{the_type}
use denote.Enum.Declared.{tag_of}
use Rattle.change.specs.declared.Tables.{Tables}

-- no refusal is due: the session is well formed and both buffers are long enough
none_due : (b c d : Bool) → cond {A = ℕ} (not b) 1 (cond c 3 (cond d 4 0)) ≡ 0 → (b ≡ true) × (c ≡ false) × (d ≡ false)
none_due true false false h = (refl, refl, refl)
none_due true false true h = let z : ⊥ = omega (arith, h) in absurd z
none_due true true d h = let z : ⊥ = omega (arith, h) in absurd z
none_due false c d h = let z : ⊥ = omega (arith, h) in absurd z

pub met : (s : Session) (f : Bool) (n request reply : ℕ) → f ≡ well_formed s → n ≡ refusal_of f request reply → n ≡ 0 → (well_formed s ≡ true) × (32 ≤ request) × (32 ≤ reply)
unfolding refusal_of
met s f n request reply e is none =
    let m = none_due f (ltb reply 32) (ltb request 32) (sym is ∙ none) in
    (sym e ∙ m.0, ltb-false request 32 m.2, ltb-false reply 32 m.1)

-- ---- what a ruling asks, by the number of its case

abbrev no_change : List ℕ
no_change = 0 ∷ 2 ∷ 3 ∷ []

abbrev no_read : List ℕ
no_read = 0 ∷ 1 ∷ 2 ∷ []

told : (r d : List ℕ) (v : Ruling) → OneOf no_change (tag_of the_type v) → tells (bell_of r) (told_of v r d) ≡ ruling_asks r d v
unfolding ruling_asks
told r d (Decline why) h = refl
told r d (Grant ch) h = absurd (miss no_change 1 tt h)
told r d Done h = refl
told r d (Read offset size) h = refl

-- ---- a request that is due an answer: h is the head that stands in the lent bytes b, v the ruling

module _ (h : Head) (b : List ℕ) (here : HeadStands h b) (r d : List ℕ) (v : Ruling) where
  abbrev s : Session
  s = session_in h b

  abbrev Hears : Told → List ℕ → List ℕ → Type 0
  Hears t y z = Parts t y z (ruled_left s r d v)

  module _ (bell : ℕ) (rings : bell ≡ bell_of r) where
    by_ruling : (q : Said) → q ≡ settled s d (ruling_asks r d v) → rung_left q ≡ ruled_left s r d v
    unfolding ruled_left
    by_ruling q e = ap rung_left e

    pub told_in : (t : Told) (z : List ℕ) → t ≡ record { answer = 0; small = 0; beside = bell } → OneOf no_change (tag_of the_type v) → z ≡ told_of v r d → Hears t b z
    unfolding rung_left settled done
    told_in t z p n q =
        let rung-as-asked = p ∙ (λ i. record { answer = 0; small = 0; beside = rings i }) in
        parts t b z _ ((λ i. record { told = rung-as-asked i; image = here.image i; reply = q i }) ∙ by_ruling _ (ap (settled s d) (told r d v n)))

    -- a change: y are the lent bytes after it
    module _ (ch : Change) (granted : v ≡ Grant ch) (tables : Tables) (none_beside : tables ≡ no_tables) (t : Told) (full : Bool) (y : List ℕ)
        (room : full ≡ (carried_of s (record { change = ch; tables = tables })).full) (left : y ≡ carried_in b (carried_of s (record { change = ch; tables = tables }))) where
      abbrev edit : Edit
      edit = record { change = ch; tables = tables }

      by_made : (q : Said) → q ≡ settled s d (makes edit (bell_of r) (pasted 0 (response_bytes 0x00 0x00 r) d)) → rung_left q ≡ ruled_left s r d v
      unfolding ruling_asks
      by_made q e =
          by_ruling q (e
          ∙ ap (λ (u : Tables). settled s d (makes (record { change = ch; tables = u }) (bell_of r) (pasted 0 (response_bytes 0x00 0x00 r) d))) none_beside
          ∙ sym (ap (λ (u : Ruling). settled s d (ruling_asks r d u)) granted))

      pub full_in : t ≡ record { answer = 5; small = 0; beside = 0 } → full ≡ true → Hears t y d
      unfolding rung_left kept
      full_in p g =
          parts t y d _ ((λ i. record { told = p i; image = carried_kept h b here edit full y room left g i; reply = d })
          ∙ by_made (kept 5 s d) (sym (made_full s d edit (bell_of r) _ (sym room ∙ g))))

      pub done_in : t ≡ record { answer = 0; small = 0; beside = bell } → full ≡ false → (z : List ℕ) → z ≡ pasted 0 (response_bytes 0x00 0x00 r) d → Hears t y z
      unfolding rung_left done
      done_in p g z q =
          let rung-as-asked = p ∙ (λ i. record { answer = 0; small = 0; beside = rings i }) in
          parts t y z _ ((λ i. record { told = rung-as-asked i; image = carried_new h b here edit full y room left g i; reply = q i })
          ∙ by_made (done (carried_of s edit).session (bell_of r) 0 (pasted 0 (response_bytes 0x00 0x00 r) d)) (sym (made_done s d edit (bell_of r) _ (sym room ∙ g))))

-- ---- the whole call: n is the refusal that is due to a well-formed session

abbrev pub All : Told → List ℕ → List ℕ → List ℕ → Left → List ℕ → Type 0
All t y z w q served = (t ≡ q.told) × ((y ≡ q.image) × ((z ≡ q.reply) × (w ≡ served)))

module _ (b : List ℕ) (h : Head) (o : Opens b h) (r d m x : List ℕ) (n : ℕ) (is : n ≡ refusal_of true (length r) (length d)) where
  -- no refusal is due
  pub met_in : n ≡ 0 → (32 ≤ length r) × (32 ≤ length d)
  met_in none = let q = met (session_in h b) true n (length r) (length d) (sym o.formed) is none in (q.1, q.2)

  refusal_is : n ≡ sbe_refusal (session_in h b) (length r) (length d)
  unfolding sbe_refusal
  refusal_is = is ∙ ap (λ (g : Bool). refusal_of g (length r) (length d)) (sym o.formed)

  by_refusal : rung_left (settled (session_in h b) d (due n (sbe_read (session_in h b).profile r d m x))) ≡ sbe_on b r d m x
  unfolding sbe_on sbe_call sbe_asks
  by_refusal =
      ap (λ (k : ℕ). rung_left (settled (session_in h b) d (due k (sbe_read (session_in h b).profile r d m x)))) refusal_is
      ∙ on_read (λ (s : Session). rung_left (sbe_call s r d m x)) d b o.long h o.read

  data_is : (w : List ℕ) → w ≡ data_for n r m x → w ≡ data_on b r d m x
  unfolding data_on sbe_data
  data_is w e =
      else_ne _ _ o.long (e ∙ ap (λ (k : ℕ). data_for k r m x) (refusal_is ∙ ap (λ (s : Session). sbe_refusal s (length r) (length d)) (as_read b o.long h o.read)))

  pub refused_in : (t : Told) → t ≡ record { answer = n; small = 0; beside = 0 } → (n ≡ 0 → ⊥) → All t b d x (sbe_on b r d m x) (data_on b r d m x)
  unfolding due settled rung_left kept data_for
  refused_in t p z =
      let k = parts t b d _ ((λ i. record { told = p i; image = o.stands.image i; reply = d })
      ∙ ap (λ (a : Asks). rung_left (settled (session_in h b) d a)) (if_ne (refuses n) (sbe_read (session_in h b).profile r d m x) z refl)
      ∙ by_refusal) in
      (k.0, (k.1.0, (k.1.1, data_is x (if_ne _ _ z refl))))

  pub heard_in : n ≡ 0 → (asked found v : Ruling) → asked ≡ request_ruling r → found ≡ judged_for (length m) (length x) asked → v ≡ by_profile h.profile found → (w : List ℕ) → w ≡ served_by asked m x
      → (t : Told) (y z : List ℕ) → Parts t y z (ruled_left (session_in h b) r d v) → All t y z w (sbe_on b r d m x) (data_on b r d m x)
  unfolding ruled_left due sbe_read sbe_ruling data_for session_in
  heard_in none asked found v a j o w sp t y z q =
      let ruled : v ≡ by_profile h.profile (sbe_ruling r m x) = o ∙ ap (by_profile h.profile) (j ∙ ap (judged_for (length m) (length x)) a) in
      let k = parts t y z _ ((λ i. record { told = q.0 i; image = q.1.0 i; reply = q.1.1 i })
      ∙ ap (λ (u : Ruling). rung_left (settled (session_in h b) d (ruling_asks r d u))) ruled
      ∙ ap (λ (a : Asks). rung_left (settled (session_in h b) d a)) (else_ne (refuses n) (sbe_read (session_in h b).profile r d m x) none refl)
      ∙ by_refusal) in
      (k.0, (k.1.0, (k.1.1, data_is w (else_ne _ _ none (sp ∙ ap (λ (u : Ruling). served_by u m x) a)))))

ill_refused : (r d m x : List ℕ) (s : Session) → well_formed s ≡ false → record { told = record { answer = 1; small = 0; beside = 0 }; image = image_of s; reply = d } ≡ rung_left (sbe_call s r d m x)
unfolding sbe_call sbe_asks sbe_refusal refusal_of due settled rung_left kept
ill_refused r d m x s ill = ap (λ (g : Bool). rung_left (settled s d (due (refusal_of g (length r) (length d)) (sbe_read s.profile r d m x)))) (sym ill)

ill_data : (r d m x : List ℕ) (s : Session) → well_formed s ≡ false → x ≡ sbe_data s r d m x
unfolding sbe_data data_for sbe_refusal refusal_of
ill_data r d m x s ill = ap (λ (g : Bool). data_for (refusal_of g (length r) (length d)) r m x) (sym ill)

-- bytes that don't open keep the second buffer too
pub unopened : (b : List ℕ) → Unopened b → (r d m x : List ℕ) (t : Told) → t ≡ record { answer = 1; small = 0; beside = 0 } → All t b d x (sbe_on b r d m x) (data_on b r d m x)
unfolding sbe_on data_on
unopened b shut r d m x t p =
    let k = inplace.unopened (λ (s : Session). rung_left (sbe_call s r d m x)) d (ill_refused r d m x) b shut t p in (k.0, (k.1.0, (k.1.1, kept_data)))
  where
    kept_data : x ≡ data_on b r d m x
    kept_data = cond_cases (λ (y : List ℕ). x ≡ y) (not (eqb (length b) image_length)) (λ e. refl) (λ e. ill_data r d m x (session_of b) (shut (eqb-true (length b) image_length (not-false _ e))).0)
