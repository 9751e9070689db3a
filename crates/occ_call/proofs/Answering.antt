-- What the steps of the call give back, from what they call. Assumes nothing.
use Rattle.places.specs.declared.Fault.{Fault}
use Prim.Native.Nat.{ℕ, ◌≤◌}
use mathlib.Core.Bool.{Bool, true, false, cond, not}
use mathlib.Core.Path.{◌≡◌, refl, sym, ap, ◌∙◌}
use mathlib.Core.List.{List, []}
use native.Mathlib.Omega.{arith}
use borrow.Author.Tests.{ltb-false}
use lib.Dec.{ltb}
use lib.ListN.{length, get_or}
use Rattle.wire.proofs.laws.Cases.{said_of, if_ne, else_ne}
use Rattle.change.specs.declared.Change.{Change}
use Rattle.change.specs.declared.Edit.{Edit}
use Rattle.packet.specs.Packet.{data_of, replied}
use Rattle.occ.specs.contracts.Verdict.{the_type}
use denote.Enum.Declared.{tag_of}
use Rattle.record.specs.declared.Record.{Record}
use Rattle.record.specs.declared.Worked.{Worked}
use Rattle.change.specs.declared.Tables.{Tables}
use Rattle.occ.specs.Open.{by_profile}
use Rattle.occ.specs.declared.Verdict.{Verdict}
use Rattle.occ.specs.declared.Verdict.TheVariants.{Refuse, Poll, Make}
use Rattle.occ.specs.declared.Judged.{Judged}
use Rattle.std.specs.Prelude.{Option, None}
use Rattle.session.specs.Session.{well_formed, carried_of}
use Rattle.session.specs.Road.{Asks, refuses, tells, makes, due, Said, kept, done, settled}
use Rattle.session.proofs.laws.Road.{made_full, made_done}
use Rattle.session.specs.declared.Session.{Session}
use Rattle.occ_call.specs.Occ.{known_sender, refusal_of, occ_refusal, told_of, verdict_asks, judged_asks, asked_of, occ_read, occ_asks, occ_call, fault_for, why_read, why_from, occ_why, beside_of, occ_left, occ_read_left, occ_on}
use Rattle.image.specs.declared.Head.{Head}
use Rattle.image.specs.Image.{image_of, session_in}
use Rattle.inplace.specs.declared.Told.{Told}
use Rattle.inplace.specs.InPlace.{HeadStands, Opens, Unopened, carried_in}
use Rattle.inplace.proofs.laws.InPlace.{Parts, parts, stands, on_read, carried_kept, carried_new}
use Rattle.inplace.proofs.laws.InPlace as inplace

-- no refusal is due: the session is well formed, the sender known and both buffers are long enough
none_due : (a b c d : Bool) → cond {A = ℕ} (not a) 1 (cond (not b) 2 (cond c 3 (cond d 4 0))) ≡ 0 → (a ≡ true) × (c ≡ false) × (d ≡ false)
none_due true true false false h = (refl, refl, refl)
none_due true true false true h = let z : ⊥ = omega (arith, h) in absurd z
none_due true true true d h = let z : ⊥ = omega (arith, h) in absurd z
none_due true false c d h = let z : ⊥ = omega (arith, h) in absurd z
none_due false b c d h = let z : ⊥ = omega (arith, h) in absurd z

pub met : (s : Session) (f : Bool) (n sender command reply : ℕ) → f ≡ well_formed s → n ≡ refusal_of f sender command reply → n ≡ 0 → (well_formed s ≡ true) × (4 ≤ command)
unfolding refusal_of
met s f n sender command reply e is none =
    let m = none_due f (known_sender sender) (ltb reply 4096) (ltb command 4) (sym is ∙ none) in
    (sym e ∙ m.0, ltb-false command 4 m.2)

-- ---- what a verdict asks

told : (held : Record) (worked : Worked) (seq kind : ℕ) (d : List ℕ) (t : Tables) (v : Verdict) → (tag_of the_type v ≡ 2 → ⊥)
    → tells 0 (told_of v held worked seq kind d) ≡ verdict_asks held worked seq kind d t v
unfolding verdict_asks
told held worked seq kind d t (Refuse status) h = refl
told held worked seq kind d t Poll h = refl
told held worked seq kind d t (Make ch) h = absurd (h refl)

pub replies : (held : Record) (worked : Worked) (seq kind : ℕ) (d : List ℕ) {v w : Verdict} {y : List ℕ} → v ≡ w → y ≡ told_of w held worked seq kind d → y ≡ told_of v held worked seq kind d
replies held worked seq kind d = said_of (λ (u : Verdict). told_of u held worked seq kind d)

-- what doesn't refuse has no fault beside it
pub faultless : (v : Verdict) (held : Record) (kind : ℕ) (d : List ℕ) → (tag_of the_type v ≡ 0 → ⊥) → None ≡ fault_for v held kind d
unfolding fault_for
faultless (Refuse status) held kind d h = absurd (h refl)
faultless Poll held kind d h = refl
faultless (Make ch) held kind d h = refl

-- ---- a command that is due an answer: h is the head that stands in the lent bytes b

module _ (h : Head) (b : List ℕ) (here : HeadStands h b) (sender : ℕ) (c d : List ℕ) where
  abbrev s : Session
  s = session_in h b

  abbrev Hears : Told → List ℕ → List ℕ → Type 0
  Hears t y z = Parts t y z (occ_read_left s sender c d)

  abbrev fault_beside : Verdict → Option Fault
  fault_beside v = fault_for v h.held (get_or c 1 0) (data_of c)

  module _ (j : Judged) (asked : j ≡ asked_of h.held h.worked h.next sender c) (v : Verdict) (shown : v ≡ by_profile h.profile (get_or c 1 0) j.verdict) where
    abbrev asks : Asks
    asks = verdict_asks h.held h.worked (get_or c 0 0) (get_or c 1 0) d j.tables v

    by_verdict : (q : Said) (f : Option Fault) → q ≡ settled s d asks → f ≡ fault_beside v → occ_left q f ≡ occ_read_left s sender c d
    unfolding occ_read_left occ_read why_read judged_asks session_in
    by_verdict q f e g = λ i.
        occ_left
        ((e ∙ ap (λ (u : Verdict). settled s d (verdict_asks h.held h.worked (get_or c 0 0) (get_or c 1 0) d j.tables u)) shown
        ∙ ap (λ (k : Judged). settled s d (judged_asks h.profile h.held h.worked (get_or c 0 0) (get_or c 1 0) d k)) asked) i)
        ((g ∙ ap fault_beside shown ∙ ap (λ (k : Judged). fault_beside (by_profile h.profile (get_or c 1 0) k.verdict)) asked) i)

    pub told_in : (t : Told) (z : List ℕ) (f : Option Fault) → t ≡ beside_of 0 f → f ≡ fault_beside v → (tag_of the_type v ≡ 2 → ⊥)
        → z ≡ told_of v h.held h.worked (get_or c 0 0) (get_or c 1 0) d → Hears t b z
    unfolding occ_left settled done
    told_in t z f p g n q =
        parts t b z _ ((λ i. record { told = p i; image = here.image i; reply = q i })
        ∙ by_verdict _ f (ap (settled s d) (told h.held h.worked (get_or c 0 0) (get_or c 1 0) d j.tables v n)) g)

    -- a change: y are the lent bytes after it
    module _ (ch : Change) (is : v ≡ Make ch) (t : Told) (full : Bool) (y : List ℕ)
        (room : full ≡ (carried_of s (record { change = ch; tables = j.tables })).full) (left : y ≡ carried_in b (carried_of s (record { change = ch; tables = j.tables }))) where
      abbrev edit : Edit
      edit = record { change = ch; tables = j.tables }

      by_made : (q : Said) → q ≡ settled s d (makes edit 0 (replied (get_or c 0 0) (get_or c 1 0) 0x00 [] d)) → occ_left q None ≡ occ_read_left s sender c d
      unfolding verdict_asks fault_for
      by_made q e =
          by_verdict q None (e ∙ sym (ap (λ (u : Verdict). settled s d (verdict_asks h.held h.worked (get_or c 0 0) (get_or c 1 0) d j.tables u)) is)) (sym (ap fault_beside is))

      pub full_in : t ≡ record { answer = 5; small = 0; beside = 0 } → full ≡ true → Hears t y d
      unfolding occ_left beside_of kept
      full_in p g =
          parts t y d _ ((λ i. record { told = p i; image = carried_kept h b here edit full y room left g i; reply = d })
          ∙ by_made (kept 5 s d) (sym (made_full s d edit 0 _ (sym room ∙ g))))

      pub done_in : t ≡ record { answer = 0; small = 0; beside = 0 } → full ≡ false → (z : List ℕ) → z ≡ replied (get_or c 0 0) (get_or c 1 0) 0x00 [] d → Hears t y z
      unfolding occ_left beside_of done
      done_in p g z q =
          parts t y z _ ((λ i. record { told = p i; image = carried_new h b here edit full y room left g i; reply = q i })
          ∙ by_made (done (carried_of s edit).session 0 0 (replied (get_or c 0 0) (get_or c 1 0) 0x00 [] d)) (sym (made_done s d edit 0 _ (sym room ∙ g))))

-- ---- the whole call: n is the refusal that is due to a well-formed session

module _ (b : List ℕ) (h : Head) (o : Opens b h) (sender : ℕ) (c d : List ℕ) (n : ℕ) (is : n ≡ refusal_of true sender (length c) (length d)) where
  -- no refusal is due
  pub met_in : n ≡ 0 → 4 ≤ length c
  met_in none = (met (session_in h b) true n sender (length c) (length d) (sym o.formed) is none).1

  abbrev s₀ : Session
  s₀ = session_in h b

  abbrev asked_first : ℕ → Asks
  asked_first k = due k (occ_read s₀ sender c d)

  by_refusal : occ_left (settled s₀ d (asked_first n)) (why_from n s₀ sender c) ≡ occ_on b sender c d
  unfolding occ_on occ_call occ_asks occ_why occ_refusal
  by_refusal =
      ap (λ (k : ℕ). occ_left (settled s₀ d (asked_first k)) (why_from k s₀ sender c)) (is ∙ ap (λ (g : Bool). refusal_of g sender (length c) (length d)) (sym o.formed))
      ∙ on_read (λ (x : Session). occ_left (occ_call x sender c d) (occ_why x sender c d)) d b o.long h o.read

  pub refused_in : (t : Told) → t ≡ record { answer = n; small = 0; beside = 0 } → (n ≡ 0 → ⊥) → Parts t b d (occ_on b sender c d)
  unfolding due why_from settled occ_left beside_of kept
  refused_in t p z =
      parts t b d _ ((λ i. record { told = p i; image = o.stands.image i; reply = d })
      ∙ (λ i. occ_left (settled s₀ d (if_ne (refuses n) (occ_read s₀ sender c d) z refl i)) (if_ne None (why_read s₀ sender c) z refl i))
      ∙ by_refusal)

  pub heard_in : n ≡ 0 → (t : Told) (y z : List ℕ) → Parts t y z (occ_read_left s₀ sender c d) → Parts t y z (occ_on b sender c d)
  unfolding occ_read_left due why_from
  heard_in none t y z q =
      parts t y z _ ((λ i. record { told = q.0 i; image = q.1.0 i; reply = q.1.1 i })
      ∙ (λ i. occ_left (settled s₀ d (else_ne (refuses n) (occ_read s₀ sender c d) none refl i)) (else_ne None (why_read s₀ sender c) none refl i))
      ∙ by_refusal)

ill_refused : (sender : ℕ) (c d : List ℕ) (s : Session) → well_formed s ≡ false
    → record { told = record { answer = 1; small = 0; beside = 0 }; image = image_of s; reply = d } ≡ occ_left (occ_call s sender c d) (occ_why s sender c d)
unfolding occ_call occ_asks occ_why occ_refusal refusal_of due why_from settled occ_left beside_of kept
ill_refused sender c d s ill =
    ap (λ (g : Bool). occ_left (settled s d (due (refusal_of g sender (length c) (length d)) (occ_read s sender c d))) (why_from (refusal_of g sender (length c) (length d)) s sender c)) (sym ill)

-- bytes that don't open
pub unopened : (b : List ℕ) → Unopened b → (sender : ℕ) (c d : List ℕ) (t : Told) → t ≡ record { answer = 1; small = 0; beside = 0 } → Parts t b d (occ_on b sender c d)
unfolding occ_on
unopened b shut sender c d t p = inplace.unopened (λ (s : Session). occ_left (occ_call s sender c d) (occ_why s sender c d)) d (ill_refused sender c d) b shut t p
