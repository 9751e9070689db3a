-- A call without a reply that asks for a well-formed session first, on lent bytes: once for all of them. Assumes nothing.
use Rattle.std.specs.Prelude.{ℕ, Bool, cond, ◌≡◌, refl, List, []}
use Rattle.std.proofs.Math.Bool.{not}
use Rattle.std.proofs.Common.{sym, ◌∙◌}
use Rattle.std.proofs.Math.Path.{ap}
use Rattle.wire.proofs.laws.Cases.{else_b}
use Rattle.session.specs.Session.{well_formed}
use Rattle.session.specs.Road.{Asks, refuses, Said, kept, settled}
use Rattle.session.specs.declared.Session.{Session}
use Rattle.image.specs.declared.Head.{Head}
use Rattle.image.specs.Image.{image_of, session_in}
use Rattle.inplace.specs.declared.Told.{Told}
use Rattle.inplace.specs.InPlace.{Left, rung_left, on_image, Opens, Unopened}
use Rattle.inplace.proofs.laws.InPlace as laws
use Rattle.inplace.proofs.laws.InPlace.{on_read}

-- a refusal of a call that rings
pub rung_refused : (n : ℕ) (s : Session) → rung_left (kept n s []) ≡ record { told = record { answer = n; small = 0; beside = 0 }; image = image_of s; reply = [] }
unfolding rung_left kept
rung_refused n s = refl

-- what it asks of a well-formed session, and what is left of what is said then; a refusal tells its number alone
module _ (more : Session → Asks) (left : Said → Left) (refused : (n : ℕ) (s : Session) → left (kept n s []) ≡ record { told = record { answer = n; small = 0; beside = 0 }; image = image_of s; reply = [] }) where
  abbrev asked : Session → Asks
  asked s = cond (not (well_formed s)) (refuses 1) (more s)

  abbrev on : List ℕ → Left
  on b = on_image b [] (λ (s : Session). left (settled s [] (asked s)))

  -- what a function tells and leaves where this is asked
  abbrev pub Tells : Session → Told → List ℕ → Asks → Type 0
  Tells s t y a = (t ≡ (left (settled s [] a)).told) × (y ≡ (left (settled s [] a)).image)

  abbrev pub Allows : List ℕ → Told → List ℕ → Type 0
  Allows b t y = (t ≡ (on b).told) × (y ≡ (on b).image)

  pub unopened : (b : List ℕ) → Unopened b → (t : Told) → t ≡ record { answer = 1; small = 0; beside = 0 } → Allows b t b
  unfolding settled
  unopened b shut t p =
      let q = laws.unopened (λ (s : Session). left (settled s [] (asked s))) []
      (λ s ill. sym (refused 1 s) ∙ ap (λ (x : Bool). left (settled s [] (cond (not x) (refuses 1) (more s)))) (sym ill)) b shut t p in (q.0, q.1.0)

  module _ (b : List ℕ) (h : Head) (o : Opens b h) where
    pub formed_told : (t : Told) (y : List ℕ) → Tells (session_in h b) t y (more (session_in h b)) → Allows b t y
    formed_told t y q =
        let s = session_in h b in
        let r = on_read (λ (s : Session). left (settled s [] (asked s))) [] b o.long h o.read in
        let same = ap (λ (x : Asks). left (settled s [] x)) (else_b _ _ (ap not o.formed) refl) ∙ r in
        (q.0 ∙ ap (λ (l : Left). l.told) same, q.1 ∙ ap (λ (l : Left). l.image) same)
