-- What a call tells and leaves, part by part. Assumes nothing.
use Rattle.std.specs.Prelude.{ℕ, Bool, true, false, cond, not, ◌≡◌, List, length, eqb}
use Rattle.std.proofs.Math.Path.{refl, sym, ap}
use Rattle.std.proofs.Common.{◌∙◌, eqb-true}
use Rattle.inplace.specs.declared.Told.{Told}
use Rattle.wire.specs.Wire.{Bytes}
use Rattle.image.specs.declared.Head.{Head}
use Rattle.image.specs.Image.{image_of, head_in, session_in, session_of}
use Rattle.layout.specs.Layout.{image_length}
use Rattle.image.proofs.laws.Image.{Typed, image_session, length_image, session_image}
use Rattle.change.specs.declared.Edit.{Edit}
use Rattle.session.specs.Session.{carried_of}
use Rattle.session.specs.declared.Session.{Session}
use Rattle.wire.proofs.laws.Cases.{else_ne, if_b, else_b}
use Rattle.inplace.specs.InPlace.{Left, HeadStands, Unopened, carried_in, no_image, on_image}
use Rattle.session.specs.Session.{well_formed}

abbrev pub Parts : Told → List ℕ → List ℕ → Left → Type 0
Parts t y z q = (t ≡ q.told) × ((y ≡ q.image) × (z ≡ q.reply))

pub parts : (t : Told) (y z : List ℕ) (q : Left) → record { told = t; image = y; reply = z } ≡ q → Parts t y z q
parts t y z q e = (ap (λ (l : Left). l.told) e, (ap (λ (l : Left). l.image) e, ap (λ (l : Left). l.reply) e))

-- ---- the head that was read

module _ (b : List ℕ) (long : length b ≡ image_length) (h : Head) (read : h ≡ head_in b) where
  pub as_read : session_in h b ≡ session_of b
  unfolding session_of
  as_read = ap (λ (k : Head). session_in k b) read

  pub stands : Bytes b → HeadStands h b
  stands bytes = record { long = long; image = sym (ap image_of as_read ∙ image_session b bytes long) }

-- ---- a call on lent bytes, whatever the call is

module _ (call : Session → Left) (d : List ℕ) where
  -- bytes that don't open: a session that isn't well formed is refused by answer 1, and is kept
  pub unopened : ((s : Session) → well_formed s ≡ false → record { told = record { answer = 1; small = 0; beside = 0 }; image = image_of s; reply = d } ≡ call s)
      → (b : List ℕ) → Unopened b → (t : Told) → t ≡ record { answer = 1; small = 0; beside = 0 } → Parts t b d (on_image b d call)
  unfolding on_image
  unopened refuses b shut t p = parts t b d _ (go (eqb (length b) image_length) refl)
    where
      go : (x : Bool) → eqb (length b) image_length ≡ x → record { told = t; image = b; reply = d } ≡ cond (not x) (no_image b d) (call (session_of b))
      go false e = λ i. record { told = p i; image = b; reply = d }
      go true e = let q = shut (eqb-true (length b) image_length e) in (λ i. record { told = p i; image = q.1 i; reply = d }) ∙ refuses (session_of b) q.0

  -- bytes that are one: the call on the session of the head that was read
  pub on_read : (b : List ℕ) (long : length b ≡ image_length) (h : Head) (read : h ≡ head_in b) → call (session_in h b) ≡ on_image b d call
  unfolding on_image
  on_read b long h read = ap call (as_read b long h read) ∙ else_ne _ _ long refl

  -- the image of a session
  pub on_image_lem : (s : Session) → Typed s → on_image (image_of s) d call ≡ call s
  unfolding on_image
  on_image_lem s t = sym (else_ne _ _ (length_image s t.session) refl) ∙ ap call (session_image s t)

-- ---- a change carried out: the lent bytes after it

module _ (h : Head) (b : List ℕ) (here : HeadStands h b) (e : Edit) (full : Bool) (y : List ℕ) (room : full ≡ (carried_of (session_in h b) e).full)
    (left : y ≡ carried_in b (carried_of (session_in h b) e)) where
  pub carried_kept : full ≡ true → y ≡ image_of (session_in h b)
  unfolding carried_in
  carried_kept f = left ∙ sym (if_b b (image_of (carried_of (session_in h b) e).session) (sym room ∙ f) refl) ∙ here.image

  pub carried_new : full ≡ false → y ≡ image_of (carried_of (session_in h b) e).session
  unfolding carried_in
  carried_new f = left ∙ sym (else_b b (image_of (carried_of (session_in h b) e).session) (sym room ∙ f) refl)
