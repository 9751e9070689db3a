-- What making bytes fresh leaves, and what is told of two traces. Assumes nothing.
use mathlib.Core.Path.{◌≡◌, refl, sym, ap, ◌∙◌}
use mathlib.Core.List.{List, []}
use Prim.Native.Nat.{ℕ, ◌≤◌, ◌<◌}
use lib.ListN.{length}
use Rattle.wire.proofs.laws.Cases.{if_ne, else_ne, if_lt, else_lt}
use Rattle.session.specs.Session.{fresh_session}
use Rattle.session.specs.declared.Session.{Session}
use Rattle.image.specs.Image.{image_of, written_to}
use Rattle.layout.specs.Layout.{image_length}
use Rattle.inplace.specs.declared.Told.{Told}
use Rattle.inplace.specs.InPlace.{Left, no_image}
use Rattle.parting.specs.Lines.{longest, told, told_length}
use Rattle.bjargolsk.specs.Calls.{packed, fresh_on, part_on}

-- a session written into bytes of an image's length
written : (b : List ℕ) (s : Session) → length b ≡ image_length → written_to b s ≡ image_of s
unfolding written_to
written b s long = sym (else_ne b (image_of s) long refl)

abbrev Leaves : ℕ → List ℕ → Left → Type 0
Leaves x y q = (x ≡ packed q.told) × (y ≡ q.image)

left_by : (x : ℕ) (t : Told) (y : List ℕ) (q : Left) → x ≡ packed t → record { told = t; image = y; reply = [] } ≡ q → Leaves x y q
left_by x t y q p e = (p ∙ ap (λ (l : Left). packed l.told) e, ap (λ (l : Left). l.image) e)

module _ (b : List ℕ) (x : ℕ) (t : Told) (p : x ≡ packed t) where
  pub fresh_kept : (length b ≡ image_length → ⊥) → t ≡ record { answer = 1; small = 0; beside = 0 } → Leaves x b (fresh_on b)
  unfolding fresh_on
  fresh_kept z e = left_by x t b _ p ((λ i. record { told = e i; image = b; reply = [] }) ∙ if_ne (no_image b []) _ z refl)

  pub fresh_left : length b ≡ image_length → t ≡ record { answer = 0; small = 0; beside = 0 } → (s : Session) (y : List ℕ) → s ≡ fresh_session → y ≡ written_to b s → Leaves x y (fresh_on b)
  unfolding fresh_on
  fresh_left long e s y f w =
      let image = w ∙ written b s long ∙ ap image_of f in
      left_by x t y _ p ((λ i. record { told = e i; image = image i; reply = [] }) ∙ else_ne (no_image b []) _ long refl)

-- ---- two traces parted

module _ (t u d : List ℕ) (x : ℕ) (s : Told) (p : x ≡ packed s) where
  pub part_kept : length d < longest → s ≡ record { answer = 3; small = 0; beside = 0 } → (x ≡ packed (part_on t u d)) × (d ≡ told t u d)
  unfolding part_on told
  part_kept h e = (p ∙ ap packed (if_lt _ _ h e), if_lt _ _ h refl)

  -- n is the length that was told, y the buffer after it
  pub part_told : {n : ℕ} {y : List ℕ} → longest ≤ length d → s ≡ record { answer = 0; small = 0; beside = n } → n ≡ told_length t u d → y ≡ told t u d
      → (x ≡ packed (part_on t u d)) × (y ≡ told t u d)
  unfolding part_on
  part_told h e f g = (p ∙ ap packed (else_lt _ _ h (e ∙ (λ i. record { answer = 0; small = 0; beside = f i }))), g)
