-- Calls on lent images are calls on sessions: a refusal leaves the bytes as they were. Assumes nothing.
use Rattle.std.specs.Prelude.{ℕ, ◌*◌, ◌+◌, ◌%◌, not, ◌≡◌, eqb, length}
use Rattle.std.proofs.Math.Path.{refl, ap}
use Rattle.std.proofs.Common.{◌∙◌, arith, eqb-true, lit<}
use mathlib.Core.List.{List, []}
use Rattle.std.proofs.lemmas.Bool.{not-false}
use Rattle.std.proofs.Math.Arith.{digits_mod}
use Rattle.wire.proofs.laws.Cases.{cond_cases}
use Rattle.wire.specs.Wire.{Bytes}
use Rattle.journal.specs.declared.Way.{Way}
use Rattle.journal.specs.declared.Way.TheVariants.{Before, After}
use Rattle.session.proofs.laws.Road.{refusal_keeps}
use Rattle.session.specs.declared.Session.{Session}
use Rattle.layout.specs.Layout.{image_length}
use Rattle.image.specs.Image.{image_of, session_of}
use Rattle.image.proofs.laws.Image.{image_session}
use Rattle.inplace.specs.InPlace.{Left, rung_left, on_image}
use Rattle.inplace.specs.declared.Told.{Told}
use Rattle.occ_call.specs.Occ.{occ_asks, occ_call, occ_why, occ_left, occ_on}
use Rattle.occ_call.proofs.laws.Why.{answer_beside}
use Rattle.sbe_call.specs.Sbe.{sbe_asks, sbe_call, sbe_on}
use Rattle.forget_call.specs.Forget.{forget_asks, forget_call, forget_left, forget_on}
use Rattle.time_call.specs.Time.{time_asks, time_call, time_on}
use Rattle.watch_call.specs.Watch.{watch_asks, watch_call, watch_on}
use Rattle.undo_call.specs.Undo.{move_asks, move_call, passed_by, moved_left, move_on, undo_on, redo_on}
use Rattle.bjargolsk.specs.Calls.{packed, answer_in}

-- a call that answered 0 has answer 0 in its result
answered_zero : (t : Told) → t.answer ≡ 0 → answer_in (packed t) ≡ 0
unfolding answer_in packed
answered_zero t e =
    let above : t.beside * 65536 + t.small * 256 + t.answer ≡ (t.beside * 256 + t.small) * 256 + 0 = omega (arith, e) in
    ap (λ (k : ℕ). k % 256) above ∙ digits_mod (t.beside * 256 + t.small) (lit< tt)

module _ (b : List ℕ) (bytes : Bytes b) where
  abbrev Kept : Left → List ℕ → Type 0
  Kept q d = (answer_in (packed q.told) ≡ 0 → ⊥) → (q.image ≡ b) × (q.reply ≡ d)

  -- any call: one that keeps the session and the buffer, unless it answers 0, keeps the bytes
  refused : (call : Session → Left) (d : List ℕ) → (((call (session_of b)).told.answer ≡ 0 → ⊥) → (s : Session) × ((s ≡ session_of b) × ((call (session_of b)).image ≡ image_of s) × ((call (session_of b)).reply ≡ d)))
      → Kept (on_image b d call) d
  unfolding on_image
  refused call d keeps =
      cond_cases (λ (q : Left). Kept q d) (not (eqb (length b) image_length)) (λ e h. (refl, refl))
      (λ e h.
      let k = keeps (λ z. h (answered_zero _ z)) in
      (k.1.1 ∙ ap image_of k.1.0 ∙ image_session b bytes (eqb-true (length b) image_length (not-false _ e)), k.1.2))

  pub occ_refused : (sender : ℕ) (c d : List ℕ) → Kept (occ_on b sender c d) d
  unfolding occ_on occ_left occ_call
  occ_refused sender c d =
      refused (λ (s : Session). occ_left (occ_call s sender c d) (occ_why s sender c d)) d
      (λ h. let k = refusal_keeps (session_of b) d (occ_asks (session_of b) sender c d) (λ z. h (answer_beside _ _ ∙ z)) in (_, (k.0, refl, k.1)))

  pub sbe_refused : (r d m x : List ℕ) → Kept (sbe_on b r d m x) d
  unfolding sbe_on rung_left sbe_call
  sbe_refused r d m x =
      refused (λ (s : Session). rung_left (sbe_call s r d m x)) d (λ h. let k = refusal_keeps (session_of b) d (sbe_asks (session_of b) r d m x) h in (_, (k.0, refl, k.1)))

  move_refused : (w : Way) → Kept (move_on w b) []
  unfolding move_on moved_left move_call
  move_refused w =
      refused (λ (s : Session). moved_left (passed_by w s) (move_call w s)) [] (λ h. let k = refusal_keeps (session_of b) [] (move_asks w (session_of b)) h in (_, (k.0, refl, k.1)))

  pub forget_refused : (n : ℕ) → Kept (forget_on n b) []
  unfolding forget_on forget_left forget_call
  forget_refused n =
      refused (λ (s : Session). forget_left (forget_call n s)) [] (λ h. let k = refusal_keeps (session_of b) [] (forget_asks n (session_of b)) h in (_, (k.0, refl, k.1)))

  pub time_refused : (n : ℕ) → Kept (time_on n b) []
  unfolding time_on rung_left time_call
  time_refused n =
      refused (λ (s : Session). rung_left (time_call n s)) [] (λ h. let k = refusal_keeps (session_of b) [] (time_asks n (session_of b)) h in (_, (k.0, refl, k.1)))

  pub watch_refused : Kept (watch_on b) []
  unfolding watch_on rung_left watch_call
  watch_refused =
      refused (λ (s : Session). rung_left (watch_call s)) [] (λ h. let k = refusal_keeps (session_of b) [] (watch_asks (session_of b)) h in (_, (k.0, refl, k.1)))

  pub undo_refused : Kept (undo_on b) []
  undo_refused = move_refused Before

  pub redo_refused : Kept (redo_on b) []
  redo_refused = move_refused After
