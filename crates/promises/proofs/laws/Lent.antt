-- The calls for C, one after the other on one lent image: what holds of sessions holds of images. Assumes nothing.
use Rattle.std.specs.Prelude.{ℕ, ◌+◌, ◌≡◌, eqb, length}
use Rattle.std.proofs.Math.Path.{refl, ap}
use Rattle.std.proofs.Common.{sym, subst, ◌∙◌, arith}
use mathlib.Core.List.{List, [], ◌∷◌}
use Rattle.wire.proofs.laws.Cases.{if_ne, else_ne, cond_elim}
use Rattle.record.specs.Record.{worked_of}
use Rattle.record.specs.declared.Record.{Record}
use Rattle.change.specs.declared.Edit.{Edit}
use Rattle.session.specs.Session.{fresh_session, renewed}
use Rattle.session.proofs.laws.Timer.{Clock}
use Rattle.session.specs.declared.Session.{Session}
use Rattle.marks.proofs.laws.Marks.{length_marks}
use Rattle.occ_call.specs.Occ as occs
use Rattle.sbe_call.specs.Sbe as sbes
use Rattle.journal.specs.declared.Way.{Way}
use Rattle.journal.specs.declared.Way.TheVariants.{Before, After}
use Rattle.journal.specs.Ways.{by_way}
use Rattle.session.specs.Road.{Said}
use Rattle.undo_call.specs.Undo.{move_call, passed_by, moved_left, move_on}
use Rattle.forget_call.specs.Forget.{forget_left, forget_call, forget_on}
use Rattle.time_call.specs.Time.{time_call, time_on}
use Rattle.wire.specs.Wire.{Bytes}
use Rattle.image.specs.Image.{image_of, session_of}
use Rattle.layout.specs.Layout.{image_length}
use Rattle.image.proofs.laws.Image.{Typed, image_session}
use Rattle.image.proofs.laws.Typed.{typed_image}
use Rattle.inplace.specs.InPlace.{Left, rung_left, on_image}
use Rattle.inplace.proofs.laws.InPlace.{on_image_lem}
use Rattle.bjargolsk.specs.Calls.{packed, answer_in, fresh_on}
use Rattle.bjargolsk.proofs.laws.Calls.{occ_refused, sbe_refused, undo_refused, redo_refused, forget_refused, time_refused}
use Rattle.saving.proofs.laws.Record.{worked_fits_lem}
use Rattle.promises.specs.Calls.{Call, occ, sbe, undo, redo, forget, time, buffer_of, asks, said}
use Rattle.promises.specs.Marks.{logs_made}
use Rattle.promises.specs.History.{applied, kept_of, start_of, Run, did, next_run, run, AllOfBytes}
use Rattle.promises.proofs.laws.Stores.{length_padded, flat}
use Rattle.promises.proofs.laws.ByHistory.{standing, journal_of, by_history, Sane}
use Rattle.promises.proofs.laws.Demand3.{redoable, Inv, next_inv}
use Rattle.promises.specs.Lent.{Lent, lent, told, carried_over, lent_run}

-- ---- a call on an image

-- an image of any bytes made fresh
pub fresh_image : (b : List ℕ) → length b ≡ image_length → (fresh_on b).image ≡ image_of fresh_session
unfolding fresh_on
fresh_image b long = sym (ap (λ (q : Left). q.image) (else_ne _ _ long refl))

abbrev as_lent : Left → Lent
as_lent q = record { result = packed q.told; image = q.image; reply = q.reply }

-- redo reports no number
none_reported : (q : Said) → moved_left 0 q ≡ record { told = record { answer = q.answer; small = 0; beside = q.kind }; image = image_of q.session; reply = q.reply }
unfolding moved_left
none_reported q = λ i. record {
  told = record { answer = q.answer; small = cond_elim (λ (n : ℕ). n ≡ 0) (eqb q.answer 0) refl refl i; beside = q.kind };
  image = image_of q.session;
  reply = q.reply;
}

-- ---- on the image of a session

module _ (s : Session) (t : Typed s) where
  abbrev b : List ℕ
  b = image_of s

  pub occ_on_lem : (sender : ℕ) (c d : List ℕ) → occs.occ_on b sender c d ≡ occs.occ_left (occs.occ_call s sender c d) (occs.occ_why s sender c d)
  unfolding occs.occ_on
  occ_on_lem sender c d = on_image_lem _ d s t

  pub sbe_on_lem : (r d m x : List ℕ) → sbes.sbe_on b r d m x ≡ rung_left (sbes.sbe_call s r d m x)
  unfolding sbes.sbe_on
  sbe_on_lem r d m x = on_image_lem _ d s t

  pub move_on_lem : (w : Way) → move_on w b ≡ moved_left (passed_by w s) (move_call w s)
  unfolding move_on
  move_on_lem w = on_image_lem _ [] s t

  forget_on_lem : (n : ℕ) → forget_on n b ≡ forget_left (forget_call n s)
  unfolding forget_on
  forget_on_lem n = on_image_lem _ [] s t

  time_on_lem : (n : ℕ) → time_on n b ≡ rung_left (time_call n s)
  unfolding time_on
  time_on_lem n = on_image_lem _ [] s t

  pub lent_said : (c : Call) → lent b c ≡ carried_over s c
  unfolding lent carried_over told said asks buffer_of occs.occ_left occs.occ_call rung_left sbes.sbe_call passed_by by_way moved_left move_call forget_left forget_call time_call
  lent_said (occ sender c d) = ap as_lent (occ_on_lem sender c d)
  lent_said (sbe r d m x) = ap as_lent (sbe_on_lem r d m x)
  lent_said undo = ap as_lent (move_on_lem Before)
  lent_said (forget n) = ap as_lent (forget_on_lem n)
  lent_said (time n) = ap as_lent (time_on_lem n)
  lent_said redo = ap as_lent (move_on_lem After ∙ none_reported (move_call After s))

-- ---- every image, right or damaged

module _ (b : List ℕ) (bytes : Bytes b) where
  pub every_image : length b ≡ image_length → (c : Call) → lent b c ≡ carried_over (session_of b) c
  every_image long c = ap (λ (i : List ℕ). lent i c) (sym (image_session b bytes long)) ∙ lent_said (session_of b) (typed_image b bytes long) c

  -- an answer other than 0 leaves every byte of image and buffer
  pub every_byte : (c : Call) → (answer_in (lent b c).result ≡ 0 → ⊥) → ((lent b c).image ≡ b) × ((lent b c).reply ≡ buffer_of c)
  unfolding lent buffer_of
  every_byte (occ sender c d) = occ_refused b bytes sender c d
  every_byte (sbe r d m x) = sbe_refused b bytes r d m x
  every_byte undo = undo_refused b bytes
  every_byte redo = redo_refused b bytes
  every_byte (forget n) = forget_refused b bytes n
  every_byte (time n) = time_refused b bytes n

-- bytes of another length
pub no_session : (b : List ℕ) → (length b ≡ image_length → ⊥) → (c : Call) → lent b c ≡ record { result = 1; image = b; reply = buffer_of c }
unfolding lent buffer_of packed occs.occ_on sbes.sbe_on move_on forget_on time_on on_image
no_session b z (occ sender c d) = sym (ap as_lent (if_ne _ _ z refl))
no_session b z (sbe r d m x) = sym (ap as_lent (if_ne _ _ z refl))
no_session b z undo = sym (ap as_lent (if_ne _ _ z refl))
no_session b z redo = sym (ap as_lent (if_ne _ _ z refl))
no_session b z (forget n) = sym (ap as_lent (if_ne _ _ z refl))
no_session b z (time n) = sym (ap as_lent (if_ne _ _ z refl))

-- ---- every session of a history has what the types say

history_typed : (base : Record) (s : Session) → Clock s.timer → (es : List Edit) (next : ℕ) (rs : List Edit) → Sane base s.profile es next rs → Typed (by_history base s es next rs)
unfolding by_history standing by_way renewed worked_of
history_typed base s c es next rs g =
    let r = applied base es in
    record {
      session = record {
        held = g.typed;
        journal = length_padded (journal_of base es) (omega (arith, g.fits));
        next = omega (arith, g.small);
        used = omega (arith, g.fits);
        redo = length_padded (flat rs) (omega (arith, g.fits));
        ahead = omega (arith, g.fits);
        marks = length_marks _;
        timer = c.fits;
      };
      limit = worked_fits_lem r g.typed;
    }

module _ (base : Record) (first : ℕ) where
  pub run_typed : (p : Run) → Inv base first p → Typed p.session
  run_typed p v = subst Typed (sym v.is) (history_typed (start_of base p) p.session v.clock (kept_of p) (first + logs_made p.marks) (redoable base first p) v.sane)

  pub lent_run_lem : (cs : List Call) (p : Run) → AllOfBytes cs → Inv base first p → lent_run (image_of p.session) cs ≡ image_of (run p cs).session
  unfolding lent_run carried_over run next_run did
  lent_run_lem [] p b v = refl
  lent_run_lem (c ∷ cs) p b v =
      let step = ap (λ (x : Lent). x.image) (lent_said p.session (run_typed p v) c) in
      ap (λ (i : List ℕ). lent_run i cs) step ∙ lent_run_lem cs (next_run p c) b.1 (next_inv base first p v c b.0)

  -- and what the next call says there is what it says of the session
  pub lent_next : (p : Run) → Inv base first p → (c : Call) → lent (image_of p.session) c ≡ carried_over p.session c
  lent_next p v = lent_said p.session (run_typed p v)
