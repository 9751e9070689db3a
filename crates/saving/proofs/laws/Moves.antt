-- Document 02, m: "Up then down gives the same bytes; down then up gives the same session", saving and restoring likewise, and what a move leaves. Assumes
-- nothing.
use Rattle.std.specs.Prelude.{ℕ, ◌≤◌, true, ◌≡◌, eqb, ltb, length}
use Rattle.std.proofs.Math.Bool.{not}
use Rattle.std.proofs.Math.Path.{sym}
use Rattle.std.proofs.Common.{ap, ◌∙◌, arith, eqb-true, eq-eqb, ltb-false}
use mathlib.Core.List.{List}
use Rattle.wire.specs.Wire.{Bytes}
use Rattle.wire.proofs.laws.Cases.{else_b, else_ne, else_lt, cond_elim, cond_cases}
use Rattle.wire.proofs.laws.Chains.{passed}
use Rattle.formed.proofs.laws.Formed.{both_hold, hold_both}
use Rattle.session.specs.Session.{well_formed}
use Rattle.session.proofs.laws.Session.{formed}
use Rattle.session.specs.declared.Session.{Session}
use Rattle.image.specs.Image.{image_of, session_of}
use Rattle.image.proofs.laws.Image.{Typed, length_image, session_image, image_session}
use Rattle.image.proofs.laws.Typed.{typed_image}
use Rattle.layout.specs.Layout.{image_length}
use Rattle.saving.specs.Forms.{base_head, base_most, base_of, session_of_base, saved_length, saved_of, kinds_ok, session_of_saved}
use Rattle.saving.specs.Moves.{base_holds, goes_down, base_reads, saved_reads, image_reads, Outcome, put_into, save_to, restore_to, move_up_to, move_down_to}
use Rattle.saving.proofs.laws.Forms.{length_saved, kinds_saved, saved_back, saved_typed, saved_again}
use Rattle.saving.proofs.laws.Base.{base_typed, base_again, length_base, base_back}

-- ---- what reads, by its parts

pub record SavedStands (b : List ℕ) : Type 0 where
  pub long : length b ≡ saved_length
  pub kinds : kinds_ok b ≡ true
  pub whole : well_formed (session_of_saved b) ≡ true

pub saved_stands : (b : List ℕ) → saved_reads b ≡ true → SavedStands b
unfolding saved_reads
saved_stands b h =
    let p = both_hold (eqb (length b) saved_length) _ h in
    let q = both_hold (kinds_ok b) _ p.1 in
    record { long = eqb-true (length b) saved_length p.0; kinds = q.0; whole = q.1 }

pub stands_saved : (b : List ℕ) → SavedStands b → saved_reads b ≡ true
unfolding saved_reads
stands_saved b s = hold_both (eq-eqb (length b) saved_length s.long) (hold_both s.kinds s.whole)

pub record BaseStands (b : List ℕ) : Type 0 where
  pub long : base_head ≤ length b
  pub most : length b ≤ base_most
  pub whole : well_formed (session_of_base b) ≡ true
  pub holds : base_holds (session_of_base b) ≡ true

pub base_stands : (b : List ℕ) → base_reads b ≡ true → BaseStands b
unfolding base_reads
base_stands b h =
    let p = passed (ltb (length b) base_head) _ h in
    let q = passed (ltb base_most (length b)) _ p.1 in
    let r = both_hold (well_formed (session_of_base b)) _ q.1 in
    record { long = ltb-false _ _ p.0; most = ltb-false _ _ q.0; whole = r.0; holds = r.1 }

pub stands_base : (b : List ℕ) → BaseStands b → base_reads b ≡ true
unfolding base_reads
stands_base b s = sym (else_lt _ _ s.long (else_lt _ _ s.most (sym (hold_both s.whole s.holds))))

-- a well-formed session's new form reads, as that session
module _ (s : Session) (typed : Typed s) (whole : well_formed s ≡ true) where
  back : session_of_saved (saved_of s) ≡ s
  back = saved_back s typed.session whole

  form_reads : saved_reads (saved_of s) ≡ true
  form_reads =
      stands_saved (saved_of s)
      (record { long = length_saved s typed.session; kinds = kinds_saved s typed.session; whole = ap well_formed back ∙ whole })

-- what moving up leaves can go down
up_goes_down : (b : List ℕ) → base_holds (session_of_base b) ≡ true → goes_down (session_of_base b) ≡ true
unfolding goes_down session_of_base
up_goes_down b h = h

-- ---- "Up then down gives the same bytes"

module _ (b : List ℕ) (bytes : Bytes b) (reads : base_reads b ≡ true) where
  stands : BaseStands b
  stands = base_stands b reads

  typed_up : Typed (session_of_base b)
  typed_up = base_typed b bytes stands.long stands.most

  pub moved_up_reads : saved_reads (saved_of (session_of_base b)) ≡ true
  moved_up_reads = form_reads (session_of_base b) typed_up stands.whole

  pub up_then_down : (out : List ℕ) → move_down_to (saved_of (session_of_base b)) out ≡ put_into b out
  unfolding move_down_to
  up_then_down out =
      let again = back (session_of_base b) typed_up stands.whole in
      sym (else_b _ _ (ap not moved_up_reads)
      (else_b _ _ (ap not (ap goes_down again ∙ up_goes_down b stands.holds))
      (ap (λ (x : List ℕ). put_into x out) (sym (ap base_of again ∙ base_again b bytes stands.long)))))

-- ---- "down then up gives the same session"

down_holds : (s : Session) → goes_down s ≡ true → base_holds s ≡ true
unfolding goes_down
down_holds s h = (both_hold (eqb s.timer.running 0) _ (both_hold (eqb s.profile 0) _ (both_hold (eqb s.ahead 0) _ h).1).1).1

module _ (b : List ℕ) (bytes : Bytes b) (reads : saved_reads b ≡ true) where
  saved_is : SavedStands b
  saved_is = saved_stands b reads

  typed_saved : Typed (session_of_saved b)
  typed_saved = saved_typed b bytes saved_is.long

  module _ (down : goes_down (session_of_saved b) ≡ true) where
    same_session : session_of_base (base_of (session_of_saved b)) ≡ session_of_saved b
    same_session = base_back (session_of_saved b) typed_saved.session saved_is.whole down

    used_most : (session_of_saved b).used ≤ 2048
    used_most = omega (arith, (formed (session_of_saved b) saved_is.whole).both_fit)

    pub moved_down_reads : base_reads (base_of (session_of_saved b)) ≡ true
    moved_down_reads =
        let n = length_base (session_of_saved b) typed_saved.session used_most in
        stands_base (base_of (session_of_saved b))
        (record { long = omega (arith, n); most = omega (arith, n, used_most); whole = ap well_formed same_session ∙ saved_is.whole; holds = ap base_holds same_session ∙ down_holds (session_of_saved b) down })

    pub down_then_up : (out : List ℕ) → move_up_to (base_of (session_of_saved b)) out ≡ put_into b out
    unfolding move_up_to
    down_then_up out =
        sym (else_b _ _ (ap not moved_down_reads)
        (ap (λ (x : List ℕ). put_into x out) (sym (ap saved_of same_session ∙ saved_again b bytes saved_is.long saved_is.kinds))))

  -- ---- restoring, then saving, gives the same bytes

  pub restore_then_save : (out : List ℕ) → save_to (image_of (session_of_saved b)) out ≡ put_into b out
  unfolding save_to image_reads
  restore_then_save out =
      let same = session_image (session_of_saved b) typed_saved in
      sym (else_b _ _ (ap not (hold_both (eq-eqb _ _ (length_image (session_of_saved b) typed_saved.session)) (ap well_formed same ∙ saved_is.whole)))
      (ap (λ (x : List ℕ). put_into x out) (sym (ap saved_of same ∙ saved_again b bytes saved_is.long saved_is.kinds))))

-- ---- saving, then restoring, gives the same session, whatever stood there

module _ (b : List ℕ) (bytes : Bytes b) (reads : image_reads b ≡ true) where
  parts : (length b ≡ image_length) × (well_formed (session_of b) ≡ true)
  unfolding image_reads
  parts = let p = both_hold (eqb (length b) image_length) _ reads in (eqb-true (length b) image_length p.0, p.1)

  pub save_then_restore : (d : List ℕ) → length d ≡ image_length → restore_to (saved_of (session_of b)) d ≡ record { told = record { answer = 0; small = 0; beside = 0 }; out = b }
  unfolding restore_to
  save_then_restore d long =
      let t = typed_image b bytes parts.0 in
      sym (else_ne _ _ long
      (else_b _ _ (ap not (form_reads (session_of b) t parts.1))
      (λ i. record { told = record { answer = 0; small = 0; beside = 0 }; out = sym (ap image_of (back (session_of b) t parts.1) ∙ image_session b bytes parts.0) i })))

-- the bytes told lie within the buffer
put_within : (x out : List ℕ) → (put_into x out).told.beside ≤ length out
unfolding put_into
put_within x out =
    cond_cases (λ (z : Outcome). z.told.beside ≤ length out) (ltb (length out) (length x)) (λ h. omega arith) (λ h. ltb-false (length out) (length x) h)

pub move_down_within : (b out : List ℕ) → (move_down_to b out).told.beside ≤ length out
unfolding move_down_to
move_down_within b out =
    cond_elim (λ (z : Outcome). z.told.beside ≤ length out) (not (saved_reads b)) (omega arith)
    (cond_elim (λ (z : Outcome). z.told.beside ≤ length out) (not (goes_down (session_of_saved b))) (omega arith) (put_within (base_of (session_of_saved b)) out))
