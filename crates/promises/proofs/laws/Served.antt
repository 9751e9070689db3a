-- Document 02, h, D7 03: a read is judged by the lent image and the second buffer; what the ruling of a call says of its request, and what the second buffer
-- holds after it. Assumes nothing.
use Rattle.std.specs.Prelude.{ℕ, ◌+◌, ◌%◌, ◌≤◌, ◌<◌, Bool, ◌↔◌, ◌⊎◌, ◌≡◌, Ok, Err, eqb, ltb, length, take, drop}
use Rattle.std.proofs.Math.Bool.{true, false, not, false≢true, true≢false}
use Rattle.std.proofs.Math.Logic.{inl, inr, ⊎_elim}
use Rattle.std.proofs.Math.Path.{refl, sym, ap, subst}
use Rattle.std.proofs.Common.{◌∙◌, arith}
use mathlib.Core.List.{List}
use Rattle.std.proofs.Math.Nat.{not-le_of_lt}
use borrow.Author.Tests.{not-false, not-true, ltb-true, ltb-false, eqb-true, eqb-false}
use Rattle.wire.specs.Conditions.{◌and◌, none, row}
use Rattle.wire.proofs.laws.Cases.{cond_cases, cond_elim, if_ne, else_b, else_ne, else_lt}
use Rattle.wire.proofs.laws.Tables.{ByTable, by_none, hit, miss}
use Rattle.change.specs.declared.Change.{Change}
use Rattle.sbe.specs.Mailbox.{Tested, word_at, request_ruling, response_bytes}
use Rattle.sbe.specs.Conditions.{grants, accepts, ReadAsked, Changes, Plainly}
use Rattle.sbe.specs.Statuses.{Status, RequestStatus}
use Rattle.sbe.specs.declared.Refusal.{Refusal}
use Rattle.sbe.specs.declared.Refusal.TheVariants.{BufferOverflow, InvalidParameters, AccessDenied}
use Rattle.sbe.specs.declared.Ruling.{Ruling}
use Rattle.sbe.specs.declared.Ruling.TheVariants.{Decline, Grant, Done, Read}
use Rattle.sbe.proofs.laws.Exactly.{changes_exactly, done_exactly, read_exactly, read_asked}
use Rattle.sbe.proofs.laws.Statuses.{Refuses, refuses, request_rows}
use Rattle.session.specs.Session.{well_formed}
use Rattle.session.specs.Road.{Asks, due, done, settled}
use Rattle.session.specs.declared.Session.{Session}
use Rattle.image.specs.Image.{session_of}
use Rattle.layout.specs.Layout.{image_length}
use Rattle.sbe_call.specs.Sbe.{refusal_of, sbe_refusal, counted_in, read_status, read_at, judged_for, served_at, served_by, told_of, ruling_asks, sbe_ruling, denied, by_profile, sbe_read, sbe_asks, sbe_call, data_for, sbe_data, data_on}
use Rattle.promises.specs.Calls.{Call, occ, sbe, undo, redo, forget, time, second_of}
use Rattle.promises.specs.Demand1.{SbeDue, ReadStatus, SbeStatus}
use Rattle.promises.specs.Demand2.{at_front, InImage, Served, SbeSucceeds}
use Rattle.promises.proofs.laws.Replies.{front_is}

-- ---- the status of a read, by its numbers

-- "only the first 65,536 bytes count"
counted : (k n : ℕ) → (k ≤ counted_in n) ↔ ((k ≤ 65536) and (k ≤ n))
unfolding counted_in
counted k n =
    cond_cases (λ (c : ℕ). (k ≤ c) ↔ ((k ≤ 65536) and (k ≤ n))) (ltb 65536 n)
    (λ t. (λ h. (h, omega (arith, h, ltb-true 65536 n t)), λ h. h.0)) (λ t. (λ h. (omega (arith, h, ltb-false 65536 n t), h), λ h. h.1))

module _ (image room offset size : ℕ) where
  abbrev Inside : Type 0
  Inside = (offset % 8 ≡ 0) and (size % 8 ≡ 0) and (offset + size ≤ 65536) and (offset + size ≤ image)

  data ReadAs : Tested → Type 0 where
    outside : (Inside → ⊥) → ReadAs (Err InvalidParameters)
    too_long_lem : Inside → room < size → ReadAs (Err BufferOverflow)
    fits : Inside → size ≤ room → ReadAs (Ok tt)

  read_as : ReadAs (read_status image room offset size)
  unfolding read_status
  read_as =
      cond_cases ReadAs (not (eqb (offset % 8) 0)) (λ a. outside (λ h. eqb-false _ 0 (not-true _ a) h.0))
      (λ a. cond_cases ReadAs (not (eqb (size % 8) 0)) (λ b. outside (λ h. eqb-false _ 0 (not-true _ b) h.1.0))
      (λ b. cond_cases ReadAs (ltb (counted_in image) (offset + size)) (λ c. outside (λ h. not-le_of_lt (ltb-true _ _ c) ((counted _ image).1 h.1.1)))
      (λ c.
      let inside : Inside = (eqb-true _ 0 (not-false _ a), (eqb-true _ 0 (not-false _ b), (counted _ image).0 (ltb-false _ _ c))) in
      cond_cases ReadAs (ltb room size) (λ d. too_long_lem inside (ltb-true room size d)) (λ d. fits inside (ltb-false room size d)))))

  -- as rows
  serves : ByTable Refuses Done none
  unfolding accepts
  serves = by_none Refuses (λ n e. true≢false (ap accepts e.1))

  read_rows : (n : Tested) → ReadAs n → ByTable Refuses (read_at n) (row (0x02, 0x19) (Inside → ⊥) (row (0x02, 0x18) (room < size) none))
  unfolding read_at
  read_rows n (outside h) = hit Refuses h (refuses InvalidParameters)
  read_rows n (too_long_lem h l) = miss Refuses (λ k. k h) (hit Refuses l (refuses BufferOverflow))
  read_rows n (fits h l) = miss Refuses (λ k. k h) (miss Refuses (λ k. not-le_of_lt k l) serves)

  -- and served
  declined_not : (why : Refusal) → Decline why ≡ Done → ⊥
  unfolding accepts
  declined_not why e = false≢true (ap accepts e)

  read_done : (n : Tested) → ReadAs n → (read_at n ≡ Done) ↔ (Inside and (size ≤ room))
  unfolding read_at
  read_done n (outside h) = (λ e. absurd (declined_not _ e), λ z. absurd (h z.0))
  read_done n (too_long_lem h l) = (λ e. absurd (declined_not _ e), λ z. absurd (not-le_of_lt l z.1))
  read_done n (fits h l) = (λ e. (h, l), λ z. refl)

  read_served : (n : Tested) → ReadAs n → Inside and (size ≤ room) → n ≡ Ok tt
  read_served n (outside h) z = absurd (h z.0)
  read_served n (too_long_lem h l) z = absurd (not-le_of_lt l z.1)
  read_served n (fits h l) z = refl

never_grants : (status : Tested) → grants (read_at status) ≡ false
unfolding read_at grants
never_grants (Err why) = refl
never_grants (Ok x) = refl

abbrev is_read : Ruling → Bool
is_read (Decline why) = false
is_read (Grant ch) = false
is_read Done = false
is_read (Read offset size) = true

at_read : (status : Tested) → is_read (read_at status) ≡ false
unfolding read_at
at_read (Err why) = refl
at_read (Ok x) = refl

judged_read : (image room : ℕ) (v : Ruling) → is_read (judged_for image room v) ≡ false
unfolding judged_for
judged_read image room (Decline why) = refl
judged_read image room (Grant ch) = refl
judged_read image room Done = refl
judged_read image room (Read offset size) = at_read (read_status image room offset size)

-- ---- the ruling of a call

module _ (r m x : List ℕ) where
  abbrev status : Tested
  status = read_status (length m) (length x) (word_at 8 r) (word_at 12 r)

  abbrev ReadIs : Tested → Type 0
  ReadIs = ReadAs (length m) (length x) (word_at 8 r) (word_at 12 r)

  status_is : ReadIs status
  status_is = read_as (length m) (length x) (word_at 8 r) (word_at 12 r)

  -- it is the request's, but for a read
  by_request : (P : Ruling → Type 0) → ((v : Ruling) → request_ruling r ≡ v → P v) → (ReadAsked r → P (read_at status)) → P (sbe_ruling r m x)
  unfolding sbe_ruling judged_for
  by_request P f g = go (request_ruling r) refl
    where
      go : (v : Ruling) → request_ruling r ≡ v → P (judged_for (length m) (length x) v)
      go (Decline why) e = f (Decline why) e
      go (Grant ch) e = f (Grant ch) e
      go Done e = f Done e
      go (Read offset size) e =
          let a = ((read_exactly r offset size).0 e).0 in subst (λ (v : Ruling). P (judged_for (length m) (length x) v)) (sym (read_asked r a) ∙ e) (g a)

  read_ruled : ReadAsked r → sbe_ruling r m x ≡ read_at status
  unfolding sbe_ruling judged_for
  read_ruled a = ap (judged_for (length m) (length x)) (read_asked r a)

  change_ruled : (ch : Change) → sbe_ruling r m x ≡ Grant ch → request_ruling r ≡ Grant ch
  unfolding grants
  change_ruled ch =
      by_request (λ (v : Ruling). v ≡ Grant ch → request_ruling r ≡ Grant ch) (λ v e h. e ∙ h) (λ a h. absurd (true≢false (sym (ap grants h) ∙ never_grants status)))

  -- what is done without a change, or served
  done_ruled : (sbe_ruling r m x ≡ Done) ↔ (Plainly r ⊎ Served r m x)
  unfolding sbe_ruling judged_for
  done_ruled = (
    by_request (λ (v : Ruling). v ≡ Done → Plainly r ⊎ Served r m x) (λ v e h. inl ((done_exactly r).0 (e ∙ h)))
        (λ a h. inr (a, (read_done _ _ _ _ status status_is).0 h)),
    ⊎_elim (λ p. ap (judged_for (length m) (length x)) ((done_exactly r).1 p)) (λ h. read_ruled h.0 ∙ (read_done _ _ _ _ status status_is).1 h.1),
  )

  -- the statuses, the request's own and a read's
  abbrev OwnStatus : Status → Type 0
  OwnStatus n = RequestStatus r n ⊎ (ReadAsked r and ReadStatus r m x n)

  own_ruled : (n : Status) → Refuses (sbe_ruling r m x) n ↔ OwnStatus n
  unfolding ReadStatus sbe_ruling judged_for
  own_ruled n =
      let rows = read_rows _ _ _ _ status status_is in (
        by_request (λ (v : Ruling). Refuses v n → OwnStatus n) (λ v e h. inl (((request_rows r).exactly n).0 (h.0, e ∙ h.1, h.2))) (λ a h. inr (a, (rows.exactly n).0 h)),
        ⊎_elim (λ t. let h = ((request_rows r).exactly n).1 t in (h.0, ap (judged_for (length m) (length x)) h.1, h.2))
            (λ t. let h = (rows.exactly n).1 t.1 in (h.0, read_ruled t.0 ∙ h.1, h.2)),
      )

  -- a request that makes a change is no read
  changes_ruled : Changes r → grants (sbe_ruling r m x) ≡ true
  unfolding grants
  changes_ruled c =
      by_request (λ (v : Ruling). grants v ≡ true) (λ v e. sym (ap grants e) ∙ (changes_exactly r).1 c)
      (λ a. absurd (true≢false (sym ((changes_exactly r).1 c) ∙ ap grants (read_asked r a))))

  -- and by now there is none left to judge
  none_read : (offset size : ℕ) → sbe_ruling r m x ≡ Read offset size → ⊥
  unfolding sbe_ruling
  none_read offset size e = true≢false (sym (ap is_read e) ∙ judged_read (length m) (length x) (request_ruling r))

-- ---- by the profile (k): what would make an entry is refused with 05/20, and nothing else differs

denied_change : (v : Ruling) → grants v ≡ true → denied v ≡ Decline AccessDenied
unfolding denied grants
denied_change (Decline why) g = absurd (false≢true g)
denied_change (Grant ch) g = refl
denied_change Done g = absurd (false≢true g)
denied_change (Read offset size) g = absurd (false≢true g)

denied_same : (v : Ruling) → grants v ≡ false → denied v ≡ v
unfolding denied grants
denied_same (Decline why) g = refl
denied_same (Grant ch) g = absurd (true≢false g)
denied_same Done g = refl
denied_same (Read offset size) g = refl

-- a ruling that grants nothing stays
stays : (profile : ℕ) (v : Ruling) → grants v ≡ false → by_profile profile v ≡ v
unfolding by_profile
stays profile v g = cond_elim (λ (u : Ruling). u ≡ v) (eqb profile 0) refl (denied_same v g)

module _ (s : Session) (r m x : List ℕ) where
  -- the ruling of a call
  abbrev pub ruling : Ruling
  ruling = by_profile s.profile (sbe_ruling r m x)

  -- it is the one that was judged, in a full session or where nothing is granted; else 05/20
  by_profile_lem : (P : Ruling → Type 0) → ((s.profile ≡ 0) ⊎ (grants (sbe_ruling r m x) ≡ false) → P (sbe_ruling r m x))
      → ((s.profile ≡ 0 → ⊥) → grants (sbe_ruling r m x) ≡ true → P (Decline AccessDenied)) → P ruling
  unfolding by_profile
  by_profile_lem P same other =
      cond_cases P (eqb s.profile 0) (λ t. same (inl (eqb-true s.profile 0 t)))
      (λ t. go (eqb-false s.profile 0 t) (grants (sbe_ruling r m x)) refl)
    where
      go : (s.profile ≡ 0 → ⊥) → (b : Bool) → grants (sbe_ruling r m x) ≡ b → P (denied (sbe_ruling r m x))
      go z true g = subst P (sym (denied_change (sbe_ruling r m x) g)) (other z g)
      go z false g = subst P (sym (denied_same (sbe_ruling r m x) g)) (same (inr g))

  -- a change is granted in a full session, as the request has it
  pub change_granted : (ch : Change) → ruling ≡ Grant ch → (request_ruling r ≡ Grant ch) × (s.profile ≡ 0)
  unfolding grants
  change_granted ch =
      by_profile_lem (λ (v : Ruling). v ≡ Grant ch → (request_ruling r ≡ Grant ch) × (s.profile ≡ 0))
      (λ p e. (change_ruled r m x ch e, ⊎_elim (λ z. z) (λ g. absurd (true≢false (sym (ap grants e) ∙ g))) p))
      (λ z g e. absurd (false≢true (ap grants e)))

  pub changes_granted : Changes r → s.profile ≡ 0 → grants ruling ≡ true
  changes_granted c full = by_profile_lem (λ (v : Ruling). grants v ≡ true) (λ p. changes_ruled r m x c) (λ z g. absurd (z full))

  -- what is answered without a change is so in any
  pub plain_exactly : (ruling ≡ Done) ↔ (Plainly r ⊎ Served r m x)
  unfolding grants accepts
  plain_exactly = (
    by_profile_lem (λ (v : Ruling). v ≡ Done → Plainly r ⊎ Served r m x) (λ p e. (done_ruled r m x).0 e) (λ z g e. absurd (false≢true (ap accepts e))),
    λ h. let e = (done_ruled r m x).1 h in stays s.profile (sbe_ruling r m x) (ap grants e) ∙ e,
  )

  pub never_changes : ruling ≡ Done → Changes r → ⊥
  unfolding grants accepts
  never_changes e c =
      by_profile_lem (λ (v : Ruling). v ≡ Done → ⊥) (λ p h. false≢true (sym (ap grants h) ∙ changes_ruled r m x c)) (λ z g h. false≢true (ap accepts h)) e

  pub never_read : (offset size : ℕ) → ruling ≡ Read offset size → ⊥
  never_read offset size =
      by_profile_lem (λ (v : Ruling). v ≡ Read offset size → ⊥) (λ p e. none_read r m x offset size e) (λ z g e. false≢true (ap is_read e))

  -- the statuses
  granted_changes : (v : Ruling) → sbe_ruling r m x ≡ v → grants v ≡ true → Changes r
  unfolding grants
  granted_changes (Decline why) e g = absurd (false≢true g)
  granted_changes (Grant ch) e g = (changes_exactly r).0 (ap grants (change_ruled r m x ch e))
  granted_changes Done e g = absurd (false≢true g)
  granted_changes (Read offset size) e g = absurd (false≢true g)

  own_stays : (n : Status) → OwnStatus r m x n → Refuses ruling n
  unfolding grants
  own_stays n t = let e = (own_ruled r m x n).1 t in (e.0, stays s.profile (sbe_ruling r m x) (ap grants e.1) ∙ e.1, e.2)

  watch_refuses : (s.profile ≡ 0 → ⊥) → Changes r → ruling ≡ Decline AccessDenied
  watch_refuses z c =
      by_profile_lem (λ (v : Ruling). v ≡ Decline AccessDenied) (⊎_elim (λ full. absurd (z full)) (λ g. absurd (true≢false (sym (changes_ruled r m x c) ∙ g)))) (λ y g. refl)

  pub status_ruled : (n : Status) → Refuses ruling n ↔ SbeStatus s r m x n
  unfolding SbeStatus
  status_ruled n = (
    by_profile_lem (λ (v : Ruling). Refuses v n → SbeStatus s r m x n) (λ p e. ⊎_elim (λ t. inl t) (λ t. inr (inl t)) ((own_ruled r m x n).0 e))
        (λ z g e. inr (inr (z, (granted_changes (sbe_ruling r m x) refl g, ((refuses AccessDenied).exactly n).0 e)))),
    ⊎_elim (λ t. own_stays n (inl t))
        (⊎_elim (λ t. own_stays n (inr t)) (λ t. (AccessDenied, watch_refuses t.0 t.1.0, t.1.1))),
  )

-- ---- the second buffer

module _ (s : Session) (r d : List ℕ) where
  none_refused : SbeDue s r d → sbe_refusal s (length r) (length d) ≡ 0
  unfolding sbe_refusal refusal_of
  none_refused y = sym (else_b _ _ (ap not y.formed) (else_lt _ _ y.reply (else_lt _ _ y.request refl)))

  is_due : sbe_refusal s (length r) (length d) ≡ 0 → SbeDue s r d
  unfolding sbe_refusal refusal_of
  is_due =
      cond_cases (λ (n : ℕ). n ≡ 0 → SbeDue s r d) (not (well_formed s)) (λ f e. absurd (omega (arith, e)))
      (λ f. cond_cases (λ (n : ℕ). n ≡ 0 → SbeDue s r d) (ltb (length d) 32) (λ h e. absurd (omega (arith, e)))
      (λ h. cond_cases (λ (n : ℕ). n ≡ 0 → SbeDue s r d) (ltb (length r) 32) (λ l e. absurd (omega (arith, e)))
      (λ l e. record { formed = not-false _ f; reply = ltb-false _ _ h; request = ltb-false _ _ l })))

  abbrev Succeeded : Asks → Type 0
  Succeeded a = ((settled s d a).answer ≡ 0) and ((settled s d a).reply ≡ at_front (response_bytes 0x00 0x00 r) d)

  done_so : Succeeded (due 0 (ruling_asks r d Done))
  unfolding due ruling_asks told_of settled done
  done_so = (refl, front_is (response_bytes 0x00 0x00 r) d)

  module _ (m x : List ℕ) where
    -- "into a second lent buffer, kept .. past the data"
    pub data_served : SbeDue s r d → Served r m x → sbe_data s r d m x ≡ at_front (take (word_at 12 r) (drop (word_at 8 r) m)) x
    unfolding sbe_data data_for served_by served_at
    data_served y h =
        sym (else_ne _ _ (none_refused y) refl)
        ∙ ap (λ (v : Ruling). served_by v m x) (read_asked r h.0)
        ∙ ap (λ (n : Tested). served_at n (word_at 8 r) (word_at 12 r) m x) (read_served _ _ _ _ (status r m x) (status_is r m x) h.1)
        ∙ front_is (take (word_at 12 r) (drop (word_at 8 r) m)) x

    -- by every other call it is kept
    read_kept : (n : Tested) → ReadIs r m x n → (InImage r m and (word_at 12 r ≤ length x) → ⊥) → served_at n (word_at 8 r) (word_at 12 r) m x ≡ x
    unfolding served_at
    read_kept n (outside h) z = refl
    read_kept n (too_long_lem h l) z = refl
    read_kept n (fits h l) z = absurd (z (h, l))

    request_kept : (v : Ruling) → request_ruling r ≡ v → (Served r m x → ⊥) → served_by v m x ≡ x
    unfolding served_by
    request_kept (Decline why) e z = refl
    request_kept (Grant ch) e z = refl
    request_kept Done e z = refl
    request_kept (Read offset size) e z =
        let a = ((read_exactly r offset size).0 e).0 in
        subst (λ (v : Ruling). served_by v m x ≡ x) (sym (read_asked r a) ∙ e) (read_kept (status r m x) (status_is r m x) (λ k. z (a, k)))

    pub data_kept : (SbeDue s r d and Served r m x → ⊥) → sbe_data s r d m x ≡ x
    unfolding sbe_data data_for
    data_kept z =
        cond_cases (λ (l : List ℕ). l ≡ x) (not (eqb (sbe_refusal s (length r) (length d)) 0)) (λ f. refl)
        (λ f. let y = is_due (eqb-true _ 0 (not-false _ f)) in request_kept (request_ruling r) refl (λ h. z (y, h)))

    -- "kept on refusal": a read that is served succeeds
    served_succeeds : SbeDue s r d → Served r m x → SbeSucceeds s r d m x
    unfolding SbeSucceeds sbe_call sbe_asks sbe_read
    served_succeeds y h = subst Succeeded (sym (λ i. due (none_refused y i) (ruling_asks r d ((plain_exactly s r m x).1 (inr h) i)))) done_so

    pub data_refused : (SbeSucceeds s r d m x → ⊥) → sbe_data s r d m x ≡ x
    data_refused z = data_kept (λ h. z (served_succeeds h.0 h.1))

-- on lent bytes: those of an image's length as on its session, any others keep it
pub data_on_image : (b r d m x : List ℕ) → length b ≡ image_length → data_on b r d m x ≡ sbe_data (session_of b) r d m x
unfolding data_on
data_on_image b r d m x long = sym (else_ne _ _ long refl)

pub data_no_image : (b r d m x : List ℕ) → (length b ≡ image_length → ⊥) → data_on b r d m x ≡ x
unfolding data_on
data_no_image b r d m x other = sym (if_ne _ _ other refl)

-- it depends on the session by its being well formed alone
pub second_same : (s t : Session) → well_formed s ≡ true → well_formed t ≡ true → (c : Call) → second_of t c ≡ second_of s c
unfolding second_of sbe_data sbe_refusal
second_same s t ok ok' (occ sender c d) = refl
second_same s t ok ok' (sbe r d m x) = ap (λ (b : Bool). data_for (refusal_of b (length r) (length d)) r m x) (ok' ∙ sym ok)
second_same s t ok ok' undo = refl
second_same s t ok ok' redo = refl
second_same s t ok ok' (forget n) = refl
second_same s t ok ok' (time n) = refl
