-- One call on two sessions that are the same but for ids: both say the same but for ids, and do the same. Assumes nothing.
use Rattle.packet.specs.declared.Status.TheVariants.{InvalidData}
use Rattle.places.specs.declared.Fault.{Fault}
use Rattle.std.specs.Prelude.{ℕ, suc, ◌≤◌, Bool, true, false, not, ◌⊎◌, ◌≡◌, Ok, Err, eqb, length, get_or}
use Rattle.std.proofs.Math.Bool.{cond}
use Rattle.std.proofs.lemmas.Bool.{false≢true, not-false}
use Rattle.std.proofs.Math.Logic.{inl, inr, ⊎_elim}
use Rattle.std.proofs.Math.Path.{refl, sym, ap, subst}
use Rattle.std.proofs.Common.{ap₂, ◌∙◌, eqb-true}
use mathlib.Core.List.{List}
use Rattle.wire.proofs.laws.Cases.{cond_cases, by_both, by_same}
use Rattle.wire.specs.Wire.{Bytes, pasted}
use Rattle.change.specs.Change.{no_tables, kind_of}
use Rattle.change.specs.declared.Change.{Change}
use Rattle.change.specs.declared.Change.TheVariants.{Clear, Unclear, SetState, SetRole, SetCaps, SetUser, SetThermal, SetThrottles, Reset, Unreset, SetMask, SetDeadman, SetAreas, SetTimer}
use Rattle.change.specs.declared.Edit.{Edit}
use Rattle.change.specs.declared.Tables.{Tables}
use Rattle.journal.specs.Ways.{by_way}
use Rattle.journal.specs.declared.Way.{Way}
use Rattle.journal.specs.declared.Way.TheVariants.{Before, After}
use Rattle.packet.specs.Packet.{data_of, replied}
use Rattle.poll.specs.Poll.{poll_data}
use Rattle.occ.specs.declared.Judged.{Judged}
use Rattle.occ.specs.declared.Verdict.{Verdict}
use Rattle.occ.specs.declared.Verdict.TheVariants.{Refuse, Poll, Make}
use Rattle.places.specs.Places.{fault_of}
use Rattle.std.specs.Prelude.{Option, None}
use Rattle.sbe.specs.Mailbox as mailbox
use Rattle.sbe.specs.Conditions.{grants}
use Rattle.sbe.proofs.laws.Made.{change_fits}
use Rattle.sbe.specs.declared.Refusal.{Refusal}
use Rattle.sbe.specs.declared.Ruling.{Ruling}
use Rattle.sbe.specs.Mailbox.{Tested}
use Rattle.sbe.specs.declared.Ruling.TheVariants.{Decline, Grant, Done, Read}
use Rattle.session.specs.Session.{well_formed, carried_of}
use Rattle.session.specs.Road.{Asks, refuses, tells, makes, moves, passes, timer_bell, due, kept, done, carried_says, settled}
use Rattle.session.specs.declared.Session.{Session}
use Rattle.occ.specs.Open.{open_in, by_profile}
use Rattle.occ_call.specs.Occ as occs
use Rattle.occ_call.proofs.laws.Why.{asked_read}
use Rattle.sbe_call.specs.Sbe as sbes
use Rattle.undo_call.specs.Undo.{move_asks, passed_by}
use Rattle.time_call.specs.Time.{time_asks}
use Rattle.promises.specs.Calls.{Call, occ, buffer_of, asks, said}
use Rattle.promises.specs.History.{Deed, keeps, adds, strikes, unstrikes, drops, ticks, adding, deed_by, deed, OfBytes}
use Rattle.promises.proofs.laws.Shifted.{shifted_change, shifted_edit, choose}
use Rattle.promises.specs.Shifted.{shifted_record}
use Rattle.promises.specs.Lent.{told}
use Rattle.promises.proofs.laws.Judgements.{shifted_verdict, shifted_judged, Ended, Likewise, old_id, asked_same, asked_clears}
use Rattle.promises.proofs.laws.Aside.{told_moved}
use Rattle.promises.proofs.laws.Blames.{same_fault, clears_fault, verdict_fault}
use Rattle.promises.specs.Later.{Clears, SameWish, occ_same, occ_clears, sbe_same, undo_same, time_same, SameReply, same_bytes, same_poll, Twins, Alike, IdsEnd, ids_end}

-- what a call does, in the second world
unfoldable pub shifted_deed : ℕ → Deed → Deed
shifted_deed k keeps = keeps
shifted_deed k (adds e) = adds (shifted_edit k e)
shifted_deed k strikes = strikes
shifted_deed k unstrikes = unstrikes
shifted_deed k (drops n) = drops n
shifted_deed k (ticks n) = ticks n

-- what is no grant
no_grant : {why : Refusal} {ch : Change} → Decline why ≡ Grant ch → ⊥
unfolding grants
no_grant g = false≢true (ap grants g)

no_grant_done : {ch : Change} → Done ≡ Grant ch → ⊥
unfolding grants
no_grant_done g = false≢true (ap grants g)

-- ---- what is asked in both worlds

pub data AlikeAsks (k : ℕ) (s : Session) : Asks → Asks → Type 0 where
  both_refuse : (n : ℕ) → AlikeAsks k s (refuses n) (refuses n)
  both_tell : (bell : ℕ) (y y' : List ℕ) → SameReply k s y y' → AlikeAsks k s (tells bell y) (tells bell y')
  both_make : (e : Edit) (bell : ℕ) (y : List ℕ) → AlikeAsks k s (makes e bell y) (makes (shifted_edit k e) bell y)
  both_move : (w : Way) (at at' : ℕ) (e e' : Edit) → kind_of e'.change ≡ kind_of e.change → AlikeAsks k s (moves w at e) (moves w at' e')
  both_pass : (n : ℕ) → AlikeAsks k s (passes n) (passes n)

both_due : (k : ℕ) (s : Session) (n : ℕ) {a b : Asks} → AlikeAsks k s a b → AlikeAsks k s (due n a) (due n b)
unfolding due
both_due k s n h = by_both (AlikeAsks k s) (not (eqb n 0)) (λ f. both_refuse n) (λ f. h)

-- ---- one call on two sessions that are the same but for ids

module _ (k : ℕ) (low : 1 ≤ k) (s t : Session) (tw : Twins k s t) (from_k : k ≤ s.next) (formed-s : well_formed s ≡ true) (formed-t : well_formed t ≡ true)
    (full_is : (e : Edit) → (carried_of t (shifted_edit k e)).full ≡ (carried_of s e).full) where
  shifted_way : (w : Way) → by_way w strikes unstrikes ≡ shifted_deed k (by_way w strikes unstrikes)
  unfolding shifted_deed by_way
  shifted_way Before = refl
  shifted_way After = refl

  -- what is asked alike is said alike, and does alike: a change has room in both journals or in none
  settled_alike : (d : List ℕ) (a b : Asks) → AlikeAsks k s a b → Alike k s (settled s d a) (settled t d b) × (deed_by t b ≡ shifted_deed k (deed_by s a))
  unfolding settled carried_says kept done deed_by adding shifted_deed
  settled_alike d a b (both_refuse n) = (record { answer = refl; bell = refl; kind = refl; reply = same_bytes d }, refl)
  settled_alike d a b (both_tell bell y y' h) = (record { answer = refl; bell = refl; kind = refl; reply = h }, refl)
  settled_alike d a b (both_make e bell y) = (
    by_same (Alike k s) (carried_of s e).full (carried_of t (shifted_edit k e)).full (full_is e)
        (λ f. record { answer = refl; bell = refl; kind = refl; reply = same_bytes d }) (λ f. record { answer = refl; bell = refl; kind = refl; reply = same_bytes y }),
    choose (shifted_deed k) {b = (carried_of s e).full} {x = keeps} {y = adds e} (full_is e) refl refl,
  )
  settled_alike d a b (both_move w at at' e e' h) = (record { answer = refl; bell = refl; kind = h; reply = same_bytes d }, shifted_way w)
  settled_alike d a b (both_pass n) = (record { answer = refl; bell = ap (timer_bell n) tw.timer_is; kind = refl; reply = same_bytes d }, refl)

  -- ---- OCC

  module _ (seq kind : ℕ) (d : List ℕ) where
    poll_there : replied seq 0x00 0x00 (poll_data t.held t.worked) d ≡ replied seq 0x00 0x00 (poll_data (shifted_record k s.held) s.worked) d
    poll_there = λ i. replied seq 0x00 0x00 (poll_data (tw.held_is i) (tw.worked_is i)) d

    verdict_alike : (b : Tables) (v : Verdict)
        → AlikeAsks k s (occs.verdict_asks s.held s.worked seq kind d b v) (occs.verdict_asks t.held t.worked seq kind d b (shifted_verdict k v))
    unfolding occs.verdict_asks occs.told_of shifted_verdict shifted_edit
    verdict_alike b (Refuse status) = both_tell 0 _ _ (same_bytes _)
    verdict_alike b Poll = both_tell 0 _ _ (subst (SameReply k s _) (sym poll_there) (same_poll seq d))
    verdict_alike b (Make ch) = both_make (record { change = ch; tables = b }) 0 _

    judged_alike : (j j' : Judged) → j' ≡ shifted_judged k j
        → AlikeAsks k s (occs.judged_asks 0 s.held s.worked seq kind d j) (occs.judged_asks 0 t.held t.worked seq kind d j')
    unfolding occs.judged_asks shifted_judged by_profile open_in
    judged_alike j j' e =
        subst (λ (x : Judged). AlikeAsks k s (occs.judged_asks 0 s.held s.worked seq kind d j) (occs.judged_asks 0 t.held t.worked seq kind d x)) (sym e)
        (verdict_alike j.tables j.verdict)

  module _ (sender : ℕ) (c c' d : List ℕ) (long : length c' ≡ length c) (sequence : get_or c' 0 0 ≡ get_or c 0 0) (type : get_or c' 1 0 ≡ get_or c 1 0) where
    abbrev n : ℕ
    n = occs.occ_refusal s sender (length c) (length d)

    abbrev j : Judged
    j = occs.asked_of s.held s.worked s.next sender c

    abbrev j' : Judged
    j' = occs.asked_of t.held t.worked t.next sender c'

    refusal_is : occs.occ_refusal t sender (length c') (length d) ≡ n
    unfolding occs.occ_refusal
    refusal_is = λ i. occs.refusal_of ((formed-t ∙ sym formed-s) i) sender (long i) (length d)

    ended : n ≡ 0 → Ended s.next j j' → IdsEnd s t (occ sender c d) (occ sender c' d)
    ended z e =
        ids_end sender c c' d e.reason z e.last (tw.next_is ∙ ap suc e.last)
        (e.makes ∙ ap (λ (i : ℕ). Make (Reset (record { id = i; reason = e.reason }))) e.last) e.refuses

    abbrev here : Asks
    here = occs.judged_asks 0 s.held s.worked (get_or c 0 0) (get_or c 1 0) d j

    abbrev there : Asks
    there = occs.judged_asks 0 t.held t.worked (get_or c 0 0) (get_or c 1 0) d j'

    first_front : due n here ≡ occs.occ_asks s sender c d
    unfolding occs.occ_asks occs.occ_read
    first_front = λ i. due n (occs.judged_asks (sym tw.full i) s.held s.worked (get_or c 0 0) (get_or c 1 0) d j)

    -- the second packet's sequence number, type and length are the first one's
    same_front : due n there ≡ occs.occ_asks t sender c' d
    unfolding occs.occ_asks occs.occ_read
    same_front = λ i. due (sym refusal_is i) (occs.judged_asks (sym tw.full' i) t.held t.worked (sym sequence i) (sym type i) d j')

    -- the same data byte is told, if one is
    module _ (fault-is : j' ≡ shifted_judged k j → occs.fault_for j'.verdict t.held (get_or c' 1 0) (data_of c') ≡ occs.fault_for j.verdict s.held (get_or c 1 0) (data_of c)) where
      abbrev here_told : Option Fault
      here_told = occs.fault_for j.verdict s.held (get_or c 1 0) (data_of c)

      abbrev there_told : Option Fault
      there_told = occs.fault_for j'.verdict t.held (get_or c' 1 0) (data_of c')

      abbrev Alikes : Asks → Asks → Option Fault → Option Fault → Type 0
      Alikes a b x y = IdsEnd s t (occ sender c d) (occ sender c' d) ⊎ (AlikeAsks k s a b × (y ≡ x))

      by_refusal : (b : Bool) → not (eqb n 0) ≡ b → Likewise k s.next j j'
          → Alikes (cond b (refuses n) here) (cond b (refuses n) there) (cond b None here_told) (cond b None there_told)
      by_refusal true e same = inr (both_refuse n, refl)
      by_refusal false e same =
          ⊎_elim (λ h. inr (judged_alike (get_or c 0 0) (get_or c 1 0) d j j' h, fault-is h)) (λ h. inl (ended (eqb-true n 0 (not-false _ e)) h)) same

      why_there : cond (not (eqb n 0)) None there_told ≡ occs.occ_why t sender c' d
      unfolding occs.occ_why occs.why_from occs.why_read by_profile open_in
      why_there = λ i. cond (not (eqb (sym refusal_is i) 0)) None (occs.fault_for (by_profile (sym tw.full' i) (get_or c' 1 0) j'.verdict) t.held (get_or c' 1 0) (data_of c'))

      why_here : cond (not (eqb n 0)) None here_told ≡ occs.occ_why s sender c d
      unfolding occs.occ_why occs.why_from occs.why_read by_profile open_in
      why_here = λ i. cond (not (eqb n 0)) None (occs.fault_for (by_profile (sym tw.full i) (get_or c 1 0) j.verdict) s.held (get_or c 1 0) (data_of c))

      occ_alike : Likewise k s.next j j' → Alikes (occs.occ_asks s sender c d) (occs.occ_asks t sender c' d) (occs.occ_why s sender c d) (occs.occ_why t sender c' d)
      unfolding due
      occ_alike same = subst (λ (T : Type 0). T) (λ i. Alikes (first_front i) (same_front i) (why_here i) (why_there i)) (by_refusal (not (eqb n 0)) refl same)

  -- ---- SBE: its changes have no log

  module _ (r d : List ℕ) (bytes : Bytes r) where
    no_log_lem : (ch : Change) → mailbox.request_ruling r ≡ Grant ch → shifted_change k ch ≡ ch
    unfolding shifted_change
    no_log_lem (Clear place log) e = absurd (change_fits r bytes _ e)
    no_log_lem (Unclear place log) e = absurd (change_fits r bytes _ e)
    no_log_lem (SetState state) e = refl
    no_log_lem (SetRole got role) e = refl
    no_log_lem (SetCaps got caps) e = refl
    no_log_lem (SetUser user) e = refl
    no_log_lem (SetThermal got) e = refl
    no_log_lem (SetThrottles got) e = refl
    no_log_lem (Reset log) e = absurd (change_fits r bytes _ e)
    no_log_lem (Unreset state made) e = refl
    no_log_lem (SetMask mask) e = refl
    no_log_lem (SetDeadman deadman) e = refl
    no_log_lem (SetAreas areas) e = refl
    no_log_lem (SetTimer timer) e = refl

    edit_is : (ch : Change) → mailbox.request_ruling r ≡ Grant ch → shifted_edit k (record { change = ch; tables = no_tables }) ≡ record { change = ch; tables = no_tables }
    unfolding shifted_edit
    edit_is ch granted = λ i. record { change = no_log_lem ch granted i; tables = no_tables }

    told_alike : (v : Ruling) → ((ch : Change) → v ≡ Grant ch → mailbox.request_ruling r ≡ Grant ch) → AlikeAsks k s (sbes.ruling_asks r d v) (sbes.ruling_asks r d v)
    unfolding sbes.ruling_asks
    told_alike (Decline why) e = both_tell _ _ _ (same_bytes _)
    told_alike (Grant ch) e =
        subst (λ (x : Edit). AlikeAsks k s (sbes.ruling_asks r d (Grant ch)) (makes x (mailbox.bell_of r) (pasted 0 (mailbox.response_bytes 0x00 0x00 r) d))) (edit_is ch (e ch refl)) (both_make _ _ _)
    told_alike Done e = both_tell _ _ _ (same_bytes _)
    told_alike (Read offset size) e = both_tell _ _ _ (same_bytes _)

    -- a change is granted by the request itself, whatever image and buffer are lent
    granted_so : (image room : ℕ) (v : Ruling) → mailbox.request_ruling r ≡ v → (ch : Change) → sbes.judged_for image room v ≡ Grant ch → mailbox.request_ruling r ≡ Grant ch
    unfolding sbes.judged_for sbes.read_at
    granted_so image room (Decline why) e ch = λ g. e ∙ g
    granted_so image room (Grant x) e ch = λ g. e ∙ g
    granted_so image room Done e ch = λ g. e ∙ g
    granted_so image room (Read offset size) e ch =
        by_read (sbes.read_status image room offset size)
      where
        by_read : (status : Tested) → sbes.read_at status ≡ Grant ch → mailbox.request_ruling r ≡ Grant ch
        by_read (Err why) g = absurd (no_grant g)
        by_read (Ok x) g = absurd (no_grant_done g)

    sbe_alike : (m x : List ℕ) → AlikeAsks k s (sbes.sbe_asks s r d m x) (sbes.sbe_asks t r d m x)
    unfolding sbes.sbe_asks sbes.sbe_read sbes.by_profile sbes.sbe_ruling sbes.sbe_refusal
    sbe_alike m x =
        subst (λ (T : Type 0). T)
        (λ i. AlikeAsks k s (due (sbes.sbe_refusal s (length r) (length d)) (sbes.sbe_read (sym tw.full i) r d m x))
        (due (sbes.refusal_of ((formed-s ∙ sym formed-t) i) (length r) (length d)) (sbes.sbe_read (sym tw.full' i) r d m x)))
        (both_due k s _ (told_alike (sbes.sbe_ruling r m x) (granted_so (length m) (length x) (mailbox.request_ruling r) refl)))

  -- ---- time

  time_alike : (n : ℕ) → AlikeAsks k s (time_asks n s) (time_asks n t)
  unfolding time_asks
  time_alike n =
      subst (λ (f : Bool). AlikeAsks k s (time_asks n s) (cond (not f) (refuses 1) (passes n))) (formed-s ∙ sym formed-t)
      (cond_cases (λ (a : Asks). AlikeAsks k s a a) (not (well_formed s)) (λ f. both_refuse 1) (λ f. both_pass n))

  -- ---- any call

  module _ (undo-alike : AlikeAsks k s (move_asks Before s) (move_asks Before t)) (passed-alike : passed_by Before t ≡ passed_by Before s) where
    abbrev Heard : Call → Call → Type 0
    Heard c c' = IdsEnd s t c c' ⊎ (Alike k s (said s c) (said t c') × (deed t c' ≡ shifted_deed k (deed s c)) × (told t c' ≡ told s c))

    said_alike : (c c' : Call) → buffer_of c' ≡ buffer_of c → AlikeAsks k s (asks s c) (asks t c') → Alike k s (said s c) (said t c') × (deed t c' ≡ shifted_deed k (deed s c))
    unfolding said deed
    said_alike c c' same h =
        subst (λ (d : List ℕ). Alike k s (said s c) (settled t d (asks t c')) × (deed t c' ≡ shifted_deed k (deed s c))) (sym same) (settled_alike (buffer_of c) _ _ h)

    moved_there : (sender : ℕ) (c c' : List ℕ)
        → Likewise k s.next (occs.asked_of s.held s.worked s.next sender c) (occs.asked_of (shifted_record k s.held) s.worked (suc s.next) sender c')
        → Likewise k s.next (occs.asked_of s.held s.worked s.next sender c) (occs.asked_of t.held t.worked t.next sender c')
    moved_there sender c c' =
        subst (Likewise k s.next (occs.asked_of s.held s.worked s.next sender c))
        (λ i. occs.asked_of (sym tw.held_is i) (sym tw.worked_is i) (sym tw.next_is i) sender c')

    occ_heard_lem : (sender : ℕ) (c c' d : List ℕ)
        → IdsEnd s t (occ sender c d) (occ sender c' d) ⊎ (AlikeAsks k s (occs.occ_asks s sender c d) (occs.occ_asks t sender c' d) × (occs.occ_why t sender c' d ≡ occs.occ_why s sender c d))
        → Heard (occ sender c d) (occ sender c' d)
    unfolding asks buffer_of told
    occ_heard_lem sender c c' d =
        ⊎_elim inl
        (λ h.
        let o = said_alike (occ sender c d) (occ sender c' d) refl h.0 in
        inr (o.0, o.1, (λ i. occs.beside_of (o.0.answer i) (h.1 i))))

    -- the data byte beside 0x13, by its verdict: of a packet that both send, and of the two clears of one log
    fault_there : (sender : ℕ) (c c' : List ℕ) → ((occs.asked_of s.held s.worked s.next sender c).verdict ≡ Refuse InvalidData
        → fault_of (shifted_record k s.held) (get_or c' 1 0) (data_of c') ≡ fault_of s.held (get_or c 1 0) (data_of c))
        → occs.asked_of t.held t.worked t.next sender c' ≡ shifted_judged k (occs.asked_of s.held s.worked s.next sender c)
        → occs.fault_for (occs.asked_of t.held t.worked t.next sender c').verdict t.held (get_or c' 1 0) (data_of c')
        ≡ occs.fault_for (occs.asked_of s.held s.worked s.next sender c).verdict s.held (get_or c 1 0) (data_of c)
    unfolding shifted_judged
    fault_there sender c c' h e =
        (λ i. occs.fault_for (e i).verdict (tw.held_is i) (get_or c' 1 0) (data_of c'))
        ∙ verdict_fault k low s.held (occs.asked_of s.held s.worked s.next sender c).verdict (get_or c 1 0) (get_or c' 1 0) (data_of c) (data_of c') h

    clears_there : (c c' : List ℕ) → Clears k c c' → fault_of (shifted_record k s.held) (get_or c' 1 0) (data_of c') ≡ fault_of s.held (get_or c 1 0) (data_of c)
    clears_there c c' h =
        ap₂ (fault_of (shifted_record k s.held)) h.type' h.names' ∙ clears_fault k low s.held h.id ∙ sym (ap₂ (fault_of s.held) h.type h.names)

    pub heard : (c c' : Call) → SameWish k c c' → OfBytes c → Heard c c'
    unfolding asks buffer_of told
    heard c c' (occ_same sender x d h) b =
        occ_heard_lem sender x x d (occ_alike sender x x d refl refl refl
        (fault_there sender x x (λ v. same_fault k low s.held (get_or x 1 0) (data_of x) (old_id k x h (asked_read s sender x v).0)))
        (moved_there sender x x (asked_same k low s.next from_k s.held s.worked sender x h)))
    heard c c' (occ_clears sender x x' d h) b =
        occ_heard_lem sender x x' d (occ_alike sender x x' d h.long h.sequence (h.type' ∙ sym h.type) (fault_there sender x x' (λ v. clears_there x x' h))
        (moved_there sender x x' (asked_clears k low s.next from_k s.held s.worked sender x x' h)))
    heard c c' (sbe_same r d m x) b =
        let o = said_alike c c' refl (sbe_alike r d b m x) in
        inr (o.0, o.1, (λ i. record { answer = o.0.answer i; small = 0; beside = o.0.bell i }))
    heard c c' undo_same b =
        let o = said_alike c c' refl undo-alike in
        inr (o.0, o.1, (λ i. told_moved (o.0.answer i) (passed-alike i) (o.0.kind i)))
    heard c c' (time_same n) b =
        let o = said_alike c c' refl (time_alike n) in
        inr (o.0, o.1, (λ i. record { answer = o.0.answer i; small = 0; beside = o.0.bell i }))
