-- Demands 1 and 2 of the call `occ`, read off its ways. Assumes nothing.
use Rattle.std.specs.Prelude.{Err, Ok as Good}
use Rattle.std.specs.Result.{is_ok}
use Rattle.packet.specs.Packet.{status_number}
use Rattle.packet.specs.declared.Status.{Status}
use Rattle.packet.specs.declared.Status.TheVariants.{InvalidCommand, InvalidLength, InvalidData, ChecksumFailure, InternalError, StateProhibits}
use Rattle.std.specs.Prelude.{ℕ, ◌+◌, ◌≤◌, true, false, ◌↔◌, ◌⊎◌, ◌≡◌}
use Rattle.std.proofs.Math.Bool.{false≢true}
use Rattle.std.proofs.Common.{true≢false, subst, ◌∙◌, arith}
use Rattle.std.proofs.Math.Logic.{inl, inr, ⊎_elim}
use Rattle.std.proofs.Math.Logic.Iff
use Rattle.std.proofs.Math.Path.{refl, sym, ap}
use mathlib.Core.List.{List, []}
use Rattle.std.proofs.Math.Nat.{not-le_of_lt}
use Rattle.std.proofs.Math.ListN.{length, get_or}
use Rattle.wire.specs.Conditions.{◌and◌, is, row, here, later}
use Rattle.wire.proofs.laws.Cases.{cond_cases, else_eq}
use Rattle.wire.proofs.laws.Tables.{ByTable, by_is, hit, miss}
use Rattle.record.specs.Record.{worked_of}
use Rattle.record.specs.declared.Worked.{Worked}
use Rattle.change.specs.declared.Change.{Change}
use Rattle.packet.specs.Packet.{packet_status, data_of, reply_bytes, no_log_id, replied}
use Rattle.packet.specs.Conditions.{Overlong, Fits}
use Rattle.packet.proofs.laws.Exactly.{number_in, status_summed, status_unsummed, status_overlong, by_row, good_exactly}
use Rattle.occ.proofs.laws.Statuses.{Refuses, refuses_as}
use Rattle.occ.proofs.laws.Open.{only_wrong}
use Rattle.poll.specs.Poll.{poll_data}
use Rattle.poll.proofs.laws.Poll.{data_fits}
use Rattle.occ.specs.Conditions.{CommandOk, accepts}
use Rattle.occ.specs.Open.{shut_status, open_in, shut, by_profile}
use Rattle.occ.specs.declared.Verdict.{Verdict}
use Rattle.occ.specs.declared.Verdict.TheVariants.{Refuse, Poll, Make}
use Rattle.occ.specs.Statuses.{CommandStatus}
use Rattle.occ.proofs.laws.Exactly.{judge_exactly}
use Rattle.occ.proofs.laws.Open.{open_in_exactly, stays_open, wrong_stays}
use Rattle.occ.proofs.laws.Statuses.{judge_rows}
use Rattle.session.specs.Session.{well_formed, carried_of}
use Rattle.session.proofs.laws.Session.{Formed, formed}
use Rattle.session.specs.declared.Session.{Session}
use Rattle.session.specs.Road.{Said, kept, done}
use Rattle.occ_call.specs.Occ.{occ_call}
use Rattle.links.specs.Typed.{TypedSession}
use Rattle.promises.specs.History.{Deed}
use Rattle.promises.specs.Demand1.{NoRoom, OccAnswer, OccDue, ShutStatus, ProfileStatus, OccStatus, error_reply, occ_error}
use Rattle.promises.specs.Demand2.{at_front, HasRoom, KnownSender, Open, WellAsked, occ_kind, NotPoll, OccAccepted, success_data, success_reply, OccSucceeds}
use Rattle.promises.proofs.laws.OccAsks.{CommandAsks, asks, poll_type, made_kind}
use Rattle.promises.proofs.laws.OccWays.{judged, edit, Heard, ill_read, declined, polled, no_room_lem, carried, Called, ill_formed, unknown, short_reply, short_command, answered, called}
use Rattle.promises.proofs.laws.Room.{has_room, has_none}
use Rattle.promises.proofs.laws.Replies.{replied_front, length_byte, error_bytes_lem, success_other}

abbrev Answers : Said → ℕ → Type 0
Answers q n = q.answer ≡ n

answers_0 : (t : Session) (y : List ℕ) → ByTable Answers (done t 0 0 y) (is 0)
unfolding done
answers_0 t y = by_is Answers refl (λ n e. sym e)

answers_kept : (n : ℕ) (t : Session) (y : List ℕ) → ByTable Answers (kept n t y) (is n)
unfolding kept
answers_kept n t y = by_is Answers refl (λ m e. sym e)

-- ---- a type that the profile shuts (k)

not_accepted : {A : Type 0} (v : Verdict) (n : ℕ) → accepts v ≡ true → Refuses v n → A
unfolding accepts
not_accepted v n a e = absurd (false≢true (sym (ap accepts e.1) ∙ a))

shut_refuses : (v : Verdict) → accepts (shut v) ≡ false
unfolding shut accepts
shut_refuses (Refuse x) = refl
shut_refuses Poll = refl
shut_refuses (Make ch) = refl

-- its own refusal, but for 0x15; 0x16 for that, and for what would be done
abbrev ShutAs : Verdict → ℕ → Type 0
ShutAs v n = (Refuses v n and (n ≡ 0x15 → ⊥)) ⊎ ((n ≡ 0x16) and (Refuses v 0x15 ⊎ (accepts v ≡ true)))

shut_done : (v : Verdict) (n : ℕ) → accepts v ≡ true → Refuses (Refuse StateProhibits) n ↔ ShutAs v n
shut_done v n a = (
  λ e. inr (refuses_as StateProhibits n e, inr a),
  ⊎_elim (λ h. not_accepted v n a h.0) (λ h. (StateProhibits, refl, h.0)),
)

-- one that stays
shut_stays : (x : Status) (n : ℕ) → (status_number x ≡ 0x15 → ⊥) → Refuses (Refuse x) n ↔ ShutAs (Refuse x) n
unfolding accepts
shut_stays x n z = (
  λ e. inl (e, λ h. z (sym (refuses_as x n e) ∙ h)),
  ⊎_elim (λ h. h.0) (λ h. ⊎_elim (λ e. absurd (z (sym (refuses_as x 0x15 e)))) (λ a. absurd (false≢true a)) h.1),
)

shut_exactly : (v : Verdict) (n : ℕ) → Refuses (shut v) n ↔ ShutAs v n
unfolding shut shut_status accepts
shut_exactly (Refuse InvalidCommand) n = shut_stays InvalidCommand n (λ e. omega (arith, e))
shut_exactly (Refuse InvalidLength) n = shut_stays InvalidLength n (λ e. omega (arith, e))
shut_exactly (Refuse InvalidData) n = shut_stays InvalidData n (λ e. omega (arith, e))
shut_exactly (Refuse ChecksumFailure) n = shut_stays ChecksumFailure n (λ e. omega (arith, e))
shut_exactly (Refuse InternalError) n = (
  λ e. inr (refuses_as StateProhibits n e, inl (InternalError, refl, refl)),
  ⊎_elim (λ h. absurd (h.1 (refuses_as InternalError n h.0))) (λ h. (StateProhibits, refl, h.0)),
)
shut_exactly (Refuse StateProhibits) n = shut_stays StateProhibits n (λ e. omega (arith, e))
shut_exactly Poll n = shut_done Poll n refl
shut_exactly (Make ch) n = shut_done (Make ch) n refl

module _ (s : Session) (typed : TypedSession s) (sender : ℕ) (c d : List ℕ) where
  abbrev seq : ℕ
  seq = get_or c 0 0

  abbrev type : ℕ
  type = get_or c 1 0

  -- as it was judged, and by the profile
  abbrev own : Verdict
  own = (judged s sender c d).verdict

  abbrev verdict : Verdict
  verdict = by_profile s.profile type own

  is_open : open_in s.profile type ≡ true → Open s type
  is_open o = (open_in_exactly s.profile type).0 o

  is_shut : open_in s.profile type ≡ false → Open s type → ⊥
  is_shut o h = true≢false (sym ((open_in_exactly s.profile type).1 h) ∙ o)

  -- what is done was judged so, and is open
  pub as_judged : (v : Verdict) → accepts v ≡ true → verdict ≡ v → (own ≡ v) × Open s type
  unfolding by_profile
  as_judged v a =
      cond_cases (λ (x : Verdict). x ≡ v → (own ≡ v) × Open s type) (open_in s.profile type) (λ o e. (e, is_open o))
      (λ o e. absurd (false≢true (sym (shut_refuses own) ∙ ap accepts e ∙ a)))

  -- what is open stays as it was judged
  open_stays : Open s type → verdict ≡ own
  open_stays h = stays_open s.profile type own ((open_in_exactly s.profile type).1 h)

  -- ---- where a command is due an answer

  module _ (p : OccDue s sender c d) where
    abbrev f : Formed s
    f = formed s p.formed

    abbrev Ok : Type 0
    Ok = CommandOk s.held (worked_of s.held) s.next sender type (data_of c)

    -- the conditions hold of what is worked out of the record
    judged_exactly : (accepts own ≡ true) ↔ Ok
    judged_exactly =
        let e = judge_exactly s.held s.worked s.next sender type (data_of c) typed.held.logs in
        let OkFor : Worked → Type 0 = λ (w : Worked). CommandOk s.held w s.next sender type (data_of c) in
        (λ h. subst OkFor f.worked_is (e.0 h), λ h. e.1 (subst OkFor (sym f.worked_is) h))

    accepted_exactly : (accepts verdict ≡ true) ↔ (Ok and Open s type)
    accepted_exactly = (
      λ h. let j = as_judged verdict h refl in (judged_exactly.0 (ap accepts j.0 ∙ h), j.1),
      λ h. ap accepts (open_stays h.1) ∙ judged_exactly.1 h.0,
    )

    asked_well : packet_status c ≡ Good tt → accepts verdict ≡ true → WellAsked s sender c
    unfolding WellAsked
    asked_well z h = let g = (good_exactly c).0 z in (g.0, (g.1, accepted_exactly.0 h))

    pub well_read : WellAsked s sender c → packet_status c ≡ Good tt
    unfolding WellAsked
    well_read h = (good_exactly c).1 (h.0, h.1.0)

    well_judged : WellAsked s sender c → accepts verdict ≡ true
    unfolding WellAsked
    well_judged h = accepted_exactly.1 h.1.1

    -- a packet with a status of its own
    ill_good : (x : Status) → packet_status c ≡ Err x → packet_status c ≡ Good tt → ⊥
    ill_good x z g = false≢true (ap is_ok (sym z ∙ g))

    pub ill_well : (x : Status) → packet_status c ≡ Err x → WellAsked s sender c → ⊥
    ill_well x z h = ill_good x z (well_read h)

    -- a verdict that refuses, polls, makes a change
    pub not_refused : (n : Status) → verdict ≡ Refuse n → WellAsked s sender c → ⊥
    unfolding accepts
    not_refused n v h = false≢true (sym (ap accepts v) ∙ well_judged h)

    polled_well : packet_status c ≡ Good tt → verdict ≡ Poll → WellAsked s sender c
    unfolding accepts
    polled_well z v = asked_well z (ap accepts v)

    made_well : packet_status c ≡ Good tt → (ch : Change) → verdict ≡ Make ch → WellAsked s sender c
    unfolding accepts
    made_well z ch v = asked_well z (ap accepts v)

    abbrev Asked : Verdict → Type 0
    Asked v = CommandAsks s.held s.next type (data_of c) v (judged s sender c d).tables

    asked_as : (v : Verdict) → own ≡ v → Asked v
    asked_as v e = subst Asked e (asks s.held s.next type (data_of c) s.worked sender)

    pub polled_type : verdict ≡ Poll → type ≡ 0x00
    unfolding accepts
    polled_type v = poll_type s.held s.next type (data_of c) _ (asked_as Poll (as_judged Poll refl v).0)

    -- a change is made as it was judged
    pub made_judged : (ch : Change) → verdict ≡ Make ch → own ≡ Make ch
    unfolding accepts
    made_judged ch v = (as_judged (Make ch) refl v).0

    pub made_as : (ch : Change) → verdict ≡ Make ch → Asked (Make ch)
    made_as ch v = asked_as (Make ch) (made_judged ch v)

    pub made_type : (ch : Change) → verdict ≡ Make ch → NotPoll c
    made_type ch v = (made_kind s.held s.next type (data_of c) ch _ (made_as ch v)).0

    made_room : (ch : Change) → verdict ≡ Make ch → (carried_of s (edit s sender c d ch)).full ≡ false → HasRoom s (occ_kind c)
    made_room ch v = has_room s typed.journal (edit s sender c d ch) (occ_kind c) (made_kind s.held s.next type (data_of c) ch _ (made_as ch v)).1

    made_none : (ch : Change) → verdict ≡ Make ch → (carried_of s (edit s sender c d ch)).full ≡ true → NoRoom s (occ_kind c)
    made_none ch v = has_none s typed.journal (edit s sender c d ch) (occ_kind c) (made_kind s.held s.next type (data_of c) ch _ (made_as ch v)).1

    -- ---- the replies

    error_is : (n : ℕ) → replied seq type n no_log_id d ≡ at_front (error_reply seq type n) d
    error_is n =
        let room : 8 ≤ length d = omega (arith, p.reply) in
        replied_front seq type n no_log_id d room ∙ ap (λ (y : List ℕ). at_front y d) (error_bytes_lem seq type n)

    poll_is : type ≡ 0x00 → replied seq 0x00 0x00 (poll_data s.held s.worked) d ≡ at_front (success_reply s c) d
    unfolding success_reply success_data
    poll_is e =
        let room : 7 + length (poll_data s.held s.worked) ≤ length d = omega (arith, p.reply, data_fits s.held s.worked) in
        replied_front seq 0x00 0x00 (poll_data s.held s.worked) d room
        ∙ ap (λ (w : Worked). at_front (reply_bytes seq 0x00 0x00 (poll_data s.held w)) d) f.worked_is
        ∙ ap (λ (t : ℕ). at_front (reply_bytes seq t 0x00 (success_data s t)) d) (sym e)

    pub done_is : NotPoll c → replied seq type 0x00 [] d ≡ at_front (success_reply s c) d
    unfolding success_reply success_data
    done_is e =
        let room : 7 ≤ length d = omega (arith, p.reply) in
        replied_front seq type 0x00 [] d room ∙ ap (λ (l : List ℕ). at_front (reply_bytes seq type 0x00 l) d) (else_eq _ _ e refl)

    -- an error's length is 1, a success's never
    told_apart : (n : ℕ) → at_front (error_reply seq type n) d ≡ at_front (success_reply s c) d → ⊥
    unfolding success_reply
    told_apart n e =
        success_other s type (sym (length_byte seq type 0x00 (success_data s type) d) ∙ sym (ap (λ (l : List ℕ). get_or l 4 0) e))

    -- ---- demand 2

    abbrev pub Succeeded : Said → Type 0
    Succeeded q = (q.answer ≡ 0) and (q.reply ≡ at_front (success_reply s c) d)

    abbrev pub Fine : Type 0
    Fine = WellAsked s sender c and (NotPoll c → HasRoom s (occ_kind c))

    pub heard_exactly : (q : Said) (e : Deed) → Heard s sender c d q e → Succeeded q ↔ Fine
    unfolding kept done
    heard_exactly q e (ill_read x z) = (λ h. absurd (told_apart (status_number x) (sym (error_is (status_number x)) ∙ h.1)), λ h. absurd (ill_well x z h.0))
    heard_exactly q e (declined z n v) = (λ h. absurd (told_apart (status_number n) (sym (error_is (status_number n)) ∙ h.1)), λ h. absurd (not_refused n v h.0))
    heard_exactly q e (polled z v) = (λ h. (polled_well z v, λ n. absurd (n (polled_type v))), λ h. (refl, poll_is (polled_type v)))
    heard_exactly q e (no_room_lem z ch v full) =
        (λ h. absurd (omega (arith, h.0)), λ h. absurd (not-le_of_lt (made_none ch v full) (h.1 (made_type ch v))))
    heard_exactly q e (carried z ch v fits) = (λ h. (made_well z ch v, λ n. made_room ch v fits), λ h. (refl, done_is (made_type ch v)))

    -- ---- answer 5

    abbrev Full : Type 0
    Full = WellAsked s sender c and NotPoll c and NoRoom s (occ_kind c)

    heard_answer : (q : Said) (e : Deed) → Heard s sender c d q e → ByTable Answers q (row 5 Full (is 0))
    heard_answer q e (ill_read x z) = miss Answers (λ h. ill_well x z h.0) (answers_0 _ _)
    heard_answer q e (declined z n v) = miss Answers (λ h. not_refused n v h.0) (answers_0 _ _)
    heard_answer q e (polled z v) = miss Answers (λ h. h.1.0 (polled_type v)) (answers_0 _ _)
    heard_answer q e (no_room_lem z ch v full) = hit Answers (made_well z ch v, (made_type ch v, made_none ch v full)) (answers_kept _ _ _)
    heard_answer q e (carried z ch v fits) = miss Answers (λ h. not-le_of_lt h.1.1 (made_room ch v fits)) (answers_0 _ _)

    -- ---- statuses

    abbrev Told : Said → ℕ → Type 0
    Told q n = q ≡ done s 0 0 (at_front (error_reply seq type n) d)

    says_error : (m n : ℕ) → m ≡ n → done s 0 0 (replied seq type m no_log_id d) ≡ done s 0 0 (at_front (error_reply seq type n) d)
    says_error m n e = ap (done s 0 0) (error_is m ∙ ap (λ (k : ℕ). at_front (error_reply seq type k) d) e)

    one_status : (m n : ℕ) → done s 0 0 (replied seq type m no_log_id d) ≡ done s 0 0 (at_front (error_reply seq type n) d) → m ≡ n
    unfolding done
    one_status m n e = ap (λ (q : Said). get_or q.reply 2 0) (sym (says_error m m refl) ∙ e)

    tells : (m n : ℕ) → m ≡ n → ByTable Told (done s 0 0 (replied seq type m no_log_id d)) (is n)
    tells m n e = by_is Told (says_error m n e) (λ k g. sym (one_status m k g) ∙ e)

    fits_whole : Fits c → Overlong c → ⊥
    fits_whole h = ⊎_elim (λ k. not-le_of_lt k h.0) (λ k. not-le_of_lt k h.1)

    abbrev CommandSays : ℕ → Type 0
    CommandSays = CommandStatus s.held (worked_of s.held) s.next sender type (data_of c)

    command_rows : (n : ℕ) → Refuses own n ↔ CommandSays n
    command_rows =
        subst (λ (w : Worked). (n : ℕ) → Refuses own n ↔ CommandStatus s.held w s.next sender type (data_of c) n) f.worked_is
        (judge_rows s.held s.worked s.next sender type (data_of c) typed.held.logs).exactly

    -- by the profile: where it shuts the type, and in all
    shut_rows : (n : ℕ) → Refuses (shut own) n ↔ ShutStatus CommandSays Ok n
    shut_rows n = (
      λ e. ⊎_elim (λ h. inl ((command_rows n).0 h.0, h.1)) (λ h. inr (h.0, ⊎_elim (λ r. inl ((command_rows 0x15).0 r)) (λ a. inr (judged_exactly.0 a)) h.1)) ((shut_exactly own n).0 e),
      λ r.
          (shut_exactly own n).1
          (⊎_elim (λ h. inl ((command_rows n).1 h.0, h.1)) (λ h. inr (h.0, ⊎_elim (λ r. inl ((command_rows 0x15).1 r)) (λ a. inr (judged_exactly.1 a)) h.1)) r),
    )

    abbrev ProfileSays : ℕ → Type 0
    ProfileSays = ProfileStatus (Open s type) CommandSays Ok

    profile_rows : (n : ℕ) → Refuses verdict n ↔ ProfileSays n
    unfolding by_profile
    profile_rows n =
        cond_cases (λ (v : Verdict). Refuses v n ↔ ProfileSays n) (open_in s.profile type)
        (λ o. (λ e. inl (is_open o, (command_rows n).0 e), ⊎_elim (λ h. (command_rows n).1 h.1) (λ h. absurd (h.0 (is_open o)))))
        (λ o. (λ e. inr (is_shut o, (shut_rows n).0 e), ⊎_elim (λ h. absurd (is_shut o h.0)) (λ h. (shut_rows n).1 h.1)))

    -- past the packet's own rows
    past_packet : {q : Said} → packet_status c ≡ Good tt → ByTable Told q ProfileSays → ByTable Told q (OccStatus s sender c)
    unfolding OccStatus
    past_packet z b = let g = (good_exactly c).0 z in miss Told (fits_whole g.0) (miss Told (λ h. h g.1) b)

    -- an accepted command: no status, and no error reply
    no_status : {q : Said} → packet_status c ≡ Good tt → accepts verdict ≡ true → ((n : ℕ) → Told q n → ⊥) → ByTable Told q (OccStatus s sender c)
    unfolding accepts
    no_status z a h =
        past_packet z (record { exactly = λ n. (λ g. absurd (h n g), λ r. not_accepted verdict n a ((profile_rows n).1 r)) })

    wrong_is : {v : Verdict} → Refuses v 0x13 → v ≡ Refuse InvalidData
    wrong_is e = e.1 ∙ ap Refuse (only_wrong e.0 (sym e.2))

    -- 0x13 is a command's, not a packet's
    pub wrong_exactly : OccStatus s sender c 0x13 ↔ ((packet_status c ≡ Good tt) and (own ≡ Refuse InvalidData))
    unfolding OccStatus
    wrong_exactly = (
      go,
      λ h. let g = (good_exactly c).0 h.0 in later (fits_whole g.0) (later (λ k. k g.1) ((profile_rows 0x13).0 (InvalidData, (wrong_stays s.profile type own).1 h.1, refl))),
    )
      where
        go : OccStatus s sender c 0x13 → (packet_status c ≡ Good tt) and (own ≡ Refuse InvalidData)
        go (here o e) = absurd (omega (arith, e))
        go (later o (here k e)) = absurd (omega (arith, e))
        go (later o (later k r)) = (by_row c (λ z. absurd (o z)) (λ f z. status_summed c f z) (λ f z. absurd (k z)), (wrong_stays s.profile type own).0 (wrong_is ((profile_rows 0x13).1 r)))

    heard_status : (q : Said) (e : Deed) → Heard s sender c d q e → ByTable Told q (OccStatus s sender c)
    unfolding OccStatus accepts done kept
    heard_status q e (ill_read x z) =
        by_row c (λ o. hit Told o (tells _ _ (ap number_in (sym z ∙ status_overlong c o)))) (λ h k. absurd (ill_good x z (status_summed c h k)))
        (λ h k. miss Told (fits_whole h) (hit Told k (tells _ _ (ap number_in (sym z ∙ status_unsummed c h k)))))
    heard_status q e (declined z n v) =
        past_packet z (record {
          exactly = λ m. (λ g. (profile_rows m).0 (n, v, sym (one_status (status_number n) m g)), λ r. says_error (status_number n) m (sym (refuses_as n m (subst (λ (u : Verdict). Refuses u m) v ((profile_rows m).1 r)))));
        })
    heard_status q e (polled z v) = no_status z (ap accepts v) (λ n g. told_apart n (sym (ap (λ (x : Said). x.reply) g) ∙ poll_is (polled_type v)))
    heard_status q e (no_room_lem z ch v full) = no_status z (ap accepts v) (λ n g. omega (arith, ap (λ (x : Said). x.answer) g))
    heard_status q e (carried z ch v fits) = no_status z (ap accepts v) (λ n g. told_apart n (sym (ap (λ (x : Said). x.reply) g) ∙ done_is (made_type ch v)))

  -- ---- every call

  answer_table : (q : Said) (e : Deed) → Called s sender c d q e → ByTable Answers q (OccAnswer s sender c d)
  unfolding OccAnswer
  answer_table q e (ill_formed h) = hit Answers h (answers_kept _ _ _)
  answer_table q e (unknown w h) = miss Answers (λ z. z w) (hit Answers h (answers_kept _ _ _))
  answer_table q e (short_reply w k h) = miss Answers (λ z. z w) (miss Answers (λ z. z k) (hit Answers h (answers_kept _ _ _)))
  answer_table q e (short_command w k l h) =
      miss Answers (λ z. z w) (miss Answers (λ z. z k) (miss Answers (λ z. not-le_of_lt z l) (hit Answers h (answers_kept _ _ _))))
  answer_table q e (answered p r g h) =
      miss Answers (λ z. z p.formed) (miss Answers (λ z. z p.known) (miss Answers (λ z. not-le_of_lt z p.reply) (miss Answers (λ z. not-le_of_lt z p.command) (heard_answer p r g h))))

  status_table : (x : OccDue s sender c d) (q : Said) (e : Deed) → Called s sender c d q e → ByTable (Told x) q (OccStatus s sender c)
  status_table x q e (ill_formed h) = absurd (h x.formed)
  status_table x q e (unknown w h) = absurd (h x.known)
  status_table x q e (short_reply w k h) = absurd (not-le_of_lt h x.reply)
  status_table x q e (short_command w k l h) = absurd (not-le_of_lt h x.command)
  status_table x q e (answered p r g h) = heard_status p r g h

  success : well_formed s ≡ true → (q : Said) (e : Deed) → Called s sender c d q e
      → ((q.answer ≡ 0) and (q.reply ≡ at_front (success_reply s c) d))
      ↔ (KnownSender sender and (4096 ≤ length d) and (4 ≤ length c) and WellAsked s sender c and (NotPoll c → HasRoom s (occ_kind c)))
  unfolding kept
  success x q e (ill_formed h) = absurd (h x)
  success x q e (unknown w h) = (λ z. absurd (omega (arith, z.0)), λ z. absurd (h z.0))
  success x q e (short_reply w k h) = (λ z. absurd (omega (arith, z.0)), λ z. absurd (not-le_of_lt h z.1.0))
  success x q e (short_command w k l h) = (λ z. absurd (omega (arith, z.0)), λ z. absurd (not-le_of_lt h z.1.1.0))
  success x q e (answered p r g h) = let i = heard_exactly p r g h in (λ z. (p.known, (p.reply, (p.command, i.0 z))), λ z. i.1 z.1.1.1)

  pub occ_answers : (n : ℕ) → ((occ_call s sender c d).answer ≡ n) ↔ OccAnswer s sender c d n
  occ_answers = (answer_table _ _ (called s sender c d)).exactly

  pub occ_statuses : OccDue s sender c d → (n : ℕ) → (occ_call s sender c d ≡ occ_error s c d n) ↔ OccStatus s sender c n
  occ_statuses p = (status_table p _ _ (called s sender c d)).exactly

  -- the status 0x13: the packet is good, and its command was judged so
  pub status_13 : OccDue s sender c d → (occ_call s sender c d ≡ occ_error s c d 0x13) ↔ ((packet_status c ≡ Good tt) and (own ≡ Refuse InvalidData))
  status_13 p = Iff.trans (occ_statuses p 0x13) (wrong_exactly p)

  pub occ_accepted : well_formed s ≡ true → OccSucceeds s sender c d ↔ OccAccepted s sender c d
  unfolding OccSucceeds OccAccepted
  occ_accepted w = success w _ _ (called s sender c d)

  -- ---- answer 0: a reply, good or error, is written

  heard_reply : OccDue s sender c d → (q : Said) (e : Deed) → Heard s sender c d q e → q.answer ≡ 0
      → (q.reply ≡ at_front (success_reply s c) d) ⊎ ((n : ℕ) × (q ≡ occ_error s c d n))
  unfolding done kept
  heard_reply p q e (ill_read x z) h = inr (status_number x, says_error p (status_number x) (status_number x) refl)
  heard_reply p q e (declined z n v) h = inr (status_number n, says_error p (status_number n) (status_number n) refl)
  heard_reply p q e (polled z v) h = inl (poll_is p (polled_type p v))
  heard_reply p q e (no_room_lem z ch v full) h = absurd (omega (arith, h))
  heard_reply p q e (carried z ch v fits) h = inl (done_is p (made_type p ch v))

  called_reply : (q : Said) (e : Deed) → Called s sender c d q e → q.answer ≡ 0
      → (q.reply ≡ at_front (success_reply s c) d) ⊎ ((n : ℕ) × (q ≡ occ_error s c d n))
  unfolding kept
  called_reply q e (ill_formed x) h = absurd (omega (arith, h))
  called_reply q e (unknown w x) h = absurd (omega (arith, h))
  called_reply q e (short_reply w k x) h = absurd (omega (arith, h))
  called_reply q e (short_command w k l x) h = absurd (omega (arith, h))
  called_reply q e (answered p r g x) h = heard_reply p r g x h

  pub occ_reply : (occ_call s sender c d).answer ≡ 0
      → ((occ_call s sender c d).reply ≡ at_front (success_reply s c) d) ⊎ ((n : ℕ) × (occ_call s sender c d ≡ occ_error s c d n))
  occ_reply = called_reply _ _ (called s sender c d)
