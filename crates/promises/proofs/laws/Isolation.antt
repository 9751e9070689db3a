-- Document 02, g: what each side hears is what it would hear alone. Assumes nothing.
use Rattle.std.specs.Option.{unwrap_or}
use Rattle.std.specs.Prelude.{ℕ, ◌+◌, Bool, cond, not, ◌≡◌, ltb, leb, length, get_or, Option, Some, None}
use Rattle.packet.specs.Packet.{Checked, packet_status}
use Rattle.packet.proofs.laws.Exactly.{checked_cases}
use Rattle.places.specs.declared.Fault.{Fault}
use Rattle.std.proofs.Math.Bool.{true, false}
use Rattle.std.proofs.Common.{true≢false, ◌∙◌, eqb-true}
use Rattle.std.proofs.Math.Logic.{⊎_elim}
use Rattle.std.proofs.Math.Path.{refl, sym, ap, subst}
use mathlib.Core.List.{List, [], ◌∷◌}
use Rattle.std.proofs.lemmas.Bool.{eqb-false}
use Rattle.std.proofs.Math.Dec.{eqb}
use Rattle.wire.specs.Wire.{Bytes}
use Rattle.wire.proofs.laws.Cases.{cond_elim, cond_cases, by_both, else_b}
use Rattle.record.specs.Record.{fresh_record, worked_of}
use Rattle.record.specs.declared.Record.{Record}
use Rattle.record.specs.declared.Timer.{Timer}
use Rattle.record.specs.declared.Worked.{Worked}
use Rattle.change.specs.Change.{no_tables, clear_of, unclear_of, reset_of, unreset_of, put_with, put_of, put_after, takes_back}
use Rattle.change.specs.Logs.{pending_of, pends_at}
use Rattle.change.specs.With.{with_state, with_role, with_caps, with_throttles, with_user, with_thermal, with_logs, with_mask, with_deadman, with_areas}
use Rattle.change.specs.declared.Change.{Change}
use Rattle.change.specs.declared.Change.TheVariants.{Clear, Unclear, SetState, SetRole, SetCaps, SetUser, SetThermal, SetThrottles, Reset, Unreset, SetMask, SetDeadman, SetAreas, SetTimer}
use Rattle.change.specs.declared.Edit.{Edit}
use Rattle.change.specs.declared.Tables.{Tables}
use Rattle.change.proofs.laws.Timed.{NoTimer, timer_kept}
use Rattle.packet.specs.Packet.{data_of, replied}
use Rattle.poll.specs.Poll.{poll_data}
use Rattle.journal.specs.Add.{end_of}
use Rattle.occ.specs.Judge.{type_judged, judge_of}
use Rattle.occ.specs.Open.{open_in, by_profile}
use Rattle.occ.proofs.laws.Open.{made_open}
use Rattle.occ.specs.declared.Judged.{Judged}
use Rattle.occ.specs.declared.Verdict.{Verdict}
use Rattle.occ.specs.declared.Verdict.TheVariants.{Refuse, Poll, Make}
use Rattle.sbe.specs.Mailbox.{request_ruling, response_bytes}
use Rattle.sbe.specs.declared.Ruling.{Ruling}
use Rattle.sbe.specs.declared.Ruling.TheVariants.{Decline, Grant, Done, Read}
use Rattle.places.specs.Places.{fault_of}
use Rattle.std.specs.Prelude.{Option, None}
use Rattle.session.specs.Session.{fresh_session, well_formed, made_of, renewed, with_timer, carried_to, carried_of}
use Rattle.session.specs.Road.{Asks, refuses, makes, passes, due, time_passed, Said, kept, done, carried_says, settled}
use Rattle.session.proofs.laws.Road.{refusal_keeps, error_keeps}
use Rattle.session.proofs.laws.Session.{formed}
use Rattle.session.proofs.laws.Timer.{carried_timer}
use Rattle.session.specs.declared.Session.{Session}
use Rattle.occ_call.specs.Occ as occs
use Rattle.sbe_call.specs.Sbe as sbes
use Rattle.sbe_call.proofs.laws.Speaks.{sbe_speaks}
use Rattle.time_call.specs.Time.{time_asks}
use Rattle.links.specs.Typed.{TypedRecord, TypedSession}
use Rattle.promises.specs.Calls.{Call, occ, sbe, undo, redo, forget, time, buffer_of, asks, said, second_of}
use Rattle.promises.specs.Demand2.{SbeSucceeds}
use Rattle.promises.specs.Effects.{SbeEffect, start_deadman, stop_deadman, set_mask, set_areas, start_timer, stop_timer, exit_contained, put_ring, read_seeprom}
use Rattle.promises.specs.History.{Run, did, next_run, start, AllOfBytes}
use Rattle.promises.specs.Lent.{told}
use Rattle.promises.specs.Isolation.{AllShare, occs_in, occs_heard, OccsFit, dry, Bench, bench_of, Alone, alone_by, alone_judged, alone, alone_heard, request, report, posts_in, posts_heard, SbesFit, Posted, posted_by, posted, posted_heard}
use Rattle.promises.proofs.laws.Asked.{data_bytes, occ_no_timer}
use Rattle.promises.proofs.laws.Effects.{sbe_effect}
use Rattle.promises.proofs.laws.Demand3.{Inv, formed as formed-so, next_inv}
use Rattle.promises.proofs.laws.Fresh.{fresh_start}
use Rattle.promises.proofs.laws.Lent.{run_typed}
use Rattle.promises.proofs.laws.Profiles.{profile_stays}
use Rattle.promises.proofs.laws.OccWalk.{judged, final, asked_by, occ_walk}
use Rattle.promises.proofs.laws.Replies.{front_is}

-- ---- what OCC exchanges read and write of a record isn't the mailbox's part

worked_dry : (r : Record) → worked_of (dry r) ≡ worked_of r
unfolding worked_of dry
worked_dry r = refl

asked_dry : (r : Record) (w : Worked) (next sender : ℕ) (c : List ℕ) → occs.asked_of (dry r) w next sender c ≡ occs.asked_of r w next sender c
unfolding occs.asked_of occs.asked_for judge_of type_judged dry
asked_dry r w next sender c =
    checked_cases (λ (v : Checked). occs.asked_for v (dry r) w next sender c ≡ occs.asked_for v r w next sender c) (packet_status c) (λ x e. refl) (λ e. refl)

poll_dry : (r : Record) (w : Worked) → poll_data (dry r) w ≡ poll_data r w
unfolding poll_data dry
poll_dry r w = refl

fault_dry : (v : Verdict) (r : Record) (kind : ℕ) (d : List ℕ) → occs.fault_for v r kind d ≡ occs.fault_for v (dry r) kind d
unfolding occs.fault_for fault_of dry
fault_dry (Refuse status) r kind d = refl
fault_dry Poll r kind d = refl
fault_dry (Make ch) r kind d = refl

abbrev Dries : Record → Option Record → Option Record → Type 0
Dries r x y = dry (unwrap_or x r) ≡ dry (unwrap_or y (dry r))

put_dry : (r : Record) (t : Tables) (ch : Change) → Dries r (put_with r t ch) (put_with (dry r) t ch)
unfolding put_with clear_of unclear_of reset_of unreset_of dry with_state with_role with_caps with_throttles with_user with_thermal with_logs with_mask with_deadman with_areas
put_dry r t (Clear place log) = by_both (Dries r) (not (pends_at place log r.logs)) (λ f. refl) (λ f. refl)
put_dry r t (Unclear place log) = by_both (Dries r) (ltb (pending_of r.logs) place) (λ f. refl) (λ f. by_both (Dries r) (leb 4 (pending_of r.logs)) (λ g. refl) (λ g. refl))
put_dry r t (SetState state) = refl
put_dry r t (SetRole got role) = refl
put_dry r t (SetCaps got caps) = refl
put_dry r t (SetUser user) = refl
put_dry r t (SetThermal got) = refl
put_dry r t (SetThrottles got) = refl
put_dry r t (Reset log) = by_both (Dries r) (eqb log.id 0) (λ f. refl) (λ f. by_both (Dries r) (leb 4 (pending_of r.logs)) (λ g. refl) (λ g. refl))
put_dry r t (Unreset state made) = by_both (Dries r) (eqb made 0) (λ f. refl) (λ f. by_both (Dries r) (eqb (pending_of r.logs) 0) (λ g. refl) (λ g. refl))
put_dry r t (SetMask mask) = refl
put_dry r t (SetDeadman deadman) = refl
put_dry r t (SetAreas areas) = refl
put_dry r t (SetTimer timer) = refl

-- ---- an OCC exchange on a well-formed full session, and on its bench

pub record AsAlone (q : Said) (why : Option Fault) (x : Alone) : Type 0 where
  pub answer_is : q.answer ≡ x.answer
  pub why_is : why ≡ x.why
  pub reply_is : q.reply ≡ x.reply
  pub bench_is : bench_of q.session ≡ x.after

module _ (s : Session) (ok : well_formed s ≡ true) (full : s.profile ≡ 0) (sender : ℕ) (c d : List ℕ) where
  abbrev b : Bench
  b = bench_of s

  abbrev j : Judged
  j = occs.asked_of s.held s.worked s.next sender c

  -- it is judged alike
  judged_alike : j ≡ occs.asked_of b.held (worked_of b.held) b.next sender c
  unfolding bench_of
  judged_alike =
      ap (λ (w : Worked). occs.asked_of s.held w s.next sender c) ((formed s ok).worked_is ∙ sym (worked_dry s.held))
      ∙ sym (asked_dry s.held (worked_of (dry s.held)) s.next sender c)

  abbrev after_it : Edit → Bench
  after_it e = record { held = dry (put_after b.held e); next = b.next + made_of e.change }

  carried_at : (e : Edit) (used : ℕ) → bench_of (carried_to s e (Some used)).session ≡ after_it e
  unfolding carried_to renewed with_timer bench_of put_of
  carried_at e used = ap (λ (r : Record). record { held = r; next = s.next + made_of e.change }) (put_dry s.held e.tables e.change)

  carried_bench : (e : Edit) → (carried_of s e).full ≡ false → bench_of (carried_of s e).session ≡ after_it e
  unfolding carried_of carried_to
  carried_bench e f = go (end_of (length s.journal) s.used (takes_back s.held s.timer e)) f
    where
      go : (x : Option ℕ) → (carried_to s e x).full ≡ false → bench_of (carried_to s e x).session ≡ after_it e
      go (Some used) f = carried_at e used
      go None f = absurd (true≢false f)

  abbrev why_by : Verdict → Option Fault
  why_by v = occs.fault_for v s.held (get_or c 1 0) (data_of c)

  abbrev Same : Said → Option Fault → Alone → Type 0
  Same q why x = (q.answer ≡ 5 → ⊥) → AsAlone q why x

  made_alone : (x : Judged) (ch : Change) → Same (settled s d (asked_by s sender c d x.tables (Make ch))) (why_by (Make ch)) (alone_by b c d x (Make ch))
  unfolding alone_by settled carried_says kept done occs.verdict_asks occs.fault_for
  made_alone x ch =
      let e : Edit = record { change = ch; tables = x.tables } in
      cond_cases (λ (q : Said). Same q None (alone_by b c d x (Make ch))) (carried_of s e).full (λ f h. absurd (h refl))
      (λ f h. record { answer_is = refl; why_is = refl; reply_is = refl; bench_is = carried_bench e f })

  by_verdict : (x : Judged) (v : Verdict) → Same (settled s d (asked_by s sender c d x.tables v)) (why_by v) (alone_by b c d x v)
  unfolding alone_by settled done occs.verdict_asks occs.told_of occs.fault_for bench_of
  by_verdict x (Refuse status) = λ h. record { answer_is = refl; why_is = fault_dry (Refuse status) s.held (get_or c 1 0) (data_of c); reply_is = refl; bench_is = refl }
  by_verdict x Poll = λ h. record {
    answer_is = refl;
    why_is = refl;
    reply_is = ap (λ (p : List ℕ). replied (get_or c 0 0) 0x00 0x00 p d)
        (ap (poll_data s.held) ((formed s ok).worked_is ∙ sym (worked_dry s.held)) ∙ sym (poll_dry s.held (worked_of (dry s.held))));
    bench_is = refl;
  }
  by_verdict x (Make ch) = made_alone x ch

  -- the profile leaves the verdict as it is
  read_is : occs.occ_read s sender c d ≡ asked_by s sender c d j.tables j.verdict
  unfolding occs.occ_read occs.judged_asks by_profile open_in
  read_is = ap (λ (p : ℕ). occs.judged_asks p s.held s.worked (get_or c 0 0) (get_or c 1 0) d j) full

  why_is : occs.why_read s sender c ≡ why_by j.verdict
  unfolding occs.why_read by_profile open_in
  why_is = ap (λ (p : ℕ). why_by (by_profile p (get_or c 1 0) j.verdict)) full

  read_alone : Same (settled s d (occs.occ_read s sender c d)) (occs.why_read s sender c) (alone_judged b c d (occs.asked_of b.held (worked_of b.held) b.next sender c))
  unfolding alone_judged
  read_alone =
      subst (λ (T : Type 0). T) (λ i. Same (settled s d (sym read_is i)) (sym why_is i) (alone_judged b c d (judged_alike i))) (by_verdict j j.verdict)

  abbrev n : ℕ
  n = occs.refusal_of true sender (length c) (length d)

  refusal_is : occs.occ_refusal s sender (length c) (length d) ≡ n
  unfolding occs.occ_refusal
  refusal_is = ap (λ (f : Bool). occs.refusal_of f sender (length c) (length d)) ok

  by_refusal : (t : Bool)
      → Same (settled s d (cond t (refuses n) (occs.occ_read s sender c d))) (cond t None (occs.why_read s sender c))
      (cond t (record { answer = n; why = None; reply = d; after = b }) (alone_judged b c d (occs.asked_of b.held (worked_of b.held) b.next sender c)))
  unfolding settled kept
  by_refusal true = λ h. record { answer_is = refl; why_is = refl; reply_is = refl; bench_is = refl }
  by_refusal false = read_alone

  pub occ_alone : Same (occs.occ_call s sender c d) (occs.occ_why s sender c d) (alone b sender c d)
  unfolding occs.occ_call occs.occ_asks due occs.occ_why occs.why_from alone
  occ_alone =
      subst (λ (k : ℕ). Same (settled s d (due k (occs.occ_read s sender c d))) (occs.why_from k s sender c) (alone b sender c d)) (sym refusal_is) (by_refusal (not (eqb n 0)))

  -- ---- and it leaves the timer alone

  module _ (typed : TypedRecord s.held) (bytes : Bytes c) where
    abbrev Keeps : Asks → Type 0
    Keeps a = (settled s d a).session.timer ≡ s.timer

    carried_keeps : (e : Edit) → NoTimer e.change → (y : List ℕ) → Keeps (makes e 0 y)
    unfolding settled carried_says kept done
    carried_keeps e other y = cond_cases (λ (q : Said). q.session.timer ≡ s.timer) (carried_of s e).full (λ f. refl) (λ f. carried_timer s e f ∙ timer_kept s.timer e.change other)

    verdict_keeps : (v : Verdict) → final s sender c d (judged s sender c d).verdict ≡ v → Keeps (asked_by s sender c d (judged s sender c d).tables v)
    unfolding occs.verdict_asks settled done
    verdict_keeps (Refuse status) e = refl
    verdict_keeps Poll e = refl
    verdict_keeps (Make ch) e =
        carried_keeps (record { change = ch; tables = (judged s sender c d).tables })
        (occ_no_timer s.held s.worked s.next sender (get_or c 1 0) (data_of c) (data_bytes c bytes) (formed s ok).record_ok_lem typed ch (made_open s.profile (get_or c 1 0) (judged s sender c d).verdict ch e).1) _

    pub occ_timer : (occs.occ_call s sender c d).session.timer ≡ s.timer
    unfolding occs.occ_call occs.verdict_asks settled kept done
    occ_timer = occ_walk s sender c d Keeps (λ n. refl) (λ status t. refl) (λ w. verdict_keeps)

-- ---- mailbox requests and time reports leave the bench alone

module _ (s : Session) (typed : TypedSession s) (r d m x : List ℕ) (bytes : Bytes r) where
  effect_bench : (t : Session) → SbeEffect s r t → bench_of t ≡ bench_of s
  unfolding bench_of dry renewed with_timer with_mask with_deadman with_areas
  effect_bench t (start_deadman a h) = refl
  effect_bench t (stop_deadman a h) = refl
  effect_bench t (set_mask a) = refl
  effect_bench t (set_areas a) = refl
  effect_bench t (start_timer a h) = refl
  effect_bench t (stop_timer a h) = refl
  effect_bench t (exit_contained a) = refl
  effect_bench t (put_ring a) = refl
  effect_bench t (read_seeprom a) = refl

  abbrev q : Said
  q = sbes.sbe_call s r d m x

  kept_bench : q.session ≡ s → bench_of q.session ≡ bench_of s
  kept_bench e = ap bench_of e

  pub sbe_bench : bench_of q.session ≡ bench_of s
  unfolding sbes.sbe_call SbeSucceeds
  sbe_bench = go (eqb q.answer 0) refl
    where
      go : (t : Bool) → eqb q.answer 0 ≡ t → bench_of q.session ≡ bench_of s
      go false t = kept_bench (refusal_keeps s d (sbes.sbe_asks s r d m x) (eqb-false q.answer 0 t)).0
      go true t =
          ⊎_elim kept_bench (λ e. effect_bench q.session (sbe_effect s typed r d m x bytes (eqb-true q.answer 0 t, e ∙ front_is (response_bytes 0x00 0x00 r) d)))
          (error_keeps s d _ _ (sbes.sbe_asks s r d m x) (sbe_speaks s r d m x))

pub time_bench : (n : ℕ) (s : Session) → bench_of (said s (time n)).session ≡ bench_of s
unfolding said asks buffer_of time_asks settled kept done time_passed with_timer bench_of
time_bench n s = cond_elim (λ (a : Asks). bench_of (settled s [] a).session ≡ bench_of s) (not (well_formed s)) refl refl

-- ---- a mailbox request and a time report on a well-formed full session, and on its timer

record AsPosted (q : Said) (second : List ℕ) (z : Posted) : Type 0 where
  rung_is : record { answer = q.answer; bell = q.bell; reply = q.reply; second = second } ≡ z.rung
  timer_is : q.session.timer ≡ z.after

module _ (s : Session) (ok : well_formed s ≡ true) (full : s.profile ≡ 0) (r d m x : List ℕ) where
  abbrev Alike : Said → List ℕ → Posted → Type 0
  Alike q second z = (q.answer ≡ 5 → ⊥) → AsPosted q second z

  abbrev served : List ℕ
  served = sbes.data_for 0 r m x

  by_ruling : (v : Ruling) → Alike (settled s d (sbes.ruling_asks r d v)) served (posted_by s.timer r d served v)
  unfolding posted_by sbes.ruling_asks settled carried_says kept done
  by_ruling (Decline why) = λ h. record { rung_is = refl; timer_is = refl }
  by_ruling (Grant ch) =
      let e : Edit = record { change = ch; tables = no_tables } in
      cond_cases (λ (q : Said). Alike q served (posted_by s.timer r d served (Grant ch))) (carried_of s e).full (λ f h. absurd (h refl))
      (λ f h. record { rung_is = refl; timer_is = carried_timer s e f })
  by_ruling Done = λ h. record { rung_is = refl; timer_is = refl }
  by_ruling (Read offset size) = λ h. record { rung_is = refl; timer_is = refl }

  request_read : Alike (settled s d (sbes.sbe_read s.profile r d m x)) served (posted_by s.timer r d served (sbes.sbe_ruling r m x))
  unfolding sbes.sbe_read sbes.by_profile
  request_read =
      subst (λ (p : ℕ). Alike (settled s d (sbes.sbe_read p r d m x)) served (posted_by s.timer r d served (sbes.sbe_ruling r m x))) (sym full) (by_ruling (sbes.sbe_ruling r m x))

  abbrev refusal : ℕ
  refusal = sbes.refusal_of true (length r) (length d)

  refused_so : sbes.sbe_refusal s (length r) (length d) ≡ refusal
  unfolding sbes.sbe_refusal
  refused_so = ap (λ (f : Bool). sbes.refusal_of f (length r) (length d)) ok

  request_by : (t : Bool)
      → Alike (settled s d (cond t (refuses refusal) (sbes.sbe_read s.profile r d m x))) (cond t x (sbes.served_by (request_ruling r) m x))
      (cond t (record { rung = record { answer = refusal; bell = 0; reply = d; second = x }; after = s.timer }) (posted_by s.timer r d served (sbes.sbe_ruling r m x)))
  unfolding settled kept sbes.data_for
  request_by true = λ h. record { rung_is = refl; timer_is = refl }
  request_by false = request_read

  request_posted : Alike (sbes.sbe_call s r d m x) (sbes.sbe_data s r d m x) (posted s.timer (request r d m x))
  unfolding sbes.sbe_call sbes.sbe_asks due sbes.sbe_data sbes.data_for posted
  request_posted =
      subst (λ (k : ℕ). Alike (settled s d (due k (sbes.sbe_read s.profile r d m x))) (sbes.data_for k r m x) (posted s.timer (request r d m x))) (sym refused_so)
      (request_by (not (eqb refusal 0)))

passes_posted : (n : ℕ) (s : Session) → AsPosted (settled s [] (passes n)) [] (posted s.timer (report n))
unfolding settled done time_passed with_timer posted
passes_posted n s = record { rung_is = refl; timer_is = refl }

report_posted : (n : ℕ) (s : Session) → well_formed s ≡ true → AsPosted (said s (time n)) [] (posted s.timer (report n))
unfolding said asks buffer_of time_asks
report_posted n s ok =
    subst (λ (a : Asks). AsPosted (settled s [] a) [] (posted s.timer (report n))) (else_b (refuses 1) (passes n) (ap not ok) refl) (passes_posted n s)

-- ---- any calls that share a session

module _ (base : Record) (first : ℕ) where
  -- what the OCC exchanges of a run hear is what they hear alone
  occs_alone : (cs : List Call) (p : Run) → Inv base first p → p.session.profile ≡ 0 → AllShare cs → AllOfBytes cs → OccsFit p.session cs
      → occs_heard p.session cs ≡ alone_heard (bench_of p.session) (occs_in cs)
  unfolding occs_heard alone_heard occs_in next_run did said asks buffer_of told occs.occ_call sbes.sbe_call
  occs_alone [] p v full share b fit = refl
  occs_alone (occ sender c d ∷ cs) p v full share b fit =
      let s = p.session in
      let one = occ_alone s (formed-so base first p v) full sender c d fit.0 in
      let rest = occs_alone cs (next_run p (occ sender c d)) (next_inv base first p v (occ sender c d) b.0) (profile_stays s (occ sender c d) ∙ full) share.1 b.1 fit.1 in
      λ i. record { told = occs.beside_of (one.answer_is i) (one.why_is i); reply = one.reply_is i } ∷ (rest ∙ ap (λ (x : Bench). alone_heard x (occs_in cs)) one.bench_is) i
  occs_alone (sbe r d m x ∷ cs) p v full share b fit =
      let s = p.session in
      occs_alone cs (next_run p (sbe r d m x)) (next_inv base first p v (sbe r d m x) b.0) (profile_stays s (sbe r d m x) ∙ full) share.1 b.1 fit.1
      ∙ ap (λ (y : Bench). alone_heard y (occs_in cs)) (sbe_bench s (run_typed base first p v).session r d m x b.0)
  occs_alone (undo ∷ cs) p v full share b fit = absurd share.0
  occs_alone (redo ∷ cs) p v full share b fit = absurd share.0
  occs_alone (forget n ∷ cs) p v full share b fit = absurd share.0
  occs_alone (time n ∷ cs) p v full share b fit =
      let s = p.session in
      occs_alone cs (next_run p (time n)) (next_inv base first p v (time n) b.0) (profile_stays s (time n) ∙ full) share.1 b.1 fit.1
      ∙ ap (λ (y : Bench). alone_heard y (occs_in cs)) (time_bench n s)

  posts_alone : (cs : List Call) (p : Run) → Inv base first p → p.session.profile ≡ 0 → AllShare cs → AllOfBytes cs → SbesFit p.session cs
      → posts_heard p.session cs ≡ posted_heard p.session.timer (posts_in cs)
  unfolding posts_heard posted_heard posts_in next_run did said asks buffer_of second_of occs.occ_call sbes.sbe_call
  posts_alone [] p v full share b fit = refl
  posts_alone (occ sender c d ∷ cs) p v full share b fit =
      let s = p.session in
      posts_alone cs (next_run p (occ sender c d)) (next_inv base first p v (occ sender c d) b.0) (profile_stays s (occ sender c d) ∙ full) share.1 b.1 fit.1
      ∙ ap (λ (t : Timer). posted_heard t (posts_in cs)) (occ_timer s (formed-so base first p v) full sender c d (run_typed base first p v).session.held b.0)
  posts_alone (sbe r d m x ∷ cs) p v full share b fit =
      let s = p.session in
      let one = request_posted s (formed-so base first p v) full r d m x fit.0 in
      let rest = posts_alone cs (next_run p (sbe r d m x)) (next_inv base first p v (sbe r d m x) b.0) (profile_stays s (sbe r d m x) ∙ full) share.1 b.1 fit.1 in
      λ i. one.rung_is i ∷ (rest ∙ ap (λ (t : Timer). posted_heard t (posts_in cs)) one.timer_is) i
  posts_alone (undo ∷ cs) p v full share b fit = absurd share.0
  posts_alone (redo ∷ cs) p v full share b fit = absurd share.0
  posts_alone (forget n ∷ cs) p v full share b fit = absurd share.0
  posts_alone (time n ∷ cs) p v full share b fit =
      let s = p.session in
      let one = report_posted n s (formed-so base first p v) in
      let rest = posts_alone cs (next_run p (time n)) (next_inv base first p v (time n) b.0) (profile_stays s (time n) ∙ full) share.1 b.1 fit.1 in
      λ i. one.rung_is i ∷ (rest ∙ ap (λ (t : Timer). posted_heard t (posts_in cs)) one.timer_is) i

-- ---- two fresh sessions

fresh_full : fresh_session.profile ≡ 0
unfolding fresh_session
fresh_full = refl

module _ (cs ds : List Call) (share : AllShare cs) (share' : AllShare ds) (b : AllOfBytes cs) (b' : AllOfBytes ds) where
  pub occ_isolated : occs_in cs ≡ occs_in ds → OccsFit fresh_session cs → OccsFit fresh_session ds → occs_heard fresh_session cs ≡ occs_heard fresh_session ds
  unfolding start
  occ_isolated same fit fit' =
      occs_alone fresh_record 1 cs (start fresh_session) fresh_start fresh_full share b fit
      ∙ ap (alone_heard (bench_of fresh_session)) same
      ∙ sym (occs_alone fresh_record 1 ds (start fresh_session) fresh_start fresh_full share' b' fit')

  pub sbe_isolated : posts_in cs ≡ posts_in ds → SbesFit fresh_session cs → SbesFit fresh_session ds → posts_heard fresh_session cs ≡ posts_heard fresh_session ds
  unfolding start
  sbe_isolated same fit fit' =
      posts_alone fresh_record 1 cs (start fresh_session) fresh_start fresh_full share b fit
      ∙ ap (posted_heard fresh_session.timer) same
      ∙ sym (posts_alone fresh_record 1 ds (start fresh_session) fresh_start fresh_full share' b' fit')
