-- Document 02, l: the check accepts exactly the orders that lead to the wanted state, and the search finds the least of them. Assumes nothing.
use Rattle.std.specs.Prelude.{ℕ, ◌+◌, ◌-◌, ◌*◌, ◌≤◌, Bool, cond, ◌↔◌, ◌≡◌, ltb, eqb, length, get_or, drop, Option, Some, None, Ok as Good}
use Rattle.std.specs.Result.{is_ok}
use Rattle.packet.proofs.laws.Exactly.{ok_is}
use Rattle.packet.specs.declared.Status.{Status}
use Rattle.std.specs.Option.{is_some}
use Rattle.std.proofs.Math.Bool.{true, false, not, true≢false}
use Rattle.std.proofs.lemmas.Bool.{false≢true}
use Rattle.std.proofs.Math.Logic.{inl}
use Rattle.std.proofs.Math.Path.{refl, sym, ap}
use Rattle.std.proofs.Common.{◌∙◌}
use mathlib.Core.List.{List, [], ◌∷◌}
use native.Mathlib.Omega.{arith}
use borrow.Author.Tests.{not-false, ltb-false}
use Rattle.std.proofs.lemmas.List.{length-replicate}
use Rattle.wire.specs.Conditions.{◌and◌}
use Rattle.wire.specs.Wire.{Bytes}
use Rattle.wire.proofs.laws.Cases.{else_b, if_b, else_lt}
use Rattle.wire.proofs.laws.Chains.{eq_holds, passed}
use Rattle.wire.proofs.laws.Wire.{bytes_take, bytes_drop}
use Rattle.record.specs.Record.{worked_of}
use Rattle.record.specs.declared.Record.{Record}
use Rattle.record.specs.declared.Worked.{Worked}
use Rattle.change.specs.Change.{kind_of, put_after, takes_back}
use Rattle.change.specs.declared.Edit.{Edit}
use Rattle.marks.proofs.laws.Marks.{length_marks}
use Rattle.journal.specs.Add.{entry_len, end_of}
use Rattle.journal.specs.declared.Way.TheVariants.{Before, After}
use Rattle.journal.proofs.Parts.{body_short}
use Rattle.packet.specs.Packet.{packet_status, data_of}
use Rattle.packet.proofs.laws.Exactly.{good_exactly}
use Rattle.occ.specs.Conditions.{CommandOk, accepts}
use Rattle.occ.specs.Judge.{judge_of}
use Rattle.occ.specs.Open.{open_in, by_profile}
use Rattle.occ.proofs.laws.Exactly.{judge_exactly}
use Rattle.occ.specs.declared.Judged.{Judged}
use Rattle.occ.specs.declared.Verdict.{Verdict}
use Rattle.occ.specs.declared.Verdict.TheVariants.{Refuse, Poll, Make}
use Rattle.session.specs.Session.{well_formed, made_of, renewed, with_timer, with_profile, carried_to, carried_of}
use Rattle.session.specs.Road.{Said, kept, done}
use Rattle.session.proofs.laws.Session.{formed, formed_ok}
use Rattle.session.proofs.laws.Watch.{none_used}
use Rattle.session.specs.declared.Session.{Session}
use Rattle.occ_call.specs.Occ.{occ_call}
use Rattle.links.specs.Typed.{TypedSession}
use Rattle.plan.specs.Conditions.{Order}
use Rattle.plan.specs.Plan.{packets_in, packet_at, packet_of, sound, trial_made, trial_by, trial_judged, trial_of, is_order, reaches_from, reaches, plan_ok, start_of}
use Rattle.plan.proofs.laws.Orders.{of_more, order_exactly, five_at_most}
use Rattle.plan.specs.declared.Trial.{Trial}
use Rattle.promises.specs.Calls.{occ, buffer_of, asks, said}
use Rattle.promises.specs.History.{Deed, Run, did, next_run, start}
use Rattle.promises.specs.Demand2.{HasRoom, WellAsked, occ_kind, OccAccepted, OccSucceeds}
use Rattle.promises.specs.Isolation.{OccsFit}
use Rattle.promises.specs.Plans.{trial_session, sent_from, Leads, IsPlan}
use Rattle.promises.proofs.laws.Demand3.{Inv, formed as formed-so, next_inv}
use Rattle.promises.proofs.laws.Lent.{run_typed}
use Rattle.promises.proofs.laws.OccDemands.{occ_accepted}
use Rattle.promises.proofs.laws.OccWays.{judged, edit, Heard, ill_read, declined, polled, no_room_lem, carried, Called, ill_formed, unknown, short_reply, short_command, answered, called}
use Rattle.promises.proofs.laws.Opened.{opened_start}
use Rattle.promises.proofs.laws.Profiles.{profile_stays}
use Rattle.promises.proofs.laws.Room.{has_none}

-- ---- the session of a trial

trial_typed : (s : Session) → TypedSession s → TypedSession (trial_session s)
unfolding trial_session renewed with_profile
trial_typed s t = record {
  held = t.held;
  journal = length-replicate {A = ℕ} 2048 0;
  next = t.next;
  used = omega arith;
  redo = length-replicate {A = ℕ} 2048 0;
  ahead = omega arith;
  marks = length_marks _;
  timer = t.timer;
}

trial_formed : (s : Session) → well_formed s ≡ true → well_formed (trial_session s) ≡ true
unfolding trial_session renewed with_profile
trial_formed s whole =
    let f = formed s whole in
    formed_ok (trial_session s)
    (record {
      record_ok_lem = f.record_ok_lem;
      worked_is = refl;
      timer_ok_lem = f.timer_ok_lem;
      both_fit = omega arith;
      journal = none_used Before 2048;
      marks_are = refl;
      redo = none_used After 2048;
      profile_is = inl refl;
    })

-- it starts a history, from the given record and next id
trial_starts : (s : Session) → TypedSession s → well_formed s ≡ true → Inv (trial_session s).held (trial_session s).next (start (trial_session s))
unfolding trial_session renewed
trial_starts s typed ok = opened_start (trial_session s) (trial_typed s typed) (trial_formed s ok) refl refl

-- ---- an entry takes 164 bytes at most

end_short : (s : Session) (e b : Edit) (n : ℕ) → (carried_to s e (end_of n s.used b)).session.used ≤ s.used + 164
unfolding end_of carried_to renewed with_timer
end_short s e b n = go (ltb n s.used) (ltb (n - s.used) (entry_len b))
  where
    go : (x y : Bool) → (carried_to s e (cond x None (cond y None (Some (s.used + entry_len b))))).session.used ≤ s.used + 164
    go true y = omega arith
    go false true = omega arith
    go false false = omega (arith, body_short (kind_of b.change))

module _ (s : Session) (e : Edit) where
  abbrev made : Trial
  made = record { held = put_after s.held e; next = s.next + made_of e.change }

  carried_short : (carried_of s e).session.used ≤ s.used + 164
  unfolding carried_of
  carried_short = end_short s e (takes_back s.held s.timer e) (length s.journal)

  carried_at : (used : ℕ) → start_of (carried_to s e (Some used)).session ≡ made
  unfolding start_of carried_to renewed with_timer
  carried_at used = refl

  carried_start : (carried_of s e).full ≡ false → start_of (carried_of s e).session ≡ made
  unfolding carried_of carried_to
  carried_start f = go (end_of (length s.journal) s.used (takes_back s.held s.timer e)) f
    where
      go : (x : Option ℕ) → (carried_to s e x).full ≡ false → start_of (carried_to s e x).session ≡ made
      go (Some used) f = carried_at used
      go None f = absurd (true≢false f)

-- ---- one packet, on a well-formed full session with room for an entry, and tried on its record and next id

module _ (s : Session) (typed : TypedSession s) (ok : well_formed s ≡ true) (full : s.profile ≡ 0) (room : s.used + 164 ≤ 2048) (c d : List ℕ) (long : 4096 ≤ length d) where
  abbrev t : Trial
  t = start_of s

  abbrev j : Judged
  j = judged s 0x10 c d

  abbrev type : ℕ
  type = get_or c 1 0

  -- it is judged alike
  judged_alike : judge_of s.held (worked_of s.held) s.next 0x10 type (data_of c) ≡ j
  judged_alike = ap (λ (w : Worked). judge_of s.held w s.next 0x10 type (data_of c)) (sym (formed s ok).worked_is)

  sound_is : sound c ≡ true → trial_of t c ≡ trial_by t j.tables j.verdict
  unfolding trial_of trial_judged start_of
  sound_is h = sym (else_b _ _ (ap not h) (ap (trial_judged t) (sym judged_alike)))

  by_verdict : (v : Verdict) → is_some (trial_by t j.tables v) ≡ accepts v
  unfolding trial_by accepts start_of
  by_verdict (Refuse n) = refl
  by_verdict Poll = refl
  by_verdict (Make ch) = refl

  -- what its bytes decide
  sound_exactly : (sound c ≡ true) ↔ ((4 ≤ length c) and (packet_status c ≡ Good tt))
  unfolding sound
  sound_exactly = (
    λ h. let q = passed _ _ h in (ltb-false (length c) 4 q.0, ok_is (packet_status c) q.1),
    λ h. sym (else_lt _ _ h.0 (sym (ap is_ok h.1))),
  )

  unsound : sound c ≡ false → is_some (trial_of t c) ≡ false
  unfolding trial_of
  unsound h = ap is_some (sym (if_b None (trial_judged t (judge_of t.held (worked_of t.held) t.next 0x10 (get_or c 1 0) (data_of c))) (ap not h) refl))

  is_sound : is_some (trial_of t c) ≡ true → sound c ≡ true
  is_sound h = go (sound c) refl
    where
      go : (b : Bool) → sound c ≡ b → sound c ≡ true
      go true e = e
      go false e = absurd (false≢true (sym (unsound e) ∙ h))

  abbrev Ok : Type 0
  Ok = CommandOk s.held (worked_of s.held) s.next 0x10 type (data_of c)

  accepts_exactly : (accepts j.verdict ≡ true) ↔ Ok
  accepts_exactly =
      let e = judge_exactly s.held (worked_of s.held) s.next 0x10 type (data_of c) typed.held.logs in
      let is = ap (λ (x : Judged). accepts x.verdict) judged_alike in
      (λ h. e.0 (is ∙ h), λ h. sym is ∙ e.1 h)

  tried_exactly : (is_some (trial_of t c) ≡ true) ↔ ((sound c ≡ true) and Ok)
  tried_exactly = (
    λ h. let q = is_sound h in (q, accepts_exactly.0 (sym (ap is_some (sound_is q) ∙ by_verdict j.verdict) ∙ h)),
    λ h. ap is_some (sound_is h.0) ∙ by_verdict j.verdict ∙ accepts_exactly.1 h.1,
  )

  fits : (kind : ℕ) → HasRoom s kind
  fits kind = omega (arith, room, body_short kind)

  accepted_exactly : OccAccepted s 0x10 c d ↔ ((sound c ≡ true) and Ok)
  unfolding OccAccepted WellAsked
  accepted_exactly = (
    λ h. (sound_exactly.1 (h.1.1.0, (good_exactly c).1 (h.1.1.1.0.0, h.1.1.1.0.1.0)), h.1.1.1.0.1.1.0),
    λ h.
        let q = sound_exactly.0 h.0 in
        let g = (good_exactly c).0 q.1 in
        (inl refl, (long, (q.0, ((g.0, (g.1, (h.1, inl full))), λ n. fits (occ_kind c))))),
  )

  -- it succeeds in the session exactly when it does in the trial
  succeeds_exactly : (is_some (trial_of t c) ≡ true) ↔ OccSucceeds s 0x10 c d
  succeeds_exactly =
      let a = occ_accepted s typed 0x10 c d ok in
      (λ h. a.1 (accepted_exactly.1 (tried_exactly.0 h)), λ h. tried_exactly.1 (accepted_exactly.0 (a.0 h)))

  -- ---- its entry has room, and answer 5 never comes

  pub record Roomy (q : Said) : Type 0 where
    pub has_room : q.answer ≡ 5 → ⊥
    pub short : q.session.used ≤ s.used + 164

  heard_roomy : (q : Said) (e : Deed) → Heard s 0x10 c d q e → Roomy q
  unfolding done kept
  heard_roomy q e (ill_read x z) = record { has_room = λ h. omega (arith, h); short = omega arith }
  heard_roomy q e (declined z n v) = record { has_room = λ h. omega (arith, h); short = omega arith }
  heard_roomy q e (polled z v) = record { has_room = λ h. omega (arith, h); short = omega arith }
  heard_roomy q e (no_room_lem z ch v none) = absurd (omega (arith, has_none s typed.journal (edit s 0x10 c d ch) (kind_of ch) refl none, fits (kind_of ch)))
  heard_roomy q e (carried z ch v some) = record { has_room = λ h. omega (arith, h); short = carried_short s (edit s 0x10 c d ch) }

  called_roomy : (q : Said) (e : Deed) → Called s 0x10 c d q e → Roomy q
  unfolding kept
  called_roomy q e (ill_formed z) = record { has_room = λ h. omega (arith, h); short = omega arith }
  called_roomy q e (unknown w z) = record { has_room = λ h. omega (arith, h); short = omega arith }
  called_roomy q e (short_reply w k l) = record { has_room = λ h. omega (arith, h); short = omega arith }
  called_roomy q e (short_command w k l z) = record { has_room = λ h. omega (arith, h); short = omega arith }
  called_roomy q e (answered p q₁ e₁ x) = heard_roomy q₁ e₁ x

  roomy : Roomy (occ_call s 0x10 c d)
  roomy = called_roomy _ _ (called s 0x10 c d)

  -- ---- it leaves what the trial does

  abbrev Leaves : Said → Type 0
  Leaves q = Some (start_of q.session) ≡ trial_of t c

  open_stays : by_profile s.profile type j.verdict ≡ j.verdict
  unfolding by_profile open_in
  open_stays = ap (λ (p : ℕ). by_profile p type j.verdict) full

  module _ (h : is_some (trial_of t c) ≡ true) where
    by_this : (v : Verdict) → by_profile s.profile type j.verdict ≡ v → trial_of t c ≡ trial_by t j.tables v
    by_this v e = sound_is (is_sound h) ∙ ap (trial_by t j.tables) (sym open_stays ∙ e)

    refuses_none : (n : Status) → by_profile s.profile type j.verdict ≡ Refuse n → ⊥
    unfolding accepts
    refuses_none n e = true≢false (sym h ∙ ap is_some (by_this (Refuse n) e) ∙ by_verdict (Refuse n))

    heard_leaves : (q : Said) (e : Deed) → Heard s 0x10 c d q e → Leaves q
    unfolding done kept trial_by trial_made start_of
    heard_leaves q e (ill_read x z) = absurd (false≢true (ap is_ok (sym z ∙ (sound_exactly.0 (is_sound h)).1)))
    heard_leaves q e (declined z n v) = absurd (refuses_none n v)
    heard_leaves q e (polled z v) = sym (by_this Poll v)
    heard_leaves q e (no_room_lem z ch v none) = absurd (omega (arith, has_none s typed.journal (edit s 0x10 c d ch) (kind_of ch) refl none, fits (kind_of ch)))
    heard_leaves q e (carried z ch v some) = ap Some (carried_start s (edit s 0x10 c d ch) some) ∙ sym (by_this (Make ch) v)

    called_leaves : (q : Said) (e : Deed) → Called s 0x10 c d q e → Leaves q
    called_leaves q e (ill_formed z) = absurd (z ok)
    called_leaves q e (unknown w z) = absurd (z (inl refl))
    called_leaves q e (short_reply w k l) = absurd (omega (arith, l, long))
    called_leaves q e (short_command w k l z) = absurd (omega (arith, z, (sound_exactly.0 (is_sound h)).0))
    called_leaves q e (answered p q₁ e₁ x) = heard_leaves q₁ e₁ x

    leaves : Leaves (occ_call s 0x10 c d)
    leaves = called_leaves _ _ (called s 0x10 c d)

-- ---- a row of packets

module _ (p : List ℕ) (bytes : Bytes p) (wanted : ℕ) (d : List ℕ) (long : 4096 ≤ length d) where
  packet_bytes : (x : ℕ) → Bytes (packet_of x p)
  unfolding packet_of packet_at
  packet_bytes x = bytes_take 4096 (drop (4096 * (x - 1)) p) (bytes_drop (4096 * (x - 1)) p bytes)

  state_exactly : (s : Session) → (eqb (start_of s).held.state wanted ≡ true) ↔ (s.held.state ≡ wanted)
  unfolding start_of
  state_exactly s = eq_holds s.held.state wanted

  module _ (base : Record) (first : ℕ) where
    -- what reaches the state was tried with success
    some_tried : (v : Option Trial) (xs : List ℕ) → reaches_from p wanted v xs ≡ true → is_some v ≡ true
    unfolding reaches_from
    some_tried None xs h = absurd (false≢true h)
    some_tried (Some t) xs h = refl

    -- in a history that goes on, with room for as many entries as there are packets left
    leads_exactly : (o : List ℕ) (r : Run) → Inv base first r → r.session.profile ≡ 0 → r.session.used + 164 * length o ≤ 2048
        → (reaches p wanted (start_of r.session) o ≡ true) ↔ Leads p wanted d r.session o
    unfolding reaches reaches_from next_run did said asks buffer_of occ_call
    leads_exactly [] r v full room = state_exactly r.session
    leads_exactly (x ∷ xs) r v full room =
        let s = r.session in
        let c = packet_of x p in
        let typed = (run_typed base first r v).session in
        let ok = formed-so base first r v in
        let more : s.used + 164 ≤ 2048 = omega (arith, room) in
        let one = succeeds_exactly s typed ok full more c d long in
        let after : Session = (occ_call s 0x10 c d).session in
        let rest : (reaches p wanted (start_of after) xs ≡ true) ↔ Leads p wanted d after xs =
        leads_exactly xs (next_run r (occ 0x10 c d)) (next_inv base first r v (occ 0x10 c d) (packet_bytes x)) (profile_stays s (occ 0x10 c d) ∙ full)
        (omega (arith, room, (roomy s typed ok full more c d long).short)) in
        let stands : is_some (trial_of (start_of s) c) ≡ true → reaches p wanted (start_of after) xs ≡ reaches_from p wanted (trial_of (start_of s) c) xs =
        λ h. ap (λ (y : Option Trial). reaches_from p wanted y xs) (leaves s typed ok full more c d long h) in (
          λ h. let y = some_tried (trial_of (start_of s) c) xs h in (one.0 y, rest.0 (stands y ∙ h)),
          λ h. sym (stands (one.1 h.0)) ∙ rest.1 h.1,
        )

    -- nor does any packet of a row get answer 5
    all_fit : (o : List ℕ) (r : Run) → Inv base first r → r.session.profile ≡ 0 → r.session.used + 164 * length o ≤ 2048 → OccsFit r.session (sent_from p d o)
    unfolding sent_from next_run did said asks buffer_of occ_call
    all_fit [] r v full room = tt
    all_fit (x ∷ xs) r v full room =
        let s = r.session in
        let c = packet_of x p in
        let one = roomy s (run_typed base first r v).session (formed-so base first r v) full (omega (arith, room)) c d long in (
          one.has_room,
          all_fit xs (next_run r (occ 0x10 c d)) (next_inv base first r v (occ 0x10 c d) (packet_bytes x)) (profile_stays s (occ 0x10 c d) ∙ full) (omega (arith, room, one.short)),
        )

-- ---- the check, exactly

module _ (s : Session) (typed : TypedSession s) (p : List ℕ) (bytes : Bytes p) (wanted : ℕ) (ok : well_formed s ≡ true) (few : packets_in p ≤ 5) (d : List ℕ) (long : 4096 ≤ length d) where
  abbrev ts : Session
  ts = trial_session s

  full_trial : ts.profile ≡ 0
  unfolding trial_session renewed with_profile
  full_trial = refl

  none_used_yet : (o : List ℕ) → length o ≤ 5 → ts.used + 164 * length o ≤ 2048
  unfolding trial_session renewed
  none_used_yet o five = omega (arith, five)

  same_start : start_of ts ≡ start_of s
  unfolding start_of trial_session renewed
  same_start = refl

  run_exactly : (o : List ℕ) → length o ≤ 5 → (reaches p wanted (start_of s) o ≡ true) ↔ Leads p wanted d ts o
  unfolding start
  run_exactly o five =
      let e = leads_exactly p bytes wanted d long ts.held ts.next o (start ts) (trial_starts s typed ok) full_trial (none_used_yet o five) in
      let is = ap (λ (t : Trial). reaches p wanted t o) same_start in
      (λ h. e.0 (is ∙ h), λ h. sym is ∙ e.1 h)

  pub named_few : (o : List ℕ) → is_order (packets_in p) o ≡ true → length o ≤ 5
  named_few o h = five_at_most o (of_more (packets_in p) 5 few o h)

  pub passes_exactly : (o : List ℕ) → (plan_ok p wanted (start_of s) o ≡ true) ↔ IsPlan s p wanted d o
  unfolding plan_ok
  passes_exactly o = (
    λ h.
        let a = passed _ _ h in
        let b = passed (not (is_order (packets_in p) o)) _ a.1 in
        ((order_exactly (packets_in p) o).0 (not-false _ b.0), (run_exactly o (ltb-false 5 (length o) a.0)).0 b.1),
    λ h.
        let ordered = (order_exactly (packets_in p) o).1 h.0 in
        let five = named_few o ordered in
        sym (else_lt _ _ five (else_b _ _ (ap not ordered) (sym ((run_exactly o five).1 h.1)))),
  )

  pub trials_fit : (o : List ℕ) → Order (packets_in p) o → OccsFit ts (sent_from p d o)
  unfolding start
  trials_fit o h =
      all_fit p bytes wanted d long ts.held ts.next o (start ts) (trial_starts s typed ok) full_trial (none_used_yet o (named_few o ((order_exactly (packets_in p) o).1 h)))
