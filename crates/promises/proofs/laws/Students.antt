-- Document 02, k: a watch-only session that nobody can break: whatever it is sent, right or damaged. Assumes nothing.
use Rattle.std.specs.Prelude.{ℕ, ◌+◌, true, not, ◌≡◌, ltb, leb, eqb, length, get_or, Option, Some, None}
use Rattle.std.proofs.Common.{⊎_elim, sym, subst, ◌∙◌, arith}
use Rattle.std.proofs.Math.Path.{refl, ap}
use mathlib.Core.List.{List, [], ◌∷◌}
use Rattle.std.proofs.Math.Nat.{add-zero}
use borrow.Author.Tests.{not-false, eqb-true}
use Rattle.wire.proofs.laws.Cases.{cond_elim, cond_cases}
use Rattle.record.specs.Record.{worked_of}
use Rattle.record.specs.declared.Record.{Record}
use Rattle.std.specs.Option.{unwrap_or}
use Rattle.change.specs.Change.{kind_of, clear_of, unclear_of, put_with, put_of, takes_back}
use Rattle.change.specs.Logs.{pending_of, pends_at}
use Rattle.change.specs.With.{with_logs}
use Rattle.change.specs.declared.Change.{Change}
use Rattle.change.specs.declared.Change.TheVariants.{Clear, Unclear, SetState, SetRole, SetCaps, SetUser, SetThermal, SetThrottles, Reset, Unreset, SetMask, SetDeadman, SetAreas, SetTimer}
use Rattle.change.specs.declared.Tables.{Tables}
use Rattle.change.specs.declared.Edit.{Edit}
use Rattle.packet.specs.Packet.{data_of}
use Rattle.journal.specs.Add.{end_of}
use Rattle.journal.specs.declared.Way.{Way}
use Rattle.journal.specs.declared.Way.TheVariants.{Before, After}
use Rattle.journal.proofs.laws.Says.{Says, found_says}
use Rattle.occ.proofs.laws.Open.{open_clears}
use Rattle.occ.specs.declared.Verdict.{Verdict}
use Rattle.occ.specs.declared.Verdict.TheVariants.{Refuse, Poll, Make}
use Rattle.sbe.specs.declared.Ruling.{Ruling}
use Rattle.sbe.specs.declared.Ruling.TheVariants.{Decline, Grant, Done, Read}
use Rattle.session.specs.Session.{only_clears, well_formed, renewed, with_timer, with_profile, carried_to, carried_of}
use Rattle.session.specs.Road.{Asks, refuses, tells, makes, moves, forgets, passes, opens, store_of, used_of, held_in, session_moved, session_freed, forgotten, time_passed, watch_only, Said, kept, done, carried_says, settled}
use Rattle.session.proofs.laws.Road.{due_cases}
use Rattle.session.proofs.laws.Session.{formed}
use Rattle.session.proofs.laws.Watch.{clears_first, entries_read}
use Rattle.session.specs.declared.Session.{Session}
use Rattle.occ_call.specs.Occ as occs
use Rattle.sbe_call.specs.Sbe as sbes
use Rattle.undo_call.specs.Undo.{move_asks, move_call}
use Rattle.undo_call.proofs.laws.NoneLeft.{none_zero}
use Rattle.forget_call.specs.Forget.{oldest_asks, forget_asks}
use Rattle.time_call.specs.Time.{time_asks}
use Rattle.watch_call.specs.Watch.{watch_asks, watch_call}
use Rattle.promises.specs.Calls.{Call, occ, sbe, undo, redo, forget, time, asks, said}
use Rattle.promises.specs.Demand2.{Newest}
use Rattle.promises.specs.Sittings.{Act, calls, watch, handed, Unbroken}
use Rattle.promises.proofs.laws.Moves.{clear_of_lem}
use Rattle.promises.proofs.laws.OccWalk.{judged, final, asked_by, occ_walk}
use Rattle.promises.proofs.laws.Profiles.{clear_makes_none}
use Rattle.promises.proofs.laws.UndoDemands.{Called, ill_formed, empty, barred, goes, called}

-- ---- clears move pending logs alone

abbrev Logs : Record → Option Record → Type 0
Logs r c = unwrap_or c r ≡ with_logs r (unwrap_or c r).logs

put_logs : (r : Record) (t : Tables) (ch : Change) → kind_of ch ≡ 0x01 → Logs r (put_with r t ch)
unfolding put_with clear_of unclear_of with_logs kind_of
put_logs r t (Clear place log) k = cond_elim (Logs r) (not (pends_at place log r.logs)) refl refl
put_logs r t (Unclear place log) k = cond_elim (Logs r) (ltb (pending_of r.logs) place) refl (cond_elim (Logs r) (leb 4 (pending_of r.logs)) refl refl)
put_logs r t (SetState state) k = absurd (omega (arith, k))
put_logs r t (SetRole got role) k = absurd (omega (arith, k))
put_logs r t (SetCaps got caps) k = absurd (omega (arith, k))
put_logs r t (SetUser user) k = absurd (omega (arith, k))
put_logs r t (SetThermal got) k = absurd (omega (arith, k))
put_logs r t (SetThrottles got) k = absurd (omega (arith, k))
put_logs r t (Reset log) k = absurd (omega (arith, k))
put_logs r t (Unreset state made) k = absurd (omega (arith, k))
put_logs r t (SetMask mask) k = absurd (omega (arith, k))
put_logs r t (SetDeadman deadman) k = absurd (omega (arith, k))
put_logs r t (SetAreas areas) k = absurd (omega (arith, k))
put_logs r t (SetTimer timer) k = absurd (omega (arith, k))

-- ---- a watch-only session is asked for clears alone

-- and what alters a session more than its timer is asked of a well-formed one
module _ (s : Session) where
  abbrev Clearing : Asks → Type 0
  Clearing (refuses n) = Unit {0}
  Clearing (tells bell y) = Unit {0}
  Clearing (makes e bell y) = (kind_of e.change ≡ 0x01) × (well_formed s ≡ true)
  Clearing (moves w at e) = (kind_of e.change ≡ 0x01) × (well_formed s ≡ true)
  Clearing (forgets n) = well_formed s ≡ true
  Clearing (passes n) = Unit {0}
  Clearing opens = well_formed s ≡ true

module _ (s : Session) (on : s.profile ≡ 1) where
  not_full : s.profile ≡ 0 → ⊥
  not_full z = omega (arith, z, on)

  module _ (sender : ℕ) (c d : List ℕ) where
    judged_clears : well_formed s ≡ true → (v : Verdict) → final s sender c d (judged s sender c d).verdict ≡ v → Clearing s (asked_by s sender c d (judged s sender c d).tables v)
    unfolding occs.verdict_asks
    judged_clears ok (Refuse status) e = tt
    judged_clears ok Poll e = tt
    judged_clears ok (Make ch) e = (open_clears s.held s.worked s.next sender (data_of c) s.profile (get_or c 1 0) ch not_full e, ok)

    occ_clears : Clearing s (occs.occ_asks s sender c d)
    unfolding occs.verdict_asks
    occ_clears = occ_walk s sender c d (Clearing s) (λ n. tt) (λ status t. tt) judged_clears

  module _ (r d : List ℕ) where
    denied_clears : (v : Ruling) → Clearing s (sbes.ruling_asks r d (sbes.denied v))
    unfolding sbes.ruling_asks sbes.denied
    denied_clears (Decline why) = tt
    denied_clears (Grant ch) = tt
    denied_clears Done = tt
    denied_clears (Read offset size) = tt

    sbe_clears : (m x : List ℕ) → Clearing s (sbes.sbe_asks s r d m x)
    unfolding sbes.sbe_asks sbes.sbe_read sbes.by_profile
    sbe_clears m x =
        due_cases (Clearing s) (sbes.sbe_refusal s (length r) (length d)) (λ n. tt)
        (λ z. cond_cases (λ (v : Ruling). Clearing s (sbes.ruling_asks r d v)) (eqb s.profile 0) (λ t. absurd (not_full (eqb-true s.profile 0 t))) (λ t. denied_clears _))

  module _ (w : Way) where
    newest_clears : well_formed s ≡ true → (e : Edit) (n : Newest w s e) → kind_of e.change ≡ 0x01
    newest_clears ok e n =
        let says : kind_of e.change ≡ n.entry.kind = (subst (λ (x : Option Change). Says w n.entry.kind x) n.change (found_says w n.entry.kind n.entry.body)).0 in
        ⊎_elim (λ z. absurd (not_full z))
        (λ h.
        let all = clear_of_lem s w h.1 h.2 in
        says ∙ (clears_first n.entry n.older (sym (ap only_clears (entries_read (used_of w s) (store_of w s) (n.entry ∷ n.older) n.read)) ∙ all)).0)
        (formed s ok).profile_is

    called_clears : (a : Asks) → Called w s a → Clearing s a
    called_clears a (ill_formed h) = tt
    called_clears a (empty x z) = tt
    called_clears a (barred x e n bar) = tt
    called_clears a (goes x e n u) = (newest_clears x e n, x)

    abbrev OfAClear : Said → Type 0
    OfAClear q = q.answer ≡ 0 → q.kind ≡ 0x01

    called_kind : (a : Asks) → Called w s a → OfAClear (settled s [] a)
    unfolding settled kept done
    called_kind a (ill_formed h) z = absurd (omega (arith, z))
    called_kind a (empty x h) z = absurd (none_zero w z)
    called_kind a (barred x e n bar) z = absurd (omega (arith, z))
    called_kind a (goes x e n u) z = newest_clears x e n

    -- undo and redo take back and put back clears only
    pub moves_clears : (move_call w s).answer ≡ 0 → (move_call w s).kind ≡ 0x01
    unfolding move_call
    moves_clears = called_kind (move_asks w s) (called w s)

  asked_clears : (c : Call) → Clearing s (asks s c)
  unfolding asks forget_asks oldest_asks time_asks
  asked_clears (occ sender c d) = occ_clears sender c d
  asked_clears (sbe r d m x) = sbe_clears r d m x
  asked_clears undo = called_clears Before (move_asks Before s) (called Before s)
  asked_clears redo = called_clears After (move_asks After s) (called After s)
  asked_clears (forget n) = cond_cases (Clearing s) (not (well_formed s)) (λ f. tt) (λ f. cond_elim (Clearing s) (ltb (held_in s) n) tt (not-false _ f))
  asked_clears (time n) = cond_elim (Clearing s) (not (well_formed s)) tt tt

  -- ---- what comes of it

  same_logs : (r : Record) → r ≡ with_logs r r.logs
  unfolding with_logs
  same_logs r = refl

  worked_logs : (r x : Record) → x ≡ with_logs r x.logs → worked_of x ≡ worked_of r
  unfolding worked_of with_logs
  worked_logs r x e = ap worked_of e

  -- what is worked out of a record whose logs alone moved, where the session is well formed
  worked_again : well_formed s ≡ true → (x : Record) → x ≡ with_logs s.held x.logs → worked_of x ≡ s.worked
  worked_again ok x e = worked_logs s.held x e ∙ sym (formed s ok).worked_is

  -- with another record, if its logs alone moved, and the same next id
  unbroken : (t : Session) → t.held ≡ with_logs s.held t.held.logs → t.worked ≡ s.worked → t.next ≡ s.next → t.profile ≡ 1 → Unbroken s t
  unbroken t h w n p = record { record_is = h; worked_is = w; next_is = n; profile_is = p }

  pub as_it_was : Unbroken s s
  as_it_was = unbroken s (same_logs s.held) refl refl on

  carried_at : (e : Edit) → kind_of e.change ≡ 0x01 → well_formed s ≡ true → (used : ℕ) → Unbroken s (carried_to s e (Some used)).session
  unfolding carried_to renewed with_timer put_of
  carried_at e k ok used =
      let logs = put_logs s.held e.tables e.change k in
      unbroken _ logs (worked_again ok (unwrap_or (put_with s.held e.tables e.change) s.held) logs) (ap (λ (n : ℕ). s.next + n) (clear_makes_none e.change k) ∙ add-zero s.next) on

  carried_unbroken : (e : Edit) → kind_of e.change ≡ 0x01 → well_formed s ≡ true → Unbroken s (carried_of s e).session
  unfolding carried_of carried_to
  carried_unbroken e k ok = go (end_of (length s.journal) s.used (takes_back s.held s.timer e))
    where
      go : (x : Option ℕ) → Unbroken s (carried_to s e x).session
      go (Some used) = carried_at e k ok used
      go None = as_it_was

  abbrev Safe : Said → Type 0
  Safe q = Unbroken s q.session

  settled_unbroken : (d : List ℕ) (a : Asks) → Clearing s a → Safe (settled s d a)
  unfolding settled carried_says kept done session_moved forgotten session_freed time_passed watch_only renewed with_timer with_profile put_of
  settled_unbroken d (refuses n) h = as_it_was
  settled_unbroken d (tells bell y) h = as_it_was
  settled_unbroken d (makes e bell y) h = cond_elim Safe (carried_of s e).full as_it_was (carried_unbroken e h.0 h.1)
  settled_unbroken d (moves w at e) h =
      let logs = put_logs s.held e.tables e.change h.0 in
      unbroken _ logs (worked_again h.1 (unwrap_or (put_with s.held e.tables e.change) s.held) logs) refl on
  settled_unbroken d (forgets n) h = unbroken _ (same_logs s.held) (worked_again h s.held (same_logs s.held)) refl on
  settled_unbroken d (passes n) h = unbroken _ (same_logs s.held) refl refl on
  settled_unbroken d opens h = unbroken _ (same_logs s.held) (worked_again h s.held (same_logs s.held)) refl refl

  call_unbroken : (c : Call) → Unbroken s (said s c).session
  unfolding said
  call_unbroken c = settled_unbroken _ (asks s c) (asked_clears c)

  watch_unbroken : Unbroken s (watch_call s).session
  unfolding watch_call watch_asks
  watch_unbroken = settled_unbroken [] (watch_asks s) (cond_cases (Clearing s) (not (well_formed s)) (λ f. tt) (λ f. not-false _ f))

-- one after the other
then_unbroken : (s t u : Session) → Unbroken s t → Unbroken t u → Unbroken s u
unfolding with_logs
then_unbroken s t u a b = record {
  record_is = b.record_is ∙ ap (λ (r : Record). with_logs r u.held.logs) a.record_is;
  worked_is = b.worked_is ∙ a.worked_is;
  next_is = b.next_is ∙ a.next_is;
  profile_is = b.profile_is;
}

pub students_unbroken : (xs : List Act) (s : Session) → s.profile ≡ 1 → Unbroken s (handed s xs)
unfolding handed
students_unbroken [] s on = as_it_was s on
students_unbroken (calls c ∷ xs) s on =
    let here = call_unbroken s on c in
    then_unbroken s (said s c).session (handed (said s c).session xs) here (students_unbroken xs (said s c).session here.profile_is)
students_unbroken (watch ∷ xs) s on =
    let here = watch_unbroken s on in
    then_unbroken s (watch_call s).session (handed (watch_call s).session xs) here (students_unbroken xs (watch_call s).session here.profile_is)
