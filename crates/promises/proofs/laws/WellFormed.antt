-- Well-formed in, well-formed out: for every call, on every well-formed session, reached from a fresh one or not. Assumes nothing.
use Rattle.std.specs.Prelude.{ℕ, ◌+◌, ◌^◌, ◌≤◌, ◌<◌, true, false, not, ◌≡◌, refl, length, replicate, Option}
use Rattle.std.proofs.Common.{inl, ⊎_elim, sym, ◌∙◌, arith}
use Rattle.std.proofs.Math.Path.{ap, subst}
use mathlib.Core.List.{List, []}
use Rattle.wire.specs.Wire.{Bytes}
use Rattle.wire.proofs.laws.Cases.{cond_cases}
use Rattle.record.specs.declared.Timer.{Timer}
use Rattle.change.specs.Change.{kind_of, put_after, back_of, inverse_of, timed_change, timed, takes_back, timer_after}
use Rattle.change.proofs.laws.Timed.{timed_cases, timed_kind, kind_of_back}
use Rattle.change.specs.declared.Change.{Change}
use Rattle.change.specs.declared.Change.TheVariants.{SetTimer}
use Rattle.change.specs.declared.Tables.{Tables}
use Rattle.change.specs.declared.Edit.{Edit}
use Rattle.formed.specs.Formed.{timer_ok, change_ok, edit_ok}
use Rattle.journal.specs.Bytes.{entry_for}
use Rattle.journal.specs.Read.{entry_ok}
use Rattle.journal.proofs.laws.Bodies.{Writable}
use Rattle.journal.specs.Add.{entry_len, added_to}
use Rattle.journal.proofs.laws.Ends.{end_at}
use Rattle.journal.specs.declared.Way.{Way}
use Rattle.journal.specs.declared.Way.TheVariants.{Before, After}
use Rattle.session.specs.Session.{entries_in, well_formed, renewed, with_timer, made_of, carried_to, carried_of}
use Rattle.session.specs.Road.{Asks, refuses, tells, makes, moves, forgets, passes, opens, session_moved, Said, kept, done, carried_says, settled}
use Rattle.session.proofs.laws.Forgotten.{forgotten_formed}
use Rattle.session.proofs.laws.Timer.{passed_formed}
use Rattle.session.proofs.laws.Session.{Profile, Formed, formed, formed_ok}
use Rattle.session.proofs.laws.Watch.{profile_kept, none_used, watch_formed}
use Rattle.session.specs.declared.Session.{Session}
use Rattle.occ_call.specs.Occ.{occ_asks, occ_call}
use Rattle.sbe_call.specs.Sbe.{sbe_asks, sbe_call}
use Rattle.forget_call.specs.Forget.{forget_asks, forget_call}
use Rattle.time_call.specs.Time.{time_asks, time_call}
use Rattle.undo_call.specs.Undo.{move_asks, move_call, undo_call, redo_call}
use Rattle.links.specs.Typed.{TypedSession}
use Rattle.links.proofs.laws.Made.{Made}
use Rattle.links.proofs.laws.Entry.{entry_ok_lem}
use Rattle.links.proofs.laws.Links.{Link, link}
use Rattle.promises.proofs.laws.FormedStores.{none_clears, one_more, more_clears}
use Rattle.promises.proofs.laws.Moves.{timer_after_ok, moved_formed}
use Rattle.promises.proofs.laws.Room.{end_room}
use Rattle.promises.proofs.laws.Sound.{forget_sound, Lets, Sound, occ_sound, sbe_sound, move_sound}

-- ---- a change carried out

-- an entry that is written beside a timer is as good as without
record Written (tables : Tables) (ch : Change) : Type 0 where
  writable : Writable Before tables ch
  good : entry_ok Before (entry_for (record { change = ch; tables = tables })) ≡ true

written_timed : (t : Timer) → timer_ok t ≡ true → t.left < 256 ^ 8 → (tables : Tables) (ch : Change) → Written tables ch → Written tables (timed_change t ch)
unfolding edit_ok change_ok
written_timed t ok fits tables =
    timed_cases t (λ (a b : Change). Written tables a → Written tables b)
    (λ x h. let w : Writable Before tables (SetTimer t) = (fits, h.writable.1) in record { writable = w; good = entry_ok_lem Before (record { change = SetTimer t; tables = tables }) w ok })
    (λ ch n h. h)

module _ (s : Session) (f : Formed s) (typed : TypedSession s) (e : Edit) (m : Made s.held s.next e.tables e.change) (fits : (carried_of s e).full ≡ false) where
  abbrev b : Edit
  b = takes_back s.held s.timer e

  l : Link s.held s.next e
  l = link s.held s.next e f.record_ok_lem typed.held m

  back_written : Written b.tables b.change
  unfolding takes_back timed
  back_written =
      written_timed s.timer f.timer_ok_lem typed.timer (inverse_of s.held e).tables (inverse_of s.held e).change (record { writable = l.back_writable; good = l.entry_good })

  pub back_writable : Writable Before b.tables b.change
  back_writable = back_written.writable

  pub room : s.used + entry_len b ≤ length s.journal
  unfolding carried_of
  room = end_room s e b (length s.journal) s.used fits

  abbrev after : Session
  after = renewed (with_timer s (timer_after s.timer e.change)) (put_after s.held e) (s.next + made_of e.change) (added_to s.used b s.journal) (s.used + entry_len b) (replicate 2048 0) 0

  pub session_is : (carried_of s e).session ≡ after
  unfolding carried_of carried_to
  session_is = ap (λ (x : Option ℕ). (carried_to s e x).session) (end_at Before b s.used s.journal back_writable room)

  timer_passes : timer_ok (timer_after s.timer e.change) ≡ true
  unfolding change_ok
  timer_passes = timer_after_ok (Made s.held s.next e.tables) (λ x h. h.ok) s.timer f.timer_ok_lem e.change m

  -- the entry has the change's kind
  back_kind : (entry_for b).kind ≡ kind_of e.change
  unfolding takes_back timed inverse_of entry_for
  back_kind = timed_kind s.timer (back_of s.held e.change) ∙ kind_of_back s.held e.change

  -- clears only, if they were
  profile_after : Lets s.profile e.change → Profile s.profile (entries_in (s.used + entry_len b) (added_to s.used b s.journal)) (entries_in 0 (replicate 2048 0))
  profile_after lets =
      ⊎_elim (λ z. inl z)
      (λ k. profile_kept s.profile (entries_in s.used s.journal) (entries_in s.ahead s.redo) _ _ f.profile_is
      (λ j r. (more_clears Before s.journal s.used f.journal b back_writable back_written.good room (back_kind ∙ k) j, none_clears (replicate 2048 0))))
      lets

  -- the redo store is empty
  pub carried_formed : Lets s.profile e.change → well_formed (carried_of s e).session ≡ true
  unfolding renewed with_timer
  carried_formed lets =
      ap well_formed session_is
      ∙ formed_ok after (record {
        record_ok_lem = l.put_sound;
        worked_is = refl;
        timer_ok_lem = timer_passes;
        both_fit = omega (arith, room, typed.journal);
        journal = one_more Before s.journal s.used f.journal b back_writable back_written.good room;
        marks_are = refl;
        redo = none_used After 2048;
        profile_is = profile_after lets;
      })

-- ---- what comes of what a call asks

module _ (s : Session) (typed : TypedSession s) (whole : well_formed s ≡ true) (d : List ℕ) where
  abbrev Whole : Said → Type 0
  Whole q = well_formed q.session ≡ true

  asked_formed : (a : Asks) → Sound s a → Whole (settled s d a)
  unfolding settled carried_says kept done
  asked_formed (refuses n) h = whole
  asked_formed (tells bell y) h = whole
  asked_formed (forgets n) h = forgotten_formed n s whole
  asked_formed (passes n) h = passed_formed n s whole
  asked_formed opens h = watch_formed s whole
  asked_formed (makes e bell y) h = cond_cases Whole (carried_of s e).full (λ f. whole) (λ f. carried_formed s (formed s whole) typed e h.0 f h.1)
  asked_formed (moves w at e) h =
      subst (λ (k : ℕ). well_formed (session_moved w s k e (put_after s.held e)) ≡ true) (sym h.1) (moved_formed w s (formed s whole) e h.0 typed h.2.1)

-- ---- each call

module _ (s : Session) (typed : TypedSession s) (whole : well_formed s ≡ true) where
  pub occ_formed : (sender : ℕ) (c d : List ℕ) → Bytes c → well_formed (occ_call s sender c d).session ≡ true
  unfolding occ_call
  occ_formed sender c d bytes = asked_formed s typed whole d (occ_asks s sender c d) (occ_sound s (formed s whole).record_ok_lem typed.held sender c d bytes)

  pub sbe_formed : (r d m x : List ℕ) → Bytes r → well_formed (sbe_call s r d m x).session ≡ true
  unfolding sbe_call
  sbe_formed r d m x bytes = asked_formed s typed whole d (sbe_asks s r d m x) (sbe_sound s r d bytes m x)

  move_formed : (w : Way) → well_formed (move_call w s).session ≡ true
  unfolding move_call
  move_formed w = asked_formed s typed whole [] (move_asks w s) (move_sound s w)

  pub forget_formed : (n : ℕ) → well_formed (forget_call n s).session ≡ true
  unfolding forget_call
  forget_formed n = asked_formed s typed whole [] (forget_asks n s) (forget_sound s n)

  pub undo_formed : well_formed (undo_call s).session ≡ true
  undo_formed = move_formed Before

  pub redo_formed : well_formed (redo_call s).session ≡ true
  redo_formed = move_formed After

-- document 02, h: "Time passing isn't a change", and spoils nothing
pub time_formed : (s : Session) → well_formed s ≡ true → (n : ℕ) → well_formed (time_call n s).session ≡ true
unfolding time_call time_asks settled kept done
time_formed s whole n = cond_cases (λ (a : Asks). well_formed (settled s [] a).session ≡ true) (not (well_formed s)) (λ f. whole) (λ f. passed_formed n s whole)
