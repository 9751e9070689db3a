-- Two sessions that differ in what can be redone: any call but redo asks, says and does the same on both. Assumes nothing.
use Rattle.std.specs.Prelude.{ℕ, suc, ◌+◌, not, ◌≡◌, eqb, ltb, length, get_or}
use Rattle.std.proofs.Math.Bool.{cond}
use Rattle.std.proofs.Math.Path.{refl, sym, ap, ap₂, subst}
use Rattle.std.proofs.Common.{◌∙◌, arith}
use mathlib.Core.List.{List, [], ◌∷◌}
use Rattle.wire.proofs.laws.Cases.{cond_elim}
use Rattle.record.specs.Record.{worked_of}
use Rattle.record.specs.declared.Record.{Record}
use Rattle.record.specs.declared.Timer.{Timer}
use Rattle.change.specs.Change.{kind_of, timed, timer_after}
use Rattle.change.specs.declared.Edit.{Edit}
use Rattle.journal.specs.Ways.{by_way}
use Rattle.journal.specs.declared.Way.TheVariants.{Before}
use Rattle.session.specs.Session.{well_formed, carried_of, made_of}
use Rattle.session.specs.Road.{Asks, refuses, tells, makes, moves, forgets, passes, opens, held_in, ticked, due, settled}
use Rattle.session.proofs.laws.Road.{Speaks}
use Rattle.session.proofs.laws.Timer.{Clock}
use Rattle.session.specs.declared.Session.{Session}
use Rattle.packet.specs.Packet.{data_of}
use Rattle.std.specs.Prelude.{None}
use Rattle.occ.specs.Open.{by_profile}
use Rattle.occ_call.specs.Occ as occs
use Rattle.occ_call.proofs.laws.Speaks.{occ_speaks}
use Rattle.sbe_call.specs.Sbe as sbes
use Rattle.sbe_call.proofs.laws.Speaks.{sbe_speaks}
use Rattle.inplace.specs.declared.Told.{Told}
use Rattle.undo_call.specs.Undo.{move_asks, passed_by}
use Rattle.forget_call.specs.Forget.{oldest_asks, forget_asks}
use Rattle.time_call.specs.Time.{time_asks}
use Rattle.promises.proofs.laws.Forgetting.{forget_asks_lem}
use Rattle.promises.specs.Calls.{Call, occ, sbe, undo, redo, forget, time, buffer_of, asks, said}
use Rattle.promises.proofs.laws.Served.{second_same}
use Rattle.promises.specs.Marks.{Mark, left, logs_made}
use Rattle.promises.specs.History.{Deed, keeps, adds, strikes, unstrikes, drops, ticks, adding, deed_by, deed, marked, gone_after, applied, oldest_of, newer_than, kept_of, start_of, Run, did, next_run, OfBytes, given_back, clock_after}
use Rattle.promises.specs.Lent.{told}
use Rattle.promises.specs.NoTrace.{ButRedo, SameSaid, AsBefore, AllButRedo}
use Rattle.promises.proofs.laws.Marks.{tail, left_change, left_strike, logs_more, logs_strike}
use Rattle.promises.proofs.laws.Stores.{padded}
use Rattle.promises.proofs.laws.ByHistory.{journal_of, by_history, Sane, passed_history}
use Rattle.promises.proofs.laws.Steps.{undo_asks, undo_nothing}
use Rattle.promises.proofs.laws.Profiles.{profile_stays}
use Rattle.promises.proofs.laws.Settled.{no_room, full_by_kind, same_settled}
use Rattle.promises.proofs.laws.UndoDemands.{Called, ill_formed, empty, barred, goes, called}
use Rattle.promises.proofs.laws.Demand3.{redoable, Inv, formed, held_is, next_is, worked_is, journal_is, used_is, next_inv}
use Rattle.promises.proofs.laws.Clocks.{clock_is}

-- what undo tells, by answer, number passed and kind
abbrev pub told_moved : ℕ → ℕ → ℕ → Told
told_moved answer passed kind = record { answer = answer; small = cond (eqb answer 0) passed 0; beside = kind }

-- ---- a call but redo doesn't unstrike

abbrev pub NotRedo : Deed → Type 0
NotRedo keeps = Unit {0}
NotRedo (adds e) = Unit {0}
NotRedo strikes = Unit {0}
NotRedo unstrikes = ⊥
NotRedo (drops n) = Unit {0}
NotRedo (ticks n) = Unit {0}

deed_not : (s : Session) (d : List ℕ) (bell : ℕ) (y : List ℕ) (a : Asks) → Speaks s d bell y a → NotRedo (deed_by s a)
unfolding deed_by adding
deed_not s d bell y (refuses n) h = tt
deed_not s d bell y (tells b z) h = tt
deed_not s d bell y (makes e b z) h = cond_elim NotRedo (carried_of s e).full tt tt
deed_not s d bell y (moves w at e) h = absurd h
deed_not s d bell y (forgets n) h = tt
deed_not s d bell y (passes n) h = tt
deed_not s d bell y opens h = absurd h

undo_not : (s : Session) (a : Asks) → Called Before s a → NotRedo (deed_by s a)
unfolding deed_by by_way
undo_not s a (ill_formed h) = tt
undo_not s a (empty x z) = tt
undo_not s a (barred x e n bar) = tt
undo_not s a (goes x e n u) = tt

forget_not : (s : Session) (n : ℕ) → NotRedo (deed_by s (forget_asks n s))
unfolding deed_by forget_asks oldest_asks
forget_not s n =
    cond_elim (λ (a : Asks). NotRedo (deed_by s a)) (not (well_formed s)) tt (cond_elim (λ (a : Asks). NotRedo (deed_by s a)) (ltb (held_in s) n) tt tt)

time_not : (s : Session) (n : ℕ) → NotRedo (deed_by s (time_asks n s))
unfolding deed_by time_asks
time_not s n = cond_elim (λ (a : Asks). NotRedo (deed_by s a)) (not (well_formed s)) tt tt

pub not_redo : (s : Session) (c : Call) → ButRedo c → NotRedo (deed s c)
unfolding deed asks
not_redo s (occ sender c d) h = deed_not s d _ _ _ (occ_speaks s sender c d)
not_redo s (sbe r d m x) h = deed_not s d _ _ _ (sbe_speaks s r d m x)
not_redo s undo h = undo_not s (move_asks Before s) (called Before s)
not_redo s redo h = absurd h
not_redo s (forget n) h = forget_not s n
not_redo s (time n) h = time_not s n

-- ---- what is left and the logs made after it go by what was left and made, and by the timer

unfoldable pub left_after : Timer → List Edit → Deed → List Edit
left_after t es keeps = es
left_after t es (adds e) = timed t e ∷ es
left_after t es strikes = tail es
left_after t es unstrikes = es
left_after t es (drops n) = es
left_after t es (ticks n) = es

-- so does the timer
unfoldable pub time_after : Timer → List Edit → Deed → Timer
time_after t es keeps = t
time_after t es (adds e) = timer_after t e.change
time_after t es strikes = given_back t es
time_after t es unstrikes = t
time_after t es (drops n) = t
time_after t es (ticks n) = ticked n t

pub time_after_lem : (p : Run) (d : Deed) → NotRedo d → clock_after p d ≡ time_after p.session.timer (left p.marks) d
unfolding clock_after time_after
time_after_lem p keeps h = refl
time_after_lem p (adds e) h = refl
time_after_lem p strikes h = refl
time_after_lem p unstrikes h = absurd h
time_after_lem p (drops n) h = refl
time_after_lem p (ticks n) h = refl

unfoldable pub made_after : ℕ → Deed → ℕ
made_after n keeps = n
made_after n (adds e) = n + made_of e.change
made_after n strikes = n
made_after n unstrikes = n
made_after n (drops m) = n
made_after n (ticks m) = n

module _ (t : Timer) (undos : ℕ) (ms : List Mark) where
  pub left_after_lem : (d : Deed) → NotRedo d → left (marked t undos ms d) ≡ left_after t (left ms) d
  unfolding marked left_after
  left_after_lem keeps h = refl
  left_after_lem (adds e) h = left_change (timed t e) ms
  left_after_lem strikes h = left_strike t (suc undos) (omega arith) ms
  left_after_lem unstrikes h = absurd h
  left_after_lem (drops n) h = refl
  left_after_lem (ticks n) h = refl

  pub made_after_lem : (d : Deed) → NotRedo d → logs_made (marked t undos ms d) ≡ made_after (logs_made ms) d
  unfolding marked made_after
  made_after_lem keeps h = refl
  made_after_lem (adds e) h = logs_more t e ms
  made_after_lem strikes h = logs_strike t (suc undos) ms
  made_after_lem unstrikes h = absurd h
  made_after_lem (drops n) h = refl
  made_after_lem (ticks n) h = refl

-- ---- two runs with the same changes left, as many logs made and one timer: any calls but redo

module _ (base : Record) (first : ℕ) where
  pub record Aside (p q : Run) : Type 0 where
    pub inv : Inv base first p
    pub inv' : Inv base first q
    pub left_is : left q.marks ≡ left p.marks
    pub made_is : logs_made q.marks ≡ logs_made p.marks
    pub gone_is : q.gone ≡ p.gone
    pub timer_is : q.session.timer ≡ p.session.timer
    pub profile_is : q.session.profile ≡ p.session.profile

  -- undo asks the same, whatever can be redone
  undo_same : (from : Record) (s t : Session) → Clock s.timer → Clock t.timer → (es : List Edit) (next : ℕ) (rs rs' : List Edit) → Sane from s.profile es next rs → Sane from t.profile es next rs'
      → move_asks Before (by_history from t es next rs') ≡ move_asks Before (by_history from s es next rs)
  undo_same from s t c c' [] next rs rs' g g' = undo_nothing from t c' next rs' g' ∙ sym (undo_nothing from s c next rs g)
  undo_same from s t c c' (e ∷ es) next rs rs' g g' = undo_asks from t c' e es next rs' g' ∙ sym (undo_asks from s c e es next rs g)

  module _ (p q : Run) (b : Aside p q) where
    abbrev from : Record
    from = start_of base p

    abbrev es : List Edit
    es = kept_of p

    -- what is forgotten and what is kept is the same
    start_is : start_of base q ≡ from
    start_is = λ i. applied base (oldest_of (b.gone_is i) (b.left_is i))

    kept_is : kept_of q ≡ es
    kept_is = λ i. newer_than (b.gone_is i) (b.left_is i)

    abbrev next : ℕ
    next = first + logs_made p.marks

    there_is : q.session ≡ by_history from q.session es next (redoable base first q)
    there_is = b.inv'.is ∙ (λ i. by_history (start_is i) q.session (kept_is i) (first + b.made_is i) (redoable base first q))

    sane' : Sane from q.session.profile es next (redoable base first q)
    sane' = subst (λ (T : Type 0). T) (λ i. Sane (start_is i) q.session.profile (kept_is i) (first + b.made_is i) (redoable base first q)) b.inv'.sane

    -- the second session differs from the first in what can be redone
    held_same : q.session.held ≡ p.session.held
    held_same = held_is base first q b.inv' ∙ ap (applied base) b.left_is ∙ sym (held_is base first p b.inv)

    worked_same : q.session.worked ≡ p.session.worked
    worked_same = worked_is base first q b.inv' ∙ ap (λ (l : List Edit). worked_of (applied base l)) b.left_is ∙ sym (worked_is base first p b.inv)

    next_same : q.session.next ≡ p.session.next
    next_same = next_is base first q b.inv' ∙ ap (λ (k : ℕ). first + k) b.made_is ∙ sym (next_is base first p b.inv)

    formed_same : well_formed q.session ≡ well_formed p.session
    formed_same = formed base first q b.inv' ∙ sym (formed base first p b.inv)

    full_same : (e : Edit) → (carried_of q.session e).full ≡ (carried_of p.session e).full
    full_same e =
        full_by_kind q.session e
        ∙ (λ i.
        no_room (length ((journal_is base first q b.inv' ∙ (λ j. padded (journal_of (start_is j) (kept_is j))) ∙ sym (journal_is base first p b.inv)) i))
        ((used_is base first q b.inv' ∙ (λ j. length (journal_of (start_is j) (kept_is j))) ∙ sym (used_is base first p b.inv)) i) (kind_of e.change))
        ∙ sym (full_by_kind p.session e)

    -- so the same is asked of both
    same_asks : (c : Call) → ButRedo c → asks q.session c ≡ asks p.session c
    unfolding asks occs.occ_asks occs.occ_read occs.occ_refusal sbes.sbe_asks sbes.sbe_refusal time_asks
    same_asks (occ sender c d) h = λ i.
        due (occs.refusal_of (formed_same i) sender (length c) (length d))
        (occs.judged_asks (b.profile_is i) (held_same i) (worked_same i) (get_or c 0 0) (get_or c 1 0) d (occs.asked_of (held_same i) (worked_same i) (next_same i) sender c))
    same_asks (sbe r d m x) h = λ i. due (sbes.refusal_of (formed_same i) (length r) (length d)) (sbes.sbe_read (b.profile_is i) r d m x)
    same_asks undo h =
        ap (move_asks Before) there_is ∙ undo_same from p.session q.session b.inv.clock b.inv'.clock es next (redoable base first p) (redoable base first q) b.inv.sane sane' ∙ ap (move_asks Before) (sym b.inv.is)
    same_asks redo h = absurd h
    same_asks (forget n) h =
        ap (forget_asks n) there_is ∙ forget_asks_lem from q.session b.inv'.clock es next (redoable base first q) sane' n
        ∙ sym (ap (forget_asks n) b.inv.is ∙ forget_asks_lem from p.session b.inv.clock es next (redoable base first p) b.inv.sane n)
    same_asks (time n) h = λ i. cond (not (formed_same i)) (refuses 1) (passes n)

    aside_said : (c : Call) → ButRedo c → SameSaid (said p.session c) (said q.session c) × (deed q.session c ≡ deed p.session c)
    unfolding said deed
    aside_said c h =
        subst (λ (a : Asks). SameSaid (said p.session c) (settled q.session (buffer_of c) a) × (deed_by q.session a ≡ deed p.session c)) (sym (same_asks c h))
        (same_settled p.session q.session full_same b.timer_is (buffer_of c) (asks p.session c))

    -- and the same stands beside the answer
    why_same : (sender : ℕ) (c d : List ℕ) → occs.occ_why q.session sender c d ≡ occs.occ_why p.session sender c d
    unfolding occs.occ_why occs.occ_refusal occs.why_from occs.why_read
    why_same sender c d = λ i.
        cond (not (eqb (occs.refusal_of (formed_same i) sender (length c) (length d)) 0)) None
        (occs.fault_for (by_profile (b.profile_is i) (get_or c 1 0) (occs.asked_of (held_same i) (worked_same i) (next_same i) sender c).verdict) (held_same i) (get_or c 1 0) (data_of c))

    -- as many entries are passed
    passed_same : passed_by Before q.session ≡ passed_by Before p.session
    passed_same =
        ap (passed_by Before) there_is ∙ passed_history from q.session es next (redoable base first q) sane'
        ∙ sym (ap (passed_by Before) b.inv.is ∙ passed_history from p.session es next (redoable base first p) b.inv.sane)

    aside_told : (c : Call) → ButRedo c → told q.session c ≡ told p.session c
    unfolding told
    aside_told (occ sender c d) h = λ i. occs.beside_of ((aside_said (occ sender c d) h).0.answer i) (why_same sender c d i)
    aside_told (sbe r d m x) h = λ i. record { answer = (aside_said (sbe r d m x) h).0.answer i; small = 0; beside = (aside_said (sbe r d m x) h).0.bell i }
    aside_told undo h = λ i. told_moved ((aside_said undo h).0.answer i) (passed_same i) ((aside_said undo h).0.kind i)
    aside_told redo h = absurd h
    aside_told (forget n) h = λ i. record { answer = (aside_said (forget n) h).0.answer i; small = 0; beside = 0 }
    aside_told (time n) h = λ i. record { answer = (aside_said (time n) h).0.answer i; small = 0; beside = (aside_said (time n) h).0.bell i }

    next_aside : (c : Call) → ButRedo c → OfBytes c → Aside (next_run p c) (next_run q c)
    unfolding next_run did
    next_aside c h bytes =
        let d = (aside_said c h).1 in
        let here = not_redo p.session c h in
        let there = not_redo q.session c h in
        record {
          inv = next_inv base first p b.inv c bytes;
          inv' = next_inv base first q b.inv' c bytes;
          left_is =
              left_after_lem q.session.timer q.undos q.marks (deed q.session c) there ∙ (λ i. left_after (b.timer_is i) (b.left_is i) (d i))
              ∙ sym (left_after_lem p.session.timer p.undos p.marks (deed p.session c) here);
          made_is =
              made_after_lem q.session.timer q.undos q.marks (deed q.session c) there ∙ ap₂ made_after b.made_is d
              ∙ sym (made_after_lem p.session.timer p.undos p.marks (deed p.session c) here);
          gone_is = ap₂ gone_after b.gone_is d;
          timer_is =
              clock_is base first q b.inv' c bytes ∙ time_after_lem q (deed q.session c) there ∙ (λ i. time_after (b.timer_is i) (b.left_is i) (d i))
              ∙ sym (clock_is base first p b.inv c bytes ∙ time_after_lem p (deed p.session c) here);
          profile_is = profile_stays q.session c ∙ b.profile_is ∙ sym (profile_stays p.session c);
        }

  pub as_before : (cs : List Call) → AllButRedo cs → (p q : Run) → Aside p q → AsBefore p.session q.session cs
  unfolding next_run did
  as_before [] h p q b = tt
  as_before (c ∷ cs) h p q b = (
    (aside_said p q b c h.0).0,
    (
      aside_told p q b c h.0,
      (
        second_same p.session q.session (formed base first p b.inv) (formed base first q b.inv') c,
        as_before cs h.1.1 (next_run p c) (next_run q c) (next_aside p q b c h.0 h.1.0),
      ),
    ),
  )
