-- Demand 3 over any calls: at every moment the session is the one of the changes that are left. Assumes nothing.
use Rattle.std.specs.Prelude.{ℕ, suc, ◌+◌, ◌≤◌, Bool, true, cond, not, ◌≡◌, ltb, length}
use Rattle.std.proofs.Math.Bool.{false}
use Rattle.std.proofs.Math.Path.{refl, sym, ap, subst}
use Rattle.std.proofs.Common.{◌∙◌, arith, ltb-false}
use mathlib.Core.List.{List, [], ◌∷◌}
use Rattle.std.proofs.Math.Nat.{add_assoc}
use Rattle.wire.proofs.laws.Cases.{cond_elim, cond_cases, by_both}
use Rattle.record.specs.Record.{worked_of}
use Rattle.record.specs.declared.Record.{Record}
use Rattle.record.specs.declared.Timer.{Timer}
use Rattle.change.specs.Change.{timed, timer_after}
use Rattle.change.specs.declared.Tables.{Tables}
use Rattle.change.specs.declared.Edit.{Edit}
use Rattle.formed.specs.Formed.{record_ok}
use Rattle.journal.specs.Ways.{by_way}
use Rattle.journal.specs.declared.Way.{Way}
use Rattle.journal.specs.declared.Way.TheVariants.{Before, After}
use Rattle.occ.specs.declared.Verdict.{Verdict}
use Rattle.occ.specs.declared.Verdict.TheVariants.{Refuse, Poll, Make}
use Rattle.sbe.specs.declared.Ruling.{Ruling}
use Rattle.sbe.specs.declared.Ruling.TheVariants.{Decline, Grant, Done, Read}
use Rattle.session.specs.Session.{well_formed, made_of, renewed, with_timer, carried_of}
use Rattle.session.specs.Road.{Asks, refuses, tells, makes, moves, forgets, passes, opens, forgotten, ticked, time_passed, Said, kept, done, carried_says, settled}
use Rattle.session.proofs.laws.Road.{due_cases, Speaks}
use Rattle.session.proofs.laws.Timer.{Clock, ticked_clock}
use Rattle.session.specs.declared.Session.{Session}
use Rattle.occ_call.specs.Occ as occs
use Rattle.occ_call.proofs.laws.Speaks.{occ_speaks}
use Rattle.sbe_call.specs.Sbe as sbes
use Rattle.sbe_call.proofs.laws.Speaks.{sbe_speaks}
use Rattle.undo_call.specs.Undo.{move_asks, move_call, undo_call, redo_call}
use Rattle.forget_call.specs.Forget.{forget_asks, forget_call}
use Rattle.time_call.specs.Time.{time_asks}
use Rattle.promises.specs.Calls.{Call, occ, sbe, undo, redo, forget, time, buffer_of, asks, said}
use Rattle.promises.specs.History.{Deed, adds, strikes, unstrikes, drops, ticks, adding, deed_by, deed, marked, undos_after, since_after, gone_after, applied, oldest_of, newer_than, kept_of, start_of, forget_answer, Run, did, next_run, run, OfBytes, AllOfBytes, Demand3}
use Rattle.promises.proofs.laws.Sound.{Lets, Sound, occ_sound, sbe_sound}
use Rattle.promises.proofs.laws.ByHistory.{standing, journal_of, by_history, own_history, Sane, history_formed}
use Rattle.promises.proofs.laws.Stores.{padded}
use Rattle.promises.proofs.laws.Steps.{carried_history, carried_sane, carried_clock, undo_asks, undone, undo_history, undone_sane, undone_clock, redo_asks, redone, redo_history, redone_sane, redone_clock, undo_nothing, redo_nothing}
use Rattle.promises.proofs.laws.Forgetting.{newer_count, newer_more, oldest_more, NewestKept, newest_kept, whole_record, newer_twice, start_twice, forget_sane, forget_history, forget_asks_lem}
use Rattle.links.specs.Typed.{TypedRecord}
use Rattle.links.proofs.laws.Made.{Made}
use Rattle.promises.specs.Marks.{latest, left, logs_made, undo_answer}
use Rattle.promises.proofs.laws.Ids.{drew, ids_add}
use Rattle.promises.proofs.laws.Timed.{made_timed}
use Rattle.promises.proofs.laws.Struck.{off}
use Rattle.promises.proofs.laws.Marks.{answer_of, Strokes, strokes_change, off_change, left_change, strokes_undo, left_undo, off_undo, redo_answer_lem, strokes_redo, left_redo, off_redo, logs_more, logs_strike, logs_unstrike, ids_strike, ids_unstrike}
use Rattle.promises.specs.Ids.{ids_made, countdown}

-- an answer that a well-formed session never gets
abbrev Fair : ℕ → Type 0
Fair a = (a ≡ 1 → ⊥) × (a ≡ 7 → ⊥)

-- ---- what an exchange is refused with

abbrev Fairly : Asks → Type 0
Fairly (refuses n) = Fair n
Fairly (tells bell y) = Unit {0}
Fairly (makes e bell y) = Unit {0}
Fairly (moves w at e) = Unit {0}
Fairly (forgets n) = Unit {0}
Fairly (passes n) = Unit {0}
Fairly opens = Unit {0}

module _ (s : Session) where
  settled_fair : (d : List ℕ) (a : Asks) → Fairly a → Fair (settled s d a).answer
  unfolding settled carried_says kept done
  settled_fair d (refuses n) h = h
  settled_fair d (tells bell y) h = ((λ z. omega (arith, z)), (λ z. omega (arith, z)))
  settled_fair d (makes e bell y) h =
      cond_elim (λ (q : Said). Fair q.answer) (carried_of s e).full ((λ z. omega (arith, z)), (λ z. omega (arith, z))) ((λ z. omega (arith, z)), (λ z. omega (arith, z)))
  settled_fair d (moves w at e) h = ((λ z. omega (arith, z)), (λ z. omega (arith, z)))
  settled_fair d (forgets n) h = ((λ z. omega (arith, z)), (λ z. omega (arith, z)))
  settled_fair d (passes n) h = ((λ z. omega (arith, z)), (λ z. omega (arith, z)))
  settled_fair d opens h = ((λ z. omega (arith, z)), (λ z. omega (arith, z)))

  module _ (formed : well_formed s ≡ true) where
    -- a refusal is not 1
    past_one : (n : ℕ) → Fair n → Fair (cond (not (well_formed s)) 1 n)
    past_one n f = subst (λ (b : Bool). Fair (cond (not b) 1 n)) (sym formed) f

    occ_refused : (sender c d : ℕ) → Fair (occs.occ_refusal s sender c d)
    unfolding occs.occ_refusal occs.refusal_of
    occ_refused sender c d =
        past_one _ (cond_elim Fair (not (occs.known_sender sender)) ((λ z. omega (arith, z)), (λ z. omega (arith, z)))
        (cond_elim Fair (ltb d 4096) ((λ z. omega (arith, z)), (λ z. omega (arith, z)))
        (cond_elim Fair (ltb c 4) ((λ z. omega (arith, z)), (λ z. omega (arith, z))) ((λ z. omega (arith, z)), (λ z. omega (arith, z))))))

    verdict_fair : (seq kind : ℕ) (d : List ℕ) (t : Tables) (v : Verdict) → Fairly (occs.verdict_asks s.held s.worked seq kind d t v)
    unfolding occs.verdict_asks
    verdict_fair seq kind d t (Refuse status) = tt
    verdict_fair seq kind d t Poll = tt
    verdict_fair seq kind d t (Make ch) = tt

    occ_fair : (sender : ℕ) (c d : List ℕ) → Fairly (occs.occ_asks s sender c d)
    unfolding occs.occ_asks occs.occ_read occs.judged_asks
    occ_fair sender c d =
        due_cases Fairly (occs.occ_refusal s sender (length c) (length d)) (λ z. occ_refused sender (length c) (length d)) (λ z. verdict_fair _ _ d _ _)

    sbe_refused : (r d : ℕ) → Fair (sbes.sbe_refusal s r d)
    unfolding sbes.sbe_refusal sbes.refusal_of
    sbe_refused r d =
        past_one _ (cond_elim Fair (ltb d 32) ((λ z. omega (arith, z)), (λ z. omega (arith, z)))
        (cond_elim Fair (ltb r 32) ((λ z. omega (arith, z)), (λ z. omega (arith, z))) ((λ z. omega (arith, z)), (λ z. omega (arith, z)))))

    ruling_fair : (r d : List ℕ) (v : Ruling) → Fairly (sbes.ruling_asks r d v)
    unfolding sbes.ruling_asks
    ruling_fair r d (Decline why) = tt
    ruling_fair r d (Grant ch) = tt
    ruling_fair r d Done = tt
    ruling_fair r d (Read offset size) = tt

    time_fair : (n : ℕ) → Fairly (time_asks n s)
    unfolding time_asks
    time_fair n = subst (λ (b : Bool). Fairly (cond (not b) (refuses 1) (passes n))) (sym formed) tt

    sbe_fair : (r d m x : List ℕ) → Fairly (sbes.sbe_asks s r d m x)
    unfolding sbes.sbe_asks sbes.sbe_read
    sbe_fair r d m x = due_cases Fairly (sbes.sbe_refusal s (length r) (length d)) (λ z. sbe_refused (length r) (length d)) (λ z. ruling_fair r d _)

-- ---- one call, from the session of a history

-- the answers to undo and redo are fair
undo_fair : (l : List Edit) → Fair (undo_answer l)
unfolding undo_answer
undo_fair [] = ((λ z. omega (arith, z)), (λ z. omega (arith, z)))
undo_fair (e ∷ l) = ((λ z. omega (arith, z)), (λ z. omega (arith, z)))

redo_fair : (l : List Edit) → Fair (answer_of l)
redo_fair [] = ((λ z. omega (arith, z)), (λ z. omega (arith, z)))
redo_fair (e ∷ l) = ((λ z. omega (arith, z)), (λ z. omega (arith, z)))

forget_fair : (n : ℕ) (l : List Edit) → Fair (forget_answer n l)
unfolding forget_answer
forget_fair n l = cond_elim Fair (ltb (length l) n) ((λ z. omega (arith, z)), (λ z. omega (arith, z))) ((λ z. omega (arith, z)), (λ z. omega (arith, z)))

module _ (base : Record) (first : ℕ) where
  -- what can be redone
  abbrev pub redoable : Run → List Edit
  redoable p = off p.since p.marks []

  -- the session is that of the changes kept, from the record that the forgotten ones gave
  pub record Inv (p : Run) : Type 0 where
    pub is : p.session ≡ by_history (start_of base p) p.session (kept_of p) (first + logs_made p.marks) (redoable p)
    pub clock : Clock p.session.timer
    pub sane : Sane (start_of base p) p.session.profile (kept_of p) (first + logs_made p.marks) (redoable p)
    pub counts : 1 ≤ first
    pub low : p.gone ≤ length (left p.marks)
    pub ids : ids_made p.marks ≡ countdown first (logs_made p.marks)
    pub strokes : Strokes p.undos p.since p.marks

  -- where a run starts from, and what it keeps
  abbrev pub Starts : Run → Record → List Edit → Type 0
  Starts p from es = (start_of base p ≡ from) × (kept_of p ≡ es) × (p.gone ≤ length (left p.marks)) × (1 ≤ first)

  -- a run whose marks say this, by what they say
  inv_by : (p : Run) (from : Record) (es : List Edit) (n : ℕ) (rs : List Edit) → Starts p from es → logs_made p.marks ≡ n → redoable p ≡ rs
      → (s : Session) → p.session ≡ by_history from s es (first + n) rs → Clock s.timer → Sane from s.profile es (first + n) rs → ids_made p.marks ≡ countdown first n → Strokes p.undos p.since p.marks → Inv p
  unfolding by_history standing renewed
  inv_by p from es n rs l k a s is clock sane ids strokes = record {
    clock = subst Clock (sym (ap (λ (x : Session). x.timer) is)) clock;
    is = own_history from s p.session es (first + n) rs is ∙ sym (λ i. by_history (l.0 i) p.session (l.1 i) (first + k i) (a i));
    sane = subst (λ (T : Type 0). T) (sym (λ i. Sane (l.0 i) (is i).profile (l.1 i) (first + k i) (a i))) sane;
    counts = l.3;
    low = l.2;
    ids = ids ∙ ap (countdown first) (sym k);
    strokes = strokes;
  }

  module _ (p : Run) (v : Inv p) where
    abbrev from : Record
    from = start_of base p

    abbrev es : List Edit
    es = kept_of p

    abbrev n : ℕ
    n = logs_made p.marks

    abbrev rs : List Edit
    rs = redoable p

    abbrev next : ℕ
    next = first + n

    pub formed : well_formed p.session ≡ true
    formed = ap well_formed v.is ∙ history_formed from p.session v.clock es next rs v.sane

    pub held_kept : p.session.held ≡ applied from es
    unfolding by_history standing renewed
    held_kept = ap (λ (s : Session). s.held) v.is

    pub held_is : p.session.held ≡ applied base (left p.marks)
    held_is = held_kept ∙ whole_record base p.gone (left p.marks)

    pub next_is : p.session.next ≡ first + n
    unfolding by_history standing renewed
    next_is = ap (λ (s : Session). s.next) v.is

    pub worked_is : p.session.worked ≡ worked_of (applied base (left p.marks))
    unfolding by_history standing renewed
    worked_is = ap (λ (s : Session). s.worked) v.is ∙ ap worked_of (whole_record base p.gone (left p.marks))

    pub journal_is : p.session.journal ≡ padded (journal_of from es)
    unfolding by_history standing by_way renewed
    journal_is = ap (λ (s : Session). s.journal) v.is

    pub used_is : p.session.used ≡ length (journal_of from es)
    unfolding by_history standing by_way renewed
    used_is = ap (λ (s : Session). s.used) v.is

    ok : record_ok p.session.held p.session.next ≡ true
    ok = subst (λ (r : Record). record_ok r p.session.next ≡ true) (sym held_kept) (subst (λ (k : ℕ). record_ok (applied from es) k ≡ true) (sym next_is) v.sane.ok)

    typed : TypedRecord p.session.held
    typed = subst TypedRecord (sym held_kept) v.sane.typed

    -- ---- where a run that goes on starts from

    started : (q : Run) (l : List Edit) → q.gone ≡ p.gone → left q.marks ≡ l → (from' : Record) (ks : List Edit) → applied base (oldest_of p.gone l) ≡ from'
        → newer_than p.gone l ≡ ks → p.gone ≤ length l → Starts q from' ks
    started q l g is from' ks a b c = (
      (λ i. applied base (oldest_of (g i) (is i))) ∙ a,
      (λ i. newer_than (g i) (is i)) ∙ b,
      subst (λ (k : ℕ). k ≤ length (left q.marks)) (sym g) (subst (λ (x : List Edit). p.gone ≤ length x) (sym is) c),
      v.counts,
    )

    -- with one change more, or the newest less
    pub starts_more : (q : Run) (e : Edit) → q.gone ≡ p.gone → left q.marks ≡ e ∷ left p.marks → Starts q from (e ∷ es)
    starts_more q e g is =
        started q (e ∷ left p.marks) g is from (e ∷ es) (ap (applied base) (oldest_more p.gone e (left p.marks) v.low))
        (newer_more p.gone e (left p.marks) v.low) (omega (arith, v.low))

    starts_less : (q : Run) (e : Edit) (x : List Edit) (k : NewestKept p.gone (left p.marks) e x) → q.gone ≡ p.gone → left q.marks ≡ k.older → Starts q from x
    starts_less q e x k g is =
        started q k.older g is from x
        (ap (applied base) (sym (ap (oldest_of p.gone) k.are ∙ oldest_more p.gone e k.older k.low))) k.kept k.low

    -- ---- an exchange: refused, replied to, or a change more

    abbrev Follows : Said → Deed → Type 0
    Follows q x = Inv (did p q.session x)

    -- the timer as it stands
    abbrev now : Timer
    now = p.session.timer

    changed : (e : Edit) → Made p.session.held p.session.next e.tables e.change → Lets p.session.profile e.change → (carried_of p.session e).full ≡ false
        → Inv (did p (carried_of p.session e).session (adds e))
    unfolding did marked undos_after since_after gone_after with_timer timed
    changed e m lets f =
        let x = timed now e in
        let made : Made (applied from es) next e.tables e.change =
        subst (λ (k : ℕ). Made (applied from es) k e.tables e.change) next_is (subst (λ (r : Record). Made r p.session.next e.tables e.change) held_kept m) in
        let fits : (carried_of (by_history from p.session es next rs) e).full ≡ false = ap (λ (s : Session). (carried_of s e).full) (sym v.is) ∙ f in
        let up : next + made_of e.change ≡ first + (n + made_of e.change) = add_assoc first n (made_of e.change) in
        inv_by (did p (carried_of p.session e).session (adds e)) from (x ∷ es) (n + made_of e.change) []
        (starts_more (did p (carried_of p.session e).session (adds e)) x refl (left_change x p.marks)) (logs_more now e p.marks) (off_change v.strokes x)
        (with_timer p.session (timer_after now e.change))
        (ap (λ (s : Session). (carried_of s e).session) v.is ∙ carried_history from p.session v.clock e es next rs v.sane made lets fits
        ∙ ap (λ (k : ℕ). by_history from (with_timer p.session (timer_after now e.change)) (x ∷ es) k []) up)
        (carried_clock from p.session v.clock e es next rs v.sane made lets fits)
        (subst (λ (k : ℕ). Sane from p.session.profile (x ∷ es) k []) up (carried_sane from p.session v.clock e es next rs v.sane made lets fits))
        (ids_add first (record { edit = x; stroke = 0 }) p.marks (drew (applied from es) next x.tables x.change (made_timed now v.clock (applied from es) next e.tables e.change made)) v.ids
        ∙ ap (countdown first) (logs_more now e p.marks))
        (strokes_change v.strokes x)

    follow : (d : List ℕ) (bell : ℕ) (y : List ℕ) (a : Asks) → Sound p.session a → Speaks p.session d bell y a → Follows (settled p.session d a) (deed_by p.session a)
    unfolding settled deed_by carried_says adding kept done did marked undos_after since_after gone_after
    follow d bell y (refuses m) h k = v
    follow d bell y (tells b z) h k = v
    follow d bell y (makes e b z) h k = by_both Follows (carried_of p.session e).full (λ f. v) (λ f. changed e h.0 h.1 f)
    follow d bell y (moves w at e) h k = absurd k
    follow d bell y (forgets m) h k = absurd k
    follow d bell y (passes m) h k = absurd k
    follow d bell y opens h k = absurd k

    -- ---- undo and redo, by what they ask

    abbrev Moves : Way → Asks → Type 0
    Moves w a = Follows (settled p.session [] a) (deed_by p.session a)

    -- nothing to move
    none_moved : (w : Way) (m : ℕ) → Moves w (refuses m)
    unfolding settled deed_by kept did marked undos_after since_after gone_after
    none_moved w m = v

    -- the call gives this session, and counts as this deed
    moved_to : (w : Way) (at : ℕ) (b : Edit) (t : Session) (kind : ℕ) → move_asks w p.session ≡ moves w at b → move_call w p.session ≡ done t 0 kind []
        → Inv (did p t (by_way w strikes unstrikes)) → Moves w (move_asks w p.session)
    unfolding move_call settled deed_by done
    moved_to w at b t kind asked gives after =
        subst (λ (s : Session). Inv (did p s (deed_by p.session (move_asks w p.session)))) (sym (ap (λ (q : Said). q.session) gives))
        (subst (λ (x : Deed). Inv (did p t x)) (sym (ap (deed_by p.session) asked)) after)

    pub record UndoGives (x : List Edit) : Type 0 where
      pub answer : (undo_call p.session).answer ≡ undo_answer x
      pub after : Moves Before (move_asks Before p.session)

    undo_gives : (x : List Edit) → es ≡ x → UndoGives x
    unfolding undo_answer move_call settled kept done did marked undos_after since_after gone_after by_way with_timer
    undo_gives [] q =
        let sane = subst (λ (l : List Edit). Sane from p.session.profile l next rs) q v.sane in
        let asked = ap (move_asks Before) (v.is ∙ ap (λ (l : List Edit). by_history from p.session l next rs) q) ∙ undo_nothing from p.session v.clock next rs sane in
        record { answer = ap (λ (a : Asks). (settled p.session [] a).answer) asked; after = subst (Moves Before) (sym asked) (none_moved Before 6) }
    undo_gives (e ∷ x) q =
        let sane = subst (λ (l : List Edit). Sane from p.session.profile l next rs) q v.sane in
        let is = v.is ∙ ap (λ (l : List Edit). by_history from p.session l next rs) q in
        let gives = ap (move_call Before) is ∙ undo_history from p.session v.clock e x next rs sane in
        let back = undone from p.session v.clock e x next rs sane in
        let t = by_history from back x next (timed now e ∷ rs) in
        let k = newest_kept p.gone (left p.marks) e x v.low q in
        record {
          answer = ap (λ (m : Said). m.answer) gives;
          after =
              moved_to Before _ _ t _ (ap (move_asks Before) is ∙ undo_asks from p.session v.clock e x next rs sane) gives
              (inv_by (did p t strikes) from x n (timed now e ∷ rs) (starts_less (did p t strikes) e x k refl (left_undo v.strokes now k.are)) (logs_strike now (suc p.undos) p.marks)
              (off_undo v.strokes now k.are) back refl (undone_clock from p.session v.clock e x next rs sane)
              (undone_sane from p.session v.clock e x next rs sane) (ids_strike now (suc p.undos) p.marks ∙ v.ids) (strokes_undo v.strokes now k.are));
        }

    pub undo_answer_lem : (undo_call p.session).answer ≡ undo_answer es
    undo_answer_lem = (undo_gives es refl).answer

    pub record RedoGives (x : List Edit) : Type 0 where
      pub answer : (redo_call p.session).answer ≡ answer_of x
      pub after : Moves After (move_asks After p.session)

    redo_gives : (x : List Edit) → rs ≡ x → RedoGives x
    unfolding move_call settled kept done did marked undos_after since_after gone_after by_way with_timer
    redo_gives [] q =
        let sane = subst (Sane from p.session.profile es next) q v.sane in
        let asked = ap (move_asks After) (v.is ∙ ap (by_history from p.session es next) q) ∙ redo_nothing from p.session v.clock es next sane in
        record { answer = ap (λ (a : Asks). (settled p.session [] a).answer) asked; after = subst (Moves After) (sym asked) (none_moved After 8) }
    redo_gives (e ∷ x) q =
        let sane = subst (Sane from p.session.profile es next) q v.sane in
        let is = v.is ∙ ap (by_history from p.session es next) q in
        let gives = ap (move_call After) is ∙ redo_history from p.session v.clock e es next x sane in
        let again = redone from p.session v.clock e es next x sane in
        let t = by_history from again (timed now e ∷ es) next x in
        record {
          answer = ap (λ (m : Said). m.answer) gives;
          after =
              moved_to After _ _ t _ (ap (move_asks After) is ∙ redo_asks from p.session v.clock e es next x sane) gives
              (inv_by (did p t unstrikes) from (timed now e ∷ es) n x (starts_more (did p t unstrikes) (timed now e) refl (left_redo v.strokes now q)) (logs_unstrike now (latest p.marks) p.marks)
              (off_redo v.strokes now q) again refl (redone_clock from p.session v.clock e es next x sane)
              (redone_sane from p.session v.clock e es next x sane) (ids_unstrike now (latest p.marks) p.marks ∙ v.ids) (strokes_redo v.strokes now q));
        }

    pub redo_answer_is : (redo_call p.session).answer ≡ answer_of rs
    redo_answer_is = (redo_gives rs refl).answer

    -- ---- forgetting

    forget_asked : (m : ℕ) → forget_asks m p.session ≡ cond (ltb (length es) m) (refuses 9) (forgets m)
    forget_asked m = ap (forget_asks m) v.is ∙ forget_asks_lem from p.session v.clock es next rs v.sane m

    dropped : (m : ℕ) → m ≤ length es → Inv (did p (forgotten m p.session) (drops m))
    unfolding did marked undos_after since_after gone_after
    dropped m few =
        let l = left p.marks in
        inv_by (did p (forgotten m p.session) (drops m)) (applied from (oldest_of m es)) (newer_than m es) n rs
        (start_twice p.gone m l v.low few base, newer_twice p.gone m l v.low few, omega (arith, v.low, few, newer_count p.gone l), v.counts) refl refl p.session
        (ap (forgotten m) v.is ∙ forget_history from p.session es next rs v.sane m few) v.clock (forget_sane from p.session es next rs v.sane m few) v.ids v.strokes

    forget_gives : (m : ℕ) → Follows (settled p.session [] (forget_asks m p.session)) (deed_by p.session (forget_asks m p.session))
    unfolding settled deed_by kept done did marked undos_after since_after gone_after
    forget_gives m =
        subst (λ (a : Asks). Follows (settled p.session [] a) (deed_by p.session a)) (sym (forget_asked m))
        (cond_cases (λ (a : Asks). Follows (settled p.session [] a) (deed_by p.session a)) (ltb (length es) m) (λ t. v) (λ t. dropped m (ltb-false (length es) m t)))

    pub forget_answer_lem : (m : ℕ) → (forget_call m p.session).answer ≡ forget_answer m es
    unfolding forget_call forget_answer settled kept done
    forget_answer_lem m =
        ap (λ (a : Asks). (settled p.session [] a).answer) (forget_asked m)
        ∙ by_both (λ (a : Asks) (k : ℕ). (settled p.session [] a).answer ≡ k) (ltb (length es) m) (λ t. refl) (λ t. refl)

    -- ---- time

    ticked_on : (m : ℕ) → Inv (did p (time_passed m p.session) (ticks m))
    unfolding did marked undos_after since_after gone_after time_passed by_history standing renewed with_timer
    ticked_on m =
        inv_by (did p (time_passed m p.session) (ticks m)) from es n rs (refl, refl, v.low, v.counts) refl refl (with_timer p.session (ticked m now))
        (ap (λ (s : Session). with_timer s (ticked m now)) v.is) (ticked_clock m now v.clock) v.sane v.ids v.strokes

    time_gives : (m : ℕ) → Follows (settled p.session [] (time_asks m p.session)) (deed_by p.session (time_asks m p.session))
    unfolding time_asks settled deed_by kept done did marked undos_after since_after gone_after
    time_gives m =
        cond_cases (λ (a : Asks). Follows (settled p.session [] a) (deed_by p.session a)) (not (well_formed p.session)) (λ f. v) (λ f. ticked_on m)

    -- ---- any call

    pub next_inv : (c : Call) → OfBytes c → Inv (next_run p c)
    unfolding next_run said deed asks buffer_of
    next_inv (occ sender c d) b = follow d 0 _ (occs.occ_asks p.session sender c d) (occ_sound p.session ok typed sender c d b) (occ_speaks p.session sender c d)
    next_inv (sbe r d m x) b = follow d _ _ (sbes.sbe_asks p.session r d m x) (sbe_sound p.session r d b m x) (sbe_speaks p.session r d m x)
    next_inv undo b = (undo_gives es refl).after
    next_inv redo b = (redo_gives rs refl).after
    next_inv (forget m) b = forget_gives m
    next_inv (time m) b = time_gives m

    -- answers 1 and 7 never come
    never : (c : Call) → OfBytes c → ((said p.session c).answer ≡ 1 → ⊥) × ((said p.session c).answer ≡ 7 → ⊥)
    unfolding said asks buffer_of move_call forget_call
    never (occ sender c d) b = settled_fair p.session d _ (occ_fair p.session formed sender c d)
    never (sbe r d m x) b = settled_fair p.session d _ (sbe_fair p.session formed r d m x)
    never undo b = subst Fair (sym undo_answer_lem) (undo_fair es)
    never redo b = subst Fair (sym redo_answer_is) (redo_fair rs)
    never (forget m) b = subst Fair (sym (forget_answer_lem m)) (forget_fair m es)
    never (time m) b = settled_fair p.session [] _ (time_fair p.session formed m)

    pub demand : Demand3 base first p
    demand = record {
      record_is = held_is;
      worked_is = worked_is;
      next_is = next_is;
      starts_from = held_kept;
      undo_is = undo_answer_lem;
      redo_is = redo_answer_is ∙ sym (redo_answer_lem v.strokes);
      forget_is = forget_answer_lem;
      never = never;
    }

  -- ---- any calls

  pub invariant : (cs : List Call) (p : Run) → AllOfBytes cs → Inv p → Inv (run p cs)
  unfolding run
  invariant [] p b v = v
  invariant (c ∷ cs) p b v = invariant cs (next_run p c) b.1 (next_inv p v c b.0)

  -- the logs ever made have the ids from the first on, one after the other
  pub ids_in_order : (cs : List Call) (p : Run) → AllOfBytes cs → Inv p → ids_made (run p cs).marks ≡ countdown first (logs_made (run p cs).marks)
  ids_in_order cs p b v = (invariant cs p b v).ids

  pub demand3 : (cs : List Call) (p : Run) → AllOfBytes cs → Inv p → Demand3 base first (run p cs)
  demand3 cs p b v = demand (run p cs) (invariant cs p b v)
