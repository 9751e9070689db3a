-- The timer over any calls: a timer command sets it, its undo and its redo give back what its mark holds, no other touches it. Assumes nothing.
use Rattle.std.specs.Prelude.{ℕ, ◌+◌, not, ◌≡◌, ltb}
use Rattle.std.proofs.Math.Path.{refl, sym, ap, subst}
use Rattle.std.proofs.Common.{◌∙◌}
use mathlib.Core.List.{List, [], ◌∷◌}
use Rattle.wire.proofs.laws.Cases.{cond_cases, by_both}
use Rattle.record.specs.declared.Record.{Record}
use Rattle.change.specs.Change.{inverse_of, timer_after}
use Rattle.change.proofs.laws.Timed.{timer_kept}
use Rattle.change.specs.declared.Edit.{Edit}
use Rattle.journal.specs.Ways.{by_way}
use Rattle.journal.specs.declared.Way.{Way}
use Rattle.journal.specs.declared.Way.TheVariants.{Before, After}
use Rattle.session.specs.Session.{well_formed, renewed, with_timer, carried_of}
use Rattle.session.specs.Road.{Asks, refuses, tells, makes, moves, forgets, passes, opens, held_in, session_moved, session_freed, forgotten, time_passed, Said, kept, done, carried_says, settled}
use Rattle.session.proofs.laws.Road.{Speaks}
use Rattle.session.proofs.laws.Timer.{carried_timer}
use Rattle.session.specs.declared.Session.{Session}
use Rattle.occ_call.proofs.laws.Speaks.{occ_speaks}
use Rattle.sbe_call.proofs.laws.Speaks.{sbe_speaks}
use Rattle.undo_call.specs.Undo.{move_asks, move_call}
use Rattle.forget_call.specs.Forget.{oldest_asks, forget_asks}
use Rattle.time_call.specs.Time.{time_asks}
use Rattle.promises.specs.Calls.{Call, occ, sbe, undo, redo, forget, time, buffer_of, asks, said}
use Rattle.promises.specs.Marks.{left, logs_made}
use Rattle.promises.specs.History.{Deed, strikes, unstrikes, adding, deed_by, deed, applied, kept_of, start_of, Run, did, next_run, OfBytes, given_back, clock_after}
use Rattle.promises.proofs.laws.Timed.{after_back}
use Rattle.promises.proofs.laws.UndoDemands.{Called, ill_formed, empty, barred, goes, called}
use Rattle.promises.proofs.laws.ByHistory.{by_history, Sane}
use Rattle.promises.proofs.laws.Steps.{undo_asks, undo_nothing, redo_asks, redo_nothing}
use Rattle.promises.proofs.laws.Marks.{last_struck}
use Rattle.promises.proofs.laws.Forgetting.{newest_kept}
use Rattle.promises.proofs.laws.Demand3.{redoable, Inv}

module _ (base : Record) (first : ℕ) (p : Run) (v : Inv base first p) where
  abbrev s : Session
  s = p.session

  abbrev Ticks : Said → Deed → Type 0
  Ticks q d = q.session.timer ≡ clock_after p d

  abbrev Leaves : List ℕ → Asks → Type 0
  Leaves d a = Ticks (settled s d a) (deed_by s a)

  -- ---- an exchange

  spoken : (d : List ℕ) (bell : ℕ) (y : List ℕ) (a : Asks) → Speaks s d bell y a → Leaves d a
  unfolding settled deed_by carried_says adding kept done clock_after
  spoken d bell y (refuses n) h = refl
  spoken d bell y (tells b z) h = refl
  spoken d bell y (makes e b z) h = by_both Ticks (carried_of s e).full (λ f. refl) (λ f. carried_timer s e f)
  spoken d bell y (moves w at e) h = absurd h
  spoken d bell y (forgets n) h = absurd h
  spoken d bell y (passes n) h = absurd h
  spoken d bell y opens h = absurd h

  -- ---- undo and redo, by what they ask

  abbrev from : Record
  from = start_of base p

  abbrev es : List Edit
  es = kept_of p

  abbrev next : ℕ
  next = logs_made p.marks

  none_moved : (n : ℕ) (a : Asks) → a ≡ refuses n → Leaves [] a
  unfolding settled deed_by kept clock_after
  none_moved n a e = subst (Leaves []) (sym e) refl

  moved : (w : Way) (at : ℕ) (e : Edit) (a : Asks) → a ≡ moves w at e → timer_after s.timer e.change ≡ clock_after p (by_way w strikes unstrikes) → Leaves [] a
  unfolding settled deed_by done session_moved renewed with_timer
  moved w at e a q h = subst (Leaves []) (sym q) h

  -- what the newest change that is kept gives back, and what the one last struck does
  taken_back : (e : Edit) (x : List Edit) → es ≡ e ∷ x → timer_after s.timer (inverse_of (applied from x) e).change ≡ clock_after p strikes
  unfolding clock_after given_back inverse_of
  taken_back e x q =
      after_back s.timer (applied from x) e.change ∙ sym (ap (given_back s.timer) (newest_kept p.gone (left p.marks) e x v.low q).are)

  put_again : (e : Edit) (x : List Edit) → redoable base first p ≡ e ∷ x → timer_after s.timer e.change ≡ clock_after p unstrikes
  unfolding clock_after given_back
  put_again e x q = sym (ap (given_back s.timer) (last_struck v.strokes s.timer q))

  undo_clock : (x : List Edit) → es ≡ x → Leaves [] (move_asks Before s)
  unfolding by_way
  undo_clock [] q =
      let sane = subst (λ (l : List Edit). Sane from p.session.profile l (first + next) (redoable base first p)) q v.sane in
      none_moved 6 _ (ap (move_asks Before) (v.is ∙ ap (λ (l : List Edit). by_history from s l (first + next) (redoable base first p)) q) ∙ undo_nothing from s v.clock (first + next) (redoable base first p) sane)
  undo_clock (e ∷ x) q =
      let sane = subst (λ (l : List Edit). Sane from p.session.profile l (first + next) (redoable base first p)) q v.sane in
      let is = v.is ∙ ap (λ (l : List Edit). by_history from s l (first + next) (redoable base first p)) q in
      moved Before _ _ _ (ap (move_asks Before) is ∙ undo_asks from s v.clock e x (first + next) (redoable base first p) sane) (taken_back e x q)

  redo_clock : (x : List Edit) → redoable base first p ≡ x → Leaves [] (move_asks After s)
  unfolding by_way
  redo_clock [] q =
      let sane = subst (Sane from p.session.profile es (first + next)) q v.sane in
      none_moved 8 _ (ap (move_asks After) (v.is ∙ ap (by_history from s es (first + next)) q) ∙ redo_nothing from s v.clock es (first + next) sane)
  redo_clock (e ∷ x) q =
      let sane = subst (Sane from p.session.profile es (first + next)) q v.sane in
      let is = v.is ∙ ap (by_history from s es (first + next)) q in
      moved After _ _ _ (ap (move_asks After) is ∙ redo_asks from s v.clock e es (first + next) x sane) (put_again e x q)

  -- ---- forgetting and time

  forgot : (n : ℕ) → Leaves [] (forget_asks n s)
  unfolding forget_asks oldest_asks settled deed_by kept done forgotten session_freed renewed clock_after
  forgot n = cond_cases (Leaves []) (not (well_formed s)) (λ f. refl) (λ f. cond_cases (Leaves []) (ltb (held_in s) n) (λ t. refl) (λ t. refl))

  passed : (n : ℕ) → Leaves [] (time_asks n s)
  unfolding time_asks settled deed_by kept done time_passed with_timer clock_after
  passed n = cond_cases (Leaves []) (not (well_formed s)) (λ f. refl) (λ f. refl)

  -- ---- any call

  pub clock_is : (c : Call) → OfBytes c → (next_run p c).session.timer ≡ clock_after p (deed s c)
  unfolding next_run did said deed asks buffer_of
  clock_is (occ sender c d) b = spoken d 0 _ _ (occ_speaks s sender c d)
  clock_is (sbe r d m x) b = spoken d _ _ _ (sbe_speaks s r d m x)
  clock_is undo b = undo_clock es refl
  clock_is redo b = redo_clock (redoable base first p) refl
  clock_is (forget n) b = forgot n
  clock_is (time n) b = passed n

-- ---- of every session: an undo or redo of another kind leaves the timer

module _ (w : Way) (s : Session) where
  abbrev Others : Said → Type 0
  Others q = (q.kind ≡ 0x0C → ⊥) → q.session.timer ≡ s.timer

  other_called : (a : Asks) → Called w s a → Others (settled s [] a)
  unfolding settled kept done session_moved renewed with_timer
  other_called a (ill_formed h) = λ n. refl
  other_called a (empty x z) = λ n. refl
  other_called a (barred x e n bar) = λ k. refl
  other_called a (goes x e n u) = λ k. timer_kept s.timer e.change k

  pub other_kind_keeps : Others (move_call w s)
  unfolding move_call
  other_kind_keeps = other_called (move_asks w s) (called w s)
