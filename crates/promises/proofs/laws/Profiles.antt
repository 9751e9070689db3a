-- Document 02, k: "The profile is fixed at opening and no undo alters it": no call but an opening does. Assumes nothing.
use Rattle.std.specs.Prelude.{ℕ, not, ◌≡◌, List, [], ◌∷◌, ltb, length, Option, Some, None}
use Rattle.std.proofs.Math.Path.{refl}
use Rattle.std.proofs.Common.{◌∙◌, arith}
use Rattle.wire.proofs.laws.Cases.{cond_elim}
use Rattle.change.specs.Change.{kind_of, takes_back}
use Rattle.change.specs.declared.Change.{Change}
use Rattle.change.specs.declared.Change.TheVariants.{Clear, Unclear, SetState, SetRole, SetCaps, SetUser, SetThermal, SetThrottles, Reset, Unreset, SetMask, SetDeadman, SetAreas, SetTimer}
use Rattle.change.specs.declared.Edit.{Edit}
use Rattle.journal.specs.Add.{end_of}
use Rattle.journal.specs.declared.Way.{Way}
use Rattle.journal.specs.declared.Way.TheVariants.{Before, After}
use Rattle.session.specs.Session.{well_formed, made_of, renewed, with_timer, carried_to, carried_of}
use Rattle.session.specs.Road.{Asks, refuses, tells, makes, moves, forgets, passes, opens, held_in, session_moved, session_freed, forgotten, time_passed, Said, kept, done, carried_says, settled}
use Rattle.session.proofs.laws.Road.{Speaks}
use Rattle.session.specs.declared.Session.{Session}
use Rattle.occ_call.specs.Occ.{occ_asks}
use Rattle.occ_call.proofs.laws.Speaks.{occ_speaks}
use Rattle.sbe_call.specs.Sbe.{sbe_asks}
use Rattle.sbe_call.proofs.laws.Speaks.{sbe_speaks}
use Rattle.undo_call.specs.Undo.{move_asks}
use Rattle.forget_call.specs.Forget.{oldest_asks, forget_asks}
use Rattle.time_call.specs.Time.{time_asks}
use Rattle.promises.specs.Calls.{Call, occ, sbe, undo, redo, forget, time, asks, said}
use Rattle.promises.specs.History.{Run, did, next_run, run}
use Rattle.promises.proofs.laws.UndoDemands.{Called, ill_formed, empty, barred, goes, called}

-- what a call asks, if it isn't an opening
abbrev pub NoOpening : Asks → Type 0
NoOpening (refuses n) = Unit {0}
NoOpening (tells bell y) = Unit {0}
NoOpening (makes e bell y) = Unit {0}
NoOpening (moves w at e) = Unit {0}
NoOpening (forgets n) = Unit {0}
NoOpening (passes n) = Unit {0}
NoOpening opens = ⊥

module _ (s : Session) where
  carried_profile : (e : Edit) → (carried_of s e).session.profile ≡ s.profile
  unfolding carried_of carried_to renewed with_timer
  carried_profile e = go (end_of (length s.journal) s.used (takes_back s.held s.timer e))
    where
      go : (x : Option ℕ) → (carried_to s e x).session.profile ≡ s.profile
      go (Some used) = refl
      go None = refl

  abbrev Kept : Said → Type 0
  Kept q = q.session.profile ≡ s.profile

  settled_profile : (d : List ℕ) (a : Asks) → NoOpening a → Kept (settled s d a)
  unfolding settled carried_says kept done session_moved forgotten session_freed time_passed renewed with_timer
  settled_profile d (refuses n) h = refl
  settled_profile d (tells bell y) h = refl
  settled_profile d (makes e bell y) h = cond_elim Kept (carried_of s e).full refl (carried_profile e)
  settled_profile d (moves w at e) h = refl
  settled_profile d (forgets n) h = refl
  settled_profile d (passes n) h = refl
  settled_profile d opens h = absurd h

  -- ---- no call of Calls.antt opens

  spoken : (d : List ℕ) (bell : ℕ) (y : List ℕ) (a : Asks) → Speaks s d bell y a → NoOpening a
  spoken d bell y (refuses n) h = tt
  spoken d bell y (tells b z) h = tt
  spoken d bell y (makes e b z) h = tt
  spoken d bell y (moves w at e) h = tt
  spoken d bell y (forgets n) h = tt
  spoken d bell y (passes n) h = tt
  spoken d bell y opens h = absurd h

  moved : (w : Way) (a : Asks) → Called w s a → NoOpening a
  moved w a (ill_formed h) = tt
  moved w a (empty x z) = tt
  moved w a (barred x e n bar) = tt
  moved w a (goes x e n u) = tt

  pub no_opening : (c : Call) → NoOpening (asks s c)
  unfolding asks forget_asks oldest_asks time_asks
  no_opening (occ sender c d) = spoken d _ _ (occ_asks s sender c d) (occ_speaks s sender c d)
  no_opening (sbe r d m x) = spoken d _ _ (sbe_asks s r d m x) (sbe_speaks s r d m x)
  no_opening undo = moved Before (move_asks Before s) (called Before s)
  no_opening redo = moved After (move_asks After s) (called After s)
  no_opening (forget n) = cond_elim NoOpening (not (well_formed s)) tt (cond_elim NoOpening (ltb (held_in s) n) tt tt)
  no_opening (time n) = cond_elim NoOpening (not (well_formed s)) tt tt

  pub profile_stays : (c : Call) → (said s c).session.profile ≡ s.profile
  unfolding said
  profile_stays c = settled_profile _ (asks s c) (no_opening c)

-- after any calls it is the one from before them
pub profile_fixed : (cs : List Call) (p : Run) → (run p cs).session.profile ≡ p.session.profile
unfolding run next_run did
profile_fixed [] p = refl
profile_fixed (c ∷ cs) p = profile_fixed cs (next_run p c) ∙ profile_stays p.session c

-- a clear makes no log
pub clear_makes_none : (ch : Change) → kind_of ch ≡ 0x01 → made_of ch ≡ 0
unfolding kind_of made_of
clear_makes_none (Clear place log) k = refl
clear_makes_none (Unclear place log) k = refl
clear_makes_none (SetState state) k = refl
clear_makes_none (SetRole got role) k = refl
clear_makes_none (SetCaps got caps) k = refl
clear_makes_none (SetUser user) k = refl
clear_makes_none (SetThermal got) k = refl
clear_makes_none (SetThrottles got) k = refl
clear_makes_none (Reset log) k = absurd (omega (arith, k))
clear_makes_none (Unreset state made) k = refl
clear_makes_none (SetMask mask) k = refl
clear_makes_none (SetDeadman deadman) k = refl
clear_makes_none (SetAreas areas) k = refl
clear_makes_none (SetTimer timer) k = refl
