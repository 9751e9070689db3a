-- Answer 1, of every call: read off the tables. Assumes nothing.
use Rattle.std.specs.Prelude.{ℕ, true, ◌↔◌, ◌≡◌, refl, List}
use Rattle.std.proofs.Math.Logic.Iff
use Rattle.std.proofs.Common.{sym, arith}
use Rattle.wire.specs.Conditions.{here, later}
use Rattle.journal.specs.declared.Way.{Way}
use Rattle.journal.specs.declared.Way.TheVariants.{Before, After}
use Rattle.session.specs.Session.{well_formed}
use Rattle.session.specs.declared.Session.{Session}
use Rattle.links.specs.Typed.{TypedSession}
use Rattle.occ_call.specs.Occ.{occ_call}
use Rattle.sbe_call.specs.Sbe.{sbe_call}
use Rattle.forget_call.specs.Forget.{forget_call}
use Rattle.time_call.specs.Time.{time_call}
use Rattle.promises.proofs.laws.ForgetDemands.{forget_answers}
use Rattle.undo_call.specs.Undo.{move_call}
use Rattle.promises.specs.Calls.{Call, occ, sbe, undo, redo, forget, time, buffer_of, asks, said}
use Rattle.promises.specs.Demand1.{OccAnswer, SbeAnswer, MoveAnswer, ForgetAnswer, TimeAnswer}
use Rattle.promises.proofs.laws.OccDemands.{occ_answers}
use Rattle.promises.proofs.laws.SbeDemands.{sbe_answers}
use Rattle.promises.proofs.laws.TimeDemands.{time_answers}
use Rattle.promises.proofs.laws.UndoDemands.{undo_answers, redo_answers}

module _ (s : Session) (typed : TypedSession s) where
  abbrev IllFormed : Type 0
  IllFormed = well_formed s ≡ true → ⊥

  occ_one : (sender : ℕ) (c d : List ℕ) → OccAnswer s sender c d 1 → IllFormed
  unfolding OccAnswer
  occ_one sender c d (here h e) = h
  occ_one sender c d (later _ (here h e)) = absurd (omega (arith, e))
  occ_one sender c d (later _ (later _ (here h e))) = absurd (omega (arith, e))
  occ_one sender c d (later _ (later _ (later _ (here h e)))) = absurd (omega (arith, e))
  occ_one sender c d (later _ (later _ (later _ (later _ (here h e))))) = absurd (omega (arith, e))
  occ_one sender c d (later _ (later _ (later _ (later _ (later _ e))))) = absurd (omega (arith, e))

  sbe_one : (r d : List ℕ) → SbeAnswer s r d 1 → IllFormed
  unfolding SbeAnswer
  sbe_one r d (here h e) = h
  sbe_one r d (later _ (here h e)) = absurd (omega (arith, e))
  sbe_one r d (later _ (later _ (here h e))) = absurd (omega (arith, e))
  sbe_one r d (later _ (later _ (later _ (here h e)))) = absurd (omega (arith, e))
  sbe_one r d (later _ (later _ (later _ (later _ e)))) = absurd (omega (arith, e))

  -- 6 or 8 isn't 1
  move_one : (w : Way) (empty : ℕ) → (empty ≡ 1 → ⊥) → MoveAnswer w empty s 1 → IllFormed
  unfolding MoveAnswer
  move_one w empty z (here h e) = h
  move_one w empty z (later _ (here h e)) = absurd (z (sym e))
  move_one w empty z (later _ (later _ (here h e))) = absurd (omega (arith, e))
  move_one w empty z (later _ (later _ (later _ e))) = absurd (omega (arith, e))

  forget_one : (n : ℕ) → ForgetAnswer n s 1 → IllFormed
  unfolding ForgetAnswer
  forget_one n (here h e) = h
  forget_one n (later _ (here h e)) = absurd (omega (arith, e))
  forget_one n (later _ (later _ e)) = absurd (omega (arith, e))

  time_one : TimeAnswer s 1 → IllFormed
  unfolding TimeAnswer
  time_one (here h e) = h
  time_one (later _ e) = absurd (omega (arith, e))

  pub one_exactly : (c : Call) → ((said s c).answer ≡ 1) ↔ IllFormed
  unfolding said asks buffer_of occ_call sbe_call move_call forget_call time_call OccAnswer SbeAnswer MoveAnswer ForgetAnswer TimeAnswer
  one_exactly (occ sender c d) = Iff.trans (occ_answers s typed sender c d 1) (occ_one sender c d, λ h. here h refl)
  one_exactly (sbe r d m x) = Iff.trans (sbe_answers s typed r d m x 1) (sbe_one r d, λ h. here h refl)
  one_exactly undo = Iff.trans (undo_answers s 1) (move_one Before 6 (λ z. omega (arith, z)), λ h. here h refl)
  one_exactly (forget n) = Iff.trans (forget_answers n s 1) (forget_one n, λ h. here h refl)
  one_exactly (time n) = Iff.trans (time_answers n s 1) (time_one, λ h. here h refl)
  one_exactly redo = Iff.trans (redo_answers s 1) (move_one After 8 (λ z. omega (arith, z)), λ h. here h refl)
