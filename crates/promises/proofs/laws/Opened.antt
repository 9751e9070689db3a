-- A well-formed session whose stores are empty starts a history; a fresh one does. Assumes nothing.
use Rattle.std.specs.Prelude.{ℕ, true, ◌≡◌, refl, length, drop}
use Rattle.std.proofs.Math.Logic.{inl, inr, ⊎_elim}
use Rattle.std.proofs.Common.{sym, ◌∙◌, add-zero, arith, take_all}
use Rattle.std.proofs.Math.Path.{ap, subst}
use mathlib.Core.List.{List, []}
use Rattle.wire.specs.Wire.{all_are}
use Rattle.wire.proofs.laws.Wire.{take_all_are}
use Rattle.journal.specs.Ways.{by_way}
use Rattle.journal.specs.declared.Way.{Way}
use Rattle.journal.specs.declared.Way.TheVariants.{Before, After}
use Rattle.session.specs.Session.{marks_for, well_formed, renewed}
use Rattle.session.proofs.laws.Session.{Store, Formed, formed, formed_next}
use Rattle.session.specs.declared.Session.{Session}
use Rattle.links.specs.Typed.{TypedSession}
use Rattle.promises.specs.Marks.{left, logs_made}
use Rattle.promises.specs.History.{applied, start}
use Rattle.promises.specs.Ids.{ids_made, countdown}
use Rattle.promises.proofs.laws.Stores.{padded, flat}
use Rattle.promises.proofs.laws.ByHistory.{standing, backs, by_history, Sane}
use Rattle.promises.proofs.laws.Struck.{off}
use Rattle.promises.proofs.laws.Marks.{strokes_start}
use Rattle.promises.proofs.laws.Demand3.{Inv}
use Rattle.promises.proofs.laws.Plainly.{plainly_formed}

-- a store of which nothing is used is zero
zero_store : (w : Way) (j : List ℕ) (used : ℕ) → Store w j used → used ≡ 0 → length j ≡ 2048 → j ≡ padded []
unfolding padded
zero_store w j used h none long =
    let unused : all_are 0 j ≡ true = subst (λ (n : ℕ). all_are 0 (drop n j) ≡ true) none h.unused in
    sym (take_all 2048 j (omega (arith, long))) ∙ take_all_are 0 2048 j unused (omega (arith, long))

module _ (s : Session) (typed : TypedSession s) (ok : well_formed s ≡ true) (none : s.used ≡ 0) (none_ahead : s.ahead ≡ 0) where
  abbrev f : Formed s
  f = formed s ok

  journal_zero : s.journal ≡ padded []
  journal_zero = zero_store Before s.journal s.used f.journal none typed.journal

  redo_zero : s.redo ≡ padded []
  redo_zero = zero_store After s.redo s.ahead f.redo none_ahead typed.redo

  own_session : s ≡ renewed s s.held s.next (padded []) 0 (padded []) 0
  unfolding renewed
  own_session = λ i. record {
    held = s.held;
    worked = f.worked_is i;
    next = s.next;
    journal = journal_zero i;
    used = none i;
    redo = redo_zero i;
    ahead = none_ahead i;
    marks = (f.marks_are ∙ (λ j. marks_for (journal_zero j) (none j))) i;
    timer = s.timer;
    profile = s.profile;
  }

  opened_sane : Sane s.held s.profile [] s.next []
  unfolding backs flat applied
  opened_sane = record { small = formed_next s ok; fits = omega arith; ok = f.record_ok_lem; typed = typed.held; kept = tt; again = tt; profile = ⊎_elim (λ z. inl z) (λ h. inr h.0) f.profile_is }

  pub opened_start : Inv s.held s.next (start s)
  unfolding start left logs_made off ids_made countdown by_history standing by_way backs flat applied
  opened_start = record {
    is = own_session ∙ ap (λ (n : ℕ). renewed s s.held n (padded []) 0 (padded []) 0) (sym (add-zero s.next));
    clock = record { ok = f.timer_ok_lem; fits = typed.timer };
    sane = subst (λ (n : ℕ). Sane s.held s.profile [] n []) (sym (add-zero s.next)) opened_sane;
    counts = ((plainly_formed s).0 ok).next.0;
    low = omega arith;
    ids = refl;
    strokes = strokes_start;
  }
