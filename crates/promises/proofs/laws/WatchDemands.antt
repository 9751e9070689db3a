-- Demands 1 and 2 of the call `watch`: its answers, and what it does. Assumes nothing.
use Rattle.std.specs.Prelude.{ℕ, true, ◌↔◌, ◌≡◌}
use Rattle.std.proofs.Math.Bool.{not, true≢false}
use Rattle.std.proofs.Math.Path.{refl, sym, subst}
use Rattle.std.proofs.Common.{ap, ◌∙◌}
use mathlib.Core.List.{[]}
use borrow.Author.Tests.{not-true, not-false}
use Rattle.wire.proofs.laws.Cases.{cond_cases, else_b}
use Rattle.wire.proofs.laws.Tables.{ByTable, by_is, hit, miss}
use Rattle.entries.specs.Entries.{scan_from, scan_by, entries_of}
use Rattle.marks.specs.Marks.{milestones, spelled, marks_of}
use Rattle.session.specs.Session.{entries_in, well_formed, renewed, with_profile}
use Rattle.session.specs.Road.{Asks, refuses, opens, watch_only, kept, done, settled}
use Rattle.session.proofs.laws.Session.{formed}
use Rattle.session.specs.declared.Session.{Session}
use Rattle.watch_call.specs.Watch.{watch_asks, watch_call}
use Rattle.promises.specs.Demand1.{WatchAnswer}
use Rattle.promises.specs.Effects.{WatchEffect}

module _ (s : Session) where
  abbrev Answers : Asks → ℕ → Type 0
  Answers a k = (settled s [] a).answer ≡ k

  watch_table : ByTable Answers (watch_asks s) (WatchAnswer s)
  unfolding watch_asks WatchAnswer settled kept done
  watch_table =
      cond_cases (λ (a : Asks). ByTable Answers a (WatchAnswer s)) (not (well_formed s))
      (λ f. hit Answers (λ x. true≢false (sym x ∙ not-true _ f)) (by_is Answers refl (λ m e. sym e)))
      (λ f. miss Answers (λ h. h (not-false _ f)) (by_is Answers refl (λ m e. sym e)))

  pub watch_answers : (n : ℕ) → ((watch_call s).answer ≡ n) ↔ WatchAnswer s n
  unfolding watch_call
  watch_answers = watch_table.exactly

  -- ---- what it does

  opened : well_formed s ≡ true → WatchEffect s (watch_only s)
  unfolding watch_only renewed with_profile entries_in entries_of scan_by scan_from marks_of spelled milestones
  opened whole =
      record {
        record_is = refl;
        worked_is = sym (formed s whole).worked_is;
        timer_is = refl;
        next_is = refl;
        journal_is = (refl, refl);
        redo_is = (refl, refl);
        marks_are = refl;
        watch_only_lem = refl;
      }

  pub watch_effect : well_formed s ≡ true → ((watch_call s).answer ≡ 0) × WatchEffect s (watch_call s).session
  unfolding watch_call watch_asks settled done
  watch_effect whole =
      subst (λ (a : Asks). ((settled s [] a).answer ≡ 0) × WatchEffect s (settled s [] a).session) (else_b (refuses 1) opens {b = not (well_formed s)} (ap not whole) refl) (refl, opened whole)
