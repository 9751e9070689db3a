-- Document 02, l: the answers of the calls `plan_ok` and `plan`, and the plan that is given. Assumes nothing.
use Rattle.std.specs.Prelude.{ℕ, ◌<◌, ◌≤◌, Bool, true, cond, not, ◌↔◌, ◌⊎◌, ◌≡◌, List, ltb, eqb, length, take, drop}
use Rattle.std.proofs.Math.Bool.{false, true≢false}
use Rattle.std.specs.Prelude.{Option, Some, None}
use Rattle.std.proofs.lemmas.Option.{same_Some, none-some}
use Rattle.std.proofs.Common.{inl, inr, ⊎_elim, ap, subst, ◌∙◌, arith, take_at}
use Rattle.std.proofs.Math.Path.{refl, sym}
use Rattle.std.proofs.Math.Nat.{not-le_of_lt}
use borrow.Author.Tests.{not-false, not-true, eqb-true, ltb-true, ltb-false}
use Rattle.wire.specs.Conditions.{is, row}
use Rattle.wire.specs.Wire.{pasted}
use Rattle.wire.proofs.laws.Cases.{cond_cases, if_b, else_lt, if_ne, else_ne}
use Rattle.wire.proofs.laws.Chains.{holds, eq_holds, or_else, passed}
use Rattle.wire.proofs.laws.Tables.{ByTable, by_is, hit, miss}
use Rattle.session.specs.Session.{well_formed}
use Rattle.session.specs.declared.Session.{Session}
use Rattle.image.specs.Image.{session_of}
use Rattle.layout.specs.Layout.{image_length}
use Rattle.inplace.specs.declared.Told.{Told}
use Rattle.plan.specs.Conditions.{FewestThenLeast}
use Rattle.plan.specs.Plan.{packets_in, is_order, reaches, plan_ok, order_of, least_plan, wanted_ok, plan_refusal, start_of, answered, accepted, plan_ok_call, Planned, given, plan_call, plan_ok_on, plan_on}
use Rattle.plan.proofs.laws.Least.{least_low, least_passes, least_before}
use Rattle.plan.proofs.laws.Numbers.{number_of, comes_first, number_order, order_number}
use Rattle.plan.proofs.laws.Orders.{of_more}
use Rattle.plan.proofs.laws.Refusals.{none_refused, no_refusal}
use Rattle.promises.specs.Demand2.{at_front}
use Rattle.promises.specs.Plans.{TooMany, Wanted, PlanOkAnswer, PlanAnswer, PlanDue, Accepted, plan_in, Given, NoPlan}
use Rattle.promises.proofs.laws.Replies.{front_is}

wanted_exactly : (wanted : ℕ) → (wanted_ok wanted ≡ true) ↔ Wanted wanted
unfolding wanted_ok
wanted_exactly wanted = or_else holds {x = true} refl (eq_holds wanted 2) (eq_holds wanted 3)

-- ---- answers 1 and 10, then what comes after them

module _ (s : Session) (p : List ℕ) (wanted : ℕ) where
  abbrev n : ℕ
  n = plan_refusal (well_formed s) p wanted

  -- A is what a call leaves, with an answer in it
  module _ {A : Type 0} (answer : A → ℕ) (refused : ℕ → A) (tells : (k : ℕ) → answer (refused k) ≡ k) (rest : A) (T : ℕ → Type 0) where
    abbrev Answers : A → ℕ → Type 0
    Answers x k = answer x ≡ k

    -- with the refusal's number
    abbrev by : ℕ → A
    by k = cond (not (eqb k 0)) (refused k) rest

    abbrev Table : ℕ → Type 0
    Table = row 1 (well_formed s ≡ true → ⊥) (row 10 (TooMany p ⊎ (Wanted wanted → ⊥)) T)

    tells_it : (k : ℕ) → ByTable Answers (refused k) (is k)
    tells_it k = by_is Answers (tells k) (λ m e. sym e ∙ tells k)

    after_refusals : ByTable Answers rest T → ByTable Answers (by n) Table
    unfolding plan_refusal
    after_refusals more =
        cond_cases (λ (k : ℕ). ByTable Answers (by k) Table) (not (well_formed s)) (λ f. hit Answers (λ w. true≢false (sym w ∙ not-true _ f)) (tells_it 1))
        (λ f. cond_cases (λ (k : ℕ). ByTable Answers (by k) Table) (ltb 5 (packets_in p))
        (λ g. miss Answers (λ z. z (not-false _ f)) (hit Answers (inl (ltb-true 5 (packets_in p) g)) (tells_it 10)))
        (λ g. cond_cases (λ (k : ℕ). ByTable Answers (by k) Table) (not (wanted_ok wanted))
        (λ h. miss Answers (λ z. z (not-false _ f)) (hit Answers (inr (λ w. true≢false (sym ((wanted_exactly wanted).1 w) ∙ not-true _ h))) (tells_it 10)))
        (λ h. miss Answers (λ z. z (not-false _ f))
        (miss Answers (⊎_elim (λ z. not-le_of_lt z (ltb-false 5 (packets_in p) g)) (λ z. z ((wanted_exactly wanted).0 (not-false _ h)))) more))))

  pub due_so : n ≡ 0 → PlanDue s p wanted
  due_so z = let q = none_refused (well_formed s) p wanted z in record { formed = q.well; few = q.few; wanted_is = (wanted_exactly wanted).0 q.wanted_is }

  pub so_due : PlanDue s p wanted → n ≡ 0
  so_due q = sym (no_refusal (well_formed s) p wanted (record { well = q.formed; few = q.few; wanted_is = (wanted_exactly wanted).1 q.wanted_is }))

  -- ---- the check

  module _ (o : List ℕ) where
    abbrev passes : Bool
    passes = plan_ok p wanted (start_of s) o

    told_table : ByTable (λ (t : Told) (k : ℕ). t.answer ≡ k) (cond passes accepted (answered 0)) (is 0)
    told_table =
        cond_cases (λ (t : Told). ByTable (λ (x : Told) (k : ℕ). x.answer ≡ k) t (is 0)) passes
        (λ h. by_is (λ (x : Told) (k : ℕ). x.answer ≡ k) refl (λ m e. sym e)) (λ h. by_is (λ (x : Told) (k : ℕ). x.answer ≡ k) refl (λ m e. sym e))

    pub plan_ok_answers : (k : ℕ) → ((plan_ok_call s p wanted o).answer ≡ k) ↔ PlanOkAnswer s p wanted k
    unfolding plan_ok_call PlanOkAnswer
    plan_ok_answers = (after_refusals (λ (t : Told). t.answer) answered (λ k. refl) (cond passes accepted (answered 0)) (is 0) told_table).exactly

    small_one : {A : Type 0} (k : ℕ) → (answered k).small ≡ 1 → A
    small_one k e = absurd (omega (arith, e))

    accepted_so : Accepted (plan_ok_call s p wanted o) → (n ≡ 0) × (passes ≡ true)
    unfolding plan_ok_call
    accepted_so e = go (ap (λ (t : Told). t.small) e)
      where
        go : (plan_ok_call s p wanted o).small ≡ 1 → (n ≡ 0) × (passes ≡ true)
        go =
            cond_cases (λ (t : Told). t.small ≡ 1 → (n ≡ 0) × (passes ≡ true)) (not (eqb n 0)) (λ f. small_one n)
            (λ f. cond_cases (λ (t : Told). t.small ≡ 1 → (n ≡ 0) × (passes ≡ true)) passes (λ g h. (eqb-true n 0 (not-false _ f), g)) (λ g. small_one 0))

    so_accepted : n ≡ 0 → passes ≡ true → Accepted (plan_ok_call s p wanted o)
    unfolding plan_ok_call
    so_accepted z h = sym (else_ne _ _ z (if_b _ _ h refl))

    pub accepted_exactly : PlanDue s p wanted → Accepted (plan_ok_call s p wanted o) ↔ (passes ≡ true)
    accepted_exactly q = (λ h. (accepted_so h).1, so_accepted (so_due q))

    -- else nothing is told beside the answer
    abbrev Plain : Told → Type 0
    Plain t = (Accepted t → ⊥) → t ≡ answered t.answer

    pub not_accepted : Plain (plan_ok_call s p wanted o)
    unfolding plan_ok_call
    not_accepted = cond_cases Plain (not (eqb n 0)) (λ f z. refl) (λ f. cond_cases Plain passes (λ g z. absurd (z refl)) (λ g z. refl))

  -- ---- what passes is an order of five packets

  pub passes_order : packets_in p ≤ 5 → (o : List ℕ) → plan_ok p wanted (start_of s) o ≡ true → is_order 5 o ≡ true
  unfolding plan_ok
  passes_order few o h =
      let a = passed (ltb 5 (length o)) (cond (not (is_order (packets_in p) o)) false (reaches p wanted (start_of s) o)) h in
      of_more (packets_in p) 5 few o (not-false _ (passed (not (is_order (packets_in p) o)) (reaches p wanted (start_of s) o) a.1).0)

  -- ---- the plan

  module _ (d : List ℕ) where
    abbrev q : Planned
    q = plan_call s p wanted d

    abbrev least : Option ℕ
    least = least_plan p wanted (start_of s)

    abbrev answer : Planned → ℕ
    answer x = x.told.answer

    abbrev refused : ℕ → Planned
    refused k = record { told = answered k; order = d }

    abbrev rest : Planned
    rest = cond (ltb (length d) 5) (refused 3) (given least d)

    answer_given : (v : Option ℕ) → (given v d).told.answer ≡ 0
    unfolding given
    answer_given None = refl
    answer_given (Some m) = refl

    given_answer : (given least d).told.answer ≡ 0
    given_answer = answer_given least

    rest_table : ByTable (λ (x : Planned) (k : ℕ). answer x ≡ k) rest (row 3 (length d < 5) (is 0))
    rest_table =
        let By : Planned → ℕ → Type 0 = λ (x : Planned) (k : ℕ). answer x ≡ k in
        cond_cases (λ (x : Planned). ByTable By x (row 3 (length d < 5) (is 0))) (ltb (length d) 5)
        (λ h. hit By (ltb-true (length d) 5 h) (by_is By refl (λ m e. sym e)))
        (λ h. miss By (λ z. not-le_of_lt z (ltb-false (length d) 5 h)) (by_is By given_answer (λ m e. sym e ∙ given_answer)))

    pub plan_answers : (k : ℕ) → (q.told.answer ≡ k) ↔ PlanAnswer s p wanted d k
    unfolding plan_call PlanAnswer
    plan_answers = (after_refusals answer refused (λ k. refl) rest (row 3 (length d < 5) (is 0)) rest_table).exactly

    -- a refusal keeps the buffer, and tells nothing more
    abbrev Kept : Planned → Type 0
    Kept x = (answer x ≡ 0 → ⊥) → (x.order ≡ d) × (x.told.small ≡ 0) × (x.told.beside ≡ 0)

    pub plan_refused : Kept q
    unfolding plan_call
    plan_refused =
        cond_cases Kept (not (eqb n 0)) (λ f z. (refl, refl, refl))
        (λ f. cond_cases Kept (ltb (length d) 5) (λ g z. (refl, refl, refl)) (λ g z. absurd (z given_answer)))

    -- ---- where no refusal is due

    module _ (due : PlanDue s p wanted) (room : 5 ≤ length d) where
      is_given : q ≡ given least d
      unfolding plan_call
      is_given = sym (else_ne _ _ (so_due due) (else_lt _ _ room refl))

      none_is : least ≡ None → q ≡ refused 0
      unfolding given
      none_is h = is_given ∙ ap (λ (v : Option ℕ). given v d) h

      module _ (m : ℕ) (some : least ≡ Some m) where
        abbrev plan : List ℕ
        plan = order_of m

        one_is : q ≡ record { told = record { answer = 0; small = 1; beside = length plan }; order = pasted 0 plan d }
        unfolding given
        one_is = is_given ∙ ap (λ (v : Option ℕ). given v d) some

        plan_passes : plan_ok p wanted (start_of s) plan ≡ true
        plan_passes = least_passes p wanted (start_of s) m some

        at_front_lem : q.order ≡ at_front plan d
        at_front_lem = ap (λ (x : Planned). x.order) one_is ∙ front_is plan d

        long_as : q.told.beside ≡ length plan
        long_as = ap (λ (x : Planned). x.told.beside) one_is

        pub plan_in_lem : plan_in q ≡ plan
        plan_in_lem = (λ i. take (long_as i) (at_front_lem i)) ∙ take_at plan (drop (length plan) d) (length plan) refl

        pub given_passes : Accepted (plan_ok_call s p wanted (plan_in q))
        given_passes = subst (λ (o : List ℕ). Accepted (plan_ok_call s p wanted o)) (sym plan_in_lem) ((accepted_exactly plan due).1 plan_passes)

        pub given_front : q.order ≡ at_front (plan_in q) d
        given_front = at_front_lem ∙ ap (λ (o : List ℕ). at_front o d) (sym plan_in_lem)

        pub given_long : q.told.beside ≡ length (plan_in q)
        given_long = long_as ∙ ap length (sym plan_in_lem)

        -- an order that passes has no smaller number
        pub given_least : (o : List ℕ) → plan_ok p wanted (start_of s) o ≡ true → FewestThenLeast (plan_in q) o
        given_least o h =
            let ordered = passes_order due.few o h in
            let k = order_number o ordered in
            let mine = number_order m (least_low p wanted (start_of s) m some) in
            let least_is = least_before p wanted (start_of s) (number_of o) k.0 (ap (plan_ok p wanted (start_of s)) k.1 ∙ h) in
            let same = same_Some m least_is.0 (sym some ∙ least_is.1) in
            subst (λ (l : List ℕ). FewestThenLeast l o) (sym plan_in_lem)
            (comes_first plan o (passes_order due.few plan plan_passes) ordered (omega (arith, mine, same, least_is.2)))

      -- none is given where none passes, and the other way round
      none_passes : least ≡ None → (o : List ℕ) → plan_ok p wanted (start_of s) o ≡ true → ⊥
      none_passes e o h =
          let k = order_number o (passes_order due.few o h) in
          let first = least_before p wanted (start_of s) (number_of o) k.0 (ap (plan_ok p wanted (start_of s)) k.1 ∙ h) in
          none-some first.0 (sym e ∙ first.1)

      which : (least ≡ None) ⊎ ((m : ℕ) × (least ≡ Some m))
      which = go least refl
        where
          go : (v : Option ℕ) → least ≡ v → (least ≡ None) ⊎ ((m : ℕ) × (least ≡ Some m))
          go None e = inl e
          go (Some m) e = inr (m, e)

      pub given_some : q.told.small ≡ 1 → (m : ℕ) × (least ≡ Some m)
      given_some g = ⊎_elim (λ e. let z : q.told.small ≡ 0 = ap (λ (x : Planned). x.told.small) (none_is e) in absurd (omega (arith, z, g))) (λ some. some) which

      pub given_or_none : Given q ⊎ NoPlan q
      given_or_none =
          ⊎_elim (λ e. inr (ap (λ (x : Planned). x.told) (none_is e)))
          (λ some. let is = one_is some.0 some.1 in inl (ap (λ (x : Planned). x.told.answer) is, ap (λ (x : Planned). x.told.small) is)) which

      pub none_exactly : NoPlan q ↔ ((o : List ℕ) → Accepted (plan_ok_call s p wanted o) → ⊥)
      none_exactly = (
        λ h o a.
            ⊎_elim (λ e. none_passes e o ((accepted_exactly o due).0 a))
            (λ some. let z : q.told.small ≡ 1 = ap (λ (x : Planned). x.told.small) (one_is some.0 some.1) in omega (arith, z, ap (λ (t : Told). t.small) h)) which,
        λ h. ⊎_elim (λ e. ap (λ (x : Planned). x.told) (none_is e)) (λ some. absurd (h (plan some.0 some.1) ((accepted_exactly (plan some.0 some.1) due).1 (plan_passes some.0 some.1)))) which,
      )

    -- what is given was due, and has room
    abbrev Fine : Planned → Type 0
    Fine x = x.told.small ≡ 1 → PlanDue s p wanted × (5 ≤ length d)

    pub given_due : Fine q
    unfolding plan_call
    given_due =
        cond_cases Fine (not (eqb n 0)) (λ f z. absurd (omega (arith, z)))
        (λ f. cond_cases Fine (ltb (length d) 5) (λ g z. absurd (omega (arith, z))) (λ g z. (due_so (eqb-true n 0 (not-false _ f)), ltb-false (length d) 5 g)))

    -- no plan keeps the buffer
    abbrev KeptNone : Planned → Type 0
    KeptNone x = x.told.small ≡ 0 → x.order ≡ d

    kept_by : (v : Option ℕ) → KeptNone (given v d)
    unfolding given
    kept_by None z = refl
    kept_by (Some m) z = absurd (omega (arith, z))

    pub none_keeps : KeptNone q
    unfolding plan_call
    none_keeps =
        cond_cases KeptNone (not (eqb n 0)) (λ f z. refl)
        (λ f. cond_cases KeptNone (ltb (length d) 5) (λ g z. refl) (λ g. kept_by least))

-- ---- on lent bytes

module _ (b p : List ℕ) (wanted : ℕ) (d : List ℕ) where
  pub on_image_checked : length b ≡ image_length → plan_ok_on b p wanted d ≡ plan_ok_call (session_of b) p wanted d
  unfolding plan_ok_on
  on_image_checked long = sym (else_ne _ _ long refl)

  pub on_image_planned : length b ≡ image_length → plan_on b p wanted d ≡ plan_call (session_of b) p wanted d
  unfolding plan_on
  on_image_planned long = sym (else_ne _ _ long refl)

  pub no_image_plans : (length b ≡ image_length → ⊥) → (plan_ok_on b p wanted d ≡ answered 1) × (plan_on b p wanted d ≡ record { told = answered 1; order = d })
  unfolding plan_ok_on plan_on
  no_image_plans other = (sym (if_ne _ _ other refl), sym (if_ne _ _ other refl))
