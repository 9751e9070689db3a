-- The public calls, from what they call. Assumes nothing.
use Prim.Native.Nat.{ℕ, ◌+◌, ◌/◌, ◌<◌, ◌≤◌}
use mathlib.Core.Bool.{Bool, true, false, not, cond}
use Rattle.std.specs.Prelude.{Option, Some, None, eqb, ltb}
use Rattle.std.specs.Option.{IfSome}
use Rattle.inplace.specs.InPlace.{Opens, Unopened}
use mathlib.Core.Path.{◌≡◌, refl, sym, ap, ◌∙◌}
use mathlib.Core.List.{List}
use native.Mathlib.Omega.{arith}
use lib.ListN.{length}
use borrow.Author.Tests.{not-false, eqb-true}
use Rattle.wire.proofs.laws.Cases.{cond_cases, if_b, else_b, if_lt, else_lt, if_ne, else_ne}
use Rattle.session.specs.Session.{well_formed}
use Rattle.session.proofs.laws.Session.{formed_next}
use Rattle.session.specs.declared.Session.{Session}
use Rattle.image.specs.declared.Head.{Head}
use Rattle.image.specs.Image.{session_in, session_of}
use Rattle.layout.specs.Layout.{image_length}
use Rattle.inplace.specs.declared.Told.{Told}
use Rattle.plan.specs.Plan.{packets_in, plan_ok, least_plan, wanted_ok, plan_refusal, Plannable, start_of, answered, accepted as accepted_lem, plan_ok_call, Planned, given, plan_call, plan_ok_on, plan_on, PlanAllows}
use Rattle.plan.proofs.laws.Least.{least_low}
use Rattle.plan.proofs.laws.Refusals.{none_refused}
use Rattle.plan.specs.declared.Trial.{Trial}

module _ (p : List ℕ) (wanted : ℕ) where
  pub too_many : 20480 < length p → plan_refusal true p wanted ≡ 10
  unfolding plan_refusal packets_in
  too_many h = let more : 5 < (length p + 4095) / 4096 = omega (arith, h) in sym (if_lt _ _ more refl)

  pub by_wanted : length p ≤ 20480 → (ok : Bool) → ok ≡ wanted_ok wanted → plan_refusal true p wanted ≡ cond ok 0 10
  unfolding plan_refusal packets_in
  by_wanted few ok e =
      let five : (length p + 4095) / 4096 ≤ 5 = omega (arith, few) in
      sym (else_lt _ _ five refl) ∙ ap (λ (b : Bool). cond (not b) 10 0) (sym e) ∙ swapped ok
    where
      swapped : (b : Bool) → cond {A = ℕ} (not b) 10 0 ≡ cond b 0 10
      swapped true = refl
      swapped false = refl

-- ---- on lent bytes

refused_planned : (p : List ℕ) (wanted : ℕ) (d : List ℕ) (s : Session) → well_formed s ≡ false → record { told = answered 1; order = d } ≡ plan_call s p wanted d
unfolding plan_call plan_refusal
refused_planned p wanted d s ill = ap (λ (g : Bool). cond (not (eqb (plan_refusal g p wanted) 0)) (record { told = answered (plan_refusal g p wanted); order = d }) (rest g)) (sym ill)
  where
    rest : Bool → Planned
    rest g = cond (ltb (length d) 5) (record { told = answered 3; order = d }) (given (least_plan p wanted (start_of s)) d)

refused_checked : (p : List ℕ) (wanted : ℕ) (o : List ℕ) (s : Session) → well_formed s ≡ false → answered 1 ≡ plan_ok_call s p wanted o
unfolding plan_ok_call plan_refusal
refused_checked p wanted o s ill =
    ap (λ (g : Bool). cond (not (eqb (plan_refusal g p wanted) 0)) (answered (plan_refusal g p wanted)) (cond (plan_ok p wanted (start_of s) o) accepted_lem (answered 0))) (sym ill)

module _ (b p : List ℕ) (wanted : ℕ) where
  module _ (shut : Unopened b) where
    ill : not (eqb (length b) image_length) ≡ false → well_formed (session_of b) ≡ false
    ill e = (shut (eqb-true (length b) image_length (not-false _ e))).0

    pub unopened : (o : List ℕ) (t : Told) → t ≡ answered 1 → t ≡ plan_ok_on b p wanted o
    unfolding plan_ok_on
    unopened o t e = e ∙ cond_cases (λ (x : Told). answered 1 ≡ x) (not (eqb (length b) image_length)) (λ z. refl) (λ z. refused_checked p wanted o (session_of b) (ill z))

    unopened_planned : (d : List ℕ) → record { told = answered 1; order = d } ≡ plan_on b p wanted d
    unfolding plan_on
    unopened_planned d =
        cond_cases (λ (x : Planned). record { told = answered 1; order = d } ≡ x) (not (eqb (length b) image_length)) (λ z. refl) (λ z. refused_planned p wanted d (session_of b) (ill z))

    pub unopened_plan : (d : List ℕ) (t : Told) → t ≡ answered 1 → PlanAllows b p wanted d t d
    unopened_plan d t e = let q = unopened_planned d in (e ∙ ap (λ (x : Planned). x.told) q, ap (λ (x : Planned). x.order) q)

  module _ (h : Head) (op : Opens b h) (fine : Bool) (e : Plannable p wanted fine) where
    abbrev s : Session
    s = session_in h b

    refusal_is : cond fine 0 10 ≡ plan_refusal (well_formed s) p wanted
    refusal_is = sym e ∙ ap (λ (x : Bool). plan_refusal x p wanted) (sym op.formed)

    on_session : (o : List ℕ) → plan_ok_call s p wanted o ≡ plan_ok_on b p wanted o
    unfolding plan_ok_on session_of
    on_session o = else_ne _ _ op.long (ap (λ (x : Head). plan_ok_call (session_in x b) p wanted o) op.read)

    on_session_plan : (d : List ℕ) → plan_call s p wanted d ≡ plan_on b p wanted d
    unfolding plan_on session_of
    on_session_plan d = else_ne _ _ op.long (ap (λ (x : Head). plan_call (session_in x b) p wanted d) op.read)

    planned : (d : List ℕ) (t : Told) (y : List ℕ) {x : Planned} → t ≡ x.told → y ≡ x.order → x ≡ plan_call s p wanted d → PlanAllows b p wanted d t y
    planned d t y k l q = let r = q ∙ on_session_plan d in (k ∙ ap (λ (z : Planned). z.told) r, l ∙ ap (λ (z : Planned). z.order) r)

    module _ (no : fine ≡ false) where
      due : plan_refusal (well_formed s) p wanted ≡ 10
      due = sym refusal_is ∙ ap (λ (x : Bool). cond {A = ℕ} x 0 10) no

      some : plan_refusal (well_formed s) p wanted ≡ 0 → ⊥
      some z = omega (arith, due, z)

      pub refused : (o : List ℕ) (t : Told) → t ≡ answered 10 → t ≡ plan_ok_on b p wanted o
      unfolding plan_ok_call
      refused o t q = q ∙ ap answered (sym due) ∙ if_ne _ _ some refl ∙ on_session o

      pub refused_plan : (d : List ℕ) (t : Told) → t ≡ answered 10 → PlanAllows b p wanted d t d
      unfolding plan_call
      refused_plan d t q = planned d t d (q ∙ ap answered (sym due)) refl (if_ne _ _ some refl)

    module _ (yes : fine ≡ true) where
      none_so : plan_refusal (well_formed s) p wanted ≡ 0
      none_so = sym refusal_is ∙ ap (λ (x : Bool). cond {A = ℕ} x 0 10) yes

      pub few_enough : packets_in p ≤ 5
      few_enough = (none_refused _ p wanted none_so).few

      pub no_room_lem : (d : List ℕ) → length d < 5 → (t : Told) → t ≡ answered 3 → PlanAllows b p wanted d t d
      unfolding plan_call
      no_room_lem d short t k = planned d t d k refl (else_ne _ _ none_so (if_lt _ _ short refl))

      module _ (start : Trial) (is : start ≡ record { held = h.held; next = h.next }) where
        starts : start ≡ start_of s
        unfolding start_of session_in
        starts = is

        low : h.next ≤ 256
        unfolding session_in
        low = formed_next s op.formed

        pub ids_left : start.next ≤ 256
        ids_left = omega (arith, low, ap (λ (x : Trial). x.next) is)

        module _ (o : List ℕ) (ok : Bool) (q : ok ≡ plan_ok p wanted start o) where
          checked : ok ≡ plan_ok p wanted (start_of s) o
          checked = q ∙ ap (λ (x : Trial). plan_ok p wanted x o) starts

          pub not_accepted : ok ≡ false → (t : Told) → t ≡ answered 0 → t ≡ plan_ok_on b p wanted o
          unfolding plan_ok_call
          not_accepted z t k = k ∙ else_ne _ _ none_so (else_b _ _ (sym checked ∙ z) refl) ∙ on_session o

          pub accepted : ok ≡ true → record { answer = 0; small = 1; beside = 0 } ≡ plan_ok_on b p wanted o
          unfolding plan_ok_call
          accepted z = else_ne _ _ none_so (if_b _ _ (sym checked ∙ z) refl) ∙ on_session o

        pub numbered : (v : Option ℕ) → v ≡ least_plan p wanted start → IfSome v (λ m. m < 7776)
        numbered None q = tt
        numbered (Some m) q = least_low p wanted start m (sym q)

        pub the_least : (d : List ℕ) → 5 ≤ length d → (v : Option ℕ) → v ≡ least_plan p wanted start → (t : Told) (y : List ℕ) → t ≡ (given v d).told → y ≡ (given v d).order → PlanAllows b p wanted d t y
        unfolding plan_call
        the_least d room v q t y k l =
            planned d t y k l (else_ne _ _ none_so (else_lt _ _ room (ap (λ (i : Option ℕ). given i d) (q ∙ ap (least_plan p wanted) starts))))
