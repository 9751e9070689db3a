-- Packets tried one after the other. Assumes nothing.
use Prim.Native.Nat.{ℕ, suc, zero, ◌+◌, ◌-◌, ◌<◌, ◌≤◌}
use mathlib.Core.Bool.{Bool, true, false, not}
use mathlib.Core.Path.{◌≡◌, refl, sym, ap, subst, ◌∙◌}
use mathlib.Core.List.{List}
use Rattle.std.specs.Prelude.{Option, Some, None}
use Rattle.std.specs.Option.{IfSome}
use native.Mathlib.Omega.{arith}
use borrow.Author.Tests.{not-false, ltb-false}
use lib.Dec.{eqb}
use lib.ListN.{length, get_or, drop, drop_of_length-le}
use Rattle.wire.proofs.laws.Cases.{cond_elim, if_not, else_not}
use Rattle.wire.proofs.laws.Chains.{passed}
use Rattle.record.specs.Record.{worked_of}
use Rattle.record.specs.declared.Record.{Record}
use Rattle.record.specs.declared.Worked.{Worked}
use Rattle.change.specs.Change.{put_after}
use Rattle.change.specs.declared.Change.{Change}
use Rattle.change.specs.declared.Edit.{Edit}
use Rattle.change.specs.declared.Tables.{Tables}
use Rattle.packet.specs.Packet.{data_of}
use Rattle.occ.specs.Judge.{judge_of}
use Rattle.occ.specs.declared.Judged.{Judged}
use Rattle.occ.specs.declared.Verdict.{Verdict}
use Rattle.occ.specs.declared.Verdict.TheVariants.{Refuse, Poll, Make}
use Rattle.session.specs.Session.{made_of}
use Rattle.inplace.proofs.Carrying.{made_one}
use Rattle.plan.specs.Plan.{packet_at, packet_of, sound, sounds, trial_made, trial_by, trial_judged, trial_of, reaches_from, reaches}
use Rattle.plan.specs.declared.Trial.{Trial}
use Rattle.plan.proofs.Orders.{from_here}

-- ---- one packet

pub made_fits : (n m : ℕ) (ch : Change) → m ≡ made_of ch → n ≤ 65534 → n + m ≤ 65535
made_fits n m ch e h = omega (arith, e, made_one ch)

pub made_is : (t : Trial) (e : Edit) (x : Record) → x ≡ put_after t.held e → (m : ℕ) → m ≡ made_of e.change
    → record { held = x; next = t.next + m } ≡ trial_made t e.tables e.change
unfolding trial_made
made_is t e x p m q = λ i. record { held = p i; next = t.next + q i }

module _ (t : Trial) (c : List ℕ) where
  pub unsound : (fine : Bool) → fine ≡ sound c → not fine ≡ true → None ≡ trial_of t c
  unfolding trial_of
  unsound fine e n = if_not _ _ e n refl

  pub long_enough : (fine : Bool) → fine ≡ sound c → not fine ≡ false → 4 ≤ length c
  unfolding sound
  long_enough fine e n = ltb-false (length c) 4 (passed _ _ (sym e ∙ not-false fine n)).0

  module _ (fine : Bool) (e : fine ≡ sound c) (n : not fine ≡ false) (w : Worked) (worked : w ≡ worked_of t.held) (d : List ℕ) (handed : d ≡ data_of c)
      (j : Judged) (judged : j ≡ judge_of t.held w t.next 0x10 (get_or c 1 0) d) where
    judged_is : j ≡ judge_of t.held (worked_of t.held) t.next 0x10 (get_or c 1 0) (data_of c)
    judged_is = judged ∙ (λ i. judge_of t.held (worked i) t.next 0x10 (get_or c 1 0) (handed i))

    pub by_verdict : (v : Verdict) → j.verdict ≡ v → (x : Option Trial) → x ≡ trial_by t j.tables v → x ≡ trial_of t c
    unfolding trial_of trial_judged
    by_verdict v told x p = p ∙ ap (trial_by t j.tables) (sym told) ∙ else_not _ _ e n (ap (trial_judged t) judged_is)

-- ---- a row of packets

-- the place of a packet that an order of five names
sound_at : (place : ℕ) (p : List ℕ) → place < 5 → get_or (sounds p) place false ≡ sound (packet_at place p)
unfolding sounds
sound_at zero p h = refl
sound_at (suc zero) p h = refl
sound_at (suc (suc zero)) p h = refl
sound_at (suc (suc (suc zero))) p h = refl
sound_at (suc (suc (suc (suc zero)))) p h = refl
sound_at (suc (suc (suc (suc (suc n))))) p h = absurd (omega (arith, h))

pub known_sound : (fine : List Bool) (place : ℕ) (p c : List ℕ) → fine ≡ sounds p → place < 5 → c ≡ packet_at place p → get_or fine place false ≡ sound c
known_sound fine place p c e h q = ap (λ (l : List Bool). get_or l place false) e ∙ sound_at place p h ∙ ap sound (sym q)

-- a trial draws one id at most
Low : Trial → Trial → Type 0
Low t x = x.next ≤ t.next + 1

verdict_draws : (t : Trial) (tables : Tables) (v : Verdict) → IfSome (trial_by t tables v) (Low t)
unfolding trial_by trial_made Low
verdict_draws t tables (Refuse n) = tt
verdict_draws t tables Poll = omega arith
verdict_draws t tables (Make ch) = omega (arith, made_one ch)

trial_draws : (t : Trial) (c : List ℕ) → IfSome (trial_of t c) (Low t)
unfolding trial_of trial_judged
trial_draws t c = cond_elim (λ (v : Option Trial). IfSome v (Low t)) (not (sound c)) tt (verdict_draws t _ _)

pub next_drawn : (t x : Trial) (c : List ℕ) (i : ℕ) → Some x ≡ trial_of t c → t.next ≤ 256 + i → x.next ≤ 256 + (i + 1)
unfolding Low
next_drawn t x c i e h =
    let low : Low t x = subst (λ (v : Option Trial). IfSome v (Low t)) (sym e) (trial_draws t c) in
    omega (arith, low, h)

module _ (p : List ℕ) (wanted : ℕ) (t : Trial) (i : ℕ) (o : List ℕ) where
  pub at_the_end : length o ≤ i → eqb t.held.state wanted ≡ reaches p wanted t (drop i o)
  unfolding reaches reaches_from
  at_the_end h = ap (reaches p wanted t) (sym (drop_of_length-le o {i = i} h))

  module _ (h : i < length o) (c : List ℕ) (q : c ≡ packet_at (get_or o i 0 - 1) p) (v : Option Trial) (e : v ≡ trial_of t c) where
    walked : reaches_from p wanted v (drop (i + 1) o) ≡ reaches p wanted t (drop i o)
    unfolding reaches reaches_from packet_of
    walked = ap (λ (y : Option Trial). reaches_from p wanted y (drop (i + 1) o)) (e ∙ ap (trial_of t) q) ∙ ap (reaches p wanted t) (sym (from_here i o h))

    pub one_fails : v ≡ None → false ≡ reaches p wanted t (drop i o)
    unfolding reaches_from
    one_fails z = ap (λ (y : Option Trial). reaches_from p wanted y (drop (i + 1) o)) (sym z) ∙ walked

    pub one_succeeds : (x : Trial) → v ≡ Some x → reaches p wanted x (drop (i + 1) o) ≡ reaches p wanted t (drop i o)
    unfolding reaches
    one_succeeds x z = ap (λ (y : Option Trial). reaches_from p wanted y (drop (i + 1) o)) (sym z) ∙ walked
