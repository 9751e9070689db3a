-- What `carry` gives back, from what it calls. Assumes nothing.
use Rattle.std.specs.Prelude.{Option, Some, None}
use Prim.Native.Nat.{ℕ, ◌+◌, ◌-◌, ◌≤◌}
use mathlib.Core.Bool.{Bool, true, false, cond}
use mathlib.Core.Path.{◌≡◌, refl, sym, ap, subst, ◌∙◌}
use mathlib.Core.List.{List}
use native.Mathlib.Omega.{arith}
use borrow.Author.Tests.{ltb-false}
use lib.Dec.{ltb, eqb}
use lib.ListN.{length, replicate}
use Rattle.wire.proofs.laws.Cases.{cond_elim}
use Rattle.record.specs.declared.Log.{Log}
use Rattle.change.specs.Change.{made_by, put_after, takes_back, timer_after}
use Rattle.change.specs.declared.Change.{Change}
use Rattle.change.specs.declared.Change.TheVariants.{Clear, Unclear, SetState, SetRole, SetCaps, SetUser, SetThermal, SetThrottles, Reset, Unreset, SetMask, SetDeadman, SetAreas, SetTimer}
use Rattle.change.specs.declared.Edit.{Edit}
use Rattle.journal.specs.Add.{entry_len, end_of, added_to}
use Rattle.session.specs.declared.Session.{Session}
use Rattle.session.specs.Session.{Carried, made_of, renewed, with_timer, carried_to, carried_of}

made_by_one : (log : Log) → made_by log ≤ 1
unfolding made_by
made_by_one log = cond_elim (λ (n : ℕ). n ≤ 1) (eqb log.id 0) (omega arith) (omega arith)

-- a change makes one log at most
pub made_one : (ch : Change) → made_of ch ≤ 1
unfolding made_of
made_one (Clear place log) = omega arith
made_one (Unclear place log) = omega arith
made_one (SetState state) = omega arith
made_one (SetRole got role) = omega arith
made_one (SetCaps got caps) = omega arith
made_one (SetUser user) = omega arith
made_one (SetThermal got) = omega arith
made_one (SetThrottles got) = omega arith
made_one (Reset log) = made_by_one log
made_one (Unreset state made) = omega arith
made_one (SetMask mask) = omega arith
made_one (SetDeadman deadman) = omega arith
made_one (SetAreas areas) = omega arith
made_one (SetTimer timer) = omega arith

pub made_fits : (n m : ℕ) (ch : Change) → m ≡ made_of ch → n ≤ 256 → n + m ≤ 257
made_fits n m ch e h = omega (arith, e, made_one ch)

-- the end of an added entry lies within the journal
Within : ℕ → Option ℕ → Type 0
Within n (Some m) = m ≤ n
Within n None = Unit {0}

end_within : (n used : ℕ) (e : Edit) → Within n (end_of n used e)
unfolding Within end_of
end_within n used e = go (ltb n used) (ltb (n - used) (entry_len e)) refl refl
  where
    go : (a b : Bool) → ltb n used ≡ a → ltb (n - used) (entry_len e) ≡ b → Within n (cond a None (cond b None (Some (used + entry_len e))))
    go true b p q = tt
    go false true p q = tt
    go false false p q = omega (arith, ltb-false n used p, ltb-false (n - used) (entry_len e) q)

pub end_fits : (n used m : ℕ) (e : Edit) (x : Option ℕ) → x ≡ end_of n used e → x ≡ Some m → m ≤ n
unfolding Within
end_fits n used m e x p q = subst (Within n) (sym p ∙ q) (end_within n used e)

module _ (s : Session) (e back : Edit) (end : Option ℕ) (made : end ≡ end_of (length s.journal) s.used back) (is : back ≡ takes_back s.held s.timer e) where
  carried_end : end ≡ end_of (length s.journal) s.used (takes_back s.held s.timer e)
  carried_end = made ∙ ap (end_of (length s.journal) s.used) is

  pub carried_full : end ≡ None → ◌≡◌ {A = Carried} (record { full = true; session = s }) (carried_of s e)
  unfolding carried_of carried_to
  carried_full f = ap (carried_to s e) (sym f ∙ carried_end)

  pub carried_at : (used : ℕ) (j : List ℕ) → end ≡ Some used → j ≡ added_to s.used back s.journal
      → ◌≡◌ {A = Carried}
      (record { full = false; session = renewed (with_timer s (timer_after s.timer e.change)) (put_after s.held e) (s.next + made_of e.change) j used (replicate 2048 0) 0 })
      (carried_of s e)
  unfolding carried_of carried_to
  carried_at used j f jp =
      let jq = jp ∙ ap (λ (b : Edit). added_to s.used b s.journal) is in
      (λ i. record { full = false; session = renewed (with_timer s (timer_after s.timer e.change)) (put_after s.held e) (s.next + made_of e.change) (jq i) used (replicate 2048 0) 0 })
      ∙ ap (carried_to s e) (sym f ∙ carried_end)
