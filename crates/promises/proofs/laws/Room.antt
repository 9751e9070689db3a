-- The room that an entry has: what answer 5's test shows of it. Assumes nothing.
use Rattle.std.specs.Prelude.{ℕ, ◌+◌, ◌-◌, ◌≤◌, ◌<◌, Bool, true, false, cond, ◌≡◌, refl, ltb, length, Some, None}
use Rattle.std.proofs.lemmas.Bool.{false≢true}
use Rattle.std.proofs.Common.{true≢false, ◌∙◌, arith, ltb-true, ltb-false}
use Rattle.std.proofs.Math.Path.{ap}
use Rattle.change.specs.Change.{kind_of, back_of, inverse_of, timed, takes_back}
use Rattle.change.specs.declared.Edit.{Edit}
use Rattle.entries.specs.Entries.{body_len}
use Rattle.journal.specs.Add.{entry_len, end_of}
use Rattle.session.specs.Session.{renewed, with_timer, carried_to, carried_of}
use Rattle.session.specs.declared.Session.{Session}
use Rattle.change.proofs.laws.Timed.{kind_of_back, timed_kind}
use Rattle.promises.specs.Demand1.{NoRoom}
use Rattle.promises.specs.Demand2.{HasRoom}

-- an entry that isn't refused has room
pub end_room : (s : Session) (e b : Edit) (n used : ℕ) → (carried_to s e (end_of n used b)).full ≡ false → used + entry_len b ≤ n
unfolding end_of carried_to
end_room s e b n used f = go (ltb n used) (ltb (n - used) (entry_len b)) refl refl f
  where
    go : (x y : Bool) → ltb n used ≡ x → ltb (n - used) (entry_len b) ≡ y → (carried_to s e (cond x None (cond y None (Some (used + entry_len b))))).full ≡ false → used + entry_len b ≤ n
    go true y p q f = absurd (true≢false f)
    go false true p q f = absurd (true≢false f)
    go false false p q f = omega (arith, ltb-false n used p, ltb-false (n - used) (entry_len b) q)

-- one that is refused has none
end_full : (s : Session) (e b : Edit) (n used : ℕ) → (carried_to s e (end_of n used b)).full ≡ true → n < used + entry_len b
unfolding end_of carried_to
end_full s e b n used f = go (ltb n used) (ltb (n - used) (entry_len b)) refl refl f
  where
    go : (x y : Bool) → ltb n used ≡ x → ltb (n - used) (entry_len b) ≡ y → (carried_to s e (cond x None (cond y None (Some (used + entry_len b))))).full ≡ true → n < used + entry_len b
    go true y p q f = omega (arith, ltb-true n used p)
    go false true p q f = omega (arith, ltb-true (n - used) (entry_len b) q)
    go false false p q f = absurd (false≢true f)

-- one that isn't makes the used journal longer
end_longer : (s : Session) (e b : Edit) (n : ℕ) → (carried_to s e (end_of n s.used b)).full ≡ false → s.used < (carried_to s e (end_of n s.used b)).session.used
unfolding end_of carried_to renewed with_timer
end_longer s e b n f = go (ltb n s.used) (ltb (n - s.used) (entry_len b)) f
  where
    go : (x y : Bool) → (carried_to s e (cond x None (cond y None (Some (s.used + entry_len b))))).full ≡ false
        → s.used < (carried_to s e (cond x None (cond y None (Some (s.used + entry_len b))))).session.used
    go true y f = absurd (true≢false f)
    go false true f = absurd (true≢false f)
    go false false f = omega arith

pub carried_longer : (s : Session) (e : Edit) → (carried_of s e).full ≡ false → s.used < (carried_of s e).session.used
unfolding carried_of
carried_longer s e f = end_longer s e (takes_back s.held s.timer e) (length s.journal) f

module _ (s : Session) (long : length s.journal ≡ 2048) (e : Edit) (kind : ℕ) (is : kind_of e.change ≡ kind) where
  entry_long : entry_len (takes_back s.held s.timer e) ≡ body_len kind + 1
  unfolding inverse_of timed takes_back
  entry_long = ap (λ (k : ℕ). body_len k + 1) (timed_kind s.timer (back_of s.held e.change) ∙ kind_of_back s.held e.change ∙ is)

  pub has_room : (carried_of s e).full ≡ false → HasRoom s kind
  unfolding carried_of
  has_room f = omega (arith, end_room s e (takes_back s.held s.timer e) (length s.journal) s.used f, entry_long, long)

  pub has_none : (carried_of s e).full ≡ true → NoRoom s kind
  unfolding carried_of
  has_none f = omega (arith, end_full s e (takes_back s.held s.timer e) (length s.journal) s.used f, entry_long, long)
