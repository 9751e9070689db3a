-- The order of strokes, and what one stroke more or one less does to the changes left and to those that can be redone. Assumes nothing.
use Prim.Native.Nat.{ℕ, suc, ◌<◌, ◌≤◌}
use Rattle.std.specs.Prelude.{cond, ◌⊎◌, eqb, ltb}
use Rattle.std.proofs.Common.{inl, inr, ◌∙◌}
use Rattle.std.proofs.Math.Logic.{⊎_elim}
use Rattle.std.proofs.Math.Path.{◌≡◌, refl, sym, ap}
use mathlib.Core.List.{List, [], ◌∷◌}
use native.Mathlib.Omega.{arith}
use borrow.Author.Tests.{eqb-true, eqb-false, ltb-true, ltb-false}
use Rattle.wire.proofs.laws.Cases.{if_lt, else_lt, if_eq, else_eq, cond_elim, cond_cases}
use Rattle.record.specs.declared.Timer.{Timer}
use Rattle.change.specs.Change.{timed}
use Rattle.change.specs.declared.Edit.{Edit}
use Rattle.promises.specs.Marks.{Mark, strike, latest, unstrike, struck_by, left}

-- the changes struck after undo number since, the last struck first, in front of those collected so far
unfoldable pub off : ℕ → List Mark → List Edit → List Edit
off since [] acc = acc
off since (m ∷ ms) acc = off since ms (cond (ltb since m.stroke) (m.edit ∷ acc) acc)

-- ---- what holds of every stroke

abbrev pub Every : (ℕ → Type 0) → List Mark → Type 0
Every P [] = Unit {0}
Every P (m ∷ ms) = P m.stroke × Every P ms

pub every_map : (P Q : ℕ → Type 0) → ((k : ℕ) → P k → Q k) → (ms : List Mark) → Every P ms → Every Q ms
every_map P Q f [] a = a
every_map P Q f (m ∷ ms) a = (f m.stroke a.0, every_map P Q f ms a.1)

pub every_strike : (t : Timer) (P : ℕ → Type 0) (n : ℕ) → P n → (ms : List Mark) → Every P ms → Every P (strike t n ms)
unfolding strike
every_strike t P n p [] a = a
every_strike t P n p (m ∷ ms) a = cond_elim (Every P) (eqb m.stroke 0) (p, a.1) (a.0, every_strike t P n p ms a.1)

pub every_unstrike : (t : Timer) (P : ℕ → Type 0) (n : ℕ) → P 0 → (ms : List Mark) → Every P ms → Every P (unstrike t n ms)
unfolding unstrike
every_unstrike t P n p [] a = a
every_unstrike t P n p (m ∷ ms) a = cond_elim (Every P) (eqb m.stroke n) (p, a.1) (a.0, every_unstrike t P n p ms a.1)

-- ---- the latest stroke

pub below_latest : (n : ℕ) (ms : List Mark) → latest ms ≤ n → Every (λ k. k ≤ n) ms
unfolding latest
below_latest n [] = λ h. tt
below_latest n (m ∷ ms) =
    cond_cases (λ (x : ℕ). x ≤ n → Every (λ k. k ≤ n) (m ∷ ms)) (ltb (latest ms) m.stroke)
    (λ t h. (h, below_latest n ms (omega (arith, ltb-true (latest ms) m.stroke t)))) (λ t h. (omega (arith, ltb-false (latest ms) m.stroke t), below_latest n ms h))

at_latest : (P : ℕ → Type 0) (ms : List Mark) → 1 ≤ latest ms → Every P ms → P (latest ms)
unfolding latest
at_latest P [] h a = absurd (omega (arith, h))
at_latest P (m ∷ ms) h a = cond_cases (λ (x : ℕ). 1 ≤ x → P x) (ltb (latest ms) m.stroke) (λ t q. a.0) (λ t q. at_latest P ms q a.1) h

latest_below : (n : ℕ) (m : Mark) (ms : List Mark) → (m.stroke ≡ n → ⊥) → latest (m ∷ ms) ≡ n → latest ms ≡ n
unfolding latest
latest_below n m ms z = cond_cases (λ (x : ℕ). x ≡ n → latest ms ≡ n) (ltb (latest ms) m.stroke) (λ t q. absurd (z q)) (λ t q. q)

-- ---- the newest change

pub left_live : (m : Mark) (ms : List Mark) → m.stroke ≡ 0 → left (m ∷ ms) ≡ m.edit ∷ left ms
unfolding left
left_live m ms e = sym (if_eq _ _ e refl)

pub left_struck : (m : Mark) (ms : List Mark) → 1 ≤ m.stroke → left (m ∷ ms) ≡ left ms
unfolding left
left_struck m ms h = sym (else_eq _ _ {m = m.stroke} {n = 0} (λ z. omega (arith, h, z)) refl)

module _ (since : ℕ) where
  off_open : (m : Mark) (ms : List Mark) → since < m.stroke → (acc : List Edit) → off since (m ∷ ms) acc ≡ off since ms (m.edit ∷ acc)
  unfolding off
  off_open m ms h acc = ap (off since ms) (sym (if_lt (m.edit ∷ acc) acc h refl))

  -- none was struck since
  abbrev pub Old : List Mark → Type 0
  Old = Every (λ k. k ≤ since)

  pub off_old : (ms : List Mark) → Old ms → (acc : List Edit) → off since ms acc ≡ acc
  unfolding off
  off_old [] a acc = refl
  off_old (m ∷ ms) a acc = off_old ms a.1 _ ∙ sym (else_lt (m.edit ∷ acc) acc a.0 refl)

  -- ---- the order of strokes

  -- s a newer change's stroke, k an older one's: the older one was not struck since, or the newer one was struck before it
  abbrev pub Before : ℕ → ℕ → Type 0
  Before s k = (k ≤ since) ⊎ ((1 ≤ s) × (s < k))

  abbrev pub Lined : List Mark → Type 0
  Lined [] = Unit {0}
  Lined (m ∷ ms) = Every (Before m.stroke) ms × Lined ms

  pub lined_front : (m : Mark) (ms : List Mark) → Old ms → Lined (m ∷ ms)
  lined_front m [] a = (tt, tt)
  lined_front m (x ∷ ms) a = (every_map (λ k. k ≤ since) (Before m.stroke) (λ k p. inl p) (x ∷ ms) a, lined_front x ms a.1)

  -- below a change that is left, or has the latest stroke, none was struck since
  old_below : (n s : ℕ) → (1 ≤ s → n ≤ s) → (ms : List Mark) → Every (λ k. k ≤ n) ms → Every (Before s) ms → Old ms
  old_below n s f [] a b = tt
  old_below n s f (m ∷ ms) a b = (⊎_elim (λ h. h) (λ h. absurd (omega (arith, a.0, h.1, f h.0))) b.0, old_below n s f ms a.1 b.1)

  -- ---- one change is left here, and there it was struck last, by undo n: an undo goes from here to there, a redo from there to here. The timer that a timer change
  -- holds is another one then, as R says

  pub record Struck (R : Edit → Edit → Type 0) (n : ℕ) (here there : List Mark) : Type 0 where
    pub live : Edit
    pub gone : Edit
    pub so : R live gone
    pub left_is : left here ≡ live ∷ left there
    pub off_is : (acc : List Edit) → off since there acc ≡ gone ∷ off since here acc
    pub picked : struck_by n there ≡ gone ∷ []
    pub lined : Lined here × Lined there

  module _ (R : Edit → Edit → Type 0) (n : ℕ) where
    struck_first : (a b : Mark) (ms : List Mark) → R a.edit b.edit → a.stroke ≡ 0 → b.stroke ≡ n → since < n → Old ms → Struck R n (a ∷ ms) (b ∷ ms)
    unfolding struck_by
    struck_first a b ms so z is h old =
        record {
          live = a.edit;
          gone = b.edit;
          so = so;
          left_is = left_live a ms z ∙ ap (λ (l : List Edit). a.edit ∷ l) (sym (left_struck b ms (omega (arith, is, h))));
          off_is = λ acc. off_open b ms (omega (arith, is, h)) acc ∙ off_old ms old (b.edit ∷ acc) ∙ ap (λ (l : List Edit). b.edit ∷ l) (sym (off_old (a ∷ ms) (omega arith, old) acc));
          picked = sym (if_eq _ _ is refl);
          lined = (lined_front a ms old, lined_front b ms old);
        }

    struck_below : (m : Mark) (here there : List Mark) → 1 ≤ m.stroke → (m.stroke ≡ n → ⊥) → Every (Before m.stroke) here → Every (Before m.stroke) there → Struck R n here there
        → Struck R n (m ∷ here) (m ∷ there)
    unfolding off struck_by
    struck_below m here there h other p q w =
        record {
          live = w.live;
          gone = w.gone;
          so = w.so;
          left_is = left_struck m here h ∙ w.left_is ∙ ap (λ (l : List Edit). w.live ∷ l) (sym (left_struck m there h));
          off_is = λ acc. w.off_is (cond (ltb since m.stroke) (m.edit ∷ acc) acc);
          picked = sym (else_eq _ _ other (sym w.picked));
          lined = ((p, w.lined.0), (q, w.lined.1));
        }

  module _ (t : Timer) where
    abbrev pub Undone : Edit → Edit → Type 0
    Undone live gone = gone ≡ timed t live

    abbrev pub Redone : Edit → Edit → Type 0
    Redone live gone = live ≡ timed t gone

    pub undone : (u : ℕ) → since ≤ u → (ms : List Mark) → Every (λ k. k ≤ u) ms → Lined ms → (e : Edit) (es : List Edit) → left ms ≡ e ∷ es → Struck Undone (suc u) ms (strike t (suc u) ms)
    unfolding strike left
    undone u h [] a l e es q = let z : ◌≡◌ {A = ℕ} 0 1 = cc in absurd (omega arith)
    undone u h (m ∷ ms) a l e es q =
        cond_cases (Struck Undone (suc u) (m ∷ ms)) (eqb m.stroke 0)
        (λ f. let z : m.stroke ≡ 0 = eqb-true _ 0 f in
        struck_first Undone (suc u) m (record { edit = timed t m.edit; stroke = suc u }) ms refl z refl (omega arith) (old_below u m.stroke (λ s. absurd (omega arith)) ms a.1 l.0))
        (λ f. let s : 1 ≤ m.stroke = omega (arith, eqb-false m.stroke 0 f) in
        struck_below Undone (suc u) m ms (strike t (suc u) ms) s (λ z. omega (arith, z, a.0)) l.0 (every_strike t (Before m.stroke) (suc u) (inr (s, omega (arith, a.0))) ms l.0)
        (undone u h ms a.1 l.1 e es (sym (left_struck m ms s) ∙ q)))

    pub redone : (n : ℕ) → since < n → (ms : List Mark) → latest ms ≡ n → Lined ms → Struck Redone n (unstrike t n ms) ms
    unfolding unstrike latest
    redone n h [] e l = absurd (omega arith)
    redone n h (m ∷ ms) e l =
        cond_cases (λ (x : List Mark). Struck Redone n x (m ∷ ms)) (eqb m.stroke n)
        (λ f. let s : m.stroke ≡ n = eqb-true _ n f in
        struck_first Redone n (record { edit = timed t m.edit; stroke = 0 }) m ms refl refl s h
        (old_below n m.stroke (λ z. omega arith) ms (below_latest n (m ∷ ms) (omega (arith, e))).1 l.0))
        (λ f. let r : latest ms ≡ n = latest_below n m ms (eqb-false _ n f) e in
        let s : 1 ≤ m.stroke = ⊎_elim (λ b. absurd (omega arith)) (λ b. b.0) (at_latest (Before m.stroke) ms (omega arith) l.0) in
        struck_below Redone n m (unstrike t n ms) ms s (eqb-false _ n f) (every_unstrike t (Before m.stroke) n (inl (omega arith)) ms l.0) l.0 (redone n h ms r l.1))
