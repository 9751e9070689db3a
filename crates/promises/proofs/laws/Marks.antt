-- Marks and strokes: what is left, and what can be redone, after a change, an accepted undo, an accepted redo. Assumes nothing.
use Rattle.std.specs.Prelude.{ℕ, suc, ◌+◌, ◌≤◌, ◌≡◌, eqb, ltb}
use Rattle.std.proofs.Math.Bool.{cond}
use Rattle.std.proofs.Math.Path.{refl, sym, ap}
use Rattle.std.proofs.Common.{◌∙◌, arith, eqb-true, ltb-true, ltb-false}
use mathlib.Core.List.{List, [], ◌∷◌}
use Rattle.std.proofs.lemmas.Bool.{eqb-false}
use Rattle.wire.proofs.laws.Cases.{cond_elim, cond_cases}
use Rattle.record.specs.Record.{timer_off}
use Rattle.record.specs.declared.Timer.{Timer}
use Rattle.change.specs.Change.{timed}
use Rattle.change.specs.declared.Edit.{Edit}
use Rattle.session.specs.Session.{made_of}
use Rattle.promises.specs.Ids.{id_of, ids_made}
use Rattle.promises.specs.Marks.{Mark, strike, latest, unstrike, struck_by, left, logs_made, redo_answer}
use Rattle.promises.proofs.laws.Struck.{off, off_old, Every, every_map, every_strike, every_unstrike, below_latest, left_live, left_struck, Lined, lined_front, Struck, Undone, Redone, undone, redone}
use Rattle.promises.proofs.laws.Timed.{timed_made, timed_id}

-- the answer to a redo, by what can be redone
abbrev pub answer_of : List Edit → ℕ
answer_of [] = 8
answer_of (e ∷ es) = 0

abbrev pub tail : List Edit → List Edit
tail [] = []
tail (e ∷ es) = es

pub left_strike : (t : Timer) (n : ℕ) → 1 ≤ n → (ms : List Mark) → left (strike t n ms) ≡ tail (left ms)
unfolding strike left
left_strike t n h [] = refl
left_strike t n h (m ∷ ms) =
    cond_cases (λ (l : List Mark). left l ≡ tail (left (m ∷ ms))) (eqb m.stroke 0)
    (λ f. left_struck (record { edit = timed t m.edit; stroke = n }) ms h ∙ ap tail (sym (left_live m ms (eqb-true _ 0 f))))
    (λ f. let s : 1 ≤ m.stroke = omega (arith, eqb-false m.stroke 0 f) in
    left_struck m (strike t n ms) s ∙ left_strike t n h ms ∙ ap tail (sym (left_struck m ms s)))

-- ---- after any calls: undos were accepted so far, since of them before the last change

pub record Strokes (undos since : ℕ) (ms : List Mark) : Type 0 where
  pub counted : since ≤ undos
  pub given : Every (λ k. k ≤ undos) ms
  pub lined : Lined since ms

pub strokes_start : Strokes 0 0 []
strokes_start = record { counted = omega arith; given = tt; lined = tt }

pub left_change : (e : Edit) (ms : List Mark) → left (record { edit = e; stroke = 0 } ∷ ms) ≡ e ∷ left ms
left_change e ms = left_live (record { edit = e; stroke = 0 }) ms refl

first_same : {a b : Edit} {xs ys : List Edit} → ◌≡◌ {A = List Edit} (a ∷ xs) (b ∷ ys) → a ≡ b
first_same h = cc

rest_same : {a b : Edit} {xs ys : List Edit} → ◌≡◌ {A = List Edit} (a ∷ xs) (b ∷ ys) → xs ≡ ys
rest_same h = cc

module _ {undos since : ℕ} {ms : List Mark} (v : Strokes undos since ms) where
  -- an accepted change
  pub strokes_change : (e : Edit) → Strokes undos undos (record { edit = e; stroke = 0 } ∷ ms)
  strokes_change e = record { counted = omega arith; given = (omega arith, v.given); lined = lined_front undos (record { edit = e; stroke = 0 }) ms v.given }

  pub off_change : (e : Edit) → off undos (record { edit = e; stroke = 0 } ∷ ms) [] ≡ []
  off_change e = off_old undos (record { edit = e; stroke = 0 } ∷ ms) (omega arith, v.given) []

  -- an accepted undo, when the timer stands at t
  module _ (t : Timer) {e : Edit} {es : List Edit} (q : left ms ≡ e ∷ es) where
    struck : Struck since (Undone since t) (suc undos) ms (strike t (suc undos) ms)
    struck = undone since t undos v.counted ms v.given v.lined e es q

    pub strokes_undo : Strokes (suc undos) since (strike t (suc undos) ms)
    strokes_undo =
        let given : Every (λ k. k ≤ suc undos) ms = every_map (λ k. k ≤ undos) (λ k. k ≤ suc undos) (λ k p. omega arith) ms v.given in
        record { counted = omega arith; given = every_strike t (λ k. k ≤ suc undos) (suc undos) (omega arith) ms given; lined = struck.lined.1 }

    live_is : struck.live ≡ e
    live_is = first_same (sym struck.left_is ∙ q)

    pub left_undo : left (strike t (suc undos) ms) ≡ es
    left_undo = rest_same (sym struck.left_is ∙ q)

    pub off_undo : off since (strike t (suc undos) ms) [] ≡ timed t e ∷ off since ms []
    off_undo = struck.off_is [] ∙ ap (λ (x : Edit). x ∷ off since ms []) (struck.so ∙ ap (timed t) live_is)

  -- redo is accepted exactly while something can be redone
  pub redo_answer_lem : redo_answer since ms ≡ answer_of (off since ms [])
  unfolding redo_answer
  redo_answer_lem =
      cond_cases (λ (a : ℕ). a ≡ answer_of (off since ms [])) (ltb since (latest ms))
      (λ f. sym (ap answer_of ((redone since timer_off (latest ms) (ltb-true since (latest ms) f) ms refl v.lined).off_is [])))
      (λ f. sym (ap answer_of (off_old since ms (below_latest since ms (ltb-false since (latest ms) f)) [])))

  -- an accepted redo, when the timer stands at t
  module _ (t : Timer) {r : Edit} {rs : List Edit} (q : off since ms [] ≡ r ∷ rs) where
    unstruck : Struck since (Redone since t) (latest ms) (unstrike t (latest ms) ms) ms
    unfolding redo_answer
    unstruck =
        cond_cases (λ (a : ℕ). a ≡ 0 → Struck since (Redone since t) (latest ms) (unstrike t (latest ms) ms) ms) (ltb since (latest ms))
        (λ f z. redone since t (latest ms) (ltb-true since (latest ms) f) ms refl v.lined) (λ f z. absurd (omega (arith, z))) (redo_answer_lem ∙ ap answer_of q)

    gone_is : unstruck.gone ≡ r
    gone_is = first_same (sym (unstruck.off_is []) ∙ q)

    -- the change last struck is the one that can be redone first
    pub last_struck : struck_by (latest ms) ms ≡ r ∷ []
    last_struck = unstruck.picked ∙ ap (λ (x : Edit). x ∷ []) gone_is

    pub strokes_redo : Strokes undos since (unstrike t (latest ms) ms)
    strokes_redo =
        record { counted = v.counted; given = every_unstrike t (λ k. k ≤ undos) (latest ms) (omega arith) ms v.given; lined = unstruck.lined.0 }

    pub left_redo : left (unstrike t (latest ms) ms) ≡ timed t r ∷ left ms
    left_redo = unstruck.left_is ∙ ap (λ (x : Edit). x ∷ left ms) (unstruck.so ∙ ap (timed t) gone_is)

    pub off_redo : off since (unstrike t (latest ms) ms) [] ≡ rs
    off_redo = rest_same (sym (unstruck.off_is []) ∙ q)

-- ---- striking out and putting back change no log and no id

module _ (t : Timer) where
  abbrev retimed : Mark → ℕ → Mark
  retimed m n = record { edit = timed t m.edit; stroke = n }

  logs_retimed : (m : Mark) (n : ℕ) (ms : List Mark) → logs_made (retimed m n ∷ ms) ≡ logs_made (m ∷ ms)
  unfolding logs_made timed
  logs_retimed m n ms = ap (λ (k : ℕ). logs_made ms + k) (timed_made t m.edit.change)

  ids_retimed : (m : Mark) (n : ℕ) (ms : List Mark) → ids_made (retimed m n ∷ ms) ≡ ids_made (m ∷ ms)
  unfolding ids_made timed
  ids_retimed m n ms = ap (λ (k : ℕ). cond (eqb k 0) (ids_made ms) (k ∷ ids_made ms)) (timed_id t m.edit.change)

  pub logs_more : (e : Edit) (ms : List Mark) → logs_made (record { edit = timed t e; stroke = 0 } ∷ ms) ≡ logs_made ms + made_of e.change
  unfolding logs_made
  logs_more e ms = logs_retimed (record { edit = e; stroke = 0 }) 0 ms

  pub logs_strike : (n : ℕ) (ms : List Mark) → logs_made (strike t n ms) ≡ logs_made ms
  unfolding logs_made strike
  logs_strike n [] = refl
  logs_strike n (m ∷ ms) =
      cond_elim (λ (l : List Mark). logs_made l ≡ logs_made (m ∷ ms)) (eqb m.stroke 0) (logs_retimed m n ms) (ap (λ (k : ℕ). k + made_of m.edit.change) (logs_strike n ms))

  pub logs_unstrike : (n : ℕ) (ms : List Mark) → logs_made (unstrike t n ms) ≡ logs_made ms
  unfolding logs_made unstrike
  logs_unstrike n [] = refl
  logs_unstrike n (m ∷ ms) =
      cond_elim (λ (l : List Mark). logs_made l ≡ logs_made (m ∷ ms)) (eqb m.stroke n) (logs_retimed m 0 ms) (ap (λ (k : ℕ). k + made_of m.edit.change) (logs_unstrike n ms))

  pub ids_strike : (n : ℕ) (ms : List Mark) → ids_made (strike t n ms) ≡ ids_made ms
  unfolding ids_made strike
  ids_strike n [] = refl
  ids_strike n (m ∷ ms) =
      cond_elim (λ (l : List Mark). ids_made l ≡ ids_made (m ∷ ms)) (eqb m.stroke 0) (ids_retimed m n ms)
      (ap (λ (l : List ℕ). cond (eqb (id_of m.edit.change) 0) l (id_of m.edit.change ∷ l)) (ids_strike n ms))

  pub ids_unstrike : (n : ℕ) (ms : List Mark) → ids_made (unstrike t n ms) ≡ ids_made ms
  unfolding ids_made unstrike
  ids_unstrike n [] = refl
  ids_unstrike n (m ∷ ms) =
      cond_elim (λ (l : List Mark). ids_made l ≡ ids_made (m ∷ ms)) (eqb m.stroke n) (ids_retimed m 0 ms)
      (ap (λ (l : List ℕ). cond (eqb (id_of m.edit.change) 0) l (id_of m.edit.change ∷ l)) (ids_unstrike n ms))
