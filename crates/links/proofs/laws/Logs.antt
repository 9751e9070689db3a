-- Pending logs: a log taken out and put in again, and one put last and taken out again, leave the four places as they were. Assumes nothing.
use Rattle.std.specs.Prelude.{ℕ, zero, suc, ◌-◌, ◌≤◌, ◌<◌, Bool, true, false, cond, ◌≡◌, ltb, eqb, take, drop}
use Rattle.std.proofs.Math.Path.{refl, sym, ap}
use Rattle.std.proofs.Common.{◌∙◌, not-suc-le-zero, le_of_suc-le-suc, eqb-true, ltb-false, length-append, length-take}
use mathlib.Core.List.{List, [], ◌∷◌, ◌++◌}
use native.Mathlib.Omega.{arith}
use Rattle.std.proofs.lemmas.Bool.{eqb-false}
use Rattle.std.proofs.Math.ListN.{length, get_or}
use Rattle.std.proofs.Math.Seq.{take-append_seam}
use Rattle.wire.proofs.laws.Chains.{passed}
use Rattle.wire.proofs.laws.Cases.{if_lt, if_eq, else_eq, cond_elim}
use Rattle.record.specs.Record.{no_log}
use Rattle.record.specs.declared.Log.{Log}
use Rattle.change.specs.Logs.{pending_of, remove_at, insert_at, pends_at}
use Rattle.change.specs.Change.{last_of}
use Rattle.formed.specs.Formed.{unused, logs_ok}
use Rattle.formed.proofs.laws.Formed.{both_hold, logs_used}

-- ---- in a list of any length: a place taken out, and a log put in

abbrev out : ℕ → List Log → List Log
out p l = take p l ++ (drop (suc p) l ++ (no_log ∷ []))

abbrev into : ℕ → ℕ → Log → List Log → List Log
into n p x l = take n (take p l ++ (x ∷ drop p l))

length_out : (p : ℕ) (l : List Log) → p < length l → length (out p l) ≡ length l
length_out p [] h = absurd (not-suc-le-zero h)
length_out zero (y ∷ l) h = length-append l (no_log ∷ []) ∙ omega arith
length_out (suc p) (y ∷ l) h = ap suc (length_out p l (le_of_suc-le-suc h))

length_into : (p : ℕ) (x : Log) (l : List Log) → p < length l → length (into (length l) p x l) ≡ length l
length_into p x [] h = absurd (not-suc-le-zero h)
length_into zero x (y ∷ l) h = simp length-take (omega arith)
length_into (suc p) x (y ∷ l) h = ap suc (length_into p x l (le_of_suc-le-suc h))

-- what was taken out goes in again
out_into : (p : ℕ) (l : List Log) → p < length l → into (length l) p (get_or l p no_log) (out p l) ≡ l
out_into p [] h = absurd (not-suc-le-zero h)
out_into zero (y ∷ l) h = ap (λ (k : List Log). y ∷ k) (take-append_seam l (no_log ∷ []))
out_into (suc p) (y ∷ l) h = ap (λ (k : List Log). y ∷ k) (out_into p l (le_of_suc-le-suc h))

pub unused_parts : (x : Log) (l : List Log) → unused (x ∷ l) ≡ true → (x ≡ no_log) × (unused l ≡ true)
unfolding unused
unused_parts x l h =
    let p = both_hold (eqb x.id 0) _ h in
    let q = both_hold (eqb x.reason 0) _ p.1 in
    let i = eqb-true x.id 0 p.0 in
    let w = eqb-true x.reason 0 q.0 in
    ((λ k. record { id = i k; reason = w k }), q.1)

-- of unused places, the first or the last is the same
unused_last : (x : Log) (l : List Log) → unused (x ∷ l) ≡ true → take (length l) (x ∷ l) ++ (no_log ∷ []) ≡ x ∷ l
unused_last x [] u = ap (λ (y : Log). y ∷ []) (sym (unused_parts x [] u).0)
unused_last x (y ∷ l) u = ap (λ (k : List Log). x ∷ k) (unused_last y l (unused_parts x (y ∷ l) u).1)

-- what was put in at the first unused place is taken out again
into_out : (p : ℕ) (x : Log) (l : List Log) → p < length l → unused (drop p l) ≡ true → out p (into (length l) p x l) ≡ l
into_out p x [] h u = absurd (not-suc-le-zero h)
into_out zero x (y ∷ l) h u = unused_last y l u
into_out (suc p) x (y ∷ l) h u = ap (λ (k : List Log). y ∷ k) (into_out p x l (le_of_suc-le-suc h) u)

-- and stands at its place
into_there : (p : ℕ) (x : Log) (l : List Log) → p < length l → get_or (into (length l) p x l) p no_log ≡ x
into_there p x [] h = absurd (not-suc-le-zero h)
into_there zero x (y ∷ l) h = refl
into_there (suc p) x (y ∷ l) h = into_there p x l (le_of_suc-le-suc h)

-- ---- how many pend

abbrev pub Used : Log → Type 0
Used x = x.id ≡ 0 → ⊥

pending_used : (x : Log) (l : List Log) → Used x → pending_of (x ∷ l) ≡ suc (pending_of l)
unfolding pending_of
pending_used x l u = sym (else_eq 0 (suc (pending_of l)) u refl)

pending_unused : (x : Log) (l : List Log) → x.id ≡ 0 → pending_of (x ∷ l) ≡ 0
unfolding pending_of
pending_unused x l u = sym (if_eq 0 (suc (pending_of l)) u refl)

pending_first : (p : ℕ) (x : Log) (l : List Log) → p < pending_of (x ∷ l) → Used x
pending_first p x l h u = omega (arith, pending_unused x l u)

pub pending_length : (l : List Log) → pending_of l ≤ length l
unfolding pending_of
pending_length [] = omega arith
pending_length (x ∷ l) = cond_elim (λ (n : ℕ). n ≤ suc (length l)) (eqb x.id 0) (omega arith) (omega (arith, pending_length l))

-- one less where a pending log is taken out
pending_pad : (l : List Log) → pending_of (l ++ (no_log ∷ [])) ≡ pending_of l
unfolding pending_of
pending_pad [] = refl
pending_pad (x ∷ l) = ap (λ (n : ℕ). cond (eqb x.id 0) 0 (suc n)) (pending_pad l)

pending_out : (p : ℕ) (l : List Log) → p < pending_of l → suc (pending_of (out p l)) ≡ pending_of l
unfolding pending_of
pending_out p [] h = absurd (not-suc-le-zero h)
pending_out zero (x ∷ l) h = ap suc (pending_pad l) ∙ sym (pending_used x l (pending_first zero x l h))
pending_out (suc p) (x ∷ l) h =
    let u = pending_first (suc p) x l h in
    ap suc (pending_used x (out p l) u ∙ pending_out p l (omega (arith, pending_used x l u))) ∙ sym (pending_used x l u)

-- one more where a log is put in at the first unused place
none_stays : (t : Bool) (m n : ℕ) → cond t 0 (suc m) ≡ 0 → cond t 0 (suc n) ≡ 0
none_stays true m n h = refl
none_stays false m n h = let z : ⊥ = omega arith in absurd z

none_pends : (n : ℕ) (x : Log) (l : List Log) → pending_of (x ∷ l) ≡ 0 → pending_of (take n (x ∷ l)) ≡ 0
unfolding pending_of
none_pends zero x l h = refl
none_pends (suc n) x l h = none_stays (eqb x.id 0) (pending_of l) (pending_of (take n l)) h

pending_into : (p : ℕ) (x : Log) (l : List Log) → Used x → p ≡ pending_of l → p < length l → pending_of (into (length l) p x l) ≡ suc p
pending_into p x [] u e h = absurd (not-suc-le-zero h)
pending_into zero x (y ∷ l) u e h = pending_used x (take (length l) (y ∷ l)) u ∙ ap suc (none_pends (length l) y l (sym e))
pending_into (suc p) x (y ∷ l) u e h =
    let v = pending_first p y l (omega arith) in
    let q : p ≡ pending_of l = omega (arith, pending_used y l v) in
    pending_used y (into (length l) p x l) v ∙ ap suc (pending_into p x l u q (le_of_suc-le-suc h))

-- a used place is below the first from which on all are unused
used_below : (p q : ℕ) (l : List Log) → unused (drop q l) ≡ true → Used (get_or l p no_log) → p < q
used_below p q [] h u = absurd (u refl)
used_below zero zero (y ∷ l) h u = absurd (u (ap (λ (x : Log). x.id) (unused_parts y l h).0))
used_below (suc p) zero (y ∷ l) h u = absurd (not-suc-le-zero (used_below p zero l (unused_parts y l h).1 u))
used_below zero (suc q) (y ∷ l) h u = omega arith
used_below (suc p) (suc q) (y ∷ l) h u = omega (arith, used_below p q l h u)

-- ---- what a clear finds

-- the place is one of four, and holds that log, which is used
record Pends (p : ℕ) (x : Log) (l : List Log) : Type 0 where
  place : p < 4
  used : Used x
  there : get_or l p no_log ≡ x

pends : (p : ℕ) (x : Log) (l : List Log) → pends_at p x l ≡ true → Pends p x l
unfolding pends_at
pends p x l h =
    let place = passed (ltb 3 p) _ h in
    let id = passed (eqb x.id 0) _ place.1 in
    let same = both_hold (eqb (get_or l p no_log).id x.id) _ id.1 in
    let i = eqb-true (get_or l p no_log).id x.id same.0 in
    let w = eqb-true (get_or l p no_log).reason x.reason same.1 in
    record { place = omega (arith, ltb-false 3 p place.0); used = eqb-false x.id 0 id.0; there = λ k. record { id = i k; reason = w k } }

-- ---- in the four places of a record

out_at : (p : ℕ) (l : List Log) → p < 4 → remove_at p l ≡ out p l
unfolding remove_at
out_at p l h = sym (if_lt _ _ h refl)

into_at : (n p : ℕ) (x : Log) (l : List Log) → n ≡ 4 → p < 4 → insert_at p x l ≡ into n p x l
unfolding insert_at
into_at n p x l four h = sym (if_lt _ _ h (ap (λ (m : ℕ). into m p x l) four))

-- "0x12 clear log", and "re-inserts a cleared log at its place"
pub record Removed (p : ℕ) (x : Log) (l : List Log) : Type 0 where
  pub place_pends : p < pending_of l
  pub length_removed : length (remove_at p l) ≡ 4
  pub pending_removed : suc (pending_of (remove_at p l)) ≡ pending_of l
  pub insert_removed : insert_at p x (remove_at p l) ≡ l

-- "0x25 reset prep", and "removes the log a reset made (the last pending)"
pub record Inserted (x : Log) (l : List Log) : Type 0 where
  pub length_inserted : length (insert_at (pending_of l) x l) ≡ 4
  pub pending_inserted : pending_of (insert_at (pending_of l) x l) ≡ suc (pending_of l)
  pub remove_inserted : remove_at (pending_of l) (insert_at (pending_of l) x l) ≡ l
  pub last_inserted : last_of (insert_at (pending_of l) x l) ≡ x

module _ (next : ℕ) (l : List Log) (ok : logs_ok next l ≡ true) (four : length l ≡ 4) where
  -- a log that pends leaves its place
  pub removed : (p : ℕ) (x : Log) → pends_at p x l ≡ true → Removed p x l
  removed p x h =
      let here = pends p x l h in
      let inside : p < length l = omega arith in
      let is : remove_at p l ≡ out p l = out_at p l here.place in
      let used : Used (get_or l p no_log) = λ e. here.used (sym (ap (λ (y : Log). y.id) here.there) ∙ e) in
      let below = used_below p (pending_of l) l (logs_used next l ok) used in
      record {
        place_pends = below;
        length_removed = ap length is ∙ length_out p l inside ∙ four;
        pending_removed = ap (λ (k : List Log). suc (pending_of k)) is ∙ pending_out p l below;
        insert_removed =
            ap (insert_at p x) is
            ∙ into_at (length l) p x (out p l) four here.place
            ∙ ap (λ (y : Log). into (length l) p y (out p l)) (sym here.there)
            ∙ out_into p l inside;
      }

  -- a log is put last, where fewer than four pend
  pub inserted : (x : Log) → Used x → pending_of l < 4 → Inserted x l
  unfolding last_of
  inserted x used room =
      let inside : pending_of l < length l = omega arith in
      let is : insert_at (pending_of l) x l ≡ into (length l) (pending_of l) x l = into_at (length l) (pending_of l) x l four room in
      let more = ap pending_of is ∙ pending_into (pending_of l) x l used refl inside in
      let some : pending_of (insert_at (pending_of l) x l) ≡ 0 → ⊥ = λ z. omega (arith, more) in
      let place : pending_of (insert_at (pending_of l) x l) - 1 ≡ pending_of l = omega (arith, more) in
      record {
        length_inserted = ap length is ∙ length_into (pending_of l) x l inside ∙ four;
        pending_inserted = more;
        remove_inserted =
            ap (remove_at (pending_of l)) is
            ∙ out_at (pending_of l) (into (length l) (pending_of l) x l) room
            ∙ into_out (pending_of l) x l inside (logs_used next l ok);
        last_inserted =
            sym (else_eq _ _ some refl)
            ∙ ap (λ (p : ℕ). get_or (insert_at (pending_of l) x l) p no_log) place
            ∙ ap (λ (k : List Log). get_or k (pending_of l) no_log) is
            ∙ into_there (pending_of l) x l inside;
      }
