-- Two worlds that differ in log ids only: ids from k on are one higher in the second. What logs, records and changes come to there. Assumes nothing.
use Rattle.std.proofs.lemmas.List.{length-map}
use Rattle.std.specs.List.{position_or_len}
use Prim.Native.Nat.{ℕ, zero, suc, ◌-◌, ◌≤◌, ◌<◌}
use Rattle.std.specs.Prelude.{Bool, true, ◌≡◌, leb, Option, Some, None, ◌+◌}
use Rattle.std.proofs.Math.Bool.{false, cond, not}
use Rattle.std.proofs.Math.Path.{refl, sym, ap, ap₂}
use Rattle.std.proofs.Common.{◌∙◌, arith}
use mathlib.Core.List.{List, [], ◌∷◌, ◌++◌, map}
use borrow.Author.Tests.{ltb-true, ltb-false, eqb-true, eqb-false, eq-eqb, ne_eqb}
use Rattle.std.proofs.Math.Dec.{ltb, eqb}
use Rattle.std.proofs.Math.ListN.{get_or, take, drop, get_or-map}
use Rattle.wire.proofs.laws.Cases.{if_lt, else_lt, cond_cases}
use Rattle.record.specs.Record.{no_log}
use Rattle.record.specs.declared.Log.{Log}
use Rattle.record.specs.declared.Record.{Record}
use Rattle.record.specs.declared.Timer.{Timer}
use Rattle.change.specs.Logs.{pending_of, find_of, remove_at, insert_at, pends_at}
use Rattle.change.specs.With.{with_state, with_role, with_caps, with_throttles, with_user, with_thermal, with_logs, with_mask, with_deadman, with_areas}
use Rattle.std.specs.Option.{unwrap_or}
use Rattle.change.specs.Change.{clear_of, unclear_of, reset_of, unreset_of, put_with, put_of, made_by, kind_of, timed_change, timed, timer_after}
use Rattle.change.proofs.laws.Timed.{by_timer, timer_kept, timed_cases, timed_other}
use Rattle.change.specs.declared.Change.{Change}
use Rattle.change.specs.declared.Change.TheVariants.{Clear, Unclear, SetState, SetRole, SetCaps, SetUser, SetThermal, SetThrottles, Reset, Unreset, SetMask, SetDeadman, SetAreas, SetTimer}
use Rattle.change.specs.declared.Edit.{Edit}
use Rattle.change.specs.declared.Tables.{Tables}
use Rattle.session.specs.Session.{made_of}
use Rattle.promises.specs.History.{applied}
use Rattle.promises.specs.Shifted.{shifted, shifted_log, shifted_record}

-- ---- what shifts

unfoldable pub shifted_change : ℕ → Change → Change
shifted_change k (Clear place log) = Clear place (shifted_log k log)
shifted_change k (Unclear place log) = Unclear place (shifted_log k log)
shifted_change k (SetState state) = SetState state
shifted_change k (SetRole got role) = SetRole got role
shifted_change k (SetCaps got caps) = SetCaps got caps
shifted_change k (SetUser user) = SetUser user
shifted_change k (SetThermal got) = SetThermal got
shifted_change k (SetThrottles got) = SetThrottles got
shifted_change k (Reset log) = Reset (shifted_log k log)
shifted_change k (Unreset state made) = Unreset state made
shifted_change k (SetMask mask) = SetMask mask
shifted_change k (SetDeadman deadman) = SetDeadman deadman
shifted_change k (SetAreas areas) = SetAreas areas
shifted_change k (SetTimer timer) = SetTimer timer

unfoldable pub shifted_edit : ℕ → Edit → Edit
shifted_edit k e = record { change = shifted_change k e.change; tables = e.tables }

unfoldable shifted_put : ℕ → Option Record → Option Record
shifted_put k None = None
shifted_put k (Some after) = Some (shifted_record k after)

-- ---- ids

pub shifted_low : (k i : ℕ) → i < k → shifted k i ≡ i
unfolding shifted
shifted_low k i h = sym (if_lt _ _ h refl)

pub shifted_high : (k i : ℕ) → k ≤ i → shifted k i ≡ suc i
unfolding shifted
shifted_high k i h = sym (else_lt _ _ h refl)

pub kind_shifted : (k : ℕ) (ch : Change) → kind_of (shifted_change k ch) ≡ kind_of ch
unfolding shifted_change kind_of
kind_shifted k (Clear place log) = refl
kind_shifted k (Unclear place log) = refl
kind_shifted k (SetState state) = refl
kind_shifted k (SetRole got role) = refl
kind_shifted k (SetCaps got caps) = refl
kind_shifted k (SetUser user) = refl
kind_shifted k (SetThermal got) = refl
kind_shifted k (SetThrottles got) = refl
kind_shifted k (Reset log) = refl
kind_shifted k (Unreset state made) = refl
kind_shifted k (SetMask mask) = refl
kind_shifted k (SetDeadman deadman) = refl
kind_shifted k (SetAreas areas) = refl
kind_shifted k (SetTimer timer) = refl

change_timed : (k : ℕ) (t : Timer) (ch : Change) → timed_change t (shifted_change k ch) ≡ shifted_change k (timed_change t ch)
unfolding timed_change kind_of shifted_change
change_timed k t =
    timed_cases t (λ (a b : Change). timed_change t (shifted_change k a) ≡ shifted_change k b) (λ x. refl) (λ ch n. timed_other t (shifted_change k ch) (λ z. n (sym (kind_shifted k ch) ∙ z)))

-- a timer change is the same in both worlds
pub shifted_timed : (k : ℕ) (t : Timer) (e : Edit) → timed t (shifted_edit k e) ≡ shifted_edit k (timed t e)
unfolding timed shifted_edit
shifted_timed k t e = λ i. record { change = change_timed k t e.change i; tables = e.tables }

pub after_shifted : (k : ℕ) (t : Timer) (ch : Change) → timer_after t (shifted_change k ch) ≡ timer_after t ch
unfolding timer_after shifted_change
after_shifted k t =
    by_timer (λ (ch : Change). timer_after t (shifted_change k ch) ≡ timer_after t ch) (λ x. refl)
    (λ ch n. timer_kept t (shifted_change k ch) (λ z. n (sym (kind_shifted k ch) ∙ z)) ∙ sym (timer_kept t ch n))

-- the same test in both worlds, then what was chosen there
pub choose : {A B : Type 0} (f : A → B) {b c : Bool} {x y : A} {u v : B} → c ≡ b → u ≡ f x → v ≡ f y → cond c u v ≡ f (cond b x y)
choose f {b} {c} {x} {y} {u} {v} e p q = (λ i. cond (e i) (p i) (q i)) ∙ go b
  where
    go : (b : Bool) → cond b (f x) (f y) ≡ f (cond b x y)
    go true = refl
    go false = refl

-- k isn't 0: id 0, which is no log's, stays
module _ (k : ℕ) (low : 1 ≤ k) where
  abbrev f : Log → Log
  f = shifted_log k

  same_id : (i j : ℕ) → shifted k i ≡ shifted k j → i ≡ j
  unfolding shifted
  same_id i j =
      cond_cases (λ (a : ℕ). a ≡ shifted k j → i ≡ j) (ltb i k)
      (λ p. cond_cases (λ (b : ℕ). i ≡ b → i ≡ j) (ltb j k) (λ q e. e) (λ q e. omega (arith, ltb-true i k p, ltb-false j k q, e)))
      (λ p. cond_cases (λ (b : ℕ). suc i ≡ b → i ≡ j) (ltb j k) (λ q e. omega (arith, ltb-false i k p, ltb-true j k q, e)) (λ q e. omega (arith, e)))

  id_test : (i j : ℕ) → eqb (shifted k i) (shifted k j) ≡ eqb i j
  id_test i j = go (eqb i j) refl
    where
      go : (b : Bool) → eqb i j ≡ b → eqb (shifted k i) (shifted k j) ≡ b
      go true e = eq-eqb _ _ (ap (shifted k) (eqb-true i j e))
      go false e = ne_eqb _ _ (λ h. eqb-false i j e (same_id i j h))

  no_id : shifted k 0 ≡ 0
  no_id = shifted_low k 0 low

  used_test : (i : ℕ) → eqb (shifted k i) 0 ≡ eqb i 0
  used_test i = ap (eqb (shifted k i)) (sym no_id) ∙ id_test i 0

  pub no_log_lem : f no_log ≡ no_log
  unfolding shifted_log
  no_log_lem = λ i. record { id = no_id i; reason = 0 }

  -- ---- logs

  pub pending_shifted : (l : List Log) → pending_of (map f l) ≡ pending_of l
  unfolding pending_of shifted_log
  pending_shifted [] = refl
  pending_shifted (x ∷ l) = ap₂ (λ (b : Bool) (n : ℕ). cond b 0 (suc n)) (used_test x.id) (pending_shifted l)

  first_shifted : (i : ℕ) (l : List Log) → position_or_len (λ (x : Log). eqb x.id (shifted k i)) (map f l) ≡ position_or_len (λ (x : Log). eqb x.id i) l
  unfolding shifted_log
  first_shifted i [] = refl
  first_shifted i (x ∷ l) = ap₂ (λ (b : Bool) (n : ℕ). cond (not b) (1 + n) 0) (id_test x.id i) (first_shifted i l)

  pub find_shifted : (i : ℕ) (l : List Log) → find_of (shifted k i) (map f l) ≡ find_of i l
  unfolding find_of
  find_shifted i l =
      λ j. cond (used_test i j) None (cond (ltb (first_shifted i l j) (length-map l f j)) (Some (first_shifted i l j)) None)

  pub get_shifted : (l : List Log) (p : ℕ) → get_or (map f l) p no_log ≡ f (get_or l p no_log)
  get_shifted l p = ap (get_or (map f l) p) (sym no_log_lem) ∙ get_or-map f l p no_log

  take_shifted : (n : ℕ) (l : List Log) → take n (map f l) ≡ map f (take n l)
  take_shifted zero l = refl
  take_shifted (suc n) [] = refl
  take_shifted (suc n) (x ∷ l) = ap (λ (m : List Log). f x ∷ m) (take_shifted n l)

  drop_shifted : (n : ℕ) (l : List Log) → drop n (map f l) ≡ map f (drop n l)
  drop_shifted zero l = refl
  drop_shifted (suc n) [] = refl
  drop_shifted (suc n) (x ∷ l) = drop_shifted n l

  append_shifted : (l m : List Log) → map f (l ++ m) ≡ map f l ++ map f m
  append_shifted [] m = refl
  append_shifted (x ∷ l) m = ap (λ (t : List Log). f x ∷ t) (append_shifted l m)

  out_shifted : (p : ℕ) (l : List Log) → take p (map f l) ++ (drop (suc p) (map f l) ++ (no_log ∷ [])) ≡ map f (take p l ++ (drop (suc p) l ++ (no_log ∷ [])))
  out_shifted p l =
      let tail : drop (suc p) (map f l) ++ (no_log ∷ []) ≡ map f (drop (suc p) l ++ (no_log ∷ [])) =
      ap₂ (λ (a : List Log) (x : Log). a ++ (x ∷ [])) (drop_shifted (suc p) l) (sym no_log_lem) ∙ sym (append_shifted (drop (suc p) l) (no_log ∷ [])) in
      ap₂ (λ (a b : List Log). a ++ b) (take_shifted p l) tail ∙ sym (append_shifted (take p l) (drop (suc p) l ++ (no_log ∷ [])))

  remove_shifted : (p : ℕ) (l : List Log) → remove_at p (map f l) ≡ map f (remove_at p l)
  unfolding remove_at
  remove_shifted p l = choose (map f) {b = ltb p 4} {x = take p l ++ (drop (suc p) l ++ (no_log ∷ []))} {y = l} refl (out_shifted p l) refl

  into_shifted : (p : ℕ) (x : Log) (l : List Log) → take 4 (take p (map f l) ++ (f x ∷ drop p (map f l))) ≡ map f (take 4 (take p l ++ (x ∷ drop p l)))
  into_shifted p x l =
      ap₂ (λ (a b : List Log). take 4 (a ++ (f x ∷ b))) (take_shifted p l) (drop_shifted p l)
      ∙ ap (take 4) (sym (append_shifted (take p l) (x ∷ drop p l)))
      ∙ take_shifted 4 (take p l ++ (x ∷ drop p l))

  insert_shifted : (p : ℕ) (x : Log) (l : List Log) → insert_at p (f x) (map f l) ≡ map f (insert_at p x l)
  unfolding insert_at
  insert_shifted p x l = choose (map f) {b = ltb p 4} {x = take 4 (take p l ++ (x ∷ drop p l))} {y = l} refl (into_shifted p x l) refl

  pends_shifted : (p : ℕ) (x : Log) (l : List Log) → pends_at p (f x) (map f l) ≡ pends_at p x l
  unfolding pends_at shifted_log
  pends_shifted p x l =
      let there = get_or l p no_log in
      ap (λ (y : Log). cond (ltb 3 p) false (cond (eqb (shifted k x.id) 0) false (cond (not (eqb y.id (shifted k x.id))) false (eqb y.reason x.reason)))) (get_shifted l p)
      ∙ ap₂ (λ (a b : Bool). cond (ltb 3 p) false (cond a false (cond (not b) false (eqb there.reason x.reason)))) (used_test x.id) (id_test there.id x.id)

  -- ---- a change put into a record

  abbrev R : Record → Record
  R = shifted_record k

  abbrev there : Option Record → Option Record
  there = shifted_put k

  kept : None ≡ there None
  unfolding shifted_put
  kept = refl

  -- a record with other logs
  with_logs_lem : (r : Record) (m l : List Log) → m ≡ map f l → Some (with_logs (R r) m) ≡ there (Some (with_logs r l))
  unfolding with_logs shifted_record shifted_put
  with_logs_lem r m l e = ap (λ (t : List Log). Some (with_logs r t)) e

  clear_shifted : (r : Record) (p : ℕ) (x : Log) → clear_of (R r) p (f x) ≡ there (clear_of r p x)
  unfolding clear_of shifted_record with_logs
  clear_shifted r p x = choose there (ap not (pends_shifted p x r.logs)) kept (with_logs_lem r _ _ (remove_shifted p r.logs))

  unclear_shifted : (r : Record) (p : ℕ) (x : Log) → unclear_of (R r) p (f x) ≡ there (unclear_of r p x)
  unfolding unclear_of shifted_record with_logs
  unclear_shifted r p x =
      choose there (ap (λ (n : ℕ). ltb n p) (pending_shifted r.logs)) kept
      (choose there (ap (leb 4) (pending_shifted r.logs)) kept (with_logs_lem r _ _ (insert_shifted p x r.logs)))

  with_state_lem : (r : Record) (state : ℕ) → Some (with_state (R r) state) ≡ there (Some (with_state r state))
  unfolding with_state with_logs shifted_record shifted_put
  with_state_lem r state = refl

  reset_shifted : (r : Record) (x : Log) → reset_of (R r) (f x) ≡ there (reset_of r x)
  unfolding reset_of shifted_record shifted_log with_logs with_state
  reset_shifted r x =
      let n = pending_of r.logs in
      let last : insert_at (pending_of (map f r.logs)) (f x) (map f r.logs) ≡ map f (insert_at n x r.logs) =
      ap (λ (m : ℕ). insert_at m (f x) (map f r.logs)) (pending_shifted r.logs) ∙ insert_shifted n x r.logs in
      choose there (used_test x.id) (with_state_lem r 1)
      (choose there (ap (leb 4) (pending_shifted r.logs)) kept (with_logs_lem (with_state r 1) _ (insert_at n x r.logs) last))

  unreset_shifted : (r : Record) (state made : ℕ) → unreset_of (R r) state made ≡ there (unreset_of r state made)
  unfolding unreset_of shifted_record with_logs with_state
  unreset_shifted r state made =
      let n = pending_of r.logs - 1 in
      let last : remove_at (pending_of (map f r.logs) - 1) (map f r.logs) ≡ map f (remove_at n r.logs) =
      ap (λ (m : ℕ). remove_at (m - 1) (map f r.logs)) (pending_shifted r.logs) ∙ remove_shifted n r.logs in
      choose there {b = eqb made 0} refl (with_state_lem r state)
      (choose there (ap (λ (m : ℕ). eqb m 0) (pending_shifted r.logs)) kept (with_logs_lem (with_state r state) _ (remove_at n r.logs) last))

  put_with_lem : (r : Record) (t : Tables) (ch : Change) → put_with (R r) t (shifted_change k ch) ≡ there (put_with r t ch)
  unfolding put_with shifted_change shifted_record shifted_put with_state with_role with_caps with_throttles with_user with_thermal with_logs with_mask with_deadman with_areas
  put_with_lem r t (Clear place log) = clear_shifted r place log
  put_with_lem r t (Unclear place log) = unclear_shifted r place log
  put_with_lem r t (SetState state) = refl
  put_with_lem r t (SetRole got role) = refl
  put_with_lem r t (SetCaps got caps) = refl
  put_with_lem r t (SetUser user) = refl
  put_with_lem r t (SetThermal got) = refl
  put_with_lem r t (SetThrottles got) = refl
  put_with_lem r t (Reset log) = reset_shifted r log
  put_with_lem r t (Unreset state made) = unreset_shifted r state made
  put_with_lem r t (SetMask mask) = refl
  put_with_lem r t (SetDeadman deadman) = refl
  put_with_lem r t (SetAreas areas) = refl
  put_with_lem r t (SetTimer timer) = refl

  pub applied_shifted : (base : Record) → R base ≡ base → (es : List Edit) → applied base (map (shifted_edit k) es) ≡ R (applied base es)
  unfolding applied put_of shifted_edit shifted_put
  applied_shifted base b [] = sym b
  applied_shifted base b (e ∷ es) =
      ap (λ (r : Record). unwrap_or (put_with r e.tables (shifted_change k e.change)) r) (applied_shifted base b es)
      ∙ ap (λ (p : Option Record). unwrap_or p (R (applied base es))) (put_with_lem (applied base es) e.tables e.change)
      ∙ whole (put_with (applied base es) e.tables e.change)
    where
      whole : (p : Option Record) → unwrap_or (there p) (R (applied base es)) ≡ R (unwrap_or p (applied base es))
      whole None = refl
      whole (Some after) = refl

  made_shifted : (x : Log) → made_by (f x) ≡ made_by x
  unfolding made_by shifted_log
  made_shifted x = ap (λ (b : Bool). cond b 0 1) (used_test x.id)

  pub logs_shifted : (ch : Change) → made_of (shifted_change k ch) ≡ made_of ch
  unfolding made_of shifted_change
  logs_shifted (Clear place log) = refl
  logs_shifted (Unclear place log) = refl
  logs_shifted (SetState state) = refl
  logs_shifted (SetRole got role) = refl
  logs_shifted (SetCaps got caps) = refl
  logs_shifted (SetUser user) = refl
  logs_shifted (SetThermal got) = refl
  logs_shifted (SetThrottles got) = refl
  logs_shifted (Reset log) = made_shifted log
  logs_shifted (Unreset state made) = refl
  logs_shifted (SetMask mask) = refl
  logs_shifted (SetDeadman deadman) = refl
  logs_shifted (SetAreas areas) = refl
  logs_shifted (SetTimer timer) = refl
