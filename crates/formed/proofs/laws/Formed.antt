-- Laws of well-formedness that other crates build on: its parts, and how logs keep it. Assumes nothing.
use Rattle.std.specs.Prelude.{ℕ, zero, suc, ◌+◌, ◌-◌, ◌<◌, ◌≤◌, Bool, cond, not, ◌≡◌, refl, List, [], ◌∷◌, ◌++◌, ◌⊎◌, ltb, leb, eqb, get_or, take, drop}
use Rattle.std.proofs.Math.Bool.{true, false}
use Rattle.std.proofs.Math.Path.{sym}
use Rattle.std.proofs.Common.{ap, inl, inr, ⊎_elim, le_of_lt}
use native.Mathlib.Omega.{arith}
use borrow.Author.Tests.{leb-false, eqb-true, not-false, eq-eqb}
use Rattle.std.proofs.Math.ListN.{length}
use Rattle.wire.proofs.laws.Cases.{else_b, else_le, else_eq, if_eq, if_lt}
use Rattle.wire.proofs.laws.Chains.{passed}
use Rattle.record.specs.Record.{no_log}
use Rattle.record.specs.declared.Log.{Log}
use Rattle.record.specs.declared.Record.{Record}
use Rattle.change.specs.Logs.{pending_of, remove_at, insert_at, pends_at}
use Rattle.change.specs.Change.{last_of, made_by, made_again, back_of, kind_of, tables_for, inverse_of}
use Rattle.change.specs.declared.Tables.{Tables}
use Rattle.change.specs.declared.Edit.{Edit}
use Rattle.change.specs.declared.Change.{Change}
use Rattle.change.specs.declared.Change.TheVariants.{Clear, Unclear, SetState, SetRole, SetCaps, SetUser, SetThermal, SetThrottles, Reset, Unreset, SetMask, SetDeadman, SetAreas, SetTimer}
use Rattle.formed.specs.Formed.{state_ok, flag_ok, role_ok, caps_ok, deadman_ok, throttles_ok, areas_ok, fields_ok, thermal_ok, next_ok, reason_ok, unused, log_ok, logs_above, logs_ok, record_ok, cleared_ok, made_ok, unreset_ok, change_ok, edit_ok}

-- ---- a rule that is tested first, and the rest

pub both_hold : (a b : Bool) → cond (not a) false b ≡ true → (a ≡ true) × (b ≡ true)
both_hold a b h = let p = passed (not a) b h in (not-false a p.0, p.1)

pub hold_both : {a b : Bool} → a ≡ true → b ≡ true → cond (not a) false b ≡ true
hold_both p q = sym (else_b _ _ (ap not p) (sym q))

either : (t a b : Bool) → cond t a b ≡ true → (a ≡ true) ⊎ (b ≡ true)
either true a b h = inl h
either false a b h = inr h

-- ---- a well-formed record, by its rules

pub record Sound (r : Record) (n : ℕ) : Type 0 where
  pub state : state_ok r.state ≡ true
  pub role : role_ok r.received.role r.role ≡ true
  pub caps : caps_ok r.received.caps r.caps ≡ true
  pub deadman : deadman_ok r.deadman ≡ true
  pub throttles : throttles_ok r.received.throttles r.throttles ≡ true
  pub areas : areas_ok r.areas ≡ true
  pub thermal : thermal_ok r.received.thermal r.thermal ≡ true
  pub next : next_ok n ≡ true
  pub logs : logs_ok n r.logs ≡ true

-- from the rule of the whole to its parts, and back
pub sound : {r : Record} {next : ℕ} → record_ok r next ≡ true → Sound r next
unfolding record_ok fields_ok
sound {r} {next} h =
    let fields = both_hold (fields_ok r) _ h in
    let thermal = both_hold (thermal_ok r.received.thermal r.thermal) _ fields.1 in
    let ids = both_hold (next_ok next) _ thermal.1 in
    let state = both_hold (state_ok r.state) _ fields.0 in
    let role = both_hold (role_ok r.received.role r.role) _ state.1 in
    let caps = both_hold (caps_ok r.received.caps r.caps) _ role.1 in
    let deadman = both_hold (deadman_ok r.deadman) _ caps.1 in
    let throttles = both_hold (throttles_ok r.received.throttles r.throttles) _ deadman.1 in
    record { state = state.0; role = role.0; caps = caps.0; deadman = deadman.0; throttles = throttles.0; areas = throttles.1; thermal = thermal.0; next = ids.0; logs = ids.1 }

pub sound_ok : {r : Record} {next : ℕ} → Sound r next → record_ok r next ≡ true
unfolding record_ok fields_ok
sound_ok s =
    hold_both
    (hold_both s.state (hold_both s.role (hold_both s.caps (hold_both s.deadman (hold_both s.throttles s.areas)))))
    (hold_both s.thermal (hold_both s.next s.logs))

-- ---- unused places

unused_parts : (x : Log) (l : List Log) → unused (x ∷ l) ≡ true → (x.id ≡ 0) × (x.reason ≡ 0) × (unused l ≡ true)
unfolding unused
unused_parts x l h =
    let p = both_hold (eqb x.id 0) _ h in
    let q = both_hold (eqb x.reason 0) _ p.1 in
    (eqb-true x.id 0 p.0, eqb-true x.reason 0 q.0, q.1)

unused_cons : (x : Log) (l : List Log) → x.id ≡ 0 → x.reason ≡ 0 → unused l ≡ true → unused (x ∷ l) ≡ true
unfolding unused
unused_cons x l p q h = hold_both (eq-eqb x.id 0 p) (hold_both (eq-eqb x.reason 0 q) h)

unused_nil : unused [] ≡ true
unfolding unused
unused_nil = refl

unused_one : unused (no_log ∷ []) ≡ true
unused_one = unused_cons no_log [] refl refl unused_nil

unused_append : (k l : List Log) → unused k ≡ true → unused l ≡ true → unused (k ++ l) ≡ true
unused_append [] l h g = g
unused_append (x ∷ k) l h g = let p = unused_parts x k h in unused_cons x (k ++ l) p.0 p.1 (unused_append k l p.2 g)

unused_take : (n : ℕ) (l : List Log) → unused l ≡ true → unused (take n l) ≡ true
unused_take zero l h = unused_nil
unused_take (suc n) [] h = unused_nil
unused_take (suc n) (x ∷ l) h = let p = unused_parts x l h in unused_cons x (take n l) p.0 p.1 (unused_take n l p.2)

unused_drop : (n : ℕ) (l : List Log) → unused l ≡ true → unused (drop n l) ≡ true
unused_drop zero l h = h
unused_drop (suc n) [] h = unused_nil
unused_drop (suc n) (x ∷ l) h = unused_drop n l (unused_parts x l h).2

unused_none_pend : (l : List Log) → unused l ≡ true → pending_of l ≡ 0
unfolding pending_of
unused_none_pend [] h = refl
unused_none_pend (x ∷ l) h = sym (if_eq 0 (suc (pending_of l)) (unused_parts x l h).0 refl)

-- ---- logs above an id, as a tree: the unused places, or a pending log and those above it

pub data Above (next : ℕ) : ℕ → List Log → Type 0 where
  rest : {low : ℕ} {l : List Log} → unused l ≡ true → Above next low l
  more : {low : ℕ} {x : Log} {l : List Log} → low < x.id → x.id < next → reason_ok x.reason ≡ true → Above next x.id l → Above next low (x ∷ l)

log_parts : (low next : ℕ) (x : Log) → log_ok low next x ≡ true → (low < x.id) × (x.id < next) × (reason_ok x.reason ≡ true)
unfolding log_ok
log_parts low next x h =
    let p = passed (leb x.id low) _ h in
    let q = passed (leb next x.id) _ p.1 in
    (leb-false x.id low p.0, leb-false next x.id q.0, q.1)

log_ok_lem : (low next : ℕ) (x : Log) → low < x.id → x.id < next → reason_ok x.reason ≡ true → log_ok low next x ≡ true
unfolding log_ok
log_ok_lem low next x p q h = sym (else_le _ _ p (else_le _ _ q (sym h)))

pending_cons : (low : ℕ) (x : Log) (l : List Log) → low < x.id → pending_of (x ∷ l) ≡ suc (pending_of l)
unfolding pending_of
pending_cons low x l h = sym (else_eq 0 (suc (pending_of l)) {m = x.id} {n = 0} (λ e. omega arith) refl)

-- from the tree to the test, and back
pub above_ok : {next low : ℕ} {l : List Log} → Above next low l → logs_above low next l ≡ true
unfolding logs_above
above_ok {l = []} (rest h) = refl
above_ok {l = x ∷ l} (rest h) = sym (if_eq _ _ (unused_parts x l h).0 (sym h))
above_ok {next} {low} (more {x = x} p q h k) =
    sym (else_eq _ _ {m = x.id} {n = 0} (λ e. omega arith) (sym (hold_both (log_ok_lem low next x p q h) (above_ok k))))

pub above : {next low : ℕ} {l : List Log} → logs_above low next l ≡ true → Above next low l
unfolding logs_above
above {l = []} h = rest unused_nil
above {next} {low} {l = x ∷ l} h =
    ⊎_elim rest
    (λ g.
    let p = both_hold (log_ok low next x) _ g in
    let q = log_parts low next x p.0 in
    more q.0 q.1 q.2 (above p.1))
    (either (eqb x.id 0) (unused (x ∷ l)) _ h)

-- a higher next id
above_up : {n m low : ℕ} {l : List Log} → n ≤ m → Above n low l → Above m low l
above_up h (rest u) = rest u
above_up {n} {m} h (more {x = x} p q w k) = let g : x.id < m = omega arith in more p g w (above_up h k)

-- a lower id to be above
above_down : {next a b : ℕ} {l : List Log} → a ≤ b → Above next b l → Above next a l
above_down h (rest u) = rest u
above_down {next} {a} h (more {x = x} p q w k) = let g : a < x.id = omega arith in more g q w k

-- past the pending logs all is unused
above_used : {next low : ℕ} {l : List Log} → Above next low l → unused (drop (pending_of l) l) ≡ true
above_used {l = l} (rest u) = rw (unused_none_pend l u) u
above_used {low = low} (more {x = x} {l = l} p q w k) = rw (pending_cons low x l p) (above_used k)

-- one more log, with the next id, at the first unused place
above_snoc : {next low : ℕ} {l : List Log} (w : ℕ) → reason_ok w ≡ true → low < next → pending_of l < length l → Above next low l → Above (next + 1) low (take (length l) (take (pending_of l) l ++ (record { id = next; reason = w } ∷ drop (pending_of l) l)))
above_snoc {l = []} w r h g (rest u) = rest unused_nil
above_snoc {next} {l = x ∷ l} w r h g (rest u) =
    let e : next < next + 1 = omega arith in
    rw (unused_none_pend (x ∷ l) u) (more h e r (rest (unused_take (length l) (x ∷ l) u)))
above_snoc {next} {low} w r h g (more {x = x} {l = l} p q v k) =
    let e : x.id < next + 1 = omega arith in
    let f : pending_of l < length l = omega (arith, pending_cons low x l p) in
    rw (pending_cons low x l p) (more p e v (above_snoc w r q f k))

-- an unused place at the end
above_pad : {next low : ℕ} {l : List Log} → Above next low l → Above next low (l ++ (no_log ∷ []))
above_pad {l = l} (rest u) = rest (unused_append l (no_log ∷ []) u unused_one)
above_pad (more p q w k) = more p q w (above_pad k)

-- a log taken out
above_remove : {next low : ℕ} {l : List Log} (p : ℕ) → Above next low l → Above next low (take p l ++ (drop (suc p) l ++ (no_log ∷ [])))
above_remove {l = l} p (rest u) =
    rest (unused_append (take p l) _ (unused_take p l u) (unused_append (drop (suc p) l) (no_log ∷ []) (unused_drop (suc p) l u) unused_one))
above_remove zero (more p q w k) = above_down (le_of_lt p) (above_pad k)
above_remove (suc n) (more p q w k) = more p q w (above_remove n k)

-- a place, as a reset could have left it
unused_made : (i : ℕ) (l : List Log) → unused l ≡ true → made_ok (get_or l i no_log) ≡ true
unfolding made_ok
unused_made i [] u = refl
unused_made zero (x ∷ l) u = let p = unused_parts x l u in sym (if_eq _ _ p.0 (sym (eq-eqb x.reason 0 p.1)))
unused_made (suc i) (x ∷ l) u = unused_made i l (unused_parts x l u).2

above_made : {next low : ℕ} {l : List Log} (i : ℕ) → Above next low l → made_ok (get_or l i no_log) ≡ true
unfolding made_ok
above_made {l = l} i (rest u) = unused_made i l u
above_made zero (more {x = x} p q w k) = sym (else_eq _ _ {m = x.id} {n = 0} (λ e. omega arith) (sym w))
above_made (suc i) (more p q w k) = above_made i k

-- a place below 4, in a list of four
insert_below : (p : ℕ) (x : Log) (l : List Log) → length l ≡ 4 → p < 4 → insert_at p x l ≡ take (length l) (take p l ++ (x ∷ drop p l))
unfolding insert_at
insert_below p x l four h = sym (if_lt _ _ h (ap (λ (n : ℕ). take n (take p l ++ (x ∷ drop p l))) four))

-- ---- how logs stay well formed

module _ (next : ℕ) (l : List Log) (ok : logs_ok next l ≡ true) where
  -- a higher next id keeps them
  pub logs_next_up : (m : ℕ) → next ≤ m → logs_ok m l ≡ true
  unfolding logs_ok
  logs_next_up m h = above_ok (above_up h (above ok))

  -- used places come first
  pub logs_used : unused (drop (pending_of l) l) ≡ true
  unfolding logs_ok
  logs_used = above_used (above {next = next} {low = 0} ok)

  -- the log with the next id may be put last
  pub logs_snoc : (w : ℕ) → reason_ok w ≡ true → 1 ≤ next → length l ≡ 4 → pending_of l < 4 → logs_ok (next + 1) (insert_at (pending_of l) (record { id = next; reason = w }) l) ≡ true
  unfolding logs_ok
  logs_snoc w r h four g =
      let k : pending_of l < length l = omega arith in
      rw (insert_below (pending_of l) (record { id = next; reason = w }) l four g) (above_ok (above_snoc w r h k (above ok)))

  -- any log may be taken out
  pub logs_remove : (p : ℕ) → logs_ok next (remove_at p l) ≡ true
  unfolding logs_ok remove_at
  logs_remove p = go (ltb p 4)
    where
      go : (t : Bool) → logs_above 0 next (cond t (take p l ++ (drop (suc p) l ++ (no_log ∷ []))) l) ≡ true
      go true = above_ok (above_remove p (above ok))
      go false = ok

  -- each place is unused, or has a reason
  pub logs_made_lem : (i : ℕ) → made_ok (get_or l i no_log) ≡ true
  unfolding logs_ok
  logs_made_lem i = above_made i (above {next = next} {low = 0} ok)

  -- a log that pends at a place is one that a clear may name
  pub pends_cleared : (p : ℕ) (x : Log) → pends_at p x l ≡ true → cleared_ok p x ≡ true
  unfolding pends_at cleared_ok made_ok
  pends_cleared p x h =
      let place = passed (ltb 3 p) _ h in
      let id = passed (eqb x.id 0) _ place.1 in
      let same = both_hold (eqb (get_or l p no_log).id x.id) _ id.1 in
      let i : (get_or l p no_log).id ≡ x.id = eqb-true _ _ same.0 in
      let w : (get_or l p no_log).reason ≡ x.reason = eqb-true _ _ same.1 in
      sym (else_b _ _ place.0 (else_b _ _ id.0 (sym (rw (i, w, id.0) at (logs_made_lem p)))))

-- ---- what was before a change passes too

flag_made : (x : Log) → flag_ok (made_by x) ≡ true
unfolding flag_ok made_by
flag_made x = go (eqb x.id 0)
  where
    go : (t : Bool) → leb (cond t 0 1) 1 ≡ true
    go true = refl
    go false = refl

last_made : (next made : ℕ) (l : List Log) → logs_ok next l ≡ true → made_ok (made_again l made) ≡ true
unfolding made_again last_of
last_made next made l ok = go (eqb made 0) (eqb (pending_of l) 0)
  where
    go : (s t : Bool) → made_ok (cond s no_log (cond t no_log (get_or l (pending_of l - 1) no_log))) ≡ true
    go true t = unused_made 0 [] unused_nil
    go false true = unused_made 0 [] unused_nil
    go false false = logs_made_lem next l ok (pending_of l - 1)

-- a clear's place and log are its own, and so is a timer; all else is the record's
pub edit_back_ok : (r : Record) (n : ℕ) (t : Tables) (ch : Change) → Sound r n → change_ok t ch ≡ true → change_ok (tables_for (kind_of ch) r) (back_of r ch) ≡ true
unfolding change_ok tables_for kind_of back_of unreset_ok
edit_back_ok r n t (Clear place log) s h = h
edit_back_ok r n t (Unclear place log) s h = h
edit_back_ok r n t (SetState state) s h = s.state
edit_back_ok r n t (SetRole got role) s h = s.role
edit_back_ok r n t (SetCaps got caps) s h = s.caps
edit_back_ok r n t (SetUser user) s h = refl
edit_back_ok r n t (SetThermal got) s h = s.thermal
edit_back_ok r n t (SetThrottles got) s h = s.throttles
edit_back_ok r n t (Reset log) s h = hold_both s.state (flag_made log)
edit_back_ok r n t (Unreset state made) s h = last_made n made r.logs s.logs
edit_back_ok r n t (SetMask mask) s h = refl
edit_back_ok r n t (SetDeadman deadman) s h = s.deadman
edit_back_ok r n t (SetAreas areas) s h = s.areas
edit_back_ok r n t (SetTimer timer) s h = h

-- so an entry of the journal passes, if the change that it takes back did
pub inverse_ok : (r : Record) (n : ℕ) (e : Edit) → Sound r n → edit_ok e ≡ true → edit_ok (inverse_of r e) ≡ true
unfolding edit_ok inverse_of
inverse_ok r n e s h = edit_back_ok r n e.tables e.change s h
