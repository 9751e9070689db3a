-- Well formed in plain conditions is what the calls test. Assumes nothing.
use Rattle.std.specs.Prelude.{ℕ, zero, suc, ◌+◌, ◌/◌, ◌%◌, ◌^◌, ◌≤◌, ◌<◌, Bool, true, false, cond, not, ◌↔◌, ◌≡◌, refl, take, drop, Option, Some, None}
use Rattle.std.proofs.lemmas.Bool.{false≢true}
use mathlib.Core.List.{List, [], ◌∷◌}
use Rattle.std.proofs.Common.{inl, inr, ⊎_elim, sym, subst, ◌∙◌}
use Rattle.std.proofs.Math.Path.{ap}
use Rattle.wire.specs.Conditions.{◌and◌}
use Rattle.wire.specs.Wire.{all_are}
use Rattle.wire.proofs.laws.Chains.{holds, eq_holds, le_holds, eq_passes, lt_passes, le_passes, not_passes, or_so, unless, if_needed, or_else}
use Rattle.record.specs.declared.Area.{Area}
use Rattle.record.specs.declared.Areas.{Areas}
use Rattle.record.specs.declared.Caps.{Caps}
use Rattle.record.specs.declared.Deadman.{Deadman}
use Rattle.record.specs.declared.Log.{Log}
use Rattle.record.specs.declared.Throttles.{Throttles}
use Rattle.record.specs.declared.Timer.{Timer}
use Rattle.change.specs.declared.Change.{Change}
use Rattle.change.specs.declared.Change.TheVariants.{Clear, Unclear, SetState, SetRole, SetCaps, SetUser, SetThermal, SetThrottles, Reset, Unreset, SetMask, SetDeadman, SetAreas, SetTimer}
use Rattle.change.specs.declared.Tables.{Tables}
use Rattle.formed.specs.Formed.{state_ok, flag_ok, role_ok, caps_ok, clock_ok, deadman_ok, timer_ok, pair_ok, pairs_ok, absent_zero, throttles_ok, multiple_of128, in_memory, area_ok, areas_ok, thermal_rule, thermal_ok, next_ok, reason_ok, unused, log_ok, logs_above, logs_ok, cleared_ok, made_ok, unreset_ok, change_ok}
use Rattle.formed.proofs.laws.Thresholds.{order_exactly}
use Rattle.formed.proofs.laws.Formed.{sound, sound_ok}
use Rattle.entries.specs.Entries.{Entry, between, written, scan_from, scan_by, entries_of, scan}
use Rattle.marks.specs.Marks.{marks_of}
use Rattle.entries.proofs.laws.Entries.{Proper, read_append, scan_written, scan_proper}
use Rattle.journal.specs.Read.{found_for, tables_in, values_ok, entry_ok, all_ok, scan_ok, entries_ok}
use Rattle.journal.specs.declared.Way.{Way}
use Rattle.journal.specs.declared.Way.TheVariants.{Before, After}
use Rattle.session.specs.Session.{entries_in, only_clears, well_formed}
use Rattle.session.proofs.laws.Watch.{clears_more, clears_first}
use Rattle.session.proofs.laws.Session.{Store, formed, formed_ok}
use Rattle.session.specs.declared.Session.{Session}
use Rattle.promises.specs.WellFormed.{EachIs, StateHolds, RoleHolds, CapsHold, DeadmanHolds, TimerHolds, PairsHold, ThrottlesHold, AreaHolds, ThermalHolds, Reason, Unused, LogsRise, ChangeHolds, SaysWell, EntriesHold, StoreHolds, EachClears, WellFormed}
use Rattle.session.proofs.laws.Reads.{reads}

abbrev Holds : Bool → Type 0 → Type 0
Holds b P = (b ≡ true) ↔ P

-- ---- a choice, by its test

either_way : {t x y : Bool} {T X Y : Type 0} → Holds t T → Holds x X → Holds y Y → Holds (cond t x y) ((T → X) and ((T → ⊥) → Y))
either_way {t = true} p q r = (λ h. (λ k. q.0 h, λ k. absurd (k (p.0 refl))), λ h. q.1 (h.0 (p.0 refl)))
either_way {t = false} p q r = (λ h. (λ k. absurd (false≢true (p.1 k)), λ k. r.0 h), λ h. r.1 (h.1 (λ k. false≢true (p.1 k))))

-- the other way round
other_way : {t x y : Bool} {T X Y : Type 0} → Holds t T → Holds x X → Holds y Y → Holds (cond (not t) x y) (((T → ⊥) → X) and (T → Y))
other_way {t = true} p q r = (λ h. (λ k. absurd (k (p.0 refl)), λ k. r.0 h), λ h. r.1 (h.1 (p.0 refl)))
other_way {t = false} p q r = (λ h. (λ k. q.0 h, λ k. absurd (false≢true (p.1 k))), λ h. q.1 (h.0 (λ k. false≢true (p.1 k))))

-- both
and_so : {t x : Bool} {T X : Type 0} → Holds t T → Holds x X → Holds (cond t x false) (T and X)
and_so {t = true} p q = (λ h. (p.0 refl, q.0 h), λ h. q.1 h.1)
and_so {t = false} p q = (λ h. absurd (false≢true h), λ h. absurd (false≢true (p.1 h.0)))

itself : {b : Bool} → Holds b (b ≡ true)
itself = (λ h. h, λ h. h)

-- a rule tested first, and the rest
first : {a b : Bool} {P Q : Type 0} → Holds a P → Holds b Q → Holds (cond (not a) false b) (P and Q)
first p q = unless holds refl (not_passes p) q

-- ---- the rules

each_exactly : (v : ℕ) (l : List ℕ) → Holds (all_are v l) (EachIs v l)
unfolding all_are
each_exactly v [] = (λ h. tt, λ h. refl)
each_exactly v (x ∷ l) = and_so (eq_holds x v) (each_exactly v l)

state_exactly : (n : ℕ) → Holds (state_ok n) (StateHolds n)
unfolding state_ok
state_exactly n = unless holds refl (lt_passes n 1) (le_holds n 3)

role_exactly : (got role : ℕ) → Holds (role_ok got role) (RoleHolds got role)
unfolding role_ok flag_ok
role_exactly got role = first (le_holds got 1) (either_way (eq_holds got 0) (eq_holds role 0) (le_holds role 1))

caps_exactly : (got : ℕ) (caps : Caps) → Holds (caps_ok got caps) (CapsHold got caps)
unfolding caps_ok flag_ok
caps_exactly got caps =
    first (le_holds got 1) (other_way (eq_holds got 0) (le_holds caps.min caps.max) (first (eq_holds caps.min 0) (first (eq_holds caps.max 0) (eq_holds caps.over 0))))

clock_exactly : (running time : ℕ) → Holds (clock_ok running time) ((running ≤ 1) and (running ≡ 0 → time ≡ 0))
unfolding clock_ok flag_ok
clock_exactly running time = first (le_holds running 1) (if_needed holds refl (eq_holds running 0) (eq_holds time 0))

deadman_exactly : (d : Deadman) → Holds (deadman_ok d) (DeadmanHolds d)
unfolding deadman_ok
deadman_exactly d = clock_exactly d.running d.time

timer_exactly : (t : Timer) → Holds (timer_ok t) (TimerHolds t)
unfolding timer_ok
timer_exactly t = clock_exactly t.running t.left

pairs_exactly : (n present : ℕ) (sets : List ℕ) → Holds (pairs_ok n present sets) (PairsHold n present sets)
unfolding pairs_ok pair_ok
pairs_exactly zero present sets = (λ h. tt, λ h. refl)
pairs_exactly (suc n) present sets = first (or_so (eq_holds (present % 2) 1) (each_exactly 0 (take 10 sets))) (pairs_exactly n (present / 2) (drop 10 sets))

throttles_exactly : (got : ℕ) (t : Throttles) → Holds (throttles_ok got t) (ThrottlesHold got t)
unfolding throttles_ok flag_ok absent_zero
throttles_exactly got t =
    first (le_holds got 1) (other_way (eq_holds got 0) (pairs_exactly 16 t.present t.sets) (first (eq_holds t.present 0) (each_exactly 0 t.sets)))

area_exactly : (a : Area) → Holds (area_ok a) (AreaHolds a)
unfolding area_ok multiple_of128 in_memory
area_exactly a =
    either_way (eq_holds a.size 0) (eq_holds a.address 0)
    (first (eq_holds (a.address % 128) 0) (first (le_holds (a.address + a.size) (2 ^ 64)) (eq_holds (a.size % 128) 0)))

areas_exactly : (a : Areas) → Holds (areas_ok a) (AreaHolds a.ffdc and AreaHolds a.pass)
unfolding areas_ok
areas_exactly a = first (area_exactly a.ffdc) (area_exactly a.pass)

thermal_exactly : (got : ℕ) (t : List ℕ) → Holds (thermal_ok got t) (ThermalHolds got t)
unfolding thermal_ok flag_ok thermal_rule
thermal_exactly got t =
    first (le_holds got 1)
    (other_way (eq_holds got 0) (first (order_exactly _ _) (first (order_exactly _ _) (order_exactly _ _))) (each_exactly 0xFF t))

next_exactly : (n : ℕ) → Holds (next_ok n) ((1 ≤ n) and (n ≤ 256))
unfolding next_ok
next_exactly n = unless holds refl (lt_passes n 1) (le_holds n 256)

reason_exactly : (n : ℕ) → Holds (reason_ok n) (Reason n)
unfolding reason_ok
reason_exactly n = or_else holds refl (eq_holds n 1) (eq_holds n 2)

unused_exactly : (l : List Log) → Holds (unused l) (Unused l)
unfolding unused
unused_exactly [] = (λ h. tt, λ h. refl)
unused_exactly (x ∷ l) = first (eq_holds x.id 0) (first (eq_holds x.reason 0) (unused_exactly l))

log_exactly : (low next : ℕ) (x : Log) → Holds (log_ok low next x) ((low < x.id) and (x.id < next) and Reason x.reason)
unfolding log_ok
log_exactly low next x = unless holds refl (le_passes x.id low) (unless holds refl (le_passes next x.id) (reason_exactly x.reason))

logs_exactly : (low next : ℕ) (l : List Log) → Holds (logs_above low next l) (LogsRise low next l)
unfolding logs_above
logs_exactly low next [] = (λ h. tt, λ h. refl)
logs_exactly low next (x ∷ l) =
    either_way (eq_holds x.id 0) (unused_exactly (x ∷ l)) (first (log_exactly low next x) (logs_exactly x.id next l))

-- ---- values of a change

nothing : Holds true (Unit {0})
nothing = (λ h. tt, λ h. refl)

cleared_exactly : (place : ℕ) (log : Log) → Holds (cleared_ok place log) ((place ≤ 3) and (log.id ≡ 0 → ⊥) and Reason log.reason)
unfolding cleared_ok
cleared_exactly place log = unless holds refl (lt_passes 3 place) (unless holds refl (eq_passes log.id 0) (reason_exactly log.reason))

change_exactly : (t : Tables) (ch : Change) → Holds (change_ok t ch) (ChangeHolds t ch)
unfolding change_ok made_ok unreset_ok flag_ok
change_exactly t (Clear place log) = cleared_exactly place log
change_exactly t (Unclear place log) = cleared_exactly place log
change_exactly t (SetState state) = state_exactly state
change_exactly t (SetRole got role) = role_exactly got role
change_exactly t (SetCaps got caps) = caps_exactly got caps
change_exactly t (SetUser user) = nothing
change_exactly t (SetThermal got) = thermal_exactly got t.thermal
change_exactly t (SetThrottles got) = throttles_exactly got t.throttles
change_exactly t (Reset log) = either_way (eq_holds log.id 0) (eq_holds log.reason 0) (reason_exactly log.reason)
change_exactly t (Unreset state made) = first (state_exactly state) (le_holds made 1)
change_exactly t (SetMask mask) = nothing
change_exactly t (SetDeadman deadman) = deadman_exactly deadman
change_exactly t (SetAreas areas) = areas_exactly areas
change_exactly t (SetTimer timer) = timer_exactly timer

says_exactly : (t : Tables) (x : Option Change) → Holds (values_ok t x) (SaysWell t x)
unfolding values_ok
says_exactly t (Some ch) = change_exactly t ch
says_exactly t None = (λ h. false≢true h, λ h. absurd h)

-- ---- a store

module _ (w : Way) where
  entries_hold : (es : List Entry) → Proper es → all_ok w es ≡ true → EntriesHold w es
  unfolding all_ok entry_ok
  entries_hold [] p h = tt
  entries_hold (e ∷ es) p h =
      let k = (and_so (says_exactly (tables_in e.kind e.body) (found_for w e.kind e.body)) itself).0 h in
      (p.0.0, (p.0.1, (k.0, entries_hold es p.1 k.1)))

  entries_read : (es : List Entry) → EntriesHold w es → (scan (written es) ≡ between es) × (all_ok w es ≡ true)
  unfolding all_ok entry_ok written scan_by scan_from
  entries_read [] h = (refl, refl)
  entries_read (e ∷ es) h =
      let r = entries_read es h.1.1.1 in (
        read_append (written es) es e r.0 h.0 h.1.0,
        (and_so (says_exactly (tables_in e.kind e.body) (found_for w e.kind e.body)) itself).1 (h.1.1.0, r.1),
      )

  store_holds : (j : List ℕ) (used : ℕ) → Store w j used → StoreHolds w j used
  store_holds j used f =
      let r = reads w (take used j) f.reads in
      record {
        fits = f.fits;
        entries = r.entries;
        reads = scan_written (take used j) r.entries r.scanned;
        hold = entries_hold r.entries (scan_proper (take used j) r.entries r.scanned) r.good;
        unused = (each_exactly 0 (drop used j)).0 f.unused;
      }

  holds_store : (j : List ℕ) (used : ℕ) → StoreHolds w j used → Store w j used
  unfolding entries_ok scan_ok
  holds_store j used h =
      let r = entries_read h.entries h.hold in
      record {
        fits = h.fits;
        reads = ap (λ (l : List ℕ). scan_ok w (scan l)) h.reads ∙ ap (scan_ok w) r.0 ∙ r.1;
        unused = (each_exactly 0 (drop used j)).1 h.unused;
      }

  -- the entries that it holds are those read
  same_entries : (j : List ℕ) (used : ℕ) (f : Store w j used) → entries_in used j ≡ (store_holds j used f).entries
  unfolding entries_in entries_of store_holds
  same_entries j used f = ap entries_of (reads w (take used j) f.reads).scanned

  pub held_entries : (j : List ℕ) (used : ℕ) (h : StoreHolds w j used) → entries_in used j ≡ h.entries
  unfolding entries_in entries_of
  held_entries j used h = ap (λ (l : List ℕ). entries_of (scan l)) h.reads ∙ ap entries_of (entries_read h.entries h.hold).0

-- k: clears only

abbrev Only : List Entry → Type 0
Only es = only_clears es ≡ true

each_clears : (es : List Entry) → Only es ↔ EachClears es
unfolding only_clears
each_clears [] = ((λ h. tt), (λ h. refl))
each_clears (e ∷ es) =
    let r = each_clears es in
    ((λ h. let t = clears_first e es h in (t.0, r.0 t.1)), (λ h. clears_more e es h.0 (r.1 h.1)))

-- ---- a session

pub plainly_formed : (s : Session) → (well_formed s ≡ true) ↔ WellFormed s
unfolding logs_ok
plainly_formed s = (
  λ h.
      let f = formed s h in
      let r = sound f.record_ok_lem in
      let areas = (areas_exactly s.held.areas).0 r.areas in
      record {
        state = (state_exactly _).0 r.state;
        role = (role_exactly _ _).0 r.role;
        caps = (caps_exactly _ _).0 r.caps;
        deadman = (deadman_exactly _).0 r.deadman;
        throttles = (throttles_exactly _ _).0 r.throttles;
        ffdc = areas.0;
        pass = areas.1;
        thermal = (thermal_exactly _ _).0 r.thermal;
        next = (next_exactly _).0 r.next;
        logs = (logs_exactly 0 _ _).0 r.logs;
        worked = f.worked_is;
        timer = (timer_exactly _).0 f.timer_ok_lem;
        journal = store_holds Before _ _ f.journal;
        marks = f.marks_are ∙ ap marks_of (same_entries Before s.journal s.used f.journal);
        redo = store_holds After _ _ f.redo;
        both = f.both_fit;
        profile =
            ⊎_elim (λ z. inl z)
            (λ h. inr (h.0, ((each_clears _).0 (subst Only (same_entries Before s.journal s.used f.journal) h.1), (each_clears _).0 (subst Only (same_entries After s.redo s.ahead f.redo) h.2))))
            f.profile_is;
      },
  λ p.
      formed_ok s (record {
        record_ok_lem = sound_ok (record {
          state = (state_exactly _).1 p.state;
          role = (role_exactly _ _).1 p.role;
          caps = (caps_exactly _ _).1 p.caps;
          deadman = (deadman_exactly _).1 p.deadman;
          throttles = (throttles_exactly _ _).1 p.throttles;
          areas = (areas_exactly s.held.areas).1 (p.ffdc, p.pass);
          thermal = (thermal_exactly _ _).1 p.thermal;
          next = (next_exactly _).1 p.next;
          logs = (logs_exactly 0 _ _).1 p.logs;
        });
        worked_is = p.worked;
        timer_ok_lem = (timer_exactly _).1 p.timer;
        both_fit = p.both;
        journal = holds_store Before _ _ p.journal;
        marks_are = p.marks ∙ ap marks_of (sym (held_entries Before s.journal s.used p.journal));
        redo = holds_store After _ _ p.redo;
        profile_is =
            ⊎_elim (λ z. inl z)
            (λ h. inr (h.0, subst Only (sym (held_entries Before s.journal s.used p.journal)) ((each_clears _).1 h.1.0), subst Only (sym (held_entries After s.redo s.ahead p.redo)) ((each_clears _).1 h.1.1)))
            p.profile;
      }),
)
