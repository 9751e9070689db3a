-- A well-formed session by its parts. Assumes nothing.
use Rattle.std.specs.Prelude.{ℕ, ◌+◌, ◌≤◌, Bool, true, false, cond, not, ◌≡◌, refl, ◌⊎◌, List, ltb, eqb, length, take, drop, Option, Some, None}
use Rattle.std.proofs.lemmas.Bool.{false≢true}
use Rattle.std.proofs.Common.{true≢false, sym, ap, ◌∙◌, inl, inr, arith, ltb-false, leb-true, eqb-true, eq-eqb}
use Rattle.wire.specs.Wire.{all_are}
use Rattle.wire.proofs.laws.Cases.{cond_cases, if_eq, else_eq, else_lt, else_ne}
use Rattle.record.specs.Record.{worked_of}
use Rattle.record.specs.declared.Worked.{Worked}
use Rattle.formed.specs.Formed.{timer_ok, record_ok, next_ok}
use Rattle.formed.proofs.laws.Formed.{both_hold, hold_both, sound}
use Rattle.entries.specs.Entries.{Entry}
use Rattle.marks.specs.Marks.{same}
use Rattle.marks.proofs.laws.Tested.{same_is, is_same}
use Rattle.journal.specs.Read.{entries_ok}
use Rattle.session.specs.declared.Session.{Session}
use Rattle.change.specs.Change.{takes_back}
use Rattle.change.specs.declared.Edit.{Edit}
use Rattle.journal.specs.Add.{end_of}
use Rattle.journal.specs.declared.Way.{Way}
use Rattle.journal.specs.declared.Way.TheVariants.{Before, After}
use Rattle.session.specs.Session.{worked_fits, held_ok, store_ok, stores_ok, entries_in, marks_for, only_clears, profile_ok, well_formed, renewed, carried_to, carried_of}

-- a first test that must not hold, and the rest
ltb_hold : (m n : ℕ) (b : Bool) → cond (ltb m n) false b ≡ true → (n ≤ m) × (b ≡ true)
ltb_hold m n b h = go (ltb m n) refl h
  where
    go : (t : Bool) → ltb m n ≡ t → cond t false b ≡ true → (n ≤ m) × (b ≡ true)
    go true e h = absurd (false≢true h)
    go false e h = (ltb-false m n e, h)

worked_same : (a b : Worked) → worked_fits a b ≡ true → a ≡ b
unfolding worked_fits
worked_same a b h =
    let p = both_hold (eqb a.limit b.limit) _ h in
    let q = both_hold (eqb a.observation b.observation) _ p.1 in
    let r = both_hold (eqb a.active b.active) _ q.1 in
    let l = eqb-true a.limit b.limit p.0 in
    let o = eqb-true a.observation b.observation q.0 in
    let c = eqb-true a.active b.active r.0 in
    let w = eqb-true a.wanted b.wanted r.1 in
    λ i. record { limit = l i; observation = o i; active = c i; wanted = w i }

pub worked_fits_lem : (a : Worked) → worked_fits a a ≡ true
unfolding worked_fits
worked_fits_lem a =
    sym (else_ne _ _ {m = a.limit} {n = a.limit} refl
    (else_ne _ _ {m = a.observation} {n = a.observation} refl
    (else_ne _ _ {m = a.active} {n = a.active} refl (sym (eq-eqb a.wanted a.wanted refl)))))

-- what the test for answer 1 says, part by part; of a store first
pub record Store (w : Way) (j : List ℕ) (used : ℕ) : Type 0 where
  pub fits : used ≤ length j
  pub reads : entries_ok w (take used j) ≡ true
  pub unused : all_are 0 (drop used j) ≡ true

pub store : (w : Way) (j : List ℕ) (used : ℕ) → store_ok w j used ≡ true → Store w j used
unfolding store_ok
store w j used h =
    let r = ltb_hold (length j) used _ h in
    let t = both_hold (entries_ok w (take used j)) _ r.1 in
    record { fits = r.0; reads = t.0; unused = t.1 }

pub store_ok_lem : (w : Way) (j : List ℕ) (used : ℕ) → Store w j used → store_ok w j used ≡ true
unfolding store_ok
store_ok_lem w j used f = sym (else_lt _ _ {m = length j} {n = used} f.fits (sym (hold_both f.reads f.unused)))

pub record Stores (s : Session) : Type 0 where
  pub both_fit : s.used + s.ahead ≤ 2048
  pub journal : Store Before s.journal s.used
  pub marks_are : s.marks ≡ marks_for s.journal s.used
  pub redo : Store After s.redo s.ahead

pub stores : (s : Session) → stores_ok s ≡ true → Stores s
unfolding stores_ok
stores s h =
    let r = ltb_hold 2048 (s.used + s.ahead) _ h in
    let t = both_hold (store_ok Before s.journal s.used) _ r.1 in
    let u = both_hold (same s.marks (marks_for s.journal s.used)) _ t.1 in
    record { both_fit = r.0; journal = store Before _ _ t.0; marks_are = same_is _ _ u.0; redo = store After _ _ u.1 }

-- full, or watch-only with clears alone
abbrev pub Profile : ℕ → List Entry → List Entry → Type 0
Profile p js rs = (p ≡ 0) ⊎ ((p ≡ 1) × (only_clears js ≡ true) × (only_clears rs ≡ true))

profile : (p : ℕ) (js rs : List Entry) → profile_ok p js rs ≡ true → Profile p js rs
unfolding profile_ok
profile p js rs =
    cond_cases (λ (x : Bool). x ≡ true → Profile p js rs) (eqb p 0) (λ t h. inl (eqb-true p 0 t))
    (λ t h. let one = both_hold (eqb p 1) _ h in let clears = both_hold (only_clears js) _ one.1 in inr (eqb-true p 1 one.0, clears.0, clears.1))

profile_ok_lem : (p : ℕ) (js rs : List Entry) → Profile p js rs → profile_ok p js rs ≡ true
unfolding profile_ok
profile_ok_lem p js rs (inl z) = sym (if_eq _ _ z refl)
profile_ok_lem p js rs (inr h) =
    let z : p ≡ 0 → ⊥ = λ z. omega (arith, z, h.0) in
    sym (else_eq _ _ {m = p} {n = 0} z (sym (hold_both (eq-eqb p 1 h.0) (hold_both h.1 h.2))))

pub record Formed (s : Session) : Type 0 where
  pub record_ok_lem : record_ok s.held s.next ≡ true
  pub worked_is : s.worked ≡ worked_of s.held
  pub timer_ok_lem : timer_ok s.timer ≡ true
  pub both_fit : s.used + s.ahead ≤ 2048
  pub journal : Store Before s.journal s.used
  pub marks_are : s.marks ≡ marks_for s.journal s.used
  pub redo : Store After s.redo s.ahead
  pub profile_is : Profile s.profile (entries_in s.used s.journal) (entries_in s.ahead s.redo)

pub formed : (s : Session) → well_formed s ≡ true → Formed s
unfolding well_formed held_ok
formed s h =
    let p = both_hold (held_ok s.held s.worked s.next) _ h in
    let q = both_hold (record_ok s.held s.next) _ p.0 in
    let timer = both_hold (timer_ok s.timer) _ p.1 in
    let rest = both_hold (stores_ok s) _ timer.1 in
    let r = stores s rest.0 in
    record {
      record_ok_lem = q.0;
      worked_is = sym (worked_same _ _ q.1);
      timer_ok_lem = timer.0;
      both_fit = r.both_fit;
      journal = r.journal;
      marks_are = r.marks_are;
      redo = r.redo;
      profile_is = profile s.profile _ _ rest.1;
    }

pub formed_ok : (s : Session) → Formed s → well_formed s ≡ true
unfolding well_formed held_ok stores_ok
formed_ok s f =
    hold_both
    (hold_both f.record_ok_lem (ap (worked_fits (worked_of s.held)) f.worked_is ∙ worked_fits_lem (worked_of s.held)))
    (hold_both f.timer_ok_lem
    (hold_both
    (sym (else_lt _ _ {m = 2048} {n = s.used + s.ahead} f.both_fit (sym (hold_both (store_ok_lem Before _ _ f.journal) (hold_both (ap (same s.marks) (sym f.marks_are) ∙ is_same s.marks) (store_ok_lem After _ _ f.redo))))))
    (profile_ok_lem s.profile _ _ f.profile_is)))

pub formed_next : (s : Session) → well_formed s ≡ true → s.next ≤ 256
unfolding next_ok
formed_next s h = leb-true s.next 256 (ltb_hold s.next 1 _ (sound (formed s h).record_ok_lem).next).1

-- a refusal that begins with answer 1 is none only of a well-formed session
pub none_due : (b : Bool) (n : ℕ) → cond (not b) 1 n ≡ 0 → b ≡ true
none_due true n h = refl
none_due false n h = let z : ⊥ = omega (arith, h) in absurd z

-- after carrying out, what is worked out is the new record's
pub carried_worked : (s : Session) (e : Edit) → (carried_of s e).full ≡ false → (carried_of s e).session.worked ≡ worked_of (carried_of s e).session.held
unfolding carried_of carried_to renewed
carried_worked s e f = go (end_of (length s.journal) s.used (takes_back s.held s.timer e)) f
  where
    go : (x : Option ℕ) → (carried_to s e x).full ≡ false → (carried_to s e x).session.worked ≡ worked_of (carried_to s e x).session.held
    go (Some used) f = refl
    go None f = absurd (true≢false f)
