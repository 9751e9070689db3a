-- Document 02, k: clears only, over the entries of a store; a session opened watch-only is well formed. Assumes nothing.
use Rattle.std.specs.Prelude.{ℕ, zero, suc, Bool, true, false, cond, not, ◌≡◌, refl, List, [], ◌∷◌, ◌++◌, eqb, take, replicate}
use Rattle.std.proofs.Common.{inl, inr, ap, ◌∙◌, arith, eqb-true, eq-eqb, ne_eqb}
use Rattle.wire.proofs.laws.Wire.{all_replicate}
use Rattle.formed.proofs.laws.Formed.{both_hold, hold_both}
use Rattle.entries.specs.Entries.{Entry, between, scan_from, scan_by, scan, entries_of}
use Rattle.journal.specs.Read.{all_ok, scan_ok, entries_ok}
use Rattle.journal.specs.declared.Way.{Way}
use Rattle.journal.specs.declared.Way.TheVariants.{Before, After}
use Rattle.session.specs.Session.{entries_in, only_clears, well_formed, renewed, with_profile}
use Rattle.session.specs.Road.{watch_only}
use Rattle.session.proofs.laws.Session.{Store, Profile, formed, formed_ok}
use Rattle.session.specs.declared.Session.{Session}

-- ---- clears only

pub clears_more : (e : Entry) (es : List Entry) → e.kind ≡ 1 → only_clears es ≡ true → only_clears (e ∷ es) ≡ true
unfolding only_clears
clears_more e es k h = hold_both (eq-eqb e.kind 1 k) h

pub clears_first : (e : Entry) (es : List Entry) → only_clears (e ∷ es) ≡ true → (e.kind ≡ 1) × (only_clears es ≡ true)
unfolding only_clears
clears_first e es h = let t = both_hold (eqb e.kind 1) _ h in (eqb-true e.kind 1 t.0, t.1)

pub clears_take : (k : ℕ) (es : List Entry) → only_clears es ≡ true → only_clears (take k es) ≡ true
unfolding only_clears
clears_take zero es h = refl
clears_take (suc k) [] h = refl
clears_take (suc k) (e ∷ es) h = let t = clears_first e es h in clears_more e (take k es) t.0 (clears_take k es t.1)

-- another kind among them, newer ones before it
pub not_clears : (ns : List Entry) (e : Entry) (es : List Entry) → (e.kind ≡ 1 → ⊥) → only_clears (ns ++ (e ∷ es)) ≡ false
unfolding only_clears
not_clears [] e es k = ap (λ (b : Bool). cond (not b) false (only_clears es)) (ne_eqb e.kind 1 k)
not_clears (n ∷ ns) e es k = ap (cond (not (eqb n.kind 1)) false) (not_clears ns e es k) ∙ both_false (not (eqb n.kind 1))
  where
    both_false : (b : Bool) → cond b false false ≡ false
    both_false true = refl
    both_false false = refl

-- ---- the profile of a session whose stores are others

pub profile_kept : (p : ℕ) (js rs ks ss : List Entry) → Profile p js rs → (only_clears js ≡ true → only_clears rs ≡ true → (only_clears ks ≡ true) × (only_clears ss ≡ true)) → Profile p ks ss
profile_kept p js rs ks ss (inl z) more = inl z
profile_kept p js rs ks ss (inr h) more = let m = more h.1 h.2 in inr (h.0, m.0, m.1)

-- the entries that were read
pub entries_read : (used : ℕ) (j : List ℕ) (es : List Entry) → scan (take used j) ≡ between es → entries_in used j ≡ es
unfolding entries_in entries_of
entries_read used j es r = ap entries_of r

-- ---- opening

-- a store with nothing in it
pub none_used : (w : Way) (n : ℕ) → Store w (replicate n 0) 0
unfolding entries_ok scan_ok scan_by scan_from all_ok
none_used w n = record { fits = omega arith; reads = refl; unused = all_replicate 0 n }

pub watch_formed : (s : Session) → well_formed s ≡ true → well_formed (watch_only s) ≡ true
unfolding watch_only renewed with_profile entries_in entries_of scan_by scan_from only_clears
watch_formed s whole =
    let f = formed s whole in
    formed_ok (watch_only s)
    (record {
      record_ok_lem = f.record_ok_lem;
      worked_is = refl;
      timer_ok_lem = f.timer_ok_lem;
      both_fit = omega arith;
      journal = none_used Before 2048;
      marks_are = refl;
      redo = none_used After 2048;
      profile_is = inr (refl, refl, refl);
    })
