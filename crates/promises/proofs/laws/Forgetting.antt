-- Forgetting the oldest changes: the session of a history is that of the changes kept, from the record that the forgotten ones gave. Assumes nothing.
use Prim.Native.Nat.{ℕ, zero, suc, ◌+◌, ◌-◌, ◌≤◌}
use Rattle.std.specs.Prelude.{true, ◌≡◌, ltb, take}
use Rattle.std.proofs.Math.Bool.{cond, not}
use Rattle.std.proofs.Math.Path.{refl, sym, ap, ap₂}
use Rattle.std.proofs.Common.{subst, ◌∙◌, arith, take-append-drop, take-take, drop_at, length-take-le}
use mathlib.Core.List.{List, [], ◌∷◌, ◌++◌, append_assoc, append-nil}
use Rattle.std.proofs.Math.ListN.{length, drop, length-append}
use Rattle.std.proofs.lemmas.List.{replicate-append-replicate, drop-append-le}
use Rattle.std.proofs.Math.Seq.{drop-append_seam}
use Rattle.wire.proofs.laws.Cases.{else_b}
use Rattle.record.specs.declared.Record.{Record}
use Rattle.change.specs.Change.{put_after, inverse_of}
use Rattle.change.specs.declared.Edit.{Edit}
use Rattle.formed.specs.Formed.{record_ok}
use Rattle.entries.specs.Entries.{Entry, written, Scan, between, entries_of, scan}
use Rattle.journal.specs.Bytes.{entry_bytes}
use Rattle.journal.specs.Ways.{by_way}
use Rattle.journal.specs.declared.Way.TheVariants.{Before}
use Rattle.session.specs.Session.{entries_in, renewed}
use Rattle.session.specs.Road.{refuses, forgets, held_in, oldest, freed_by, moved_down, session_freed, forgotten}
use Rattle.session.proofs.laws.Forgotten.{freed_is}
use Rattle.session.specs.declared.Session.{Session}
use Rattle.session.proofs.laws.Timer.{Clock}
use Rattle.links.specs.Typed.{TypedRecord}
use Rattle.forget_call.specs.Forget.{oldest_asks, forget_asks}
use Rattle.promises.specs.History.{applied, oldest_of, newer_than}
use Rattle.promises.proofs.laws.Stores.{zeros, padded, take_padded, flat, pile, pile_reads, pile_written}
use Rattle.promises.proofs.laws.ByHistory.{standing, backs, by_history, journal_of, Kept, Sane, step_at, again_at, backs_stored, backs_count, history_formed}

-- ---- the changes left, in two parts

pub two_parts : (g : ℕ) (es : List Edit) → newer_than g es ++ oldest_of g es ≡ es
two_parts g es = take-append-drop (length es - g) es

pub newer_count : (g : ℕ) (es : List Edit) → length (newer_than g es) ≡ length es - g
newer_count g es = length-take-le (length es - g) es (omega arith)

module _ (g : ℕ) (e : Edit) (es : List Edit) (low : g ≤ length es) where
  one_more : length (e ∷ es) - g ≡ suc (length es - g)
  one_more = omega (arith, low)

  pub newer_more : newer_than g (e ∷ es) ≡ e ∷ newer_than g es
  newer_more = ap (λ (n : ℕ). take n (e ∷ es)) one_more

  pub oldest_more : oldest_of g (e ∷ es) ≡ oldest_of g es
  oldest_more = ap (λ (n : ℕ). drop n (e ∷ es)) one_more

-- the newest that is kept is the newest left
pub record NewestKept (g : ℕ) (l : List Edit) (e : Edit) (x : List Edit) : Type 0 where
  pub older : List Edit
  pub are : l ≡ e ∷ older
  pub kept : newer_than g older ≡ x
  pub low : g ≤ length older

heads : (a b : Edit) (xs ys : List Edit) → ◌≡◌ {A = List Edit} (a ∷ xs) (b ∷ ys) → (a ≡ b) × (xs ≡ ys)
heads a b xs ys h = (ap (first a) h, ap rest h)
  where
    first : Edit → List Edit → Edit
    first d [] = d
    first d (y ∷ l) = y

    rest : List Edit → List Edit
    rest [] = []
    rest (y ∷ l) = l

pub newest_kept : (g : ℕ) (l : List Edit) (e : Edit) (x : List Edit) → g ≤ length l → newer_than g l ≡ e ∷ x → NewestKept g l e x
newest_kept g [] e x low h = absurd (omega (arith, ap length h, newer_count g []))
newest_kept g (y ∷ l) e x low h =
    let n = newer_count g (y ∷ l) in
    let below : g ≤ length l = omega (arith, ap length h, n) in
    let same = heads y e (newer_than g l) x (sym (newer_more g y l below) ∙ h) in
    record { older = l; are = ap (λ (z : Edit). z ∷ l) same.0; kept = same.1; low = below }

-- ---- the record

pub applied_append : (r : Record) (xs ys : List Edit) → applied r (xs ++ ys) ≡ applied (applied r ys) xs
unfolding applied
applied_append r [] ys = refl
applied_append r (e ∷ xs) ys = ap (λ (x : Record). put_after x e) (applied_append r xs ys)

pub whole_record : (r : Record) (g : ℕ) (es : List Edit) → applied (applied r (oldest_of g es)) (newer_than g es) ≡ applied r es
whole_record r g es = sym (applied_append r (newer_than g es) (oldest_of g es)) ∙ ap (applied r) (two_parts g es)

-- ---- more are forgotten

module _ (g n : ℕ) (es : List Edit) (low : g ≤ length es) (more : n ≤ length (newer_than g es)) where
  pub newer_twice : newer_than (g + n) es ≡ newer_than n (newer_than g es)
  newer_twice =
      let k : length es - (g + n) ≡ length (newer_than g es) - n = omega (arith, newer_count g es) in
      ap (λ (m : ℕ). take m es) k ∙ sym (take-take (length (newer_than g es) - n) (length es - g) es (omega (arith, newer_count g es)))

  pub oldest_twice : oldest_of (g + n) es ≡ oldest_of n (newer_than g es) ++ oldest_of g es
  oldest_twice =
      let k : length es - (g + n) ≡ length (newer_than g es) - n = omega (arith, newer_count g es) in
      ap (λ (m : ℕ). drop m es) k
      ∙ ap (drop (length (newer_than g es) - n)) (sym (two_parts g es))
      ∙ drop-append-le (length (newer_than g es) - n) (newer_than g es) (oldest_of g es) (omega arith)

  pub start_twice : (r : Record) → applied r (oldest_of (g + n) es) ≡ applied (applied r (oldest_of g es)) (oldest_of n (newer_than g es))
  start_twice r = ap (applied r) oldest_twice ∙ applied_append r (oldest_of n (newer_than g es)) (oldest_of g es)

-- ---- the entries

flat_append : (xs ys : List Edit) → flat (xs ++ ys) ≡ flat ys ++ flat xs
unfolding flat
flat_append [] ys = sym (append-nil (flat ys))
flat_append (x ∷ xs) ys = ap (λ (l : List ℕ). l ++ entry_bytes x) (flat_append xs ys) ∙ append_assoc (flat ys) (flat xs) (entry_bytes x)

pile_drop : (k : ℕ) (bs : List Edit) → drop k (pile bs) ≡ pile (drop k bs)
unfolding pile
pile_drop zero bs = refl
pile_drop (suc k) [] = refl
pile_drop (suc k) (b ∷ bs) = pile_drop k bs

count_backs : (base : Record) (es : List Edit) → length (backs base es) ≡ length es
unfolding backs
count_backs base [] = refl
count_backs base (e ∷ es) = ap suc (count_backs base es)

module _ (base : Record) where
  backs_append : (xs ys : List Edit) → backs base (xs ++ ys) ≡ backs (applied base ys) xs ++ backs base ys
  unfolding backs
  backs_append [] ys = refl
  backs_append (e ∷ xs) ys = ap₂ (λ (r : Record) (l : List Edit). inverse_of r e ∷ l) (applied_append base xs ys) (backs_append xs ys)

  kept_newer : (p hi : ℕ) (xs ys : List Edit) → Kept base p hi (xs ++ ys) → Kept (applied base ys) p hi xs
  kept_newer p hi [] ys k = tt
  kept_newer p hi (e ∷ xs) ys k = (step_at base p (applied base ys) hi e (xs ++ ys) xs (applied_append base xs ys) k.0, kept_newer p hi xs ys k.1)

  module _ (s : Session) (es : List Edit) (next : ℕ) (rs : List Edit) (sane : Sane base s.profile es next rs) (n : ℕ) (few : n ≤ length es) where
    abbrev os : List Edit
    os = oldest_of n es

    abbrev ks : List Edit
    ks = newer_than n es

    abbrev from : Record
    from = applied base os

    backs_are : backs base es ≡ backs from ks ++ backs base os
    backs_are = ap (backs base) (sym (two_parts n es)) ∙ backs_append ks os

    journal_parts : journal_of base es ≡ flat (backs base os) ++ journal_of from ks
    journal_parts = ap flat backs_are ∙ flat_append (backs from ks) (backs base os)

    abbrev at : ℕ
    at = length (flat (backs base os))

    sum : length (journal_of base es) ≡ at + length (journal_of from ks)
    sum = ap length journal_parts ∙ length-append (flat (backs base os)) (journal_of from ks)

    pub forget_sane : Sane from s.profile ks next rs
    forget_sane = record {
      small = sane.small;
      fits = omega (arith, sane.fits, sum);
      ok = subst (λ (r : Record). record_ok r next ≡ true) (sym (whole_record base n es)) sane.ok;
      typed = subst TypedRecord (sym (whole_record base n es)) sane.typed;
      kept = kept_newer s.profile next ks os (subst (Kept base s.profile next) (sym (two_parts n es)) sane.kept);
      again = again_at base s.profile from next es ks rs (sym (whole_record base n es)) sane.again;
      profile = sane.profile;
    }

    abbrev was : Session
    was = by_history base s es next rs

    reads : scan (take was.used was.journal) ≡ between (pile (backs base es))
    unfolding by_history standing by_way renewed
    reads = ap scan (take_padded (flat (backs base es))) ∙ pile_reads Before (backs base es) (backs_stored base s.profile next es sane.kept)

    pub held_history : held_in was ≡ length es
    unfolding held_in entries_in entries_of
    held_history = ap (λ (x : Scan). length (entries_of x)) reads ∙ backs_count base es

    freed : freed_by n was ≡ at
    unfolding oldest
    freed =
        let bs = backs base es in
        let k : length (pile bs) - n ≡ length (backs from ks) = omega (arith, backs_count base es, count_backs from ks, newer_count n es) in
        freed_is n was (pile bs) reads
        ∙ ap (λ (l : List Entry). length (written l)) (pile_drop (length (pile bs) - n) bs)
        ∙ ap length (pile_written (drop (length (pile bs) - n) bs))
        ∙ ap (λ (l : List Edit). length (flat (drop (length (pile bs) - n) l))) backs_are
        ∙ ap (λ (l : List Edit). length (flat l)) (drop_at (backs from ks) (backs base os) (length (pile bs) - n) (sym k))

    moved : moved_down at (padded (journal_of base es)) ≡ padded (journal_of from ks)
    unfolding moved_down padded
    moved =
        let a = flat (backs base os) in
        let b = journal_of from ks in
        let m : ℕ = 2048 - length (a ++ b) in
        let k : m + at ≡ 2048 - length b = omega (arith, sane.fits, sum, length-append a b) in
        ap (λ (l : List ℕ). drop at (l ++ zeros (2048 - length l)) ++ zeros at) journal_parts
        ∙ ap (λ (l : List ℕ). drop at l ++ zeros at) (append_assoc a b (zeros m))
        ∙ ap (λ (l : List ℕ). l ++ zeros at) (drop-append_seam a (b ++ zeros m))
        ∙ append_assoc b (zeros m) (zeros at)
        ∙ ap (λ (l : List ℕ). b ++ l) (replicate-append-replicate m at 0 ∙ ap zeros k)

    -- the session without them is that of the others, from the record that they gave
    pub forget_history : forgotten n was ≡ by_history from s ks next rs
    unfolding forgotten session_freed by_history standing by_way renewed
    forget_history =
        let j = ap (λ (k : ℕ). moved_down k (padded (journal_of base es))) freed ∙ moved in
        let u : length (journal_of base es) - freed_by n was ≡ length (journal_of from ks) = omega (arith, freed, sum) in
        λ i. renewed s (sym (whole_record base n es) i) next (j i) (u i) (padded (flat rs)) (length (flat rs))

  -- what it asks of that session
  pub forget_asks_lem : (s : Session) → Clock s.timer → (es : List Edit) (next : ℕ) (rs : List Edit) → Sane base s.profile es next rs → (n : ℕ)
      → forget_asks n (by_history base s es next rs) ≡ cond (ltb (length es) n) (refuses 9) (forgets n)
  unfolding forget_asks oldest_asks
  forget_asks_lem s c es next rs sane n =
      sym (else_b _ _ (ap not (history_formed base s c es next rs sane)) refl)
      ∙ ap (λ (k : ℕ). cond (ltb k n) (refuses 9) (forgets n)) (held_history s es next rs sane 0 (omega arith))
