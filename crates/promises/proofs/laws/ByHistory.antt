-- A session by its history: the changes that are left, those that can be redone and the next id determine it, byte for byte, but for what no
-- change touches. Assumes nothing.
use Rattle.std.specs.Option.{unwrap_or}
use Prim.Native.Nat.{ℕ, suc, ◌+◌, ◌≤◌}
use Rattle.std.specs.Prelude.{true, ◌⊎◌, ◌≡◌, length, Option}
use Rattle.std.proofs.Math.Logic.{inl, inr, ⊎_elim}
use Rattle.std.proofs.Math.Path.{refl, ap}
use Rattle.std.proofs.Common.{sym, subst, ◌∙◌, arith}
use mathlib.Core.List.{List, [], ◌∷◌}
use Rattle.record.specs.declared.Record.{Record}
use Rattle.record.specs.declared.Timer.{Timer}
use Rattle.change.specs.Change.{put_after, inverse_of, timed}
use Rattle.change.proofs.laws.Timed.{kind_of_back, timed_kind, timed_puts}
use Rattle.change.specs.declared.Edit.{Edit}
use Rattle.formed.specs.Formed.{record_ok}
use Rattle.entries.specs.Entries.{Scan, entries_of, scan}
use Rattle.marks.specs.Marks.{passed_of}
use Rattle.journal.specs.declared.Way.{Way}
use Rattle.journal.specs.declared.Way.TheVariants.{Before, After}
use Rattle.journal.specs.Bytes.{entry_for}
use Rattle.journal.specs.Ways.{by_way}
use Rattle.undo_call.specs.Undo.{passed_by}
use Rattle.session.specs.Session.{entries_in, only_clears, well_formed, renewed, with_timer, with_profile, made_of}
use Rattle.session.proofs.laws.Session.{Profile, formed_ok}
use Rattle.session.proofs.laws.Watch.{clears_more}
use Rattle.session.proofs.laws.Timer.{Clock}
use Rattle.session.specs.declared.Session.{Session}
use Rattle.links.specs.Typed.{TypedRecord}
use Rattle.links.proofs.laws.Made.{Made}
use Rattle.links.proofs.laws.Links.{Link, next_up}
use Rattle.promises.specs.History.{applied}
use Rattle.promises.proofs.laws.Sound.{Lets}
use Rattle.promises.proofs.laws.Timed.{timed_made, made_timed, link_timed}
use Rattle.promises.proofs.laws.Stores.{padded, take_padded, flat, AllStored, pile, pile_reads, flat_formed}

-- the session s with these entries in the store that a way takes from, and those in the other one
unfoldable pub standing : Way → Session → Record → ℕ → List Edit → List Edit → Session
standing w s r next from to =
    renewed s r next (by_way w (padded (flat from)) (padded (flat to))) (by_way w (length (flat from)) (length (flat to)))
    (by_way w (padded (flat to)) (padded (flat from))) (by_way w (length (flat to)) (length (flat from)))

module _ (base : Record) where
  -- the entries that changes made, each on the record that the changes before it give
  unfoldable pub backs : List Edit → List Edit
  backs [] = []
  backs (e ∷ es) = inverse_of (applied base es) e ∷ backs es

  abbrev pub journal_of : List Edit → List ℕ
  journal_of es = flat (backs es)

  -- es are left; rs can be redone, the last struck first: what was after is the change itself
  unfoldable pub by_history : Session → List Edit → ℕ → List Edit → Session
  by_history s es next rs = standing Before s (applied base es) next (backs es) rs

  -- what no change touches is the session's own
  own_kept : (s : Session) (es : List Edit) (next : ℕ) (rs : List Edit) → by_history s es next rs ≡ by_history (by_history s es next rs) es next rs
  unfolding by_history standing renewed
  own_kept s es next rs = refl

  pub own_history : (s t : Session) (es : List Edit) (next : ℕ) (rs : List Edit) → t ≡ by_history s es next rs → t ≡ by_history t es next rs
  own_history s t es next rs e = e ∙ own_kept s es next rs ∙ ap (λ (x : Session). by_history x es next rs) (sym e)

  -- which is its timer and its profile
  pub own_timer : (s t : Session) (es : List Edit) (next : ℕ) (rs : List Edit) → t.timer ≡ s.timer → t.profile ≡ s.profile → by_history t es next rs ≡ by_history s es next rs
  unfolding by_history standing renewed with_timer with_profile
  own_timer s t es next rs p q = λ i. by_history (with_profile (with_timer s (p i)) (q i)) es next rs

  -- each change that is left is undone by its entry, and the record before it is well formed at the next id hi; in a session of the profile p (k)
  pub record Step (p hi : ℕ) (e : Edit) (es : List Edit) : Type 0 where
    pub known : ℕ
    pub made : Made (applied base es) known e.tables e.change
    pub below : known + made_of e.change ≤ hi
    pub links : Link (applied base es) known e
    pub ok : record_ok (applied base es) hi ≡ true
    pub typed : TypedRecord (applied base es)
    pub lets : Lets p e.change

  abbrev pub Kept : ℕ → ℕ → List Edit → Type 0
  Kept p hi [] = Unit {0}
  Kept p hi (e ∷ es) = Step p hi e es × Kept p hi es

  -- and so is each that can be redone, after those redone before it
  abbrev pub Again : ℕ → ℕ → List Edit → List Edit → Type 0
  Again p hi es [] = Unit {0}
  Again p hi es (r ∷ rs) = Step p hi r es × Again p hi (r ∷ es) rs

  pub record Sane (p : ℕ) (es : List Edit) (next : ℕ) (rs : List Edit) : Type 0 where
    pub small : next ≤ 256
    pub fits : length (journal_of es) + length (flat rs) ≤ 2048
    pub ok : record_ok (applied base es) next ≡ true
    pub typed : TypedRecord (applied base es)
    pub kept : Kept p next es
    pub again : Again p next es rs
    pub profile : (p ≡ 0) ⊎ (p ≡ 1)

  pub kept_up : (p hi hi' : ℕ) (es : List Edit) → hi ≤ hi' → hi' ≤ 256 → Kept p hi es → Kept p hi' es
  kept_up p hi hi' [] h k w = tt
  kept_up p hi hi' (e ∷ es) h k w =
      (record { known = w.0.known; made = w.0.made; below = omega (arith, w.0.below); links = w.0.links; ok = next_up (applied base es) hi hi' w.0.ok h k; typed = w.0.typed; lets = w.0.lets }, kept_up p hi hi' es h k w.1)

  -- ---- both stores hold them

  pub backs_stored : (p hi : ℕ) (es : List Edit) → Kept p hi es → AllStored Before (backs es)
  unfolding backs
  backs_stored p hi [] k = tt
  backs_stored p hi (e ∷ es) k = let l = k.0.links in (record { writable = l.back_writable; good = l.entry_good; reads = l.entry_reads }, backs_stored p hi es k.1)

  pub again_stored : (p hi : ℕ) (es rs : List Edit) → Again p hi es rs → AllStored After rs
  again_stored p hi es [] k = tt
  again_stored p hi es (r ∷ rs) k = let l = k.0.links in (record { writable = l.here_writable; good = l.redo_good; reads = l.redo_reads }, again_stored p hi (r ∷ es) rs k.1)

  -- the journal holds as many entries as changes are left, so that many decide the number passed
  pub backs_count : (es : List Edit) → length (pile (backs es)) ≡ length es
  unfolding pile backs
  backs_count [] = refl
  backs_count (e ∷ es) = ap suc (backs_count es)

  pub passed_history : (s : Session) (es : List Edit) (next : ℕ) (rs : List Edit) → Sane s.profile es next rs → passed_by Before (by_history s es next rs) ≡ passed_of (length es)
  unfolding by_history standing by_way renewed passed_by entries_in entries_of
  passed_history s es next rs g =
      ap (λ (j : List ℕ). passed_of (length (entries_of (scan j)))) (take_padded (flat (backs es)))
      ∙ ap (λ (x : Scan). passed_of (length (entries_of x))) (pile_reads Before (backs es) (backs_stored s.profile next es g.kept))
      ∙ ap passed_of (backs_count es)

  -- k: a watch-only session's stores hold clears alone
  backs_clear : (p hi : ℕ) (es : List Edit) → (p ≡ 0 → ⊥) → Kept p hi es → only_clears (pile (backs es)) ≡ true
  unfolding pile backs only_clears entry_for inverse_of
  backs_clear p hi [] on k = refl
  backs_clear p hi (e ∷ es) on k =
      clears_more (entry_for (inverse_of (applied base es) e)) (pile (backs es))
      (kind_of_back (applied base es) e.change ∙ ⊎_elim (λ z. absurd (on z)) (λ k. k) k.0.lets) (backs_clear p hi es on k.1)

  again_clear : (p hi : ℕ) (es rs : List Edit) → (p ≡ 0 → ⊥) → Again p hi es rs → only_clears (pile rs) ≡ true
  unfolding pile only_clears entry_for
  again_clear p hi es [] on k = refl
  again_clear p hi es (r ∷ rs) on k = clears_more (entry_for r) (pile rs) (⊎_elim (λ z. absurd (on z)) (λ k. k) k.0.lets) (again_clear p hi (r ∷ es) rs on k.1)

  stored_read : (w : Way) (bs : List Edit) → AllStored w bs → entries_in (length (flat bs)) (padded (flat bs)) ≡ pile bs
  unfolding entries_in entries_of
  stored_read w bs k = ap (λ (j : List ℕ). entries_of (scan j)) (take_padded (flat bs)) ∙ ap entries_of (pile_reads w bs k)

  history_profile : (p : ℕ) (es : List Edit) (next : ℕ) (rs : List Edit) → Sane p es next rs
      → Profile p (entries_in (length (journal_of es)) (padded (journal_of es))) (entries_in (length (flat rs)) (padded (flat rs)))
  history_profile p es next rs g =
      ⊎_elim (λ z. inl z)
      (λ z.
      let on : p ≡ 0 → ⊥ = λ y. omega (arith, y, z) in
      inr (
        z,
        ap only_clears (stored_read Before (backs es) (backs_stored p next es g.kept)) ∙ backs_clear p next es on g.kept,
        ap only_clears (stored_read After rs (again_stored p next es rs g.again)) ∙ again_clear p next es rs on g.again,
      ))
      g.profile

  pub history_formed : (s : Session) → Clock s.timer → (es : List Edit) (next : ℕ) (rs : List Edit) → Sane s.profile es next rs → well_formed (by_history s es next rs) ≡ true
  unfolding by_history standing by_way renewed
  history_formed s c es next rs g =
      formed_ok (by_history s es next rs) (record {
        record_ok_lem = g.ok;
        worked_is = refl;
        timer_ok_lem = c.ok;
        both_fit = g.fits;
        marks_are = refl;
        journal = flat_formed Before (backs es) (backs_stored s.profile next es g.kept) (omega (arith, g.fits));
        redo = flat_formed After rs (again_stored s.profile next es rs g.again) (omega (arith, g.fits));
        profile_is = history_profile s.profile es next rs g;
      })

-- ---- what is known of a change goes by the record before it, and not by the timer that it holds

module _ (base : Record) (p : ℕ) where
  pub step_at : (c : Record) (hi : ℕ) (e : Edit) (es fs : List Edit) → applied base es ≡ applied c fs → Step base p hi e es → Step c p hi e fs
  step_at c hi e es fs q x = record {
    known = x.known;
    made = subst (λ (r : Record). Made r x.known e.tables e.change) q x.made;
    below = x.below;
    links = subst (λ (r : Record). Link r x.known e) q x.links;
    ok = subst (λ (r : Record). record_ok r hi ≡ true) q x.ok;
    typed = subst TypedRecord q x.typed;
    lets = x.lets;
  }

  pub again_at : (c : Record) (hi : ℕ) (es fs rs : List Edit) → applied base es ≡ applied c fs → Again base p hi es rs → Again c p hi fs rs
  unfolding applied
  again_at c hi es fs [] q k = tt
  again_at c hi es fs (r ∷ rs) q k = (step_at c hi r es fs q k.0, again_at c hi (r ∷ es) (r ∷ fs) rs (ap (λ (x : Record). put_after x r) q) k.1)

  module _ (t : Timer) (c : Clock t) (e : Edit) (es : List Edit) where
    pub applied_timed : applied base (timed t e ∷ es) ≡ applied base (e ∷ es)
    unfolding applied
    applied_timed = ap (λ (x : Option Record). unwrap_or x (applied base es)) (timed_puts t (applied base es) e)

    pub step_timed : (hi : ℕ) → Step base p hi e es → Step base p hi (timed t e) es
    unfolding timed
    step_timed hi x = record {
      known = x.known;
      made = made_timed t c (applied base es) x.known e.tables e.change x.made;
      below = omega (arith, x.below, timed_made t e.change);
      links = link_timed t c (applied base es) x.known e x.typed x.made x.links;
      ok = x.ok;
      typed = x.typed;
      lets = ⊎_elim (λ z. inl z) (λ k. inr (timed_kind t e.change ∙ k)) x.lets;
    }

    pub again_timed : (hi : ℕ) (rs : List Edit) → Again base p hi (e ∷ es) rs → Again base p hi (timed t e ∷ es) rs
    again_timed hi rs = again_at base hi (e ∷ es) (timed t e ∷ es) rs (sym applied_timed)
