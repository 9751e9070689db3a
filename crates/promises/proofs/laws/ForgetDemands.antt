-- Demands 1 and 2 of forgetting: its answers, and what it does. Assumes nothing.
use Rattle.std.specs.Prelude.{ℕ, ◌+◌, ◌-◌, ◌≤◌, Bool, true, false, cond, not, ◌↔◌, ◌≡◌, List, [], ◌++◌, ltb, take, drop, replicate}
use Rattle.std.proofs.Math.Bool.{true≢false}
use Rattle.std.proofs.Math.Logic.{inl}
use Rattle.std.proofs.Math.Path.{refl, sym, ap, subst}
use Rattle.std.proofs.Common.{ap₂, ◌∙◌, append_assoc, arith, take-append-drop, take_all, length-take-le}
use borrow.Author.Tests.{ltb-true, ltb-false, not-true, not-false}
use Rattle.std.proofs.Math.ListN.{length, length-append, length-drop, length-replicate}
use Rattle.std.proofs.lemmas.List.{replicate-append-replicate}
use Rattle.std.proofs.Math.Seq.{drop-append_seam}
use Rattle.wire.specs.Wire.{all_are}
use Rattle.wire.proofs.laws.Wire.{take_all_are}
use Rattle.wire.specs.Conditions.{is}
use Rattle.wire.proofs.laws.Cases.{cond_cases, else_b, else_lt}
use Rattle.wire.proofs.laws.Tables.{ByTable, by_is, hit, miss}
use Rattle.session.specs.Session.{entries_in, well_formed, renewed}
use Rattle.session.specs.Road.{Asks, refuses, forgets, held_in, oldest, freed_by, moved_down, session_freed, forgotten, kept, done, settled}
use Rattle.session.proofs.laws.Session.{Formed, formed}
use Rattle.session.proofs.laws.Reads.{Reads, reads}
use Rattle.session.proofs.laws.Forgotten.{newer, two_parts, written_append, freed_is}
use Rattle.journal.specs.declared.Way.TheVariants.{Before}
use Rattle.session.specs.declared.Session.{Session}
use Rattle.forget_call.specs.Forget.{oldest_asks, forget_asks, forget_call}
use Rattle.links.specs.Typed.{TypedSession}
use Rattle.entries.specs.Entries.{Entry, written, Scan, entries_of}
use Rattle.entries.proofs.laws.Entries.{scan_written}
use Rattle.marks.proofs.laws.Marks.{length_marks}
use Rattle.sbe.specs.Conditions.{Changes}
use Rattle.promises.specs.Demand1.{ForgetAnswer}
use Rattle.promises.specs.Demand2.{KnownSender, entry_length, HasRoom, WellAsked, occ_kind, sbe_kind, OccSucceeds, OccAccepted, SbeSucceeds, SbeAccepted}
use Rattle.promises.specs.Effects.{ForgetEffect}
use Rattle.promises.specs.WellFormed.{EntriesHold, WellFormed}
use Rattle.promises.proofs.laws.Plainly.{plainly_formed, held_entries}
use Rattle.promises.proofs.laws.WellFormed.{forget_formed}
use Rattle.promises.proofs.laws.OccDemands.{occ_accepted}
use Rattle.promises.proofs.laws.SbeDemands.{sbe_accepted}

module _ (n : ℕ) (s : Session) where
  abbrev Answers : Asks → ℕ → Type 0
  Answers a k = (settled s [] a).answer ≡ k

  numbered : (k : ℕ) → ByTable Answers (refuses k) (is k)
  unfolding settled kept
  numbered k = by_is Answers refl (λ m e. sym e)

  forget_table : ByTable Answers (forget_asks n s) (ForgetAnswer n s)
  unfolding forget_asks oldest_asks ForgetAnswer settled done
  forget_table =
      cond_cases (λ (a : Asks). ByTable Answers a (ForgetAnswer n s)) (not (well_formed s)) (λ f. hit Answers (λ x. true≢false (sym x ∙ not-true _ f)) (numbered 1))
      (λ f. cond_cases (λ (a : Asks). ByTable Answers a (ForgetAnswer n s)) (ltb (held_in s) n)
      (λ t. miss Answers (λ h. h (not-false _ f)) (hit Answers (ltb-true (held_in s) n t) (numbered 9)))
      (λ t. miss Answers (λ h. h (not-false _ f)) (miss Answers (λ h. omega (arith, h, ltb-false (held_in s) n t)) (by_is Answers refl (λ m e. sym e)))))

  pub forget_answers : (k : ℕ) → ((forget_call n s).answer ≡ k) ↔ ForgetAnswer n s k
  unfolding forget_call
  forget_answers = forget_table.exactly

-- ---- what it does

-- a journal in two parts and its unused rest, without the first part
moved_rest : (a b j : List ℕ) (used : ℕ) → length j ≡ 2048 → take used j ≡ a ++ b → used ≤ length j → all_are 0 (drop used j) ≡ true
    → moved_down (length a) j ≡ b ++ replicate (2048 - length b) 0
unfolding moved_down
moved_rest a b j used long parts fits unused =
    let n : length a + length b ≡ used = omega (arith, sym (length-append a b) ∙ sym (ap length parts) ∙ length-take-le used j fits) in
    let m : ℕ = length j - used in
    let zeros : drop used j ≡ replicate m 0 =
    sym (take_all m (drop used j) (omega (arith, length-drop used j))) ∙ take_all_are 0 m (drop used j) unused (omega (arith, length-drop used j)) in
    let k : m + length a ≡ 2048 - length b = omega (arith, n, long, fits) in
    ap (λ (l : List ℕ). drop (length a) l ++ replicate (length a) 0) (sym (take-append-drop used j) ∙ ap₂ (λ (x y : List ℕ). x ++ y) parts zeros ∙ append_assoc a b (replicate m 0))
    ∙ ap (λ (l : List ℕ). l ++ replicate (length a) 0) (drop-append_seam a (b ++ replicate m 0))
    ∙ append_assoc b (replicate m 0) (replicate (length a) 0)
    ∙ ap (λ (l : List ℕ). b ++ l) (replicate-append-replicate m (length a) 0 ∙ ap (λ (i : ℕ). replicate i 0) k)

-- an accepted one finds a well-formed session and as many changes
accepted_when : (n : ℕ) (s : Session) → (forget_call n s).answer ≡ 0 → (well_formed s ≡ true) × (n ≤ held_in s)
unfolding forget_call forget_asks oldest_asks settled kept
accepted_when n s = go (well_formed s) (ltb (held_in s) n) refl refl
  where
    go : (w t : Bool) → well_formed s ≡ w → ltb (held_in s) n ≡ t → (settled s [] (cond (not w) (refuses 1) (cond t (refuses 9) (forgets n)))).answer ≡ 0 → (well_formed s ≡ true) × (n ≤ held_in s)
    go true true x y z = absurd (omega (arith, z))
    go true false x y z = (x, ltb-false (held_in s) n y)
    go false t x y z = absurd (omega (arith, z))

asked_is : (n : ℕ) (s : Session) → well_formed s ≡ true → n ≤ held_in s → (forget_call n s).session ≡ forgotten n s
unfolding forget_call forget_asks oldest_asks settled done
asked_is n s x h =
    ap (λ (a : Asks). (settled s [] a).session) (sym (else_b (refuses 1) (oldest_asks n s) {b = not (well_formed s)} (ap not x) (else_lt (refuses 9) (forgets n) {m = held_in s} {n = n} h refl)))

module _ (n : ℕ) (s : Session) (typed : TypedSession s) (done : (forget_call n s).answer ≡ 0) where
  abbrev whole : well_formed s ≡ true
  whole = (accepted_when n s done).0

  f : Formed s
  f = formed s whole

  abbrev r : Reads Before (take s.used s.journal)
  r = reads Before (take s.used s.journal) f.journal.reads

  abbrev es : List Entry
  es = r.entries

  abbrev gone : List Entry
  gone = oldest n es

  held_is : held_in s ≡ length es
  unfolding held_in entries_in entries_of
  held_is = ap (λ (x : Scan). length (entries_of x)) r.scanned

  bytes : take s.used s.journal ≡ written gone ++ written (newer n es)
  unfolding oldest
  bytes = scan_written (take s.used s.journal) es r.scanned ∙ ap written (sym (two_parts n es)) ∙ written_append (newer n es) gone

  journal_is : moved_down (freed_by n s) s.journal ≡ written (newer n es) ++ replicate (2048 - length (written (newer n es))) 0
  journal_is =
      ap (λ (k : ℕ). moved_down k s.journal) (freed_is n s es r.scanned)
      ∙ moved_rest (written gone) (written (newer n es)) s.journal s.used typed.journal bytes f.journal.fits f.journal.unused

  used_is : s.used - freed_by n s ≡ length (written (newer n es))
  used_is =
      omega (arith, freed_is n s es r.scanned, sym (ap length bytes) ∙ length-take-le s.used s.journal f.journal.fits, length-append (written gone) (written (newer n es)))

  entries_same : (h : WellFormed s) → h.journal.entries ≡ es
  unfolding entries_in entries_of
  entries_same h = sym (held_entries Before s.journal s.used h.journal) ∙ ap entries_of r.scanned

  pub forget_effect : ForgetEffect n s (forget_call n s)
  unfolding forgotten session_freed oldest
  forget_effect =
      let h = (plainly_formed s).0 whole in
      record {
        forgotten = gone;
        kept = newer n es;
        held = scan_written (take s.used s.journal) es r.scanned ∙ ap written (sym (two_parts n es));
        hold = subst (EntriesHold Before) (entries_same h ∙ sym (two_parts n es)) h.journal.hold;
        so_many = omega (arith, length-drop (length es - n) es, (accepted_when n s done).1, held_is);
        session_is = asked_is n s whole (accepted_when n s done).1 ∙ (λ i. renewed s s.held s.next (journal_is i) (used_is i) s.redo s.ahead);
      }

-- ---- "the next change that fits the freed room is accepted"

module _ (n : ℕ) (s : Session) (typed : TypedSession s) (done : (forget_call n s).answer ≡ 0) (e : ForgetEffect n s (forget_call n s)) where
  abbrev t : Session
  t = (forget_call n s).session

  abbrev freed : ℕ
  freed = length (written e.forgotten)

  parts : length (written e.kept) + freed ≡ s.used
  parts =
      omega (arith, sym (length-append (written e.forgotten) (written e.kept)), ap length (sym (written_append e.kept e.forgotten)), sym (ap length e.held) ∙ length-take-le s.used s.journal (formed s (accepted_when n s done).0).journal.fits)

  used_after : t.used ≡ length (written e.kept)
  unfolding renewed
  used_after = ap (λ (x : Session). x.used) e.session_is

  typed_after : TypedSession t
  unfolding renewed
  typed_after =
      let small = (formed s (accepted_when n s done).0).both_fit in
      subst TypedSession (sym e.session_is)
      (record {
        held = typed.held;
        journal = omega (arith, length-append (written e.kept) (replicate (2048 - length (written e.kept)) 0), length-replicate {A = ℕ} (2048 - length (written e.kept)) 0, parts, small);
        next = typed.next;
        used = omega (arith, parts, small);
        redo = typed.redo;
        ahead = typed.ahead;
        marks = length_marks _;
        timer = typed.timer;
      })

  formed_after : well_formed t ≡ true
  formed_after = forget_formed s typed (accepted_when n s done).0 n

  has_room : (kind : ℕ) → s.used + entry_length kind ≤ 2048 + freed → HasRoom t kind
  has_room kind h = omega (arith, h, parts, used_after)

  pub occ_fits_freed : (sender : ℕ) (c d : List ℕ) → KnownSender sender → 4096 ≤ length d → 4 ≤ length c → WellAsked s sender c
      → s.used + entry_length (occ_kind c) ≤ 2048 + freed → OccSucceeds t sender c d
  unfolding OccAccepted WellAsked renewed
  occ_fits_freed sender c d known long some well room =
      (occ_accepted t typed_after sender c d formed_after).1
      (known, (long, (some, (subst (λ (x : Session). WellAsked x sender c) (sym e.session_is) well, λ z. has_room (occ_kind c) room))))

  -- the profile is kept
  full_after : s.profile ≡ 0 → t.profile ≡ 0
  unfolding renewed
  full_after full = ap (λ (x : Session). x.profile) e.session_is ∙ full

  pub sbe_fits_freed : (r d m x : List ℕ) → 32 ≤ length d → 32 ≤ length r → Changes r → s.profile ≡ 0 → s.used + entry_length (sbe_kind r) ≤ 2048 + freed → SbeSucceeds t r d m x
  unfolding SbeAccepted
  sbe_fits_freed r d m x long some ok full room = (sbe_accepted t typed_after r d m x formed_after).1 (long, (some, inl (ok, (full_after full, has_room (sbe_kind r) room))))
