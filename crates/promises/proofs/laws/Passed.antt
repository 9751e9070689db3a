-- The marks and the number passed, in the request's words. Assumes nothing.
use Rattle.std.specs.Prelude.{ℕ, suc, ◌-◌, ◌*◌, ◌/◌, ◌≤◌, ◌<◌, Bool, true, false, ◌≡◌, refl, List, [], ◌∷◌, ◌++◌, ltb, eqb, length, get_or, take, drop}
use Rattle.std.proofs.Common.{sym, ap, subst, ◌∙◌, arith, ltb-true, ltb-false, length-take}
use Rattle.std.proofs.Math.ListN.{get_or-append, get_or-eq_default}
use Rattle.std.proofs.lemmas.List.{get_or_at}
use Rattle.wire.proofs.laws.Cases.{cond_elim, if_eq, else_eq}
use Rattle.entries.specs.Entries.{Entry, written, entries_of}
use Rattle.marks.specs.Marks.{milestones, marks_of, passed_of}
use Rattle.marks.proofs.laws.Marks.{thirty_second, marked_one, unmarked_one, count_milestones, length_marks}
use Rattle.marks.proofs.laws.Last.{read_mark}
use Rattle.journal.specs.declared.Way.TheVariants.{Before}
use Rattle.journal.specs.Ways.{by_way}
use Rattle.session.specs.Session.{entries_in, well_formed}
use Rattle.session.specs.Road.{Asks, used_of, store_of, kept, settled}
use Rattle.session.specs.declared.Session.{Session}
use Rattle.undo_call.specs.Undo.{move_asks, move_call, passed_by, undo_call}
use Rattle.undo_call.proofs.laws.NoneLeft.{none_zero}
use Rattle.change.specs.declared.Edit.{Edit}
use Rattle.promises.specs.Calls.{undo, buffer_of, asks, said}
use Rattle.promises.specs.Lent.{told}
use Rattle.promises.specs.Demand2.{Newest}
use Rattle.promises.proofs.laws.UndoDemands.{Called, ill_formed, empty, barred, goes, called}
use Rattle.promises.specs.WellFormed.{WellFormed}
use Rattle.promises.specs.Passed.{MarksStand, PassedAsHeld}
use Rattle.promises.proofs.laws.Plainly.{plainly_formed, held_entries}

-- ---- every 32nd entry

-- with one entry more, those before an entry stay the same ones
one_on : (e : Entry) (es : List Entry) (k : ℕ) → 32 * k ≤ length es → drop (length (e ∷ es) - 32 * k) (e ∷ es) ≡ drop (length es - 32 * k) es
one_on e es k h = let n : length (e ∷ es) - 32 * k ≡ suc (length es - 32 * k) = omega (arith, h) in ap (λ (m : ℕ). drop m (e ∷ es)) n

-- it is the last of the milestones, or one before
last_or_before : (ps : List ℕ) (p k v : ℕ) → (k < length ps → get_or ps k 0 ≡ v) → (k ≡ length ps → p ≡ v) → k ≤ length ps → get_or (ps ++ (p ∷ [])) k 0 ≡ v
last_or_before ps p k v f g h = go (ltb k (length ps)) refl
  where
    go : (t : Bool) → ltb k (length ps) ≡ t → get_or (ps ++ (p ∷ [])) k 0 ≡ v
    go true b = get_or-append ps (p ∷ []) 0 k (ltb-true k _ b) ∙ f (ltb-true k _ b)
    go false b = let is : k ≡ length ps = omega (arith, ltb-false k (length ps) b, h) in get_or_at ps p [] 0 k (sym is) ∙ g is

milestone_at : (es : List Entry) (k : ℕ) → 32 * k < length es → get_or (milestones es) k 0 ≡ length (written (drop (length es - 32 * k) es))
unfolding milestones
milestone_at [] k h = absurd (omega (arith, h))
milestone_at (e ∷ es) k h =
    thirty_second (length es)
    (λ z.
    let c = count_milestones es in
    ap (λ (ps : List ℕ). get_or ps k 0) (marked_one e es z)
    ∙ last_or_before (milestones es) (length (written es)) k _
    (λ l. let low : 32 * k < length es = omega (arith, l, c, z) in milestone_at es k low ∙ ap (λ (fs : List Entry). length (written fs)) (sym (one_on e es k (omega (arith, low)))))
    (λ is. let n : length (e ∷ es) - 32 * k ≡ 1 = omega (arith, is, c, z) in ap (λ (m : ℕ). length (written (drop m (e ∷ es)))) (sym n))
    (omega (arith, h, c, z)))
    (λ z.
    let low : 32 * k < length es = omega (arith, h, z) in
    ap (λ (ps : List ℕ). get_or ps k 0) (unmarked_one e es z) ∙ milestone_at es k low ∙ ap (λ (fs : List Entry). length (written fs)) (sym (one_on e es k (omega (arith, low)))))

marks_stand : (es : List Entry) → length (written es) ≤ 2048 → MarksStand (marks_of es) es
marks_stand es small = record {
  long = length_marks es;
  marked = λ k l h. read_mark es small k (omega (arith, l)) ∙ milestone_at es k h;
  unused = λ k l h. read_mark es small k (omega (arith, l)) ∙ get_or-eq_default (milestones es) 0 (omega (arith, h, count_milestones es));
}

pub session_marks : (s : Session) (w : WellFormed s) → MarksStand s.marks w.journal.entries
session_marks s w =
    let es = w.journal.entries in
    let n : length (take s.used s.journal) ≤ s.used = simp length-take (omega arith) in
    subst (λ (m : List ℕ). MarksStand m es) (sym w.marks) (marks_stand es (omega (arith, ap length w.journal.reads, n, w.both)))

-- ---- the number passed

held_passed : (held n : ℕ) → n ≡ passed_of held → n ≡ held - 1 - 32 * ((held - 1) / 32)
unfolding passed_of
held_passed held n e = e

passed_low : (held : ℕ) → passed_of held ≤ 31
unfolding passed_of
passed_low held = omega arith

small_is : (s : Session) → (undo_call s).answer ≡ 0 → (told s undo).small ≡ passed_of (length (entries_in s.used s.journal))
unfolding told said asks buffer_of move_call passed_by by_way
small_is s h = sym (if_eq (passed_of (length (entries_in s.used s.journal))) 0 h refl)

pub none_passed : (s : Session) → ((undo_call s).answer ≡ 0 → ⊥) → (told s undo).small ≡ 0
unfolding told said asks buffer_of move_call
none_passed s h = sym (else_eq _ _ h refl)

pub few_passed : (s : Session) → (told s undo).small ≤ 31
unfolding told passed_by by_way
few_passed s = cond_elim (λ (n : ℕ). n ≤ 31) (eqb (said s undo).answer 0) (passed_low (length (entries_in s.used s.journal))) (omega arith)

-- an accepted undo finds a well-formed session and a newest entry
accepted_by : (s : Session) (a : Asks) → Called Before s a → (settled s [] a).answer ≡ 0 → (well_formed s ≡ true) × (e : Edit) × Newest Before s e
unfolding settled kept
accepted_by s a (ill_formed h) z = absurd (omega (arith, z))
accepted_by s a (empty x n) z = absurd (none_zero Before z)
accepted_by s a (barred x e n bar) z = absurd (omega (arith, z))
accepted_by s a (goes x e n u) z = (x, e, n)

pub passed_as_held : (s : Session) → (undo_call s).answer ≡ 0 → PassedAsHeld s (told s undo).small
unfolding move_call used_of store_of by_way entries_in entries_of
passed_as_held s h =
    let a = accepted_by s (move_asks Before s) (called Before s) h in
    let w = (plainly_formed s).0 a.0 in
    let es = w.journal.entries in
    let same = held_entries Before s.journal s.used w.journal in
    let n = a.2 in
    let some : 1 ≤ length es = omega (arith, ap length (sym same ∙ ap entries_of n.read)) in
    record {
      held = es;
      journal_is = w.journal.reads;
      hold = w.journal.hold;
      multiple = (length es - 1) / 32;
      not_above = omega arith;
      greatest = λ k l. omega (arith, l);
      some = some;
      is = held_passed (length es) _ (small_is s h ∙ ap (λ (fs : List Entry). passed_of (length fs)) same);
    }
