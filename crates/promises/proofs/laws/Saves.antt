-- Document 02, m: what reads, what can go down and each answer exactly when; up then down, down then up, saved then restored. Assumes nothing.
use Rattle.std.specs.Prelude.{ℕ, ◌+◌, ◌<◌, Bool, true, false, cond, not, ◌↔◌, ◌≡◌, refl, List, [], ◌∷◌, ltb, eqb, length, get_or, take, drop}
use Rattle.std.proofs.Common.{true≢false, sym, ap, subst, ◌∙◌, arith, eqb-true, eq-eqb, ltb-false, ltb-true, take_at}
use Rattle.std.proofs.lemmas.Bool.{not-false, not-true, eqb-false}
use Rattle.wire.specs.Conditions.{is, row}
use Rattle.wire.specs.Wire.{Bytes}
use Rattle.wire.proofs.laws.Cases.{cond_cases, if_eq, else_eq}
use Rattle.wire.proofs.laws.Chains.{le_holds, eq_holds, passed}
use Rattle.wire.proofs.laws.Tables.{ByTable, by_is, hit, miss}
use Rattle.record.specs.Record.{worked_of}
use Rattle.formed.specs.Formed.{in_order_first}
use Rattle.formed.proofs.laws.Formed.{both_hold, hold_both}
use Rattle.entries.specs.Entries.{Entry, between, scan_by}
use Rattle.session.specs.Session.{entries_in, well_formed}
use Rattle.session.proofs.laws.Session.{formed}
use Rattle.session.specs.declared.Session.{Session}
use Rattle.image.specs.Image.{image_of, session_of, byte_at}
use Rattle.image.proofs.laws.Image.{session_image}
use Rattle.image.proofs.laws.Typed.{typed_image}
use Rattle.layout.specs.Layout.{image_length}
use Rattle.saving.specs.Forms.{base_of, session_of_base, saved_of, part_table, parts_of, kinds_ok, session_of_saved}
use Rattle.saving.specs.Moves.{first_rule, base_entry, base_entries, base_holds, goes_down, base_reads, saved_reads, image_reads, Outcome, refused, put_into, save_to, restore_to, move_up_to, move_down_to}
use Rattle.saving.proofs.laws.Base.{base_typed, length_base}
use Rattle.saving.proofs.laws.Forms.{length_saved, saved_typed, saved_back, saved_again}
use Rattle.saving.proofs.laws.Parts.{reads_as_parts}
use Rattle.saving.proofs.laws.Moves.{saved_stands, stands_saved, base_stands, stands_base, up_then_down, down_then_up, restore_then_save, save_then_restore}
use Rattle.promises.specs.Saves.{FirstRule, BaseEntry, BaseEntries, BaseHolds, CanGoDown, BaseSave, NewSave, FormedImage, SaveAnswer, RestoreAnswer, MoveUpAnswer, MoveDownAnswer, Done, written_by, Written, LeftByUp, KeptBy}
use Rattle.promises.proofs.laws.Replies.{front_is}

-- ---- the tests, as conditions

first_exactly : (t : List ℕ) → (first_rule t ≡ true) ↔ FirstRule t
unfolding first_rule in_order_first
first_exactly t =
    let a = le_holds (get_or t 0 0) (get_or t 1 0) in
    let b = le_holds (get_or t 3 0) (get_or t 4 0) in
    let c = le_holds (get_or t 6 0) (get_or t 7 0) in (
      λ h. let p = both_hold _ _ h in let q = both_hold _ _ p.1 in (a.0 p.0, (b.0 q.0, c.0 q.1)),
      λ h. hold_both (a.1 h.0) (hold_both (b.1 h.1.0) (c.1 h.1.1)),
    )

entry_exactly : (e : Entry) → (base_entry e ≡ true) ↔ BaseEntry e
unfolding base_entry
entry_exactly e = (
  λ h.
      let p = passed (eqb e.kind 0x0C) _ h in
      (eqb-false e.kind 0x0C p.0, λ k. (first_exactly (drop 1 e.body)).0 (if_eq _ true k refl ∙ p.1)),
  λ h. sym (else_eq _ _ h.0 (rule h.1)),
)
  where
    rule : (e.kind ≡ 0x06 → FirstRule (drop 1 e.body)) → true ≡ cond (eqb e.kind 0x06) (first_rule (drop 1 e.body)) true
    rule h = cond_cases (λ (b : Bool). true ≡ b) (eqb e.kind 0x06) (λ t. sym ((first_exactly (drop 1 e.body)).1 (h (eqb-true e.kind 0x06 t)))) (λ t. refl)

entries_exactly : (es : List Entry) → (base_entries es ≡ true) ↔ BaseEntries es
unfolding base_entries
entries_exactly [] = (λ h. tt, λ h. refl)
entries_exactly (e ∷ es) =
    let one = entry_exactly e in
    let rest = entries_exactly es in
    (λ h. let p = both_hold (base_entry e) _ h in (one.0 p.0, rest.0 p.1), λ h. hold_both (one.1 h.0) (rest.1 h.1))

base_holds_exactly : (s : Session) → (base_holds s ≡ true) ↔ BaseHolds s
unfolding base_holds
base_holds_exactly s =
    let t = first_exactly s.held.thermal in
    let es = entries_exactly (entries_in s.used s.journal) in
    (λ h. let p = both_hold _ _ h in record { thresholds = t.0 p.0; entries = es.0 p.1 }, λ h. hold_both (t.1 h.thresholds) (es.1 h.entries))

pub goes_down_exactly : (s : Session) → (goes_down s ≡ true) ↔ CanGoDown s
unfolding goes_down
goes_down_exactly s = (
  λ h.
      let p = both_hold (eqb s.ahead 0) _ h in
      let q = both_hold (eqb s.profile 0) _ p.1 in
      let r = both_hold (eqb s.timer.running 0) _ q.1 in
      record { redo = eqb-true _ 0 p.0; profile = eqb-true _ 0 q.0; timer = eqb-true _ 0 r.0; base = (base_holds_exactly s).0 r.1 },
  λ h. hold_both (eq-eqb _ 0 h.redo) (hold_both (eq-eqb _ 0 h.profile) (hold_both (eq-eqb _ 0 h.timer) ((base_holds_exactly s).1 h.base))),
)

pub base_save_exactly : (b : List ℕ) → (base_reads b ≡ true) ↔ BaseSave b
base_save_exactly b = (
  λ h. let p = base_stands b h in record { long = p.long; most = p.most; formed = p.whole; base = (base_holds_exactly (session_of_base b)).0 p.holds },
  λ h. stands_base b (record { long = h.long; most = h.most; whole = h.formed; holds = (base_holds_exactly (session_of_base b)).1 h.base }),
)

pub new_save_exactly : (b : List ℕ) → (saved_reads b ≡ true) ↔ NewSave b
unfolding kinds_ok
new_save_exactly b = (
  λ h.
      let p = saved_stands b h in
      let k = both_hold (eqb (byte_at 0 b) 0x01) _ p.kinds in
      let l = both_hold (eqb (byte_at 231 b) 0x02) _ k.1 in
      let m = both_hold (eqb (byte_at 234 b) 0x03) _ l.1 in
      let n = both_hold (eqb (byte_at 2283 b) 0x04) _ m.1 in
      let o = both_hold (eqb (byte_at 4332 b) 0x05) _ n.1 in
      let q = both_hold (eqb (byte_at 4397 b) 0x06) _ o.1 in
      record {
        long = p.long;
        record_part = eqb-true _ 0x01 k.0;
        next_part = eqb-true _ 0x02 l.0;
        journal_part = eqb-true _ 0x03 m.0;
        redo_part = eqb-true _ 0x04 n.0;
        marks_part = eqb-true _ 0x05 o.0;
        profile_part = eqb-true _ 0x06 q.0;
        timer_part = eqb-true _ 0x07 q.1;
        formed = p.whole;
      },
  λ h.
      stands_saved b
      (record {
        long = h.long;
        kinds =
            hold_both (eq-eqb _ 0x01 h.record_part)
            (hold_both (eq-eqb _ 0x02 h.next_part)
            (hold_both (eq-eqb _ 0x03 h.journal_part)
            (hold_both (eq-eqb _ 0x04 h.redo_part)
            (hold_both (eq-eqb _ 0x05 h.marks_part)
            (hold_both (eq-eqb _ 0x06 h.profile_part) (eq-eqb _ 0x07 h.timer_part))))));
        whole = h.formed;
      }),
)

lent_exactly : (b : List ℕ) → (image_reads b ≡ true) ↔ FormedImage b
unfolding image_reads
lent_exactly b = (
  λ h. let p = both_hold (eqb (length b) image_length) _ h in (eqb-true _ image_length p.0, p.1),
  λ h. hold_both (eq-eqb _ image_length h.0) h.1,
)

-- ---- the answers

abbrev Answers : Outcome → ℕ → Type 0
Answers q n = q.told.answer ≡ n

told_is : (q : Outcome) (v : ℕ) → q.told.answer ≡ v → ByTable Answers q (is v)
told_is q v e = by_is Answers e (λ n g. sym g ∙ e)

-- a test that must hold, and its row
needs_it : {t : Bool} {P : Type 0} (v : ℕ) (out : List ℕ) (y : Outcome) {T : ℕ → Type 0} → (t ≡ true) ↔ P → (t ≡ true → ByTable Answers y T) → ByTable Answers (cond (not t) (refused v out) y) (row v (P → ⊥) T)
needs_it {t = t} {P = P} v out y {T = T} p more =
    cond_cases (λ (q : Outcome). ByTable Answers q (row v (P → ⊥) T)) (not t)
    (λ f. hit Answers (λ k. true≢false (sym (p.1 k) ∙ not-true t f)) (told_is (refused v out) v refl)) (λ f. let h = not-false t f in miss Answers (λ z. z (p.0 h)) (more h))

put_table : (x out : List ℕ) (n : ℕ) → length x ≡ n → ByTable Answers (put_into x out) (row 13 (length out < n) (is 0))
unfolding put_into
put_table x out n e =
    cond_cases (λ (q : Outcome). ByTable Answers q (row 13 (length out < n) (is 0))) (ltb (length out) (length x))
    (λ f. let l = ltb-true (length out) (length x) f in hit Answers (omega (arith, l, e)) (told_is _ 13 refl))
    (λ f. let l = ltb-false (length out) (length x) f in miss Answers (λ h. omega (arith, l, e, h)) (told_is _ 0 refl))

pub save_exactly : (b out : List ℕ) → Bytes b → (n : ℕ) → ((save_to b out).told.answer ≡ n) ↔ SaveAnswer b out n
unfolding save_to SaveAnswer
save_exactly b out bytes =
    (needs_it 1 out _ (lent_exactly b)
    (λ h. put_table (saved_of (session_of b)) out 4409 (length_saved (session_of b) (typed_image b bytes ((lent_exactly b).0 h).0).session))).exactly

pub restore_exactly : (saved d : List ℕ) (n : ℕ) → ((restore_to saved d).told.answer ≡ n) ↔ RestoreAnswer saved d n
unfolding restore_to RestoreAnswer
restore_exactly saved d = (needs_it 1 d _ (eq_holds (length d) image_length) (λ h. needs_it 11 d _ (new_save_exactly saved) (λ k. told_is _ 0 refl))).exactly

pub up_exactly : (saved out : List ℕ) → Bytes saved → (n : ℕ) → ((move_up_to saved out).told.answer ≡ n) ↔ MoveUpAnswer saved out n
unfolding move_up_to MoveUpAnswer
up_exactly saved out bytes =
    (needs_it 11 out _ (base_save_exactly saved)
    (λ h. let p = base_stands saved h in put_table (saved_of (session_of_base saved)) out 4409 (length_saved (session_of_base saved) (base_typed saved bytes p.long p.most).session))).exactly

pub down_exactly : (saved out : List ℕ) → Bytes saved → (n : ℕ) → ((move_down_to saved out).told.answer ≡ n) ↔ MoveDownAnswer saved out n
unfolding move_down_to MoveDownAnswer
down_exactly saved out bytes =
    (needs_it 11 out _ (new_save_exactly saved)
    (λ h. needs_it 12 out _ (goes_down_exactly (session_of_saved saved))
    (λ k. let p = saved_stands saved h in
    put_table (base_of (session_of_saved saved)) out (232 + (session_of_saved saved).used)
    (length_base (session_of_saved saved) (saved_typed saved bytes p.long).session (omega (arith, (formed (session_of_saved saved) p.whole).both_fit)))))).exactly

-- ---- refusals keep

put_keeps : (x out : List ℕ) → KeptBy out (put_into x out)
unfolding put_into
put_keeps x out = cond_cases (KeptBy out) (ltb (length out) (length x)) (λ f z. (refl, refl, refl)) (λ f z. absurd (z refl))

pub save_refused : (b out : List ℕ) → KeptBy out (save_to b out)
unfolding save_to
save_refused b out = cond_cases (KeptBy out) (not (image_reads b)) (λ f z. (refl, refl, refl)) (λ f. put_keeps _ out)

pub restore_refused : (saved d : List ℕ) → KeptBy d (restore_to saved d)
unfolding restore_to
restore_refused saved d =
    cond_cases (KeptBy d) (not (eqb (length d) image_length)) (λ f z. (refl, refl, refl))
    (λ f. cond_cases (KeptBy d) (not (saved_reads saved)) (λ g z. (refl, refl, refl)) (λ g z. absurd (z refl)))

pub up_refused : (saved out : List ℕ) → KeptBy out (move_up_to saved out)
unfolding move_up_to
up_refused saved out = cond_cases (KeptBy out) (not (base_reads saved)) (λ f z. (refl, refl, refl)) (λ f. put_keeps _ out)

pub down_refused : (saved out : List ℕ) → KeptBy out (move_down_to saved out)
unfolding move_down_to
down_refused saved out =
    cond_cases (KeptBy out) (not (saved_reads saved)) (λ f z. (refl, refl, refl))
    (λ f. cond_cases (KeptBy out) (not (goes_down (session_of_saved saved))) (λ g z. (refl, refl, refl)) (λ g. put_keeps _ out))

-- ---- what is written

put_written : (x out : List ℕ) → Done (put_into x out) → Written x out (put_into x out)
unfolding put_into
put_written x out =
    cond_cases (λ (q : Outcome). Done q → Written x out q) (ltb (length out) (length x)) (λ f z. absurd (omega (arith, z)))
    (λ f z. record { told = refl; is = ap (take (length x)) (front_is x out) ∙ take_at x (drop (length x) out) (length x) refl; kept = front_is x out })

-- a test that held, and what came of it
pub record Passed (t : Bool) (q y : Outcome) : Type 0 where
  pub held : t ≡ true
  pub same : q ≡ y

passes : (t : Bool) (n : ℕ) (out : List ℕ) (y : Outcome) → (n ≡ 0 → ⊥) → Done (cond (not t) (refused n out) y) → Passed t (cond (not t) (refused n out) y) y
passes true n out y some h = record { held = refl; same = refl }
passes false n out y some h = absurd (some h)

base_leaves : (saved : List ℕ) → LeftByUp saved (session_of_base saved)
unfolding session_of_base
base_leaves saved = record { held = refl; next = refl; journal = refl; used = refl; redo = refl; ahead = refl; profile = refl; timer = refl; marks = refl }

module _ (saved out : List ℕ) (done : Done (move_up_to saved out)) where
  up_passed : Passed (base_reads saved) (move_up_to saved out) (put_into (saved_of (session_of_base saved)) out)
  unfolding move_up_to
  up_passed = passes (base_reads saved) 11 out _ (λ z. omega (arith, z)) done

  pub up_written : Written (saved_of (session_of_base saved)) out (move_up_to saved out)
  up_written = subst (Written (saved_of (session_of_base saved)) out) (sym up_passed.same) (put_written _ out (subst Done up_passed.same done))

  pub up_down : Bytes saved → (back : List ℕ) → move_down_to (written_by (move_up_to saved out)) back ≡ put_into saved back
  up_down bytes back = ap (λ (x : List ℕ). move_down_to x back) up_written.is ∙ up_then_down saved bytes up_passed.held back

  pub up_leaves : Bytes saved → LeftByUp saved (session_of_saved (written_by (move_up_to saved out)))
  up_leaves bytes =
      let p = base_stands saved up_passed.held in
      let same = ap session_of_saved up_written.is ∙ saved_back (session_of_base saved) (base_typed saved bytes p.long p.most).session p.whole in
      subst (LeftByUp saved) (sym same) (base_leaves saved)

module _ (saved out : List ℕ) (done : Done (move_down_to saved out)) where
  abbrev down : Outcome
  down = cond (not (goes_down (session_of_saved saved))) (refused 12 out) (put_into (base_of (session_of_saved saved)) out)

  reads_passed : Passed (saved_reads saved) (move_down_to saved out) down
  unfolding move_down_to
  reads_passed = passes (saved_reads saved) 11 out down (λ z. omega (arith, z)) done

  goes_passed : Passed (goes_down (session_of_saved saved)) down (put_into (base_of (session_of_saved saved)) out)
  goes_passed = passes (goes_down (session_of_saved saved)) 12 out _ (λ z. omega (arith, z)) (subst Done reads_passed.same done)

  same : move_down_to saved out ≡ put_into (base_of (session_of_saved saved)) out
  same = reads_passed.same ∙ goes_passed.same

  pub down_written : Written (base_of (session_of_saved saved)) out (move_down_to saved out)
  down_written = subst (Written (base_of (session_of_saved saved)) out) (sym same) (put_written _ out (subst Done same done))

  pub down_up : Bytes saved → (back : List ℕ) → move_up_to (written_by (move_down_to saved out)) back ≡ put_into saved back
  down_up bytes back = ap (λ (x : List ℕ). move_up_to x back) down_written.is ∙ down_then_up saved bytes reads_passed.held goes_passed.held back

module _ (b out : List ℕ) (done : Done (save_to b out)) where
  save_passed : Passed (image_reads b) (save_to b out) (put_into (saved_of (session_of b)) out)
  unfolding save_to
  save_passed = passes (image_reads b) 1 out _ (λ z. omega (arith, z)) done

  pub save_written : Written (saved_of (session_of b)) out (save_to b out)
  save_written = subst (Written (saved_of (session_of b)) out) (sym save_passed.same) (put_written _ out (subst Done save_passed.same done))

  pub save_restore : Bytes b → (d : List ℕ) → length d ≡ image_length → restore_to (written_by (save_to b out)) d ≡ record { told = record { answer = 0; small = 0; beside = 0 }; out = b }
  save_restore bytes d long = ap (λ (x : List ℕ). restore_to x d) save_written.is ∙ save_then_restore b bytes save_passed.held d long

module _ (saved d : List ℕ) (done : Done (restore_to saved d)) where
  abbrev restored : Outcome
  restored = record { told = record { answer = 0; small = 0; beside = 0 }; out = image_of (session_of_saved saved) }

  abbrev more : Outcome
  more = cond (not (saved_reads saved)) (refused 11 d) restored

  long_passed : Passed (eqb (length d) image_length) (restore_to saved d) more
  unfolding restore_to
  long_passed = passes (eqb (length d) image_length) 1 d more (λ z. omega (arith, z)) done

  new_passed : Passed (saved_reads saved) more restored
  new_passed = passes (saved_reads saved) 11 d restored (λ z. omega (arith, z)) (subst Done long_passed.same done)

  image_is : (restore_to saved d).out ≡ image_of (session_of_saved saved)
  image_is = ap (λ (q : Outcome). q.out) (long_passed.same ∙ new_passed.same)

  pub restored_parts : Bytes saved → scan_by part_table saved ≡ between (parts_of (session_of_saved saved))
  restored_parts bytes =
      let p = saved_stands saved new_passed.held in
      ap (scan_by part_table) (sym (saved_again saved bytes p.long p.kinds)) ∙ reads_as_parts (session_of_saved saved) (saved_typed saved bytes p.long).session

  pub restore_save : Bytes saved → (out : List ℕ) → save_to (restore_to saved d).out out ≡ put_into saved out
  restore_save bytes out = ap (λ (x : List ℕ). save_to x out) image_is ∙ restore_then_save saved bytes new_passed.held out

  -- the session that stands there then
  pub restored_is : Bytes saved → session_of (restore_to saved d).out ≡ session_of_saved saved
  restored_is bytes = ap session_of image_is ∙ session_image (session_of_saved saved) (saved_typed saved bytes (saved_stands saved new_passed.held).long)

  pub restored_formed : Bytes saved → well_formed (session_of (restore_to saved d).out) ≡ true
  restored_formed bytes = ap well_formed (restored_is bytes) ∙ (saved_stands saved new_passed.held).whole

  pub restored_worked : Bytes saved → (session_of (restore_to saved d).out).worked ≡ worked_of (session_of (restore_to saved d).out).held
  restored_worked bytes = (formed (session_of (restore_to saved d).out) (restored_formed bytes)).worked_is
