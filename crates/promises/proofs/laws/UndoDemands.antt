-- The ways of the calls `undo` and `redo`, and demands 1 and 2 read off them, for both at once. Assumes nothing.
use Rattle.std.specs.Option.{is_some, unwrap_or}
use Rattle.std.specs.Prelude.{ℕ, suc, ◌+◌, ◌-◌, ◌≤◌, Bool, true, not, ◌↔◌, ◌≡◌, eqb, take, drop, Option, Some, None}
use Rattle.std.proofs.lemmas.Bool.{false≢true}
use Rattle.std.proofs.Math.Bool.{true≢false}
use Rattle.std.proofs.Math.Path.{refl, sym, ap, subst}
use Rattle.std.proofs.Common.{◌∙◌, arith, length-take-le}
use mathlib.Core.List.{List, [], ◌∷◌}
use borrow.Author.Tests.{not-false, not-true, eqb-true, eqb-false}
use Rattle.std.proofs.Math.ListN.{length}
use Rattle.wire.specs.Conditions.{is}
use Rattle.wire.proofs.laws.Cases.{else_eq, else_ne, cond_cases}
use Rattle.wire.proofs.laws.Chains.{eq_holds, lt_passes, le_passes, zero_passes, not_passes, unless, unless_last, or_else}
use Rattle.wire.proofs.laws.Tables.{ByTable, by_is, hit, miss}
use Rattle.wire.proofs.laws.Wire.{tail_part, part_of_part}
use Rattle.record.specs.declared.Record.{Record}
use Rattle.change.specs.Change.{clear_of, unclear_of, reset_of, unreset_of, put_with, put_of}
use Rattle.change.specs.declared.Change.{Change}
use Rattle.change.specs.declared.Change.TheVariants.{Clear, Unclear, SetState, SetRole, SetCaps, SetUser, SetThermal, SetThrottles, Reset, Unreset, SetMask, SetDeadman, SetAreas, SetTimer}
use Rattle.change.specs.declared.Tables.{Tables}
use Rattle.change.specs.declared.Edit.{Edit}
use Rattle.formed.specs.Formed.{record_ok}
use Rattle.entries.specs.Entries.{Entry, body_len, bytes_of, written, Scan, between, scan, newest_at, reading_of}
use Rattle.entries.proofs.laws.Entries.{scan_written, scan_proper, drop_newest, length_written, newest_written}
use Rattle.journal.specs.Read.{found_for, tables_in, edit_by, got_for, got_of, values_ok, entry_ok, all_ok}
use Rattle.journal.specs.Ways.{by_way}
use Rattle.journal.specs.declared.Way.{Way}
use Rattle.journal.specs.declared.Way.TheVariants.{Before, After}
use Rattle.session.specs.Session.{well_formed}
use Rattle.session.proofs.laws.Session.{formed}
use Rattle.session.specs.declared.Session.{Session}
use Rattle.session.specs.Road.{Asks, refuses, moves, store_of, used_of, kept, done, settled}
use Rattle.undo_call.specs.Undo.{put_asks, edit_asks, got_asks, entry_asks, read_asks, none_left, newest_asks, move_asks, move_call, undo_call, redo_call}
use Rattle.undo_call.proofs.laws.NoneLeft.{none_zero}
use Rattle.promises.specs.Demand1.{MoveAnswer, UndoAnswer, RedoAnswer}
use Rattle.promises.specs.Demand2.{Newest, GoesIn, Movable, MoveAccepted, UndoAccepted, RedoAccepted}
use Rattle.promises.proofs.laws.FormedStores.{all_parts, store_of_lem}
use Rattle.session.proofs.laws.Reads.{reads}

-- ---- what can be put in

abbrev goes_in : Option Record → Bool
goes_in = is_some

module _ (r : Record) (t : Tables) where
  abbrev Exactly : Change → Type 0
  Exactly ch = (is_some (put_with r t ch) ≡ true) ↔ GoesIn r ch

  goes_exactly : (ch : Change) → Exactly ch
  unfolding put_with clear_of unclear_of reset_of unreset_of
  goes_exactly (Unclear place log) = unless goes_in refl (lt_passes _ _) (unless_last goes_in refl (le_passes 4 _) refl)
  goes_exactly (Unreset state made) = or_else goes_in refl (eq_holds made 0) (unless_last goes_in refl (zero_passes _) refl)
  goes_exactly (Clear place log) = unless_last goes_in refl (not_passes ((λ h. h), (λ h. h))) refl
  goes_exactly (Reset log) = or_else goes_in refl (eq_holds log.id 0) (unless_last goes_in refl (le_passes 4 _) refl)
  goes_exactly (SetState state) = ((λ h. tt), (λ h. refl))
  goes_exactly (SetRole got role) = ((λ h. tt), (λ h. refl))
  goes_exactly (SetCaps got caps) = ((λ h. tt), (λ h. refl))
  goes_exactly (SetUser user) = ((λ h. tt), (λ h. refl))
  goes_exactly (SetThermal got) = ((λ h. tt), (λ h. refl))
  goes_exactly (SetThrottles got) = ((λ h. tt), (λ h. refl))
  goes_exactly (SetMask mask) = ((λ h. tt), (λ h. refl))
  goes_exactly (SetDeadman deadman) = ((λ h. tt), (λ h. refl))
  goes_exactly (SetAreas areas) = ((λ h. tt), (λ h. refl))
  goes_exactly (SetTimer timer) = ((λ h. tt), (λ h. refl))

-- ---- the newest entry

-- an entry's bytes are read as what its kind and body say
entry_got : (w : Way) (e : Entry) → body_len e.kind ≡ length e.body → got_of w (bytes_of e) ≡ edit_by (tables_in e.kind e.body) (found_for w e.kind e.body)
unfolding got_of got_for bytes_of
entry_got w e sized =
    let n : ℕ = length e.body in
    let some : suc n ≡ 0 → ⊥ = λ z. omega arith in
    let fits : suc n - 1 ≡ body_len e.kind = omega arith in
    sym (else_eq None _ {m = suc n} {n = 0} some (else_ne None _ {m = suc n - 1} {n = body_len e.kind} fits refl))

-- values that pass are a change's
good_found : (t : Tables) (x : Option Change) → values_ok t x ≡ true → (ch : Change) × (x ≡ Some ch)
unfolding values_ok
good_found t (Some ch) h = (ch, refl)
good_found t None h = absurd (false≢true h)

module _ (w : Way) (s : Session) where
  abbrev used_part : List ℕ
  used_part = take (used_of w s) (store_of w s)

  -- where an entry is the newest, the store isn't empty
  newest_used : (e : Edit) → Newest w s e → used_of w s ≡ 0 → ⊥
  newest_used e n z =
      let all = ap length (scan_written used_part (n.entry ∷ n.older) n.read) in
      let k : length used_part ≡ 0 = ap (λ (m : ℕ). length (take m (store_of w s))) z in
      omega (arith, all, k, length_written n.entry n.older)

  same_entry : (a b : Entry) (xs ys : List Entry) → between (a ∷ xs) ≡ between (b ∷ ys) → a ≡ b
  same_entry a b xs ys e = cc

  same_change : (a b : Change) → Some a ≡ Some b → a ≡ b
  same_change a b e = cc

  -- it says one thing only
  newest_one : (a b : Edit) → Newest w s a → Newest w s b → a ≡ b
  newest_one a b m n =
      let e = same_entry m.entry n.entry m.older n.older (sym m.read ∙ n.read) in
      let p = same_change a.change b.change (sym m.change ∙ ap (λ (x : Entry). found_for w x.kind x.body) e ∙ n.change) in
      let q = sym m.tables ∙ ap (λ (x : Entry). tables_in x.kind x.body) e ∙ n.tables in
      λ i. record { change = p i; tables = q i }

  -- ---- the ways

  pub data Called : Asks → Type 0 where
    ill_formed : (well_formed s ≡ true → ⊥) → Called (refuses 1)
    empty : well_formed s ≡ true → used_of w s ≡ 0 → Called (refuses (none_left w))
    barred : well_formed s ≡ true → (e : Edit) → Newest w s e → (Movable s e → ⊥) → Called (refuses 7)
    goes : well_formed s ≡ true → (e : Edit) (n : Newest w s e) → Movable s e → Called (moves w (length (written n.older)) e)

  module _ (x : well_formed s ≡ true) where
    called_with : (e : Edit) (n : Newest w s e) → Called (edit_asks w s (length (written n.older)) e)
    unfolding edit_asks put_asks put_of
    called_with e n =
        by_put (put_of s.held e) refl
      where
        exactly : Exactly s.held e.tables e.change
        exactly = goes_exactly s.held e.tables e.change

        by_put : (o : Option Record) → put_of s.held e ≡ o → Called (put_asks w s.next (length (written n.older)) e o)
        by_put None q = barred x e n (λ u. true≢false (sym (exactly.1 u.0) ∙ ap goes_in q))
        by_put (Some after) q =
            let fine = ap (λ (o : Option Record). record_ok (unwrap_or o s.held) s.next) q in
            cond_cases Called (not (record_ok after s.next)) (λ g. barred x e n (λ u. true≢false (sym u.1 ∙ fine ∙ not-true _ g)))
            (λ g. goes x e n (exactly.0 (ap goes_in q), fine ∙ not-false _ g))

    whole : length used_part ≡ used_of w s
    whole = length-take-le (used_of w s) (store_of w s) (store_of_lem s (formed s x) w).fits

    -- entries that were read, the newest first
    module _ (y : Entry) (es : List Entry) (read : scan used_part ≡ between (y ∷ es)) (good : all_ok w (y ∷ es) ≡ true) where
      abbrev at : ℕ
      at = newest_at (y ∷ es)

      newest_part : take (used_of w s - at) (drop at (store_of w s)) ≡ bytes_of y
      newest_part =
          let low : at ≤ length (written (y ∷ es)) = newest_written (y ∷ es) in
          let all : length used_part ≡ length (written (y ∷ es)) = ap length (scan_written used_part (y ∷ es) read) in
          let fits : at + (used_of w s - at) ≤ used_of w s = omega (arith, low, all, whole) in
          sym (part_of_part (used_of w s - at) at (used_of w s) (store_of w s) fits)
          ∙ ap (λ (n : ℕ). take (n - at) (drop at used_part)) (sym whole)
          ∙ tail_part used_part at
          ∙ drop_newest used_part y es read

      says : got_of w (take (used_of w s - at) (drop at (store_of w s))) ≡ edit_by (tables_in y.kind y.body) (found_for w y.kind y.body)
      says = ap (got_of w) newest_part ∙ entry_got w y (scan_proper used_part (y ∷ es) read).0.0

      change_there : (ch : Change) × (found_for w y.kind y.body ≡ Some ch)
      unfolding entry_ok
      change_there = good_found (tables_in y.kind y.body) (found_for w y.kind y.body) (all_parts w y es good).0

      abbrev newest : Edit
      newest = record { change = change_there.0; tables = tables_in y.kind y.body }

      at_is : entry_asks w s at ≡ edit_asks w s at newest
      unfolding entry_asks got_asks edit_by
      at_is = ap (got_asks w s at) (says ∙ ap (edit_by (tables_in y.kind y.body)) change_there.1)

      called_newest : Called (read_asks w s (reading_of (scan used_part)))
      unfolding read_asks reading_of newest_at
      called_newest =
          subst Called (sym (ap (λ (v : Scan). read_asks w s (reading_of v)) read ∙ at_is))
          (called_with newest (record { entry = y; older = es; read = read; change = change_there.1; tables = refl }))

    called_read : (es : List Entry) → (used_of w s ≡ 0 → ⊥) → scan used_part ≡ between es → all_ok w es ≡ true → Called (read_asks w s (reading_of (scan used_part)))
    unfolding written
    called_read [] some read good =
        let n = ap length (scan_written used_part [] read) in
        let z : used_of w s ≡ 0 = omega (arith, n, whole) in
        absurd (some z)
    called_read (y ∷ es) some read good = called_newest y es read good

  pub called : Called (move_asks w s)
  unfolding move_asks newest_asks
  called =
      cond_cases Called (not (well_formed s)) (λ f. ill_formed (λ x. true≢false (sym x ∙ not-true _ f)))
      (λ f. let x = not-false _ f in
      let r = reads w used_part (store_of_lem s (formed s x) w).reads in
      cond_cases Called (eqb (used_of w s) 0) (λ z. empty x (eqb-true (used_of w s) 0 z)) (λ z. called_read x r.entries (eqb-false (used_of w s) 0 z) r.scanned r.good))

  -- ---- demand 2

  abbrev answer : Asks → ℕ
  answer a = (settled s [] a).answer

  success : well_formed s ≡ true → (a : Asks) → Called a → (answer a ≡ 0) ↔ MoveAccepted w s
  unfolding settled kept done
  success x a (ill_formed h) = absurd (h x)
  success x a (empty y z) = (λ e. absurd (none_zero w e), λ m. absurd (newest_used m.0 m.1.0 z))
  success x a (barred y e n bar) = (λ e. absurd (omega (arith, e)), λ m. absurd (bar (subst (Movable s) (newest_one m.0 e m.1.0 n) m.1.1)))
  success x a (goes y e n u) = (λ z. (e, (n, u)), λ m. refl)

  pub move_accepted : well_formed s ≡ true → ((move_call w s).answer ≡ 0) ↔ MoveAccepted w s
  unfolding move_call
  move_accepted x = success x _ called

  -- ---- the answers

  abbrev Answers : Asks → ℕ → Type 0
  Answers a n = answer a ≡ n

  numbered : (n : ℕ) → ByTable Answers (refuses n) (is n)
  unfolding settled kept
  numbered n = by_is Answers refl (λ m e. sym e)

  answer_table : (a : Asks) → Called a → ByTable Answers a (MoveAnswer w (none_left w) s)
  unfolding MoveAnswer settled done
  answer_table a (ill_formed h) = hit Answers h (numbered 1)
  answer_table a (empty x z) = miss Answers (λ h. h x) (hit Answers z (numbered (none_left w)))
  answer_table a (barred x e n bar) = miss Answers (λ h. h x) (miss Answers (newest_used e n) (hit Answers (e, (n, bar)) (numbered 7)))
  answer_table a (goes x e n u) =
      miss Answers (λ h. h x) (miss Answers (newest_used e n)
      (miss Answers (λ m. m.1.1 (subst (Movable s) (newest_one e m.0 n m.1.0) u)) (by_is Answers refl (λ m e. sym e))))

  pub move_answers : (n : ℕ) → ((move_call w s).answer ≡ n) ↔ MoveAnswer w (none_left w) s n
  unfolding move_call
  move_answers = (answer_table _ called).exactly

-- ---- undo and redo

pub undo_answers : (s : Session) (n : ℕ) → ((undo_call s).answer ≡ n) ↔ UndoAnswer s n
unfolding none_left by_way
undo_answers = move_answers Before

pub redo_answers : (s : Session) (n : ℕ) → ((redo_call s).answer ≡ n) ↔ RedoAnswer s n
unfolding none_left by_way
redo_answers = move_answers After

pub undo_accepted : (s : Session) → well_formed s ≡ true → ((undo_call s).answer ≡ 0) ↔ UndoAccepted s
undo_accepted = move_accepted Before

pub redo_accepted : (s : Session) → well_formed s ≡ true → ((redo_call s).answer ≡ 0) ↔ RedoAccepted s
redo_accepted = move_accepted After
