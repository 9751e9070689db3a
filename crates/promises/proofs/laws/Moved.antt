-- The bytes that undo and redo put into the other store, row by row. Assumes nothing.
use Rattle.std.specs.Prelude.{ℕ, ◌≤◌, Bool, true, false, List, [], ◌∷◌, ◌≡◌, eqb, take, drop, Option, Some, None}
use Rattle.std.proofs.Common.{⊎_elim, subst, ◌∙◌, arith}
use Rattle.std.proofs.Math.Path.{refl, sym}
use borrow.Author.Tests.{eqb-true, eqb-false}
use Rattle.std.proofs.Math.ListN.{get_or}
use Rattle.wire.specs.Wire.{be_nat}
use Rattle.wire.proofs.laws.Cases.{cond_cases, if_eq, else_eq}
use Rattle.record.specs.Record.{no_log}
use Rattle.record.specs.declared.Log.{Log}
use Rattle.record.specs.declared.Record.{Record}
use Rattle.record.specs.declared.Timer.{Timer}
use Rattle.change.specs.Logs.{pending_of}
use Rattle.change.specs.Change.{kind_of, last_of, made_by, made_again, back_of, tables_for, inverse_of, timed_change, timed, takes_back}
use Rattle.change.specs.declared.Change.{Change}
use Rattle.change.specs.declared.Change.TheVariants.{Unreset, SetTimer}
use Rattle.change.specs.declared.Tables.{Tables}
use Rattle.change.specs.declared.Edit.{Edit}
use Rattle.entries.specs.Entries.{bytes_of}
use Rattle.journal.specs.Bytes.{cleared_body, body_of, entry_for}
use Rattle.journal.specs.Read.{cleared_as, reset_as, found_for}
use Rattle.journal.specs.declared.Way.{Way}
use Rattle.journal.specs.declared.Way.TheVariants.{Before, After}
use Rattle.promises.specs.Demand2.{GoesIn}
use Rattle.promises.specs.Effects.{values_of, last_pending, EntryMoved, clear_over, reset_undone, logged_undone, reset_redone, logged_redone, timer_over, values_over}

-- beside the timer t
module _ (r : Record) (t : Timer) where
  abbrev back_bytes : Tables → Change → List ℕ
  back_bytes tables ch = bytes_of (entry_for (takes_back r t (record { change = ch; tables = tables })))

  -- what is found says, of a change that goes in, which row holds
  abbrev Row : Way → ℕ → List ℕ → Option Change → Type 0
  Row w k b (Some ch) = (tables : Tables) → GoesIn r ch → EntryMoved r t w k b (back_bytes tables ch)
  Row w k b None = Unit {0}

  clear_row : (w : Way) (b : List ℕ) → Row w 0x01 b (Some (cleared_as w (get_or b 0 0) (record { id = get_or b 1 0; reason = get_or b 2 0 })))
  unfolding cleared_as entry_for bytes_of takes_back timed timed_change inverse_of back_of kind_of body_of cleared_body
  clear_row Before b tables g = clear_over Before b
  clear_row After b tables g = clear_over After b

  -- undone: the log that goes over
  last_made : (made : ℕ) → (made ≡ 0 → ⊥) → 1 ≤ pending_of r.logs → made_again r.logs made ≡ last_pending r
  unfolding made_again last_of
  last_made made some h =
      let pends : pending_of r.logs ≡ 0 → ⊥ = λ z. omega (arith, z, h) in
      sym (else_eq _ _ some (else_eq _ _ pends refl))

  none_made : (made : ℕ) → made ≡ 0 → made_again r.logs made ≡ no_log
  unfolding made_again
  none_made made z = sym (if_eq _ _ z refl)

  abbrev logged : Log → List ℕ
  logged x = 0x08 ∷ x.id ∷ x.reason ∷ []

  undone_row : (b : List ℕ) → GoesIn r (Unreset (get_or b 0 0) (get_or b 1 0)) → EntryMoved r t Before 0x08 b (logged (made_again r.logs (get_or b 1 0)))
  undone_row b g = go (eqb (get_or b 1 0) 0) refl
    where
      go : (x : Bool) → eqb (get_or b 1 0) 0 ≡ x → EntryMoved r t Before 0x08 b (logged (made_again r.logs (get_or b 1 0)))
      go true e =
          let z = eqb-true (get_or b 1 0) 0 e in
          subst (λ (x : Log). EntryMoved r t Before 0x08 b (logged x)) (sym (none_made (get_or b 1 0) z)) (reset_undone b z)
      go false e =
          let some = eqb-false (get_or b 1 0) 0 e in
          let pends : 1 ≤ pending_of r.logs = ⊎_elim (λ z. absurd (some z)) (λ h. h) g in
          subst (λ (x : Log). EntryMoved r t Before 0x08 b (logged x)) (sym (last_made (get_or b 1 0) some pends)) (logged_undone b some pends)

  redone_row : (b : List ℕ) (log : Log) → log.id ≡ get_or b 0 0 → EntryMoved r t After 0x08 b (0x08 ∷ r.state ∷ made_by log ∷ [])
  unfolding made_by
  redone_row b log same =
      cond_cases (λ (n : ℕ). EntryMoved r t After 0x08 b (0x08 ∷ r.state ∷ n ∷ [])) (eqb log.id 0)
      (λ e. reset_redone b (sym same ∙ eqb-true log.id 0 e)) (λ e. logged_redone b (λ z. eqb-false log.id 0 e (same ∙ z)))

  reset_row : (w : Way) (b : List ℕ) → Row w 0x08 b (Some (reset_as w (get_or b 0 0) (get_or b 1 0)))
  unfolding reset_as entry_for bytes_of takes_back timed timed_change inverse_of back_of kind_of body_of
  reset_row Before b tables g = undone_row b g
  reset_row After b tables g = redone_row b (record { id = get_or b 0 0; reason = get_or b 1 0 }) refl

  -- the other kinds
  over : (w : Way) (n k : ℕ) (b y : List ℕ) → k ≡ n → (n ≡ 0x01 → ⊥) → (n ≡ 0x08 → ⊥) → (n ≡ 0x0C → ⊥) → y ≡ n ∷ values_of r n → EntryMoved r t w k b y
  over w n k b y e p q x h = subst (λ (m : ℕ). EntryMoved r t w m b y) (sym e) (subst (EntryMoved r t w n b) (sym h) (values_over w n b p q x))

  at_kind : (w : Way) (k n : ℕ) (b : List ℕ) (ch : Change) → k ≡ n → Row w n b (Some ch) → Row w k b (Some ch)
  at_kind w k n b ch e h = λ tables g. subst (λ (m : ℕ). EntryMoved r t w m b (back_bytes tables ch)) (sym e) (h tables g)

  found_moved : (w : Way) (k : ℕ) (b : List ℕ) → Row w k b (found_for w k b)
  unfolding found_for entry_for bytes_of takes_back timed timed_change inverse_of back_of tables_for kind_of body_of values_of
  found_moved w k b =
      let P : Option Change → Type 0 = Row w k b in
      cond_cases P (eqb k 0x01) (λ e. at_kind w k 0x01 b (cleared_as w (get_or b 0 0) (record { id = get_or b 1 0; reason = get_or b 2 0 })) (eqb-true k 0x01 e) (clear_row w b))
      (λ _. cond_cases P (eqb k 0x02) (λ e tables g. over w 0x02 k b _ (eqb-true k 0x02 e) (λ z. omega (arith, z)) (λ z. omega (arith, z)) (λ z. omega (arith, z)) refl)
      (λ _. cond_cases P (eqb k 0x03) (λ e tables g. over w 0x03 k b _ (eqb-true k 0x03 e) (λ z. omega (arith, z)) (λ z. omega (arith, z)) (λ z. omega (arith, z)) refl)
      (λ _. cond_cases P (eqb k 0x04) (λ e tables g. over w 0x04 k b _ (eqb-true k 0x04 e) (λ z. omega (arith, z)) (λ z. omega (arith, z)) (λ z. omega (arith, z)) refl)
      (λ _. cond_cases P (eqb k 0x05) (λ e tables g. over w 0x05 k b _ (eqb-true k 0x05 e) (λ z. omega (arith, z)) (λ z. omega (arith, z)) (λ z. omega (arith, z)) refl)
      (λ _. cond_cases P (eqb k 0x06) (λ e tables g. over w 0x06 k b _ (eqb-true k 0x06 e) (λ z. omega (arith, z)) (λ z. omega (arith, z)) (λ z. omega (arith, z)) refl)
      (λ _. cond_cases P (eqb k 0x07) (λ e tables g. over w 0x07 k b _ (eqb-true k 0x07 e) (λ z. omega (arith, z)) (λ z. omega (arith, z)) (λ z. omega (arith, z)) refl)
      (λ _. cond_cases P (eqb k 0x08) (λ e. at_kind w k 0x08 b (reset_as w (get_or b 0 0) (get_or b 1 0)) (eqb-true k 0x08 e) (reset_row w b))
      (λ _. cond_cases P (eqb k 0x09) (λ e tables g. over w 0x09 k b _ (eqb-true k 0x09 e) (λ z. omega (arith, z)) (λ z. omega (arith, z)) (λ z. omega (arith, z)) refl)
      (λ _. cond_cases P (eqb k 0x0A) (λ e tables g. over w 0x0A k b _ (eqb-true k 0x0A e) (λ z. omega (arith, z)) (λ z. omega (arith, z)) (λ z. omega (arith, z)) refl)
      (λ _. cond_cases P (eqb k 0x0B) (λ e tables g. over w 0x0B k b _ (eqb-true k 0x0B e) (λ z. omega (arith, z)) (λ z. omega (arith, z)) (λ z. omega (arith, z)) refl)
      (λ _. cond_cases P (eqb k 0x0C) (λ e. at_kind w k 0x0C b (SetTimer (record { running = get_or b 0 0; left = be_nat (take 8 (drop 1 b)) })) (eqb-true k 0x0C e) (λ tables g. timer_over w b))
      (λ _. tt))))))))))))

  pub entry_moved : (w : Way) (k : ℕ) (b : List ℕ) (e : Edit) → found_for w k b ≡ Some e.change → GoesIn r e.change → EntryMoved r t w k b (bytes_of (entry_for (takes_back r t e)))
  entry_moved w k b e found g = subst (Row w k b) found (found_moved w k b) e.tables g
