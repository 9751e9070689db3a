-- What an entry that reads says: a change of its kind and length, one that this way's store holds. Assumes nothing.
use Rattle.change.specs.declared.Tables.{Tables}
use Rattle.std.specs.Prelude.{ℕ, ◌+◌, ◌-◌, ◌≡◌, refl, not, List, eqb, length, get_or, drop, Option, Some, None}
use Rattle.std.proofs.Common.{sym, ap, ◌∙◌, arith, eqb-true}
use Rattle.std.proofs.lemmas.Bool.{eqb-false, not-false}
use Rattle.wire.proofs.laws.Cases.{cond_cases}
use Rattle.record.specs.declared.Log.{Log}
use Rattle.change.specs.Change.{kind_of}
use Rattle.change.specs.declared.Change.{Change}
use Rattle.change.specs.declared.Change.TheVariants.{Clear, Unclear, SetState, SetRole, SetCaps, SetUser, SetThermal, SetThrottles, Reset, Unreset, SetMask, SetDeadman, SetAreas, SetTimer}
use Rattle.entries.specs.Entries.{body_len}
use Rattle.change.specs.declared.Edit.{Edit}
use Rattle.journal.specs.declared.Way.{Way}
use Rattle.journal.specs.declared.Way.TheVariants.{Before, After}
use Rattle.journal.specs.Read.{cleared_as, reset_as, found_for, tables_in, edit_by, got_for, got_of}

-- the changes that a store holds
abbrev pub Holds : Way → Change → Type 0
Holds w (Clear place log) = w ≡ After
Holds w (Unclear place log) = w ≡ Before
Holds w (SetState state) = Unit {0}
Holds w (SetRole got role) = Unit {0}
Holds w (SetCaps got caps) = Unit {0}
Holds w (SetUser user) = Unit {0}
Holds w (SetThermal got) = Unit {0}
Holds w (SetThrottles got) = Unit {0}
Holds w (Reset log) = w ≡ After
Holds w (Unreset state made) = w ≡ Before
Holds w (SetMask mask) = Unit {0}
Holds w (SetDeadman deadman) = Unit {0}
Holds w (SetAreas areas) = Unit {0}
Holds w (SetTimer timer) = Unit {0}

abbrev pub Says : Way → ℕ → Option Change → Type 0
Says w k (Some ch) = (kind_of ch ≡ k) × Holds w ch
Says w k None = Unit {0}

cleared_says : (w : Way) (k place : ℕ) (log : Log) → k ≡ 0x01 → Says w k (Some (cleared_as w place log))
unfolding cleared_as kind_of
cleared_says Before k place log e = (sym e, refl)
cleared_says After k place log e = (sym e, refl)

reset_says : (w : Way) (k a b : ℕ) → k ≡ 0x08 → Says w k (Some (reset_as w a b))
unfolding reset_as kind_of
reset_says Before k a b e = (sym e, refl)
reset_says After k a b e = (sym e, refl)

pub found_says : (w : Way) (k : ℕ) (b : List ℕ) → Says w k (found_for w k b)
unfolding found_for kind_of
found_says w k b =
    cond_cases (Says w k) (eqb k 0x01) (λ t. cleared_says w k _ _ (eqb-true k 0x01 t))
    (λ f. cond_cases (Says w k) (eqb k 0x02) (λ t. (sym (eqb-true k 0x02 t), tt))
    (λ f. cond_cases (Says w k) (eqb k 0x03) (λ t. (sym (eqb-true k 0x03 t), tt))
    (λ f. cond_cases (Says w k) (eqb k 0x04) (λ t. (sym (eqb-true k 0x04 t), tt))
    (λ f. cond_cases (Says w k) (eqb k 0x05) (λ t. (sym (eqb-true k 0x05 t), tt))
    (λ f. cond_cases (Says w k) (eqb k 0x06) (λ t. (sym (eqb-true k 0x06 t), tt))
    (λ f. cond_cases (Says w k) (eqb k 0x07) (λ t. (sym (eqb-true k 0x07 t), tt))
    (λ f. cond_cases (Says w k) (eqb k 0x08) (λ t. reset_says w k _ _ (eqb-true k 0x08 t))
    (λ f. cond_cases (Says w k) (eqb k 0x09) (λ t. (sym (eqb-true k 0x09 t), tt))
    (λ f. cond_cases (Says w k) (eqb k 0x0A) (λ t. (sym (eqb-true k 0x0A t), tt))
    (λ f. cond_cases (Says w k) (eqb k 0x0B) (λ t. (sym (eqb-true k 0x0B t), tt))
    (λ f. cond_cases (Says w k) (eqb k 0x0C) (λ t. (sym (eqb-true k 0x0C t), tt)) (λ f. tt))))))))))))

-- bytes that were got as a change: they are as long as its entry
abbrev pub Whole : Way → List ℕ → Option Edit → Type 0
Whole w e (Some x) = (length e ≡ body_len (kind_of x.change) + 1) × Holds w x.change
Whole w e None = Unit {0}

whole_by_lem : (w : Way) (e : List ℕ) (k : ℕ) (t : Tables) (f : Option Change) → length e ≡ body_len k + 1 → Says w k f → Whole w e (edit_by t f)
unfolding edit_by
whole_by_lem w e k t (Some ch) n s = (n ∙ ap (λ (i : ℕ). body_len i + 1) (sym s.0), s.1)
whole_by_lem w e k t None n s = tt

pub got_whole : (w : Way) (e : List ℕ) → Whole w e (got_of w e)
unfolding got_of got_for
got_whole w e =
    cond_cases (Whole w e) (eqb (length e) 0) (λ t. tt)
    (λ some. cond_cases (Whole w e) (not (eqb (length e - 1) (body_len (get_or e 0 0)))) (λ t. tt)
    (λ fits. whole_by_lem w e (get_or e 0 0) (tables_in (get_or e 0 0) (drop 1 e)) (found_for w (get_or e 0 0) (drop 1 e)) (one_more (length e) _ (eqb-false (length e) 0 some) (eqb-true _ _ (not-false _ fits))) (found_says w (get_or e 0 0) (drop 1 e))))
  where
    one_more : (n m : ℕ) → (n ≡ 0 → ⊥) → n - 1 ≡ m → n ≡ m + 1
    one_more n m z e = omega (arith, z, e)
