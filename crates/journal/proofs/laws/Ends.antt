-- What demand 3 needs of a store: after one more entry the bytes read as the entries before and this one. Assumes nothing.
use Rattle.std.specs.Prelude.{ℕ, suc, ◌+◌, ◌-◌, ◌≤◌, true, ◌≡◌, refl, take, drop, Some}
use Rattle.std.proofs.Math.Path.{sym, ap}
use Rattle.std.proofs.Common.{◌∙◌, add-one, arith, drop-drop}
use mathlib.Core.List.{List, ◌∷◌, ◌++◌}
use Rattle.std.proofs.Math.ListN.{length}
use Rattle.wire.specs.Wire.{all_are, pasted}
use Rattle.wire.proofs.laws.Wire.{length_pasted, take_pasted, drop_pasted, all_drop}
use Rattle.wire.proofs.laws.Cases.{else_lt}
use Rattle.change.specs.declared.Edit.{Edit}
use Rattle.change.specs.Change.{kind_of}
use Rattle.entries.specs.Entries.{Entry, body_len, bytes_of, between, scan}
use Rattle.entries.proofs.laws.Entries.{read_append}
use Rattle.entries.specs.Entries.{Sized}
use Rattle.journal.specs.declared.Way.{Way}
use Rattle.journal.specs.Bytes.{entry_for, entry_bytes}
use Rattle.journal.specs.Add.{entry_len, end_of, added_to}
use Rattle.journal.proofs.laws.Bodies.{Writable, length_body, some_body}

pub length_entry : (way : Way) (e : Edit) → Writable way e.tables e.change → length (entry_bytes e) ≡ entry_len e
unfolding entry_bytes entry_for bytes_of
length_entry way e w = ap suc (length_body way e.tables e.change w) ∙ sym (add-one (body_len (kind_of e.change)))

-- an entry of the size of its kind behind the used bytes: they read as the entries before and this one
pub sized_reads : (e : Edit) (used : ℕ) (j : List ℕ) (es : List Entry) → Sized (entry_for e) → used + entry_len e ≤ length j → scan (take used j) ≡ between es
    → scan (take (used + entry_len e) (pasted used (entry_bytes e) j)) ≡ between (entry_for e ∷ es)
unfolding entry_bytes entry_for bytes_of
sized_reads e used j es s room r =
    let long : length (entry_bytes e) ≡ entry_len e = omega (arith, s.0) in
    ap (λ (n : ℕ). scan (take (used + n) (pasted used (entry_bytes e) j))) (sym long)
    ∙ ap scan (take_pasted used (entry_bytes e) j (omega (arith, long)))
    ∙ read_append (take used j) es (entry_for e) r s.0 s.1

module _ (way : Way) (e : Edit) (used : ℕ) (j : List ℕ) (w : Writable way e.tables e.change) (room : used + entry_len e ≤ length j) where
  long : used + length (entry_bytes e) ≤ length j
  long = omega (arith, length_entry way e w)

  pub end_at : end_of (length j) used e ≡ Some (used + entry_len e)
  unfolding end_of
  end_at = sym (else_lt _ _ {m = length j} {n = used} (omega arith) (else_lt _ _ {m = length j - used} {n = entry_len e} (omega arith) refl))

  pub added : added_to used e j ≡ pasted used (entry_bytes e) j
  unfolding added_to
  added = sym (else_lt _ _ {m = length j} {n = used} (omega arith) (else_lt _ _ {m = length j - used} {n = entry_len e} (omega arith) refl))

  pub length_added : length (added_to used e j) ≡ length j
  length_added = ap length added ∙ length_pasted used (entry_bytes e) j long

  -- the used bytes are those before and the entry's
  pub take_added : take (used + entry_len e) (added_to used e j) ≡ take used j ++ entry_bytes e
  take_added =
      ap (λ (n : ℕ). take (used + n) (added_to used e j)) (sym (length_entry way e w))
      ∙ ap (take (used + length (entry_bytes e))) added
      ∙ take_pasted used (entry_bytes e) j long

  -- they read as the entries before and this one
  pub added_reads : (es : List Entry) → scan (take used j) ≡ between es → scan (take (used + entry_len e) (added_to used e j)) ≡ between (entry_for e ∷ es)
  unfolding entry_for
  added_reads es r =
      let s = length_body way e.tables e.change w in
      ap (λ (l : List ℕ). scan (take (used + entry_len e) l)) added ∙ sized_reads e used j es (sym s, omega (arith, s, some_body way e.tables e.change w)) room r

  -- the unused bytes stay zero
  pub added_unused : all_are 0 (drop used j) ≡ true → all_are 0 (drop (used + entry_len e) (added_to used e j)) ≡ true
  added_unused z =
      ap (λ (n : ℕ). all_are 0 (drop (used + n) (added_to used e j))) (sym (length_entry way e w))
      ∙ ap (λ (l : List ℕ). all_are 0 (drop (used + length (entry_bytes e)) l)) added
      ∙ ap (all_are 0) (drop_pasted used (entry_bytes e) j long ∙ sym (drop-drop (length (entry_bytes e)) used j))
      ∙ all_drop 0 (length (entry_bytes e)) (drop used j) z
