-- Document 01, "The journal": an entry that was written reads as its change. Assumes nothing.
use Prim.Native.Nat.{ℕ, suc, ◌-◌}
use Rattle.std.specs.Prelude.{true, ◌≡◌, refl, Some, None}
use Rattle.std.proofs.Math.Path.{sym}
use Rattle.std.proofs.Common.{◌∙◌}
use native.Mathlib.Omega.{arith}
use Rattle.std.proofs.Math.ListN.{length}
use Rattle.wire.proofs.laws.Cases.{else_eq, else_ne}
use Rattle.change.specs.Change.{kind_of}
use Rattle.change.specs.declared.Edit.{Edit}
use Rattle.formed.specs.Formed.{edit_ok}
use Rattle.entries.specs.Entries.{body_len, bytes_of}
use Rattle.journal.specs.declared.Way.{Way}
use Rattle.journal.specs.Bytes.{body_of, entry_for, entry_bytes}
use Rattle.journal.specs.Read.{found_for, tables_in, edit_by, got_for, got_of, values_ok, entry_ok}
use Rattle.journal.proofs.laws.Bodies.{Writable, length_body, found_body, tables_body}

module _ (way : Way) (e : Edit) (w : Writable way e.tables e.change) where
  -- what its kind and body say is the change and its tables
  body_says : edit_by (tables_in (kind_of e.change) (body_of e.tables e.change)) (found_for way (kind_of e.change) (body_of e.tables e.change)) ≡ Some e
  unfolding edit_by
  body_says = λ i. edit_by (tables_body way e.tables e.change w i) (found_body way e.tables e.change w i)

  -- its bytes are read as that
  pub entry_got : got_of way (entry_bytes e) ≡ Some e
  unfolding got_of got_for entry_bytes entry_for bytes_of
  entry_got =
      let n : ℕ = length (body_of e.tables e.change) in
      let some : suc n ≡ 0 → ⊥ = λ z. omega arith in
      let fits : suc n - 1 ≡ body_len (kind_of e.change) = omega (arith, length_body way e.tables e.change w) in
      sym (else_eq None _ {m = suc n} {n = 0} some (else_ne None _ {m = suc n - 1} {n = body_len (kind_of e.change)} fits refl))
      ∙ body_says

  -- its values pass, if the change's do
  pub entry_ok_lem : edit_ok e ≡ true → entry_ok way (entry_for e) ≡ true
  unfolding entry_ok entry_for edit_ok values_ok
  entry_ok_lem ok = (λ i. values_ok (tables_body way e.tables e.change w i) (found_body way e.tables e.change w i)) ∙ ok
