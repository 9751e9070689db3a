-- Document 02, m: "each part one byte of kind and a body whose length the kind fixes": the new form reads as its seven parts, by their table. Assumes nothing.
use Prim.Native.Nat.{ℕ, suc}
use Rattle.std.specs.Prelude.{◌≡◌, refl}
use Rattle.std.proofs.Common.{sym, ◌∙◌}
use Rattle.std.proofs.Math.Path.{ap}
use mathlib.Core.List.{List, [], ◌∷◌, ◌++◌, append_assoc, append-nil}
use Rattle.wire.specs.Wire.{to_be, joined}
use Rattle.entries.specs.Entries.{bytes_of, written, between, scan_by}
use Rattle.entries.proofs.laws.ByTable.{Proper, scan_of_written}
use Rattle.session.specs.declared.Session.{Session}
use Rattle.links.specs.Typed.{TypedSession}
use Rattle.image.specs.Image.{record_rows}
use Rattle.saving.specs.Forms.{parts_of, saved_rows, saved_of, part_table}
use Rattle.saving.proofs.laws.Record.{length_record}

pub regroup : (a b c d e f g : List ℕ) → (((((a ++ b) ++ c) ++ d) ++ e) ++ f) ++ g ≡ a ++ (b ++ (c ++ (d ++ (e ++ (f ++ g)))))
regroup a b c d e f g = simp append_assoc

module _ (s : Session) (t : TypedSession s) where
  parts_written : written (parts_of s) ≡ saved_of s
  unfolding parts_of written bytes_of saved_of saved_rows joined
  parts_written =
      regroup (1 ∷ joined (record_rows s.held)) (2 ∷ to_be 2 s.next) (3 ∷ s.journal) (4 ∷ s.redo) (5 ∷ s.marks) (6 ∷ s.profile ∷ []) (7 ∷ s.timer.running ∷ to_be 8 s.timer.left)
      ∙ ap (λ (l : List ℕ). (1 ∷ joined (record_rows s.held)) ++ ((2 ∷ to_be 2 s.next) ++ ((3 ∷ s.journal) ++ ((4 ∷ s.redo) ++ ((5 ∷ s.marks) ++ ((6 ∷ s.profile ∷ []) ++ (7 ∷ s.timer.running ∷ l)))))))
      (sym (append-nil (to_be 8 s.timer.left)))

  parts_proper : Proper part_table (parts_of s)
  unfolding parts_of part_table to_be
  parts_proper = (refl, (refl, (ap suc (sym t.marks), (ap suc (sym t.redo), (ap suc (sym t.journal), (refl, (ap suc (sym (length_record s.held t.held)), tt)))))))

  pub reads_as_parts : scan_by part_table (saved_of s) ≡ between (parts_of s)
  reads_as_parts = ap (scan_by part_table) (sym parts_written) ∙ scan_of_written part_table (parts_of s) parts_proper
