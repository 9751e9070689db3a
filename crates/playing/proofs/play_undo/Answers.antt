use mathlib.Core.List.{List, []}
use mathlib.Core.Path.{refl}
use Rattle.playing.proofs.Lines.{told_put}
use Prim.Native.Nat.{ℕ}
use Rattle.playing.proofs.play_undo.Goals as goal

pub returns : goal.returns
returns c = told_put _ (λ (l : List ℕ). []) c.undo-told.ensures.0 c.undo-told.ensures.1 refl c.put_line.ensures.puts c.put_line.ensures.fits
