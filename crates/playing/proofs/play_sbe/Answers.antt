use Prim.Native.Nat.{ℕ}
use mathlib.Core.List.{List}
use lib.ListN.{take}
use Rattle.playing.proofs.Lines.{told_put}
use lib.Seq.{length-take-le}
use mathlib.Core.Path.{sym}
use native.Mathlib.Omega.{arith}
use Rattle.playing.proofs.play_sbe.Goals as goal

pub slice_bounds-put_line-end : goal.slice_bounds-put_line-end
slice_bounds-put_line-end c = sym (length-take-le 4 c.alone-told.new.reply (omega arith))

pub put_line-requires : goal.put_line-requires
put_line-requires c = omega (arith, length-take-le 4 c.alone-told.new.reply (omega arith))

pub returns : goal.returns
returns c = told_put _ (λ (l : List ℕ). take 4 l) c.alone-told.ensures.0 c.alone-told.ensures.1.0 c.alone-told.ensures.1.1 c.put_line.ensures.puts c.put_line.ensures.fits
