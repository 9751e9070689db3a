use Rattle.std.proofs.Common.{◌≡◌, ◌≤◌, ◌+◌, ◌-◌, ◌++◌, rules, arith, length, take, sym, ap, ◌∙◌, subst, le_refl}
use Rattle.std.proofs.lemmas.Slice.{take-put_mid_below}
use Rattle.streams.specs.Reads.{count_of}
use Rattle.std.specs.Io.KnownBytes.{Consumes}
use Rattle.std.proofs.KnownBytes.{Consumes-trans}
use borrow.Rule.Slice.PartMut.{put_mid}
use Rattle.streams.proofs.Parts.{take_split, slice_range-put_mid}
use Rattle.streams.proofs.read_full.Goals as goal

pub loop-done-preserved : goal.loop-done-preserved
loop-done-preserved g c =
    let from = c.loop-done.done in
    let room = length c.loop-done.space - from in
    let n = c.in-Ok.n in
    let within = c.loop-done.invariant.1 in
    let count : count_of c.read.result ≡ n = ap count_of c.in-Ok.is in
    let fits : n ≤ length c.read.new.space = omega (arith, count, c.read.ensures.count.0) in
    let part = slice_range-put_mid from room n c.loop-done.space c.read.new.space within fits in
    let joined = take_split from (from + n) c.loop-done.space (put_mid from room c.loop-done.space c.read.new.space) (omega arith) (take-put_mid_below _ _ _ _ _ (le_refl _) within) in
    (search rules, search rules, subst (Consumes _ _) (ap (λ l. take from c.loop-done.space ++ l) (ap (λ m. take m c.read.new.space) count ∙ sym part) ∙ joined) (Consumes-trans _ _ _ _ _ c.loop-done.invariant.2 c.read.ensures.bytes))
