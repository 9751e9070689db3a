use Rattle.std.proofs.Common.{lit<}
use Rattle.std.specs.Slice.Iter.{chunks_exact_rest, chunks_exact_size}
use Rattle.sets.specs.Sets.{empty_frus, one_fru}
use Rattle.sets.proofs.Reading.{Left}
use Rattle.sets.proofs.read_frus.Given as goal

abbrev pub invariant-loop-set : goal.invariant-loop-set
invariant-loop-set l = Left one_fru 4 (lit< tt) empty_frus l.part (chunks_exact_rest l.set-iterator) (chunks_exact_size l.set-iterator) l.t
