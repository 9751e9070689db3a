use Rattle.std.proofs.Common.{lit<}
use Rattle.std.specs.Slice.Iter.{chunks_exact_rest, chunks_exact_size}
use Rattle.record.specs.Record.{no_throttles}
use Rattle.sets.specs.Sets.{one_set}
use Rattle.sets.proofs.Reading.{Left}
use Rattle.sets.proofs.read_sets.Given as goal

abbrev pub invariant-loop-set : goal.invariant-loop-set
invariant-loop-set l = Left one_set 12 (lit< tt) no_throttles l.part (chunks_exact_rest l.set-iterator) (chunks_exact_size l.set-iterator) l.table
