use native.Mathlib.Omega.{arith}
use Rattle.bjargolsk.proofs.Leaving.{part_kept, part_told}
use Rattle.bjargolsk.proofs.bjargolsk_part.Goals as goal

pub returns-then-text-lt-LONGEST : goal.returns-then-text-lt-LONGEST
returns-then-text-lt-LONGEST c = part_kept _ _ _ _ _ c.pack.ensures c.if-text-lt-LONGEST.true c.answer_with.ensures

pub overflow_cast-length : goal.overflow_cast-length
overflow_cast-length c = omega (arith, c.tell-length.ensures.upper_bound)

pub returns : goal.returns
returns c = part_told _ _ _ _ _ c.pack-2.ensures c.if-text-lt-LONGEST.false c.answer_with-2.ensures c.tell-length.ensures.value c.tell-length.ensures.out_after
