use Rattle.std.proofs.Common.{sym, ◌∙◌}
use native.Mathlib.Omega.{arith}
use Rattle.entries.proofs.laws.Next.{next_low}
use Rattle.entries.proofs.Turns.{passed_none, passed_all, turn_broken, turn_next, count_fits, newest_fits}
use Rattle.trace.specs.Trace.{trace_table}
use Rattle.trace.proofs.read.Goals as goal

pub loop-at-init : goal.loop-at-init
loop-at-init c = passed_none trace_table c.args.t.now

pub returns-in-Err : goal.returns-in-Err
returns-in-Err c = let l = c.loop-at.invariant in record {
  value = sym (turn_broken l c.loop-at-test.true c.entry_len.ensures.value c.next_for.ensures c.in-Err.is).1;
  reading_fits = l.place.fits;
}

pub overflow_add-count : goal.overflow_add-count
overflow_add-count c = omega (arith, count_fits c.loop-at.invariant)

pub loop-at-smaller : goal.loop-at-smaller
loop-at-smaller c = omega (arith, next_low _ _ (sym c.in-Ok.is ∙ c.next_for.ensures))

pub overflow_add-at : goal.overflow_add-at
overflow_add-at c = omega (arith, (turn_next c.loop-at.invariant c.loop-at-test.true c.entry_len.ensures.value c.next_for.ensures c.in-Ok.is).place.fits)

pub loop-at-preserved : goal.loop-at-preserved
loop-at-preserved c = turn_next c.loop-at.invariant c.loop-at-test.true c.entry_len.ensures.value c.next_for.ensures c.in-Ok.is

pub returns : goal.returns
returns c = let l = c.loop-at.invariant in record { value = passed_all l c.loop-at-test.false; reading_fits = (omega (arith, newest_fits l), omega (arith, count_fits l)) }
