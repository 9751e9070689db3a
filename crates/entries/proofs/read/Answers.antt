-- `entries::read` meets its contract: the bytes before `at` read as entries, the newest of them at `newest`. Assumes nothing.
use mathlib.Core.Path.{refl}
use native.Mathlib.Omega.{arith}
use Rattle.entries.specs.Entries.{journal_table}
use Rattle.entries.proofs.laws.Entries.{no_kind}
use Rattle.entries.proofs.Turns.{kind_zero, whole_kind, some, passed_none, passed_all, passed_unknown, passed_cut, passed_next, count_fits, newest_fits}
use Rattle.entries.proofs.read.Goals as goal

pub loop-at-init : goal.loop-at-init
loop-at-init c = (passed_none journal_table c.args.j.now, kind_zero 0 refl)

pub next_len-n-requires : goal.next_len-n-requires
next_len-n-requires c = c.loop-at.invariant.1

pub returns-then-n-eq0 : goal.returns-then-n-eq0
returns-then-n-eq0 c = let l = c.loop-at in record { value = passed_unknown l.invariant.0 c.loop-at-test.true (no_kind _ _ c.next_len-n.ensures c.if-n-eq0.true); reading_fits = l.invariant.0.place.fits }

pub returns-then-j-at : goal.returns-then-j-at
returns-then-j-at c = let l = c.loop-at in record { value = passed_cut l.invariant.0 c.loop-at-test.true (whole_kind _ _ c.next_len-n.ensures c.if-n-eq0.false) (some _) (omega arith); reading_fits = l.invariant.0.place.fits }

pub overflow_add-count : goal.overflow_add-count
overflow_add-count c = omega (arith, count_fits c.loop-at.invariant.0)

pub loop-at-preserved : goal.loop-at-preserved
loop-at-preserved c = (passed_next c.loop-at.invariant.0 c.loop-at-test.true (whole_kind _ _ c.next_len-n.ensures c.if-n-eq0.false) (some _) (omega arith), c.next_len-n.ensures)

pub returns : goal.returns
returns c = let l = c.loop-at in record { value = passed_all l.invariant.0 c.loop-at-test.false; reading_fits = (omega (arith, newest_fits l.invariant.0), omega (arith, count_fits l.invariant.0)) }
