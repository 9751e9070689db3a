use native.Mathlib.Omega.{arith}
use Rattle.playing.proofs.Lines.{as_sbe, as_undo, as_occ, plays_as, whole, whole_sender}
use Rattle.playing.proofs.play_entry.Goals as goal

pub bounds-entry-0 : goal.bounds-entry-0
bounds-entry-0 c = omega (arith, (whole c.args.entry.now c.requires).0)

pub slice_bounds-play_sbe-count : goal.slice_bounds-play_sbe-count
slice_bounds-play_sbe-count c = omega (arith, (whole c.args.entry.now c.requires).0)

pub slice_bounds-play_sbe-start : goal.slice_bounds-play_sbe-start
slice_bounds-play_sbe-start c = omega (arith, (whole c.args.entry.now c.requires).0)

pub returns-then-kind-eq3 : goal.returns-then-kind-eq3
returns-then-kind-eq3 c = plays_as (as_sbe c.args.lent.now c.args.entry.now c.if-kind-eq3.true) c.play_sbe.ensures

pub returns-then-kind-eq4 : goal.returns-then-kind-eq4
returns-then-kind-eq4 c = plays_as (as_undo c.args.lent.now c.args.entry.now c.if-kind-eq3.false c.if-kind-eq4.true) c.play_undo.ensures

pub bounds-entry-1 : goal.bounds-entry-1
bounds-entry-1 c = omega (arith, whole_sender c.args.entry.now c.requires c.if-kind-eq3.false c.if-kind-eq4.false)

pub slice_bounds-play_occ-count : goal.slice_bounds-play_occ-count
slice_bounds-play_occ-count c = omega (arith, whole_sender c.args.entry.now c.requires c.if-kind-eq3.false c.if-kind-eq4.false)

pub slice_bounds-play_occ-start : goal.slice_bounds-play_occ-start
slice_bounds-play_occ-start c = omega (arith, whole_sender c.args.entry.now c.requires c.if-kind-eq3.false c.if-kind-eq4.false)

pub returns-else-kind-eq4 : goal.returns-else-kind-eq4
returns-else-kind-eq4 c = plays_as (as_occ c.args.lent.now c.args.entry.now c.if-kind-eq3.false c.if-kind-eq4.false) c.play_occ.ensures
