use mathlib.Core.Path.{refl, sym, ◌∙◌}
use borrow.Author.Tests.{not-false}
use Rattle.wire.proofs.laws.Cases.{if_not, else_not}
use Rattle.session.specs.Session.{well_formed}
use Rattle.image.specs.Image.{session_in}
use Rattle.inplace.proofs.well_formed.Goals as goal

pub returns-then-not-held_ok : goal.returns-then-not-held_ok
unfolding well_formed session_in
returns-then-not-held_ok c = if_not _ _ c.held_ok.ensures c.if-not-held_ok.true-raw refl

pub returns-then-not-timer_ok : goal.returns-then-not-timer_ok
unfolding well_formed session_in
returns-then-not-timer_ok c = else_not _ _ c.held_ok.ensures c.if-not-held_ok.false-raw (if_not _ _ c.timer_ok.ensures c.if-not-timer_ok.true-raw refl)

pub returns-then-not-stores_ok : goal.returns-then-not-stores_ok
unfolding well_formed session_in
returns-then-not-stores_ok c = else_not _ _ c.held_ok.ensures c.if-not-held_ok.false-raw (else_not _ _ c.timer_ok.ensures c.if-not-timer_ok.false-raw (if_not _ _ c.stores_ok.ensures c.if-not-stores_ok.true-raw refl))

pub profile_ok-requires : goal.profile_ok-requires
profile_ok-requires c = (c.requires, sym c.stores_ok.ensures ∙ not-false _ c.if-not-stores_ok.false-raw)

pub returns : goal.returns
unfolding well_formed session_in
returns c = else_not _ _ c.held_ok.ensures c.if-not-held_ok.false-raw (else_not _ _ c.timer_ok.ensures c.if-not-timer_ok.false-raw (else_not _ _ c.stores_ok.ensures c.if-not-stores_ok.false-raw c.profile_ok.ensures))
