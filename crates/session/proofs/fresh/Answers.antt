use Rattle.record.specs.Record.{timer_off, worked_of}
use Rattle.session.specs.Session.{fresh_session}
use mathlib.Core.Path.{ap, ◌∙◌}
use lib.ListN.{replicate}
use Rattle.session.proofs.fresh.Goals as goal

pub returns : goal.returns
unfolding fresh_session
returns c = let worked = c.work_out-worked.ensures ∙ ap worked_of c.fresh-held.ensures in
    λ i. record { held = c.fresh-held.ensures i; worked = worked i; next = 1; journal = replicate 2048 0; used = 0; redo = replicate 2048 0; ahead = 0; marks = replicate 64 0; timer = timer_off; profile = 0 }
