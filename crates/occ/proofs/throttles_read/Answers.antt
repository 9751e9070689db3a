use mathlib.Core.Path.{sym, ap, ◌∙◌}
use Rattle.std.specs.Option.{ok_or}
use Rattle.packet.specs.declared.Status.TheVariants.{InvalidData}
use Rattle.sets.specs.Sets.{throttles_of}
use Rattle.occ.specs.Judge.{throttles_read}
use Rattle.occ.proofs.Parts.{read_counted, handed_on, count_refused, sets_refused_or_read}
use Rattle.occ.proofs.throttles_read.Goals as goal

pub returns-in_err-sets_status : goal.returns-in_err-sets_status
unfolding throttles_read
returns-in_err-sets_status c =
    handed_on _ _ c.from_residual.ensures.1 ∙ count_refused _ _ (sym c.sets_status.ensures ∙ c.in_err-sets_status.was)

pub returns : goal.returns
unfolding throttles_read
returns c =
    let counted = sym c.sets_status.ensures ∙ c.in_ok-sets_status.was in
    let read = read_counted throttles_of 12 c.args.d.now c.sets_status.ensures c.in_ok-sets_status.was c.read_sets.ensures in
    c.ok_or.ensures.value ∙ ap (λ v. ok_or v InvalidData) read ∙ sets_refused_or_read _ counted
