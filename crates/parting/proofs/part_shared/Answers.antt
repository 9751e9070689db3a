-- `parting::part_shared` meets its contract: the whole entries of the bytes that both begin with. Assumes nothing.
use Rattle.parting.proofs.Told.{part_taken, part_size}
use Rattle.parting.proofs.part_shared.Goals as goal
use Rattle.std.proofs.Common.{◌∙◌}
use Rattle.parting.proofs.Agreeing.{agreed, agreed_fits}

pub slice_bounds-result-end : goal.slice_bounds-result-end
slice_bounds-result-end c = part_size _ _ (c.requires ∙ agreed c.args.first.now c.args.second.now) c.whole_len-end.ensures.value

pub returns : goal.returns
returns c = part_taken _ _ (c.requires ∙ agreed c.args.first.now c.args.second.now) c.whole_len-end.ensures.value

pub slice_bounds-whole_len-end : goal.slice_bounds-whole_len-end
slice_bounds-whole_len-end c = agreed_fits c.args.first.now c.args.second.now c.requires
