use Rattle.std.proofs.Common.{◌≡◌, None, rules}
use mathlib.Core.Path.{sym, ◌∙◌}
use Rattle.inplace.proofs.Standing.{no_room_lem, marked_still, has_more}
use Rattle.inplace.proofs.enter.Goals as goal

pub returns-in_err-to : goal.returns-in_err-to
returns-in_err-to c =
    let z : c.from_residual.result ≡ None = search rules in
    record {
      value = z ∙ sym c.in_err-to.was ∙ c.add.ensures.value;
      entered = rw z (no_room_lem c.args.lent.now c.requires.0 _ c.requires.1 _ _ _ c.add.ensures.value c.add.ensures.lent_after c.in_err-to.was);
    }

pub mark_added-requires : goal.mark_added-requires
mark_added-requires c = marked_still c.args.lent.now c.requires.0 _ c.requires.1 _ _ _ c.add.ensures.value c.add.ensures.lent_after c.add.ensures.lent_len c.add.ensures.sized _ c.in_ok-to.was

pub returns : goal.returns
returns c = record {
  value = sym c.in_ok-to.was ∙ c.add.ensures.value;
  entered = has_more c.args.lent.now c.requires.0 _ c.requires.1 _ _ _ c.add.ensures.value c.add.ensures.lent_after c.add.ensures.lent_len c.add.ensures.sized _ c.in_ok-to.was _ c.mark_added.ensures;
}
