use native.Mathlib.Omega.{arith}
use Rattle.forget_call.proofs.Freeing.{used_low, journal_whole, fewer_held, at_low, rest_whole, all_forgotten}
use Rattle.wire.proofs.laws.Pairs.{first_of_two, second_of_two}
use Rattle.forget_call.proofs.forget_oldest.Goals as goal

pub free-requires : goal.free-requires
free-requires c = (c.requires.0.long, at_low c.args.h c.args.lent.now c.requires.0 c.requires.1 _ _ c.oldest_end.ensures _ c.in-Some.is, used_low c.args.h c.args.lent.now c.requires.0 c.requires.1, rest_whole c.args.h c.args.lent.now c.requires.0 c.requires.1 _ _ c.oldest_end.ensures _ c.in-Some.is)

pub returns : goal.returns
returns c = record { value = first_of_two (all_forgotten c.args.h c.args.lent.now c.requires.0 c.requires.1 _ _ c.oldest_end.ensures _ c.in-Some.is _ _ c.answer_with-2.ensures c.free.ensures); lent_after = second_of_two (all_forgotten c.args.h c.args.lent.now c.requires.0 c.requires.1 _ _ c.oldest_end.ensures _ c.in-Some.is _ _ c.answer_with-2.ensures c.free.ensures) }
