-- `caps_block` meets its contract: header and numbers, each written after the one before it, fill the array.
use mathlib.Core.Path.{refl}
use lib.ListN.{replicate}
use Rattle.poll.proofs.Bytes.{block_put}
use Rattle.poll.proofs.caps_block.Goals as goal

pub returns : goal.returns
returns c = block_put c.args.limit c.args.caps c.args.user (replicate 20 0) _ _ _ _ _ _ _ refl
    c.copy.ensures
    c.put_be.ensures
    c.put_be-2.ensures
    c.put_be-3.ensures
    c.put_be-4.ensures
    c.put_be-5.ensures
    c.put_be-6.ensures
