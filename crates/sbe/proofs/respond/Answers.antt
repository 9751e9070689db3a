-- The fields are written one after the other from the front.
use Rattle.sbe.proofs.Responses.{response_put}
use native.Mathlib.Omega.{arith}
use Rattle.sbe.proofs.respond.Goals as goal

pub returns : goal.returns
returns c = response_put _ _ _ _ _ _ _ _ (omega arith) c.put_be.ensures c.put_be-2.ensures c.copy.ensures c.copy-2.ensures
