-- The tests are those of the definition, in its order.
use Rattle.std.proofs.Common.{refl}
use Rattle.wire.proofs.laws.Cases.{if_lt, else_lt}
use Rattle.text.specs.Text.{put_on, put_all}
use Rattle.text.proofs.laws.Pieces.{put_fits}
use Rattle.text.proofs.Page.put.Goals as goal

pub returns-then-self : goal.returns-then-self
unfolding put_on put_all
returns-then-self c = (refl, if_lt _ _ c.if-self.true refl)

pub returns-then-s-self : goal.returns-then-s-self
unfolding put_all
returns-then-s-self c = (refl, put_fits _ _ _ c.if-self.false c.if-s-self.true c.copy.ensures)

pub returns-else-s-self : goal.returns-else-s-self
unfolding put_on put_all
returns-else-s-self c = (refl, else_lt _ _ c.if-self.false (if_lt _ _ c.if-s-self.false refl))
