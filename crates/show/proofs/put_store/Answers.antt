use Rattle.std.proofs.Common.{refl, ap}
use Rattle.wire.proofs.laws.Cases.{if_lt, else_lt}
use Rattle.text.proofs.laws.Pieces.{same_pieces}
use Rattle.show.specs.Show.{reading_text, store_text}
use Rattle.show.proofs.put_store.Goals as goal

pub returns-then-s-used : goal.returns-then-s-used
unfolding store_text
returns-then-s-used c = (c.put.ensures.0, same_pieces _ (if_lt _ _ c.if-s-used.true refl) c.put.ensures.1)

pub returns : goal.returns
unfolding store_text
returns c =
    (c.put_reading.ensures.0, same_pieces _ (else_lt _ _ c.if-s-used.false (ap (reading_text _ _) c.read.ensures.value)) c.put_reading.ensures.1)
