-- `parting::whole_len` meets its contract: the reading tells where the whole entries end. Assumes nothing.
use Rattle.parting.proofs.Agreeing.{whole_as}
use Rattle.parting.proofs.whole_len.Goals as goal

pub returns-in-Ok : goal.returns-in-Ok
returns-in-Ok c = let w = whole_as _ c.in-Ok.is c.read.ensures.value in record { value = w.0; prefix_len = w.1 }

pub returns-in-Err : goal.returns-in-Err
returns-in-Err c = let w = whole_as _ c.in-Err.is c.read.ensures.value in record { value = w.0; prefix_len = w.1 }
