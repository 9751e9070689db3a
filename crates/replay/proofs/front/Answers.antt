use Rattle.trace.specs.Trace.{trace_table}
use Rattle.entries.proofs.laws.Next.{next_fits}
use Rattle.replay.proofs.Parts.{whole_front}
use Rattle.replay.proofs.front.Goals as goal

pub returns : goal.returns
returns c = rw (c.flatten.ensures, c.ok.ensures.value) (whole_front _ _ (next_fits trace_table _ c.next.ensures))
