use Rattle.std.proofs.Common.{◌≡◌, drop}
use Rattle.formed.specs.Formed.{logs_above, logs_ok}
use Rattle.formed.proofs.logs_ok.Given as goal

-- what is left decides
abbrev pub invariant-loop-i : goal.invariant-loop-i
invariant-loop-i l = logs_above l.low l.next (drop l.i l.log-items) ≡ logs_ok l.next l.fn.logs
