use Rattle.std.proofs.Common.{◌≡◌, ◌*◌, ◌-◌, drop}
use Rattle.formed.specs.Formed.{absent_zero, pairs_ok}
use Rattle.formed.proofs.absent_zero.Given as goal

-- what is left decides
abbrev pub invariant-loop-i : goal.invariant-loop-i
invariant-loop-i l = pairs_ok (16 - l.i) l.left (drop (l.i * 10) l.sets) ≡ absent_zero l.present l.sets
