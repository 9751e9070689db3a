use Rattle.std.proofs.Common.{◌≡◌, ◌+◌, ◌*◌, length, drop}
use Rattle.wire.specs.Wire.{pasted, joined}
use Rattle.text.specs.Text.{spaced}
use Rattle.text.proofs.spell_apart.Given as goal

abbrev pub invariant-loop-b : goal.invariant-loop-b
invariant-loop-b l =
    (length l.out ≡ length l.initial.out) × (l.end ≡ l.at + 3 * l.b-index)
    × (pasted l.end (joined (spaced (drop l.b-index l.s))) l.out ≡ pasted l.at (joined (spaced l.s)) l.initial.out)
