use Rattle.std.proofs.Common.{◌≡◌, ◌+◌, ◌*◌, length, drop}
use Rattle.wire.specs.Wire.{pasted, joined}
use Rattle.text.specs.Text.{hexes}
use Rattle.text.proofs.spell.Given as goal

abbrev pub invariant-loop-b : goal.invariant-loop-b
invariant-loop-b l =
    (length l.out ≡ length l.initial.out) × (l.end ≡ l.at + 2 * l.b-index)
    × (pasted l.end (joined (hexes (drop l.b-index l.s))) l.out ≡ pasted l.at (joined (hexes l.s)) l.initial.out)
