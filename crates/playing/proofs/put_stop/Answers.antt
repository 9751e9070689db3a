use Rattle.std.proofs.Common.{arith, ap, sym, subst, ◌≤◌, length, List, ℕ}
use Rattle.wire.specs.Wire.{joined}
use Rattle.entries.specs.Entries.{Reading}
use Rattle.playing.specs.Playing.{place_text, stop_line}
use Rattle.playing.proofs.laws.Lengths.{length_fault}
use Rattle.playing.proofs.put_stop.Goals as goal

pub returns-in_default-clause-fits : goal.returns-in_default-clause-fits
unfolding stop_line joined
returns-in_default-clause-fits c = subst (λ (r : Reading). length (joined (stop_line r)) ≤ 37) (sym c.in_default.is) (omega arith)

pub returns-clause-fits : goal.returns-clause-fits
unfolding stop_line
returns-clause-fits c =
    let words = c.fault_text.ensures in
    let broken = c.in-Err.broken in
    subst (λ (r : Reading). length (joined (stop_line r)) ≤ 37) (sym c.in-Err.is)
    (omega (
      arith,
      length_fault broken.fault,
      ap length words,
      ap (λ (l : List ℕ). length (joined (place_text l broken.place))) words,
      c.put_place.ensures.fits,
    ))
