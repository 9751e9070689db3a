-- No text is longer than a buffer must be. Assumes nothing.
use Rattle.std.specs.Prelude.{ℕ, ◌^◌, ◌≤◌, ◌<◌, [], ◌++◌, length, Option, None, Some}
use Rattle.std.proofs.Common.{arith, length-append}
use Rattle.wire.specs.Wire.{joined}
use Rattle.text.specs.Text.{ascii, line_end, decimal}
use Rattle.text.proofs.laws.Decimal.{length_decimal}
use Rattle.parting.specs.declared.Refusal.{Refusal}
use Rattle.parting.specs.declared.Refusal.TheVariants.{InFirst, InSecond}
use Rattle.entries.specs.declared.Fault.TheVariants.{UnknownKind, Cut}
use Rattle.parting.specs.Lines.{shared_line, refusal_line}

pub length_shared : (entries bytes next : ℕ) → entries < 10 ^ 20 → bytes < 10 ^ 20 → next < 10 ^ 20 → length (joined (shared_line entries bytes next)) ≤ 91
unfolding shared_line joined
length_shared entries bytes next a b c =
    let last = decimal next ++ (line_end ++ []) in
    let middle = decimal bytes ++ (ascii " bytes; next " ++ last) in
    omega (
      arith,
      length_decimal 19 entries a,
      length_decimal 19 bytes b,
      length_decimal 19 next c,
      length-append (decimal next) (line_end ++ []),
      length-append (decimal bytes) (ascii " bytes; next " ++ last),
      length-append (decimal entries) (ascii " entries, " ++ middle),
    )

pub length_refusal : (r : Option Refusal) → length (joined (refusal_line r)) ≤ 27
unfolding refusal_line joined
length_refusal None = omega arith
length_refusal (Some (InFirst UnknownKind)) = omega arith
length_refusal (Some (InFirst Cut)) = omega arith
length_refusal (Some (InSecond UnknownKind)) = omega arith
length_refusal (Some (InSecond Cut)) = omega arith
