-- No line is longer than a buffer must be. Assumes nothing.
use Rattle.std.specs.Prelude.{ℕ, ◌+◌, ◌^◌, ◌≤◌, ◌<◌, not, List, [], ◌∷◌, ◌++◌, eqb, length}
use Rattle.std.proofs.Common.{ap, arith, length-append}
use Rattle.wire.proofs.laws.Wire.{joined_append}
use Rattle.wire.specs.Wire.{joined}
use Rattle.wire.proofs.laws.Cases.{cond_elim}
use Rattle.text.specs.Text.{ascii, line_end, decimal}
use Rattle.text.proofs.laws.Decimal.{length_decimal}
use Rattle.text.proofs.laws.Pieces.{length_hexes}
use Rattle.entries.specs.declared.Fault.{Fault}
use Rattle.entries.specs.declared.Fault.TheVariants.{UnknownKind, Cut}
use Rattle.playing.specs.Playing.{if_written, status_text, line_with, line_room, place_text, fault_text}

length_status : (status : List ℕ) → length status ≤ 4 → length (joined (status_text status)) ≤ 9
unfolding status_text joined
length_status status h =
    cond_elim (λ (ps : List (List ℕ)). length (joined ps) ≤ 9) (eqb (length status) 0) (omega arith) (omega (arith, length_hexes status))

length_written : (answer : ℕ) (status : List ℕ) → length status ≤ 4 → length (if_written answer status) ≤ 4
unfolding if_written
length_written answer status h = cond_elim (λ (l : List ℕ). length l ≤ 4) (not (eqb answer 0)) {x = []} {y = status} (omega arith) h

pub length_line : (number answer : ℕ) (status : List ℕ) → number < 10 ^ 20 → answer < 10 ^ 3 → length status ≤ 4
    → length (joined (line_with number answer (if_written answer status))) ≤ line_room
unfolding line_with joined
length_line number answer status n a s =
    let bytes = if_written answer status in
    omega (
      arith,
      length_decimal 19 number n,
      length_decimal 2 answer a,
      length_status bytes (length_written answer status s),
      length-append (decimal number) (ascii " " ++ (decimal answer ++ joined (status_text bytes ++ (line_end ∷ [])))),
      length-append (decimal answer) (joined (status_text bytes ++ (line_end ∷ []))),
      ap length (joined_append (status_text bytes) (line_end ∷ [])),
      length-append (joined (status_text bytes)) (joined (line_end ∷ [])),
    )

pub length_place : (words : List ℕ) (at : ℕ) → at < 10 ^ 20 → length (joined (place_text words at)) ≤ length words + 21
unfolding place_text joined
length_place words at h =
    omega (arith, length_decimal 19 at h, length-append words (decimal at ++ (line_end ++ [])), length-append (decimal at) (line_end ++ []))

pub length_fault : (f : Fault) → length (fault_text f) ≤ 16
unfolding fault_text
length_fault UnknownKind = omega arith
length_fault Cut = omega arith
