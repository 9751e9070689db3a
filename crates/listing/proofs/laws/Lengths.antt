-- Laws of the listing: how long each part is, and that no listing is longer than a buffer must be. Assumes nothing.
use Rattle.std.specs.Prelude.{ℕ, ◌+◌, ◌*◌, ◌≤◌, ◌≡◌, refl, List, [], ◌∷◌, ◌++◌, ltb, length}
use Rattle.std.proofs.Common.{ap, subst, arith, lit≤, length-append, ltb-false}
use Rattle.wire.proofs.laws.Wire.{joined_append}
use Rattle.wire.specs.Wire.{joined}
use Rattle.wire.proofs.laws.Cases.{cond_cases}
use Rattle.entries.specs.Entries.{Entry, journal_table, Scan, between, within, unknown, scan, entries_of, written}
use Rattle.entries.proofs.laws.ByTable.{whole_length}
use Rattle.entries.proofs.laws.Entries.{Proper, scan_written, scan_proper, length_written, count_written}
use Rattle.text.specs.Text.{line_end, hex_of, hexes, decimal}
use Rattle.text.proofs.laws.Decimal.{length_decimal}
use Rattle.text.proofs.laws.Pieces.{length_hexes}
use Rattle.listing.specs.Listing.{line, lines_of, whole, damaged_at, listing_of, pieces_of, listing, longest}

-- ---- lengths

-- counts and places of 2,048 bytes have four digits at most
length_number : (n : ℕ) → n ≤ 2048 → length (decimal n) ≤ 4
length_number n h = length_decimal 3 n (omega arith)

pub length_line : (e : Entry) → length (joined (line e)) ≡ 2 * length e.body + 4
unfolding line joined hex_of
length_line e =
    omega (arith, ap length (joined_append (hexes e.body) (line_end ∷ [])), length-append (joined (hexes e.body)) line_end, length_hexes e.body)

-- a line takes at most 3 bytes for each of its entry's
length_lines : (es : List Entry) → Proper es → length (joined (lines_of es)) ≤ 3 * length (written es)
unfolding lines_of joined written
length_lines [] h = omega arith
length_lines (e ∷ es) h =
    omega (
      arith,
      ap length (joined_append (lines_of es) (line e)),
      length-append (joined (lines_of es)) (joined (line e)),
      length_line e,
      length_written e es,
      length_lines es h.1,
      h.0.1,
    )

length_damaged : (n : ℕ) → n ≤ 2048 → length (joined (damaged_at n)) ≤ longest
unfolding damaged_at joined
length_damaged n h = omega (arith, length-append (decimal n) line_end, length_number n h)

damage_fits : (j : List ℕ) (s : Scan) → scan j ≡ s → length (written (entries_of s)) ≤ length j
damage_fits j s e = subst (λ (x : Scan). length (written (entries_of x)) ≤ length j) e (whole_length journal_table j)

length_listing_of : (j : List ℕ) (s : Scan) → length j ≤ 2048 → scan j ≡ s → length (joined (listing_of s)) ≤ longest
unfolding listing_of whole joined entries_of
length_listing_of j (between es) h e =
    omega (
      arith,
      length-append (decimal (length es)) (line_end ++ joined (lines_of es)),
      length_number (length es) (omega (arith, count_written es, ap length (scan_written j es e))),
      length_lines es (scan_proper j es e),
      ap length (scan_written j es e),
    )
length_listing_of j (within es k b n) h e = length_damaged (length (written es)) (omega (arith, damage_fits j (within es k b n) e))
length_listing_of j (unknown es) h e = length_damaged (length (written es)) (omega (arith, damage_fits j (unknown es) e))

-- no listing is longer than a buffer must be
pub length_listing : (j : List ℕ) → length (listing j) ≤ longest
unfolding listing pieces_of joined
length_listing j =
    cond_cases (λ (ps : List (List ℕ)). length (joined ps) ≤ longest) (ltb 2048 (length j))
    (λ e. lit≤ tt)
    (λ e. length_listing_of j (scan j) (ltb-false 2048 (length j) e) refl)
