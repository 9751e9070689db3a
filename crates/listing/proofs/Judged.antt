-- What `list` puts is the listing, by what it judged. Assumes nothing.
use Prim.Native.Nat.{ℕ, ◌≤◌, ◌<◌}
use mathlib.Core.Path.{◌≡◌, refl, sym, ap, ◌∙◌}
use mathlib.Core.List.{List}
use native.Mathlib.Omega.{arith}
use lib.ListN.{length}
use Rattle.wire.proofs.laws.Cases.{if_lt, else_lt}
use Rattle.std.specs.Prelude.{Ok, Err}
use Rattle.entries.specs.Entries.{Entry, Scan, between, within, unknown, scan, entries_of, Reading, reading_of}
use Rattle.io.specs.Counts.{IsPrefixLen}
use Rattle.text.specs.Text.{sheet, put_all}
use Rattle.text.proofs.laws.Pieces.{fitting}
use Rattle.listing.specs.Listing.{whole, damaged_at, listing_of, pieces_of, listing, longest, listed, listed_length}
use Rattle.listing.proofs.laws.Lengths.{length_listing}

-- ---- what a reading says of the bytes

-- the listing by the reading
abbrev by_reading : Reading → List Entry → List (List ℕ)
by_reading (Ok read) es = whole read.count es
by_reading (Err broken) es = damaged_at broken.place

by_scan : (s : Scan) → by_reading (reading_of s) (entries_of s) ≡ listing_of s
unfolding reading_of entries_of listing_of
by_scan (between es) = refl
by_scan (within es k b n) = refl
by_scan (unknown es) = refl

-- r is what `read` found, c the variant that it is
pub listing_as : (j : List ℕ) {r c : Reading} → r ≡ c → r ≡ reading_of (scan j) → by_reading c (entries_of (scan j)) ≡ listing_of (scan j)
listing_as j is e = ap (λ (x : Reading). by_reading x (entries_of (scan j))) (sym is ∙ e) ∙ by_scan (scan j)

-- ---- the order of the judgements

module _ (j d : List ℕ) where
  pub listed_none : length d < longest → (0 ≡ listed_length j d) × ((d ≡ listed j d) × IsPrefixLen 0 d)
  unfolding listed listed_length
  listed_none h = (if_lt _ _ h refl, (if_lt _ _ h refl, (omega arith, refl)))

  pub listed_put : {ps : List (List ℕ)} {d' : List ℕ} {end : ℕ} → longest ≤ length d → ps ≡ pieces_of j → sheet d' end ≡ put_all (sheet d 0) ps
      → (end ≡ listed_length j d) × ((d' ≡ listed j d) × IsPrefixLen end d')
  unfolding listed listed_length listing
  listed_put h e p =
      let put = fitting (pieces_of j) d (omega (arith, length_listing j)) (p ∙ ap (put_all (sheet d 0)) e) in
      (else_lt _ _ h put.0, (else_lt _ _ h put.1.0, put.1.1))
