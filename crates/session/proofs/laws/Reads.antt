-- What the bytes of a store whose values are good read as. Assumes nothing.
use Rattle.std.specs.Prelude.{ℕ, true, ◌≡◌, refl, List}
use Rattle.std.proofs.lemmas.Bool.{false≢true}
use Rattle.entries.specs.Entries.{Entry, Scan, between, within, unknown, scan}
use Rattle.journal.specs.Read.{all_ok, scan_ok, entries_ok}
use Rattle.journal.specs.declared.Way.{Way}

pub record Reads (w : Way) (j : List ℕ) : Type 0 where
  pub entries : List Entry
  pub scanned : scan j ≡ between entries
  pub good : all_ok w entries ≡ true

reads_by : (w : Way) (x : Scan) (j : List ℕ) → scan j ≡ x → scan_ok w x ≡ true → Reads w j
unfolding scan_ok
reads_by w (between es) j e h = record { entries = es; scanned = e; good = h }
reads_by w (within es k b n) j e h = absurd (false≢true h)
reads_by w (unknown es) j e h = absurd (false≢true h)

pub reads : (w : Way) (j : List ℕ) → entries_ok w j ≡ true → Reads w j
unfolding entries_ok
reads w j h = reads_by w (scan j) j refl h
