-- Laws of reading entries, by the journal's table: each is the law for any table. Assumes nothing.
use Rattle.std.specs.Prelude.{ℕ, zero, suc, ◌≤◌, ◌≡◌, refl, List, [], ◌∷◌, ◌++◌, length, take, drop}
use Rattle.std.proofs.Common.{sym, ap, ◌∙◌, arith}
use Rattle.entries.specs.Entries.{Entry, Sized, body_len, with_kind, journal_table, bytes_of, written, between, scan_from, scan, newest_at}
use Rattle.entries.proofs.laws.ByTable as by-table
pub use Rattle.entries.proofs.laws.ByTable.{length_written, count_written, newest_written}

-- ---- a kind's row in the table, by the length of its body

pub no_kind : (n k : ℕ) → n ≡ body_len k → n ≡ 0 → 0 ≡ journal_table k
unfolding journal_table with_kind
no_kind n k e z = ap with_kind (sym z ∙ e)

pub known_kind : (n k : ℕ) → n ≡ body_len k → (n ≡ 0 → ⊥) → suc n ≡ journal_table k
unfolding journal_table with_kind
known_kind zero k e z = absurd (z refl)
known_kind (suc n) k e z = ap with_kind e

abbrev pub Proper : List Entry → Type 0
Proper [] = Unit {0}
Proper (e ∷ es) = Sized e × Proper es

sized_body : (n k : ℕ) (b : List ℕ) → body_len k ≡ n → with_kind n ≡ suc (length b) → (body_len k ≡ length b) × (1 ≤ length b)
unfolding with_kind
sized_body zero k b e h = absurd (omega arith)
sized_body (suc n) k b e h = (omega arith, omega arith)

sized : (e : Entry) → by-table.Sized journal_table e → Sized e
unfolding journal_table
sized e h = sized_body (body_len e.kind) e.kind e.body refl h

proper : (es : List Entry) → by-table.Proper journal_table es → Proper es
proper [] h = tt
proper (e ∷ es) h = (sized e h.0, proper es h.1)

-- ---- reading

pub scan_append : (j xs : List ℕ) → scan (j ++ xs) ≡ scan_from journal_table (scan j) xs
scan_append = by-table.scan_append journal_table

pub read_append : (j : List ℕ) (es : List Entry) (e : Entry) → scan j ≡ between es → body_len e.kind ≡ length e.body → 1 ≤ length e.body
    → scan (j ++ bytes_of e) ≡ between (e ∷ es)
read_append j es e r p h =
    by-table.read_append journal_table j es e r (sym (known_kind (length e.body) e.kind (sym p) (λ z. omega arith)))

module _ (j : List ℕ) (es : List Entry) (reads : scan j ≡ between es) where
  pub scan_written : j ≡ written es
  scan_written = by-table.scan_written journal_table j es reads

  pub scan_proper : Proper es
  scan_proper = proper es (by-table.scan_proper journal_table j es reads)

-- ---- cutting the newest entry off

module _ (j : List ℕ) (e : Entry) (es : List Entry) (reads : scan j ≡ between (e ∷ es)) where
  pub scan_older : scan (written es) ≡ between es
  scan_older = by-table.scan_older journal_table j e es reads

  pub take_newest : take (newest_at (e ∷ es)) j ≡ written es
  take_newest = by-table.take_newest journal_table j e es reads

  pub drop_newest : drop (newest_at (e ∷ es)) j ≡ bytes_of e
  drop_newest = by-table.drop_newest journal_table j e es reads
