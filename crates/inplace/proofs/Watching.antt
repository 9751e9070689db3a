-- The used parts of both stores, as they stand in the lent bytes: what they read as. Assumes nothing.
use Prim.Native.Nat.{ℕ, ◌+◌, ◌-◌, ◌≤◌}
use mathlib.Core.Bool.{Bool, true}
use mathlib.Core.Path.{◌≡◌, sym, ap, subst, ◌∙◌}
use mathlib.Core.List.{List}
use native.Mathlib.Nat.{add-sub_cancel_left}
use native.Mathlib.Omega.{arith}
use lib.ListN.{take, drop}
use lib.Seq.{take-take}
use Rattle.entries.specs.Entries.{entries_of, scan, ReadsWhole}
use Rattle.journal.specs.declared.Way.{Way}
use Rattle.journal.specs.declared.Way.TheVariants.{Before}
use Rattle.session.specs.Session.{stores_ok, entries_in, only_clears}
use Rattle.session.proofs.laws.Session.{Store, Stores, stores}
use Rattle.session.proofs.laws.Reads.{reads}
use Rattle.image.specs.declared.Head.{Head}
use Rattle.image.specs.Image.{part_at, journal_in, redo_in, session_in}
use Rattle.layout.specs.Layout.{store_size, journal_at, redo_at}

pub used_part : (at used : ℕ) (b : List ℕ) → used ≤ store_size → take (at + used - at) (drop at b) ≡ take used (part_at store_size at b)
used_part at used b fits = ap (λ (n : ℕ). take n (drop at b)) (add-sub_cancel_left at used) ∙ sym (take-take used store_size (drop at b) fits)

reads_whole : (w : Way) (at used : ℕ) (b : List ℕ) → used ≤ store_size → Store w (part_at store_size at b) used → ReadsWhole (take (at + used - at) (drop at b))
reads_whole w at used b fits s =
    let r = reads w (take used (part_at store_size at b)) s.reads in
    subst ReadsWhole (sym (used_part at used b fits)) (record { entries = r.entries; reads = r.scanned })

clears_in : (at used : ℕ) (b : List ℕ) → used ≤ store_size → (x : Bool) → x ≡ only_clears (entries_of (scan (take (at + used - at) (drop at b)))) → x ≡ only_clears (entries_in used (part_at store_size at b))
unfolding entries_in
clears_in at used b fits x e = e ∙ ap (λ (l : List ℕ). only_clears (entries_of (scan l))) (used_part at used b fits)

module _ (h : Head) (b : List ℕ) (ok : stores_ok (session_in h b) ≡ true) where
  abbrev there : Stores (session_in h b)
  there = stores (session_in h b) ok

  pub both_low : (h.used ≤ store_size) × (h.ahead ≤ store_size)
  unfolding session_in
  both_low = (omega (arith, there.both_fit), omega (arith, there.both_fit))

  pub journal_whole : ReadsWhole (take (journal_at + h.used - journal_at) (drop journal_at b))
  unfolding session_in
  journal_whole = reads_whole Before journal_at h.used b both_low.0 there.journal

  pub journal_clears : (x : Bool) → x ≡ only_clears (entries_of (scan (take (journal_at + h.used - journal_at) (drop journal_at b)))) → x ≡ only_clears (entries_in h.used (journal_in b))
  journal_clears = clears_in journal_at h.used b both_low.0

  pub redo_clears : (x : Bool) → x ≡ only_clears (entries_of (scan (take (redo_at + h.ahead - redo_at) (drop redo_at b)))) → x ≡ only_clears (entries_in h.ahead (redo_in b))
  redo_clears = clears_in redo_at h.ahead b both_low.1
