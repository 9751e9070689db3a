-- A store of the entries of changes, the newest last: its bytes, how it reads, and that it is well formed. Assumes nothing.
use Prim.Native.Nat.{ℕ, ◌+◌, ◌-◌, ◌≤◌}
use Rattle.std.specs.Prelude.{true, ◌≡◌, refl, drop, Some, Ok}
use Rattle.std.proofs.Math.Path.{sym, ap}
use Rattle.std.proofs.Common.{◌∙◌, arith, drop_at}
use mathlib.Core.List.{List, [], ◌∷◌, ◌++◌, append_assoc}
use Rattle.std.proofs.Math.ListN.{length, take, replicate, length-append}
use Rattle.std.proofs.lemmas.List.{length-replicate, replicate-append-replicate}
use Rattle.std.proofs.Math.Seq.{take_at, take-append_seam, drop-append_seam, drop-append-add}
use Rattle.wire.specs.Wire.{all_are, pasted}
use Rattle.wire.proofs.laws.Wire.{all_replicate}
use Rattle.wire.proofs.laws.Cases.{if_b, else_lt}
use Rattle.change.specs.declared.Edit.{Edit}
use Rattle.entries.specs.Entries.{Entry, bytes_of, written, between, scan_from, scan_by, scan, newest_at, reading_of}
use Rattle.entries.proofs.laws.Entries.{read_append}
use Rattle.journal.specs.Bytes.{entry_for, entry_bytes}
use Rattle.journal.specs.Read.{got_of, entry_ok, all_ok, scan_ok, entries_ok}
use Rattle.journal.specs.Add.{entry_len, cut_from}
use Rattle.journal.proofs.laws.Bodies.{Writable, length_body, some_body}
use Rattle.journal.proofs.laws.Ends.{length_entry}
use Rattle.journal.specs.declared.Way.{Way}
use Rattle.session.proofs.laws.Session.{Store}
unfoldable pub use Rattle.saving.specs.Forms.{padded}
pub use Rattle.saving.proofs.laws.Base.{length_padded, take_padded}

-- ---- 2,048 bytes of which the first ones are used

abbrev pub zeros : ℕ → List ℕ
zeros n = replicate n 0

pub drop_padded : (l : List ℕ) → all_are 0 (drop (length l) (padded l)) ≡ true
unfolding padded
drop_padded l = ap (all_are 0) (drop-append_seam l (zeros (2048 - length l))) ∙ all_replicate 0 (2048 - length l)

zeros_split : (a b n : ℕ) → a + b ≡ n → zeros n ≡ zeros a ++ zeros b
zeros_split a b n e = ap zeros (sym e) ∙ sym (replicate-append-replicate a b 0)

length_zeros : (n : ℕ) → length (zeros n) ≡ n
length_zeros n = length-replicate n 0

-- an entry pasted after the used bytes; the same bytes zeroed again
pub paste_padded : (l b : List ℕ) → length l + length b ≤ 2048 → pasted (length l) b (padded l) ≡ padded (l ++ b)
unfolding pasted padded
paste_padded l b h =
    let m : ℕ = 2048 - (length l + length b) in
    let z : drop (length b) (zeros (2048 - length l)) ≡ zeros m =
    ap (drop (length b)) (zeros_split (length b) m (2048 - length l) (omega arith)) ∙ drop_at (zeros (length b)) (zeros m) (length b) (length_zeros (length b)) in
    rw (take-append_seam l (zeros (2048 - length l)), drop-append-add l (zeros (2048 - length l)) (length b), z, length-append l b, append_assoc l b (zeros m))

pub unpaste_padded : (l b : List ℕ) → length l + length b ≤ 2048 → pasted (length l) (zeros (length b)) (padded (l ++ b)) ≡ padded l
unfolding pasted padded
unpaste_padded l b h =
    let m : ℕ = 2048 - (length l + length b) in
    rw (
      length-append l b,
      append_assoc l b (zeros m),
      take-append_seam l (b ++ zeros m),
      length_zeros (length b),
      drop-append-add l (b ++ zeros m) (length b),
      drop-append_seam b (zeros m),
      ← zeros_split (length b) m (2048 - length l) (omega arith),
    )

-- ---- entries, the newest last

unfoldable pub flat : List Edit → List ℕ
flat [] = []
flat (b ∷ bs) = flat bs ++ entry_bytes b

-- one that this way's store may hold, and that reads as it was written
pub record Stored (w : Way) (b : Edit) : Type 0 where
  pub writable : Writable w b.tables b.change
  pub good : entry_ok w (entry_for b) ≡ true
  pub reads : got_of w (entry_bytes b) ≡ Some b

abbrev pub AllStored : Way → List Edit → Type 0
AllStored w [] = Unit {0}
AllStored w (b ∷ bs) = Stored w b × AllStored w bs

unfoldable pub pile : List Edit → List Entry
pile [] = []
pile (b ∷ bs) = entry_for b ∷ pile bs

pub pile_reads : (w : Way) (bs : List Edit) → AllStored w bs → scan (flat bs) ≡ between (pile bs)
unfolding flat pile scan_by scan_from entry_bytes entry_for
pile_reads w [] a = refl
pile_reads w (b ∷ bs) a =
    let s = length_body w b.tables b.change a.0.writable in
    read_append (flat bs) (pile bs) (entry_for b) (pile_reads w bs a.1) (sym s) (omega (arith, s, some_body w b.tables b.change a.0.writable))

pile_ok : (w : Way) (bs : List Edit) → AllStored w bs → all_ok w (pile bs) ≡ true
unfolding pile all_ok
pile_ok w [] a = refl
pile_ok w (b ∷ bs) a = sym (if_b _ _ a.0.good (sym (pile_ok w bs a.1)))

pub pile_written : (bs : List Edit) → written (pile bs) ≡ flat bs
unfolding written pile flat entry_bytes
pile_written [] = refl
pile_written (b ∷ bs) = ap (λ (l : List ℕ). l ++ bytes_of (entry_for b)) (pile_written bs)

pub flat_formed : (w : Way) (bs : List Edit) → AllStored w bs → length (flat bs) ≤ 2048 → Store w (padded (flat bs)) (length (flat bs))
unfolding entries_ok scan_ok
flat_formed w bs a h =
    record {
      fits = omega (arith, length_padded (flat bs) h, h);
      reads = ap (entries_ok w) (take_padded (flat bs)) ∙ ap (scan_ok w) (pile_reads w bs a) ∙ pile_ok w bs a;
      unused = drop_padded (flat bs);
    }

-- ---- the newest entry b of a store

module _ (w : Way) (b : Edit) (bs : List Edit) (a : AllStored w (b ∷ bs)) where
  pub length_one : length (entry_bytes b) ≡ entry_len b
  length_one = length_entry w b a.0.writable

  pub flat_length : length (flat (b ∷ bs)) ≡ length (flat bs) + entry_len b
  unfolding flat
  flat_length = length-append (flat bs) (entry_bytes b) ∙ ap (λ (k : ℕ). length (flat bs) + k) length_one

  pub flat_some : length (flat (b ∷ bs)) ≡ 0 → ⊥
  flat_some z = omega (arith, flat_length, z)

  -- it starts where the older ones end
  pub newest_reads : reading_of (scan (take (length (flat (b ∷ bs))) (padded (flat (b ∷ bs))))) ≡ Ok (record { count = length (pile (b ∷ bs)); newest = length (flat bs) })
  unfolding reading_of newest_at pile
  newest_reads =
      ap (λ (l : List ℕ). reading_of (scan l)) (take_padded (flat (b ∷ bs)))
      ∙ ap reading_of (pile_reads w (b ∷ bs) a)
      ∙ ap (λ (l : List ℕ). Ok (record { count = length (pile (b ∷ bs)); newest = length l })) (pile_written bs)

  pub newest_part : take (length (flat (b ∷ bs)) - length (flat bs)) (drop (length (flat bs)) (padded (flat (b ∷ bs)))) ≡ entry_bytes b
  unfolding padded flat
  newest_part =
      let z : List ℕ = replicate (2048 - length (flat bs ++ entry_bytes b)) 0 in
      let k : length (flat bs ++ entry_bytes b) - length (flat bs) ≡ length (entry_bytes b) = omega (arith, length-append (flat bs) (entry_bytes b)) in
      ap (λ (l : List ℕ). take (length (flat bs ++ entry_bytes b) - length (flat bs)) (drop (length (flat bs)) l)) (append_assoc (flat bs) (entry_bytes b) z)
      ∙ ap (take (length (flat bs ++ entry_bytes b) - length (flat bs))) (drop-append_seam (flat bs) (entry_bytes b ++ z))
      ∙ take_at (entry_bytes b) z (length (flat bs ++ entry_bytes b) - length (flat bs)) (sym k)

  -- and is cut off there
  pub newest_cut : length (flat (b ∷ bs)) ≤ 2048 → cut_from (length (flat bs)) (length (flat (b ∷ bs))) (padded (flat (b ∷ bs))) ≡ padded (flat bs)
  unfolding cut_from flat
  newest_cut fits =
      let whole = length_padded (flat (b ∷ bs)) fits in
      let k : length (flat (b ∷ bs)) - length (flat bs) ≡ length (entry_bytes b) = omega (arith, flat_length, length_one) in
      sym (else_lt _ _ {m = length (padded (flat (b ∷ bs)))} {n = length (flat (b ∷ bs))} (omega (arith, whole, fits))
      (else_lt _ _ {m = length (flat (b ∷ bs))} {n = length (flat bs)} (omega (arith, flat_length)) refl))
      ∙ ap (λ (m : ℕ). pasted (length (flat bs)) (zeros m) (padded (flat (b ∷ bs)))) k
      ∙ unpaste_padded (flat bs) (entry_bytes b) (omega (arith, flat_length, length_one, fits))
