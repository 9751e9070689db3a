-- The stores of a well-formed session: what they read as, and that they stay good with one entry more, or the newest one cut off. Assumes nothing.
use Rattle.std.specs.Prelude.{ℕ, ◌+◌, ◌-◌, ◌≤◌, Bool, true, false, cond, ◌≡◌, refl, replicate}
use Rattle.std.proofs.lemmas.Bool.{false≢true}
use Rattle.std.proofs.Math.Path.{sym, ap}
use Rattle.std.proofs.Common.{subst, ◌∙◌, arith, length-append, length-take-le, take-take, take_at, drop_at}
use mathlib.Core.List.{List, ◌∷◌, ◌++◌}
use Rattle.std.proofs.Math.ListN.{length, take, drop}
use Rattle.std.proofs.lemmas.List.{length-replicate}
use Rattle.wire.specs.Wire.{all_are, pasted}
use Rattle.wire.proofs.laws.Wire.{all_replicate, all_append}
use Rattle.wire.proofs.laws.Cases.{if_b, else_lt}
use Rattle.change.specs.declared.Edit.{Edit}
use Rattle.entries.specs.Entries.{Entry, written, between, scan_from, scan_by, scan, entries_of, newest_at}
use Rattle.entries.proofs.laws.Entries.{scan_written, scan_older, take_newest, length_written}
use Rattle.journal.specs.Bytes.{entry_for, entry_bytes}
use Rattle.journal.specs.Read.{entry_ok, all_ok, scan_ok, entries_ok}
use Rattle.journal.specs.Add.{entry_len, added_to, cut_from}
use Rattle.journal.specs.Ways.{by_way, other}
use Rattle.journal.specs.declared.Way.{Way}
use Rattle.journal.specs.declared.Way.TheVariants.{Before, After}
use Rattle.journal.proofs.laws.Bodies.{Writable}
use Rattle.journal.proofs.laws.Ends.{added, length_added, added_reads, added_unused}
use Rattle.session.specs.Session.{entries_in, only_clears}
use Rattle.session.proofs.laws.Reads.{reads}
use Rattle.session.proofs.laws.Watch.{clears_more, clears_first, entries_read}
use Rattle.session.proofs.laws.Session.{Store, Formed}
use Rattle.session.specs.declared.Session.{Session}
use Rattle.session.specs.Road.{store_of, used_of}
use Rattle.links.specs.Typed.{TypedSession}

-- entries that were read so are good, the newest and the older ones
pub all_good : (w : Way) (j : List ℕ) (es : List Entry) → entries_ok w j ≡ true → scan j ≡ between es → all_ok w es ≡ true
unfolding entries_ok scan_ok
all_good w j es h r = sym (ap (scan_ok w) r) ∙ h

pub all_parts : (w : Way) (x : Entry) (es : List Entry) → all_ok w (x ∷ es) ≡ true → (entry_ok w x ≡ true) × (all_ok w es ≡ true)
unfolding all_ok
all_parts w x es h = go (entry_ok w x) refl h
  where
    go : (t : Bool) → entry_ok w x ≡ t → cond t (all_ok w es) false ≡ true → (entry_ok w x ≡ true) × (all_ok w es ≡ true)
    go true e h = (e, h)
    go false e h = absurd (false≢true h)

-- ---- nothing in it: clears only

pub none_clears : (j : List ℕ) → only_clears (entries_in 0 j) ≡ true
unfolding entries_in entries_of scan_by scan_from only_clears
none_clears j = refl

-- ---- one entry more

module _ (w : Way) (j : List ℕ) (used : ℕ) (store : Store w j used) (e : Edit) (writable : Writable w e.tables e.change) (ok : entry_ok w (entry_for e) ≡ true) (room : used + entry_len e ≤ length j) where
  more_reads : entries_ok w (take (used + entry_len e) (added_to used e j)) ≡ true
  unfolding entries_ok scan_ok all_ok
  more_reads =
      let r = reads w (take used j) store.reads in
      ap (scan_ok w) (added_reads w e used j writable room r.entries r.scanned) ∙ sym (if_b _ _ ok (sym r.good))

  pub one_more : Store w (added_to used e j) (used + entry_len e)
  one_more = record { fits = omega (arith, length_added w e used j writable room, room); reads = more_reads; unused = added_unused w e used j writable room store.unused }

  -- k: clears only, if it is one
  pub more_clears : (entry_for e).kind ≡ 0x01 → only_clears (entries_in used j) ≡ true → only_clears (entries_in (used + entry_len e) (added_to used e j)) ≡ true
  more_clears k h =
      let r = reads w (take used j) store.reads in
      ap only_clears (entries_read (used + entry_len e) (added_to used e j) (entry_for e ∷ r.entries) (added_reads w e used j writable room r.entries r.scanned))
      ∙ clears_more (entry_for e) r.entries k (sym (ap only_clears (entries_read used j r.entries r.scanned)) ∙ h)

  pub pasted_clears : (entry_for e).kind ≡ 0x01 → only_clears (entries_in used j) ≡ true → only_clears (entries_in (used + entry_len e) (pasted used (entry_bytes e) j)) ≡ true
  pasted_clears k h = ap (λ (l : List ℕ). only_clears (entries_in (used + entry_len e) l)) (sym (added w e used j writable room)) ∙ more_clears k h

  pub more_pasted : Store w (pasted used (entry_bytes e) j) (used + entry_len e)
  more_pasted = subst (λ (l : List ℕ). Store w l (used + entry_len e)) (added w e used j writable room) one_more

-- ---- the newest entry cut off

length_zeros : (n : ℕ) → length (replicate {A = ℕ} n 0) ≡ n
length_zeros n = length-replicate {A = ℕ} n 0

module _ (j : List ℕ) (at used : ℕ) (low : at ≤ used) (high : used ≤ length j) where
  abbrev zeros : List ℕ
  zeros = replicate (used - at) 0

  pub cut_zeroed : cut_from at used j ≡ pasted at (replicate (used - at) 0) j
  unfolding cut_from
  cut_zeroed = sym (else_lt _ _ {m = length j} {n = used} high (else_lt _ _ {m = used} {n = at} low refl))

  cut_is : cut_from at used j ≡ take at j ++ (zeros ++ drop used j)
  unfolding pasted
  cut_is =
      let k : at + length zeros ≡ used = omega (arith, length_zeros (used - at)) in
      cut_zeroed ∙ ap (λ (n : ℕ). take at j ++ (zeros ++ drop n j)) k

  front : length (take at j) ≡ at
  front = length-take-le at j (omega arith)

  take_cut : take at (cut_from at used j) ≡ take at (take used j)
  take_cut = ap (take at) cut_is ∙ take_at (take at j) (zeros ++ drop used j) at front ∙ sym (take-take at used j low)

  drop_cut : all_are 0 (drop used j) ≡ true → all_are 0 (drop at (cut_from at used j)) ≡ true
  drop_cut z =
      ap (λ (l : List ℕ). all_are 0 (drop at l)) cut_is
      ∙ ap (all_are 0) (drop_at (take at j) (zeros ++ drop used j) at front)
      ∙ all_append 0 zeros (drop used j) ∙ sym (if_b _ false (all_replicate 0 (used - at)) (sym z))

  length_cut : at ≤ length (cut_from at used j)
  length_cut = omega (arith, ap length cut_is, length-append (take at j) (zeros ++ drop used j), front)

module _ (w : Way) (j : List ℕ) (used : ℕ) (store : Store w j used) (x : Entry) (es : List Entry) (read : scan (take used j) ≡ between (x ∷ es)) where
  -- the used bytes are those of the older entries and of the newest
  pub used_is : used ≡ length (written es) + (1 + length x.body)
  used_is = omega (arith, ap length (scan_written (take used j) (x ∷ es) read), length_written x es, length-take-le used j store.fits)

  -- the newest starts where the older ones end: they read as they did
  less_reads : entries_ok w (take (length (written es)) (take used j)) ≡ true
  unfolding entries_ok scan_ok newest_at
  less_reads =
      ap (λ (l : List ℕ). scan_ok w (scan l)) (take_newest (take used j) x es read)
      ∙ ap (scan_ok w) (scan_older (take used j) x es read)
      ∙ (all_parts w x es (all_good w (take used j) (x ∷ es) store.reads read)).1

  pub one_less : Store w (cut_from (length (written es)) used j) (length (written es))
  one_less =
      let low : length (written es) ≤ used = omega (arith, used_is) in
      record {
        fits = length_cut j (length (written es)) used low store.fits;
        reads = ap (entries_ok w) (take_cut j (length (written es)) used low store.fits) ∙ less_reads;
        unused = drop_cut j (length (written es)) used low store.fits store.unused;
      }

  -- k: clears only, if they were, the newest among them
  pub less_clears : only_clears (entries_in used j) ≡ true → (x.kind ≡ 0x01) × (only_clears (entries_in (length (written es)) (cut_from (length (written es)) used j)) ≡ true)
  unfolding newest_at
  less_clears h =
      let low : length (written es) ≤ used = omega (arith, used_is) in
      let t = clears_first x es (sym (ap only_clears (entries_read used j (x ∷ es) read)) ∙ h) in
      let older : scan (take (length (written es)) (cut_from (length (written es)) used j)) ≡ between es =
      ap scan (take_cut j (length (written es)) used low store.fits ∙ take_newest (take used j) x es read) ∙ scan_older (take used j) x es read in
      (t.0, ap only_clears (entries_read (length (written es)) (cut_from (length (written es)) used j) es older) ∙ t.1)

-- ---- in a session, by the way

module _ (s : Session) (f : Formed s) where
  pub store_of_lem : (w : Way) → Store w (store_of w s) (used_of w s)
  unfolding store_of used_of by_way
  store_of_lem Before = f.journal
  store_of_lem After = f.redo

  pub both_used : (w : Way) → used_of w s + used_of (other w) s ≤ 2048
  unfolding used_of other by_way
  both_used Before = f.both_fit
  both_used After = omega (arith, f.both_fit)

pub long_store : (s : Session) → TypedSession s → (w : Way) → length (store_of w s) ≡ 2048
unfolding store_of by_way
long_store s typed Before = typed.journal
long_store s typed After = typed.redo
