-- The stores' parts of the lent bytes, lent on to functions and given back. Assumes nothing.
use Rattle.std.specs.Prelude.{Option, Some, None}
use Prim.Native.Nat.{ℕ, ◌+◌, ◌-◌, ◌≤◌}
use mathlib.Core.Bool.{Bool, true, false, cond}
use mathlib.Core.Path.{◌≡◌, refl, sym, ap, ap₂, subst, ◌∙◌}
use mathlib.Core.List.{List, ◌∷◌, ◌++◌}
use native.Mathlib.Nat.{zero-add, sub-zero}
use native.Mathlib.Omega.{arith}
use borrow.Author.Tests.{ltb-false}
use lib.Dec.{ltb}
use lib.ListN.{length, take, drop, replicate, length-drop, length-replicate, replicate-append-replicate}
use lib.Seq.{take_all, take_at, length-take-le}
use Rattle.wire.specs.Wire.{all_are, pasted}
use Rattle.wire.proofs.laws.Cases.{else_lt}
use Rattle.wire.proofs.laws.Wire.{take_all_are}
use Rattle.record.specs.Record.{worked_of}
use Rattle.change.specs.Change.{put_after, takes_back, timer_after}
use Rattle.change.specs.declared.Edit.{Edit}
use Rattle.entries.specs.Entries.{Entry, Scan, entries_of, scan}
use Rattle.entries.specs.Entries.{Sized}
use Rattle.marks.specs.Marks.{marks_of}
use Rattle.marks.proofs.laws.Marks.{length_marks}
use Rattle.journal.specs.Add.{entry_len, end_of, added_to, cut_from}
use Rattle.journal.specs.Bytes.{entry_for, entry_bytes}
use Rattle.journal.proofs.laws.Ends.{sized_reads}
use Rattle.journal.specs.declared.Way.{Way}
use Rattle.journal.specs.declared.Way.TheVariants.{Before, After}
use Rattle.session.specs.Session.{Carried, entries_in, marks_for, well_formed, made_of, renewed, with_timer, carried_of}
use Rattle.session.proofs.laws.Session.{formed, formed_next}
use Rattle.image.specs.declared.Head.{Head}
use Rattle.image.specs.Image.{image_of, head_renewed, head_timed, part_at, store_at, store_in, with_part, with_store, journal_in, redo_in, marks_in, session_in}
use Rattle.layout.specs.Layout.{marks_size, journal_at, redo_at, marks_at, image_length}
use Rattle.image.proofs.laws.Stores.{store_low, store_long, store_back, store_above, store_below, store_marks, store_same, marks_long, marks_back, marks_store, lent_part, lent_back}
use Rattle.image.proofs.Standing.{length_store}
use Rattle.inplace.specs.InPlace.{Marked, MarksMore, HasMore, Entered, head_after, carried_in}
use Rattle.inplace.proofs.laws.Marked.{formed_marked, entries_are}
use Rattle.inplace.proofs.Carrying.{carried_full, carried_at}

-- an entry without room changes nothing
abbrev IsFull : Option ℕ → Type 0
IsFull (Some m) = ⊥
IsFull None = Unit {0}

abbrev end_in : Option ℕ → ℕ
end_in (Some m) = m
end_in None = 0

full_keeps : (used : ℕ) (e : Edit) (j : List ℕ) → IsFull (end_of (length j) used e) → added_to used e j ≡ j
unfolding end_of added_to
full_keeps used e j = go (ltb (length j) used) (ltb (length j - used) (entry_len e))
  where
    go : (p q : Bool) → IsFull (cond p None (cond q None (Some (used + entry_len e)))) → cond p j (cond q j (pasted used (entry_bytes e) j)) ≡ j
    go true q f = refl
    go false true f = refl
    go false false f = absurd f

-- an entry with room ends where it says, and lies within
at_end : (n used m : ℕ) (e : Edit) → end_of n used e ≡ Some m → (m ≡ used + entry_len e) × (used + entry_len e ≤ n)
unfolding end_of
at_end n used m e = go (ltb n used) (ltb (n - used) (entry_len e)) refl refl
  where
    go : (p q : Bool) → ltb n used ≡ p → ltb (n - used) (entry_len e) ≡ q → cond p None (cond q None (Some (used + entry_len e))) ≡ Some m → (m ≡ used + entry_len e) × (used + entry_len e ≤ n)
    go true q i j f = absurd (subst IsFull f tt)
    go false true i j f = absurd (subst IsFull f tt)
    go false false i j f = (sym (ap end_in f), omega (arith, ltb-false n used i, ltb-false (n - used) (entry_len e) j))

-- a store that is cut from its front on is empty
emptied : (j : List ℕ) (used : ℕ) → used ≤ length j → all_are 0 (drop used j) ≡ true → cut_from 0 used j ≡ replicate (length j) 0
unfolding cut_from pasted
emptied j used fits rest =
    let unused : drop used j ≡ replicate (length j - used) 0 =
    sym (take_all (length j - used) (drop used j) (simp length-drop (omega arith))) ∙ take_all_are 0 (length j - used) (drop used j) rest (simp length-drop (omega arith)) in
    let zeros : List ℕ = replicate used 0 in
    let all : used + (length j - used) ≡ length j = omega arith in
    sym (else_lt _ _ {m = length j} {n = used} fits (else_lt _ _ {m = used} {n = 0} (omega arith) refl))
    ∙ ap (λ (n : ℕ). pasted 0 (replicate n 0) j) (sub-zero used)
    ∙ ap (λ (n : ℕ). zeros ++ drop n j) (zero-add (length zeros) ∙ length-replicate used 0)
    ∙ ap (λ (l : List ℕ). zeros ++ l) unused
    ∙ replicate-append-replicate used (length j - used) 0
    ∙ ap (λ (n : ℕ). replicate n 0) all

-- ---- an entry more: the journal's part was lent to `journal::add`, which leaves the lent bytes as a

module _ (b : List ℕ) (long : length b ≡ image_length) (used : ℕ) (is_marked : Marked used b) (e : Edit) (end : Option ℕ) (a : List ℕ)
    (made : end ≡ end_of 2048 used e) (added : a ≡ with_store journal_at (added_to used e (journal_in b)) b) where
  abbrev x : List ℕ
  x = added_to used e (journal_in b)

  n_is : length (journal_in b) ≡ 2048
  n_is = length_store b long journal_at (omega arith)

  pub no_room_lem : end ≡ None → a ≡ b
  no_room_lem f =
      added ∙ store_same b x journal_at (full_keeps used e (journal_in b) (subst IsFull (sym f ∙ made ∙ ap (λ (n : ℕ). end_of n used e) (sym n_is)) tt))

  module _ (wide : length x ≡ 2048) (sized : Sized (entry_for e)) (m : ℕ) (at : end ≡ Some m) where
    -- the entry has room, and stands behind the used bytes
    fits : (m ≡ used + entry_len e) × (used + entry_len e ≤ 2048)
    fits = at_end 2048 used m e (sym made ∙ at)

    x_is : x ≡ pasted used (entry_bytes e) (journal_in b)
    unfolding added_to
    x_is =
        sym (else_lt _ _ {m = length (journal_in b)} {n = used} (omega (arith, n_is, fits.1))
        (else_lt _ _ {m = length (journal_in b) - used} {n = entry_len e} (omega (arith, n_is, fits.1)) refl))

    long_a : length a ≡ image_length
    long_a = ap length added ∙ store_long b x long wide journal_at (omega arith)

    journal_a : journal_in a ≡ x
    journal_a = ap journal_in added ∙ store_back b x long wide journal_at (omega arith)

    front_a : take used (journal_in a) ≡ take used (journal_in b)
    unfolding pasted
    front_a =
        ap (take used) (journal_a ∙ x_is) ∙ take_at (take used (journal_in b)) _ used (length-take-le used (journal_in b) (omega (arith, n_is, fits.1)))

    abbrev still : Marked used a
    still = record {
      fits = is_marked.fits;
      entries = is_marked.entries;
      reads = ap scan front_a ∙ is_marked.reads;
      marks_are = ap marks_in added ∙ store_marks b x long wide journal_at (omega arith) ∙ is_marked.marks_are;
    }

    pub marked_still : (length a ≡ image_length) × Marked used a × (used + 2 ≤ 2048)
    unfolding entry_for
    marked_still = (long_a, still, omega (arith, fits.1, sized.0, sized.1))

    -- the marks of the new journal
    module _ (g : List ℕ) (marked : MarksMore used a g) where
      abbrev new : List ℕ
      new = marks_of (entry_for e ∷ is_marked.entries)

      new_is : new ≡ marks_for x m
      unfolding entries_in entries_of
      new_is =
          let read = sized_reads e used (journal_in b) is_marked.entries sized (omega (arith, n_is, fits.1)) is_marked.reads in
          sym (ap (λ (s : Scan). marks_of (entries_of s)) (ap₂ (λ (k : ℕ) (j : List ℕ). scan (take k j)) fits.0 x_is ∙ read))

      marks_are : g ≡ with_part marks_size marks_at new a
      marks_are = marked (entry_for e) ∙ ap (λ (es : List Entry). with_part marks_size marks_at (marks_of (entry_for e ∷ es)) a) (entries_are a long_a used still)

      wide_new : length new ≡ 64
      wide_new = length_marks (entry_for e ∷ is_marked.entries)

      pub has_more : HasMore used e m b g
      unfolding store_at
      has_more = record {
        long = ap length marks_are ∙ marks_long a new long_a wide_new;
        journal = ap journal_in marks_are ∙ marks_store a new long_a wide_new Before ∙ journal_a;
        redo = ap redo_in marks_are ∙ marks_store a new long_a wide_new After ∙ ap redo_in added ∙ store_above b x long wide journal_at (omega arith) 2;
        marks_are = ap marks_in marks_are ∙ marks_back a new long_a wide_new ∙ new_is;
      }

-- ---- a change carried out: its entry was entered, back takes the change back

module _ (b : List ℕ) (long : length b ≡ image_length) (h : Head) (e back : Edit) (end : Option ℕ) (g : List ℕ)
    (is : back ≡ takes_back h.held h.timer e) (made : end ≡ end_of 2048 h.used back) (entered : Entered h.used back b g end) where
  abbrev after : Carried
  after = carried_of (session_in h b) e

  made_in : end ≡ end_of (length (journal_in b)) h.used back
  made_in = made ∙ ap (λ (n : ℕ). end_of n h.used back) (sym (length_store b long journal_at (omega arith)))

  pub full_in : end ≡ None → (true ≡ after.full) × (g ≡ carried_in b after)
  unfolding session_in carried_in
  full_in f =
      let k = carried_full (session_in h b) e back end made_in is f in
      (ap (λ (q : Carried). q.full) k, subst (Entered h.used back b g) f entered ∙ ap (carried_in b) k)

  -- z are the lent bytes without the redo store, y after the head was written
  module _ (whole : well_formed (session_in h b) ≡ true) (used : ℕ) (at : end ≡ Some used) where
    more : HasMore h.used back used b g
    more = subst (Entered h.used back b g) at entered

    pub long_more : length g ≡ image_length
    long_more = more.long

    abbrev nothing : List ℕ
    nothing = replicate 2048 0

    module _ (z : List ℕ) (cut : z ≡ with_store (store_at After) (cut_from 0 h.ahead (store_in After g)) g) where
      wide_nothing : length nothing ≡ 2048
      wide_nothing = length-replicate {A = ℕ} 2048 0

      empty : cut_from 0 h.ahead (redo_in g) ≡ nothing
      unfolding session_in
      empty =
          let store = (formed (session_in h b) whole).redo in
          let n = length_store b long redo_at (omega arith) in
          ap (cut_from 0 h.ahead) more.redo ∙ emptied (redo_in b) h.ahead store.fits store.unused ∙ ap (λ (n : ℕ). replicate n 0) n

      cut_is : z ≡ with_store redo_at nothing g
      unfolding store_at
      cut_is = cut ∙ ap (λ (r : List ℕ). with_store redo_at r g) empty

      journal_is : journal_in z ≡ added_to h.used back (journal_in b)
      journal_is = ap journal_in cut_is ∙ store_below g nothing more.long wide_nothing redo_at (omega arith) journal_at (omega arith) ∙ more.journal

      redo_is : redo_in z ≡ nothing
      redo_is = ap redo_in cut_is ∙ store_back g nothing more.long wide_nothing redo_at (omega arith)

      marks_is : marks_in z ≡ marks_for (added_to h.used back (journal_in b)) used
      marks_is = ap marks_in cut_is ∙ store_marks g nothing more.long wide_nothing redo_at (omega arith) ∙ more.marks_are

      pub length_cut : length z ≡ image_length
      length_cut = ap length cut_is ∙ store_long g nothing more.long wide_nothing redo_at (omega arith)

      pub done_in : (head : Head) (y : List ℕ) → head ≡ head_after h e used → y ≡ image_of (session_in head z) → (false ≡ after.full) × (y ≡ carried_in b after)
      unfolding session_in carried_in head_after head_renewed head_timed renewed with_timer
      done_in head y hp q =
          let j = added_to h.used back (journal_in b) in
          let k = carried_at (session_in h b) e back end made_in is used j at refl in
          let there : y ≡ image_of (session_in (head_after h e used) z) = q ∙ ap (λ (k : Head). image_of (session_in k z)) hp in
          let r = put_after h.held e in
          let n = h.next + made_of e.change in
          let timer = timer_after h.timer e.change in
          let stands : image_of (session_in (head_after h e used) z) ≡ image_of (renewed (with_timer (session_in h b) timer) r n j used (replicate 2048 0) 0) =
          λ i. image_of (record { held = r; worked = worked_of r; next = n; used = used; journal = journal_is i; ahead = 0; redo = redo_is i; marks = marks_is i; timer = timer; profile = h.profile }) in
          (ap (λ (q : Carried). q.full) k, there ∙ stands ∙ ap (carried_in b) k)

pub added_in : (b : List ℕ) → length b ≡ image_length → (used : ℕ) (e : Edit) (end : Option ℕ) (x : List ℕ) → end ≡ end_of (length (journal_in b)) used e → x ≡ added_to used e (journal_in b)
    → length x ≡ length (journal_in b)
    → (end ≡ end_of 2048 used e) × ((with_store journal_at x b ≡ with_store journal_at (added_to used e (journal_in b)) b) × (length (added_to used e (journal_in b)) ≡ 2048))
added_in b long used e end x p q wide =
    let n = length_store b long journal_at (omega arith) in
    (p ∙ ap (λ (m : ℕ). end_of m used e) n, (ap (λ (y : List ℕ). with_store journal_at y b) q, sym (ap length q) ∙ wide ∙ n))

pub next_fits : (h : Head) (b : List ℕ) → well_formed (session_in h b) ≡ true → h.next ≤ 256
unfolding session_in
next_fits h b whole = formed_next (session_in h b) whole

pub is_marked : (h : Head) (b : List ℕ) → length b ≡ image_length → well_formed (session_in h b) ≡ true → (length b ≡ image_length) × Marked h.used b
is_marked h b long whole = (long, formed_marked h b whole)

-- ---- a store's part is lent, from a place on, and given back as x

pub lent_on : (b x : List ℕ) (w : Way) (at : ℕ) (f : List ℕ → List ℕ) → at ≡ store_at w → x ≡ f (take (at + 2048 - at) (drop at b))
    → take at b ++ (x ++ drop (at + 2048 - at) (drop at b)) ≡ with_store (store_at w) (f (store_in w b)) b
lent_on b x w at f is p =
    lent_back b x at ∙ ap (λ (y : List ℕ). with_store at y b) (p ∙ ap f (lent_part b at)) ∙ ap (λ (n : ℕ). with_store n (f (part_at 2048 n b)) b) is

pub lent_fits : (w : Way) (at n : ℕ) → at ≡ store_at w → n ≡ image_length → at + 2048 ≤ n
lent_fits w at n is long = omega (arith, is, store_low w)

pub lent_room : (b : List ℕ) (w : Way) (at used n : ℕ) → at ≡ store_at w → length b ≡ image_length → used + n ≤ 2048 → used + n ≤ length (take (at + 2048 - at) (drop at b))
lent_room b w at used n is long room = omega (arith, ap length (lent_part b at), length_store b long at (omega (arith, is, store_low w)))

pub appended_in : (b x : List ℕ) (w : Way) (at used : ℕ) (e : Edit) → length b ≡ image_length → at ≡ store_at w → x ≡ pasted used (entry_bytes e) (take (at + 2048 - at) (drop at b))
    → length x ≡ length (take (at + 2048 - at) (drop at b))
    → (take at b ++ (x ++ drop (at + 2048 - at) (drop at b)) ≡ with_store (store_at w) (pasted used (entry_bytes e) (store_in w b)) b)
    × (length (pasted used (entry_bytes e) (store_in w b)) ≡ 2048)
appended_in b x w at used e long is p wide =
    let part : take (at + 2048 - at) (drop at b) ≡ store_in w b = lent_part b at ∙ ap (λ (n : ℕ). part_at 2048 n b) is in
    (lent_on b x w at (pasted used (entry_bytes e)) is p, ap (λ (l : List ℕ). length (pasted used (entry_bytes e) l)) (sym part) ∙ sym (ap length p) ∙ wide ∙ ap length part ∙ length_store b long (store_at w) (store_low w))
