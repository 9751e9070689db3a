-- Bytes moved down, and what the steps of forgetting leave in the lent bytes. Assumes nothing.
use Prim.Native.Nat.{ℕ, ◌+◌, ◌-◌, ◌≤◌, ◌<◌}
use mathlib.Core.Bool.{true}
use mathlib.Core.Path.{◌≡◌, refl, sym, ap, subst, ◌∙◌}
use mathlib.Core.List.{List, [], ◌++◌, append-nil}
use native.Mathlib.Omega.{arith}
use lib.ListN.{length, take, drop, replicate, length-drop, length-append, drop_of_length-le}
use lib.Seq.{take_at, drop_at, length-take-le}
use Rattle.wire.specs.Wire.{pasted}
use Rattle.wire.proofs.laws.Cases.{if_lt, else_lt}
use Rattle.wire.proofs.laws.Wire.{tail_part}
use Rattle.record.specs.Record.{worked_of}
use Rattle.entries.specs.Entries.{Entry, entries_of, scan, written, ReadsWhole}
use Rattle.marks.specs.Marks.{marks_of}
use Rattle.marks.proofs.laws.Marks.{length_marks}
use Rattle.journal.specs.declared.Way.TheVariants.{Before, After}
use Rattle.session.specs.Session.{entries_in, marks_for, well_formed, renewed}
use Rattle.session.specs.Road.{held_in, oldest, freed_by, moved_down, session_freed, forgotten, Asks, refuses, forgets, kept, done, settled}
use Rattle.session.proofs.laws.Forgotten.{newer, length_moved, moved_part, rest_reads, freed_low}
use Rattle.session.specs.declared.Session.{Session}
use Rattle.image.specs.declared.Head.{Head}
use Rattle.image.specs.Image.{head_renewed, image_of, store_at, with_part, with_store, journal_in, redo_in, marks_in, session_in}
use Rattle.image.proofs.laws.Stores.{store_long, store_back, store_above, marks_long, marks_back, marks_store, part_pasted}
use Rattle.layout.specs.Layout.{journal_at, marks_size, marks_at, image_length}
use Rattle.inplace.proofs.Watching.{used_part}
use Rattle.inplace.specs.declared.Told.{Told}
use Rattle.inplace.specs.InPlace.{Opens, Unopened, HeadStands, Marked}
use Rattle.inplace.proofs.laws.Silent as silent
use Rattle.inplace.proofs.laws.Marked.{formed_marked}
use Rattle.std.specs.Prelude.{Option, None, Some}
use Rattle.forget_call.specs.Forget.{oldest_asks, forget_asks, forget_call, forget_left, forgot_by, forget_on, OldestEnd}
use Rattle.forget_call.proofs.Walks.{enough, ends_at}

-- ---- the bytes that stay are moved

length_shifted : (at : ℕ) (d x : List ℕ) → at ≤ length d → x ≡ drop at d ++ drop (length d - at) d → length x ≡ length d
length_shifted at d x low e =
    omega (arith, low, ap length e, length-append (drop at d) (drop (length d - at) d), length-drop at d, length-drop (length d - at) d)

-- and the rest zeroed: n bytes stay
module _ (at n : ℕ) (d x z : List ℕ) (low : at ≤ length d) (e : x ≡ drop at d ++ drop (length d - at) d) (counted : n ≡ length x - at) where
  same : length x ≡ length d
  same = length_shifted at d x low e

  stay : take n x ≡ drop at d
  stay = ap (take n) e ∙ take_at (drop at d) (drop (length d - at) d) n (omega (arith, same, counted, length-drop at d))

  go : drop n x ≡ drop (length d - at) d
  go = ap (drop n) e ∙ drop_at (drop at d) (drop (length d - at) d) n (omega (arith, same, counted, length-drop at d))

  freed : length (drop n x) ≡ at
  freed = omega (arith, low, same, counted, length-drop n x)

  pub moved_down_lem : z ≡ replicate (length (take (length x - n) (drop n x))) 0 → take n x ++ (z ++ drop (length x - n) (drop n x)) ≡ moved_down at d
  unfolding moved_down
  moved_down_lem zp =
      let all : take (length x - n) (drop n x) ≡ drop n x = tail_part x n in
      let none : drop (length x - n) (drop n x) ≡ [] = drop_of_length-le (drop n x) {i = length x - n} (omega (arith, length-drop n x)) in
      let zeros : z ≡ replicate at 0 = zp ∙ ap (λ (l : List ℕ). replicate (length l) 0) all ∙ ap (λ (k : ℕ). replicate k 0) freed in
      (λ i. stay i ++ (zeros i ++ none i)) ∙ ap (λ (l : List ℕ). drop at d ++ l) (append-nil (replicate at 0))

-- ---- parts of the lent bytes

pub journal_long : (b : List ℕ) → length b ≡ image_length → length (journal_in b) ≡ 2048
journal_long b long = length-take-le 2048 (drop journal_at b) (omega (arith, long, length-drop journal_at b))

pub used_long : (b : List ℕ) → length b ≡ image_length → (used : ℕ) → used ≤ 2048 → length (take (journal_at + used - journal_at) (drop journal_at b)) ≤ 2048
used_long b long used fits = omega (arith, ap length (used_part journal_at used b fits), length-take-le used (journal_in b) (omega (arith, fits, journal_long b long)), fits)

pub reads_part : (b : List ℕ) (used : ℕ) → used ≤ 2048 → ReadsWhole (take used (journal_in b)) → ReadsWhole (take (journal_at + used - journal_at) (drop journal_at b))
reads_part b used fits r = subst ReadsWhole (sym (used_part journal_at used b fits)) r

pub journal_moved : (b x : List ℕ) (at : ℕ) → x ≡ moved_down at (take (2287 - 239) (drop journal_at b)) → take journal_at b ++ (x ++ drop (2287 - 239) (drop journal_at b)) ≡ with_store journal_at (moved_down at (journal_in b)) b
journal_moved b x at e = ap (λ (l : List ℕ). with_store journal_at l b) e

-- the marks are written over the old ones
pub marks_put : (b : List ℕ) → length b ≡ image_length → (used : ℕ) → used ≤ 2048 → (m y : List ℕ)
    → m ≡ marks_of (entries_of (scan (take (journal_at + used - journal_at) (drop journal_at b)))) → y ≡ pasted marks_at m b
    → y ≡ with_part marks_size marks_at (marks_of (entries_in used (journal_in b))) b
unfolding entries_in
marks_put b long used fits m y mp yp =
    let is = mp ∙ ap (λ (l : List ℕ). marks_of (entries_of (scan l))) (used_part journal_at used b fits) in
    let wide = ap length mp ∙ length_marks (entries_of (scan (take (journal_at + used - journal_at) (drop journal_at b)))) in
    yp ∙ part_pasted 64 b m long wide marks_at (omega arith) ∙ ap (λ (l : List ℕ). with_part marks_size marks_at l b) is

pub marks_fit_lem : (b m : List ℕ) (es : List Entry) → length b ≡ image_length → m ≡ marks_of es → marks_at + length m ≤ length b
marks_fit_lem b m es long e = omega (arith, long, ap length e, length_marks es)

-- ---- the journal moved down, its marks and the head written

module _ (h : Head) (b : List ℕ) (long : length b ≡ image_length) (at : ℕ) (low : at ≤ h.used) (fits : h.used ≤ 2048) (c : List ℕ)
    (moved : c ≡ with_store journal_at (moved_down at (journal_in b)) b) where
  abbrev down : List ℕ
  down = moved_down at (journal_in b)

  wide : length down ≡ 2048
  wide = length_moved at (journal_in b) (omega (arith, low, fits, journal_long b long)) ∙ journal_long b long

  pub long_c : length c ≡ image_length
  long_c = ap length moved ∙ store_long b down long wide journal_at (omega arith)

  journal_c : journal_in c ≡ down
  journal_c = ap journal_in moved ∙ store_back b down long wide journal_at (omega arith)

  redo_c : redo_in c ≡ redo_in b
  redo_c = ap redo_in moved ∙ store_above b down long wide journal_at (omega arith) 2

  module _ (left : ℕ) (is : left ≡ h.used - at) where
    pub left_fits : left ≤ 2048
    left_fits = omega (arith, is, fits)

    pub left_whole : ReadsWhole (drop at (take h.used (journal_in b))) → ReadsWhole (take left (journal_in c))
    left_whole r =
        subst ReadsWhole
        (sym ((λ i. take (is i) (journal_c i)) ∙ moved_part at h.used (journal_in b) low (omega (arith, fits, journal_long b long))))
        r

    module _ (d : List ℕ) (marked : d ≡ with_part marks_size marks_at (marks_of (entries_in left (journal_in c))) c) where
      abbrev marks : List ℕ
      marks = marks_of (entries_in left (journal_in c))

      pub long_d : length d ≡ image_length
      long_d = ap length marked ∙ marks_long c marks long_c (length_marks (entries_in left (journal_in c)))

      journal_d : journal_in d ≡ down
      unfolding store_at
      journal_d = ap journal_in marked ∙ marks_store c marks long_c (length_marks (entries_in left (journal_in c))) Before ∙ journal_c

      redo_d : redo_in d ≡ redo_in b
      unfolding store_at
      redo_d = ap redo_in marked ∙ marks_store c marks long_c (length_marks (entries_in left (journal_in c))) After ∙ redo_c

      marks_d : marks_in d ≡ marks_for down (h.used - at)
      marks_d = ap marks_in marked ∙ marks_back c marks long_c (length_marks (entries_in left (journal_in c))) ∙ (λ i. marks_for (journal_c i) (is i))

      pub session_freed_lem : (y : List ℕ) (head : Head) → head ≡ head_renewed h h.held h.next left h.ahead → y ≡ image_of (session_in head d)
          → y ≡ image_of (session_freed at (session_in h b))
      unfolding session_in head_renewed session_freed renewed
      session_freed_lem y head hp yp =
          yp ∙ ap (λ (k : Head). image_of (session_in k d)) hp
          ∙ (λ i. image_of (record {
            held = h.held;
            worked = worked_of h.held;
            next = h.next;
            journal = journal_d i;
            used = is i;
            redo = redo_d i;
            ahead = h.ahead;
            marks = marks_d i;
            timer = h.timer;
            profile = h.profile;
          }))

-- ---- the oldest forgotten, or refused

abbrev Tells : Session → Told → List ℕ → Asks → Type 0
Tells s t y a = (t ≡ (forgot_by s a).told) × (y ≡ (forgot_by s a).image)

tells_same : (s : Session) (t : Told) (y : List ℕ) {a c : Asks} → a ≡ c → Tells s t y a → Tells s t y c
tells_same s t y e q = (q.0 ∙ ap (λ (x : Asks). (forgot_by s x).told) e, q.1 ∙ ap (λ (x : Asks). (forgot_by s x).image) e)

by_number : (h : Head) (b : List ℕ) → HeadStands h b → (n : ℕ) (t : Told) {a : Asks} → t ≡ record { answer = n; small = 0; beside = 0 } → refuses n ≡ a → Tells (session_in h b) t b a
unfolding forgot_by forget_left settled kept
by_number h b here n t p e = tells_same (session_in h b) t b e (p, here.image)

module _ (h : Head) (b : List ℕ) (here : HeadStands h b) (whole : well_formed (session_in h b) ≡ true) where
  abbrev s : Session
  s = session_in h b

  abbrev m : Marked h.used b
  m = formed_marked h b whole

  pub used_low : h.used ≤ 2048
  used_low = m.fits

  abbrev j : List ℕ
  j = take (journal_at + h.used - journal_at) (drop journal_at b)

  pub journal_whole : ReadsWhole j
  journal_whole = reads_part b h.used used_low (record { entries = m.entries; reads = m.reads })

  held_is : length (entries_of (scan j)) ≡ held_in s
  unfolding held_in entries_in session_in
  held_is = ap (λ (l : List ℕ). length (entries_of (scan l))) (used_part journal_at h.used b used_low)

  module _ (n : ℕ) (found : Option ℕ) (is : OldestEnd j n found) where
    pub fewer_held : (t : Told) → t ≡ record { answer = 9; small = 0; beside = 0 } → found ≡ None → Tells s t b (oldest_asks n s)
    unfolding oldest_asks
    fewer_held t p e =
        let less : length (entries_of (scan j)) < n = subst (OldestEnd j n) e is in
        by_number h b here 9 t p (if_lt _ _ {m = held_in s} {n = n} (omega (arith, less, held_is)) refl)

    module _ (at : ℕ) (e : found ≡ Some at) where
      ended : OldestEnd j n (Some at)
      ended = subst (OldestEnd j n) e is

      at_is : at ≡ freed_by n s
      unfolding freed_by entries_in session_in
      at_is =
          ends_at j at ended.0 ended.1 n ended.2
          ∙ ap (λ (l : List ℕ). length (written (oldest n (entries_of (scan l))))) (used_part journal_at h.used b used_low)

      at_place : at ≡ length (written (oldest n m.entries))
      unfolding entries_of
      at_place =
          ends_at j at ended.0 ended.1 n ended.2
          ∙ ap (λ (l : List ℕ). length (written (oldest n (entries_of (scan l))))) (used_part journal_at h.used b used_low)
          ∙ ap (λ (x : _). length (written (oldest n (entries_of x)))) m.reads

      journal_fits : h.used ≤ length (journal_in b)
      journal_fits = omega (arith, used_low, journal_long b here.long)

      pub at_low : at ≤ h.used
      at_low = omega (arith, at_place, freed_low n h.used (journal_in b) journal_fits m.entries m.reads)

      pub rest_whole : ReadsWhole (drop at (take h.used (journal_in b)))
      rest_whole = record {
        entries = newer n m.entries;
        reads = ap (λ (k : ℕ). scan (drop k (take h.used (journal_in b)))) at_place ∙ rest_reads n h.used (journal_in b) journal_fits m.entries m.reads;
      }

      pub all_forgotten : (t : Told) (y : List ℕ) → t ≡ record { answer = 0; small = 0; beside = 0 } → y ≡ image_of (session_freed at s) → Tells s t y (oldest_asks n s)
      unfolding oldest_asks forgot_by forget_left settled done forgotten
      all_forgotten t y p yp =
          tells_same s t y (else_lt (refuses 9) (forgets n) {m = held_in s} {n = n} (omega (arith, enough j at ended.0 ended.1 n ended.2, held_is)) refl)
          (p, yp ∙ ap (λ (k : ℕ). image_of (session_freed k s)) at_is)

-- ---- the whole call

refused : (n : ℕ) (s : Session) → forget_left (kept n s []) ≡ record { told = record { answer = n; small = 0; beside = 0 }; image = image_of s; reply = [] }
unfolding forget_left kept
refused n s = refl

module _ (n : ℕ) where
  pub unopened : (b : List ℕ) → Unopened b → (t : Told) → t ≡ record { answer = 1; small = 0; beside = 0 } → (t ≡ (forget_on n b).told) × (b ≡ (forget_on n b).image)
  unfolding forget_on forget_call forget_asks
  unopened = silent.unopened (oldest_asks n) forget_left refused

  pub oldest_forgotten : (b : List ℕ) (h : Head) → Opens b h → (t : Told) (y : List ℕ) → Tells (session_in h b) t y (oldest_asks n (session_in h b)) → (t ≡ (forget_on n b).told) × (y ≡ (forget_on n b).image)
  unfolding forget_on forget_call forget_asks forgot_by
  oldest_forgotten = silent.formed_told (oldest_asks n) forget_left refused
