-- What the steps of undo and redo give back, from what they call. Assumes nothing.
use Prim.Native.Nat.{ℕ, ◌+◌, ◌-◌, ◌≤◌}
use mathlib.Core.Bool.{cond, Bool, true, false, not}
use mathlib.Core.Path.{◌≡◌, refl, sym, ap, subst, ◌∙◌}
use mathlib.Core.List.{List, []}
use Rattle.std.specs.Prelude.{Option, Some, None}
use Rattle.std.specs.Option.{unwrap_or}
use native.Mathlib.Omega.{arith}
use lib.Dec.{ltb, eqb}
use lib.ListN.{length, take, drop, replicate, length-drop, length-replicate}
use borrow.Author.Tests.{ltb-false}
use lib.Seq.{length-take-le, drop-drop}
use Rattle.wire.proofs.laws.Cases.{cond_cases, if_b, else_b, if_eq, else_eq}
use Rattle.wire.specs.Wire.{pasted}
use Rattle.wire.proofs.laws.Wire.{part_of_part, length_pasted}
use Rattle.record.specs.declared.Record.{Record}
use Rattle.record.specs.declared.Timer.{Timer}
use Rattle.change.specs.Change.{kind_of, put_of, back_of, inverse_of, timed, takes_back, timer_after}
use Rattle.change.specs.declared.Edit.{Edit}
use Rattle.formed.specs.Formed.{record_ok}
use Rattle.entries.specs.Entries.{body_len, Reading}
use Rattle.std.specs.Prelude.{Some, Ok}
use Rattle.marks.specs.declared.Newest.{Newest}
use Rattle.journal.specs.Ways.{by_way, other}
use Rattle.journal.specs.Bytes.{entry_bytes}
use Rattle.journal.specs.Read.{got_of}
use Rattle.journal.specs.Add.{entry_len, cut_from}
use Rattle.journal.proofs.laws.Says.{Whole as Entry, got_whole}
use Rattle.journal.specs.declared.Way.{Way}
use Rattle.journal.specs.declared.Way.TheVariants.{Before, After}
use Rattle.record.specs.Record.{worked_of}
use Rattle.session.specs.Session.{marks_for, well_formed, renewed, with_timer}
use Rattle.session.specs.Road.{Asks, refuses, moves, store_of, used_of, lessened, grown, grown_to, session_moved, kept, done, settled}
use Rattle.session.proofs.laws.Session.{formed}
use Rattle.session.specs.declared.Session.{Session}
use Rattle.change.proofs.laws.Timed.{kind_of_back, timed_kind}
use Rattle.image.specs.declared.Head.{Head}
use Rattle.image.specs.Image.{head_renewed, head_timed, image_of, part_at, store_at, store_in, with_store, journal_in, redo_in, marks_in, session_in}
use Rattle.layout.specs.Layout.{journal_at, redo_at, image_length}
use Rattle.image.proofs.laws.Stores.{store_low, store_long, store_back, store_above, store_below, store_marks}
use Rattle.image.proofs.Standing.{length_store}
use Rattle.inplace.specs.declared.Told.{Told}
use Rattle.inplace.specs.InPlace.{Opens, Unopened, Left, HeadStands}
use Rattle.inplace.proofs.laws.InPlace.{stands, on_read}
use Rattle.inplace.proofs.laws.InPlace as inplace
use Rattle.undo_call.specs.Undo.{put_asks, edit_asks, got_asks, entry_asks, read_asks, none_left, newest_asks, move_asks, move_call, head_moved, passed_by, moved_left, moved_by, move_on, NewestFound, Moved}
use Rattle.undo_call.proofs.Finding.{newest_low}

abbrev Tells : Way → Session → Told → List ℕ → Asks → Type 0
Tells w s t y a = (t ≡ (moved_by w s a).told) × (y ≡ (moved_by w s a).image)

-- the same of what is the same
tells_same : (w : Way) (s : Session) (t : Told) (y : List ℕ) {a c : Asks} → a ≡ c → Tells w s t y a → Tells w s t y c
tells_same w s t y e q = (q.0 ∙ ap (λ (x : Asks). (moved_by w s x).told) e, q.1 ∙ ap (λ (x : Asks). (moved_by w s x).image) e)

-- ---- the two stores

pub store_is : (w : Way) (h : Head) (b : List ℕ) → store_of w (session_in h b) ≡ store_in w b
unfolding store_of by_way session_in store_at
store_is Before h b = refl
store_is After h b = refl

pub used_is : (w : Way) (h : Head) (b : List ℕ) → used_of w (session_in h b) ≡ by_way w h.used h.ahead
unfolding used_of by_way session_in
used_is Before h b = refl
used_is After h b = refl

other_used : (w : Way) (h : Head) (b : List ℕ) → used_of (other w) (session_in h b) ≡ by_way w h.ahead h.used
unfolding used_of other by_way session_in
other_used Before h b = refl
other_used After h b = refl

by_sum : (w : Way) (m n : ℕ) → by_way w m n + by_way w n m ≡ m + n
unfolding by_way
by_sum Before m n = refl
by_sum After m n = omega arith

stores_are : (w : Way) (d less more : List ℕ) → store_in w d ≡ less → store_in (other w) d ≡ more → (journal_in d ≡ by_way w less more) × (redo_in d ≡ by_way w more less)
unfolding store_at other by_way
stores_are Before d less more p q = (p, q)
stores_are After d less more p q = (q, p)

-- a store changed leaves the other one
other_kept : (w : Way) (b x : List ℕ) → length b ≡ image_length → length x ≡ 2048 → store_in (other w) (with_store (store_at w) x b) ≡ store_in (other w) b
unfolding store_at other by_way
other_kept Before b x long wide = store_above b x long wide journal_at (omega arith) 2
other_kept After b x long wide = store_below b x long wide redo_at (omega arith) journal_at (omega arith)

kept_by_other : (w : Way) (b x : List ℕ) → length b ≡ image_length → length x ≡ 2048 → store_in w (with_store (store_at (other w)) x b) ≡ store_in w b
unfolding store_at other by_way
kept_by_other Before b x long wide = store_below b x long wide redo_at (omega arith) journal_at (omega arith)
kept_by_other After b x long wide = store_above b x long wide journal_at (omega arith) 2

pub at_fits : (w : Way) (m n at k : ℕ) → at + k ≡ by_way w m n → m + n ≤ 2048 → at ≤ 2048
at_fits w m n at k e h = omega (arith, e, by_sum w m n)

-- one store changed and then the other: x is what is left of the first, y the second
module _ (w : Way) (b x y c d : List ℕ) (long : length b ≡ image_length) (wide : length x ≡ 2048) (wide' : length y ≡ 2048)
    (first : c ≡ with_store (store_at w) x b) (second : d ≡ with_store (store_at (other w)) y c) where
  long_c : length c ≡ image_length
  long_c = ap length first ∙ store_long b x long wide (store_at w) (store_low w)

  pub long_d : length d ≡ image_length
  long_d = ap length second ∙ store_long c y long_c wide' (store_at (other w)) (store_low (other w))

  pub other_stays : store_in (other w) c ≡ store_in (other w) b
  other_stays = ap (store_in (other w)) first ∙ other_kept w b x long wide

  pub first_left : store_in w d ≡ x
  first_left = ap (store_in w) second ∙ kept_by_other w c y long_c wide' ∙ ap (store_in w) first ∙ store_back b x long wide (store_at w) (store_low w)

  pub second_left : store_in (other w) d ≡ y
  second_left = ap (store_in (other w)) second ∙ store_back c y long_c wide' (store_at (other w)) (store_low (other w))

  pub marks_stay : marks_in d ≡ marks_in b
  marks_stay =
      ap marks_in second ∙ store_marks c y long_c wide' (store_at (other w)) (store_low (other w)) ∙ ap marks_in first ∙ store_marks b x long wide (store_at w) (store_low w)

length_take_le_by : (m n : ℕ) (l : List ℕ) → m ≡ n → n ≤ length l → length (take m l) ≡ n
length_take_le_by m n l e h = ap (λ (i : ℕ). length (take i l)) e ∙ length-take-le n l h

-- a store that was cut is as long as before
length_cut : (at used : ℕ) (j : List ℕ) → length (cut_from at used j) ≡ length j
unfolding cut_from
length_cut at used j =
    cond_cases (λ (l : List ℕ). length l ≡ length j) (ltb (length j) used) (λ t. refl)
    (λ fits. cond_cases (λ (l : List ℕ). length l ≡ length j) (ltb used at) (λ t. refl)
    (λ low. length_pasted at (replicate (used - at) 0) j (short (ltb-false _ _ fits) (ltb-false _ _ low))))
  where
    short : used ≤ length j → at ≤ used → at + length (replicate {A = ℕ} (used - at) 0) ≤ length j
    short p q = omega (arith, length-replicate {A = ℕ} (used - at) 0)

pub entry_moved : (w : Way) (b c d : List ℕ) (at from to : ℕ) (back : Edit) (v : Way) → length b ≡ image_length → v ≡ other w
    → c ≡ with_store (store_at w) (cut_from at from (store_in w b)) b
    → d ≡ with_store (store_at v) (pasted to (entry_bytes back) (store_in v c)) c → length (pasted to (entry_bytes back) (store_in v c)) ≡ 2048
    → Moved w at from to back b d
entry_moved w b c d at from to back v long is p q n =
    let wide = length_cut at from (store_in w b) ∙ length_store b long (store_at w) (store_low w) in
    let grown = pasted to (entry_bytes back) (store_in (other w) c) in
    let wide' = ap (λ (u : Way). length (pasted to (entry_bytes back) (store_in u c))) (sym is) ∙ n in
    let q' = q ∙ ap (λ (u : Way). with_store (store_at u) (pasted to (entry_bytes back) (store_in u c)) c) is in
    let first = cut_from at from (store_in w b) in
    record {
      less = first_left w b first grown c d long wide wide' p q';
      more = second_left w b first grown c d long wide wide' p q' ∙ ap (pasted to (entry_bytes back)) (other_stays w b first grown c d long wide wide' p q');
      marks_kept = marks_stay w b first grown c d long wide wide' p q';
      long = long_d w b first grown c d long wide wide' p q';
    }

pub long_moved : (w : Way) (b c : List ℕ) (at from : ℕ) → length b ≡ image_length → c ≡ with_store (store_at w) (cut_from at from (store_in w b)) b → length c ≡ image_length
long_moved w b c at from long p =
    let wide = length_cut at from (store_in w b) ∙ length_store b long (store_at w) (store_low w) in
    ap length p ∙ store_long b (cut_from at from (store_in w b)) long wide (store_at w) (store_low w)

-- ---- the session after it: d are the lent bytes with both stores changed, and the head was written around them

module _ (w : Way) (h : Head) (b : List ℕ) (at : ℕ) (e : Edit) (after : Record) where
  abbrev before : Session
  before = session_in h b

  pub room : (n : ℕ) (back : Edit) → n ≡ by_way w h.ahead h.used → back ≡ takes_back h.held h.timer e → at + entry_len e ≡ by_way w h.used h.ahead → h.used + h.ahead ≤ 2048
      → n + entry_len back ≤ 2048
  unfolding inverse_of timed takes_back
  room n back p is fits sum =
      let kind = ap (λ (x : Edit). body_len (kind_of x.change) + 1) is ∙ ap (λ (k : ℕ). body_len k + 1) (timed_kind h.timer (back_of h.held e.change) ∙ kind_of_back h.held e.change) in
      omega (arith, p, kind, fits, sum, by_sum w h.used h.ahead)

  module _ (from to n : ℕ) (back : Edit) (p : from ≡ by_way w h.used h.ahead) (q : to ≡ by_way w h.ahead h.used) (is : back ≡ takes_back h.held h.timer e) (np : n ≡ entry_len back) where
    less_is : cut_from at from (store_in w b) ≡ lessened w before at
    unfolding lessened
    less_is = λ i. cut_from at ((p ∙ sym (used_is w h b)) i) (sym (store_is w h b) i)

    more_is : pasted to (entry_bytes back) (store_in (other w) b) ≡ grown w before e
    unfolding grown session_in
    more_is = λ i. pasted ((q ∙ sym (other_used w h b)) i) (entry_bytes (is i)) (sym (store_is (other w) h b) i)

    end_is : to + n ≡ grown_to w before e
    unfolding grown_to session_in
    end_is = λ i. (q ∙ sym (other_used w h b)) i + (np ∙ ap entry_len is) i

    -- g are the lent bytes with the new marks, d with the entry moved too
    module _ (g d : List ℕ) (moved : Moved w at from to back g d) (journal-kept : store_in w g ≡ store_in w b) (other_kept : store_in (other w) g ≡ store_in (other w) b)
        (marks_are : marks_in g ≡ marks_for (by_way w (lessened w before at) (grown w before e)) (by_way w at (grown_to w before e))) where
      pub session_moved_lem : (y : List ℕ) (head : Head) (timer : Timer) → timer ≡ timer_after h.timer e.change → head ≡ head_moved h w timer after at (to + n) → y ≡ image_of (session_in head d) → y ≡ image_of (session_moved w before at e after)
      unfolding session_in head_moved head_renewed head_timed session_moved renewed with_timer
      session_moved_lem y head timer tp hp yp =
          let one = moved.less ∙ ap (cut_from at from) journal-kept ∙ less_is in
          let two = moved.more ∙ ap (pasted to (entry_bytes back)) other_kept ∙ more_is in
          let js = stores_are w d (lessened w before at) (grown w before e) one two in
          yp ∙ ap (λ (k : Head). image_of (session_in k d)) hp
          ∙ (λ i. image_of (record {
            held = after;
            worked = worked_of after;
            next = h.next;
            journal = js.0 i;
            used = by_way w at (end_is i);
            redo = js.1 i;
            ahead = by_way w (end_is i) at;
            marks = (moved.marks_kept ∙ marks_are) i;
            timer = tp i;
            profile = h.profile;
          }))

some_number : (w : Way) → eqb (none_left w) 0 ≡ false
unfolding none_left by_way
some_number Before = refl
some_number After = refl

-- h is the head that stands in the lent bytes b
module _ (w : Way) (h : Head) (b : List ℕ) (here : HeadStands h b) where
  abbrev s : Session
  s = session_in h b

  -- refused by the number n
  by_number : (n : ℕ) (t : Told) {a : Asks} → eqb n 0 ≡ false → t ≡ record { answer = n; small = 0; beside = 0 } → refuses n ≡ a → Tells w s t b a
  unfolding moved_by moved_left settled kept
  by_number n t z p e =
      tells_same w s t b e (p ∙ (λ i. record { answer = n; small = else_b {z = 0} (passed_by w s) 0 z refl i; beside = 0 }), here.image)

  -- ---- a change put into the record, or refused

  module _ (at : ℕ) (e : Edit) (o : Option Record) (is : o ≡ put_of h.held e) where
    by_put : (x : Asks) (p : Option Record) → o ≡ p → x ≡ put_asks w h.next at e p → x ≡ edit_asks w s at e
    unfolding edit_asks session_in
    by_put x p known q = q ∙ ap (put_asks w h.next at e) (sym known ∙ is)

    pub put_refused : (t : Told) → t ≡ record { answer = 7; small = 0; beside = 0 } → o ≡ None → Tells w s t b (edit_asks w s at e)
    unfolding put_asks
    put_refused t q none = by_number 7 t refl q (by_put _ None none refl)

    module _ (after : Record) (some : o ≡ Some after) (g : Bool) (judged : g ≡ record_ok after h.next) where
      pub put_ill : (t : Told) → t ≡ record { answer = 7; small = 0; beside = 0 } → g ≡ false → Tells w s t b (edit_asks w s at e)
      unfolding put_asks
      put_ill t q ill = by_number 7 t refl q (by_put _ (Some after) some (if_b _ _ (ap not (sym judged ∙ ill)) refl))

      -- y are the lent bytes after it
      pub put_done : (k passed : ℕ) (y : List ℕ) → passed ≡ passed_by w s → g ≡ true → k ≡ kind_of e.change
          → y ≡ image_of (session_moved w s at e after) → Tells w s (record { answer = 0; small = passed; beside = k }) y (edit_asks w s at e)
      unfolding put_asks moved_by moved_left settled done session_in
      put_done k passed y pp ok kp yp =
          tells_same w s _ y (by_put (moves w at e) (Some after) some (else_b _ _ (ap not (sym judged ∙ ok)) refl))
          ((λ i. record { answer = 0; small = pp i; beside = kp i }), yp ∙ ap (λ (x : Option Record). image_of (session_moved w s at e (unwrap_or x h.held))) (sym some ∙ is))

  -- ---- the entry at a place of its store

  abbrev used : ℕ
  used = by_way w h.used h.ahead

  module _ (m : ℕ) (there : m ≡ store_at w) (n : ℕ) (counted : n ≡ used) where
    module _ (fits : n ≤ 2048) (at : ℕ) (low : at ≤ n) (g : Option Edit) (is : g ≡ got_of w (take (m + n - (m + at)) (drop (m + at) b))) where
      newest_part : take (m + n - (m + at)) (drop (m + at) b) ≡ take (used_of w s - at) (drop at (store_of w s))
      newest_part =
          let k : m + n - (m + at) ≡ n - at = omega arith in
          ap (λ (i : ℕ). take i (drop (m + at) b)) k ∙ ap (take (n - at)) (sym (drop-drop at m b)) ∙ sym (part_of_part (n - at) at 2048 (drop m b) (omega arith))
          ∙ (λ i. take ((counted ∙ sym (used_is w h b)) i - at) (drop at (part_at 2048 (there i) b)))
          ∙ ap (λ (l : List ℕ). take (used_of w s - at) (drop at l)) (sym (store_is w h b))

      got_is : g ≡ got_of w (take (used_of w s - at) (drop at (store_of w s)))
      got_is = is ∙ ap (got_of w) newest_part

      pub entry_bad : (t : Told) (r : Reading) (count : ℕ) → t ≡ record { answer = 1; small = 0; beside = 0 } → g ≡ None → r ≡ Ok (record { count = count; newest = at }) → Tells w s t b (read_asks w s r)
      unfolding read_asks entry_asks got_asks
      entry_bad t r count p bad whole =
          by_number 1 t refl p (ap (got_asks w s at) (sym bad ∙ got_is) ∙ sym (ap (read_asks w s) whole))

      pub entry_good : (t : Told) (y : List ℕ) (r : Reading) (count : ℕ) (e : Edit) → g ≡ Some e → r ≡ Ok (record { count = count; newest = at })
          → Tells w s t y (edit_asks w s at e) → Tells w s t y (read_asks w s r)
      unfolding read_asks entry_asks got_asks
      entry_good t y r count e good whole q =
          tells_same w s t y (ap (got_asks w s at) (sym good ∙ got_is) ∙ sym (ap (read_asks w s) whole)) q

      -- it ends where the used bytes do
      pub entry_ends : (e : Edit) → g ≡ Some e → at + entry_len e ≡ used
      entry_ends e good =
          let part = take (m + n - (m + at)) (drop (m + at) b) in
          let whole = subst (Entry w part) (sym is ∙ good) (got_whole w part) in
          let long : length part ≡ n - at = length_take_le_by (m + n - (m + at)) (n - at) (drop (m + at) b) (omega arith) (simp length-drop (omega (arith, here.long, there, store_low w))) in
          omega (arith, whole.0, long, counted)

  -- ---- the reading of a well-formed session

  module _ (whole : well_formed s ≡ true) where
    pub sum_fits : h.used + h.ahead ≤ 2048
    unfolding session_in
    sum_fits = (formed s whole).both_fit

    pub used_fits : used ≤ 2048
    used_fits = omega (arith, sum_fits, by_sum w h.used h.ahead)

    pub count_fits : (n : ℕ) → n ≡ used → n ≤ 2048
    count_fits n counted = omega (arith, counted, used_fits)

    pub none_held : (n : ℕ) → n ≡ used → (k : ℕ) (t : Told) → k ≡ none_left w → t ≡ record { answer = k; small = 0; beside = 0 } → n ≡ 0 → Tells w s t b (newest_asks w s)
    unfolding newest_asks
    none_held n counted k t kp p z = by_number (none_left w) t (some_number w) (p ∙ (λ i. record { answer = kp i; small = 0; beside = 0 })) (if_eq _ _ (used_is w h b ∙ sym counted ∙ z) refl)

    -- the newest entry was found
    module _ (n : ℕ) (counted : n ≡ used) (some : n ≡ 0 → ⊥) (r : Newest) (x : NewestFound w s (Some r)) where
      pub by_newest : (t : Told) (y : List ℕ) → Tells w s t y (read_asks w s (Ok (record { count = x.0; newest = r.place }))) → Tells w s t y (newest_asks w s)
      unfolding newest_asks
      by_newest t y q =
          tells_same w s t y (else_eq (refuses (none_left w)) _ (λ z. some (counted ∙ sym (used_is w h b) ∙ z)) (ap (read_asks w s) (sym x.1))) q

      pub at_low : r.place ≤ n
      at_low = omega (arith, counted, newest_low w h b here whole r x)

-- ---- the whole call

ill_refused : (w : Way) (s : Session) → well_formed s ≡ false → record { told = record { answer = 1; small = 0; beside = 0 }; image = image_of s; reply = [] } ≡ moved_left (passed_by w s) (move_call w s)
unfolding move_call move_asks moved_left settled kept
ill_refused w s ill = ap (λ (x : Bool). moved_left (passed_by w s) (settled s [] (cond (not x) (refuses 1) (newest_asks w s)))) (sym ill)

pub unopened : (w : Way) (b : List ℕ) → Unopened b → (t : Told) → t ≡ record { answer = 1; small = 0; beside = 0 } → (t ≡ (move_on w b).told) × (b ≡ (move_on w b).image)
unfolding move_on
unopened w b shut t p =
    let q = inplace.unopened (λ (s : Session). moved_left (passed_by w s) (move_call w s)) [] (ill_refused w) b shut t p in (q.0, q.1.0)

module _ (w : Way) (b : List ℕ) (h : Head) (o : Opens b h) where
  pub newest_taken : (t : Told) (y : List ℕ) → Tells w (session_in h b) t y (newest_asks w (session_in h b)) → (t ≡ (move_on w b).told) × (y ≡ (move_on w b).image)
  unfolding moved_by move_on move_call move_asks
  newest_taken t y q =
      let p = tells_same w (session_in h b) t y (else_b _ _ (ap not o.formed) refl) q in
      let r = on_read (λ (s : Session). moved_left (passed_by w s) (move_call w s)) [] b o.long h o.read in
      (p.0 ∙ ap (λ (l : Left). l.told) r, p.1 ∙ ap (λ (l : Left). l.image) r)
