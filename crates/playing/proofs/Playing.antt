-- A whole trace, entry by entry: what each turn keeps, and what stands in the end. Assumes nothing.
use Prim.Native.Nat.{ℕ, zero, suc, ◌+◌, ◌-◌, ◌*◌, ◌/◌, ◌≤◌, ◌<◌}
use mathlib.Core.Bool.{Bool, true, false, not}
use mathlib.Core.Path.{◌≡◌, refl, sym, ap, ap₂, subst, ◌∙◌}
use mathlib.Core.List.{List, [], ◌∷◌, ◌++◌}
use native.Mathlib.Nat.{add-sub_cancel_left}
use native.Mathlib.Numerals.{add-one}
use native.Mathlib.Omega.{arith}
use borrow.Author.Tests.{eq-eqb, lt-leb, leb-true, leb-false, not-true, not-false}
use lib.Dec.{leb}
use lib.ListN.{length, take, drop, get_or, length-append, length-drop}
use lib.Seq.{length-take-le}
use Rattle.wire.specs.Wire.{pasted, joined}
use Rattle.wire.specs.Conditions.{◌and◌}
use Rattle.wire.proofs.laws.Wire.{tail_part, joined_append}
use Rattle.wire.proofs.laws.Cases.{if_not, else_not, if_ne, else_ne, if_lt, else_lt, else_eq, same_le}
use Rattle.io.specs.Counts.{IsPrefixLen}
use Rattle.text.specs.Text.{Sheet, sheet, put_all}
use Rattle.text.specs.Pages.{sheet_of, Puts}
use Rattle.text.specs.declared.Page.{Page}
use Rattle.text.proofs.laws.Pieces.{pieces, fitting}
use Rattle.std.specs.Prelude.{None, Some, Result, Ok, Err}
use Rattle.entries.specs.Entries.{Entry, entry_of, entries_of, reading_of, next_by, Next, Reading}
use Rattle.entries.proofs.laws.ByTable.{count_written}
use Rattle.entries.proofs.laws.Placed.{first_place, place_written}
use Rattle.entries.specs.Places.{Placed}
use Rattle.entries.proofs.laws.Next.{Leads, leads_on, next_fits}
use Rattle.trace.specs.Trace.{trace_table, trace_scan}
use Rattle.session.specs.Session.{fresh_session}
use Rattle.session.specs.declared.Session.{Session}
use Rattle.image.specs.Image.{image_of, written_to}
use Rattle.layout.specs.Layout.{image_length}
use Rattle.playing.specs.declared.Played.{Played}
use Rattle.playing.specs.declared.NotPlayed.{NotPlayed}
use Rattle.playing.specs.declared.NotPlayed.TheVariants.{NoImage, NoRoom}
use Rattle.playing.specs.Playing.{Heard, heard, line, line_room, Plays, image_after, lines_of, stop_line, pieces_of, text_of, whole_entry, Stepped, stepped, room_for, Replayed, replayed}
use Rattle.entries.specs.declared.Fault.{Fault}

-- ---- `step`

abbrev Steps : ℕ → List ℕ → List ℕ → Stepped → Type 0
Steps r b' d' x = ((r ≡ x.count) and (b' ≡ x.image) and (d' ≡ x.out)) × IsPrefixLen r d'

module _ (b : List ℕ) (number : ℕ) (e d : List ℕ) {x : Bool} (judged : x ≡ whole_entry e) where
  kept : record { count = 0; image = b; out = d } ≡ stepped b number e d → Steps 0 b d (stepped b number e d)
  kept h = subst (Steps 0 b d) h ((refl, (refl, refl)), (omega arith, refl))

  pub step_none : not x ≡ true → Steps 0 b d (stepped b number e d)
  unfolding stepped
  step_none h = kept (if_not _ _ judged h refl)

  pub step_short : not x ≡ false → length d < line_room → Steps 0 b d (stepped b number e d)
  unfolding stepped
  step_short h short = kept (else_not _ _ judged h (if_lt _ _ short refl))

  pub step_put : {b' : List ℕ} {p q : Page} → not x ≡ false → line_room ≤ length d → sheet_of p ≡ sheet d 0 → Plays number (heard b (entry_of e)) p q b'
      → Steps q.past b' q.out.now (stepped b number e d)
  unfolding stepped
  step_put {b'} {p} {q} h room fresh l =
      let put = l.puts.1 ∙ ap (λ (s : Sheet). put_all s (line number (heard b (entry_of e)))) fresh in
      let text = fitting (line number (heard b (entry_of e))) d (omega (arith, l.fits)) put in
      subst (Steps q.past b' q.out.now) (else_not _ _ judged h (else_lt _ _ room refl)) ((text.0, (l.image, text.1.0)), text.1.1)

-- ---- the bytes of the next entry

first_byte : (n : ℕ) (l : List ℕ) → 1 ≤ n → get_or (take n l) 0 0 ≡ get_or l 0 0
first_byte zero l h = absurd (omega arith)
first_byte (suc n) [] h = refl
first_byte (suc n) (x ∷ l) h = refl

module _ (t : List ℕ) (at n : ℕ) (stands : Ok (Some n) ≡ next_by trace_table (drop at t)) where
  lent : take (at + n - at) (drop at t) ≡ take n (drop at t)
  lent = rw add-sub_cancel_left

  pub next_ends : at ≤ length t → at + n ≤ length t
  next_ends h = omega (arith, (next_fits trace_table (drop at t) stands).2, length-drop at t)

  pub next_some : 1 ≤ n
  next_some = (next_fits trace_table (drop at t) stands).1

  pub next_whole : whole_entry (take (at + n - at) (drop at t)) ≡ true
  unfolding whole_entry
  next_whole =
      let f = next_fits trace_table (drop at t) stands in
      let long : length (take n (drop at t)) ≡ n = length-take-le n (drop at t) f.2 in
      let size : trace_table (get_or (take n (drop at t)) 0 0) ≡ length (take n (drop at t)) =
      ap trace_table (first_byte n (drop at t) f.1) ∙ sym f.0 ∙ sym long in
      ap whole_entry lent ∙ sym (else_eq _ _ {m = length (take n (drop at t))} {n = 0} (λ z. omega (arith, long, f.1)) (sym (eq-eqb _ _ size)))

-- ---- `play_entries`: the entries before `at` were played, from a fresh session and a buffer d₀

pub record Playing (t : List ℕ) (p q : Sheet) (at number : ℕ) (b : List ℕ) : Type 0 where
  pub entries : List Entry
  pub place : Placed trace_table t at entries
  pub image : b ≡ image_after entries
  pub counted : number ≡ length entries
  pub puts : q ≡ put_all p (lines_of entries)
  pub fits : length (joined (lines_of entries)) ≤ line_room * length entries

pub playing_none : (t b : List ℕ) (p : Sheet) → b ≡ image_of fresh_session → Playing t p p 0 0 b
unfolding image_after lines_of put_all joined
playing_none t b p e = record { entries = []; place = first_place trace_table t; image = e; counted = refl; puts = refl; fits = omega arith }

-- these entries were played, and all fits
abbrev Done : List Entry → Sheet → Sheet → List ℕ → Type 0
Done es p q b = (b ≡ image_after es) × ((q ≡ put_all p (lines_of es)) × (length (joined (lines_of es)) ≤ line_room * length es))

line_more : (e : Entry) (es : List Entry) → lines_of es ++ line (suc (length es)) (heard (image_after es) e) ≡ lines_of (e ∷ es)
unfolding lines_of
line_more e es = refl

image_more : (e : Entry) (es : List Entry) → (heard (image_after es) e).image ≡ image_after (e ∷ es)
unfolding image_after
image_more e es = refl

-- the bytes from a place on, as the code lends them
pub stands_at_lem : (t : List ℕ) (at : ℕ) {n : ℕ} {x : Next} → x ≡ Ok (Some n) → x ≡ next_by trace_table (take (length t - at) (drop at t)) → Ok (Some n) ≡ next_by trace_table (drop at t)
stands_at_lem t at is e = sym is ∙ e ∙ ap (next_by trace_table) (tail_part t at)

module _ {t : List ℕ} {p₀ p : Sheet} {at number : ℕ} {b : List ℕ} (l : Playing t p₀ p at number b) where
  done : entries_of (trace_scan t) ≡ l.entries → Done (entries_of (trace_scan t)) p₀ p b
  done e = subst (λ (es : List Entry). Done es p₀ p b) (sym e) (l.image, (l.puts, l.fits))

  -- the bytes from there on, as the code lends them, are at their end, or break
  module _ {x : Next} (e : x ≡ next_by trace_table (take (length t - at) (drop at t))) where
    leads : Leads trace_table t at l.entries x
    leads = leads_on l.place (e ∙ ap (next_by trace_table) (tail_part t at))

    pub played_all : x ≡ Ok None → Done (entries_of (trace_scan t)) p₀ p b
    unfolding entries_of
    played_all is = done (ap entries_of (subst (Leads trace_table t at l.entries) is leads))

    pub played_stop : {fault : Fault} → x ≡ Err fault → Done (entries_of (trace_scan t)) p₀ p b
    played_stop is = done (subst (Leads trace_table t at l.entries) is leads).0

  pub number_fits : number ≤ at
  number_fits = omega (arith, l.counted, count_written l.entries, place_written l.place)

  pub playing_next : {n : ℕ} {b' : List ℕ} {r : Page} {r' : Page} → Ok (Some n) ≡ next_by trace_table (drop at t)
      → sheet_of r ≡ p → Plays (number + 1) (heard b (entry_of (take (at + n - at) (drop at t)))) r r' b' → Playing t p₀ (sheet_of r') (at + n) (number + 1) b'
  playing_next {n} {b'} {r} {r'} stands same_page q =
      let es : List Entry = l.entries in
      let e : Entry = entry_of (take n (drop at t)) in
      let h : Heard = heard (image_after es) e in
      let count : number + 1 ≡ suc (length es) = add-one number ∙ ap suc l.counted in
      let same : heard b (entry_of (take (at + n - at) (drop at t))) ≡ h =
      ap₂ (λ (i l : List ℕ). heard i (entry_of l)) l.image (lent t at n stands) in
      let shown : line (number + 1) (heard b (entry_of (take (at + n - at) (drop at t)))) ≡ line (suc (length es)) h =
      ap₂ (λ (m : ℕ) (x : Heard). line m x) count same in
      record {
        entries = e ∷ es;
        place = leads_on l.place stands;
        image = q.image ∙ ap (λ (x : Heard). x.image) same ∙ image_more e es;
        counted = count;
        puts =
            pieces p₀ (lines_of es) (line (suc (length es)) h) l.puts (q.puts.1 ∙ ap₂ put_all same_page shown)
            ∙ ap (put_all p₀) (line_more e es);
        fits =
            subst (λ (ps : List (List ℕ)). length (joined ps) ≤ line_room * suc (length es)) (line_more e es)
            (omega (
              arith,
              ap length (joined_append (lines_of es) (line (suc (length es)) h)),
              length-append (joined (lines_of es)) (joined (line (suc (length es)) h)),
              l.fits,
              q.fits,
              ap (λ (ps : List (List ℕ)). length (joined ps)) shown,
            ));
      }

-- ---- `play`

abbrev PlayedAs : Result Played NotPlayed → List ℕ → List ℕ → Replayed → Type 0
PlayedAs r b' d' x = (r ≡ x.result) and (b' ≡ x.image) and (d' ≡ x.out)

pub fresh_written : (b b' : List ℕ) (s : Session) → length b ≡ image_length → s ≡ fresh_session → b' ≡ written_to b s → b' ≡ image_of fresh_session
unfolding written_to
fresh_written b b' s long e w = w ∙ sym (else_ne _ _ long refl) ∙ ap image_of e

module _ (b t d : List ℕ) where
  pub play_no_image : (length b ≡ image_length → ⊥) → PlayedAs (Err NoImage) b d (replayed b t d)
  unfolding replayed
  play_no_image h = subst (PlayedAs (Err NoImage) b d) (if_ne _ _ h refl) (refl, (refl, refl))

  module _ (long : length b ≡ image_length) {count : ℕ} (counted : count ≡ length (entries_of (trace_scan t))) {x : Bool} (judged : x ≡ leb (room_for count) (length d)) where
    pub play_no_room : not x ≡ true → PlayedAs (Err NoRoom) b d (replayed b t d)
    unfolding replayed
    play_no_room h =
        let short : length d < room_for (length (entries_of (trace_scan t))) = omega (arith, leb-false (room_for count) (length d) (sym judged ∙ not-true x h)) in
        subst (PlayedAs (Err NoRoom) b d) (else_ne _ _ long (if_lt _ _ short refl)) (refl, (refl, refl))

    pub play_lines : {b' d'' : List ℕ} {q : Sheet} {past : ℕ} {reading : Reading} → not x ≡ false → Done (entries_of (trace_scan t)) (sheet d 0) q b' → reading ≡ reading_of (trace_scan t)
        → sheet d'' past ≡ put_all q (stop_line reading) → length (joined (stop_line reading)) ≤ 37 → PlayedAs (Ok (record { length = past; reading = reading })) b' d'' (replayed b t d)
    unfolding replayed text_of pieces_of
    play_lines {b'} {d''} {past = past} {reading = reading} h done e stop fits =
        let es : List Entry = entries_of (trace_scan t) in
        let room : room_for (length es) ≤ length d = omega (arith, leb-true (room_for count) (length d) (sym judged ∙ not-false x h)) in
        let all : sheet d'' past ≡ put_all (sheet d 0) (lines_of es ++ stop_line reading) = pieces (sheet d 0) (lines_of es) (stop_line reading) done.1.0 stop in
        let long_enough : length (joined (lines_of es ++ stop_line reading)) ≤ length d =
        omega (arith, ap length (joined_append (lines_of es) (stop_line reading)), length-append (joined (lines_of es)) (joined (stop_line reading)), done.1.1) in
        let text = fitting (lines_of es ++ stop_line reading) d long_enough all in
        let same : lines_of es ++ stop_line reading ≡ lines_of es ++ stop_line (reading_of (trace_scan t)) = ap (λ (r : Reading). lines_of es ++ stop_line r) e in
        subst (PlayedAs (Ok (record { length = past; reading = reading })) b' d'') (else_ne _ _ long (else_lt _ _ room refl)) (
          ap₂ (λ (n : ℕ) (r : Reading). Ok (record { length = n; reading = r })) (text.0 ∙ ap (λ (ps : List (List ℕ)). length (joined ps)) same) e,
          (done.0, text.1.0 ∙ ap (λ (ps : List (List ℕ)). pasted 0 (joined ps) d) same),
        )
