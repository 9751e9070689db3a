-- One change more, the newest one taken back, and the one last taken back put in again, on the session of a history. Assumes nothing.
use Rattle.std.specs.Option.{unwrap_or}
use Rattle.std.specs.Prelude.{ℕ, ◌+◌, ◌-◌, ◌≤◌, false, ◌≡◌, refl, List, [], ◌∷◌, ltb, take, drop, Option, Some, Ok}
use Rattle.std.proofs.Math.Bool.{true, not}
use Rattle.std.proofs.Math.Logic.{inl, inr, ⊎_elim}
use Rattle.std.proofs.Math.Path.{sym, ap, subst}
use Rattle.std.proofs.Common.{◌∙◌, leb-true, length-append}
use native.Mathlib.Omega.{arith}
use Rattle.std.proofs.Math.ListN.{length}
use Rattle.wire.proofs.laws.Chains.{passed}
use Rattle.wire.proofs.laws.Cases.{if_eq, else_b, else_eq}
use Rattle.wire.specs.Wire.{pasted}
use Rattle.record.specs.declared.Record.{Record}
use Rattle.change.specs.Change.{kind_of, put_of, put_after, inverse_of, timed, takes_back, timer_after}
use Rattle.change.proofs.laws.Timed.{kind_of_back, timed_puts, timed_kind, timed_inverse}
use Rattle.change.specs.declared.Edit.{Edit}
use Rattle.formed.specs.Formed.{record_ok, next_ok}
use Rattle.formed.proofs.laws.Formed.{sound}
use Rattle.entries.specs.Entries.{body_len, scan, reading_of}
use Rattle.journal.specs.Bytes.{entry_bytes}
use Rattle.journal.specs.Read.{got_of}
use Rattle.journal.specs.Add.{entry_len, end_of, added_to, cut_from}
use Rattle.journal.specs.Ways.{by_way, other}
use Rattle.journal.proofs.laws.Ends.{length_entry, end_at, added}
use Rattle.journal.specs.declared.Way.{Way}
use Rattle.journal.specs.declared.Way.TheVariants.{Before, After}
use Rattle.session.specs.Session.{well_formed, renewed, with_timer, made_of, carried_to, carried_of}
use Rattle.session.specs.Road.{refuses, moves, store_of, used_of, lessened, grown, grown_to, session_moved, done, settled}
use Rattle.session.proofs.laws.Timer.{Clock}
use Rattle.session.specs.declared.Session.{Session}
use Rattle.undo_call.specs.Undo.{put_asks, edit_asks, got_asks, entry_asks, read_asks, none_left, newest_asks, move_asks, move_call}
use Rattle.links.proofs.laws.Made.{Made}
use Rattle.links.proofs.laws.Links.{Link, link, next_up}
use Rattle.promises.specs.History.{applied}
use Rattle.promises.proofs.laws.Room.{end_room}
use Rattle.promises.proofs.laws.Sound.{Lets}
use Rattle.promises.proofs.laws.Timed.{timed_made, after_back, made_timed, after_clock}
use Rattle.promises.proofs.laws.Stores.{padded, length_padded, paste_padded, flat, pile, AllStored, flat_length, flat_some, newest_reads, newest_part, newest_cut}
use Rattle.promises.proofs.laws.ByHistory.{standing, backs, journal_of, by_history, Step, Sane, kept_up, backs_stored, again_stored, history_formed, step_timed, again_timed}

-- a well-formed record's next id is 256 at most
next_small : (r : Record) (n : ℕ) → record_ok r n ≡ true → n ≤ 256
unfolding next_ok
next_small r n h = leb-true n 256 (passed (ltb n 1) _ (sound h).next).1

-- ---- one change more: what could be redone is gone. In the history it holds the timer as it stood

module _ (base : Record) (s : Session) (clock : Clock s.timer) (e : Edit) (es : List Edit) (next : ℕ) (rs : List Edit) (g : Sane base s.profile es next rs)
    (made : Made (applied base es) next e.tables e.change) (lets : Lets s.profile e.change) (fits : (carried_of (by_history base s es next rs) e).full ≡ false) where
  abbrev here : Record
  here = applied base es

  abbrev x : Edit
  x = timed s.timer e

  abbrev entry : Edit
  entry = inverse_of here x

  abbrev old : List ℕ
  old = journal_of base es

  m : Made here next x.tables x.change
  unfolding timed
  m = made_timed s.timer clock here next e.tables e.change made

  l : Link here next x
  l = link here next x g.ok g.typed m

  entry_kept : takes_back here s.timer e ≡ entry
  unfolding takes_back
  entry_kept = sym (timed_inverse s.timer here e)

  old_fits : length old ≤ 2048
  old_fits = omega (arith, g.fits)

  room : length old + entry_len entry ≤ 2048
  unfolding by_history standing by_way renewed carried_of
  room =
      omega (arith, end_room (by_history base s es next rs) e (takes_back here s.timer e) (length (padded old)) (length old) fits, ap entry_len entry_kept, length_padded old old_fits)

  long : length (entry_bytes entry) ≡ entry_len entry
  long = length_entry Before entry l.back_writable

  store_room : length old + entry_len entry ≤ length (padded old)
  store_room = omega (arith, room, length_padded old old_fits)

  journal_is : added_to (length old) (takes_back here s.timer e) (padded old) ≡ padded (journal_of base (x ∷ es))
  unfolding backs flat
  journal_is =
      ap (λ (b : Edit). added_to (length old) b (padded old)) entry_kept
      ∙ added Before entry (length old) (padded old) l.back_writable store_room ∙ paste_padded old (entry_bytes entry) (omega (arith, room, long))

  used_is : length old + entry_len entry ≡ length (journal_of base (x ∷ es))
  unfolding backs flat
  used_is = sym (length-append old (entry_bytes entry) ∙ ap (λ (k : ℕ). length old + k) long)

  end_is : end_of (length (padded old)) (length old) (takes_back here s.timer e) ≡ Some (length old + entry_len entry)
  end_is = ap (end_of (length (padded old)) (length old)) entry_kept ∙ end_at Before entry (length old) (padded old) l.back_writable store_room

  -- the same record, and as many logs
  record_is : put_after here e ≡ applied base (x ∷ es)
  unfolding applied
  record_is = ap (λ (p : Option Record). unwrap_or p here) (sym (timed_puts s.timer here e))

  logs_are : made_of x.change ≡ made_of e.change
  unfolding timed
  logs_are = timed_made s.timer e.change

  pub carried_history : (carried_of (by_history base s es next rs) e).session
      ≡ by_history base (with_timer s (timer_after s.timer e.change)) (x ∷ es) (next + made_of e.change) []
  unfolding carried_of carried_to by_history standing by_way renewed with_timer flat padded
  carried_history =
      ap (λ (k : Option ℕ). (carried_to (by_history base s es next rs) e k).session) end_is
      ∙ (λ i. renewed (with_timer s (timer_after s.timer e.change)) (record_is i) (next + made_of e.change) (journal_is i) (used_is i) (padded []) 0)

  lets_now : Lets s.profile x.change
  unfolding timed
  lets_now = ⊎_elim (λ z. inl z) (λ k. inr (timed_kind s.timer e.change ∙ k)) lets

  pub carried_sane : Sane base s.profile (x ∷ es) (next + made_of e.change) []
  unfolding applied flat
  carried_sane =
      let sound : record_ok (put_after here x) (next + made_of e.change) ≡ true = subst (λ (k : ℕ). record_ok (put_after here x) (next + k) ≡ true) logs_are l.put_sound in
      let small = next_small (put_after here x) (next + made_of e.change) sound in
      let up : next ≤ next + made_of e.change = omega arith in
      record {
        small = small;
        fits = omega (arith, room, used_is);
        ok = sound;
        typed = l.put_typed;
        kept = (
          record { known = next; made = m; below = omega (arith, logs_are); links = l; ok = next_up here next (next + made_of e.change) g.ok up small; typed = g.typed; lets = lets_now },
          kept_up base s.profile next (next + made_of e.change) es up small g.kept,
        );
        again = tt;
        profile = g.profile;
      }

  -- the timer that it sets
  pub carried_clock : Clock (timer_after s.timer e.change)
  carried_clock = after_clock s.timer here next e.tables e.change clock made

-- ---- the newest entry b of a store goes, and c, which takes it back, comes to the other store

by_same_way : {A : Type 0} (w : Way) (x y : A) → by_way w (by_way w x y) (by_way w y x) ≡ x
unfolding by_way
by_same_way Before x y = refl
by_same_way After x y = refl

by_other_way : {A : Type 0} (w : Way) (x y : A) → by_way (other w) (by_way w x y) (by_way w y x) ≡ y
unfolding other by_way
by_other_way Before x y = refl
by_other_way After x y = refl

module _ (w : Way) (own : Session) (r : Record) (next : ℕ) (from to : List Edit) where
  abbrev stood : Session
  stood = standing w own r next from to

  store_there : store_of w stood ≡ padded (flat from)
  unfolding store_of standing renewed
  store_there = by_same_way w (padded (flat from)) (padded (flat to))

  used_there : used_of w stood ≡ length (flat from)
  unfolding used_of standing renewed
  used_there = by_same_way w (length (flat from)) (length (flat to))

  other_there : store_of (other w) stood ≡ padded (flat to)
  unfolding store_of standing renewed
  other_there = by_other_way w (padded (flat from)) (padded (flat to))

  other_used : used_of (other w) stood ≡ length (flat to)
  unfolding used_of standing renewed
  other_used = by_other_way w (length (flat from)) (length (flat to))

-- a store without entries
pub none_standing : (w : Way) (own : Session) (r : Record) (next : ℕ) (to : List Edit) → well_formed (standing w own r next [] to) ≡ true
    → move_asks w (standing w own r next [] to) ≡ refuses (none_left w)
unfolding move_asks newest_asks flat
none_standing w own r next to formed = sym (else_b _ _ (ap not formed) (if_eq _ _ (used_there w own r next [] to) refl))

module _ (w : Way) (own : Session) (r : Record) (next : ℕ) (b : Edit) (bs cs : List Edit) (formed : well_formed (standing w own r next (b ∷ bs) cs) ≡ true) (a : AllStored w (b ∷ bs))
    (fits : length (flat (b ∷ bs)) + length (flat cs) ≤ 2048) (after : Record) (put : put_of r b ≡ Some after) (ok : record_ok after next ≡ true)
    (c : Edit) (back : takes_back r own.timer b ≡ c) (long : length (entry_bytes c) ≡ entry_len c) (same : entry_len c ≡ entry_len b) where
  abbrev s : Session
  s = standing w own r next (b ∷ bs) cs

  abbrev at : ℕ
  at = length (flat bs)

  used_now : used_of w s ≡ length (flat (b ∷ bs))
  used_now = used_there w own r next (b ∷ bs) cs

  store_now : store_of w s ≡ padded (flat (b ∷ bs))
  store_now = store_there w own r next (b ∷ bs) cs

  reads : reading_of (scan (take (used_of w s) (store_of w s))) ≡ Ok (record { count = length (pile (b ∷ bs)); newest = at })
  reads = (λ i. reading_of (scan (take (used_now i) (store_now i)))) ∙ newest_reads w b bs a

  got_is : got_of w (take (used_of w s - at) (drop at (store_of w s))) ≡ Some b
  got_is = (λ i. got_of w (take (used_now i - at) (drop at (store_now i)))) ∙ ap (got_of w) (newest_part w b bs a) ∙ a.0.reads

  -- ---- what is asked

  put_is : put_asks w next at b (Some after) ≡ moves w at b
  unfolding put_asks
  put_is = sym (else_b _ _ (ap not ok) refl)

  entry_is : entry_asks w s at ≡ moves w at b
  unfolding entry_asks got_asks edit_asks standing renewed
  entry_is = ap (got_asks w s at) got_is ∙ ap (put_asks w next at b) put ∙ put_is

  read_is : read_asks w s (reading_of (scan (take (used_of w s) (store_of w s)))) ≡ moves w at b
  unfolding read_asks
  read_is = ap (read_asks w s) reads ∙ entry_is

  pub asks_standing : move_asks w s ≡ moves w at b
  unfolding move_asks newest_asks
  asks_standing = sym (else_b _ _ (ap not formed) (else_eq _ _ {m = used_of w s} {n = 0} (λ z. flat_some w b bs a (sym used_now ∙ z)) (sym read_is)))

  -- ---- what comes of it

  less_is : lessened w s at ≡ padded (flat bs)
  unfolding lessened
  less_is = (λ i. cut_from at (used_now i) (store_now i)) ∙ newest_cut w b bs a (omega (arith, fits))

  more_is : grown w s b ≡ padded (flat (c ∷ cs))
  unfolding grown standing renewed flat
  more_is =
      (λ i. pasted (other_used w own r next (b ∷ bs) cs i) (entry_bytes (back i)) (other_there w own r next (b ∷ bs) cs i))
      ∙ paste_padded (flat cs) (entry_bytes c) (omega (arith, fits, flat_length w b bs a, long, same))

  end_is' : grown_to w s b ≡ length (flat (c ∷ cs))
  unfolding grown_to standing renewed flat
  end_is' = (λ i. other_used w own r next (b ∷ bs) cs i + entry_len (back i)) ∙ sym (length-append (flat cs) (entry_bytes c) ∙ ap (λ (k : ℕ). length (flat cs) + k) long)

  -- own, with the timer that the entry holds
  abbrev given : Session
  given = with_timer own (timer_after own.timer b.change)

  session_is : session_moved w s at b (put_after s.held b) ≡ standing w given after next bs (c ∷ cs)
  unfolding session_moved standing renewed with_timer
  session_is = λ i.
      renewed given (unwrap_or (put i) r) next (by_way w (less_is i) (more_is i)) (by_way w at (end_is' i)) (by_way w (more_is i) (less_is i)) (by_way w (end_is' i) at)

  pub moved_standing : move_call w s ≡ done (standing w given after next bs (c ∷ cs)) 0 (kind_of b.change) []
  unfolding move_call settled
  moved_standing = ap (settled s []) asks_standing ∙ (λ i. done (session_is i) 0 (kind_of b.change) [])

-- ---- on the session of a history

flip : (own : Session) (r : Record) (next : ℕ) (from to : List Edit) → standing Before own r next from to ≡ standing After own r next to from
unfolding standing by_way
flip own r next from to = refl

module _ (base : Record) (s : Session) (clock : Clock s.timer) (e : Edit) (es : List Edit) (next : ℕ) (rs : List Edit) where
  -- the change as it holds the timer that stands now
  abbrev now : Edit
  now = timed s.timer e

  -- a change and what takes it back have entries of one length, whatever timer they hold
  same_length : (step : Step base s.profile next e es) → entry_len (inverse_of (applied base es) e) ≡ entry_len e
  same_length step = ap (λ (k : ℕ). body_len k + 1) step.links.kind_back

  now_length : entry_len now ≡ entry_len e
  unfolding timed
  now_length = ap (λ (k : ℕ). body_len k + 1) (timed_kind s.timer e.change)

  now_back : entry_len (inverse_of (applied base es) now) ≡ entry_len e
  unfolding inverse_of
  now_back = ap (λ (k : ℕ). body_len k + 1) (kind_of_back (applied base es) now.change) ∙ now_length

  -- the newest one taken back
  module _ (g : Sane base s.profile (e ∷ es) next rs) where
    abbrev step : Step base s.profile next e es
    step = g.kept.0

    abbrev then : Step base s.profile next now es
    then = step_timed base s.profile s.timer clock e es next step

    abbrev taken : Edit
    taken = inverse_of (applied base es) e

    back_is : takes_back (applied base (e ∷ es)) s.timer taken ≡ now
    unfolding takes_back applied
    back_is = ap (timed s.timer) step.links.again

    now_long : length (entry_bytes now) ≡ entry_len now
    now_long = length_entry After now then.links.here_writable

    same : entry_len now ≡ entry_len taken
    same = now_length ∙ sym (same_length step)

    pub undo_asks : move_asks Before (by_history base s (e ∷ es) next rs) ≡ moves Before (length (flat (backs base es))) taken
    unfolding by_history backs applied
    undo_asks =
        asks_standing Before s (applied base (e ∷ es)) next taken (backs base es) rs (history_formed base s clock (e ∷ es) next rs g) (backs_stored base s.profile next (e ∷ es) g.kept) g.fits
        (applied base es) step.links.put_back step.ok now back_is now_long same

    -- what is left of it: the timer that it holds is the session's now
    abbrev pub undone : Session
    undone = with_timer s (timer_after s.timer taken.change)

    pub undo_history : move_call Before (by_history base s (e ∷ es) next rs) ≡ done (by_history base undone es next (now ∷ rs)) 0 (kind_of taken.change) []
    unfolding by_history backs applied
    undo_history =
        moved_standing Before s (applied base (e ∷ es)) next taken (backs base es) rs (history_formed base s clock (e ∷ es) next rs g) (backs_stored base s.profile next (e ∷ es) g.kept) g.fits
        (applied base es) step.links.put_back step.ok now back_is now_long same

    pub undone_sane : Sane base s.profile es next (now ∷ rs)
    unfolding backs
    undone_sane =
        let olds = backs_stored base s.profile next es g.kept.1 in
        let news = again_stored base s.profile next (e ∷ es) rs g.again in
        let l = step.links in
        let n = then.links in
        record {
          small = g.small;
          fits = omega (
            arith,
            g.fits,
            flat_length Before taken (backs base es) (record { writable = l.back_writable; good = l.entry_good; reads = l.entry_reads }, olds),
            flat_length After now rs (record { writable = n.here_writable; good = n.redo_good; reads = n.redo_reads }, news),
            same,
          );
          ok = step.ok;
          typed = step.typed;
          kept = g.kept.1;
          again = (then, again_timed base s.profile s.timer clock e es next rs g.again);
          profile = g.profile;
        }

    pub undone_clock : Clock undone.timer
    unfolding with_timer inverse_of
    undone_clock =
        subst Clock (sym (after_back s.timer (applied base es) e.change)) (after_clock s.timer (applied base es) step.known e.tables e.change clock step.made)

  -- the one last taken back put in again
  module _ (g : Sane base s.profile es next (e ∷ rs)) where
    abbrev again : Step base s.profile next e es
    again = g.again.0

    abbrev anew : Step base s.profile next now es
    anew = step_timed base s.profile s.timer clock e es next again

    abbrev r : Record
    r = applied base es

    after_ok : record_ok (put_after r now) next ≡ true
    after_ok = next_up (put_after r now) (anew.known + made_of now.change) next anew.links.put_sound anew.below g.small

    puts_now : put_of r e ≡ Some (put_after r now)
    puts_now = sym (timed_puts s.timer r e) ∙ anew.links.put_accepted

    in_again : takes_back r s.timer e ≡ inverse_of r now
    unfolding takes_back
    in_again = sym (timed_inverse s.timer r e)

    formed_after : well_formed (standing After s r next (e ∷ rs) (backs base es)) ≡ true
    unfolding by_history
    formed_after = ap well_formed (sym (flip s r next (backs base es) (e ∷ rs))) ∙ history_formed base s clock es next (e ∷ rs) g

    pub redo_asks : move_asks After (by_history base s es next (e ∷ rs)) ≡ moves After (length (flat rs)) e
    unfolding by_history
    redo_asks =
        ap (move_asks After) (flip s r next (backs base es) (e ∷ rs))
        ∙ asks_standing After s r next e rs (backs base es) formed_after (again_stored base s.profile next es (e ∷ rs) g.again) (omega (arith, g.fits))
        (put_after r now) puts_now after_ok (inverse_of r now) in_again (length_entry Before (inverse_of r now) anew.links.back_writable) now_back

    abbrev pub redone : Session
    redone = with_timer s (timer_after s.timer e.change)

    pub redo_history : move_call After (by_history base s es next (e ∷ rs)) ≡ done (by_history base redone (now ∷ es) next rs) 0 (kind_of e.change) []
    unfolding by_history backs applied
    redo_history =
        ap (move_call After) (flip s r next (backs base es) (e ∷ rs))
        ∙ moved_standing After s r next e rs (backs base es) formed_after (again_stored base s.profile next es (e ∷ rs) g.again) (omega (arith, g.fits))
        (put_after r now) puts_now after_ok (inverse_of r now) in_again (length_entry Before (inverse_of r now) anew.links.back_writable) now_back
        ∙ ap (λ (t : Session). done t 0 (kind_of e.change) []) (sym (flip redone (put_after r now) next (inverse_of r now ∷ backs base es) rs))

    pub redone_sane : Sane base s.profile (now ∷ es) next rs
    unfolding applied backs
    redone_sane =
        let olds = backs_stored base s.profile next es g.kept in
        let news = again_stored base s.profile next (e ∷ es) rs g.again.1 in
        let l = again.links in
        let n = anew.links in
        record {
          small = g.small;
          fits = omega (
            arith,
            g.fits,
            flat_length Before (inverse_of r now) (backs base es) (record { writable = n.back_writable; good = n.entry_good; reads = n.entry_reads }, olds),
            flat_length After e rs (record { writable = l.here_writable; good = l.redo_good; reads = l.redo_reads }, news),
            now_back,
          );
          ok = after_ok;
          typed = anew.links.put_typed;
          kept = (anew, g.kept);
          again = again_timed base s.profile s.timer clock e es next rs g.again.1;
          profile = g.profile;
        }

    pub redone_clock : Clock redone.timer
    unfolding with_timer
    redone_clock = after_clock s.timer r again.known e.tables e.change clock again.made

-- an empty history has nothing to undo, and one without struck changes nothing to redo
pub undo_nothing : (base : Record) (s : Session) → Clock s.timer → (next : ℕ) (rs : List Edit) → Sane base s.profile [] next rs → move_asks Before (by_history base s [] next rs) ≡ refuses 6
unfolding by_history backs none_left by_way
undo_nothing base s c next rs g = none_standing Before s (applied base []) next rs (history_formed base s c [] next rs g)

pub redo_nothing : (base : Record) (s : Session) → Clock s.timer → (es : List Edit) (next : ℕ) → Sane base s.profile es next [] → move_asks After (by_history base s es next []) ≡ refuses 8
unfolding by_history none_left by_way standing
redo_nothing base s c es next g = none_standing After s (applied base es) next (backs base es) (history_formed base s c es next [] g)
