-- No trace: a change followed by its undo leaves the session as if nobody had tried, but for the next id; and later too. Assumes nothing.
use Rattle.std.specs.Prelude.{ℕ, zero, suc, ◌+◌, ◌≤◌, ◌<◌, true, ◌≡◌, ltb, eqb, length, get_or, replicate}
use Rattle.std.proofs.Math.Logic.{⊎_elim}
use Rattle.std.proofs.Math.Path.{refl, sym, ap, ap₂, subst}
use Rattle.std.proofs.Common.{◌∙◌, add_assoc, add-one, arith, eqb-true}
use mathlib.Core.List.{List, [], ◌∷◌, ◌++◌, map}
use Rattle.std.proofs.Math.Nat.{zero-add, add-zero}
use Rattle.record.specs.Record.{no_log}
use Rattle.record.specs.declared.Log.{Log}
use Rattle.record.specs.declared.Record.{Record}
use Rattle.record.specs.declared.Timer.{Timer}
use Rattle.change.specs.Logs.{pends_at}
use Rattle.change.specs.With.{with_logs}
use Rattle.change.specs.Change.{made_by, inverse_of, timed_change, timed, timer_after}
use Rattle.change.specs.declared.Change.{Change}
use Rattle.change.specs.declared.Change.TheVariants.{Clear, Unclear, SetState, SetRole, SetCaps, SetUser, SetThermal, SetThrottles, Reset, Unreset, SetMask, SetDeadman, SetAreas, SetTimer}
use Rattle.change.specs.declared.Edit.{Edit}
use Rattle.change.specs.declared.Tables.{Tables}
use Rattle.formed.specs.Formed.{unused, logs_ok, record_ok}
use Rattle.formed.proofs.laws.Formed.{both_hold, sound, Above, rest, more, above}
use Rattle.session.specs.Session.{renewed, with_timer, made_of}
use Rattle.session.specs.Road.{Said, done}
use Rattle.session.proofs.laws.Timer.{Clock}
use Rattle.session.specs.declared.Session.{Session}
use Rattle.journal.specs.Add.{entry_len}
use Rattle.journal.specs.Bytes.{entry_bytes}
use Rattle.journal.specs.Ways.{by_way}
use Rattle.wire.specs.Wire.{pasted}
use Rattle.undo_call.specs.Undo.{move_asks, move_call, undo_call, redo_call}
use Rattle.links.proofs.laws.Logs.{unused_parts}
use Rattle.wire.proofs.laws.Chains.{passed}
use Rattle.links.proofs.laws.Made.{Made}
use Rattle.promises.specs.Calls.{Call, undo, redo, buffer_of, asks, said}
use Rattle.promises.specs.Marks.{Mark, left, logs_made, undo_answer}
use Rattle.promises.specs.History.{adds, strikes, deed_by, deed, marked, since_after, gone_after, applied, oldest_of, kept_of, start_of, Run, did, next_run, OfBytes, given_back, clock_after}
use Rattle.promises.proofs.laws.Profiles.{profile_stays, clear_makes_none}
use Rattle.promises.proofs.laws.Ids.{one_made}
use Rattle.promises.proofs.laws.Timed.{after_back, timer_again, timed_again, timer_put_back, change_put_back, timed_made}
use Rattle.promises.proofs.laws.Stores.{padded, paste_padded, flat, flat_length}
use Rattle.promises.proofs.laws.ByHistory.{standing, backs, by_history, own_timer, Kept, Sane, again_stored}
use Rattle.promises.proofs.laws.Marks.{off_change, left_change, logs_more}
use Rattle.promises.proofs.laws.Steps.{undo_asks, undone, undo_history, undone_sane, undone_clock, redone, redo_history}
use Rattle.promises.proofs.laws.Demand3.{redoable, Inv, next_inv, next_is, starts_more, undo_answer_lem}
use Rattle.promises.proofs.laws.Forgetting.{two_parts}
use Rattle.promises.proofs.laws.Clocks.{clock_is}
use Rattle.promises.proofs.laws.Aside.{as_before, left_after, made_after, left_after_lem, made_after_lem, not_redo}
use Rattle.promises.proofs.laws.Struck.{off}
use Rattle.journal.specs.declared.Way.TheVariants.{Before, After}
use Rattle.promises.proofs.laws.Shifted.{shifted_change, shifted_edit, shifted_low}
use Rattle.promises.specs.Shifted.{shifted_log, shifted_record}
use Rattle.promises.specs.Later.{Wish, AsIf}
use Rattle.promises.proofs.laws.AsIf.{Beside, as_if}
use Rattle.promises.specs.NoTrace.{leaves, AllButRedo, AsBefore}

-- ---- the ids of the changes that are left are below the next id

unused_id : (l : List Log) → unused l ≡ true → (p : ℕ) → (get_or l p no_log).id ≡ 0
unused_id [] u p = refl
unused_id (x ∷ l) u zero = ap (λ (y : Log). y.id) (unused_parts x l u).0
unused_id (x ∷ l) u (suc p) = unused_id l (unused_parts x l u).1 p

id_below : {next low : ℕ} {l : List Log} → 1 ≤ next → Above next low l → (p : ℕ) → (get_or l p no_log).id < next
id_below {next} {l = l} h (rest u) p = subst (λ (i : ℕ). i < next) (sym (unused_id l u p)) h
id_below h (more a b w k) zero = b
id_below h (more a b w k) (suc p) = id_below h k p

pends_below : (r : Record) (next p : ℕ) (x : Log) → 1 ≤ next → record_ok r next ≡ true → pends_at p x r.logs ≡ true → x.id < next
unfolding pends_at logs_ok
pends_below r next p x h ok pends =
    let place = passed (ltb 3 p) _ pends in
    let id = passed (eqb x.id 0) _ place.1 in
    let same = both_hold (eqb (get_or r.logs p no_log).id x.id) _ id.1 in
    subst (λ (i : ℕ). i < next) (eqb-true _ _ same.0) (id_below h (above {low = 0} (sound ok).logs) p)

log_stays : (k : ℕ) (x : Log) → x.id < k → shifted_log k x ≡ x
unfolding shifted_log
log_stays k x h = λ i. record { id = shifted_low k x.id h i; reason = x.reason }

-- a change with logs below k is the same in both worlds
change_stays : (k : ℕ) (r : Record) (n : ℕ) (t : Tables) (ch : Change) → 1 ≤ k → record_ok r k ≡ true → n + made_of ch ≤ k → Made r n t ch → shifted_change k ch ≡ ch
unfolding shifted_change made_of made_by
change_stays k r n t (Clear place log) low ok h m = ap (Clear place) (log_stays k log (pends_below r k place log low ok m.0))
change_stays k r n t (Unclear place log) low ok h m = absurd m
change_stays k r n t (SetState state) low ok h m = refl
change_stays k r n t (SetRole got role) low ok h m = refl
change_stays k r n t (SetCaps got caps) low ok h m = refl
change_stays k r n t (SetUser user) low ok h m = refl
change_stays k r n t (SetThermal got) low ok h m = refl
change_stays k r n t (SetThrottles got) low ok h m = refl
change_stays k r n t (Reset log) low ok h m = ap Reset (log_stays k log (⊎_elim (λ e. omega (arith, ap (λ (x : Log). x.id) e)) (λ new. omega (arith, new.id, one_made r n log new)) m.0))
change_stays k r n t (Unreset state made) low ok h m = absurd m
change_stays k r n t (SetMask mask) low ok h m = refl
change_stays k r n t (SetDeadman deadman) low ok h m = refl
change_stays k r n t (SetAreas areas) low ok h m = refl
change_stays k r n t (SetTimer timer) low ok h m = refl

edits_stay : (base : Record) (p k : ℕ) (es : List Edit) → 1 ≤ k → Kept base p k es → map (shifted_edit k) es ≡ es
unfolding shifted_edit
edits_stay base p k [] low w = refl
edits_stay base p k (e ∷ es) low w =
    let same = change_stays k (applied base es) w.0.known e.tables e.change low w.0.ok w.0.below w.0.made in
    ap₂ (λ (ch : Change) (l : List Edit). record { change = ch; tables = e.tables } ∷ l) same (edits_stay base p k es low w.1)

-- a record whose logs lie below k is the same in both worlds
logs_stay : (k : ℕ) (l : List Log) → ((p : ℕ) → (get_or l p no_log).id < k) → map (shifted_log k) l ≡ l
logs_stay k [] h = refl
logs_stay k (x ∷ l) h = ap₂ (λ (y : Log) (m : List Log). y ∷ m) (log_stays k x (h 0)) (logs_stay k l (λ p. h (suc p)))

record_stays : (k : ℕ) (r : Record) → 1 ≤ k → record_ok r k ≡ true → shifted_record k r ≡ r
unfolding shifted_record with_logs logs_ok
record_stays k r low ok = ap (with_logs r) (logs_stay k r.logs (id_below low (above {low = 0} (sound ok).logs)))

-- the record before the oldest change is well formed at the next id
start_ok : (base : Record) (p hi : ℕ) (es : List Edit) → record_ok (applied base es) hi ≡ true → Kept base p hi es → record_ok base hi ≡ true
unfolding applied
start_ok base p hi [] ok k = ok
start_ok base p hi (e ∷ es) ok k = start_ok base p hi es k.0.ok k.1

-- ---- a change and its undo

module _ (base : Record) (first : ℕ) (p : Run) (v : Inv base first p) (c : Call) (b : OfBytes c) (e : Edit) (made : deed p.session c ≡ adds e) where
  abbrev q : Run
  q = next_run p c

  abbrev from : Record
  from = start_of base p

  abbrev es : List Edit
  es = kept_of p

  abbrev m : ℕ
  m = logs_made p.marks + made_of e.change

  w : Inv base first q
  w = next_inv base first p v c b

  -- the timer before it, and the change as its mark holds it
  abbrev was : Timer
  was = p.session.timer

  abbrev x : Edit
  x = timed was e

  marks_are : q.marks ≡ record { edit = x; stroke = 0 } ∷ p.marks
  unfolding next_run did marked
  marks_are = ap (marked was p.undos p.marks) made

  left_are : left q.marks ≡ x ∷ left p.marks
  left_are = ap left marks_are ∙ left_change x p.marks

  gone_are : q.gone ≡ p.gone
  unfolding next_run did gone_after
  gone_are = ap (gone_after p.gone) made

  timer_are : q.session.timer ≡ timer_after was e.change
  unfolding clock_after
  timer_are = clock_is base first p v c b ∙ ap (clock_after p) made

  profile_are : q.session.profile ≡ p.session.profile
  unfolding next_run did
  profile_are = profile_stays p.session c

  -- it is kept, and what was forgotten stays so
  starts : (start_of base q ≡ from) × (kept_of q ≡ x ∷ es)
  starts =
      let s = starts_more base first p v q x gone_are left_are in (s.0, s.1)

  logs_are : logs_made q.marks ≡ m
  logs_are = ap logs_made marks_are ∙ logs_more was e p.marks

  -- nothing can be redone after a change
  none_redoable : redoable base first q ≡ []
  unfolding next_run did since_after
  none_redoable = ap₂ (λ (n : ℕ) (ms : List Mark). off n ms []) (ap (since_after p.undos p.since) made) marks_are ∙ off_change v.strokes x

  q_is : q.session ≡ by_history from q.session (x ∷ es) (first + m) []
  q_is = w.is ∙ (λ i. by_history (starts.0 i) q.session (starts.1 i) (first + logs_are i) (none_redoable i))

  q_sane : Sane from q.session.profile (x ∷ es) (first + m) []
  q_sane = subst (λ (T : Type 0). T) (λ i. Sane (starts.0 i) q.session.profile (starts.1 i) (first + logs_are i) (none_redoable i)) w.sane

  -- the redo store holds the change as it was made
  now_is : timed q.session.timer x ≡ e
  now_is = ap (λ (t : Timer). timed t x) timer_are ∙ timed_again was e

  back_is : (undo_call q.session).session ≡ by_history from (undone from q.session w.clock x es (first + m) [] q_sane) es (first + m) (e ∷ [])
  unfolding done
  back_is =
      ap (λ (s : Session). (undo_call s).session) q_is ∙ ap (λ (u : Said). u.session) (undo_history from q.session w.clock x es (first + m) [] q_sane)
      ∙ ap (λ (y : Edit). by_history from (undone from q.session w.clock x es (first + m) [] q_sane) es (first + m) (y ∷ [])) now_is

  -- and the timer is as it was before the change
  timer_back : (undone from q.session w.clock x es (first + m) [] q_sane).timer ≡ was
  unfolding with_timer inverse_of timed
  timer_back =
      after_back q.session.timer (applied from es) x.change ∙ ap (λ (t : Timer). timer_after t (timed_change was e.change)) timer_are ∙ timer_again was e.change

  own_is : by_history from (undone from q.session w.clock x es (first + m) [] q_sane) es (first + m) (e ∷ []) ≡ by_history from p.session es (first + m) (e ∷ [])
  unfolding with_timer
  own_is = own_timer from p.session (undone from q.session w.clock x es (first + m) [] q_sane) es (first + m) (e ∷ []) timer_back profile_are

  back_sane : Sane from p.session.profile es (first + m) (e ∷ [])
  back_sane = subst (λ (T : Type 0). T) (λ i. Sane from (profile_are i) es (first + m) (now_is i ∷ [])) (undone_sane from q.session w.clock x es (first + m) [] q_sane)

  -- the redo store holds that change alone
  one_redoable : padded (flat (e ∷ [])) ≡ pasted 0 (entry_bytes e) (replicate 2048 0)
  unfolding flat padded
  one_redoable = sym (paste_padded [] (entry_bytes e) (omega (arith, back_sane.fits)))

  one_long : length (flat (e ∷ [])) ≡ entry_len e
  unfolding flat
  one_long = flat_length After e [] (again_stored from p.session.profile (first + m) es (e ∷ []) back_sane.again) ∙ zero-add (entry_len e)

  left_so : leaves (by_history from p.session es (first + logs_made p.marks) (redoable base first p)) e ≡ by_history from p.session es (first + m) (e ∷ [])
  unfolding leaves by_history standing by_way renewed
  left_so = λ i.
      renewed p.session (applied from es) (add_assoc first (logs_made p.marks) (made_of e.change) i) (padded (flat (backs from es))) (length (flat (backs from es)))
      (sym one_redoable i) (sym one_long i)

  next_was : p.session.next ≡ first + logs_made p.marks
  next_was = next_is base first p v

  pub trace_free : (said q.session undo).session ≡ leaves p.session e
  unfolding said asks buffer_of move_call
  trace_free = back_is ∙ own_is ∙ sym left_so ∙ ap (λ (s : Session). leaves s e) (sym v.is)

  -- a redo then brings the change back: the session is the one after it, all of it
  pub redo_brings_back : (said (said q.session undo).session redo).session ≡ q.session
  unfolding said asks buffer_of move_call done with_timer
  redo_brings_back =
      ap (λ (s : Session). (redo_call s).session) (back_is ∙ own_is)
      ∙ ap (λ (u : Said). u.session) (redo_history from p.session v.clock e es (first + m) [] back_sane)
      ∙ own_timer from q.session (redone from p.session v.clock e es (first + m) [] back_sane) (x ∷ es) (first + m) [] (sym timer_are) (sym profile_are)
      ∙ sym q_is

  -- ---- later

  abbrev after : Run
  after = next_run q undo

  undo_done : deed q.session undo ≡ strikes
  unfolding deed asks deed_by by_way
  undo_done = ap (λ (s : Session). deed_by q.session (move_asks Before s)) q_is ∙ ap (deed_by q.session) (undo_asks from q.session w.clock x es (first + m) [] q_sane)

  left_after_is : left after.marks ≡ left p.marks
  unfolding next_run did left_after
  left_after_is =
      left_after_lem q.session.timer q.undos q.marks (deed q.session undo) (not_redo q.session undo tt) ∙ ap₂ (left_after q.session.timer) left_are undo_done

  logs_after : logs_made after.marks ≡ m
  unfolding next_run did made_after
  logs_after = made_after_lem q.session.timer q.undos q.marks (deed q.session undo) (not_redo q.session undo tt) ∙ ap₂ made_after logs_are undo_done

  gone_after_lem : after.gone ≡ p.gone
  unfolding next_run did gone_after
  gone_after_lem = ap (gone_after q.gone) undo_done ∙ gone_are

  timer_after_lem : after.session.timer ≡ was
  unfolding clock_after given_back timed
  timer_after_lem =
      clock_is base first q w undo tt ∙ ap (clock_after q) undo_done ∙ ap (given_back q.session.timer) left_are
      ∙ ap (λ (t : Timer). timer_after t (timed_change was e.change)) timer_are ∙ timer_again was e.change

  profile_after : after.session.profile ≡ p.session.profile
  unfolding next_run did
  profile_after = profile_stays q.session undo ∙ profile_are

  -- a change that made no log: every later reply is as if nobody had tried, as long as nobody redoes
  pub later_as_before : made_of e.change ≡ 0 → (cs : List Call) → AllButRedo cs → AsBefore p.session (said q.session undo).session cs
  unfolding next_run did
  later_as_before z cs h =
      as_before base first cs h p after (record {
        inv = v;
        inv' = next_inv base first q w undo tt;
        left_is = left_after_is;
        made_is = logs_after ∙ ap (λ (k : ℕ). logs_made p.marks + k) z ∙ add-zero (logs_made p.marks);
        gone_is = gone_after_lem;
        timer_is = timer_after_lem;
        profile_is = profile_after;
      })

  -- a change that made a log: from then on both worlds, the one where nobody tried and this one, are alike but for ids

  abbrev k : ℕ
  k = first + logs_made p.marks

  k_low : 1 ≤ k
  k_low = omega (arith, v.counts)

  -- the ids in the record that the forgotten changes gave lie below k
  start_still : shifted_record k from ≡ from
  start_still = record_stays k from k_low (start_ok from p.session.profile k es v.sane.ok v.sane.kept)

  -- k: a watch-only session takes clears alone, which make no log
  is_full : made_of e.change ≡ 1 → p.session.profile ≡ 0
  unfolding timed
  is_full one =
      ⊎_elim (λ z. sym profile_are ∙ z) (λ kind. absurd (omega (arith, one, timed_made was e.change, clear_makes_none x.change kind))) q_sane.kept.0.lets

  beside : made_of e.change ≡ 1 → Beside base first k k_low p after
  beside one =
      record {
        inv = v;
        inv' = next_inv base first q w undo tt;
        still = start_still;
        left_is =
            left_after_is ∙ sym (two_parts p.gone (left p.marks))
            ∙ ap (λ (l : List Edit). l ++ oldest_of p.gone (left p.marks)) (sym (edits_stay from p.session.profile k es k_low v.sane.kept));
        gone_is = gone_after_lem;
        made_is = logs_after ∙ ap (λ (n : ℕ). logs_made p.marks + n) one ∙ add-one (logs_made p.marks);
        timer_is = timer_after_lem;
        full = is_full one;
        full' = profile_after ∙ is_full one;
        from_k = omega arith;
      }

  pub later_alike : made_of e.change ≡ 1 → (ws : List (Wish p.session.next))
      → AsIf p.session.next p.session (said q.session undo).session ws
  unfolding next_run did
  later_alike =
      subst (λ (i : ℕ). made_of e.change ≡ 1 → (ws : List (Wish i)) → AsIf i p.session after.session ws) (sym next_was)
      (λ one ws. as_if base first k k_low ws p after (beside one))

-- ---- redo after undo gives back the session from before the undo

-- the newest change of a history undone and redone
module _ (from : Record) (s : Session) (clock : Clock s.timer) (x : Edit) (xs : List Edit) (n : ℕ) (rs : List Edit) (sane : Sane from s.profile (x ∷ xs) n rs) where
  abbrev back : Session
  back = undone from s clock x xs n rs sane

  abbrev held : Edit
  held = timed s.timer x

  abbrev later : Sane from s.profile xs n (held ∷ rs)
  later = undone_sane from s clock x xs n rs sane

  abbrev then : Clock back.timer
  then = undone_clock from s clock x xs n rs sane

  there_and_back : (redo_call (undo_call (by_history from s (x ∷ xs) n rs)).session).session ≡ by_history from s (x ∷ xs) n rs
  unfolding done with_timer
  there_and_back =
      ap (λ (u : Said). (redo_call u.session).session) (undo_history from s clock x xs n rs sane)
      ∙ ap (λ (u : Said). u.session) (redo_history from back then held xs n rs later)
      ∙ own_timer from s (redone from back then held xs n rs later) (timed back.timer held ∷ xs) n rs (timer_put_back s.timer (applied from xs) x) refl
      ∙ ap (λ (y : Edit). by_history from s (y ∷ xs) n rs) (change_put_back s.timer (applied from xs) x)

module _ (base : Record) (first : ℕ) (p : Run) (v : Inv base first p) (accepted : (undo_call p.session).answer ≡ 0) where
  some_left : kept_of p ≡ [] → ⊥
  unfolding undo_answer
  some_left e = omega (arith, accepted, undo_answer_lem base first p v ∙ ap undo_answer e)

  pub redo_undone : (redo_call (undo_call p.session).session).session ≡ p.session
  redo_undone = go (kept_of p) refl
    where
      go : (x : List Edit) → kept_of p ≡ x → (redo_call (undo_call p.session).session).session ≡ p.session
      go [] e = absurd (some_left e)
      go (x ∷ xs) e =
          let s = p.session in
          let n = first + logs_made p.marks in
          let rs = redoable base first p in
          let from = start_of base p in
          let is : s ≡ by_history from s (x ∷ xs) n rs = v.is ∙ ap (λ (l : List Edit). by_history from s l n rs) e in
          let sane = subst (λ (l : List Edit). Sane from s.profile l n rs) e v.sane in
          ap (λ (t : Session). (redo_call (undo_call t).session).session) is ∙ there_and_back from s v.clock x xs n rs sane ∙ sym is
