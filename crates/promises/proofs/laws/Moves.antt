-- What an accepted undo or redo does: the newest entry leaves its store, and what takes it back has room in the other one. Assumes nothing.
use Rattle.std.specs.Prelude.{ℕ, ◌+◌, ◌≤◌, true, ◌≡◌, [], ◌∷◌, length, take, Option}
use Rattle.std.proofs.Math.Path.{refl, sym}
use Rattle.std.proofs.Common.{ap, subst, ◌∙◌, arith}
use Rattle.wire.specs.Conditions.{◌and◌}
use Rattle.wire.specs.Wire.{pasted}
use Rattle.record.specs.declared.Record.{Record}
use Rattle.record.specs.declared.Timer.{Timer}
use Rattle.change.specs.Change.{kind_of, put_after, back_of, inverse_of, timed, takes_back, timer_after}
use Rattle.change.specs.declared.Change.{Change}
use Rattle.change.specs.declared.Change.TheVariants.{SetTimer}
use Rattle.change.specs.declared.Edit.{Edit}
use Rattle.formed.specs.Formed.{timer_ok, change_ok, record_ok, edit_ok}
use Rattle.formed.proofs.laws.Formed.{sound, inverse_ok}
use Rattle.entries.specs.Entries.{body_len, bytes_of, written}
use Rattle.entries.proofs.laws.Entries.{scan_proper}
use Rattle.journal.specs.Bytes.{entry_for, entry_bytes}
use Rattle.journal.specs.Read.{values_ok, entry_ok}
use Rattle.journal.specs.Add.{entry_len}
use Rattle.journal.specs.Ways.{by_way, other}
use Rattle.journal.specs.declared.Way.{Way}
use Rattle.journal.specs.declared.Way.TheVariants.{Before, After}
use Rattle.journal.proofs.laws.Bodies.{Writable}
use Rattle.journal.proofs.laws.Ends.{length_entry}
use Rattle.journal.proofs.laws.Says.{Holds, Says, found_says}
use Rattle.session.specs.Session.{entries_in, only_clears, well_formed, renewed, with_timer}
use Rattle.session.specs.Road.{Asks, moves, store_of, used_of, lessened, grown, grown_to, session_moved, Said, kept, done, settled}
use Rattle.session.proofs.laws.Session.{Store, Profile, Formed, formed, formed_ok}
use Rattle.session.proofs.laws.Watch.{profile_kept}
use Rattle.session.specs.declared.Session.{Session}
use Rattle.undo_call.specs.Undo.{move_call}
use Rattle.undo_call.proofs.laws.NoneLeft.{none_zero}
use Rattle.links.specs.Typed.{TypedSession}
use Rattle.change.proofs.laws.Timed.{kind_of_back, timed_kind, timed_cases, by_timer, timer_kept}
use Rattle.links.proofs.laws.Links.{writable_back}
use Rattle.links.proofs.laws.Entry.{entry_ok_lem}
use Rattle.promises.specs.Demand2.{Newest, GoesIn}
use Rattle.promises.proofs.laws.Moved.{entry_moved}
use Rattle.promises.specs.Effects.{zeroed_from, moves_to, entry_back, MoveEffect}
use Rattle.promises.proofs.laws.FormedStores.{all_good, all_parts, pasted_clears, more_pasted, cut_zeroed, used_is, one_less, less_clears, store_of_lem, both_used, long_store}
use Rattle.promises.proofs.laws.UndoDemands.{Called, ill_formed, empty, barred, goes, called}

-- ---- beside a timer that passes

-- a change written with it passes where it passes without
timed_ok : (t : Timer) → timer_ok t ≡ true → (e : Edit) → edit_ok e ≡ true → edit_ok (timed t e) ≡ true
unfolding timed edit_ok change_ok
timed_ok t ok e = timed_cases t (λ (a b : Change). change_ok e.tables a ≡ true → change_ok e.tables b ≡ true) (λ x h. ok) (λ ch n h. h) e.change

-- where only such timers are set, the one after a change passes
pub timer_after_ok : (P : Change → Type 0) → ((x : Timer) → P (SetTimer x) → timer_ok x ≡ true) → (t : Timer) → timer_ok t ≡ true → (ch : Change) → P ch → timer_ok (timer_after t ch) ≡ true
unfolding timer_after
timer_after_ok P f t ok = by_timer (λ (ch : Change). P ch → timer_ok (timer_after t ch) ≡ true) f (λ ch n h. ap timer_ok (timer_kept t ch n) ∙ ok)

-- ---- the session after it, store by store

module _ (s : Session) (at : ℕ) (e : Edit) (held : Record) where
  -- k: clears only, in the store that an entry leaves and in the one that it comes to
  abbrev BothClear : Way → Type 0
  BothClear w = (only_clears (entries_in at (lessened w s at)) ≡ true) × (only_clears (entries_in (grown_to w s e) (grown w s e)) ≡ true)

  stores_formed : (w : Way) → record_ok held s.next ≡ true → timer_ok (timer_after s.timer e.change) ≡ true → at + grown_to w s e ≤ 2048 → Store w (lessened w s at) at → Store (other w) (grown w s e) (grown_to w s e)
      → Profile s.profile (entries_in s.used s.journal) (entries_in s.ahead s.redo)
      → (only_clears (entries_in s.used s.journal) ≡ true → only_clears (entries_in s.ahead s.redo) ≡ true → BothClear w) → well_formed (session_moved w s at e held) ≡ true
  unfolding session_moved renewed with_timer by_way other
  stores_formed Before ok timer fit less more p clear =
      formed_ok (session_moved Before s at e held)
      (record { record_ok_lem = ok; worked_is = refl; timer_ok_lem = timer; both_fit = fit; journal = less; marks_are = refl; redo = more; profile_is = profile_kept s.profile _ _ _ _ p clear })
  stores_formed After ok timer fit less more p clear =
      formed_ok (session_moved After s at e held)
      (record {
        record_ok_lem = ok;
        worked_is = refl;
        timer_ok_lem = timer;
        both_fit = omega (arith, fit);
        journal = more;
        marks_are = refl;
        redo = less;
        profile_is = profile_kept s.profile _ _ _ _ p (λ j r. let both = clear j r in (both.1, both.0));
      })

  stores_moved : (w : Way) → lessened w s at ≡ zeroed_from at (used_of w s) (store_of w s) → grown_to w s e ≡ used_of (other w) s + length (bytes_of (entry_back s e))
      → session_moved w s at e held ≡ moves_to w (with_timer s (timer_after s.timer e.change)) held at (bytes_of (entry_back s e))
  unfolding session_moved with_timer grown entry_bytes store_of used_of by_way other
  stores_moved Before cut end = λ i. renewed (with_timer s (timer_after s.timer e.change)) held s.next (cut i) at (pasted s.ahead (bytes_of (entry_back s e)) s.redo) (end i)
  stores_moved After cut end = λ i. renewed (with_timer s (timer_after s.timer e.change)) held s.next (pasted s.used (bytes_of (entry_back s e)) s.journal) (end i) (cut i) at

  stores_used : (w : Way) → at + grown_to w s e ≡ used_of w s + used_of (other w) s → (session_moved w s at e held).used + (session_moved w s at e held).ahead ≡ s.used + s.ahead
  unfolding session_moved renewed used_of by_way other
  stores_used Before sum = sum
  stores_used After sum = omega (arith, sum)

-- k: either store
pub clear_of_lem : (s : Session) (w : Way) → only_clears (entries_in s.used s.journal) ≡ true → only_clears (entries_in s.ahead s.redo) ≡ true → only_clears (entries_in (used_of w s) (store_of w s)) ≡ true
unfolding used_of store_of by_way
clear_of_lem s Before j r = j
clear_of_lem s After j r = r

-- ---- the newest entry, and the one that takes it back

module _ (w : Way) (s : Session) (f : Formed s) (e : Edit) (n : Newest w s e) where
  abbrev at : ℕ
  at = length (written n.older)

  abbrev back : Edit
  back = takes_back s.held s.timer e

  store : Store w (store_of w s) (used_of w s)
  store = store_of_lem s f w

  -- what the entry says is of its kind, and one of the changes that its store holds
  says : (kind_of e.change ≡ n.entry.kind) × Holds w e.change
  says = subst (λ (x : Option Change). Says w n.entry.kind x) n.change (found_says w n.entry.kind n.entry.body)

  same_kind : kind_of back.change ≡ n.entry.kind
  unfolding takes_back timed inverse_of
  same_kind = timed_kind s.timer (back_of s.held e.change) ∙ kind_of_back s.held e.change ∙ says.0

  -- it and what takes it back are of one length
  sized : body_len n.entry.kind ≡ length n.entry.body
  sized = (scan_proper (take (used_of w s) (store_of w s)) (n.entry ∷ n.older) n.read).0.0

  back_long : entry_len back ≡ 1 + length n.entry.body
  back_long = omega (arith, ap body_len same_kind, sized)

  all_used : at + entry_len back ≡ used_of w s
  all_used = omega (arith, back_long, used_is w (store_of w s) (used_of w s) store n.entry n.older n.read)

  -- so both stores' used bytes stay as many as they were, and what takes it back has room
  sum_stays : at + grown_to w s e ≡ used_of w s + used_of (other w) s
  unfolding grown_to
  sum_stays = omega (arith, all_used)

  room : used_of (other w) s + entry_len back ≤ 2048
  room = omega (arith, all_used, both_used s f w)

  -- its values are ones that a well-formed record could hold
  values_pass : edit_ok e ≡ true
  unfolding edit_ok entry_ok values_ok
  values_pass =
      let good = (all_parts w n.entry n.older (all_good w (take (used_of w s) (store_of w s)) (n.entry ∷ n.older) store.reads n.read)).0 in
      sym (λ i. values_ok (n.tables i) (n.change i)) ∙ good

  back_passes : edit_ok back ≡ true
  unfolding takes_back
  back_passes = timed_ok s.timer f.timer_ok_lem (inverse_of s.held e) (inverse_ok s.held s.next e (sound f.record_ok_lem) values_pass)

  timer_passes : timer_ok (timer_after s.timer e.change) ≡ true
  unfolding edit_ok change_ok
  timer_passes = timer_after_ok (λ (ch : Change). change_ok e.tables ch ≡ true) (λ x h. h) s.timer f.timer_ok_lem e.change values_pass

  module _ (typed : TypedSession s) where
    writable : Writable (other w) back.tables back.change
    unfolding takes_back timed inverse_of
    writable = writable_back w s.held s.timer e.change typed.held typed.timer says.1

    back_bytes_lem : length (bytes_of (entry_back s e)) ≡ entry_len back
    unfolding entry_bytes
    back_bytes_lem = length_entry (other w) back writable

    less : Store w (lessened w s at) at
    unfolding lessened
    less = one_less w (store_of w s) (used_of w s) store n.entry n.older n.read

    more : Store (other w) (grown w s e) (grown_to w s e)
    unfolding grown grown_to
    more =
        more_pasted (other w) (store_of (other w) s) (used_of (other w) s) (store_of_lem s f (other w)) back writable (entry_ok_lem (other w) back writable back_passes)
        (omega (arith, room, long_store s typed (other w)))

    -- k: the entry that comes has the kind of the one that goes
    both_clear : only_clears (entries_in s.used s.journal) ≡ true → only_clears (entries_in s.ahead s.redo) ≡ true → BothClear s at e (put_after s.held e) w
    unfolding lessened grown grown_to entry_for
    both_clear j r =
        let from = less_clears w (store_of w s) (used_of w s) store n.entry n.older n.read (clear_of_lem s w j r) in (
          from.1,
          pasted_clears (other w) (store_of (other w) s) (used_of (other w) s) (store_of_lem s f (other w)) back writable (entry_ok_lem (other w) back writable back_passes)
              (omega (arith, room, long_store s typed (other w))) (same_kind ∙ from.0) (clear_of_lem s (other w) j r),
        )

    pub moved_formed : record_ok (put_after s.held e) s.next ≡ true → well_formed (settled s [] (moves w at e)).session ≡ true
    unfolding settled done
    moved_formed ok = stores_formed s at e (put_after s.held e) w ok timer_passes (omega (arith, sum_stays, both_used s f w)) less more f.profile_is both_clear

    moved_effect : GoesIn s.held e.change → MoveEffect w s (settled s [] (moves w at e))
    unfolding settled done lessened grown_to
    moved_effect goes_in =
        let low : at ≤ used_of w s = omega (arith, all_used) in
        record {
          edit = e;
          newest = n;
          kind_is = says.0;
          moved = bytes_of (entry_back s e);
          moved_is = entry_moved s.held s.timer w n.entry.kind n.entry.body e n.change goes_in;
          same_length = back_bytes_lem ∙ back_long;
          session_is = stores_moved s at e (put_after s.held e) w (cut_zeroed (store_of w s) at (used_of w s) low store.fits) (ap (λ (m : ℕ). used_of (other w) s + m) (sym back_bytes_lem));
        }

    bytes_fit : used_of (other w) s + length (bytes_of (entry_back s e)) ≤ 2048
    bytes_fit = omega (arith, back_bytes_lem, room)

-- ---- the calls

module _ (w : Way) (s : Session) (typed : TypedSession s) where
  effect : (a : Asks) → Called w s a → (settled s [] a).answer ≡ 0 → MoveEffect w s (settled s [] a)
  unfolding settled kept
  effect a (ill_formed h) z = absurd (omega (arith, z))
  effect a (empty x h) z = absurd (none_zero w z)
  effect a (barred x e n bar) z = absurd (omega (arith, z))
  effect a (goes x e n u) z = moved_effect w s (formed s x) e n typed u.0

  pub move_effect : (move_call w s).answer ≡ 0 → MoveEffect w s (move_call w s)
  unfolding move_call
  move_effect = effect _ (called w s)

  abbrev UsedStay : Said → Type 0
  UsedStay q = q.session.used + q.session.ahead ≡ s.used + s.ahead

  used_stay : (a : Asks) → Called w s a → UsedStay (settled s [] a)
  unfolding settled kept done
  used_stay a (ill_formed h) = refl
  used_stay a (empty x h) = refl
  used_stay a (barred x e n bar) = refl
  used_stay a (goes x e n u) = stores_used s (length (written n.older)) e (put_after s.held e) w (sum_stays w s (formed s x) e n)

  pub room_left : well_formed s ≡ true → (e : Edit) → Newest w s e
      → (used_of (other w) s + length (bytes_of (entry_back s e)) ≤ 2048) and ((move_call w s).session.used + (move_call w s).session.ahead ≡ s.used + s.ahead)
  unfolding move_call
  room_left x e n = (bytes_fit w s (formed s x) e n typed, used_stay _ (called w s))
