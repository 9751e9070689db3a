-- What each accepted command makes of the session, and the change that demand 3 counts. Assumes nothing.
use Rattle.std.specs.Prelude.{ℕ, ◌+◌, ◌<◌, Bool, true, false, ◌↔◌, ◌⊎◌, ◌≡◌, List, [], ◌∷◌, length, get_or, replicate, Option, Some, None}
use Rattle.std.proofs.Math.Bool.{not}
use Rattle.std.proofs.lemmas.Bool.{false≢true}
use Rattle.std.proofs.Common.{true≢false, ⊎_elim, ap, ◌∙◌, add-zero, arith}
use Rattle.std.proofs.Math.Path.{refl, sym, subst}
use Rattle.wire.specs.Wire.{Bytes}
use Rattle.wire.specs.Conditions.{◌and◌}
use Rattle.wire.proofs.laws.Cases.{else_b, else_eq, else_le, by_both}
use Rattle.record.specs.declared.Log.{Log}
use Rattle.record.specs.declared.Record.{Record}
use Rattle.change.specs.Logs.{pending_of, remove_at, insert_at, pends_at}
use Rattle.change.specs.With.{with_state, with_logs}
use Rattle.std.specs.Option.{unwrap_or}
use Rattle.change.specs.Change.{clear_of, reset_of, put_with, put_of, put_after, made_by, no_tables, back_of, kind_of, tables_for, inverse_of, timed_change, timed, takes_back, timer_after}
use Rattle.change.specs.declared.Change.{Change}
use Rattle.change.specs.declared.Tables.{Tables}
use Rattle.change.specs.declared.Edit.{Edit}
use Rattle.entries.specs.Entries.{bytes_of}
use Rattle.journal.specs.Bytes.{body_of, entry_for, entry_bytes}
use Rattle.journal.specs.Add.{end_of}
use Rattle.journal.proofs.laws.Ends.{length_entry, added}
use Rattle.journal.specs.declared.Way.TheVariants.{Before, After}
use Rattle.journal.specs.Ways.{by_way}
use Rattle.packet.specs.Packet.{data_of}
use Rattle.occ.specs.declared.Verdict.TheVariants.{Make}
use Rattle.occ.proofs.laws.Exactly.{found_there}
use Rattle.sbe.specs.Mailbox.{response_bytes}
use Rattle.sbe.specs.Conditions.{Changes, Plainly}
use Rattle.session.specs.Session.{renewed, with_timer, made_of, carried_to, carried_of}
use Rattle.session.specs.Road.{Asks, refuses, tells, makes, moves, forgets, passes, opens, Said, kept, done, carried_says, settled}
use Rattle.session.proofs.laws.Session.{Formed, formed}
use Rattle.session.proofs.laws.Timer.{carried_timer}
use Rattle.session.specs.declared.Session.{Session}
use Rattle.occ_call.specs.Occ as occs
use Rattle.sbe_call.specs.Sbe as sbes
use Rattle.links.specs.Typed.{TypedSession}
use Rattle.links.proofs.laws.Made.{Made}
use Rattle.promises.specs.Calls.{Call, occ, sbe, buffer_of, asks, said}
use Rattle.promises.specs.History.{Deed, keeps, adds, strikes, unstrikes, drops, ticks, adding, deed_by, deed}
use Rattle.promises.specs.Demand1.{OccDue}
use Rattle.promises.specs.Demand2.{at_front, NotPoll, success_reply, OccSucceeds, Served, SbeSucceeds}
use Rattle.promises.specs.Effects.{becomes, OccEffect, poll, clear_log, set_state, set_role, set_caps, set_throttles, set_thermal, set_user, reset, reset_logged, SbeEffect, start_deadman, stop_deadman, set_mask, start_timer, stop_timer, exit_contained, put_ring, read_seeprom, set_areas}
use Rattle.promises.proofs.laws.Asked.{data_bytes, next_some, occ_made, sbe_made}
use Rattle.promises.proofs.laws.WellFormed.{back_writable, room, session_is}
use Rattle.promises.proofs.laws.OccAsks as occ-asks
use Rattle.promises.proofs.laws.OccWays as occ-ways
use Rattle.promises.proofs.laws.OccDemands.{ill_well, not_refused, polled_type, made_judged, made_as, made_type, done_is, heard_exactly}
use Rattle.promises.proofs.laws.Served.{change_granted, plain_exactly, never_changes}
use Rattle.promises.proofs.laws.SbeDemands as sbe-demands
use Rattle.promises.proofs.laws.Replies.{front_is}

-- ---- a change carried out

module _ (s : Session) (f : Formed s) (typed : TypedSession s) (e : Edit) (made : Made s.held s.next e.tables e.change) (fits : (carried_of s e).full ≡ false) where
  abbrev back : Edit
  back = takes_back s.held s.timer e

  -- with the timer that a timer command sets
  abbrev ticking : Session
  ticking = with_timer s (timer_after s.timer e.change)

  carried_becomes : (carried_of s e).session ≡ becomes ticking (put_after s.held e) (s.next + made_of e.change) (entry_bytes back)
  unfolding with_timer
  carried_becomes =
      let w = back_writable s f typed e made fits in
      let j = added Before back s.used s.journal w (room s f typed e made fits) in
      session_is s f typed e made fits
      ∙ (λ i. renewed ticking (put_after s.held e) (s.next + made_of e.change) (j i) (s.used + sym (length_entry Before back w) i) (replicate 2048 0) 0)

  becomes_row : (t : Session) (held : Record) (next : ℕ) (entry : List ℕ) → ticking ≡ t → put_after s.held e ≡ held → s.next + made_of e.change ≡ next → entry_bytes back ≡ entry
      → (carried_of s e).session ≡ becomes t held next entry
  becomes_row t held next entry o p q r = carried_becomes ∙ (λ i. becomes (o i) (p i) (q i) (r i))

-- ---- OCC

module _ (s : Session) (f : Formed s) (typed : TypedSession s) where
  abbrev r : Record
  r = s.held

  some_next : s.next ≡ 0 → ⊥
  some_next z = omega (arith, z, next_some s.held s.next f.record_ok_lem)

  -- a cleared log that pends leaves; a reset with a log that has room makes it, and draws one id
  cleared : (place : ℕ) (log : Log) → pends_at place log r.logs ≡ true → clear_of r place log ≡ Some (with_logs r (remove_at place r.logs))
  unfolding clear_of
  cleared place log h = sym (else_b _ _ (ap not h) refl)

  logged : (reason : ℕ) → pending_of r.logs < 4
      → reset_of r (record { id = s.next; reason = reason }) ≡ Some (with_logs (with_state r 1) (insert_at (pending_of r.logs) (record { id = s.next; reason = reason }) r.logs))
  unfolding reset_of
  logged reason h = sym (else_eq _ _ some_next (else_le _ _ h refl))

  drawn : (reason : ℕ) → made_by (record { id = s.next; reason = reason }) ≡ 1
  unfolding made_by
  drawn reason = sym (else_eq 0 1 some_next refl)

  module _ (type : ℕ) (d : List ℕ) where
    abbrev Effect : Session → Type 0
    Effect = OccEffect s type d

    module _ (ch : Change) (t : Tables) (made : Made s.held s.next t ch) (fits : (carried_of s (record { change = ch; tables = t })).full ≡ false) where
      abbrev edit : Edit
      edit = record { change = ch; tables = t }

      by_row : (held : Record) (next : ℕ) (entry : List ℕ) → timer_after s.timer ch ≡ s.timer → unwrap_or (put_with r t ch) r ≡ held → s.next + made_of ch ≡ next
          → entry_bytes (takes_back r s.timer edit) ≡ entry → Effect (becomes s held next entry) → Effect (carried_of s edit).session
      unfolding put_of with_timer
      by_row held next entry o p q x e = subst Effect (sym (becomes_row s f typed edit made fits s held next entry (ap (with_timer s) o) p q x)) e

    effect : (ch : Change) (t : Tables) → occ-asks.CommandAsks r s.next type d (Make ch) t → Made r s.next t ch
        → (fits : (carried_of s (record { change = ch; tables = t })).full ≡ false) → Effect (carried_of s (record { change = ch; tables = t })).session
    unfolding put_with made_of timer_after entry_bytes entry_for bytes_of body_of takes_back timed timed_change inverse_of back_of tables_for kind_of reset_of made_by
    effect ch t (occ-asks.clears e place is) made fits =
        by_row ch t made fits _ _ _ refl (ap (λ (x : Option Record). unwrap_or x r) (cleared _ _ made.0)) (add-zero _) refl
        (let there = found_there (get_or d 0 0) r.logs typed.held.logs place is in clear_log _ e there.0 there.1.1)
    effect ch t (occ-asks.sets_state e) made fits = by_row ch t made fits _ _ _ refl refl (add-zero _) refl (set_state e)
    effect ch t (occ-asks.sets_role e g) made fits = by_row ch t made fits _ _ _ refl refl (add-zero _) refl (set_role e g)
    effect ch t (occ-asks.sets_caps e g) made fits = by_row ch t made fits _ _ _ refl refl (add-zero _) refl (set_caps e g)
    effect ch t (occ-asks.sets_throttles e g x y) made fits = by_row ch t made fits _ _ _ refl refl (add-zero _) refl (set_throttles e g x y)
    effect ch t (occ-asks.sets_thermal e g x y) made fits = by_row ch t made fits _ _ _ refl refl (add-zero _) refl (set_thermal e g x y)
    effect ch t (occ-asks.sets_user e) made fits = by_row ch t made fits _ _ _ refl refl (add-zero _) refl (set_user e)
    effect ch t (occ-asks.resets e none) made fits = by_row ch t made fits _ _ _ refl refl (add-zero _) refl (reset e none)
    effect ch t (occ-asks.resets_logged e due low) made fits =
        by_row ch t made fits _ _ _ refl (ap (λ (x : Option Record). unwrap_or x r) (logged _ low)) (ap (λ (n : ℕ). s.next + n) (drawn (get_or d 1 0))) (ap (λ (n : ℕ). 0x08 ∷ r.state ∷ n ∷ []) (drawn (get_or d 1 0)))
        (reset_logged e due)

-- two deeds that differ
abbrev is_added : Deed → Bool
is_added keeps = false
is_added (adds e) = true
is_added strikes = false
is_added unstrikes = false
is_added (drops n) = false
is_added (ticks n) = false

abbrev is_moved : Deed → Bool
is_moved keeps = false
is_moved (adds e) = false
is_moved strikes = true
is_moved unstrikes = true
is_moved (drops n) = true
is_moved (ticks n) = true

keeps_not : (e : Edit) → keeps ≡ adds e → ⊥
keeps_not e p = false≢true (ap is_added p)

strikes_not : (e : Edit) → strikes ≡ adds e → ⊥
strikes_not e p = false≢true (ap is_added p)

unstrikes_not : (e : Edit) → unstrikes ≡ adds e → ⊥
unstrikes_not e p = false≢true (ap is_added p)

drops_not : (n : ℕ) (e : Edit) → drops n ≡ adds e → ⊥
drops_not n e p = false≢true (ap is_added p)

ticks_not : (n : ℕ) (e : Edit) → ticks n ≡ adds e → ⊥
ticks_not n e p = false≢true (ap is_added p)

pub added_not : (e : Edit) → adds e ≡ keeps → ⊥
added_not e p = false≢true (sym (ap is_added p))

pub struck_not : strikes ≡ keeps → ⊥
struck_not p = false≢true (sym (ap is_moved p))

pub unstruck_not : unstrikes ≡ keeps → ⊥
unstruck_not p = false≢true (sym (ap is_moved p))

pub dropped_not : (n : ℕ) → drops n ≡ keeps → ⊥
dropped_not n p = false≢true (sym (ap is_moved p))

pub ticked_not : (n : ℕ) → ticks n ≡ keeps → ⊥
ticked_not n p = false≢true (sym (ap is_moved p))

same_edit : (a b : Edit) → adds a ≡ adds b → a ≡ b
same_edit a b p = cc

carried_held : (s : Session) (e : Edit) → (carried_of s e).full ≡ false → (carried_of s e).session.held ≡ put_after s.held e
unfolding carried_of carried_to renewed
carried_held s e fits = go (end_of (length s.journal) s.used (takes_back s.held s.timer e)) fits
  where
    go : (x : Option ℕ) → (carried_to s e x).full ≡ false → (carried_to s e x).session.held ≡ put_after s.held e
    go (Some used) h = refl
    go None h = absurd (true≢false h)

module _ (s : Session) (typed : TypedSession s) (sender : ℕ) (c d : List ℕ) where
  abbrev OccLeft : Session → Type 0
  OccLeft = OccEffect s (get_or c 1 0) (data_of c)

  abbrev Done : Said → Type 0
  Done q = (q.answer ≡ 0) and (q.reply ≡ at_front (success_reply s c) d)

  heard_effect : Bytes c → OccDue s sender c d → (q : Said) (e : Deed) → occ-ways.Heard s sender c d q e → Done q → OccLeft q.session
  unfolding kept done
  heard_effect b p q e (occ-ways.ill_read x z) ok =
      absurd (ill_well s typed sender c d p x z ((heard_exactly s typed sender c d p q e (occ-ways.ill_read x z)).0 ok).0)
  heard_effect b p q e (occ-ways.declined z n v) ok =
      absurd (not_refused s typed sender c d p n v ((heard_exactly s typed sender c d p q e (occ-ways.declined z n v)).0 ok).0)
  heard_effect b p q e (occ-ways.polled z v) ok = poll (polled_type s typed sender c d p v)
  heard_effect b p q e (occ-ways.no_room_lem z ch v full) ok = absurd (omega (arith, ok.0))
  heard_effect b p q e (occ-ways.carried z ch v fits) ok =
      let f = formed s p.formed in
      effect s f typed (get_or c 1 0) (data_of c) ch _ (made_as s typed sender c d p ch v)
      (occ_made s.held s.worked s.next sender (get_or c 1 0) (data_of c) (data_bytes c b) f.record_ok_lem typed.held ch (made_judged s typed sender c d p ch v)) fits

  called_effect : Bytes c → (q : Said) (e : Deed) → occ-ways.Called s sender c d q e → Done q → OccLeft q.session
  unfolding kept
  called_effect b q e (occ-ways.ill_formed h) ok = absurd (omega (arith, ok.0))
  called_effect b q e (occ-ways.unknown w h) ok = absurd (omega (arith, ok.0))
  called_effect b q e (occ-ways.short_reply w k h) ok = absurd (omega (arith, ok.0))
  called_effect b q e (occ-ways.short_command w k g h) ok = absurd (omega (arith, ok.0))
  called_effect b q e (occ-ways.answered p x y h) ok = heard_effect b p x y h ok

  pub occ_effect : Bytes c → OccSucceeds s sender c d → OccLeft (occs.occ_call s sender c d).session
  unfolding OccSucceeds
  occ_effect b ok = called_effect b _ _ (occ-ways.called s sender c d) ok

  -- ---- the change that is counted

  abbrev Adds : Deed → Type 0
  Adds e = (x : Edit) × (e ≡ adds x)

  kept_never : {P : Type 0} → Adds keeps → P
  kept_never a = absurd (keeps_not a.0 a.1)

  called_deed : (q : Said) (e : Deed) → occ-ways.Called s sender c d q e → Adds e ↔ (Done q and NotPoll c)
  unfolding kept done
  called_deed q e (occ-ways.ill_formed h) = (kept_never, λ x. absurd (omega (arith, x.0.0)))
  called_deed q e (occ-ways.unknown w h) = (kept_never, λ x. absurd (omega (arith, x.0.0)))
  called_deed q e (occ-ways.short_reply w k h) = (kept_never, λ x. absurd (omega (arith, x.0.0)))
  called_deed q e (occ-ways.short_command w k g h) = (kept_never, λ x. absurd (omega (arith, x.0.0)))
  called_deed q e (occ-ways.answered p y g (occ-ways.ill_read n z)) =
      (kept_never, λ x. absurd (ill_well s typed sender c d p n z ((heard_exactly s typed sender c d p y g (occ-ways.ill_read n z)).0 x.0).0))
  called_deed q e (occ-ways.answered p y g (occ-ways.declined z n v)) =
      (kept_never, λ x. absurd (not_refused s typed sender c d p n v ((heard_exactly s typed sender c d p y g (occ-ways.declined z n v)).0 x.0).0))
  called_deed q e (occ-ways.answered p y g (occ-ways.polled z v)) = (kept_never, λ x. absurd (x.1 (polled_type s typed sender c d p v)))
  called_deed q e (occ-ways.answered p y g (occ-ways.no_room_lem z ch v full)) = (kept_never, λ x. absurd (omega (arith, x.0.0)))
  called_deed q e (occ-ways.answered p y g (occ-ways.carried z ch v fits)) =
      let n = made_type s typed sender c d p ch v in
      (λ a. ((refl, done_is s typed sender c d p n), n), λ x. (occ-ways.edit s sender c d ch, refl))

  pub occ_deed : ((x : Edit) × (deed s (occ sender c d) ≡ adds x)) ↔ (OccSucceeds s sender c d and NotPoll c)
  unfolding OccSucceeds
  occ_deed = called_deed _ _ (occ-ways.called s sender c d)

-- ---- SBE

module _ (s : Session) (typed : TypedSession s) (r d m x : List ℕ) where
  module _ (f : Formed s) (ch : Change) (made : Made s.held s.next no_tables ch) (fits : (carried_of s (sbe-demands.edit ch)).full ≡ false) where
    by_request : (t : Session) (held : Record) (entry : List ℕ) → with_timer s (timer_after s.timer ch) ≡ t → unwrap_or (put_with s.held no_tables ch) s.held ≡ held → s.next + made_of ch ≡ s.next
        → entry_bytes (takes_back s.held s.timer (sbe-demands.edit ch)) ≡ entry → SbeEffect s r (becomes t held s.next entry) → SbeEffect s r (carried_of s (sbe-demands.edit ch)).session
    unfolding put_of
    by_request t held entry o p q z e = subst (SbeEffect s r) (sym (becomes_row s f typed (sbe-demands.edit ch) made fits t held s.next entry o p q z)) e

  request_effect : (f : Formed s) (ch : Change) → sbe-demands.RequestAsks r ch → Made s.held s.next no_tables ch
      → (fits : (carried_of s (sbe-demands.edit ch)).full ≡ false) → SbeEffect s r (carried_of s (sbe-demands.edit ch)).session
  unfolding put_with made_of with_timer timer_after entry_bytes entry_for bytes_of body_of takes_back timed timed_change inverse_of back_of tables_for kind_of
  request_effect f ch (sbe-demands.starts n e) made fits = by_request f ch made fits _ _ _ refl refl (add-zero _) refl (start_deadman n e)
  request_effect f ch (sbe-demands.stops n e) made fits = by_request f ch made fits _ _ _ refl refl (add-zero _) refl (stop_deadman n e)
  request_effect f ch (sbe-demands.masks n) made fits = by_request f ch made fits _ _ _ refl refl (add-zero _) refl (set_mask n)
  request_effect f ch (sbe-demands.starts_timer n e) made fits = by_request f ch made fits _ _ _ refl refl (add-zero _) refl (start_timer n e)
  request_effect f ch (sbe-demands.stops_timer n e) made fits = by_request f ch made fits _ _ _ refl refl (add-zero _) refl (stop_timer n e)
  request_effect f ch (sbe-demands.sets_areas n) made fits = by_request f ch made fits _ _ _ refl refl (add-zero _) refl (set_areas n)

  -- nothing but the response, or a read
  plain_effect : Plainly r ⊎ Served r m x → SbeEffect s r s
  plain_effect = ⊎_elim (⊎_elim (λ a. exit_contained a.0) (λ a. put_ring a.names)) (λ a. read_seeprom a.0.0)

  abbrev Responded : Said → Type 0
  Responded q = (q.answer ≡ 0) and (q.reply ≡ at_front (response_bytes 0x00 0x00 r) d)

  called_request : Bytes r → (q : Said) (e : Deed) → sbe-demands.Called s typed r d m x q e → Responded q → SbeEffect s r q.session
  unfolding kept done
  called_request b q e (sbe-demands.ill_formed h) ok = absurd (omega (arith, ok.0))
  called_request b q e (sbe-demands.short_reply w h) ok = absurd (omega (arith, ok.0))
  called_request b q e (sbe-demands.short_request w g h) ok = absurd (omega (arith, ok.0))
  called_request b q e (sbe-demands.answered p y g (sbe-demands.declined why v)) ok = absurd (sbe-demands.told_apart s typed r d m x why v (sym (front_is _ d) ∙ ok.1))
  called_request b q e (sbe-demands.answered p y g (sbe-demands.plain v)) ok = plain_effect ((plain_exactly s r m x).0 v)
  called_request b q e (sbe-demands.answered p y g (sbe-demands.no_room_lem ch v full)) ok = absurd (omega (arith, ok.0))
  called_request b q e (sbe-demands.answered p y g (sbe-demands.carried ch v fits)) ok =
      let w = (change_granted s r m x ch v).0 in request_effect (formed s p.formed) ch (sbe-demands.asks r ch w) (sbe_made s.held s.next r b ch w) fits

  pub sbe_effect : Bytes r → SbeSucceeds s r d m x → SbeEffect s r (sbes.sbe_call s r d m x).session
  unfolding SbeSucceeds
  sbe_effect b ok = called_request b _ _ (sbe-demands.called s typed r d m x) ok

  none_added : {P : Type 0} → (c : Edit) × (keeps ≡ adds c) → P
  none_added a = absurd (keeps_not a.0 a.1)

  request_deed : (q : Said) (e : Deed) → sbe-demands.Called s typed r d m x q e → ((c : Edit) × (e ≡ adds c)) ↔ (Responded q and Changes r)
  unfolding kept done
  request_deed q e (sbe-demands.ill_formed h) = (none_added, λ z. absurd (omega (arith, z.0.0)))
  request_deed q e (sbe-demands.short_reply w h) = (none_added, λ z. absurd (omega (arith, z.0.0)))
  request_deed q e (sbe-demands.short_request w g h) = (none_added, λ z. absurd (omega (arith, z.0.0)))
  request_deed q e (sbe-demands.answered p y g (sbe-demands.declined why v)) =
      (none_added, λ z. absurd (sbe-demands.told_apart s typed r d m x why v (sym (front_is _ d) ∙ z.0.1)))
  request_deed q e (sbe-demands.answered p y g (sbe-demands.plain v)) = (none_added, λ z. absurd (never_changes s r m x v z.1))
  request_deed q e (sbe-demands.answered p y g (sbe-demands.no_room_lem ch v full)) = (none_added, λ z. absurd (omega (arith, z.0.0)))
  request_deed q e (sbe-demands.answered p y g (sbe-demands.carried ch v fits)) =
      (λ a. ((refl, front_is _ d), (sbe-demands.is_asked s r m x ch v).0), λ z. (sbe-demands.edit ch, refl))

  -- what is answered without a change counts as nothing
  pub sbe_deed : ((c : Edit) × (deed s (sbe r d m x) ≡ adds c)) ↔ (SbeSucceeds s r d m x and Changes r)
  unfolding SbeSucceeds
  sbe_deed = request_deed _ _ (sbe-demands.called s typed r d m x)

-- ---- the change that a call counts as is the one that its record and its timer show

module _ (s : Session) (x : Edit) where
  abbrev Shown : Session → Type 0
  Shown t = (t.held ≡ put_after s.held x) × (t.timer ≡ timer_after s.timer x.change)

  counted : (e : Edit) → adds e ≡ adds x → (carried_of s e).full ≡ false → Shown (carried_of s e).session
  counted e p fits =
      let same = same_edit e x p in
      (carried_held s e fits ∙ ap (λ (y : Edit). put_after s.held y) same, carried_timer s e fits ∙ ap (λ (y : Edit). timer_after s.timer y.change) same)

  abbrev Showing : Said → Deed → Type 0
  Showing q e = e ≡ adds x → Shown q.session

  asked_shown : (d : List ℕ) (a : Asks) → Showing (settled s d a) (deed_by s a)
  unfolding settled carried_says kept done deed_by adding by_way
  asked_shown d (refuses n) = λ p. absurd (keeps_not x p)
  asked_shown d (tells bell y) = λ p. absurd (keeps_not x p)
  asked_shown d (makes e bell y) = by_both Showing (carried_of s e).full (λ f p. absurd (keeps_not x p)) (λ f p. counted e p f)
  asked_shown d (moves Before at e) = λ p. absurd (strikes_not x p)
  asked_shown d (moves After at e) = λ p. absurd (unstrikes_not x p)
  asked_shown d (forgets n) = λ p. absurd (drops_not n x p)
  asked_shown d (passes n) = λ p. absurd (ticks_not n x p)
  asked_shown d opens = λ p. absurd (keeps_not x p)

  pub deed_shown : (c : Call) → deed s c ≡ adds x → Shown (said s c).session
  unfolding said deed
  deed_shown c = asked_shown (buffer_of c) (asks s c)
