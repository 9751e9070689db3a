-- Laws of judged commands that other crates build on: what is known of a change that a command makes. Assumes nothing.
use Rattle.std.specs.Prelude.{ℕ, ◌<◌, ◌≤◌, Bool, true, cond, not, ◌≡◌, List, Option, ◌⊎◌, eqb, length, drop, replicate, Ok, Err, Some, None}
use Rattle.packet.specs.Packet.{Checked}
use Rattle.packet.specs.declared.Status.{Status}
use Rattle.packet.specs.declared.Status.TheVariants.{InvalidCommand, InvalidLength, InvalidData}
use Rattle.std.specs.Option.{IfSome}
use Rattle.std.proofs.lemmas.Option.{IfSome_then}
use Rattle.std.proofs.Math.Path.{refl, subst}
use Rattle.std.specs.Option.{unwrap_or}
use Rattle.std.proofs.Common.{sym, ◌∙◌, ⊎_elim, le-leb}
use Rattle.std.proofs.Math.Logic.{inl, inr}
use native.Mathlib.Omega.{arith}
use Rattle.std.proofs.lemmas.Bool.{not-false}
use Rattle.std.proofs.Math.ListN.{get_or}
use Rattle.wire.proofs.laws.Cases.{else_eq, cond_elim, cond_cases}
use Rattle.record.specs.Record.{no_log, no_throttles}
use Rattle.record.specs.declared.Log.{Log}
use Rattle.record.specs.declared.Caps.{Caps}
use Rattle.record.specs.declared.Throttles.{Throttles}
use Rattle.record.specs.declared.Record.{Record}
use Rattle.record.specs.declared.Worked.{Worked}
use Rattle.change.specs.Logs.{pending_of, find_of, pends_at}
use Rattle.change.specs.Change.{no_tables}
use Rattle.change.specs.declared.Tables.{Tables}
use Rattle.change.specs.declared.Change.{Change}
use Rattle.change.specs.declared.Change.TheVariants.{Clear, Unclear, SetState, SetRole, SetCaps, SetUser, SetThermal, SetThrottles, Reset, Unreset, SetMask, SetDeadman, SetAreas, SetTimer}
use Rattle.formed.specs.Formed.{state_ok, flag_ok, role_ok, caps_ok, thermal_ok, thermal_rule, throttles_ok, absent_zero, next_ok, reason_ok, record_ok, made_ok, change_ok}
use Rattle.formed.proofs.laws.Formed.{Sound, sound, pends_cleared}
use Rattle.sets.proofs.laws.Sets.{sets_formed, frus_formed}
use Rattle.occ.specs.declared.Verdict.{Verdict}
use Rattle.occ.specs.declared.Verdict.TheVariants.{Refuse, Poll, Make}
use Rattle.occ.specs.declared.Judged.{Judged}
use Rattle.occ.specs.Commands.{poll_verdict, clear_verdict, state_verdict, role_verdict, caps_verdict, user_verdict, log_due, reset_verdict}
use Rattle.occ.specs.Judge.{plainly, sets_status, sets_read, read_judged, throttles_made, throttles_read, throttles_judged, thermal_made, thermal_read, thermal_judged, format_judged, configure_judged, type_judged, judge_of}
use Rattle.occ.specs.Open.{open_to}
use Rattle.wire.proofs.laws.Chains.{holds, eq_holds, le_holds, eq_passes, lt_passes, not_passes, unless, or_else, Ends}
use Rattle.wire.specs.Conditions.{◌and◌}
use Rattle.occ.proofs.laws.Exactly.{reset_made, Search, found, missed, searched, place_of, poll_exactly, clear_log_exactly, set_state_exactly, role_format_exactly, caps_format_exactly, user_cap_exactly, log_due_exactly, reset_prep_exactly}
use Rattle.occ.specs.Conditions.{Pends, ClearLogOk, SetStateOk, RoleFormatOk, CapsFormatOk, ResetPrepOk, accepts}

-- ---- what is known of a change that is made

-- the log that a reset makes, where one is due, has the next id, one of 255, and a place
unfoldable pub Drawn : Record → ℕ → Log → Type 0
Drawn r next log =
    (log.id ≡ next) and (next ≤ 255) and (pending_of r.logs < 4) and ((log.reason ≡ 1) ⊎ (log.reason ≡ 2))

-- a cleared log pends, as it is, at its place; a log that is made is drawn
unfoldable Known : Record → ℕ → Change → Type 0
Known r next (Clear place log) = pends_at place log r.logs ≡ true
Known r next (Unclear place log) = Unit {0}
Known r next (SetState state) = Unit {0}
Known r next (SetRole got role) = Unit {0}
Known r next (SetCaps got caps) = Unit {0}
Known r next (SetUser user) = Unit {0}
Known r next (SetThermal got) = Unit {0}
Known r next (SetThrottles got) = Unit {0}
Known r next (Reset log) = (log.id ≡ 0 → ⊥) → Drawn r next log
Known r next (Unreset state made) = Unit {0}
Known r next (SetMask mask) = Unit {0}
Known r next (SetDeadman deadman) = Unit {0}
Known r next (SetAreas areas) = Unit {0}
Known r next (SetTimer timer) = Unit {0}

-- and its values are ones that a well-formed record could hold
unfoldable Right : Record → ℕ → Tables → Change → Type 0
Right r next t ch = (change_ok t ch ≡ true) and Known r next ch

-- of what a verdict makes, if it makes a change
unfoldable Makes : (Change → Type 0) → Verdict → Type 0
Makes P (Refuse status) = Unit {0}
Makes P Poll = Unit {0}
Makes P (Make ch) = P ch

refuse_makes : (P : Change → Type 0) (status : Status) → Makes P (Refuse status)
unfolding Makes
refuse_makes P status = tt

poll_makes : (P : Change → Type 0) → Makes P Poll
unfolding Makes
poll_makes P = tt

make_makes : (P : Change → Type 0) (ch : Change) → P ch → Makes P (Make ch)
unfolding Makes
make_makes P ch p = p

-- what a verdict ends in, where it accepts, tells all that it makes
makes_by : (P : Change → Type 0) (v : Verdict) {z : Verdict} {C : Type 0} → Ends accepts v C z → (C → Makes P z) → Makes P v
unfolding Makes accepts
makes_by P (Refuse status) e h = tt
makes_by P Poll e h = tt
makes_by P (Make ch) e h = subst (Makes P) (sym (e.is refl)) (h (e.exactly.0 refl))

-- ---- each command, on a well-formed record

module _ (r : Record) (next : ℕ) (s : Sound r next) (four : length r.logs ≡ 4) where
  -- of a change without tables
  abbrev Plain : Change → Type 0
  Plain = Right r next no_tables

  poll_right : (d : List ℕ) → Makes Plain (poll_verdict d)
  poll_right d = makes_by Plain _ (poll_exactly d) (λ c. poll_makes Plain)

  -- a log with an id pends at its place
  there_pends : (id place : ℕ) → (id ≡ 0 → ⊥) → place < 4 → (get_or r.logs place no_log).id ≡ id
      → pends_at place (get_or r.logs place no_log) r.logs ≡ true
  unfolding pends_at
  there_pends id place h l e =
      let log = get_or r.logs place no_log in
      let k : place ≤ 3 = omega arith in
      (unless holds refl (lt_passes 3 place)
      (unless holds refl (eq_passes log.id 0)
      (unless holds refl (not_passes (eq_holds log.id log.id)) (eq_holds log.reason log.reason)))).1
      (k, ((λ z. h (sym e ∙ z)), (refl, refl)))

  clear : (id : ℕ) → Pends id r.logs → Plain (Clear (place_of id r.logs) (get_or r.logs (place_of id r.logs) no_log))
  unfolding Right Known change_ok
  clear id c = by_search (find_of id r.logs) (searched id r.logs four)
    where
      by_search : (o : Option ℕ) → Search id r.logs o → Plain (Clear (unwrap_or o 0) (get_or r.logs (unwrap_or o 0) no_log))
      by_search _ (found p n l e) = let q = there_pends id p n l e in (pends_cleared next r.logs s.logs _ _ q, q)
      by_search _ (missed n) = absurd (n c)

  clear_right : (d : List ℕ) → Makes Plain (clear_verdict r.logs d)
  unfolding ClearLogOk
  clear_right d = makes_by Plain _ (clear_log_exactly r.logs d four) (λ c. make_makes Plain _ (clear _ c.1))

  set_state : (state : ℕ) → 1 ≤ state → state ≤ 3 → Plain (SetState state)
  unfolding Right Known change_ok state_ok
  set_state state l h = ((unless holds refl (lt_passes state 1) (le_holds state 3)).1 (l, h), tt)

  state_right : (w : Worked) (d : List ℕ) → Makes Plain (state_verdict w d)
  unfolding SetStateOk
  state_right w d =
      makes_by Plain _ (set_state_exactly w d) (λ c. make_makes Plain _ (set_state _ c.1.0.1.0 c.1.0.1.1.0))

  set_role : (role : ℕ) → role ≤ 1 → Plain (SetRole 1 role)
  unfolding Right Known change_ok role_ok flag_ok
  set_role role h = (le-leb role 1 h, tt)

  role_right : (state : ℕ) (d : List ℕ) → Makes Plain (role_verdict state d)
  unfolding RoleFormatOk
  role_right state d = makes_by Plain _ (role_format_exactly state d) (λ c. make_makes Plain _ (set_role _ c.1.0))

  set_caps : (caps : Caps) → caps.min ≤ caps.max → Plain (SetCaps 1 caps)
  unfolding Right Known change_ok caps_ok flag_ok
  set_caps caps h = (le-leb caps.min caps.max h, tt)

  caps_right : (role : ℕ) (d : List ℕ) → Makes Plain (caps_verdict role d)
  unfolding CapsFormatOk
  caps_right role d = makes_by Plain _ (caps_format_exactly role d) (λ c. make_makes Plain _ (set_caps _ c.1.1.0))

  set_user : (user : ℕ) → Plain (SetUser user)
  unfolding Right Known change_ok
  set_user user = (refl, tt)

  user_right : (role got : ℕ) (caps : Caps) (d : List ℕ) → Makes Plain (user_verdict role got caps d)
  user_right role got caps d = makes_by Plain _ (user_cap_exactly role got caps d) (λ c. make_makes Plain _ (set_user _))

  reset_alone : Plain (Reset no_log)
  unfolding Right Known change_ok made_ok
  reset_alone = (refl, λ some. absurd (some refl))

  reset_logged : (reason : ℕ) → (reason ≡ 1) ⊎ (reason ≡ 2) → pending_of r.logs < 4
      → next < 256 → Plain (Reset (record { id = next; reason = reason }))
  unfolding Right Known Drawn change_ok made_ok reason_ok next_ok
  reset_logged reason w l h =
      let ids = (unless holds refl (lt_passes next 1) (le_holds next 256)).0 s.next in
      let k = (or_else holds refl (eq_holds reason 1) (eq_holds reason 2)).1 w in
      (sym (else_eq _ _ {m = next} {n = 0} (λ z. omega (arith, ids.0)) (sym k)), λ some. (refl, (omega arith, (l, w))))

  reset_right : (role : ℕ) (d : List ℕ) → Makes Plain (reset_verdict role r.logs next d)
  unfolding ResetPrepOk reset_made
  reset_right role d =
      makes_by Plain _ (reset_prep_exactly role r.logs next d)
      (λ c. cond_cases (Makes Plain) (not (log_due role (get_or d 1 0)))
      (λ t. make_makes Plain _ reset_alone)
      (λ t.
      let due = (log_due_exactly role (get_or d 1 0)).0 (not-false _ t) in
      let room = c.1.1.1 due in
      make_makes Plain _ (reset_logged _ (⊎_elim inl (λ h. inr h.0) due) room.0 room.1)))

  -- ---- with the tables beside the change

  -- of what is judged, with its tables
  unfoldable Rightly : Judged → Type 0
  Rightly j = Makes (Right r next j.tables) j.verdict

  plain_right : (v : Verdict) → Makes Plain v → Rightly (plainly v)
  unfolding Rightly plainly
  plain_right v h = h

  refused_right : (status : Status) → Rightly (plainly (Refuse status))
  refused_right status = plain_right (Refuse status) (refuse_makes Plain status)

  set_throttles : (t : Throttles) → absent_zero t.present t.sets ≡ true
      → Rightly (record { verdict = Make (SetThrottles 1); tables = record { thermal = replicate 9 0; throttles = t } })
  unfolding Rightly Makes Right Known change_ok throttles_ok flag_ok
  set_throttles t h = (h, tt)

  set_thermal : (t : List ℕ) → thermal_rule t ≡ true
      → Rightly (record { verdict = Make (SetThermal 1); tables = record { thermal = t; throttles = no_throttles } })
  unfolding Rightly Makes Right Known change_ok thermal_ok flag_ok
  set_thermal t h = (h, tt)

  read_right : {A : Type 0} (status : Checked) (made : A → Judged) (v : Option A) → IfSome v (λ t. Rightly (made t)) → Rightly (read_judged made (sets_read status v))
  unfolding read_judged sets_read
  read_right (Err e) made v h = refused_right e
  read_right (Ok x) made None h = refused_right InvalidData
  read_right (Ok x) made (Some t) h = h

  throttles_right : (d : List ℕ) → Rightly (throttles_judged d)
  unfolding throttles_judged throttles_read
  throttles_right d = read_right (sets_status 12 d) throttles_made _ (IfSome_then _ (sets_formed (get_or d 2 0) (drop 3 d)) (λ t f. set_throttles t f.absent))

  thermal_right : (d : List ℕ) → Rightly (thermal_judged d)
  unfolding thermal_judged thermal_read
  thermal_right d = read_right (sets_status 4 d) thermal_made _ (IfSome_then _ (frus_formed (get_or d 2 0) (drop 3 d)) (λ t f. set_thermal t f.0))

  configure_right : (state role : ℕ) (d : List ℕ) → Rightly (configure_judged state role d)
  unfolding configure_judged format_judged
  configure_right state role d =
      cond_elim Rightly (eqb (length d) 0) (refused_right InvalidLength)
      (cond_elim Rightly (eqb (get_or d 0 0) 0x03) (plain_right _ (role_right state d))
      (cond_elim Rightly (eqb (get_or d 0 0) 0x07) (plain_right _ (caps_right role d))
      (cond_elim Rightly (eqb (get_or d 0 0) 0x12) (throttles_right d)
      (cond_elim Rightly (eqb (get_or d 0 0) 0x13) (thermal_right d) (refused_right InvalidData)))))

  -- ---- every command

  judge_right : (w : Worked) (sender kind : ℕ) (d : List ℕ) → Rightly (judge_of r w next sender kind d)
  unfolding judge_of type_judged
  judge_right w sender kind d =
      cond_elim Rightly (not (open_to sender kind)) (refused_right InvalidCommand)
      (cond_elim Rightly (eqb kind 0x00) (plain_right _ (poll_right d))
      (cond_elim Rightly (eqb kind 0x12) (plain_right _ (clear_right d))
      (cond_elim Rightly (eqb kind 0x20) (plain_right _ (state_right w d))
      (cond_elim Rightly (eqb kind 0x21) (configure_right r.state r.role d)
      (cond_elim Rightly (eqb kind 0x22) (plain_right _ (user_right r.role r.received.caps r.caps d))
      (cond_elim Rightly (eqb kind 0x25) (plain_right _ (reset_right r.role d)) (refused_right InvalidCommand)))))))

module _ (r : Record) (w : Worked) (next sender kind : ℕ) (d : List ℕ) (ok : record_ok r next ≡ true) (four : length r.logs ≡ 4) where
  made_right : (ch : Change) → (judge_of r w next sender kind d).verdict ≡ Make ch → Right r next (judge_of r w next sender kind d).tables ch
  unfolding Makes Rightly
  made_right ch e =
      subst (λ (v : Verdict). Makes (Right r next (judge_of r w next sender kind d).tables) v) e (judge_right r next (sound ok) four w sender kind d)

  -- a change that a command makes has values that a well-formed record could hold
  pub made_ok_lem : (ch : Change) → (judge_of r w next sender kind d).verdict ≡ Make ch → change_ok (judge_of r w next sender kind d).tables ch ≡ true
  unfolding Right
  made_ok_lem ch e = (made_right ch e).0

  -- "an id not pending is 0x13": a log that is cleared pends, that very log, at its place
  pub clear_pends : (place : ℕ) (log : Log) → (judge_of r w next sender kind d).verdict ≡ Make (Clear place log) → pends_at place log r.logs ≡ true
  unfolding Right Known
  clear_pends place log e = (made_right (Clear place log) e).1

  -- a log that a reset makes is drawn from the next id, and there is a place for it
  pub reset_drawn : (log : Log) → (judge_of r w next sender kind d).verdict ≡ Make (Reset log) → (log.id ≡ 0 → ⊥) → Drawn r next log
  unfolding Right Known
  reset_drawn log e = (made_right (Reset log) e).1
