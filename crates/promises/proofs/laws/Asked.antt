-- A change that a command of bytes makes is one that links can undo: its values pass, its numbers are of their widths. Assumes nothing.
use Rattle.std.specs.Prelude.{ℕ, ◌+◌, ◌≤◌, Bool, true, not, ◌⊎◌, ◌≡◌, List, ltb, leb, eqb, length, take, drop, Some, None, Ok, Err, Option}
use Rattle.packet.specs.Packet.{Checked}
use Rattle.packet.specs.declared.Status.{Status}
use Rattle.packet.specs.declared.Status.TheVariants.{InvalidCommand, InvalidLength, InvalidData, InternalError, StateProhibits}
use Rattle.std.specs.Option.{IfSome}
use Rattle.std.proofs.lemmas.Option.{IfSome_then}
use Rattle.std.proofs.Common.{inl, inr, ⊎_elim, sym, arith, ltb-false, eq-eqb}
use Rattle.std.proofs.Math.Path.{refl, subst}
use Rattle.std.proofs.Math.ListN.{get_or, replicate}
use Rattle.wire.proofs.laws.Wire.{bytes_take, bytes_drop, part_fits}
use Rattle.wire.specs.Wire.{Bytes, be_nat}
use Rattle.packet.specs.Packet.{data_length, data_at, data_of}
use Rattle.wire.proofs.laws.Chains.{passed}
use Rattle.wire.proofs.laws.Cases.{cond_elim, if_eq}
use Rattle.record.specs.Record.{no_log, no_throttles}
use Rattle.record.specs.declared.Log.{Log}
use Rattle.record.specs.declared.Caps.{Caps}
use Rattle.record.specs.declared.Record.{Record}
use Rattle.record.specs.declared.Worked.{Worked}
use Rattle.change.specs.Change.{no_tables}
use Rattle.change.specs.Logs.{pending_of, find_of}
use Rattle.change.proofs.laws.Timed.{NoTimer, by_timer}
use Rattle.change.specs.declared.Change.{Change}
use Rattle.change.specs.declared.Change.TheVariants.{Clear, Unclear, SetState, SetRole, SetCaps, SetUser, SetThermal, SetThrottles, Reset, Unreset, SetMask, SetDeadman, SetAreas, SetTimer}
use Rattle.change.specs.declared.Tables.{Tables}
use Rattle.formed.specs.Formed.{record_ok, next_ok, reason_ok}
use Rattle.formed.proofs.laws.Formed.{sound}
use Rattle.record.specs.Widths.{CapsFit}
use Rattle.journal.proofs.laws.Bodies.{Writable}
use Rattle.journal.specs.declared.Way.TheVariants.{After}
use Rattle.sets.proofs.laws.Sets.{PairsFormed, sets_formed, ThermalFormed, frus_formed}
use Rattle.occ.specs.Commands.{poll_verdict, clear_at, clear_verdict, state_fits, not_ready, state_verdict, role_verdict, caps_for, sent_caps, caps_verdict, user_allowed, user_for, user_verdict, log_due, reset_for, reset_verdict}
use Rattle.occ.specs.Judge.{plainly, sets_status, sets_read, read_judged, throttles_made, throttles_read, throttles_judged, thermal_made, thermal_read, thermal_judged, format_judged, configure_judged, type_judged, judge_of}
use Rattle.occ.specs.Open.{open_to}
use Rattle.occ.proofs.laws.Made.{Drawn, made_ok_lem, clear_pends, reset_drawn}
use Rattle.occ.specs.declared.Verdict.{Verdict}
use Rattle.occ.specs.declared.Verdict.TheVariants.{Refuse, Poll, Make}
use Rattle.occ.specs.declared.Judged.{Judged}
use Rattle.sbe.specs.Mailbox as mailbox
use Rattle.sbe.proofs.laws.Made.{change_ok_lem, change_fits}
use Rattle.sbe.specs.declared.Ruling.TheVariants.{Grant}
use Rattle.links.specs.Typed.{TypedRecord}
use Rattle.links.proofs.laws.Made.{NewLog, Values, Made}

-- the data of a command of bytes
pub data_bytes : (c : List ℕ) → Bytes c → Bytes (data_of c)
unfolding data_of data_at
data_bytes c h = cond_elim Bytes (ltb (length c) (data_length c + 6)) tt (bytes_take (data_length c) (drop 4 c) (bytes_drop 4 c h))

-- ---- OCC: which changes a command can make, and the widths of their numbers

abbrev Shape : Tables → Change → Type 0
Shape t (Clear place log) = t ≡ no_tables
Shape t (Unclear place log) = ⊥
Shape t (SetState state) = Writable After t (SetState state)
Shape t (SetRole got role) = Writable After t (SetRole got role)
Shape t (SetCaps got caps) = Writable After t (SetCaps got caps)
Shape t (SetUser user) = Writable After t (SetUser user)
Shape t (SetThermal got) = Writable After t (SetThermal got)
Shape t (SetThrottles got) = Writable After t (SetThrottles got)
Shape t (Reset log) = ((log ≡ no_log) ⊎ (log.id ≡ 0 → ⊥)) × (t ≡ no_tables)
Shape t (Unreset state made) = ⊥
Shape t (SetMask mask) = ⊥
Shape t (SetDeadman deadman) = ⊥
Shape t (SetAreas areas) = ⊥
Shape t (SetTimer timer) = ⊥

Makes : Tables → Verdict → Type 0
Makes t (Refuse status) = Unit {0}
Makes t Poll = Unit {0}
Makes t (Make ch) = Shape t ch

abbrev Plain : Verdict → Type 0
Plain = Makes no_tables

unfoldable Shaped : Judged → Type 0
Shaped j = Makes j.tables j.verdict

refusal : (t : Tables) (status : Status) → Makes t (Refuse status)
unfolding Makes
refusal t status = tt

make : (t : Tables) (ch : Change) → Shape t ch → Makes t (Make ch)
unfolding Makes
make t ch h = h

module _ (d : List ℕ) (bytes : Bytes d) where
  caps_fit : CapsFit (sent_caps d)
  unfolding sent_caps
  caps_fit = record { min = part_fits 2 2 d bytes; max = part_fits 2 4 d bytes; over = part_fits 2 6 d bytes }

  -- L, or a first byte, that is wrong
  abbrev longer : ℕ → Bool
  longer n = not (eqb (length d) n)

  poll_shape : Plain (poll_verdict d)
  unfolding Makes poll_verdict
  poll_shape = cond_elim Plain (longer 1) tt (cond_elim Plain (not (eqb (get_or d 0 0) 0x10)) tt tt)

  clear_shape : (logs : List Log) → Plain (clear_verdict logs d)
  unfolding clear_verdict clear_at
  clear_shape logs = cond_elim Plain (longer 1) (refusal _ InvalidLength) (elim (find_of (get_or d 0 0) logs) as (λ o. Plain (clear_at o logs)) [ None ↦ refusal _ InvalidData | Some place ↦ make _ _ refl ])

  state_shape : (w : Worked) → Plain (state_verdict w d)
  unfolding state_verdict
  state_shape w =
      cond_elim Plain (longer 3) (refusal _ InvalidLength)
      (cond_elim Plain (not (state_fits (get_or d 0 0) (get_or d 1 0) (get_or d 2 0))) (refusal _ InvalidData) (cond_elim Plain (not_ready w (get_or d 1 0)) (refusal _ StateProhibits) (make _ _ refl)))

  role_shape : (state : ℕ) → Plain (role_verdict state d)
  unfolding role_verdict
  role_shape state =
      cond_elim Plain (longer 2) (refusal _ InvalidLength) (cond_elim Plain (ltb 1 (get_or d 1 0)) (refusal _ InvalidData) (cond_elim Plain (not (eqb state 1)) (refusal _ StateProhibits) (make _ _ refl)))

  caps_shape : (role : ℕ) → Plain (caps_verdict role d)
  unfolding caps_verdict caps_for
  caps_shape role =
      cond_elim Plain (longer 8) (refusal _ InvalidLength)
      (cond_elim Plain (not (eqb (get_or d 1 0) 0x10)) (refusal _ InvalidData)
      (cond_elim Plain (ltb (sent_caps d).max (sent_caps d).min) (refusal _ InvalidData)
      (cond_elim Plain (eqb role 0) (refusal _ StateProhibits) (make _ (SetCaps 1 (sent_caps d)) (caps_fit, refl)))))

  user_shape : (role got : ℕ) (caps : Caps) → Plain (user_verdict role got caps d)
  unfolding user_verdict user_for
  user_shape role got caps =
      cond_elim Plain (longer 2) (refusal _ InvalidLength)
      (cond_elim Plain (not (user_allowed got caps (be_nat (take 2 (drop 0 d))))) (refusal _ InvalidData)
      (cond_elim Plain (eqb role 0) (refusal _ StateProhibits) (make _ (SetUser (be_nat (take 2 (drop 0 d)))) (part_fits 2 0 d bytes, refl))))

  reset_shape : (role : ℕ) (logs : List Log) (next : ℕ) → (next ≡ 0 → ⊥) → Plain (reset_verdict role logs next d)
  unfolding reset_verdict reset_for
  reset_shape role logs next some =
      cond_elim Plain (longer 2) (refusal _ InvalidLength)
      (cond_elim Plain (not (eqb (get_or d 0 0) 0)) (refusal _ InvalidData)
      (cond_elim Plain (ltb 2 (get_or d 1 0)) (refusal _ InvalidData)
      (cond_elim Plain (not (log_due role (get_or d 1 0))) (make _ (Reset no_log) (inl refl, refl))
      (cond_elim Plain (leb 4 (pending_of logs)) (refusal _ InternalError)
      (cond_elim Plain (leb 256 next) (refusal _ InternalError) (make _ (Reset (record { id = next; reason = get_or d 1 0 })) (inr some, refl)))))))

  -- ---- with the tables beside the change

  plain_shape : (v : Verdict) → Plain v → Shaped (plainly v)
  unfolding Shaped plainly
  plain_shape v h = h

  refuse_shape : (status : Status) → Shaped (plainly (Refuse status))
  refuse_shape status = plain_shape (Refuse status) (refusal _ status)

  made_shape : (t : Tables) (ch : Change) → Shape t ch → Shaped (record { verdict = Make ch; tables = t })
  unfolding Shaped
  made_shape t ch h = make t ch h

  -- sets that are refused by their count, or by one of them
  read_shape : {A : Type 0} (status : Checked) (made : A → Judged) (v : Option A) → IfSome v (λ t. Shaped (made t)) → Shaped (read_judged made (sets_read status v))
  unfolding read_judged sets_read
  read_shape (Err x) made v h = refuse_shape x
  read_shape (Ok x) made None h = refuse_shape InvalidData
  read_shape (Ok x) made (Some t) h = h

  throttles_shape : Shaped (throttles_judged d)
  unfolding throttles_judged throttles_read
  throttles_shape =
      read_shape (sets_status 12 d) throttles_made _
      (IfSome_then _ {P = PairsFormed} (sets_formed (get_or d 2 0) (drop 3 d)) (λ t f. made_shape (record { thermal = replicate 9 0; throttles = t }) (SetThrottles 1) (omega (arith, f.small), f.long, refl)))

  thermal_shape : Shaped (thermal_judged d)
  unfolding thermal_judged thermal_read
  thermal_shape =
      read_shape (sets_status 4 d) thermal_made _
      (IfSome_then _ {P = ThermalFormed} (frus_formed (get_or d 2 0) (drop 3 d)) (λ t f. made_shape (record { thermal = t; throttles = no_throttles }) (SetThermal 1) (f.1, refl)))

  configure_shape : (state role : ℕ) → Shaped (configure_judged state role d)
  unfolding configure_judged format_judged
  configure_shape state role =
      cond_elim Shaped (eqb (length d) 0) (refuse_shape InvalidLength)
      (cond_elim Shaped (eqb (get_or d 0 0) 0x03) (plain_shape _ (role_shape state))
      (cond_elim Shaped (eqb (get_or d 0 0) 0x07) (plain_shape _ (caps_shape role))
      (cond_elim Shaped (eqb (get_or d 0 0) 0x12) throttles_shape
      (cond_elim Shaped (eqb (get_or d 0 0) 0x13) thermal_shape (refuse_shape InvalidData)))))

  judge_shape : (r : Record) (w : Worked) (next sender kind : ℕ) → (next ≡ 0 → ⊥) → Shaped (judge_of r w next sender kind d)
  unfolding judge_of type_judged
  judge_shape r w next sender kind some =
      cond_elim Shaped (not (open_to sender kind)) (refuse_shape InvalidCommand)
      (cond_elim Shaped (eqb kind 0x00) (plain_shape _ poll_shape)
      (cond_elim Shaped (eqb kind 0x12) (plain_shape _ (clear_shape r.logs))
      (cond_elim Shaped (eqb kind 0x20) (plain_shape _ (state_shape w))
      (cond_elim Shaped (eqb kind 0x21) (configure_shape r.state r.role)
      (cond_elim Shaped (eqb kind 0x22) (plain_shape _ (user_shape r.role r.received.caps r.caps))
      (cond_elim Shaped (eqb kind 0x25) (plain_shape _ (reset_shape r.role r.logs next some)) (refuse_shape InvalidCommand)))))))

-- ---- OCC: the change is one that can be undone

pub next_some : (r : Record) (n : ℕ) → record_ok r n ≡ true → 1 ≤ n
unfolding next_ok
next_some r n ok = ltb-false n 1 (passed (ltb n 1) _ (sound ok).next).0

reason_ok_lem : (reason : ℕ) → (reason ≡ 1) ⊎ (reason ≡ 2) → reason_ok reason ≡ true
unfolding reason_ok
reason_ok_lem reason = ⊎_elim (λ e. sym (if_eq _ _ e refl)) (λ e. cond_elim (λ (b : Bool). b ≡ true) (eqb reason 1) refl (eq-eqb reason 2 e))

module _ (r : Record) (w : Worked) (next sender kind : ℕ) (d : List ℕ) (bytes : Bytes d) (ok : record_ok r next ≡ true) (typed : TypedRecord r) where
  abbrev j : Judged
  j = judge_of r w next sender kind d

  shape : (ch : Change) → j.verdict ≡ Make ch → Shape j.tables ch
  unfolding Shaped Makes
  shape ch e =
      let some : next ≡ 0 → ⊥ = λ z. omega (arith, next_some r next ok) in
      subst (λ (v : Verdict). Makes j.tables v) e (judge_shape d bytes r w next sender kind some)

  new_log : (log : Log) → j.verdict ≡ Make (Reset log) → (log.id ≡ 0 → ⊥) → NewLog r next log
  unfolding Drawn
  new_log log e some =
      let dr = reset_drawn r w next sender kind d ok typed.logs log e some in
      record { id = dr.0; low = next_some r next ok; high = dr.1.0; room = dr.1.1.0; reason = reason_ok_lem log.reason dr.1.1.1 }

  values : (ch : Change) → j.verdict ≡ Make ch → Writable After j.tables ch → Values j.tables ch
  values ch e f = record { ok = made_ok_lem r w next sender kind d ok typed.logs ch e; fits = f }

  pub occ_made : (ch : Change) → j.verdict ≡ Make ch → Made r next j.tables ch
  occ_made (Clear place log) e = (clear_pends r w next sender kind d ok typed.logs place log e, shape _ e)
  occ_made (Unclear place log) e = shape _ e
  occ_made (SetState state) e = values _ e (shape _ e)
  occ_made (SetRole got role) e = values _ e (shape _ e)
  occ_made (SetCaps got caps) e = values _ e (shape _ e)
  occ_made (SetUser user) e = values _ e (shape _ e)
  occ_made (SetThermal got) e = values _ e (shape _ e)
  occ_made (SetThrottles got) e = values _ e (shape _ e)
  occ_made (Reset log) e = (⊎_elim inl (λ some. inr (new_log log e some)) (shape _ e).0, (shape _ e).1)
  occ_made (Unreset state made) e = shape _ e
  occ_made (SetMask mask) e = absurd (shape _ e)
  occ_made (SetDeadman deadman) e = absurd (shape _ e)
  occ_made (SetAreas areas) e = absurd (shape _ e)
  occ_made (SetTimer timer) e = absurd (shape _ e)

  -- none of them sets the timer
  pub occ_no_timer : (ch : Change) → j.verdict ≡ Make ch → NoTimer ch
  occ_no_timer = by_timer (λ (ch : Change). j.verdict ≡ Make ch → NoTimer ch) (λ x e. absurd (shape _ e)) (λ ch n e. n)

-- ---- SBE

module _ (r : Record) (next : ℕ) (q : List ℕ) (bytes : Bytes q) where
  granted : (ch : Change) → mailbox.request_ruling q ≡ Grant ch → Writable After no_tables ch → Values no_tables ch
  granted ch e f = record { ok = change_ok_lem q ch e; fits = f }

  pub sbe_made : (ch : Change) → mailbox.request_ruling q ≡ Grant ch → Made r next no_tables ch
  sbe_made (Clear place log) e = absurd (change_fits q bytes _ e)
  sbe_made (Unclear place log) e = change_fits q bytes _ e
  sbe_made (SetState state) e = absurd (change_fits q bytes _ e)
  sbe_made (SetRole got role) e = absurd (change_fits q bytes _ e)
  sbe_made (SetCaps got caps) e = absurd (change_fits q bytes _ e)
  sbe_made (SetUser user) e = absurd (change_fits q bytes _ e)
  sbe_made (SetThermal got) e = absurd (change_fits q bytes _ e)
  sbe_made (SetThrottles got) e = absurd (change_fits q bytes _ e)
  sbe_made (Reset log) e = absurd (change_fits q bytes _ e)
  sbe_made (Unreset state made) e = change_fits q bytes _ e
  sbe_made (SetMask mask) e = granted _ e (change_fits q bytes _ e, refl)
  sbe_made (SetDeadman deadman) e = granted _ e (change_fits q bytes _ e, refl)
  sbe_made (SetAreas areas) e =
      let f = change_fits q bytes _ e in
      granted _ e (f.0, f.1, refl)
  sbe_made (SetTimer timer) e = granted _ e (change_fits q bytes _ e, refl)
