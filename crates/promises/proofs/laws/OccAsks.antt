-- What each OCC command asks for, with what is known of it where it is accepted. Assumes nothing.
use Rattle.std.specs.Prelude.{ℕ, ◌*◌, ◌<◌, ◌≤◌, not, ◌≡◌, List, eqb, ltb, leb, length, take, drop, replicate, Option, Some, None, Ok, Err}
use Rattle.std.specs.Result.{is_ok}
use Rattle.packet.specs.Packet.{Checked}
use Rattle.packet.specs.declared.Status.{Status}
use Rattle.packet.specs.declared.Status.TheVariants.{InvalidCommand, InvalidLength, InvalidData, InternalError, StateProhibits}
use Rattle.std.proofs.Math.Bool.{true≢false}
use Rattle.std.proofs.Math.Path.{refl}
use Rattle.std.proofs.Common.{sym, ap, ◌∙◌, arith, length-drop}
use borrow.Author.Tests.{not-false, not-true, leb-false, eqb-true}
use Rattle.std.proofs.Math.ListN.{get_or}
use Rattle.wire.specs.Wire.{be_nat}
use Rattle.wire.proofs.laws.Cases.{cond_elim, cond_cases}
use Rattle.record.specs.Record.{no_log, no_throttles}
use Rattle.record.specs.declared.Caps.{Caps}
use Rattle.record.specs.declared.Throttles.{Throttles}
use Rattle.record.specs.declared.Record.{Record}
use Rattle.record.specs.declared.Worked.{Worked}
use Rattle.change.specs.Logs.{pending_of, find_of}
use Rattle.change.specs.Change.{no_tables, kind_of}
use Rattle.change.specs.declared.Tables.{Tables}
use Rattle.change.specs.declared.Change.{Change}
use Rattle.change.specs.declared.Change.TheVariants.{Clear, SetState, SetRole, SetCaps, SetUser, SetThermal, SetThrottles, Reset}
use Rattle.sets.specs.Conditions.{SentPairs, SentFrus}
use Rattle.sets.proofs.laws.Sent.{sets_sent, frus_sent}
use Rattle.occ.specs.declared.Verdict.{Verdict}
use Rattle.occ.specs.declared.Verdict.TheVariants.{Refuse, Poll, Make}
use Rattle.occ.specs.declared.Judged.{Judged}
use Rattle.occ.specs.Commands.{poll_verdict, clear_at, clear_verdict, state_fits, not_ready, state_verdict, role_verdict, caps_for, sent_caps, caps_verdict, user_allowed, user_for, user_verdict, log_due, reset_for, reset_verdict}
use Rattle.occ.specs.Judge.{plainly, sets_status, sets_read, read_judged, throttles_made, throttles_read, throttles_judged, thermal_made, thermal_read, thermal_judged, format_judged, configure_judged, type_judged, judge_of}
use Rattle.occ.specs.Open.{open_to}
use Rattle.occ.proofs.laws.Exactly.{log_due_exactly, sets_status_exactly}
use Rattle.promises.specs.Demand2.{kind_for}
use Rattle.promises.specs.Effects.{LogDue}

module _ (r : Record) (next type : ℕ) (d : List ℕ) where
  pub data CommandAsks : Verdict → Tables → Type 0 where
    refuses : (x : Status) → CommandAsks (Refuse x) no_tables
    polls : type ≡ 0x00 → CommandAsks Poll no_tables
    clears : type ≡ 0x12 → (place : ℕ) → find_of (get_or d 0 0) r.logs ≡ Some place → CommandAsks (Make (Clear place (get_or r.logs place no_log))) no_tables
    sets_state : type ≡ 0x20 → CommandAsks (Make (SetState (get_or d 1 0))) no_tables
    sets_role : type ≡ 0x21 → get_or d 0 0 ≡ 0x03 → CommandAsks (Make (SetRole 1 (get_or d 1 0))) no_tables
    sets_caps : type ≡ 0x21 → get_or d 0 0 ≡ 0x07 → CommandAsks (Make (SetCaps 1 (sent_caps d))) no_tables
    sets_throttles : type ≡ 0x21 → get_or d 0 0 ≡ 0x12 → (t : Throttles) → SentPairs (get_or d 2 0) (drop 3 d) t
        → CommandAsks (Make (SetThrottles 1)) (record { thermal = replicate 9 0; throttles = t })
    sets_thermal : type ≡ 0x21 → get_or d 0 0 ≡ 0x13 → (t : List ℕ) → SentFrus (get_or d 2 0) (drop 3 d) t
        → CommandAsks (Make (SetThermal 1)) (record { thermal = t; throttles = no_throttles })
    sets_user : type ≡ 0x22 → CommandAsks (Make (SetUser (be_nat (take 2 d)))) no_tables
    resets : type ≡ 0x25 → (LogDue r.role (get_or d 1 0) → ⊥) → CommandAsks (Make (Reset no_log)) no_tables
    resets_logged : type ≡ 0x25 → LogDue r.role (get_or d 1 0) → pending_of r.logs < 4
        → CommandAsks (Make (Reset (record { id = next; reason = get_or d 1 0 }))) no_tables

  -- ---- each command

  abbrev Plainly : Verdict → Type 0
  Plainly v = CommandAsks v no_tables

  poll_asks : type ≡ 0x00 → Plainly (poll_verdict d)
  unfolding poll_verdict
  poll_asks e = cond_elim Plainly (not (eqb (length d) 1)) (refuses InvalidLength) (cond_elim Plainly (not (eqb (get_or d 0 0) 0x10)) (refuses InvalidData) (polls e))

  clear_asks : type ≡ 0x12 → Plainly (clear_verdict r.logs d)
  unfolding clear_verdict clear_at
  clear_asks e =
      cond_elim Plainly (not (eqb (length d) 1)) (refuses InvalidLength)
      (by_place (find_of (get_or d 0 0) r.logs) refl)
    where
      by_place : (o : Option ℕ) → find_of (get_or d 0 0) r.logs ≡ o → Plainly (clear_at o r.logs)
      by_place None q = refuses InvalidData
      by_place (Some place) q = clears e place q

  state_asks : (w : Worked) → type ≡ 0x20 → Plainly (state_verdict w d)
  unfolding state_verdict
  state_asks w e =
      cond_elim Plainly (not (eqb (length d) 3)) (refuses InvalidLength)
      (cond_elim Plainly (not (state_fits (get_or d 0 0) (get_or d 1 0) (get_or d 2 0))) (refuses InvalidData)
      (cond_elim Plainly (not_ready w (get_or d 1 0)) (refuses StateProhibits) (sets_state e)))

  role_asks : (state : ℕ) → type ≡ 0x21 → get_or d 0 0 ≡ 0x03 → Plainly (role_verdict state d)
  unfolding role_verdict
  role_asks state e f =
      cond_elim Plainly (not (eqb (length d) 2)) (refuses InvalidLength)
      (cond_elim Plainly (ltb 1 (get_or d 1 0)) (refuses InvalidData) (cond_elim Plainly (not (eqb state 1)) (refuses StateProhibits) (sets_role e f)))

  caps_asks : (role : ℕ) → type ≡ 0x21 → get_or d 0 0 ≡ 0x07 → Plainly (caps_verdict role d)
  unfolding caps_verdict caps_for
  caps_asks role e f =
      cond_elim Plainly (not (eqb (length d) 8)) (refuses InvalidLength)
      (cond_elim Plainly (not (eqb (get_or d 1 0) 0x10)) (refuses InvalidData)
      (cond_elim Plainly (ltb (sent_caps d).max (sent_caps d).min) (refuses InvalidData)
      (cond_elim Plainly (eqb role 0) (refuses StateProhibits) (sets_caps e f))))

  user_asks : (role got : ℕ) (caps : Caps) → type ≡ 0x22 → Plainly (user_verdict role got caps d)
  unfolding user_verdict user_for
  user_asks role got caps e =
      cond_elim Plainly (not (eqb (length d) 2)) (refuses InvalidLength)
      (cond_elim Plainly (not (user_allowed got caps (be_nat (take 2 d)))) (refuses InvalidData) (cond_elim Plainly (eqb role 0) (refuses StateProhibits) (sets_user e)))

  reset_asks : type ≡ 0x25 → Plainly (reset_verdict r.role r.logs next d)
  unfolding reset_verdict reset_for
  reset_asks e =
      cond_elim Plainly (not (eqb (length d) 2)) (refuses InvalidLength)
      (cond_elim Plainly (not (eqb (get_or d 0 0) 0)) (refuses InvalidData)
      (cond_elim Plainly (ltb 2 (get_or d 1 0)) (refuses InvalidData)
      (cond_cases Plainly (not (log_due r.role (get_or d 1 0)))
      (λ f. resets e (λ due. true≢false (sym ((log_due_exactly r.role (get_or d 1 0)).1 due) ∙ not-true _ f)))
      (λ f. cond_cases Plainly (leb 4 (pending_of r.logs)) (λ g. refuses InternalError)
      (λ g. cond_elim Plainly (leb 256 next) (refuses InternalError)
      (resets_logged e ((log_due_exactly r.role (get_or d 1 0)).0 (not-false _ f)) (leb-false 4 _ g)))))))

  -- ---- with the tables beside the change

  abbrev Judges : Judged → Type 0
  Judges j = CommandAsks j.verdict j.tables

  refused : (x : Status) → Judges (plainly (Refuse x))
  unfolding plainly
  refused x = refuses x

  plain : (v : Verdict) → Plainly v → Judges (plainly v)
  unfolding plainly
  plain v a = a

  -- the sets that the count promises are there
  sets_there : (width : ℕ) → sets_status width d ≡ Ok tt → get_or d 2 0 * width ≤ length (drop 3 d)
  sets_there width f = let h = (sets_status_exactly width d).0 (ap is_ok f) in simp length-drop (omega (arith, h.1.0))

  read_asks : {A : Type 0} (status : Checked) (made : A → Judged) (v : Option A) → ((t : A) → status ≡ Ok tt → v ≡ Some t → Judges (made t))
      → Judges (read_judged made (sets_read status v))
  unfolding read_judged sets_read
  read_asks (Err x) made v h = refused x
  read_asks (Ok x) made None h = refused InvalidData
  read_asks (Ok x) made (Some t) h = h t refl refl

  throttles_asks : type ≡ 0x21 → get_or d 0 0 ≡ 0x12 → Judges (throttles_judged d)
  unfolding throttles_judged throttles_read
  throttles_asks e f = read_asks (sets_status 12 d) throttles_made _ (λ t g h. sets_throttles e f t (sets_sent (get_or d 2 0) (drop 3 d) t h (sets_there 12 g)))

  thermal_asks : type ≡ 0x21 → get_or d 0 0 ≡ 0x13 → Judges (thermal_judged d)
  unfolding thermal_judged thermal_read
  thermal_asks e f = read_asks (sets_status 4 d) thermal_made _ (λ t g h. sets_thermal e f t (frus_sent (get_or d 2 0) (drop 3 d) t h (sets_there 4 g)))

  configure_asks : (state role : ℕ) → type ≡ 0x21 → Judges (configure_judged state role d)
  unfolding configure_judged format_judged
  configure_asks state role e =
      let format = get_or d 0 0 in
      cond_elim Judges (eqb (length d) 0) (refused InvalidLength)
      (cond_cases Judges (eqb format 0x03) (λ f. plain _ (role_asks state e (eqb-true format 0x03 f)))
      (λ _. cond_cases Judges (eqb format 0x07) (λ f. plain _ (caps_asks role e (eqb-true format 0x07 f)))
      (λ _. cond_cases Judges (eqb format 0x12) (λ f. throttles_asks e (eqb-true format 0x12 f))
      (λ _. cond_cases Judges (eqb format 0x13) (λ f. thermal_asks e (eqb-true format 0x13 f)) (λ _. refused InvalidData)))))

  pub asks : (w : Worked) (sender : ℕ) → Judges (judge_of r w next sender type d)
  unfolding judge_of type_judged
  asks w sender =
      cond_elim Judges (not (open_to sender type)) (refused InvalidCommand)
      (cond_cases Judges (eqb type 0x00) (λ f. plain _ (poll_asks (eqb-true type 0x00 f)))
      (λ _. cond_cases Judges (eqb type 0x12) (λ f. plain _ (clear_asks (eqb-true type 0x12 f)))
      (λ _. cond_cases Judges (eqb type 0x20) (λ f. plain _ (state_asks w (eqb-true type 0x20 f)))
      (λ _. cond_cases Judges (eqb type 0x21) (λ f. configure_asks r.state r.role (eqb-true type 0x21 f))
      (λ _. cond_cases Judges (eqb type 0x22) (λ f. plain _ (user_asks r.role r.received.caps r.caps (eqb-true type 0x22 f)))
      (λ _. cond_cases Judges (eqb type 0x25) (λ f. plain _ (reset_asks (eqb-true type 0x25 f))) (λ _. refused InvalidCommand)))))))

  -- ---- read off: only a poll asks for one, and a change's kind is that of its command

  pub poll_type : (t : Tables) → CommandAsks Poll t → type ≡ 0x00
  poll_type t (polls e) = e

  -- a type that isn't the poll's, with the kind of its entry
  abbrev Kind : Change → Type 0
  Kind ch = (type ≡ 0x00 → ⊥) × (kind_of ch ≡ kind_for type (get_or d 0 0))

  by_type : (n kind : ℕ) → type ≡ n → (n ≡ 0x00 → ⊥) → kind_for n (get_or d 0 0) ≡ kind → (type ≡ 0x00 → ⊥) × (kind ≡ kind_for type (get_or d 0 0))
  by_type n kind e z k = ((λ h. z (sym e ∙ h)), sym k ∙ ap (λ (m : ℕ). kind_for m (get_or d 0 0)) (sym e))

  by_format : (n kind : ℕ) → type ≡ 0x21 → get_or d 0 0 ≡ n → kind_for 0x21 n ≡ kind → (type ≡ 0x00 → ⊥) × (kind ≡ kind_for type (get_or d 0 0))
  by_format n kind e f k = by_type 0x21 kind e (λ z. omega arith) (ap (kind_for 0x21) f ∙ k)

  pub made_kind : (ch : Change) (t : Tables) → CommandAsks (Make ch) t → Kind ch
  unfolding kind_for kind_of
  made_kind ch t (clears e place is) = by_type 0x12 0x01 e (λ z. omega arith) refl
  made_kind ch t (sets_state e) = by_type 0x20 0x02 e (λ z. omega arith) refl
  made_kind ch t (sets_role e f) = by_format 0x03 0x03 e f refl
  made_kind ch t (sets_caps e f) = by_format 0x07 0x04 e f refl
  made_kind ch t (sets_throttles e f x y) = by_format 0x12 0x07 e f refl
  made_kind ch t (sets_thermal e f x y) = by_format 0x13 0x06 e f refl
  made_kind ch t (sets_user e) = by_type 0x22 0x05 e (λ z. omega arith) refl
  made_kind ch t (resets e n) = by_type 0x25 0x08 e (λ z. omega arith) refl
  made_kind ch t (resets_logged e n l) = by_type 0x25 0x08 e (λ z. omega arith) refl
