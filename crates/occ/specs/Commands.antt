-- Document 01, "OCC packets": the commands that hold a few numbers, judged in the order 0x12, 0x13, 0x16, 0x15. d is the data.
use Rattle.std.specs.Prelude.{ℕ, Bool, true, false, cond, not, List, Option, Some, None, length, get_or, take, drop, ltb, leb, eqb}
use Rattle.packet.specs.declared.Status.TheVariants.{InvalidLength, InvalidData, InternalError, StateProhibits}
use Rattle.wire.specs.Wire.{be_nat}
use Rattle.record.specs.Record.{no_log}
use Rattle.record.specs.declared.Log.{Log}
use Rattle.record.specs.declared.Caps.{Caps}
use Rattle.record.specs.declared.Worked.{Worked}
use Rattle.change.specs.Logs.{pending_of, find_of}
use Rattle.change.specs.declared.Change.TheVariants.{Clear, SetState, SetRole, SetCaps, SetUser, Reset}
use Rattle.occ.specs.declared.Verdict.{Verdict}
use Rattle.occ.specs.declared.Verdict.TheVariants.{Refuse, Poll, Make}

-- "0x00 poll, L 1, version 0x10"
unfoldable pub poll_verdict : List ℕ → Verdict
poll_verdict d = cond (not (eqb (length d) 1)) (Refuse InvalidLength) (cond (not (eqb (get_or d 0 0) 0x10)) (Refuse InvalidData) Poll)

-- "0x12 clear log, L 1: an id not pending is 0x13"
unfoldable pub clear_at : Option ℕ → List Log → Verdict
clear_at None logs = Refuse InvalidData
clear_at (Some place) logs = Make (Clear place (get_or logs place no_log))

unfoldable pub clear_verdict : List Log → List ℕ → Verdict
clear_verdict logs d = cond (not (eqb (length d) 1)) (Refuse InvalidLength) (clear_at (find_of (get_or d 0 0) logs) logs)

-- "0x20 set state, L 3: version 0, state 1 to 3, last byte 0, else 0x13"
unfoldable pub state_fits : ℕ → ℕ → ℕ → Bool
state_fits version state last =
    cond (not (eqb version 0)) false (cond (ltb state 1) false (cond (ltb 3 state) false (eqb last 0)))

-- "State 2 without observation-ready, or 3 without active-ready, is 0x16"
unfoldable pub not_ready : Worked → ℕ → Bool
not_ready w state = cond (eqb state 2) (eqb w.observation 0) (cond (eqb state 3) (eqb w.active 0) false)

unfoldable pub state_verdict : Worked → List ℕ → Verdict
state_verdict w d =
    cond (not (eqb (length d) 3)) (Refuse InvalidLength)
    (cond (not (state_fits (get_or d 0 0) (get_or d 1 0) (get_or d 2 0))) (Refuse InvalidData)
    (cond (not_ready w (get_or d 1 0)) (Refuse StateProhibits)
    (Make (SetState (get_or d 1 0)))))

-- "0x21, 0x03, L 2: role 0 or 1; outside standby 0x16"
unfoldable pub role_verdict : ℕ → List ℕ → Verdict
role_verdict state d =
    cond (not (eqb (length d) 2)) (Refuse InvalidLength)
    (cond (ltb 1 (get_or d 1 0)) (Refuse InvalidData)
    (cond (not (eqb state 1)) (Refuse StateProhibits)
    (Make (SetRole 1 (get_or d 1 0)))))

-- "0x21, 0x07, L 8: version 0x10; minimum, maximum, oversubscription, two bytes each; minimum over maximum 0x13; slave 0x16 (H)"
unfoldable pub caps_for : ℕ → Caps → Verdict
caps_for role caps = cond (ltb caps.max caps.min) (Refuse InvalidData) (cond (eqb role 0) (Refuse StateProhibits) (Make (SetCaps 1 caps)))

unfoldable pub sent_caps : List ℕ → Caps
sent_caps d = record { min = be_nat (take 2 (drop 2 d)); max = be_nat (take 2 (drop 4 d)); over = be_nat (take 2 (drop 6 d)) }

unfoldable pub caps_verdict : ℕ → List ℕ → Verdict
caps_verdict role d =
    cond (not (eqb (length d) 8)) (Refuse InvalidLength)
    (cond (not (eqb (get_or d 1 0) 0x10)) (Refuse InvalidData)
    (caps_for role (sent_caps d)))

-- "0x22 user cap, L 2: 0 disables; else it must lie in minimum to maximum, and without caps received it is 0x13. Slave 0x16, for 0 too"
unfoldable pub user_allowed : ℕ → Caps → ℕ → Bool
user_allowed got caps user =
    cond (eqb user 0) true (cond (eqb got 0) false (cond (ltb user caps.min) false (leb user caps.max)))

unfoldable pub user_for : ℕ → ℕ → Caps → ℕ → Verdict
user_for role got caps user =
    cond (not (user_allowed got caps user)) (Refuse InvalidData) (cond (eqb role 0) (Refuse StateProhibits) (Make (SetUser user)))

unfoldable pub user_verdict : ℕ → ℕ → Caps → List ℕ → Verdict
user_verdict role got caps d = cond (not (eqb (length d) 2)) (Refuse InvalidLength) (user_for role got caps (be_nat (take 2 (drop 0 d))))

-- "0x25 reset prep: A log is made for reason 1, and for 2 on a master"; 0x15: a log is due, and 4 pend or the next id is 256
unfoldable pub log_due : ℕ → ℕ → Bool
log_due role reason = cond (eqb reason 1) true (cond (eqb reason 2) (eqb role 1) false)

unfoldable pub reset_for : ℕ → List Log → ℕ → ℕ → Verdict
reset_for role logs next reason =
    cond (not (log_due role reason)) (Make (Reset no_log))
    (cond (leb 4 (pending_of logs)) (Refuse InternalError)
    (cond (leb 256 next) (Refuse InternalError)
    (Make (Reset (record { id = next; reason = reason })))))

-- "L 2: version 0, reason 0 to 2"
unfoldable pub reset_verdict : ℕ → List Log → ℕ → List ℕ → Verdict
reset_verdict role logs next d =
    cond (not (eqb (length d) 2)) (Refuse InvalidLength)
    (cond (not (eqb (get_or d 0 0) 0)) (Refuse InvalidData)
    (cond (ltb 2 (get_or d 1 0)) (Refuse InvalidData)
    (reset_for role logs next (get_or d 1 0))))
