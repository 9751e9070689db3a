-- Document 01, "OCC packets": when a command that was read gets which status, row after row in the order 0x11, 0x12, 0x13, 0x16, 0x15.
-- d is the data; a command that no row holds of is accepted.
use Rattle.std.specs.Prelude.{ℕ, ◌+◌, ◌*◌, ◌<◌, ◌≤◌, ◌≡◌, List, ◌⊎◌, length, get_or, take, drop}
use Rattle.wire.specs.Wire.{be_nat}
use Rattle.wire.specs.Conditions.{◌and◌, is, none, Rows, row}
use Rattle.record.specs.declared.Log.{Log}
use Rattle.record.specs.declared.Caps.{Caps}
use Rattle.record.specs.declared.Record.{Record}
use Rattle.record.specs.declared.Worked.{Worked}
use Rattle.change.specs.Logs.{pending_of}
use Rattle.sets.specs.Conditions.{SetsOk, FrusOk}
use Rattle.occ.specs.Commands.{sent_caps}
use Rattle.occ.specs.Conditions.{Pends}

-- "0x00 poll, L 1, version 0x10"
unfoldable pub PollStatus : List ℕ → ℕ → Type 0
PollStatus d = row 0x12 (length d ≡ 1 → ⊥) (row 0x13 (get_or d 0 0 ≡ 0x10 → ⊥) none)

-- "0x12 clear log, L 1: an id not pending is 0x13"
unfoldable pub ClearStatus : List Log → List ℕ → ℕ → Type 0
ClearStatus logs d = row 0x12 (length d ≡ 1 → ⊥) (row 0x13 (Pends (get_or d 0 0) logs → ⊥) none)

-- "0x20 set state, L 3: version 0, state 1 to 3, last byte 0, else 0x13. State 2 without observation-ready, or 3 without active-ready, is 0x16"
unfoldable pub StateStatus : Worked → List ℕ → ℕ → Type 0
StateStatus w d =
    row 0x12 (length d ≡ 3 → ⊥)
    (row 0x13 ((get_or d 0 0 ≡ 0) and (1 ≤ get_or d 1 0) and (get_or d 1 0 ≤ 3) and (get_or d 2 0 ≡ 0) → ⊥)
    (row 0x16 (((get_or d 1 0 ≡ 2) and (w.observation ≡ 0)) ⊎ ((get_or d 1 0 ≡ 3) and (w.active ≡ 0)))
    none))

-- "0x21, 0x03, L 2: role 0 or 1; outside standby 0x16"
unfoldable pub RoleStatus : ℕ → List ℕ → ℕ → Type 0
RoleStatus state d = row 0x12 (length d ≡ 2 → ⊥) (row 0x13 (1 < get_or d 1 0) (row 0x16 (state ≡ 1 → ⊥) none))

-- "0x21, 0x07, L 8: version 0x10; .. minimum over maximum 0x13; slave 0x16 (H)"
unfoldable pub CapsStatus : ℕ → List ℕ → ℕ → Type 0
CapsStatus role d =
    row 0x12 (length d ≡ 8 → ⊥)
    (row 0x13 (get_or d 1 0 ≡ 0x10 → ⊥)
    (row 0x13 ((sent_caps d).max < (sent_caps d).min)
    (row 0x16 (role ≡ 0)
    none)))

-- "L 3+12n (3+4n): version 0x10, n at least 1", and the rule of the n sets
unfoldable pub SetsStatus : ℕ → List ℕ → Type 0 → ℕ → Type 0
SetsStatus width d rule =
    row 0x12 (length d ≡ 3 + get_or d 2 0 * width → ⊥)
    (row 0x13 (get_or d 1 0 ≡ 0x10 → ⊥)
    (row 0x13 (get_or d 2 0 ≡ 0)
    (row 0x13 (rule → ⊥)
    none)))

-- "An unknown format answers 0x13 before its length is judged; with L = 0 it is 0x12"
unfoldable pub ConfigureStatus : ℕ → ℕ → List ℕ → ℕ → Type 0
ConfigureStatus state role d =
    row 0x12 (length d ≡ 0)
    (Rows (get_or d 0 0 ≡ 0x03) (RoleStatus state d)
    (Rows (get_or d 0 0 ≡ 0x07) (CapsStatus role d)
    (Rows (get_or d 0 0 ≡ 0x12) (SetsStatus 12 d (SetsOk (get_or d 2 0) (drop 3 d)))
    (Rows (get_or d 0 0 ≡ 0x13) (SetsStatus 4 d (FrusOk (get_or d 2 0) (drop 3 d)))
    (is 0x13)))))

-- "0x22 user cap, L 2: 0 disables; else it must lie in minimum to maximum, and without caps received it is 0x13. Slave 0x16, for 0 too"
unfoldable pub UserStatus : ℕ → ℕ → Caps → List ℕ → ℕ → Type 0
UserStatus role got caps d =
    row 0x12 (length d ≡ 2 → ⊥)
    (row 0x13 ((be_nat (take 2 d) ≡ 0) ⊎ ((got ≡ 0 → ⊥) and (caps.min ≤ be_nat (take 2 d)) and (be_nat (take 2 d) ≤ caps.max)) → ⊥)
    (row 0x16 (role ≡ 0)
    none))

-- "0x25 reset prep, L 2: version 0, reason 0 to 2. .. A log is made for reason 1, and for 2 on a master"; 0x15: "a log is due, and 4 pend or the next id is 256"
unfoldable pub ResetStatus : ℕ → List Log → ℕ → List ℕ → ℕ → Type 0
ResetStatus role logs next d =
    row 0x12 (length d ≡ 2 → ⊥)
    (row 0x13 (get_or d 0 0 ≡ 0 → ⊥)
    (row 0x13 (2 < get_or d 1 0)
    (row 0x15 (((get_or d 1 0 ≡ 1) ⊎ ((get_or d 1 0 ≡ 2) and (role ≡ 1))) and ((4 ≤ pending_of logs) ⊎ (256 ≤ next)))
    none)))

-- 0x11: "type unknown, or the BMC sends other than 0x00 and 0x22 (H)"; then the rows of each type. w is what is worked out of r
unfoldable pub CommandStatus : Record → Worked → ℕ → ℕ → ℕ → List ℕ → ℕ → Type 0
CommandStatus r w next sender kind d =
    row 0x11 ((sender ≡ 0x20) and (kind ≡ 0x00 → ⊥) and (kind ≡ 0x22 → ⊥))
    (Rows (kind ≡ 0x00) (PollStatus d)
    (Rows (kind ≡ 0x12) (ClearStatus r.logs d)
    (Rows (kind ≡ 0x20) (StateStatus w d)
    (Rows (kind ≡ 0x21) (ConfigureStatus r.state r.role d)
    (Rows (kind ≡ 0x22) (UserStatus r.role r.received.caps r.caps d)
    (Rows (kind ≡ 0x25) (ResetStatus r.role r.logs next d)
    (is 0x11)))))))
