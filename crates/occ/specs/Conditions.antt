-- Document 01, "OCC packets": the conditions under which each command is accepted, in the document's words and order. d is the data.
use Rattle.std.specs.Prelude.{ℕ, ◌+◌, ◌*◌, ◌<◌, ◌≤◌, Bool, true, false, ◌≡◌, List, ◌⊎◌, length, get_or, take, drop}
use Rattle.wire.specs.Wire.{be_nat}
use Rattle.record.specs.Record.{no_log}
use Rattle.record.specs.declared.Log.{Log}
use Rattle.record.specs.declared.Caps.{Caps}
use Rattle.record.specs.declared.Record.{Record}
use Rattle.record.specs.declared.Worked.{Worked}
use Rattle.change.specs.Logs.{pending_of}
use Rattle.occ.specs.declared.Verdict.{Verdict}
use Rattle.occ.specs.declared.Verdict.TheVariants.{Refuse, Poll, Make}
use Rattle.occ.specs.declared.Judged.{Judged}
use Rattle.occ.specs.Commands.{sent_caps}
use Rattle.wire.specs.Conditions.{◌and◌}
use Rattle.sets.specs.Conditions.{SetsOk, FrusOk}

-- "0x00 poll, L 1, version 0x10"
unfoldable pub PollOk : List ℕ → Type 0
PollOk d = (length d ≡ 1) and (get_or d 0 0 ≡ 0x10)

-- a log with this id is at one of the four places; id 0 is no log's
unfoldable pub Pends : ℕ → List Log → Type 0
Pends id logs = (id ≡ 0 → ⊥) and ((place : ℕ) × (place < 4) × ((get_or logs place no_log).id ≡ id))

-- "0x12 clear log, L 1: an id not pending is 0x13"
unfoldable pub ClearLogOk : List Log → List ℕ → Type 0
ClearLogOk logs d = (length d ≡ 1) and Pends (get_or d 0 0) logs

-- "0x20 set state, L 3: version 0, state 1 to 3, last byte 0 .. State 2 without observation-ready, or 3 without active-ready, is 0x16"
unfoldable pub SetStateOk : Worked → List ℕ → Type 0
SetStateOk w d =
    (length d ≡ 3)
    and ((get_or d 0 0 ≡ 0) and (1 ≤ get_or d 1 0) and (get_or d 1 0 ≤ 3) and (get_or d 2 0 ≡ 0))
    and (get_or d 1 0 ≡ 2 → w.observation ≡ 0 → ⊥)
    and (get_or d 1 0 ≡ 3 → w.active ≡ 0 → ⊥)

-- "0x21, 0x03, L 2: role 0 or 1; outside standby 0x16"
unfoldable pub RoleFormatOk : ℕ → List ℕ → Type 0
RoleFormatOk state d = (length d ≡ 2) and (get_or d 1 0 ≤ 1) and (state ≡ 1)

-- "0x21, 0x07, L 8: version 0x10; .. minimum over maximum 0x13; slave 0x16 (H)"
unfoldable pub CapsFormatOk : ℕ → List ℕ → Type 0
CapsFormatOk role d =
    (length d ≡ 8) and (get_or d 1 0 ≡ 0x10) and ((sent_caps d).min ≤ (sent_caps d).max) and (role ≡ 0 → ⊥)

-- "L 3+12n (3+4n): version 0x10, n at least 1", and the rule of the n sets
unfoldable pub SetsFormatOk : ℕ → List ℕ → Type 0 → Type 0
SetsFormatOk width d rule =
    (length d ≡ 3 + get_or d 2 0 * width) and (get_or d 1 0 ≡ 0x10) and (1 ≤ get_or d 2 0) and rule

-- "0x21, 0x12 .. hub 0 to 7, MBA 0 or 1, no pair twice"
unfoldable pub ThrottlesFormatOk : List ℕ → Type 0
ThrottlesFormatOk d = SetsFormatOk 12 d (SetsOk (get_or d 2 0) (drop 3 d))

-- "0x21, 0x13 .. FRU 0 to 2, none twice, DVFS at most ERROR (H)", since document 02, b "where neither is 0xFF"
unfoldable pub ThermalFormatOk : List ℕ → Type 0
ThermalFormatOk d = SetsFormatOk 4 d (FrusOk (get_or d 2 0) (drop 3 d))

-- "An unknown format answers 0x13 before its length is judged; with L = 0 it is 0x12"
unfoldable pub ConfigureOk : ℕ → ℕ → List ℕ → Type 0
ConfigureOk state role d =
    (1 ≤ length d)
    and (((get_or d 0 0 ≡ 0x03) and RoleFormatOk state d)
    ⊎ ((get_or d 0 0 ≡ 0x07) and CapsFormatOk role d)
    ⊎ ((get_or d 0 0 ≡ 0x12) and ThrottlesFormatOk d)
    ⊎ ((get_or d 0 0 ≡ 0x13) and ThermalFormatOk d))

-- "0x22 user cap, L 2: 0 disables; else it must lie in minimum to maximum, and without caps received it is 0x13. Slave 0x16, for 0 too"
unfoldable pub UserCapOk : ℕ → ℕ → Caps → List ℕ → Type 0
UserCapOk role got caps d =
    (length d ≡ 2)
    and ((be_nat (take 2 d) ≡ 0) ⊎ ((got ≡ 0 → ⊥) and (caps.min ≤ be_nat (take 2 d)) and (be_nat (take 2 d) ≤ caps.max)))
    and (role ≡ 0 → ⊥)

-- "0x25 reset prep, L 2: version 0, reason 0 to 2. .. A log is made for reason 1, and for 2 on a master"; 0x15: "a log is due, and 4 pend or the next id is 256"
unfoldable pub ResetPrepOk : ℕ → List Log → ℕ → List ℕ → Type 0
ResetPrepOk role logs next d =
    (length d ≡ 2)
    and (get_or d 0 0 ≡ 0)
    and (get_or d 1 0 ≤ 2)
    and ((get_or d 1 0 ≡ 1) ⊎ ((get_or d 1 0 ≡ 2) and (role ≡ 1)) → (pending_of logs < 4) and (next < 256))

-- 0x11: "type unknown, or the BMC sends other than 0x00 and 0x22 (H)"; then the conditions of each type. w is what is worked out of r
unfoldable pub CommandOk : Record → Worked → ℕ → ℕ → ℕ → List ℕ → Type 0
CommandOk r w next sender kind d =
    (sender ≡ 0x20 → (kind ≡ 0x00) ⊎ (kind ≡ 0x22))
    and (((kind ≡ 0x00) and PollOk d)
    ⊎ ((kind ≡ 0x12) and ClearLogOk r.logs d)
    ⊎ ((kind ≡ 0x20) and SetStateOk w d)
    ⊎ ((kind ≡ 0x21) and ConfigureOk r.state r.role d)
    ⊎ ((kind ≡ 0x22) and UserCapOk r.role r.received.caps r.caps d)
    ⊎ ((kind ≡ 0x25) and ResetPrepOk r.role r.logs next d))

unfoldable pub accepts : Verdict → Bool
accepts (Refuse status) = false
accepts Poll = true
accepts (Make change) = true

unfoldable pub accepted : Judged → Bool
accepted j = accepts j.verdict
