-- Document 01, "OCC packets": a whole packet judged. After 0x12 and 0x14 of the packet come 0x11, 0x12, 0x13, 0x16, 0x15.
use Rattle.packet.specs.declared.Status.{Status}
use Rattle.packet.specs.declared.Status.TheVariants.{InvalidCommand, InvalidLength, InvalidData}
use Rattle.std.specs.Prelude.{ℕ, ◌-◌, ◌*◌, cond, not, Option, Some, None, Result, Ok, Err, List, length, get_or, drop, replicate, ltb, eqb}
use Rattle.record.specs.Record.{no_throttles}
use Rattle.record.specs.declared.Record.{Record}
use Rattle.record.specs.declared.Throttles.{Throttles}
use Rattle.record.specs.declared.Worked.{Worked}
use Rattle.change.specs.Change.{no_tables}
use Rattle.change.specs.declared.Change.TheVariants.{SetThermal, SetThrottles}
use Rattle.occ.specs.declared.Verdict.{Verdict}
use Rattle.occ.specs.declared.Verdict.TheVariants.{Refuse, Make}
use Rattle.occ.specs.declared.Judged.{Judged}
use Rattle.packet.specs.Packet.{Checked}
use Rattle.occ.specs.Open.{open_to}
use Rattle.occ.specs.Commands.{poll_verdict, clear_verdict, state_verdict, role_verdict, caps_verdict, user_verdict, reset_verdict}
use Rattle.sets.specs.Sets.{throttles_of, thermal_of}

-- a verdict with no tables beside it
unfoldable pub plainly : Verdict → Judged
plainly v = record { verdict = v; tables = no_tables }

-- "L 3+12n" and "L 3+4n: version 0x10, n at least 1": what both formats with sets begin with, n sets of a width
unfoldable pub count_status : ℕ → ℕ → List ℕ → Checked
count_status width n d =
    cond (not (eqb (length d - 3) (n * width))) (Err InvalidLength)
    (cond (not (eqb (get_or d 1 0) 0x10)) (Err InvalidData)
    (cond (eqb n 0) (Err InvalidData) (Ok tt)))

unfoldable pub sets_status : ℕ → List ℕ → Checked
sets_status width d = cond (ltb (length d) 3) (Err InvalidLength) (count_status width (get_or d 2 0) d)

-- then the sets are read, or one of them is wrong
unfoldable pub sets_read : {A : Type 0} → Checked → Option A → Result A Status
sets_read (Err status) v = Err status
sets_read (Ok x) None = Err InvalidData
sets_read (Ok x) (Some t) = Ok t

unfoldable pub read_judged : {A : Type 0} → (A → Judged) → Result A Status → Judged
read_judged made (Err status) = plainly (Refuse status)
read_judged made (Ok t) = made t

-- "0x21, 0x12": the sets replace the whole table
abbrev pub throttles_made : Throttles → Judged
throttles_made t = record { verdict = Make (SetThrottles 1); tables = record { thermal = replicate 9 0; throttles = t } }

unfoldable pub throttles_read : List ℕ → Result Throttles Status
throttles_read d = sets_read (sets_status 12 d) (throttles_of (get_or d 2 0) (drop 3 d))

unfoldable pub throttles_judged : List ℕ → Judged
throttles_judged d = read_judged throttles_made (throttles_read d)

-- "0x21, 0x13": FRU types not sent become 0xFF, 0xFF, 0xFF
abbrev pub thermal_made : List ℕ → Judged
thermal_made t = record { verdict = Make (SetThermal 1); tables = record { thermal = t; throttles = no_throttles } }

unfoldable pub thermal_read : List ℕ → Result (List ℕ) Status
thermal_read d = sets_read (sets_status 4 d) (thermal_of (get_or d 2 0) (drop 3 d))

unfoldable pub thermal_judged : List ℕ → Judged
thermal_judged d = read_judged thermal_made (thermal_read d)

-- "An unknown format answers 0x13 before its length is judged; with L = 0 it is 0x12"
unfoldable pub format_judged : ℕ → ℕ → ℕ → List ℕ → Judged
format_judged format state role d =
    cond (eqb format 0x03) (plainly (role_verdict state d))
    (cond (eqb format 0x07) (plainly (caps_verdict role d))
    (cond (eqb format 0x12) (throttles_judged d)
    (cond (eqb format 0x13) (thermal_judged d)
    (plainly (Refuse InvalidData)))))

unfoldable pub configure_judged : ℕ → ℕ → List ℕ → Judged
configure_judged state role d = cond (eqb (length d) 0) (plainly (Refuse InvalidLength)) (format_judged (get_or d 0 0) state role d)

unfoldable pub type_judged : ℕ → Record → Worked → ℕ → List ℕ → Judged
type_judged kind r w next d =
    cond (eqb kind 0x00) (plainly (poll_verdict d))
    (cond (eqb kind 0x12) (plainly (clear_verdict r.logs d))
    (cond (eqb kind 0x20) (plainly (state_verdict w d))
    (cond (eqb kind 0x21) (configure_judged r.state r.role d)
    (cond (eqb kind 0x22) (plainly (user_verdict r.role r.received.caps r.caps d))
    (cond (eqb kind 0x25) (plainly (reset_verdict r.role r.logs next d))
    (plainly (Refuse InvalidCommand)))))))

unfoldable pub judge_of : Record → Worked → ℕ → ℕ → ℕ → List ℕ → Judged
judge_of r w next sender kind d = cond (not (open_to sender kind)) (plainly (Refuse InvalidCommand)) (type_judged kind r w next d)
