-- Document 02, k: "Write the table of what is open once, for both profiles". HTMGT may send every type that there is, and each is open in a full session; a row says
-- whether the BMC may send it, and whether it is open in a watch-only session. An unknown type is 0x11, whoever sends it (Judge.antt).
use Rattle.packet.specs.declared.Status.{Status}
use Rattle.packet.specs.declared.Status.TheVariants.{InvalidCommand, InvalidLength, InvalidData, ChecksumFailure, InternalError, StateProhibits}
use Rattle.std.specs.Prelude.{ℕ, Bool, true, false, cond, not, eqb}
use Rattle.occ.specs.declared.Row.{Row}
use Rattle.occ.specs.declared.Verdict.{Verdict}
use Rattle.occ.specs.declared.Verdict.TheVariants.{Refuse, Poll, Make}

unfoldable pub row_of : ℕ → Row
row_of kind =
    cond (eqb kind 0x00) (record { bmc = true; watch = true })  -- poll
    (cond (eqb kind 0x12) (record { bmc = false; watch = true })  -- clear log
    (cond (eqb kind 0x20) (record { bmc = false; watch = false })  -- set state
    (cond (eqb kind 0x21) (record { bmc = false; watch = false })  -- configuration
    (cond (eqb kind 0x22) (record { bmc = true; watch = false })  -- user cap
    (cond (eqb kind 0x25) (record { bmc = false; watch = false })  -- reset prep
    (record { bmc = false; watch = false }))))))

-- 0x11: "type unknown, or the BMC sends other than 0x00 and 0x22 (H)"
unfoldable pub open_to : ℕ → ℕ → Bool
open_to sender kind = cond (not (eqb sender 0x20)) true (row_of kind).bmc

-- "It accepts polls from both senders and clear log from HTMGT, and no other OCC command"
unfoldable pub open_in : ℕ → ℕ → Bool
open_in profile kind = cond (eqb profile 0) true (row_of kind).watch

-- "0x16 after the data checks": what would be done becomes 0x16, and so does 0x15, which comes after it
unfoldable pub shut_status : Status → Status
shut_status InternalError = StateProhibits
shut_status InvalidCommand = InvalidCommand
shut_status InvalidLength = InvalidLength
shut_status InvalidData = InvalidData
shut_status ChecksumFailure = ChecksumFailure
shut_status StateProhibits = StateProhibits

unfoldable pub shut : Verdict → Verdict
shut (Refuse status) = Refuse (shut_status status)
shut Poll = Refuse StateProhibits
shut (Make change) = Refuse StateProhibits

-- a judgement, where the session has this profile
unfoldable pub by_profile : ℕ → ℕ → Verdict → Verdict
by_profile profile kind v = cond (open_in profile kind) v (shut v)
