-- Document 01, "The journal" and the commands: what each change puts into a record, and what takes it back.
use Rattle.std.specs.Prelude.{ℕ, ◌-◌, cond, not, List, Option, Some, None, get_or, replicate, ltb, leb, eqb}
use Rattle.std.specs.Option.{unwrap_or}
use Rattle.record.specs.Record.{no_log, no_throttles}
use Rattle.record.specs.declared.Log.{Log}
use Rattle.record.specs.declared.Record.{Record}
use Rattle.record.specs.declared.Timer.{Timer}
use Rattle.change.specs.declared.Change.{Change}
use Rattle.change.specs.declared.Change.TheVariants.{Clear, Unclear, SetState, SetRole, SetCaps, SetUser, SetThermal, SetThrottles, Reset, Unreset, SetMask, SetDeadman, SetAreas, SetTimer}
use Rattle.change.specs.declared.Tables.{Tables}
use Rattle.change.specs.declared.Edit.{Edit}
use Rattle.change.specs.Logs.{pending_of, remove_at, insert_at, pends_at}
use Rattle.change.specs.With.{with_state, with_role, with_caps, with_throttles, with_user, with_thermal, with_logs, with_mask, with_deadman, with_areas}

-- ---- the record with a change put in; None where it can't be

-- "0x12 clear log": the log leaves its place, where it is there
unfoldable pub clear_of : Record → ℕ → Log → Option Record
clear_of r place log =
    cond (not (pends_at place log r.logs)) None (Some (with_logs r (remove_at place r.logs)))

-- "Undo .. re-inserts a cleared log at its place"; answer 7: its place is above the number pending, or 4 pend
unfoldable pub unclear_of : Record → ℕ → Log → Option Record
unclear_of r place log =
    cond (ltb (pending_of r.logs) place) None
    (cond (leb 4 (pending_of r.logs)) None
    (Some (with_logs r (insert_at place log r.logs))))

-- "0x25 reset prep": state becomes 1, and the log, where one is made (its id isn't 0), pends last
unfoldable pub reset_of : Record → Log → Option Record
reset_of r log =
    cond (eqb log.id 0) (Some (with_state r 1))
    (cond (leb 4 (pending_of r.logs)) None
    (Some (with_logs (with_state r 1) (insert_at (pending_of r.logs) log r.logs))))

-- "Undo .. removes the log a reset made (the last pending)"; answer 7: a log was made and none pends
unfoldable pub unreset_of : Record → ℕ → ℕ → Option Record
unreset_of r state made =
    cond (eqb made 0) (Some (with_state r state))
    (cond (eqb (pending_of r.logs) 0) None
    (Some (with_logs (with_state r state) (remove_at (pending_of r.logs - 1) r.logs))))

-- a change put into a record, with the tables beside it
unfoldable pub put_with : Record → Tables → Change → Option Record
put_with r t (Clear place log) = clear_of r place log
put_with r t (Unclear place log) = unclear_of r place log
put_with r t (SetState state) = Some (with_state r state)
put_with r t (SetRole got role) = Some (with_role r got role)
put_with r t (SetCaps got caps) = Some (with_caps r got caps)
put_with r t (SetUser user) = Some (with_user r user)
put_with r t (SetThermal got) = Some (with_thermal r got t.thermal)
put_with r t (SetThrottles got) = Some (with_throttles r got t.throttles)
put_with r t (Reset log) = reset_of r log
put_with r t (Unreset state made) = unreset_of r state made
put_with r t (SetMask mask) = Some (with_mask r mask)
put_with r t (SetDeadman deadman) = Some (with_deadman r deadman)
put_with r t (SetAreas areas) = Some (with_areas r areas)
put_with r t (SetTimer timer) = Some r

unfoldable pub put_of : Record → Edit → Option Record
put_of r e = put_with r e.tables e.change

-- and the record after it: as it was where the change can't be put in
abbrev pub put_after : Record → Edit → Record
put_after r e = unwrap_or (put_of r e) r

-- ---- what was before: the change that takes a change back

-- the log that pends last
unfoldable pub last_of : List Log → Log
last_of l = cond (eqb (pending_of l) 0) no_log (get_or l (pending_of l - 1) no_log)

unfoldable pub made_by : Log → ℕ
made_by log = cond (eqb log.id 0) 0 1

-- document 02, d: "what was after; for kind 08 that is the log's id and reason, 0 and 0 without one"
unfoldable pub made_again : List Log → ℕ → Log
made_again l made = cond (eqb made 0) no_log (last_of l)

unfoldable pub back_of : Record → Change → Change
back_of r (Clear place log) = Unclear place log
back_of r (Unclear place log) = Clear place log
back_of r (SetState state) = SetState r.state
back_of r (SetRole got role) = SetRole r.received.role r.role
back_of r (SetCaps got caps) = SetCaps r.received.caps r.caps
back_of r (SetUser user) = SetUser r.user
back_of r (SetThermal got) = SetThermal r.received.thermal
back_of r (SetThrottles got) = SetThrottles r.received.throttles
back_of r (Reset log) = Unreset r.state (made_by log)
back_of r (Unreset state made) = Reset (made_again r.logs made)
back_of r (SetMask mask) = SetMask r.mask
back_of r (SetDeadman deadman) = SetDeadman r.deadman
back_of r (SetAreas areas) = SetAreas r.areas
back_of r (SetTimer timer) = SetTimer timer

-- "The journal": the kind of a change; a clear and a reset keep theirs when they are taken back
unfoldable pub kind_of : Change → ℕ
kind_of (Clear place log) = 0x01
kind_of (Unclear place log) = 0x01
kind_of (SetState state) = 0x02
kind_of (SetRole got role) = 0x03
kind_of (SetCaps got caps) = 0x04
kind_of (SetUser user) = 0x05
kind_of (SetThermal got) = 0x06
kind_of (SetThrottles got) = 0x07
kind_of (Reset log) = 0x08
kind_of (Unreset state made) = 0x08
kind_of (SetMask mask) = 0x09
kind_of (SetDeadman deadman) = 0x0A
kind_of (SetAreas areas) = 0x0B
kind_of (SetTimer timer) = 0x0C

-- the tables beside a change, by its kind: those it has are the record's, the others zero
abbrev pub no_tables : Tables
no_tables = record { thermal = replicate 9 0; throttles = no_throttles }

unfoldable pub tables_for : ℕ → Record → Tables
tables_for kind r =
    cond (eqb kind 0x06) (record { thermal = r.thermal; throttles = no_throttles })
    (cond (eqb kind 0x07) (record { thermal = replicate 9 0; throttles = r.throttles }) no_tables)

unfoldable pub inverse_of : Record → Edit → Edit
inverse_of r e = record { change = back_of r e.change; tables = tables_for (kind_of e.change) r }

-- ---- document 02, h: the timer stands outside the record, and its changes put nothing into that. A timer change in an entry holds the timer as it stands
-- when the entry is written; every other change stays what it is

unfoldable pub timed_change : Timer → Change → Change
timed_change t ch = cond (eqb (kind_of ch) 0x0C) (SetTimer t) ch

unfoldable pub timed : Timer → Edit → Edit
timed t e = record { change = timed_change t e.change; tables = e.tables }

-- what takes a change back, once it is put into this record beside this timer
unfoldable pub takes_back : Record → Timer → Edit → Edit
takes_back r t e = timed t (inverse_of r e)

-- the timer after a change: the one that a timer change sets
unfoldable pub timer_after : Timer → Change → Timer
timer_after t (Clear place log) = t
timer_after t (Unclear place log) = t
timer_after t (SetState state) = t
timer_after t (SetRole got role) = t
timer_after t (SetCaps got caps) = t
timer_after t (SetUser user) = t
timer_after t (SetThermal got) = t
timer_after t (SetThrottles got) = t
timer_after t (Reset log) = t
timer_after t (Unreset state made) = t
timer_after t (SetMask mask) = t
timer_after t (SetDeadman deadman) = t
timer_after t (SetAreas areas) = t
timer_after t (SetTimer timer) = timer
