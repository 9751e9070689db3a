-- What the change of a command satisfies, on the record that it is made for and with the next id.
use Rattle.std.specs.Prelude.{ℕ, ◌≤◌, ◌<◌, true, ◌≡◌, ◌⊎◌}
use Rattle.record.specs.Record.{no_log}
use Rattle.record.specs.declared.Log.{Log}
use Rattle.record.specs.declared.Record.{Record}
use Rattle.change.specs.Logs.{pending_of, pends_at}
use Rattle.change.specs.Change.{no_tables}
use Rattle.change.specs.declared.Change.{Change}
use Rattle.change.specs.declared.Change.TheVariants.{Clear, Unclear, SetState, SetRole, SetCaps, SetUser, SetThermal, SetThrottles, Reset, Unreset, SetMask, SetDeadman, SetAreas, SetTimer}
use Rattle.change.specs.declared.Tables.{Tables}
use Rattle.formed.specs.Formed.{reason_ok, change_ok}
use Rattle.journal.proofs.laws.Bodies.{Writable}
use Rattle.journal.specs.declared.Way.TheVariants.{After}

-- "0x25 reset prep": the log that it makes has the next id; 0x15, "4 pend or the next id is 256", did not hold
pub record NewLog (r : Record) (n : ℕ) (log : Log) : Type 0 where
  pub id : log.id ≡ n
  pub low : 1 ≤ n
  pub high : n ≤ 255
  pub room : pending_of r.logs < 4
  pub reason : reason_ok log.reason ≡ true

-- values that a well-formed record could hold, of the widths of its fields
pub record Values (t : Tables) (ch : Change) : Type 0 where
  pub ok : change_ok t ch ≡ true
  pub fits : Writable After t ch

-- a clear names a log that pends; the others set values, or reset with a log or without; none takes back
abbrev pub Made : Record → ℕ → Tables → Change → Type 0
Made r n t (Clear place log) = (pends_at place log r.logs ≡ true) × (t ≡ no_tables)
Made r n t (Unclear place log) = ⊥
Made r n t (SetState state) = Values t (SetState state)
Made r n t (SetRole got role) = Values t (SetRole got role)
Made r n t (SetCaps got caps) = Values t (SetCaps got caps)
Made r n t (SetUser user) = Values t (SetUser user)
Made r n t (SetThermal got) = Values t (SetThermal got)
Made r n t (SetThrottles got) = Values t (SetThrottles got)
Made r n t (Reset log) = ((log ≡ no_log) ⊎ NewLog r n log) × (t ≡ no_tables)
Made r n t (Unreset state made) = ⊥
Made r n t (SetMask mask) = Values t (SetMask mask)
Made r n t (SetDeadman deadman) = Values t (SetDeadman deadman)
Made r n t (SetAreas areas) = Values t (SetAreas areas)
Made r n t (SetTimer timer) = Values t (SetTimer timer)
