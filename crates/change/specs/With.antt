-- A record with other values in one place, all else as it was.
use Rattle.std.specs.Prelude.{ℕ, List}
use Rattle.record.specs.declared.Log.{Log}
use Rattle.record.specs.declared.Caps.{Caps}
use Rattle.record.specs.declared.Areas.{Areas}
use Rattle.record.specs.declared.Deadman.{Deadman}
use Rattle.record.specs.declared.Throttles.{Throttles}
use Rattle.record.specs.declared.Record.{Record}

unfoldable pub with_state : Record → ℕ → Record
with_state r state = record r { state = state }

unfoldable pub with_role : Record → ℕ → ℕ → Record
with_role r got role = record r { role = role; received = record r.received { role = got } }

unfoldable pub with_caps : Record → ℕ → Caps → Record
with_caps r got caps = record r { caps = caps; received = record r.received { caps = got } }

unfoldable pub with_throttles : Record → ℕ → Throttles → Record
with_throttles r got throttles =
    record r { throttles = throttles; received = record r.received { throttles = got } }

unfoldable pub with_user : Record → ℕ → Record
with_user r user = record r { user = user }

unfoldable pub with_thermal : Record → ℕ → List ℕ → Record
with_thermal r got thermal =
    record r { thermal = thermal; received = record r.received { thermal = got } }

unfoldable pub with_logs : Record → List Log → Record
with_logs r logs = record r { logs = logs }

unfoldable pub with_mask : Record → ℕ → Record
with_mask r mask = record r { mask = mask }

unfoldable pub with_deadman : Record → Deadman → Record
with_deadman r deadman = record r { deadman = deadman }

unfoldable pub with_areas : Record → Areas → Record
with_areas r areas = record r { areas = areas }
