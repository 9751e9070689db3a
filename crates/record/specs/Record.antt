-- Document 01, "What the stand-in holds": the fresh record, and what is worked out from a record.
use Rattle.std.specs.Prelude.{ℕ, Bool, true, false, cond, not, List, replicate, ltb, eqb}
use Rattle.record.specs.declared.Log.{Log}
use Rattle.record.specs.declared.Caps.{Caps}
use Rattle.record.specs.declared.Area.{Area}
use Rattle.record.specs.declared.Received.{Received}
use Rattle.record.specs.declared.Throttles.{Throttles}
use Rattle.record.specs.declared.Timer.{Timer}
use Rattle.record.specs.declared.Record.{Record}
use Rattle.record.specs.declared.Worked.{Worked}

-- ---- "Fresh record"

abbrev pub no_log : Log
no_log = record { id = 0; reason = 0 }

abbrev pub no_caps : Caps
no_caps = record { min = 0; max = 0; over = 0 }

abbrev pub no_throttles : Throttles
no_throttles = record { present = 0; sets = replicate 160 0 }

abbrev pub no_thermal : List ℕ
no_thermal = replicate 9 0xFF

abbrev pub no_area : Area
no_area = record { address = 0; size = 0 }

unfoldable pub fresh_record : Record
fresh_record =
    record {
      state = 1;
      role = 0;
      caps = no_caps;
      throttles = no_throttles;
      user = 0;
      thermal = no_thermal;
      received = record { role = 0; caps = 0; throttles = 0; thermal = 0 };
      logs = replicate 4 no_log;
      mask = 0;
      deadman = record { running = 0; time = 0 };
      areas = record { ffdc = no_area; pass = no_area };
    }

-- document 02, h: "off means 0 left"; the timer is no part of the record
abbrev pub timer_off : Timer
timer_off = record { running = 0; left = 0 }

-- ---- "Worked out"

-- the user cap raised to the minimum or lowered to the maximum
unfoldable pub clamped : Caps → ℕ → ℕ
clamped caps user = cond (ltb user caps.min) caps.min (cond (ltb caps.max user) caps.max user)

-- limit: 0 for a slave or without caps received; else the maximum if the user cap is 0; else the user cap, clamped
unfoldable pub limit_of : ℕ → ℕ → Caps → ℕ → ℕ
limit_of role got caps user =
    cond (eqb role 0) 0 (cond (eqb got 0) 0 (cond (eqb user 0) caps.max (clamped caps user)))

-- observation-ready: role and thermal received, for a master (1) also caps
unfoldable pub observation_ready : Received → ℕ → Bool
observation_ready got role =
    cond (eqb got.role 0) false
    (cond (eqb got.thermal 0) false
    (cond (eqb role 1) (not (eqb got.caps 0)) true))

-- active-ready: that and throttles received
unfoldable pub active_ready : Received → ℕ → Bool
active_ready got role = cond (observation_ready got role) (not (eqb got.throttles 0)) false

unfoldable pub caps_missing : Received → ℕ → Bool
caps_missing got role = cond (eqb role 1) (eqb got.caps 0) false

-- wanted format: first not received of 0x03, 0x13, 0x07 (master only), 0x12; else 0x00 (H)
unfoldable pub wanted_of : Received → ℕ → ℕ
wanted_of got role =
    cond (eqb got.role 0) 0x03
    (cond (eqb got.thermal 0) 0x13
    (cond (caps_missing got role) 0x07
    (cond (eqb got.throttles 0) 0x12 0x00)))

-- a mark, as the record stores it
unfoldable pub flag_of : Bool → ℕ
flag_of on = cond on 1 0

unfoldable pub worked_of : Record → Worked
worked_of r =
    record {
      limit = limit_of r.role r.received.caps r.caps r.user;
      observation = flag_of (observation_ready r.received r.role);
      active = flag_of (active_ready r.received r.role);
      wanted = wanted_of r.received r.role;
    }
