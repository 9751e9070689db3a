-- Document 01, "0x00 poll": the 40 data bytes and the CAPS block (source 2.1 and 7.4), field after field.
use Rattle.std.specs.Prelude.{ℕ, ◌+◌, ◌*◌, Bool, false, cond, not, List, [], ◌∷◌, ◌++◌, get_or, replicate, eqb}
use Rattle.wire.specs.Wire.{to_be}
use Rattle.record.specs.Record.{no_log}
use Rattle.record.specs.declared.Log.{Log}
use Rattle.record.specs.declared.Caps.{Caps}
use Rattle.record.specs.declared.Record.{Record}
use Rattle.record.specs.declared.Worked.{Worked}

-- "status (bit 7, 0x80, master; 1, 0x02, observation-ready; 0, 0x01, active-ready)"
unfoldable pub master_bit : ℕ → ℕ
master_bit role = cond (eqb role 1) 0x80 0x00

unfoldable pub mark_bit : ℕ → ℕ → ℕ
mark_bit mark bit = cond (eqb mark 0) 0x00 bit

unfoldable pub status_byte : ℕ → Worked → ℕ
status_byte role w = master_bit role + mark_bit w.observation 0x02 + mark_bit w.active 0x01

-- "oldest pending log id or 0; its address (id × 256, 4 bytes) and length 0x0010, both zero without a log"
unfoldable pub oldest_id : List Log → ℕ
oldest_id logs = (get_or logs 0 no_log).id

unfoldable pub log_length : ℕ → ℕ
log_length id = cond (eqb id 0) 0x00 0x10

-- "sixteen bytes "bench" and zeros; "SENSOR""
abbrev pub code_level : List ℕ
code_level = 0x62 ∷ 0x65 ∷ 0x6E ∷ 0x63 ∷ 0x68 ∷ replicate 11 0

abbrev pub sensor_text : List ℕ
sensor_text = 0x53 ∷ 0x45 ∷ 0x4E ∷ 0x53 ∷ 0x4F ∷ 0x52 ∷ []

-- status; 0; OCCs present 0x01; wanted format; state; 0, 0; oldest id; address; length; 0, 0; code level; "SENSOR"; block count; 0x01
unfoldable pub poll_head : ℕ → ℕ → ℕ → ℕ → ℕ → List ℕ
poll_head status wanted state id blocks =
    status ∷ 0 ∷ 0x01 ∷ wanted ∷ state ∷ 0 ∷ 0 ∷ id
    ∷ (to_be 4 (id * 256) ++ (to_be 2 (log_length id) ++ (0 ∷ 0 ∷ (code_level ++ (sensor_text ++ (blocks ∷ 0x01 ∷ []))))))

-- header "CAPS", 0x00, version 0x01, length 0x0C, one sensor; "cap in force is the limit, reading 0, redundant cap the maximum", then
-- maximum, minimum, user cap
unfoldable pub caps_block : ℕ → Caps → ℕ → List ℕ
caps_block limit caps user =
    0x43 ∷ 0x41 ∷ 0x50 ∷ 0x53 ∷ 0x00 ∷ 0x01 ∷ 0x0C ∷ 0x01
    ∷ (to_be 2 limit ++ (to_be 2 0 ++ (to_be 2 caps.max ++ (to_be 2 caps.max ++ (to_be 2 caps.min ++ to_be 2 user)))))

-- "A master with caps received adds one CAPS block. Otherwise there are no blocks (H)"
unfoldable pub shows_caps : ℕ → ℕ → Bool
shows_caps role got = cond (not (eqb role 1)) false (not (eqb got 0))

unfoldable pub poll_data : Record → Worked → List ℕ
poll_data r w =
    cond (not (shows_caps r.role r.received.caps))
    (poll_head (status_byte r.role w) w.wanted r.state (oldest_id r.logs) 0)
    (poll_head (status_byte r.role w) w.wanted r.state (oldest_id r.logs) 1 ++ caps_block w.limit r.caps r.user)
