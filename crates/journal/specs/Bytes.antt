-- Document 01, "The journal": each kind's body, holding what was before (in the redo store of document 02, what was after), field after field.
use Rattle.std.specs.Prelude.{ℕ, ◌≤◌, ◌≡◌, List, [], ◌∷◌, ◌++◌}
use Rattle.wire.specs.Wire.{to_be}
use Rattle.record.specs.declared.Log.{Log}
use Rattle.record.specs.declared.Caps.{Caps}
use Rattle.record.specs.declared.Area.{Area}
use Rattle.record.specs.declared.Areas.{Areas}
use Rattle.record.specs.declared.Throttles.{Throttles}
use Rattle.change.specs.declared.Change.{Change}
use Rattle.change.specs.declared.Change.TheVariants.{Clear, Unclear, SetState, SetRole, SetCaps, SetUser, SetThermal, SetThrottles, Reset, Unreset, SetMask, SetDeadman, SetAreas, SetTimer}
use Rattle.change.specs.declared.Tables.{Tables}
use Rattle.change.specs.declared.Edit.{Edit}
use Rattle.change.specs.Change.{kind_of}
use Rattle.entries.specs.Entries.{Entry, body_len, bytes_of}

-- 01 clear: place, id, reason
unfoldable pub cleared_body : ℕ → Log → List ℕ
cleared_body place log = place ∷ log.id ∷ log.reason ∷ []

-- 04 received, three caps (7)
unfoldable pub caps_body : ℕ → Caps → List ℕ
caps_body got caps = got ∷ (to_be 2 caps.min ++ (to_be 2 caps.max ++ to_be 2 caps.over))

-- 07 received, 2 presence bytes, 16×10 bytes
unfoldable pub throttles_body : ℕ → Throttles → List ℕ
throttles_body got t = got ∷ (to_be 2 t.present ++ t.sets)

-- 0A running, time (9); 0C, document 02, h: "running byte and 8 bytes left"
unfoldable pub clock_body : ℕ → ℕ → List ℕ
clock_body running time = running ∷ to_be 8 time

-- 0B both areas, FFDC first, address then size (24)
unfoldable pub area_bytes : Area → List ℕ
area_bytes area = to_be 8 area.address ++ to_be 4 area.size

unfoldable pub areas_body : Areas → List ℕ
areas_body areas = area_bytes areas.ffdc ++ area_bytes areas.pass

-- the body of a change, with the tables beside it. `Clear` and `Reset` are what was after
unfoldable pub body_of : Tables → Change → List ℕ
body_of t (Clear place log) = cleared_body place log
body_of t (Unclear place log) = cleared_body place log
body_of t (SetState state) = state ∷ []
body_of t (SetRole got role) = got ∷ role ∷ []
body_of t (SetCaps got caps) = caps_body got caps
body_of t (SetUser user) = to_be 2 user
body_of t (SetThermal got) = got ∷ t.thermal
body_of t (SetThrottles got) = throttles_body got t.throttles
body_of t (Reset log) = log.id ∷ log.reason ∷ []
body_of t (Unreset state made) = state ∷ made ∷ []
body_of t (SetMask mask) = to_be 4 mask
body_of t (SetDeadman deadman) = clock_body deadman.running deadman.time
body_of t (SetAreas areas) = areas_body areas
body_of t (SetTimer timer) = clock_body timer.running timer.left

-- n as bytes is the change's body, where that has eight bytes at most
pub record Spells (n : ℕ) (ch : Change) : Type 0 where
  pub body : (t : Tables) → body_len (kind_of ch) ≤ 8 → to_be (body_len (kind_of ch)) n ≡ body_of t ch

unfoldable pub entry_for : Edit → Entry
entry_for e = record { kind = kind_of e.change; body = body_of e.tables e.change }

unfoldable pub entry_bytes : Edit → List ℕ
entry_bytes e = bytes_of (entry_for e)
