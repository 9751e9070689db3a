-- The image of a session: its fields one after the other, numbers big-endian, no padding, 4,411 bytes. Beside each row is its offset.
use Rattle.std.specs.Prelude.{ℕ, ◌+◌, cond, not, List, [], ◌∷◌, ◌++◌, length, get_or, take, drop, eqb}
use Rattle.wire.specs.Wire.{be_nat, to_be, joined}
use Rattle.record.specs.Record.{no_log, worked_of}
use Rattle.record.specs.declared.Log.{Log}
use Rattle.record.specs.declared.Caps.{Caps}
use Rattle.record.specs.declared.Areas.{Areas}
use Rattle.record.specs.declared.Deadman.{Deadman}
use Rattle.record.specs.declared.Received.{Received}
use Rattle.record.specs.declared.Throttles.{Throttles}
use Rattle.record.specs.declared.Record.{Record}
use Rattle.record.specs.declared.Timer.{Timer}
use Rattle.record.specs.declared.Worked.{Worked}
use Rattle.journal.specs.declared.Way.{Way}
use Rattle.journal.specs.declared.Way.TheVariants.{Before, After}
use Rattle.session.specs.declared.Session.{Session}
use Rattle.layout.specs.Layout.{store_size, marks_size, journal_at, ahead_at, redo_at, marks_at, timer_at, profile_at, image_length}
use Rattle.image.specs.declared.Head.{Head}

-- ---- a session as bytes

abbrev pub byte : ℕ → List ℕ
byte n = n ∷ []

unfoldable pub head_rows : ℕ → ℕ → Caps → List (List ℕ)
head_rows state role caps =
    byte state  --   0
    ∷ byte role  --   1
    ∷ to_be 2 caps.min  --   2
    ∷ to_be 2 caps.max  --   4
    ∷ to_be 2 caps.over  --   6
    ∷ []

unfoldable pub throttles_rows : Throttles → List (List ℕ)
throttles_rows t =
    to_be 2 t.present  --   8
    ∷ t.sets  --  10
    ∷ []

unfoldable pub thermal_rows : ℕ → List ℕ → List (List ℕ)
thermal_rows user thermal =
    to_be 2 user  -- 170
    ∷ thermal  -- 172
    ∷ []

unfoldable pub logs_rows : Received → List Log → List (List ℕ)
logs_rows got logs =
    byte got.role  -- 181
    ∷ byte got.caps  -- 182
    ∷ byte got.throttles  -- 183
    ∷ byte got.thermal  -- 184
    ∷ byte (get_or logs 0 no_log).id  -- 185
    ∷ byte (get_or logs 0 no_log).reason  -- 186
    ∷ byte (get_or logs 1 no_log).id  -- 187
    ∷ byte (get_or logs 1 no_log).reason  -- 188
    ∷ byte (get_or logs 2 no_log).id  -- 189
    ∷ byte (get_or logs 2 no_log).reason  -- 190
    ∷ byte (get_or logs 3 no_log).id  -- 191
    ∷ byte (get_or logs 3 no_log).reason  -- 192
    ∷ []

unfoldable pub mailbox_rows : ℕ → Deadman → Areas → List (List ℕ)
mailbox_rows mask deadman areas =
    to_be 4 mask  -- 193
    ∷ byte deadman.running  -- 197
    ∷ to_be 8 deadman.time  -- 198
    ∷ to_be 8 areas.ffdc.address  -- 206
    ∷ to_be 4 areas.ffdc.size  -- 214
    ∷ to_be 8 areas.pass.address  -- 218
    ∷ to_be 4 areas.pass.size  -- 226
    ∷ []

unfoldable pub worked_rows : Worked → ℕ → ℕ → List (List ℕ)
worked_rows worked next used =
    to_be 2 worked.limit  -- 230
    ∷ byte worked.observation  -- 232
    ∷ byte worked.active  -- 233
    ∷ byte worked.wanted  -- 234
    ∷ to_be 2 next  -- 235
    ∷ to_be 2 used  -- 237
    ∷ []

unfoldable pub record_rows : Record → List (List ℕ)
record_rows r =
    head_rows r.state r.role r.caps
    ++ (throttles_rows r.throttles
    ++ (thermal_rows r.user r.thermal
    ++ (logs_rows r.received r.logs
    ++ mailbox_rows r.mask r.deadman r.areas)))

-- the timer's rows, and the profile's behind them
unfoldable pub timer_rows : Timer → ℕ → List (List ℕ)
timer_rows t profile =
    byte t.running  -- 4401
    ∷ to_be 8 t.left  -- 4402
    ∷ byte profile  -- 4410
    ∷ []

-- what stands after the redo store, as wide as `later_widths` says (layout/specs/Layout.antt)
abbrev pub later_rows : Session → List (List ℕ)
later_rows s =
    s.marks  -- 4337
    ∷ timer_rows s.timer s.profile

unfoldable pub session_rows : Session → List (List ℕ)
session_rows s =
    record_rows s.held
    ++ (worked_rows s.worked s.next s.used
    ++ (s.journal  -- 239
    ∷ to_be 2 s.ahead  -- 2287
    ∷ s.redo  -- 2289
    ∷ later_rows s))

unfoldable pub image_of : Session → List ℕ
image_of s = joined (session_rows s)

-- ---- bytes as a session

abbrev pub byte_at : ℕ → List ℕ → ℕ
byte_at at b = get_or b at 0

-- so many bytes, and the number that they spell
abbrev pub part_at : ℕ → ℕ → List ℕ → List ℕ
part_at n at b = take n (drop at b)

abbrev pub number_at : ℕ → ℕ → List ℕ → ℕ
number_at n at b = be_nat (part_at n at b)

unfoldable pub caps_in : List ℕ → Caps
caps_in b = record { min = number_at 2 2 b; max = number_at 2 4 b; over = number_at 2 6 b }

unfoldable pub throttles_in : List ℕ → Throttles
throttles_in b = record { present = number_at 2 8 b; sets = part_at 160 10 b }

unfoldable pub received_in : List ℕ → Received
received_in b = record { role = byte_at 181 b; caps = byte_at 182 b; throttles = byte_at 183 b; thermal = byte_at 184 b }

unfoldable pub log_at : ℕ → List ℕ → Log
log_at at b = record { id = byte_at at b; reason = byte_at (at + 1) b }

unfoldable pub logs_in : List ℕ → List Log
logs_in b = log_at 185 b ∷ log_at 187 b ∷ log_at 189 b ∷ log_at 191 b ∷ []

unfoldable pub deadman_in : List ℕ → Deadman
deadman_in b = record { running = byte_at 197 b; time = number_at 8 198 b }

unfoldable pub areas_in : List ℕ → Areas
areas_in b =
    record {
      ffdc = record { address = number_at 8 206 b; size = number_at 4 214 b };
      pass = record { address = number_at 8 218 b; size = number_at 4 226 b };
    }

unfoldable pub record_in : List ℕ → Record
record_in b =
    record {
      state = byte_at 0 b;
      role = byte_at 1 b;
      caps = caps_in b;
      throttles = throttles_in b;
      user = number_at 2 170 b;
      thermal = part_at 9 172 b;
      received = received_in b;
      logs = logs_in b;
      mask = number_at 4 193 b;
      deadman = deadman_in b;
      areas = areas_in b;
    }

unfoldable pub worked_in : List ℕ → Worked
worked_in b = record { limit = number_at 2 230 b; observation = byte_at 232 b; active = byte_at 233 b; wanted = byte_at 234 b }

unfoldable pub timer_in : List ℕ → Timer
timer_in b = record { running = byte_at timer_at b; left = number_at 8 (timer_at + 1) b }

-- a session's head: all but its journal, its redo store and its marks
unfoldable pub head_in : List ℕ → Head
head_in b = record { held = record_in b; worked = worked_in b; next = number_at 2 235 b; used = number_at 2 237 b; ahead = number_at 2 ahead_at b; timer = timer_in b; profile = byte_at profile_at b }

-- a head from a head: this record, with what is worked out of it, this next id and these used lengths; whatever isn't named here is kept
unfoldable pub head_renewed : Head → Record → ℕ → ℕ → ℕ → Head
head_renewed h held next used ahead = record { held = held; worked = worked_of held; next = next; used = used; ahead = ahead; timer = h.timer; profile = h.profile }

-- and one with another timer
unfoldable pub head_timed : Head → Timer → Head
head_timed h timer = record { held = h.held; worked = h.worked; next = h.next; used = h.used; ahead = h.ahead; timer = timer; profile = h.profile }

-- where each store stands: the journal, which holds what was before, and the redo store, which holds what was after
unfoldable pub store_at : Way → ℕ
store_at Before = journal_at
store_at After = redo_at

abbrev pub store_in : Way → List ℕ → List ℕ
store_in w b = part_at store_size (store_at w) b

-- the bytes with x for the n bytes at a place; with x for the store there
abbrev pub with_part : ℕ → ℕ → List ℕ → List ℕ → List ℕ
with_part n at x b = take at b ++ (x ++ drop n (drop at b))

abbrev pub with_store : ℕ → List ℕ → List ℕ → List ℕ
with_store at x b = with_part store_size at x b

abbrev pub journal_in : List ℕ → List ℕ
journal_in b = part_at store_size journal_at b

abbrev pub redo_in : List ℕ → List ℕ
redo_in b = part_at store_size redo_at b

abbrev pub marks_in : List ℕ → List ℕ
marks_in b = part_at marks_size marks_at b

-- a head, and the stores and marks that stand in the bytes
unfoldable pub session_in : Head → List ℕ → Session
session_in h b =
    record { held = h.held; worked = h.worked; next = h.next; used = h.used; journal = journal_in b; ahead = h.ahead; redo = redo_in b; marks = marks_in b; timer = h.timer; profile = h.profile }

unfoldable pub session_of : List ℕ → Session
session_of b = session_in (head_in b) b

-- ---- a session written into a buffer

-- bytes of another length are kept
unfoldable pub written_to : List ℕ → Session → List ℕ
written_to d s = cond (not (eqb (length d) image_length)) d (image_of s)
