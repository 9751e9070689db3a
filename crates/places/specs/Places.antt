-- Document 02, c: the first fault of a command's data, as the code looks for it. d is the data; where its length is wrong (0x12) no byte
-- is judged. All faults: Faults.antt.
use Rattle.std.specs.List.{list_any, range_with_len}
use Rattle.std.specs.Prelude.{ℕ, zero, suc, ◌+◌, ◌-◌, ◌*◌, Bool, true, false, cond, not, List, length, get_or, take, drop, ltb, eqb}
use Rattle.std.specs.Option.{is_some}
use Rattle.places.specs.declared.Fault.{Fault}
use Rattle.wire.specs.Wire.{be_nat}
use Rattle.record.specs.declared.Log.{Log}
use Rattle.record.specs.declared.Caps.{Caps}
use Rattle.record.specs.declared.Record.{Record}
use Rattle.change.specs.Logs.{find_of}
use Rattle.formed.specs.Formed.{in_order}
use Rattle.occ.specs.Commands.{user_allowed}
use Rattle.places.specs.declared.Reason.{Reason}
use Rattle.places.specs.declared.Reason.TheVariants.{BadVersion, BadCount, OutOfRange, Repeated, Clash, NotPending}
use Rattle.std.specs.Prelude.{Option, Some, None}
use Rattle.places.specs.declared.SetTable.{SetTable}
use Rattle.places.specs.declared.SetTable.TheVariants.{Throttles, Thermal}

unfoldable pub wrong : Reason → ℕ → Option Fault
wrong reason at = Some (record { reason = reason; at = at })

-- a row of tests in the order of the bytes: where one holds, its fault is the one
abbrev test : Bool → Reason → ℕ → Option Fault → Option Fault
test b reason at rest = cond b (wrong reason at) rest

-- the length that a type asks for
abbrev sized : ℕ → List ℕ → Option Fault → Option Fault
sized n d found = cond (not (eqb (length d) n)) None found

-- ---- the small commands

unfoldable pub poll_fault : List ℕ → Option Fault
poll_fault d = sized 1 d (test (not (eqb (get_or d 0 0) 0x10)) BadVersion 1 None)

unfoldable pub clear_fault : List Log → List ℕ → Option Fault
clear_fault logs d = sized 1 d (test (not (is_some (find_of (get_or d 0 0) logs))) NotPending 1 None)

unfoldable pub state_fault : List ℕ → Option Fault
state_fault d =
    sized 3 d
    (test (not (eqb (get_or d 0 0) 0)) BadVersion 1
    (test (ltb (get_or d 1 0) 1) OutOfRange 2
    (test (ltb 3 (get_or d 1 0)) OutOfRange 2
    (test (not (eqb (get_or d 2 0) 0)) OutOfRange 3
    None))))

unfoldable pub role_fault : List ℕ → Option Fault
role_fault d = sized 2 d (test (ltb 1 (get_or d 1 0)) OutOfRange 2 None)

-- "where two fields clash the later one": the maximum's first byte
unfoldable pub caps_fault : List ℕ → Option Fault
caps_fault d =
    sized 8 d
    (test (not (eqb (get_or d 1 0) 0x10)) BadVersion 2
    (test (ltb (be_nat (take 2 (drop 4 d))) (be_nat (take 2 (drop 2 d)))) Clash 5
    None))

-- "a user cap that isn't allowed is out of range"; "a wide field counts as its first byte"
unfoldable pub user_fault : ℕ → Caps → List ℕ → Option Fault
user_fault got caps d = sized 2 d (test (not (user_allowed got caps (be_nat (take 2 (drop 0 d))))) OutOfRange 1 None)

unfoldable pub reset_fault : List ℕ → Option Fault
reset_fault d =
    sized 2 d
    (test (not (eqb (get_or d 0 0) 0)) BadVersion 1
    (test (ltb 2 (get_or d 1 0)) OutOfRange 2
    None))

-- ---- the formats with sets: hub, MBA and five numbers, or FRU, DVFS, ERROR and timeout

unfoldable pub width_of : SetTable → ℕ
width_of Throttles = 12
width_of Thermal = 4

-- the greatest hub or FRU
unfoldable pub most_of : SetTable → ℕ
most_of Throttles = 7
most_of Thermal = 2

-- the bytes before the i-th set, from 0
abbrev pub start_of : SetTable → ℕ → ℕ
start_of t i = 3 + i * width_of t

-- hub and MBA, or the FRU, of the sets at two places are the same
unfoldable pub same_second : SetTable → List ℕ → ℕ → ℕ → Bool
same_second Throttles d one other = eqb (get_or d (one + 1) 0) (get_or d (other + 1) 0)
same_second Thermal d one other = true

unfoldable pub same_number : SetTable → List ℕ → ℕ → ℕ → Bool
same_number t d one other = cond (not (eqb (get_or d one 0) (get_or d other 0))) false (same_second t d one other)

-- whether a test holds of a number below n
unfoldable pub any_below : (ℕ → Bool) → ℕ → Bool
any_below p n = list_any p (range_with_len 0 n)

-- "where a repeated pair or FRU is seen the second time"
unfoldable pub seen_before : SetTable → List ℕ → ℕ → Bool
seen_before t d i = any_below (λ (k : ℕ). same_number t d (start_of t k) (start_of t i)) i

unfoldable pub rest_fault : SetTable → List ℕ → ℕ → Option Fault
rest_fault Throttles d start = test (ltb 1 (get_or d (start + 1) 0)) OutOfRange (start + 2) None
rest_fault Thermal d start = test (not (in_order (get_or d (start + 1) 0) (get_or d (start + 2) 0))) Clash (start + 3) None

unfoldable pub set_fault : SetTable → List ℕ → ℕ → Option Fault
set_fault t d i =
    test (ltb (most_of t) (get_or d (start_of t i) 0)) OutOfRange (start_of t i + 1)
    (test (seen_before t d i) Repeated (start_of t i + 1)
    (rest_fault t d (start_of t i)))

-- the first one that is found among the first n
unfoldable pub or_else : Option Fault → Option Fault → Option Fault
or_else None found = found
or_else (Some x) found = Some x

unfoldable pub first_below : (ℕ → Option Fault) → ℕ → Option Fault
first_below f zero = None
first_below f (suc i) = or_else (first_below f i) (f i)

unfoldable pub first_set : SetTable → List ℕ → ℕ → Option Fault
first_set t d n = first_below (set_fault t d) n

unfoldable pub count_fault : SetTable → ℕ → List ℕ → Option Fault
count_fault t n d =
    cond (not (eqb (length d - 3) (n * width_of t))) None
    (test (not (eqb (get_or d 1 0) 0x10)) BadVersion 2
    (test (eqb n 0) BadCount 3
    (first_set t d n)))

unfoldable pub sets_fault : SetTable → List ℕ → Option Fault
sets_fault t d = cond (ltb (length d) 3) None (count_fault t (get_or d 2 0) d)

-- ---- every command

-- "An unknown format .. is out of range"
unfoldable pub format_fault : ℕ → List ℕ → Option Fault
format_fault format d =
    cond (eqb format 0x03) (role_fault d)
    (cond (eqb format 0x07) (caps_fault d)
    (cond (eqb format 0x12) (sets_fault Throttles d)
    (cond (eqb format 0x13) (sets_fault Thermal d)
    (wrong OutOfRange 1))))

unfoldable pub configure_fault : List ℕ → Option Fault
configure_fault d = cond (eqb (length d) 0) None (format_fault (get_or d 0 0) d)

unfoldable pub fault_of : Record → ℕ → List ℕ → Option Fault
fault_of r kind d =
    cond (eqb kind 0x00) (poll_fault d)
    (cond (eqb kind 0x12) (clear_fault r.logs d)
    (cond (eqb kind 0x20) (state_fault d)
    (cond (eqb kind 0x21) (configure_fault d)
    (cond (eqb kind 0x22) (user_fault r.received.caps r.caps d)
    (cond (eqb kind 0x25) (reset_fault d)
    None)))))
