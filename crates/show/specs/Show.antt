-- docs/PROTOCOL.md, "show": a definition for each line, in the pieces that are put one after the other.
use Rattle.std.specs.Prelude.{ℕ, zero, suc, ◌+◌, ◌-◌, ◌*◌, ◌/◌, ◌%◌, cond, List, [], ◌∷◌, ◌++◌, eqb, ltb, length, take, get_or, Ok, Err}
use Rattle.wire.specs.Wire.{to_be}
use Rattle.record.specs.Record.{no_log}
use Rattle.record.specs.declared.Area.{Area}
use Rattle.record.specs.declared.Areas.{Areas}
use Rattle.record.specs.declared.Caps.{Caps}
use Rattle.record.specs.declared.Deadman.{Deadman}
use Rattle.record.specs.declared.Log.{Log}
use Rattle.record.specs.declared.Record.{Record}
use Rattle.record.specs.declared.Timer.{Timer}
use Rattle.record.specs.declared.Worked.{Worked}
use Rattle.entries.specs.Entries.{scan, reading_of, Reading}
use Rattle.text.specs.Text.{ascii, line_end, hex_of, hexes, decimal, numbers}

-- ---- words and numbers

-- a number after a blank
unfoldable pub number_text : ℕ → List (List ℕ)
number_text n = ascii " " ∷ decimal n ∷ []

-- a line of a name and a number
unfoldable pub named_text : List ℕ → ℕ → List (List ℕ)
named_text name n = name ∷ (number_text n ++ (line_end ∷ []))

-- "MARK is `not received` for the mark 0, else `received`"
unfoldable pub mark_text : ℕ → List ℕ
mark_text mark = cond (eqb mark 0) (ascii " not received\n") (ascii " received\n")

-- "`no` for 0, else `yes`"
unfoldable pub yes_text : ℕ → List ℕ
yes_text flag = cond (eqb flag 0) (ascii " no\n") (ascii " yes\n")

-- a list where nothing is set
abbrev pub none_text : List (List ℕ)
none_text = ascii " none" ∷ []

-- ---- settings

-- "1 `standby`, 2 `observation`, 3 `active`, else `unknown`"
unfoldable pub state_word : ℕ → List ℕ
state_word n =
    cond (eqb n 1) (ascii " standby\n")
    (cond (eqb n 2) (ascii " observation\n")
    (cond (eqb n 3) (ascii " active\n") (ascii " unknown\n")))

unfoldable pub state_text : ℕ → List (List ℕ)
state_text n = ascii "state" ∷ (number_text n ++ (state_word n ∷ []))

-- "0 `slave`, 1 `master`, else `unknown`"
unfoldable pub role_word : ℕ → List ℕ
role_word n = cond (eqb n 0) (ascii " slave") (cond (eqb n 1) (ascii " master") (ascii " unknown"))

unfoldable pub role_text : ℕ → ℕ → List (List ℕ)
role_text n mark = ascii "role" ∷ (number_text n ++ (role_word n ∷ mark_text mark ∷ []))

-- "minimum, maximum, oversubscription"
unfoldable pub caps_text : Caps → ℕ → List (List ℕ)
caps_text caps mark =
    ascii "caps" ∷ (number_text caps.min ++ (number_text caps.max ++ (number_text caps.over ++ (mark_text mark ∷ []))))

unfoldable pub wanted_text : ℕ → List (List ℕ)
wanted_text wanted = ascii "wanted format " ∷ hex_of wanted ∷ line_end ∷ []

unfoldable pub worked_text : Worked → List (List ℕ)
worked_text w =
    named_text (ascii "limit") w.limit
    ++ (ascii "observation-ready" ∷ yes_text w.observation ∷ ascii "active-ready" ∷ yes_text w.active ∷ wanted_text w.wanted)

unfoldable pub settings_text : Record → Worked → List (List ℕ)
settings_text r w =
    state_text r.state
    ++ (role_text r.role r.received.role
    ++ (caps_text r.caps r.received.caps
    ++ (named_text (ascii "user cap") r.user
    ++ worked_text w)))

-- ---- lists

-- "the nine thermal bytes"
unfoldable pub thresholds_text : List ℕ → ℕ → List (List ℕ)
thresholds_text thermal mark = ascii "thresholds" ∷ (numbers thermal ++ (mark_text mark ∷ []))

-- `what` of each number from i on whose bit is set: `bit` gives the next one, `rest` takes it off
unfoldable pub where_set : (ℕ → ℕ) → (ℕ → ℕ) → (ℕ → List (List ℕ)) → ℕ → ℕ → ℕ → List (List ℕ)
where_set bit rest what zero i bits = []
where_set bit rest what (suc n) i bits = cond (eqb (bit bits) 0) [] (what i) ++ where_set bit rest what n (suc i) (rest bits)

-- "each present pair as `hub.MBA`": pair 2 x hub + MBA
unfoldable pub pair_text : ℕ → List (List ℕ)
pair_text pair = number_text (pair / 2) ++ (ascii "." ∷ decimal (pair % 2) ∷ [])

-- pair 0 is the least significant bit
abbrev pub pairs_from : ℕ → ℕ → ℕ → List (List ℕ)
pairs_from n pair bits = where_set (λ b. b % 2) (λ b. b / 2) pair_text n pair bits

unfoldable pub pairs_text : ℕ → List (List ℕ)
pairs_text present = cond (eqb present 0) none_text (pairs_from 16 0 present)

unfoldable pub throttles_text : ℕ → ℕ → List (List ℕ)
throttles_text present mark = ascii "throttles" ∷ (pairs_text present ++ (mark_text mark ∷ []))

-- "each place whose id isn't 0 as `id:reason`"
unfoldable pub log_text : Log → List (List ℕ)
log_text log = cond (eqb log.id 0) [] (number_text log.id ++ (ascii ":" ∷ decimal log.reason ∷ []))

unfoldable pub places_text : Log → Log → Log → Log → List (List ℕ)
places_text a b c d =
    cond (eqb (a.id + b.id + c.id + d.id) 0) none_text
    (log_text a ++ (log_text b ++ (log_text c ++ log_text d)))

unfoldable pub logs_text : List Log → List (List ℕ)
logs_text l = ascii "logs" ∷ (places_text (get_or l 0 no_log) (get_or l 1 no_log) (get_or l 2 no_log) (get_or l 3 no_log) ++ (line_end ∷ []))

-- "the numbers of the mask's bits that are set, bit 0 the most significant" of 32
abbrev pub cores_from : ℕ → ℕ → ℕ → List (List ℕ)
cores_from n core bits = where_set (λ b. b / 0x8000_0000) (λ b. b % 0x8000_0000 * 2) number_text n core bits

unfoldable pub cores_text : ℕ → List (List ℕ)
cores_text mask = cond (eqb mask 0) none_text (cores_from 32 0 mask)

unfoldable pub mask_text : ℕ → List (List ℕ)
mask_text mask = ascii "cores out" ∷ (cores_text mask ++ (line_end ∷ []))

-- ---- the mailbox's parts

-- "`off` for running 0, else `on`; the time"
unfoldable pub deadman_text : Deadman → List (List ℕ)
deadman_text d = cond (eqb d.running 0) (named_text (ascii "deadman off") d.time) (named_text (ascii "deadman on") d.time)

-- "16 and 8 hex digits"
unfoldable pub area_text : List ℕ → Area → List (List ℕ)
area_text name area = name ∷ (hexes (to_be 8 area.address) ++ (ascii " " ∷ (hexes (to_be 4 area.size) ++ (line_end ∷ []))))

unfoldable pub areas_text : Areas → List (List ℕ)
areas_text areas = area_text (ascii "area ffdc ") areas.ffdc ++ area_text (ascii "area pass ") areas.pass

unfoldable pub rest_text : Record → List (List ℕ)
rest_text r =
    thresholds_text r.thermal r.received.thermal
    ++ (throttles_text r.throttles.present r.received.throttles
    ++ (logs_text r.logs
    ++ (mask_text r.mask
    ++ (deadman_text r.deadman
    ++ areas_text r.areas))))

-- ---- the stores

-- the number of entries after the name for a whole store, or the place where they break off after the one for a damaged store
unfoldable pub reading_text : List ℕ → List ℕ → Reading → List (List ℕ)
reading_text whole damaged (Ok read) = named_text whole read.count
reading_text whole damaged (Err broken) = named_text damaged broken.place

-- the first `used` bytes of a store, or the line for a used length that is too long
unfoldable pub store_text : List ℕ → List ℕ → List ℕ → List ℕ → ℕ → List (List ℕ)
store_text whole damaged long s used =
    cond (ltb (length s) used) (long ∷ []) (reading_text whole damaged (reading_of (scan (take used s))))

-- "`redo N`, `redo damaged at N` or `redo too long`"
unfoldable pub redo_text : List ℕ → ℕ → List (List ℕ)
redo_text redo ahead = store_text (ascii "redo") (ascii "redo damaged at") (ascii "redo too long\n") redo ahead

-- "`journal N`, `damaged at N` or `too long`"; "the unused bytes of the journal; 0 if the used length is over 2,048"
unfoldable pub journal_text : List ℕ → ℕ → List (List ℕ)
journal_text j used =
    store_text (ascii "journal") (ascii "damaged at") (ascii "too long\n") j used ++ named_text (ascii "room") (length j - used)

-- "`timer off` or `timer on N`"; "off for running 0, whatever is left"
unfoldable pub timer_text : Timer → List (List ℕ)
timer_text t = cond (eqb t.running 0) (ascii "timer off\n" ∷ []) (named_text (ascii "timer on") t.left)

-- "0 `full`, 1 `watch-only`, else `unknown`"
unfoldable pub profile_word : ℕ → List ℕ
profile_word n = cond (eqb n 0) (ascii "profile full\n") (cond (eqb n 1) (ascii "profile watch-only\n") (ascii "profile unknown\n"))

unfoldable pub session_text : Record → Worked → ℕ → List ℕ → ℕ → List ℕ → ℕ → Timer → ℕ → List (List ℕ)
session_text r w next j used redo ahead timer profile =
    settings_text r w
    ++ (rest_text r
    ++ (redo_text redo ahead
    ++ (timer_text timer
    ++ (profile_word profile
    ∷ (named_text (ascii "next id") next
    ++ (journal_text j used
    ++ (ascii ".\n" ∷ [])))))))
