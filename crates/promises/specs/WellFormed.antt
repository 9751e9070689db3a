-- "A session is well formed if": document 01's sentences, one after the other, as plain conditions; the redo store's from document 02, d, the marks' from i, the
-- timer's from h.
use Rattle.std.specs.Prelude.{ℕ, zero, suc, ◌+◌, ◌/◌, ◌%◌, ◌^◌, ◌≤◌, ◌<◌, List, [], ◌∷◌, ◌⊎◌, ◌≡◌, length, get_or, take, drop, Option, Some, None}
use Rattle.wire.specs.Conditions.{◌and◌}
use Rattle.record.specs.Record.{worked_of}
use Rattle.record.specs.declared.Area.{Area}
use Rattle.record.specs.declared.Caps.{Caps}
use Rattle.record.specs.declared.Deadman.{Deadman}
use Rattle.record.specs.declared.Log.{Log}
use Rattle.record.specs.declared.Throttles.{Throttles}
use Rattle.record.specs.declared.Timer.{Timer}
use Rattle.change.specs.declared.Change.{Change}
use Rattle.change.specs.declared.Change.TheVariants.{Clear, Unclear, SetState, SetRole, SetCaps, SetUser, SetThermal, SetThrottles, Reset, Unreset, SetMask, SetDeadman, SetAreas, SetTimer}
use Rattle.change.specs.declared.Tables.{Tables}
use Rattle.formed.specs.Formed.{InOrder}
use Rattle.entries.specs.Entries.{Entry, written, body_len}
use Rattle.marks.specs.Marks.{marks_of}
use Rattle.journal.specs.Read.{found_for, tables_in}
use Rattle.journal.specs.declared.Way.{Way}
use Rattle.journal.specs.declared.Way.TheVariants.{Before, After}
use Rattle.session.specs.declared.Session.{Session}

-- "flags 0 or 1"; received marks are flags. `got` below is such a mark: 0, not received
abbrev pub Flag : ℕ → Type 0
Flag n = n ≤ 1

-- each of these bytes is v
abbrev pub EachIs : ℕ → List ℕ → Type 0
EachIs v [] = Unit {0}
EachIs v (x ∷ l) = (x ≡ v) and EachIs v l

-- ---- "fields are in range (what isn't received is as fresh; minimum ≤ maximum; deadman off has time 0; an absent pair is zero; an area is all zero, or
-- its size isn't 0 and it passes D7 04's tests)"

abbrev pub StateHolds : ℕ → Type 0
StateHolds state = (1 ≤ state) and (state ≤ 3)

abbrev pub RoleHolds : ℕ → ℕ → Type 0
RoleHolds got role = Flag got and (got ≡ 0 → role ≡ 0) and ((got ≡ 0 → ⊥) → role ≤ 1)

abbrev pub CapsHold : ℕ → Caps → Type 0
CapsHold got caps = Flag got and ((got ≡ 0 → ⊥) → caps.min ≤ caps.max) and (got ≡ 0 → (caps.min ≡ 0) and (caps.max ≡ 0) and (caps.over ≡ 0))

abbrev pub DeadmanHolds : Deadman → Type 0
DeadmanHolds d = Flag d.running and (d.running ≡ 0 → d.time ≡ 0)

-- document 02, h, outside the record: "off means 0 left"
abbrev pub TimerHolds : Timer → Type 0
TimerHolds t = Flag t.running and (t.running ≡ 0 → t.left ≡ 0)

-- so many pairs of ten bytes, the first one's bit the lowest
abbrev pub PairsHold : ℕ → ℕ → List ℕ → Type 0
PairsHold zero present sets = Unit {0}
PairsHold (suc n) present sets = ((present % 2 ≡ 1 → ⊥) → EachIs 0 (take 10 sets)) and PairsHold n (present / 2) (drop 10 sets)

abbrev pub ThrottlesHold : ℕ → Throttles → Type 0
ThrottlesHold got t = Flag got and ((got ≡ 0 → ⊥) → PairsHold 16 t.present t.sets) and (got ≡ 0 → (t.present ≡ 0) and EachIs 0 t.sets)

abbrev pub AreaHolds : Area → Type 0
AreaHolds a =
    (a.size ≡ 0 → a.address ≡ 0) and ((a.size ≡ 0 → ⊥) → (a.address % 128 ≡ 0) and (a.address + a.size ≤ 2 ^ 64) and (a.size % 128 ≡ 0))

-- ---- "thresholds obey the thermal rule"; document 02, b: "DVFS at most ERROR where neither is 0xFF"

abbrev pub ThermalHolds : ℕ → List ℕ → Type 0
ThermalHolds got t =
    Flag got and ((got ≡ 0 → ⊥) → InOrder (get_or t 0 0) (get_or t 1 0) and InOrder (get_or t 3 0) (get_or t 4 0) and InOrder (get_or t 6 0) (get_or t 7 0))
    and (got ≡ 0 → EachIs 0xFF t)

-- ---- "pending logs (at most 4) have strictly rising ids, each 1 or more and below the next id (1 to 256), with reason 1 or 2, unused places zero"

abbrev pub Reason : ℕ → Type 0
Reason n = (n ≡ 1) ⊎ (n ≡ 2)

abbrev pub Unused : List Log → Type 0
Unused [] = Unit {0}
Unused (x ∷ l) = (x.id ≡ 0) and (x.reason ≡ 0) and Unused l

-- above the id low
abbrev pub LogsRise : ℕ → ℕ → List Log → Type 0
LogsRise low next [] = Unit {0}
LogsRise low next (x ∷ l) =
    (x.id ≡ 0 → Unused (x ∷ l)) and ((x.id ≡ 0 → ⊥) → ((low < x.id) and (x.id < next) and Reason x.reason) and LogsRise x.id next l)

-- ---- "each body's values ones that a well-formed record could hold (place 0 to 3, id 1 to 255, flags 0 or 1)"

abbrev pub ChangeHolds : Tables → Change → Type 0
ChangeHolds t (Clear place log) = (place ≤ 3) and (log.id ≡ 0 → ⊥) and Reason log.reason
ChangeHolds t (Unclear place log) = (place ≤ 3) and (log.id ≡ 0 → ⊥) and Reason log.reason
ChangeHolds t (SetState state) = StateHolds state
ChangeHolds t (SetRole got role) = RoleHolds got role
ChangeHolds t (SetCaps got caps) = CapsHold got caps
ChangeHolds t (SetUser user) = Unit {0}
ChangeHolds t (SetThermal got) = ThermalHolds got t.thermal
ChangeHolds t (SetThrottles got) = ThrottlesHold got t.throttles
ChangeHolds t (Reset log) = (log.id ≡ 0 → log.reason ≡ 0) and ((log.id ≡ 0 → ⊥) → Reason log.reason)
ChangeHolds t (Unreset state made) = StateHolds state and Flag made
ChangeHolds t (SetMask mask) = Unit {0}
ChangeHolds t (SetDeadman deadman) = DeadmanHolds deadman
ChangeHolds t (SetAreas areas) = AreaHolds areas.ffdc and AreaHolds areas.pass
ChangeHolds t (SetTimer timer) = TimerHolds timer

-- what a body of that kind says
abbrev pub SaysWell : Tables → Option Change → Type 0
SaysWell t (Some change) = ChangeHolds t change
SaysWell t None = ⊥

-- "a body whose length the kind fixes", and its values
abbrev pub EntriesHold : Way → List Entry → Type 0
EntriesHold w [] = Unit {0}
EntriesHold w (e ∷ es) =
    (body_len e.kind ≡ length e.body) and (1 ≤ length e.body) and SaysWell (tables_in e.kind e.body) (found_for w e.kind e.body) and EntriesHold w es

-- "the used journal reads exactly as entries; .. the unused part is zero"; d: "it reads as entries, the rest zero"
pub record StoreHolds (w : Way) (store : List ℕ) (used : ℕ) : Type 0 where
  pub fits : used ≤ length store
  pub entries : List Entry
  pub reads : take used store ≡ written entries
  pub hold : EntriesHold w entries
  pub unused : EachIs 0 (drop used store)

-- k: full, or watch-only, and then "another kind in either store makes the session ill formed"
abbrev pub EachClears : List Entry → Type 0
EachClears [] = Unit {0}
EachClears (e ∷ es) = (e.kind ≡ 0x01) and EachClears es

-- ---- the whole

pub record WellFormed (s : Session) : Type 0 where
  pub state : StateHolds s.held.state
  pub role : RoleHolds s.held.received.role s.held.role
  pub caps : CapsHold s.held.received.caps s.held.caps
  pub deadman : DeadmanHolds s.held.deadman
  pub throttles : ThrottlesHold s.held.received.throttles s.held.throttles
  pub ffdc : AreaHolds s.held.areas.ffdc
  pub pass : AreaHolds s.held.areas.pass
  pub thermal : ThermalHolds s.held.received.thermal s.held.thermal
  pub next : (1 ≤ s.next) and (s.next ≤ 256)
  pub logs : LogsRise 0 s.next s.held.logs
  -- "worked-out values fit the record"
  pub worked : s.worked ≡ worked_of s.held
  -- h
  pub timer : TimerHolds s.timer
  pub journal : StoreHolds Before s.journal s.used
  -- i: "one not at its entry, or unused and not 0, makes it ill formed": they are those of the journal's entries
  pub marks : s.marks ≡ marks_of journal.entries
  pub redo : StoreHolds After s.redo s.ahead
  -- d: "and its length with the journal's is at most 2,048"
  pub both : s.used + s.ahead ≤ 2048
  -- k: the profile is 0, full, or 1, watch-only
  pub profile : (s.profile ≡ 0) ⊎ ((s.profile ≡ 1) and EachClears journal.entries and EachClears redo.entries)
