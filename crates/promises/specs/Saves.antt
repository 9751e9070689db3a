-- Document 02, m: which saved sessions read, which can go down, and when each number is given, as plain conditions.
use Rattle.std.specs.Prelude.{ℕ, ◌+◌, ◌≤◌, ◌<◌, true, List, [], ◌∷◌, ◌≡◌, length, get_or, take, drop, replicate}
use Rattle.wire.specs.Conditions.{◌and◌, is, row}
use Rattle.record.specs.Record.{timer_off}
use Rattle.entries.specs.Entries.{Entry, entries_of, scan}
use Rattle.marks.specs.Marks.{marks_of}
use Rattle.session.specs.Session.{entries_in, well_formed}
use Rattle.session.specs.declared.Session.{Session}
use Rattle.image.specs.Image.{number_at, record_in, session_of}
use Rattle.layout.specs.Layout.{image_length}
use Rattle.saving.specs.Forms.{padded, session_of_base, session_of_saved}
use Rattle.saving.specs.Moves.{Outcome}
use Rattle.promises.specs.Demand2.{at_front}

-- document 01's first rule: DVFS at most ERROR, 0xFF compared as a number, of each FRU type's three bytes
abbrev pub FirstRule : List ℕ → Type 0
FirstRule t = (get_or t 0 0 ≤ get_or t 1 0) and (get_or t 3 0 ≤ get_or t 4 0) and (get_or t 6 0 ≤ get_or t 7 0)

-- an entry that the base version's journal can hold: none of kind 0C; one of kind 06 has a received mark and then the nine bytes
abbrev pub BaseEntry : Entry → Type 0
BaseEntry e = (e.kind ≡ 0x0C → ⊥) and (e.kind ≡ 0x06 → FirstRule (drop 1 e.body))

abbrev pub BaseEntries : List Entry → Type 0
BaseEntries [] = Unit {0}
BaseEntries (e ∷ es) = BaseEntry e and BaseEntries es

-- "no threshold, now or in the journal, that document 01's first rule forbids", and no kind 0C entry
pub record BaseHolds (s : Session) : Type 0 where
  pub thresholds : FirstRule s.held.thermal
  pub entries : BaseEntries (entries_in s.used s.journal)

-- "Moving down is possible only with an empty redo store, the full profile, no kind 0C entry or timer, and no threshold .."
pub record CanGoDown (s : Session) : Type 0 where
  pub redo : s.ahead ≡ 0
  pub profile : s.profile ≡ 0
  pub timer : s.timer.running ≡ 0
  pub base : BaseHolds s

-- ---- what reads

-- a base save: record and next id, 232 bytes, and the used journal, 2,048 at most; well formed, by document 01's first rule
pub record BaseSave (b : List ℕ) : Type 0 where
  pub long : 232 ≤ length b
  pub most : length b ≤ 2280
  pub formed : well_formed (session_of_base b) ≡ true
  pub base : BaseHolds (session_of_base b)

-- the new form: seven parts, each with its kind first; well formed
pub record NewSave (b : List ℕ) : Type 0 where
  pub long : length b ≡ 4409
  pub record_part : get_or b 0 0 ≡ 0x01
  pub next_part : get_or b 231 0 ≡ 0x02
  pub journal_part : get_or b 234 0 ≡ 0x03
  pub redo_part : get_or b 2283 0 ≡ 0x04
  pub marks_part : get_or b 4332 0 ≡ 0x05
  pub profile_part : get_or b 4397 0 ≡ 0x06
  pub timer_part : get_or b 4399 0 ≡ 0x07
  pub formed : well_formed (session_of_saved b) ≡ true

-- the image of a well-formed session
abbrev pub FormedImage : List ℕ → Type 0
FormedImage b = (length b ≡ image_length) and (well_formed (session_of b) ≡ true)

-- ---- "11 won't read or is ill formed .., 12 can't go down, 13 output buffer too short, in that order"

unfoldable pub SaveAnswer : List ℕ → List ℕ → ℕ → Type 0
SaveAnswer b out = row 1 (FormedImage b → ⊥) (row 13 (length out < 4409) (is 0))

unfoldable pub RestoreAnswer : List ℕ → List ℕ → ℕ → Type 0
RestoreAnswer saved d = row 1 (length d ≡ image_length → ⊥) (row 11 (NewSave saved → ⊥) (is 0))

unfoldable pub MoveUpAnswer : List ℕ → List ℕ → ℕ → Type 0
MoveUpAnswer saved out = row 11 (BaseSave saved → ⊥) (row 13 (length out < 4409) (is 0))

-- the base form has 232 bytes and the used journal
unfoldable pub MoveDownAnswer : List ℕ → List ℕ → ℕ → Type 0
MoveDownAnswer saved out = row 11 (NewSave saved → ⊥) (row 12 (CanGoDown (session_of_saved saved) → ⊥) (row 13 (length out < 232 + (session_of_saved saved).used) (is 0)))

-- ---- what a call leaves

abbrev pub Done : Outcome → Type 0
Done q = q.told.answer ≡ 0

-- the bytes that it wrote: as many as are told, at the front of the buffer
abbrev pub written_by : Outcome → List ℕ
written_by q = take q.told.beside q.out

-- these bytes, and no others, were written: their number is told, they stand at the front of the buffer, and the bytes past them are kept
pub record Written (x out : List ℕ) (q : Outcome) : Type 0 where
  pub told : q.told ≡ record { answer = 0; small = 0; beside = length x }
  pub is : written_by q ≡ x
  pub kept : q.out ≡ at_front x out

-- "Moving up leaves redo empty, profile full and timer off, and works the marks out"; record, next id and journal are the save's
pub record LeftByUp (saved : List ℕ) (s : Session) : Type 0 where
  pub held : s.held ≡ record_in saved
  pub next : s.next ≡ number_at 2 230 saved
  pub journal : s.journal ≡ padded (drop 232 saved)
  pub used : s.used ≡ length (drop 232 saved)
  pub redo : s.redo ≡ replicate 2048 0
  pub ahead : s.ahead ≡ 0
  pub profile : s.profile ≡ 0
  pub timer : s.timer ≡ timer_off
  pub marks : s.marks ≡ marks_of (entries_of (scan (drop 232 saved)))

-- a refusal keeps the buffer and tells nothing more
abbrev pub KeptBy : List ℕ → Outcome → Type 0
KeptBy out q = (q.told.answer ≡ 0 → ⊥) → (q.out ≡ out) × (q.told.small ≡ 0) × (q.told.beside ≡ 0)
