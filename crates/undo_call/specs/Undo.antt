-- Document 01, "The journal" and "Session answers", and document 02, d: what the calls `undo` and `redo` come to, for every session. Undo takes the
-- journal's newest entry back, redo puts the redo store's newest in again: one road, walked both ways.
use Rattle.std.specs.Prelude.{ℕ, ◌-◌, cond, not, List, [], ◌≡◌, length, take, drop, eqb, Option, None, Some, Ok, Err}
use Rattle.wire.specs.Conditions.{◌and◌}
use Rattle.record.specs.declared.Record.{Record}
use Rattle.record.specs.declared.Timer.{Timer}
use Rattle.change.specs.Change.{put_of}
use Rattle.change.specs.declared.Edit.{Edit}
use Rattle.formed.specs.Formed.{record_ok}
use Rattle.entries.specs.Entries.{scan, Reading, reading_of}
use Rattle.wire.specs.Wire.{pasted}
use Rattle.journal.specs.Ways.{by_way, other}
use Rattle.journal.specs.Bytes.{entry_bytes}
use Rattle.journal.specs.Add.{cut_from}
use Rattle.journal.specs.Read.{got_of}
use Rattle.journal.specs.declared.Way.{Way}
use Rattle.journal.specs.declared.Way.TheVariants.{Before, After}
use Rattle.marks.specs.declared.Mark.{Mark}
use Rattle.marks.specs.declared.Newest.{Newest}
use Rattle.marks.specs.Marks.{marks_of, passed_of, Last}
use Rattle.session.specs.Session.{entries_in, well_formed}
use Rattle.session.specs.Road.{Asks, refuses, moves, store_of, used_of, Said, settled}
use Rattle.session.specs.declared.Session.{Session}
use Rattle.image.specs.declared.Head.{Head}
use Rattle.image.specs.Image.{image_of, head_renewed, head_timed, store_in, with_part, journal_in, marks_in}
use Rattle.layout.specs.Layout.{marks_size, marks_at, image_length}
use Rattle.inplace.specs.declared.Told.{Told}
use Rattle.inplace.specs.InPlace.{Left, Marked, MarkedTo, MarksMore, on_image}

-- ---- the newest entry of a way's store, put into the record

-- 7: it would give an ill-formed record, or what the entry says can't be put in: "7 covers redo alike, a clear whose log isn't at its place included"
unfoldable pub put_asks : Way → ℕ → ℕ → Edit → Option Record → Asks
put_asks w next at e None = refuses 7
put_asks w next at e (Some after) = cond (not (record_ok after next)) (refuses 7) (moves w at e)

unfoldable pub edit_asks : Way → Session → ℕ → Edit → Asks
edit_asks w s at e = put_asks w s.next at e (put_of s.held e)

-- the entry stands from `at` to the end of its store's used bytes
unfoldable pub got_asks : Way → Session → ℕ → Option Edit → Asks
got_asks w s at (Some e) = edit_asks w s at e
got_asks w s at None = refuses 1

unfoldable pub entry_asks : Way → Session → ℕ → Asks
entry_asks w s at = got_asks w s at (got_of w (take (used_of w s - at) (drop at (store_of w s))))

unfoldable pub read_asks : Way → Session → Reading → Asks
read_asks w s (Ok whole) = entry_asks w s whole.newest
read_asks w s (Err broken) = refuses 1

-- 6: undo with an empty journal; "8, nothing to redo, tested where 6 is"
unfoldable pub none_left : Way → ℕ
none_left w = by_way w 6 8

unfoldable pub newest_asks : Way → Session → Asks
newest_asks w s = cond (eqb (used_of w s) 0) (refuses (none_left w)) (read_asks w s (reading_of (scan (take (used_of w s) (store_of w s)))))

-- 1: session not well formed
unfoldable pub move_asks : Way → Session → Asks
move_asks w s = cond (not (well_formed s)) (refuses 1) (newest_asks w s)

-- no reply is written
unfoldable pub move_call : Way → Session → Said
move_call w s = settled s [] (move_asks w s)

abbrev pub undo_call : Session → Said
undo_call s = move_call Before s

abbrev pub redo_call : Session → Said
redo_call s = move_call After s

-- ---- on a session that is lent as its image's bytes: kind and number passed stand beside the answer

-- the head with the timer and the record after it; its entry's store ends at `at` then, the other one at `end`
unfoldable pub head_moved : Head → Way → Timer → Record → ℕ → ℕ → Head
head_moved h w timer held at end = head_renewed (head_timed h timer) held h.next (by_way w at end) (by_way w end at)

-- i: "Report the number passed (0 when refused)", of the entries that the journal holds; redo reports none
unfoldable pub passed_by : Way → Session → ℕ
passed_by w s = by_way w (passed_of (length (entries_in s.used s.journal))) 0

unfoldable pub moved_left : ℕ → Said → Left
moved_left passed q =
    record { told = record { answer = q.answer; small = cond (eqb q.answer 0) passed 0; beside = q.kind }; image = image_of q.session; reply = q.reply }

-- what is asked of a session, settled on its image
unfoldable pub moved_by : Way → Session → Asks → Left
moved_by w s a = moved_left (passed_by w s) (settled s [] a)

unfoldable pub move_on : Way → List ℕ → Left
move_on w b = on_image b [] (λ (s : Session). moved_left (passed_by w s) (move_call w s))

abbrev pub undo_on : List ℕ → Left
undo_on b = move_on Before b

abbrev pub redo_on : List ℕ → Left
redo_on b = move_on After b

-- what the contracts allow: what is told, and the lent bytes as they are left
abbrev pub MoveAllows : Way → List ℕ → Told → List ℕ → Type 0
MoveAllows w b told image = (told ≡ (move_on w b).told) and (image ≡ (move_on w b).image)

abbrev pub UndoAllows : List ℕ → Told → List ℕ → Type 0
UndoAllows b told image = MoveAllows Before b told image

abbrev pub RedoAllows : List ℕ → Told → List ℕ → Type 0
RedoAllows b told image = MoveAllows After b told image

-- ---- an entry moved: y are the lent bytes b without the one at `at`, and with what takes the change back in the other store

pub record Moved (w : Way) (at from to : ℕ) (back : Edit) (b y : List ℕ) : Type 0 where
  pub less : store_in w y ≡ cut_from at from (store_in w b)
  pub more : store_in (other w) y ≡ pasted to (entry_bytes back) (store_in (other w) b)
  pub marks_kept : marks_in y ≡ marks_in b
  pub long : length y ≡ image_length

-- ---- the marks (i)

-- where undo begins to look for the newest entry: at the last mark; redo at the front of its store
abbrev pub LooksFrom : Way → List ℕ → ℕ → Type 0
LooksFrom Before b from = (x : Mark) × Last (marks_in b) x × (from ≡ x.place)
LooksFrom After b from = from ≡ 0

-- the newest entry of a store that has one is found at its place, and the number passed is the one to report
abbrev pub NewestFound : Way → Session → Option Newest → Type 0
NewestFound w s (Some x) =
    (count : ℕ) × (reading_of (scan (take (used_of w s) (store_of w s))) ≡ Ok (record { count = count; newest = x.place })) × (x.passed ≡ passed_by w s)
NewestFound w s None = ⊥

-- before an entry is moved: undo takes the newest away, redo puts one more at the used end
abbrev pub MarksBefore : Way → ℕ → ℕ → List ℕ → Type 0
MarksBefore Before used at b = MarkedTo used at b
MarksBefore After used at b = Marked used b

-- and y are the bytes after it
abbrev pub MarksAfter : Way → ℕ → ℕ → List ℕ → List ℕ → Type 0
MarksAfter Before used at b y = y ≡ with_part marks_size marks_at (marks_of (entries_in at (journal_in b))) b
MarksAfter After used at b y = MarksMore used b y
