-- Document 02, a: a trace played from a fresh session. What each entry asks for, its line, and how the whole ends; a session is lent as its image.
use Rattle.std.specs.Prelude.{ℕ, suc, ◌+◌, ◌*◌, ◌≤◌, Bool, false, cond, not, ◌≡◌, List, [], ◌∷◌, ◌++◌, ltb, eqb, length, get_or, take, drop, replicate, Result, Ok, Err}
use Rattle.wire.specs.Wire.{pasted, joined}
use Rattle.wire.specs.Conditions.{◌and◌}
use Rattle.io.specs.Counts.{IsPrefixLen}
use Rattle.text.specs.Text.{ascii, line_end, hexes, decimal}
use Rattle.text.specs.Pages.{Puts}
use Rattle.text.specs.declared.Page.{Page}
use Rattle.entries.specs.Entries.{Entry, entry_of, entries_of, reading_of, Reading}
use Rattle.entries.specs.declared.Fault.{Fault}
use Rattle.entries.specs.declared.Fault.TheVariants.{UnknownKind, Cut}
use Rattle.trace.specs.Trace.{trace_table, trace_scan}
use Rattle.session.specs.Session.{fresh_session}
use Rattle.image.specs.Image.{image_of}
use Rattle.layout.specs.Layout.{image_length}
use Rattle.inplace.specs.InPlace.{Left}
use Rattle.occ_call.specs.Occ.{occ_on}
use Rattle.sbe_call.specs.Sbe.{sbe_on}
use Rattle.undo_call.specs.Undo.{undo_on}
use Rattle.playing.specs.declared.Played.{Played}
use Rattle.playing.specs.declared.NotPlayed.{NotPlayed}
use Rattle.playing.specs.declared.NotPlayed.TheVariants.{NoImage, NoRoom}

-- ---- an entry is a call

-- the session answer, the lent session after the call, and "the reply's status bytes .. if a reply was written"
pub record Heard : Type 0 where
  pub answer : ℕ
  pub image : List ℕ
  pub status : List ℕ

-- a reply is written on answer 0
unfoldable pub if_written : ℕ → List ℕ → List ℕ
if_written answer status = cond (not (eqb answer 0)) [] status

unfoldable pub heard_with : Left → List ℕ → Heard
heard_with x status = record { answer = x.told.answer; image = x.image; status = if_written x.told.answer status }

-- the OCC's status is the third byte of its reply
abbrev pub occ_heard : Left → Heard
occ_heard x = heard_with x (take 1 (drop 2 x.reply))

-- the SBE's, primary and secondary, the first four
abbrev pub sbe_heard : Left → Heard
sbe_heard x = heard_with x (take 4 x.reply)

-- undo writes none
abbrev pub undo_heard : Left → Heard
undo_heard x = heard_with x []

-- "03 the 32 request bytes, 04 undo with no body", and "01 is sender and 64 command bytes, 02 sender and 4,096 command bytes"; the reply buffers
-- are long enough, and zero
unfoldable pub heard : List ℕ → Entry → Heard
heard b e =
    cond (eqb e.kind 0x03) (sbe_heard (sbe_on b e.body (replicate 32 0) [] []))
    (cond (eqb e.kind 0x04) (undo_heard (undo_on b))
    (occ_heard (occ_on b (get_or e.body 0 0) (drop 1 e.body) (replicate 4096 0))))

-- ---- its line, in pieces

-- nothing, or a blank and the bytes in hex
unfoldable pub status_text : List ℕ → List (List ℕ)
status_text status = cond (eqb (length status) 0) [] (ascii " " ∷ hexes status)

-- "its number from 1 and the session answer in decimal, then the reply's status bytes in hex if a reply was written"
unfoldable pub line_with : ℕ → ℕ → List ℕ → List (List ℕ)
line_with number answer status = decimal number ∷ ascii " " ∷ decimal answer ∷ (status_text status ++ (line_end ∷ []))

abbrev pub line : ℕ → Heard → List (List ℕ)
line number h = line_with number h.answer h.status

-- ---- entries, newest first, played from a fresh session

unfoldable pub image_after : List Entry → List ℕ
image_after [] = image_of fresh_session
image_after (e ∷ es) = (heard (image_after es) e).image

unfoldable pub lines_of : List Entry → List (List ℕ)
lines_of [] = []
lines_of (e ∷ es) = lines_of es ++ line (suc (length es)) (heard (image_after es) e)

-- "A trace with an unknown kind or a cut entry plays up to that entry and then gives its offset": that of its kind
unfoldable pub place_text : List ℕ → ℕ → List (List ℕ)
place_text words at = words ∷ decimal at ∷ line_end ∷ []

unfoldable pub fault_text : Fault → List ℕ
fault_text UnknownKind = ascii "unknown kind at "
fault_text Cut = ascii "cut entry at "

unfoldable pub stop_line : Reading → List (List ℕ)
stop_line (Ok whole) = []
stop_line (Err broken) = place_text (fault_text broken.fault) broken.place

unfoldable pub pieces_of : List ℕ → List (List ℕ)
pieces_of t = lines_of (entries_of (trace_scan t)) ++ stop_line (reading_of (trace_scan t))

unfoldable pub text_of : List ℕ → List ℕ
text_of t = joined (pieces_of t)

-- ---- one entry played on a lent session, its line into a lent buffer

-- a line has at most 34 bytes: a number of 20 digits, an answer of 3, a status of 8, two blanks and the line's end
abbrev pub line_room : ℕ
line_room = 34

-- the session is left as b', and its line is put on the page
pub record Plays (number : ℕ) (h : Heard) (p q : Page) (b' : List ℕ) : Type 0 where
  pub image : b' ≡ h.image
  pub puts : Puts p q (line number h)
  pub fits : length (joined (line number h)) ≤ line_room

-- bytes that are one whole entry
unfoldable pub whole_entry : List ℕ → Bool
whole_entry e = cond (eqb (length e) 0) false (eqb (trace_table (get_or e 0 0)) (length e))

-- the line's length, and the session and the buffer as they are left
pub record Stepped : Type 0 where
  pub count : ℕ
  pub image : List ℕ
  pub out : List ℕ

abbrev pub stepped_to : ℕ → Heard → List ℕ → Stepped
stepped_to number h d = record { count = length (joined (line number h)); image = h.image; out = pasted 0 (joined (line number h)) d }

-- bytes that are no whole entry aren't played, nor is one whose line may have no room: 0, and all is kept
unfoldable pub stepped : List ℕ → ℕ → List ℕ → List ℕ → Stepped
stepped b number e d =
    cond (not (whole_entry e)) (record { count = 0; image = b; out = d })
    (cond (ltb (length d) line_room) (record { count = 0; image = b; out = d })
    (stepped_to number (heard b (entry_of e)) d))

-- what the contract allows: the line's length, and the lent bytes and the buffer as they are left
abbrev pub StepAllows : List ℕ → ℕ → List ℕ → List ℕ → ℕ → List ℕ → List ℕ → Type 0
StepAllows b number e d count image out =
    (count ≡ (stepped b number e d).count) and (image ≡ (stepped b number e d).image) and (out ≡ (stepped b number e d).out)

-- ---- a whole trace

-- a stop line has at most 37 bytes
abbrev pub room_for : ℕ → ℕ
room_for count = line_room * count + 37

-- what is answered, and the session and the buffer as they are left
pub record Replayed : Type 0 where
  pub result : Result Played NotPlayed
  pub image : List ℕ
  pub out : List ℕ

-- bytes that are no image, or a buffer that may have no room: both are kept
unfoldable pub replayed : List ℕ → List ℕ → List ℕ → Replayed
replayed b t d =
    cond (not (eqb (length b) image_length)) (record { result = Err NoImage; image = b; out = d })
    (cond (ltb (length d) (room_for (length (entries_of (trace_scan t))))) (record { result = Err NoRoom; image = b; out = d })
    (record {
      result = Ok (record { length = length (text_of t); reading = reading_of (trace_scan t) });
      image = image_after (entries_of (trace_scan t));
      out = pasted 0 (text_of t) d;
    }))

-- what the contract allows
abbrev pub PlayAllows : List ℕ → List ℕ → List ℕ → Result Played NotPlayed → List ℕ → List ℕ → Type 0
PlayAllows b t d result image out = (result ≡ (replayed b t d).result) and (image ≡ (replayed b t d).image) and (out ≡ (replayed b t d).out)
