-- Document 02, a: the calls that a trace's entries are, and the lines that such calls give, one by one.
use Rattle.std.specs.Prelude.{ℕ, suc, ◌<◌, cond, List, [], ◌∷◌, ◌++◌, ◌≡◌, eqb, length, get_or, take, drop, replicate}
use Rattle.entries.specs.Entries.{Entry, written, entries_of}
use Rattle.text.specs.Text.{ascii, line_end, decimal}
use Rattle.trace.specs.Trace.{trace_table, trace_scan}
use Rattle.session.specs.Session.{fresh_session}
use Rattle.image.specs.Image.{image_of}
use Rattle.playing.specs.Playing.{Heard, if_written, line, image_after, pieces_of}
use Rattle.playing.specs.Steps.{oldest_first}
use Rattle.session.specs.Road.{Said}
use Rattle.promises.specs.Calls.{Call, occ, sbe, undo, redo, forget, time, said}
use Rattle.promises.specs.History.{Run, next_run, run, start}

-- "01 is sender and 64 command bytes, 02 sender and 4,096 command bytes, 03 the 32 request bytes, 04 undo with no body"
unfoldable pub call_of : Entry → Call
call_of e =
    cond (eqb e.kind 0x03) (sbe e.body (replicate 32 0) [] [])
    (cond (eqb e.kind 0x04) undo
    (occ (get_or e.body 0 0) (drop 1 e.body) (replicate 4096 0)))

unfoldable pub calls_of : List Entry → List Call
calls_of [] = []
calls_of (e ∷ es) = call_of e ∷ calls_of es

-- the whole entries of a trace, in order
abbrev pub calls_in : List ℕ → List Call
calls_in t = calls_of (oldest_first (entries_of (trace_scan t)))

-- the trace without what breaks it
abbrev pub whole_part : List ℕ → List ℕ
whole_part t = written (entries_of (trace_scan t))

-- the status of a reply: the OCC's third byte, the SBE's primary and secondary
unfoldable pub status_of : Call → List ℕ → List ℕ
status_of (occ sender c d) reply = take 1 (drop 2 reply)
status_of (sbe r d m x) reply = take 4 reply
status_of undo reply = []
status_of redo reply = []
status_of (forget n) reply = []
status_of (time n) reply = []

unfoldable pub heard_of : Call → Said → Heard
heard_of c x = record { answer = x.answer; image = image_of x.session; status = if_written x.answer (status_of c x.reply) }

-- a line for each call, numbered from n on
unfoldable pub lines_by : Run → ℕ → List Call → List (List ℕ)
lines_by p n [] = []
lines_by p n (c ∷ cs) = line n (heard_of c (said p.session c)) ++ lines_by (next_run p c) (suc n) cs

-- ---- "A trace with an unknown kind or a cut entry plays up to that entry and then gives its offset"

-- each entry is as long as its kind fixes, the kind included
abbrev pub AllSized : List Entry → Type 0
AllSized [] = Unit {0}
AllSized (e ∷ es) = (trace_table e.kind ≡ suc (length e.body)) × AllSized es

-- what stands at an offset, after whole entries, and the line that then comes last: nothing; a byte that is no kind; a kind whose entry is longer than what is left
pub data StopsAt (at : ℕ) : List ℕ → List (List ℕ) → Type 0 where
  at_its_end : StopsAt at [] []
  no_kind : (k : ℕ) (more : List ℕ) → trace_table k ≡ 0 → StopsAt at (k ∷ more) (ascii "unknown kind at " ∷ decimal at ∷ line_end ∷ [])
  too_short : (k : ℕ) (more : List ℕ) → length (k ∷ more) < trace_table k → StopsAt at (k ∷ more) (ascii "cut entry at " ∷ decimal at ∷ line_end ∷ [])

-- the whole entries, newest first, are a beginning of the trace; they are played, and where they end it stops, and tells that place
pub record PlaysUpTo (t : List ℕ) : Type 0 where
  pub whole : List Entry
  pub rest : List ℕ
  pub stop : List (List ℕ)
  pub splits : t ≡ written whole ++ rest
  pub sized : AllSized whole
  pub stops : StopsAt (length (written whole)) rest stop
  pub image_is : image_after (entries_of (trace_scan t)) ≡ image_of (run (start fresh_session) (calls_of (oldest_first whole))).session
  pub lines_are : pieces_of t ≡ lines_by (start fresh_session) 1 (calls_of (oldest_first whole)) ++ stop
