-- Document 02, f: "On that run both replays must end in equal sessions."
use Rattle.std.specs.Prelude.{ℕ, ◌≡◌, List, take}
use Rattle.wire.specs.Conditions.{◌and◌}
use Rattle.entries.specs.Entries.{Entry, entries_of}
use Rattle.trace.specs.Trace.{trace_scan}
use Rattle.session.specs.Session.{fresh_session}
use Rattle.image.specs.Image.{image_of}
use Rattle.playing.specs.Playing.{image_after, pieces_of}
use Rattle.playing.specs.Steps.{oldest_first, image_from, lines_from}

-- the first n entries of a trace, in order
abbrev pub first_entries : ℕ → List ℕ → List Entry
first_entries n t = take n (oldest_first (entries_of (trace_scan t)))

-- p, played as a whole, ends in the session in which the first n entries of t end, played one by one, and in the same lines
abbrev pub PlaysAsFirst : List ℕ → ℕ → List ℕ → Type 0
PlaysAsFirst p n t =
    (image_after (entries_of (trace_scan p)) ≡ image_from (image_of fresh_session) (first_entries n t)) and (pieces_of p ≡ lines_from (image_of fresh_session) 1 (first_entries n t))
