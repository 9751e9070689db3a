-- A trace played on a lent image is its calls, one by one, on sessions. Assumes nothing.
use Rattle.places.specs.declared.Fault.{Fault}
use Rattle.std.specs.Prelude.{Option}
use Rattle.std.specs.Prelude.{ℕ, suc, ◌≤◌, Bool, cond, ◌≡◌, eqb, length, get_or, take, drop, replicate}
use Rattle.std.proofs.Math.Bool.{true, false}
use Rattle.std.proofs.Math.Path.{refl, sym, ap, ap₂, subst}
use Rattle.std.proofs.Common.{◌∙◌, arith}
use mathlib.Core.List.{List, [], ◌∷◌, ◌++◌, append-nil}
use Rattle.std.proofs.Math.Seq.{take-append_seam, drop-append_seam}
use Rattle.wire.specs.Wire.{Bytes, pasted, joined}
use Rattle.wire.specs.Conditions.{◌and◌}
use Rattle.wire.proofs.laws.Wire.{bytes_take, bytes_drop}
use Rattle.wire.proofs.laws.Cases.{cond_elim, else_ne, else_lt}
use Rattle.record.specs.declared.Record.{Record}
use Rattle.record.specs.Record.{fresh_record}
use Rattle.entries.specs.Entries.{Entry, bytes_of, written, Scan, between, within, unknown, entries_of, reading_of}
use Rattle.entries.proofs.laws.ByTable.{Proper, LeadsTo, leads, whole_front}
use Rattle.trace.specs.Trace.{trace_table, trace_scan}
use Rattle.session.specs.Session.{fresh_session}
use Rattle.session.specs.Road.{Said}
use Rattle.session.specs.declared.Session.{Session}
use Rattle.journal.specs.declared.Way.TheVariants.{Before}
use Rattle.image.specs.Image.{image_of}
use Rattle.layout.specs.Layout.{image_length}
use Rattle.image.proofs.laws.Image.{Typed}
use Rattle.occ_call.specs.Occ as occs
use Rattle.occ_call.proofs.laws.Why.{answer_beside}
use Rattle.sbe_call.specs.Sbe as sbes
use Rattle.undo_call.specs.Undo.{move_call, undo_on, moved_left}
use Rattle.inplace.specs.InPlace.{rung_left}
use Rattle.playing.specs.Playing.{Heard, if_written, heard_with, occ_heard, sbe_heard, undo_heard, heard, line, image_after, place_text, stop_line, pieces_of, text_of, room_for, Replayed, replayed, fault_text}
use Rattle.playing.specs.Steps.{oldest_first, image_from, lines_from}
use Rattle.playing.proofs.laws.Steps.{image_by_steps, lines_by_steps, pieces_of_whole, entries_of_whole}
use Rattle.promises.specs.Calls.{Call, occ, sbe, undo, buffer_of, asks, said}
use Rattle.promises.specs.History.{Run, did, next_run, run, start, OfBytes, AllOfBytes}
use Rattle.promises.specs.Replays.{call_of, calls_of, calls_in, whole_part, status_of, heard_of, lines_by, AllSized, StopsAt, at_its_end, no_kind, too_short, PlaysUpTo}
use Rattle.promises.proofs.laws.Demand3.{Inv, next_inv}
use Rattle.promises.proofs.laws.Fresh.{fresh_start}
use Rattle.promises.proofs.laws.Lent.{occ_on_lem, sbe_on_lem, move_on_lem, run_typed}

-- ---- an entry played on the image of a session is its call on the session

-- which byte is wrong stands beside the answer, and isn't heard
abbrev heard_as : Said → ℕ → Heard
heard_as q n = record { answer = n; image = image_of q.session; status = if_written n (take 1 (drop 2 q.reply)) }

occ_heard_lem : (q : Said) (why : Option Fault) → occ_heard (occs.occ_left q why) ≡ heard_as q q.answer
unfolding heard_with occs.occ_left
occ_heard_lem q why = ap (heard_as q) (answer_beside q.answer why)

module _ (s : Session) (t : Typed s) (r r' c c' : List ℕ) (sender : ℕ) where
  abbrev b : List ℕ
  b = image_of s

  abbrev called : Bool → Bool → Call
  called x y = cond x (sbe r r' [] []) (cond y undo (occ sender c c'))

  one_heard : (x y : Bool)
      → cond x (sbe_heard (sbes.sbe_on b r r' [] [])) (cond y (undo_heard (undo_on b)) (occ_heard (occs.occ_on b sender c c'))) ≡ heard_of (called x y) (said s (called x y))
  unfolding heard_of said asks buffer_of status_of heard_with rung_left sbes.sbe_call moved_left move_call occs.occ_call
  one_heard true y = ap sbe_heard (sbe_on_lem s t r r' [] [])
  one_heard false true = ap undo_heard (move_on_lem s t Before)
  one_heard false false = ap occ_heard (occ_on_lem s t sender c c') ∙ occ_heard_lem (occs.occ_call s sender c c') (occs.occ_why s sender c c')

heard_said : (s : Session) → Typed s → (e : Entry) → heard (image_of s) e ≡ heard_of (call_of e) (said s (call_of e))
unfolding heard call_of
heard_said s t e =
    one_heard s t e.body (replicate 32 0) (drop 1 e.body) (replicate 4096 0) (get_or e.body 0 0) (eqb e.kind 0x03) (eqb e.kind 0x04)

image_said : (c : Call) (s : Session) → (heard_of c (said s c)).image ≡ image_of (said s c).session
unfolding heard_of
image_said c s = refl

-- ---- one after the other

module _ (base : Record) (first : ℕ) where
  next_image : (e : Entry) (p : Run) → Inv base first p → (heard (image_of p.session) e).image ≡ image_of (next_run p (call_of e)).session
  unfolding next_run did
  next_image e p v =
      ap (λ (h : Heard). h.image) (heard_said p.session (run_typed base first p v) e) ∙ image_said (call_of e) p.session

  image_run : (es : List Entry) (p : Run) → AllOfBytes (calls_of es) → Inv base first p → image_from (image_of p.session) es ≡ image_of (run p (calls_of es)).session
  unfolding image_from calls_of run
  image_run [] p b v = refl
  image_run (e ∷ es) p b v =
      ap (λ (i : List ℕ). image_from i es) (next_image e p v)
      ∙ image_run es (next_run p (call_of e)) b.1 (next_inv base first p v (call_of e) b.0)

  lines_run : (es : List Entry) (n : ℕ) (p : Run) → AllOfBytes (calls_of es) → Inv base first p → lines_from (image_of p.session) n es ≡ lines_by p n (calls_of es)
  unfolding lines_from lines_by calls_of
  lines_run [] n p b v = refl
  lines_run (e ∷ es) n p b v =
      ap₂ (λ (h : Heard) (i : List ℕ). line n h ++ lines_from i (suc n) es) (heard_said p.session (run_typed base first p v) e) (next_image e p v)
      ∙ ap (λ (l : List (List ℕ)). line n (heard_of (call_of e) (said p.session (call_of e))) ++ l)
      (lines_run es (suc n) (next_run p (call_of e)) b.1 (next_inv base first p v (call_of e) b.0))

-- ---- the calls of a trace of bytes are calls of bytes

of_bytes : (e : Entry) → Bytes e.body → OfBytes (call_of e)
unfolding call_of
of_bytes e h = cond_elim OfBytes (eqb e.kind 0x03) h (cond_elim OfBytes (eqb e.kind 0x04) tt (bytes_drop 1 e.body h))

calls_last : (es : List Entry) (e : Entry) → AllOfBytes (calls_of es) → OfBytes (call_of e) → AllOfBytes (calls_of (es ++ (e ∷ [])))
unfolding calls_of
calls_last [] e a h = (h, tt)
calls_last (x ∷ es) e a h = (a.0, calls_last es e a.1 h)

module _ (e : Entry) (es : List Entry) (bytes : Bytes (written (e ∷ es))) where
  older_bytes : Bytes (written es)
  unfolding written
  older_bytes = subst Bytes (take-append_seam (written es) (bytes_of e)) (bytes_take (length (written es)) (written es ++ bytes_of e) bytes)

  newest_bytes : Bytes e.body
  unfolding written bytes_of
  newest_bytes = (subst Bytes (drop-append_seam (written es) (bytes_of e)) (bytes_drop (length (written es)) (written es ++ bytes_of e) bytes)).1

calls_bytes : (es : List Entry) → Bytes (written es) → AllOfBytes (calls_of (oldest_first es))
unfolding oldest_first calls_of
calls_bytes [] h = tt
calls_bytes (e ∷ es) h = calls_last (oldest_first es) e (calls_bytes es (older_bytes e es h)) (of_bytes e (newest_bytes e es h))

pub trace_bytes : (t : List ℕ) → Bytes t → AllOfBytes (calls_in t)
trace_bytes t h = calls_bytes (entries_of (trace_scan t)) (subst Bytes (whole_front trace_table t) (bytes_take (length (written (entries_of (trace_scan t)))) t h))

-- ---- a whole trace, from a fresh session

module _ (t : List ℕ) (bytes : Bytes t) where
  pub replay_run : image_after (entries_of (trace_scan t)) ≡ image_of (run (start fresh_session) (calls_in t)).session
  unfolding start
  replay_run =
      sym (image_by_steps (entries_of (trace_scan t)))
      ∙ image_run fresh_record 1 (oldest_first (entries_of (trace_scan t))) (start fresh_session) (trace_bytes t bytes) fresh_start

  pub replay_lines : pieces_of t ≡ lines_by (start fresh_session) 1 (calls_in t) ++ stop_line (reading_of (trace_scan t))
  unfolding start pieces_of
  replay_lines =
      ap (λ (l : List (List ℕ)). l ++ stop_line (reading_of (trace_scan t)))
      (sym (lines_by_steps (entries_of (trace_scan t)))
      ∙ lines_run fresh_record 1 (oldest_first (entries_of (trace_scan t))) 1 (start fresh_session) (trace_bytes t bytes) fresh_start)

-- ---- up to where it breaks

all_sized : (es : List Entry) → Proper trace_table es → AllSized es
all_sized [] h = tt
all_sized (e ∷ es) h = (h.0, all_sized es h.1)

-- what breaks a trace off, by how it was read
module _ (t : List ℕ) where
  record Stopped (s : Scan) : Type 0 where
    after : List ℕ
    splits : t ≡ written (entries_of s) ++ after
    sized : AllSized (entries_of s)
    stops : StopsAt (length (written (entries_of s))) after (stop_line (reading_of s))

  stopped : (s : Scan) → LeadsTo trace_table s t → Stopped s
  unfolding entries_of reading_of stop_line fault_text place_text
  stopped (between es) h = record { after = []; splits = h.0 ∙ sym (append-nil (written es)); sized = all_sized es h.1; stops = at_its_end }
  stopped (within es k b n) h = record { after = k ∷ b; splits = h.0; sized = all_sized es h.1; stops = too_short k b (omega (arith, h.2)) }
  stopped (unknown es) h = record { after = h.0.0 ∷ h.0.1; splits = h.0.2; sized = all_sized es h.1; stops = no_kind h.0.0 h.0.1 h.0.3 }

pub plays_up_to : (t : List ℕ) → Bytes t → PlaysUpTo t
plays_up_to t bytes =
    let s = stopped t (trace_scan t) (leads trace_table t) in
    record {
      whole = entries_of (trace_scan t);
      rest = s.after;
      stop = stop_line (reading_of (trace_scan t));
      splits = s.splits;
      sized = s.sized;
      stops = s.stops;
      image_is = replay_run t bytes;
      lines_are = replay_lines t bytes;
    }

-- what `play` leaves is that session, and those lines in its buffer

pub play_leaves : (b t d : List ℕ) → length b ≡ image_length → room_for (length (entries_of (trace_scan t))) ≤ length d
    → ((replayed b t d).image ≡ image_after (entries_of (trace_scan t))) and ((replayed b t d).out ≡ pasted 0 (joined (pieces_of t)) d)
unfolding replayed text_of
play_leaves b t d long room =
    let x : _ ≡ replayed b t d = else_ne _ _ long (else_lt _ _ room refl) in
    (sym (ap (λ (r : Replayed). r.image) x), sym (ap (λ (r : Replayed). r.out) x))

-- ---- a broken one

module _ (t : List ℕ) where
  pub broken_lines : pieces_of t ≡ pieces_of (whole_part t) ++ stop_line (reading_of (trace_scan t))
  unfolding pieces_of
  broken_lines = ap (λ (l : List (List ℕ)). l ++ stop_line (reading_of (trace_scan t))) (sym (pieces_of_whole t))

  pub broken_image : image_after (entries_of (trace_scan t)) ≡ image_after (entries_of (trace_scan (whole_part t)))
  broken_image = ap image_after (sym (entries_of_whole t))
