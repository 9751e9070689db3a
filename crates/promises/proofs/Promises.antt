-- What the stand-in promises, each in a few lines, each proved by pointing at the file that does the work.
-- s, p: a session, a run of calls; c: a call with any bytes and any buffer. The calls are those of the public contracts (Calls.antt).
use Rattle.std.specs.Prelude.{ℕ, suc, ◌+◌, ◌≤◌, ◌<◌, true, false, ◌↔◌, ◌⊎◌, ◌≡◌, List, [], ◌++◌, length, get_or, take, drop, None}
use Rattle.std.proofs.Math.Logic.Iff
use Rattle.std.proofs.Common.{sym, ap, subst, ◌∙◌}
use Rattle.wire.specs.Wire.{Bytes, pasted, joined}
use Rattle.record.specs.Record.{fresh_record, worked_of}
use Rattle.wire.specs.Conditions.{◌and◌}
use Rattle.change.specs.Change.{put_after, timer_after}
use Rattle.change.specs.declared.Edit.{Edit}
use Rattle.entries.specs.Entries.{Entry, bytes_of, written, between, entries_of, reading_of, scan_by, Reading}
use Rattle.journal.specs.Ways.{other}
use Rattle.journal.specs.declared.Way.{Way}
use Rattle.journal.specs.declared.Way.TheVariants.{Before, After}
use Rattle.packet.specs.Packet.{data_of, replied}
use Rattle.sbe.specs.Mailbox as mailbox
use Rattle.sbe.specs.Statuses.{Status}
use Rattle.session.specs.Session.{fresh_session, well_formed, made_of, renewed, with_profile}
use Rattle.session.specs.declared.Session.{Session}
use Rattle.inplace.specs.declared.Told.{Told}
use Rattle.places.specs.Faults.{CommandFaults, NotAfter}
use Rattle.places.specs.declared.Fault.{Fault}
use Rattle.std.specs.Prelude.{Some, Result}
use Rattle.session.specs.Road.{used_of, watch_only, Said, done}
use Rattle.session.proofs.laws.Watch.{watch_formed}
use Rattle.inplace.specs.InPlace.{no_image}
use Rattle.session.proofs.laws.Road.{refusal_keeps, worked_after, error_keeps, bell_rung}
use Rattle.occ_call.specs.Occ.{occ_asks, occ_call, occ_why, OccAllows}
use Rattle.occ_call.proofs.laws.Speaks.{occ_speaks}
use Rattle.sbe_call.specs.Sbe.{sbe_asks, sbe_call, sbe_data, data_on, SbeAllows, AloneAllows}
use Rattle.sbe_call.proofs.laws.Speaks.{sbe_speaks}
use Rattle.undo_call.specs.Undo.{move_asks, move_call, undo_call, redo_call, UndoAllows, RedoAllows}
use Rattle.forget_call.specs.Forget.{forget_asks, forget_call, ForgetAllows}
use Rattle.time_call.specs.Time.{time_asks, time_call, TimeAllows}
use Rattle.watch_call.specs.Watch.{watch_asks, watch_call, watch_on, WatchAllows}
use Rattle.sbe.specs.Conditions.{Changes}
use Rattle.trace.specs.Trace.{trace_scan}
use Rattle.text.specs.Text.{Sheet, sheet, put_all}
use Rattle.parting.specs.Lines.{told, told_length}
use Rattle.parting.specs.declared.Parting.{Parting}
use Rattle.listing.specs.Listing.{listed, listed_length}
use Rattle.parting.specs.Parting.{Longest, shared_part, refusal_of, PlayersRefusal, parting_of}
use Rattle.parting.proofs.laws.Refusals.{refusal_is_the_players, refused_shares_nothing}
use Rattle.parting.proofs.laws.Parting.{part_longest, part_number, longest_is_one, equal_share_all, first_empty, second_empty}
use Rattle.playing.specs.declared.Played.{Played}
use Rattle.playing.specs.declared.NotPlayed.{NotPlayed}
use Rattle.playing.specs.Playing.{StepAllows, PlayAllows, line_room, room_for, image_after, lines_of, stop_line, pieces_of, replayed}
use Rattle.playing.specs.Steps.{oldest_first, steps_from}
use Rattle.playing.proofs.laws.Steps.{steps_whole}
use Rattle.promises.specs.Calls.{Call, occ, sbe, undo, redo, buffer_of, said}
use Rattle.formed.specs.Formed.{in_order}
use Rattle.formed.proofs.laws.Thresholds.{out_of_order}
use Rattle.promises.specs.WellFormed.{WellFormed}
use Rattle.promises.proofs.laws.Plainly.{plainly_formed}
use Rattle.promises.specs.Demand1.{OccAnswer, SbeAnswer, UndoAnswer, RedoAnswer, ForgetAnswer, TimeAnswer, WatchAnswer, OccDue, SbeDue, OccStatus, SbeStatus, occ_error, sbe_error}
use Rattle.promises.specs.Demand2.{KnownSender, entry_length, WellAsked, occ_kind, sbe_kind, at_front, NotPoll, success_reply, OccSucceeds, OccAccepted, Served, SbeSucceeds, SbeAccepted, Newest, UndoAccepted, RedoAccepted}
use Rattle.promises.specs.Effects.{OccEffect, SbeEffect, entry_back, UndoEffect, RedoEffect, ForgetEffect, TimeEffect, WatchEffect}
use Rattle.promises.proofs.laws.ForgetDemands.{forget_answers, forget_effect, occ_fits_freed, sbe_fits_freed}
use Rattle.promises.proofs.laws.TimeDemands.{time_answers, time_effect}
use Rattle.promises.proofs.laws.WatchDemands.{watch_answers, watch_effect}
use Rattle.promises.proofs.laws.WatchLent.{watch_lent, watch_no_image, watch_refused, watch_keeps_bytes}
use Rattle.promises.specs.Sittings.{Act, sat, sittings, ActsOfBytes, handed, Unbroken}
use Rattle.promises.proofs.laws.Sittings.{watch_opens, opening_starts, sitting_demand, sitting_opens}
use Rattle.promises.proofs.laws.Students.{moves_clears, students_unbroken}
use Rattle.promises.proofs.laws.Profiles.{profile_fixed}
use Rattle.promises.proofs.laws.OccDemands.{occ_answers, occ_statuses, occ_reply, occ_accepted}
use Rattle.promises.proofs.laws.Why.{byte_told, byte_least}
use Rattle.promises.proofs.laws.Served.{data_served, data_kept, data_refused, data_on_image, data_no_image}
use Rattle.promises.proofs.laws.SbeDemands.{sbe_answers, sbe_statuses, sbe_reply, sbe_accepted}
use Rattle.promises.proofs.laws.UndoDemands.{undo_answers, redo_answers, undo_accepted, redo_accepted}
use Rattle.promises.proofs.laws.Moves.{move_effect, room_left}
use Rattle.promises.proofs.laws.Answers.{one_exactly}
use Rattle.promises.proofs.laws.Effects.{occ_effect, sbe_effect, occ_deed, sbe_deed, deed_shown}
use Rattle.promises.specs.Marks.{logs_made}
use Rattle.promises.specs.History.{keeps, adds, deed, did, next_run, run, start, OfBytes, AllOfBytes, Demand3, clock_after}
use Rattle.promises.specs.Ids.{ids_made, countdown}
use Rattle.promises.specs.Outcomes.{OneOutcome}
use Rattle.promises.proofs.laws.Outcomes.{one_value, one_pair, one_triple, one_four}
use Rattle.promises.proofs.laws.Opened.{opened_start}
use Rattle.promises.proofs.laws.Fresh.{fresh_start}
use Rattle.promises.proofs.laws.Demand3.{demand3, ids_in_order, invariant}
use Rattle.promises.proofs.laws.Clocks.{clock_is, other_kind_keeps}
use Rattle.links.specs.Typed.{TypedSession}
use Rattle.promises.proofs.laws.WellFormed.{occ_formed, sbe_formed, undo_formed, redo_formed, forget_formed, time_formed}
use Rattle.promises.specs.Later.{Wish, AsIf}
use Rattle.promises.proofs.laws.NoTrace.{trace_free, later_as_before, later_alike, redo_brings_back, redo_undone}
use Rattle.promises.specs.NoTrace.{leaves, after, tried, tried_and_looked, AllKeep, AllButRedo, AsBefore}
use Rattle.promises.proofs.laws.Kept.{kept_session, handed_same}
use Rattle.image.specs.Image.{image_of, session_of}
use Rattle.image.proofs.laws.Typed.{typed_image}
use Rattle.layout.specs.Layout.{image_length}
use Rattle.saving.specs.Forms.{base_of, session_of_base, saved_of, part_table, parts_of, session_of_saved}
use Rattle.saving.specs.Moves.{goes_down, base_reads, saved_reads, put_into, save_to, restore_to, move_up_to, move_down_to, Allows}
use Rattle.plan.specs.Conditions.{Order, FewestThenLeast}
use Rattle.plan.specs.Plan.{packets_in, answered, plan_ok_call, plan_call, plan_ok_on, plan_on, PlanAllows}
use Rattle.bjargolsk.specs.Calls.{answer_in, fresh_on, FreshReturns, OccReturns, SbeReturns, UndoReturns, RedoReturns, ForgetReturns, SeepromReturns, TimeReturns, WatchReturns, PlanReturns, PlanOkReturns, SaveReturns, RestoreReturns, MoveUpReturns, MoveDownReturns, PartReturns}
use Rattle.promises.proofs.laws.Lent.{every_image, every_byte, no_session, fresh_image, lent_run_lem, lent_next}
use Rattle.promises.specs.Lent.{lent, told as told-beside, carried_over, lent_run, watched_on}
use Rattle.promises.specs.Passed.{MarksStand, PassedAsHeld}
use Rattle.promises.proofs.laws.Passed.{session_marks, passed_as_held, none_passed, few_passed}
use Rattle.promises.specs.Replays.{calls_in, whole_part, lines_by, PlaysUpTo}
use Rattle.promises.proofs.laws.Replays.{trace_bytes, plays_up_to, replay_run, replay_lines, play_leaves, broken_lines, broken_image}
use Rattle.promises.specs.Isolation.{AllShare, occs_in, occs_heard, OccsFit, posts_in, posts_heard, SbesFit}
use Rattle.promises.proofs.laws.Isolation.{occ_isolated, sbe_isolated}
use Rattle.promises.specs.Plans.{PlanOkAnswer, PlanAnswer, PlanDue, trial_session, sent_from, IsPlan, Accepted, plan_in, Given, NoPlan}
use Rattle.promises.proofs.laws.Plans.{passes_exactly, trials_fit}
use Rattle.promises.proofs.laws.PlanDemands.{plan_ok_answers, plan_answers, plan_refused, accepted_exactly, given_due, given_some, given_passes, given_front, given_long, given_least, given_or_none, not_accepted, none_exactly, none_keeps, on_image_checked, on_image_planned, no_image_plans}
use Rattle.promises.specs.Saves.{CanGoDown, BaseSave, NewSave, SaveAnswer, RestoreAnswer, MoveUpAnswer, MoveDownAnswer, Done, written_by, Written, LeftByUp, KeptBy}
use Rattle.promises.proofs.laws.Saves.{goes_down_exactly, base_save_exactly, new_save_exactly, save_exactly, restore_exactly, up_exactly, down_exactly, save_refused, restore_refused, up_refused, down_refused, up_written, up_down, up_leaves, down_written, down_up, save_written, save_restore, restored_parts, restore_save, restored_formed, restored_worked}
use Rattle.promises.specs.Partings.{first_entries, PlaysAsFirst}
use Rattle.promises.proofs.laws.Partings.{same_first, part_plays_as_first, part_plays_as_second}
use Rattle.promises.specs.Examples.{All, holds, table}
use Rattle.promises.proofs.laws.Examples.{examples}

-- ---- demand 1, document 01's tables (Demand1.antt): a number is given exactly when its row holds and none before it

-- the session answers; 1 exactly when the session isn't well formed, from every call
pub answer_of_occ : (s : Session) → TypedSession s → (sender : ℕ) (c d : List ℕ) (n : ℕ) → ((occ_call s sender c d).answer ≡ n) ↔ OccAnswer s sender c d n
answer_of_occ = occ_answers

-- m: the SEEPROM's image, x: the second buffer, both lent
pub answer_of_sbe : (s : Session) → TypedSession s → (r d m x : List ℕ) (n : ℕ) → ((sbe_call s r d m x).answer ≡ n) ↔ SbeAnswer s r d n
answer_of_sbe = sbe_answers

pub answer_of_undo : (s : Session) (n : ℕ) → ((undo_call s).answer ≡ n) ↔ UndoAnswer s n
answer_of_undo = undo_answers

pub answer_of_redo : (s : Session) (n : ℕ) → ((redo_call s).answer ≡ n) ↔ RedoAnswer s n
answer_of_redo = redo_answers

-- document 02, j
pub answer_of_forget : (n : ℕ) (s : Session) (k : ℕ) → ((forget_call n s).answer ≡ k) ↔ ForgetAnswer n s k
answer_of_forget = forget_answers

-- document 02, h: n microseconds reported
pub answer_of_time : (n : ℕ) (s : Session) (k : ℕ) → ((time_call n s).answer ≡ k) ↔ TimeAnswer s k
answer_of_time = time_answers

-- document 02, k: a watch-only session opened over s
pub answer_of_watch : (s : Session) (k : ℕ) → ((watch_call s).answer ≡ k) ↔ WatchAnswer s k
answer_of_watch = watch_answers

-- well formed: document 01's sentences as plain conditions (WellFormed.antt) are what is tested
pub well_formed_exactly_when : (s : Session) → (well_formed s ≡ true) ↔ WellFormed s
well_formed_exactly_when = plainly_formed

pub answer_1_exactly_when : (s : Session) → TypedSession s → (c : Call) → ((said s c).answer ≡ 1) ↔ (WellFormed s → ⊥)
answer_1_exactly_when s typed c =
    Iff.trans (one_exactly s typed c) (λ h p. h ((plainly_formed s).1 p), λ h w. h ((plainly_formed s).0 w))

-- document 02, b: two thresholds are out of order "only when both are defined and out of order"
pub thresholds_out_of_order_exactly_when : (dvfs error : ℕ) → (in_order dvfs error ≡ false) ↔ ((dvfs ≡ 0xFF → ⊥) and (error ≡ 0xFF → ⊥) and (error < dvfs))
thresholds_out_of_order_exactly_when = out_of_order

-- the statuses, where none of answers 1 to 4 is due: the session as it was, and every byte of the error reply. p, q: primary, secondary
pub status_of_occ : (s : Session) → TypedSession s → (sender : ℕ) (c d : List ℕ) → OccDue s sender c d → (n : ℕ)
    → (occ_call s sender c d ≡ occ_error s c d n) ↔ OccStatus s sender c n
status_of_occ = occ_statuses

-- 00/00 is success and no error
pub status_of_sbe : (s : Session) → TypedSession s → (r d m x : List ℕ) → SbeDue s r d → (p q : ℕ) → p < 65536 → q < 65536 → ((p ≡ 0) and (q ≡ 0) → ⊥)
    → (sbe_call s r d m x ≡ sbe_error s r d (p, q)) ↔ SbeStatus s r m x (p, q)
status_of_sbe = sbe_statuses

-- document 02, c: a data byte is told exactly where the status is 0x13; it is wrong, and no other that is wrong comes before it, by number
-- and then by reason. All that can be wrong: places/specs/Faults.antt
pub wrong_byte_exactly_when : (s : Session) → TypedSession s → (sender : ℕ) (c d : List ℕ)
    → ((x : Fault) × (occ_why s sender c d ≡ Some x)) ↔ (OccDue s sender c d and (occ_call s sender c d ≡ occ_error s c d 0x13))
wrong_byte_exactly_when = byte_told

pub wrong_byte_is_the_least : (s : Session) → TypedSession s → (sender : ℕ) (c d : List ℕ) (x : Fault) → occ_why s sender c d ≡ Some x
    → CommandFaults s.held (get_or c 1 0) (data_of c) x and ((y : Fault) → CommandFaults s.held (get_or c 1 0) (data_of c) y → NotAfter x y)
wrong_byte_is_the_least = byte_least

-- answer 0: a reply, good or error, is written, and stands at the front of the buffer
pub reply_of_occ : (s : Session) → TypedSession s → (sender : ℕ) (c d : List ℕ) → (occ_call s sender c d).answer ≡ 0
    → ((occ_call s sender c d).reply ≡ at_front (success_reply s c) d) ⊎ ((n : ℕ) × (occ_call s sender c d ≡ occ_error s c d n))
reply_of_occ = occ_reply

pub reply_of_sbe : (s : Session) → TypedSession s → (r d m x : List ℕ) → (sbe_call s r d m x).answer ≡ 0
    → ((sbe_call s r d m x).reply ≡ at_front (mailbox.response_bytes 0x00 0x00 r) d) ⊎ ((n : Status) × (sbe_call s r d m x ≡ sbe_error s r d n))
reply_of_sbe = sbe_reply

-- ---- demand 1: a refusal changes nothing, for every session, right or damaged

pub refusal_of_occ_keeps : (s : Session) (sender : ℕ) (c d : List ℕ) → ((occ_call s sender c d).answer ≡ 0 → ⊥)
    → ((occ_call s sender c d).session ≡ s) × ((occ_call s sender c d).reply ≡ d)
unfolding occ_call
refusal_of_occ_keeps s sender c d h = let k = refusal_keeps s d (occ_asks s sender c d) h in (k.0, k.1)

pub refusal_of_sbe_keeps : (s : Session) (r d m x : List ℕ) → ((sbe_call s r d m x).answer ≡ 0 → ⊥)
    → ((sbe_call s r d m x).session ≡ s) × ((sbe_call s r d m x).reply ≡ d) × ((sbe_call s r d m x).bell ≡ 0)
unfolding sbe_call
refusal_of_sbe_keeps s r d m x h = let k = refusal_keeps s d (sbe_asks s r d m x) h in (k.0, k.1, k.2)

pub refusal_of_undo_keeps : (s : Session) → ((undo_call s).answer ≡ 0 → ⊥) → ((undo_call s).session ≡ s) × ((undo_call s).kind ≡ 0)
unfolding move_call
refusal_of_undo_keeps s h = let k = refusal_keeps s [] (move_asks Before s) h in (k.0, k.3)

pub refusal_of_redo_keeps : (s : Session) → ((redo_call s).answer ≡ 0 → ⊥) → ((redo_call s).session ≡ s) × ((redo_call s).kind ≡ 0)
unfolding move_call
refusal_of_redo_keeps s h = let k = refusal_keeps s [] (move_asks After s) h in (k.0, k.3)

pub refusal_of_forget_keeps : (n : ℕ) (s : Session) → ((forget_call n s).answer ≡ 0 → ⊥) → (forget_call n s).session ≡ s
unfolding forget_call
refusal_of_forget_keeps n s h = (refusal_keeps s [] (forget_asks n s) h).0

pub refusal_of_time_keeps : (n : ℕ) (s : Session) → ((time_call n s).answer ≡ 0 → ⊥) → ((time_call n s).session ≡ s) × ((time_call n s).bell ≡ 0)
unfolding time_call
refusal_of_time_keeps n s h = let k = refusal_keeps s [] (time_asks n s) h in (k.0, k.2)

pub refusal_of_watch_keeps : (s : Session) → ((watch_call s).answer ≡ 0 → ⊥) → ((watch_call s).session ≡ s) × ((watch_call s).bell ≡ 0) × ((watch_call s).kind ≡ 0)
refusal_of_watch_keeps = watch_refused

-- a session that isn't the one handed in comes with the reply of success, so every error reply returns it as it was
pub error_of_occ_keeps : (s : Session) (sender : ℕ) (c d : List ℕ)
    → ((occ_call s sender c d).session ≡ s) ⊎ ((occ_call s sender c d).reply ≡ replied (get_or c 0 0) (get_or c 1 0) 0x00 [] d)
unfolding occ_call
error_of_occ_keeps s sender c d = error_keeps s d 0 _ (occ_asks s sender c d) (occ_speaks s sender c d)

-- the same of the SBE's error statuses
pub error_of_sbe_keeps : (s : Session) (r d m x : List ℕ)
    → ((sbe_call s r d m x).session ≡ s) ⊎ ((sbe_call s r d m x).reply ≡ pasted 0 (mailbox.response_bytes 0x00 0x00 r) d)
unfolding sbe_call
error_of_sbe_keeps s r d m x = error_keeps s d _ _ (sbe_asks s r d m x) (sbe_speaks s r d m x)

-- the doorbell is rung as asked on every answer 0, refused or not, and never else
pub bell_rung_as_asked : (s : Session) (r d m x : List ℕ)
    → ((sbe_call s r d m x).answer ≡ 0 → (sbe_call s r d m x).bell ≡ mailbox.bell_of r) × (((sbe_call s r d m x).answer ≡ 0 → ⊥) → (sbe_call s r d m x).bell ≡ 0)
unfolding sbe_call
bell_rung_as_asked s r d m x = (bell_rung s d _ _ (sbe_asks s r d m x) (sbe_speaks s r d m x), λ h. (refusal_of_sbe_keeps s r d m x h).2)

-- ---- the contracts determine everything: two outcomes that one allows are equal. b is the lent session; for C the result is one number

pub one_outcome_of_fresh : OneOutcome (λ (o : Session). o ≡ fresh_session)
one_outcome_of_fresh = one_value fresh_session

pub one_outcome_of_occ : (b : List ℕ) (sender : ℕ) (c d : List ℕ) → OneOutcome (λ (o : Told × List ℕ × List ℕ). OccAllows b sender c d o.0 o.1 o.2)
one_outcome_of_occ b sender c d = one_triple _ _ _

-- the second buffer is its fourth part
pub one_outcome_of_sbe : (b r d m x : List ℕ) → OneOutcome (λ (o : Told × List ℕ × List ℕ × List ℕ). SbeAllows b r d m x o.0 o.1 o.2 o.3)
one_outcome_of_sbe b r d m x = one_four _ _ _ _

-- the same with no image and no second buffer
pub one_outcome_of_sbe_alone : (b r d : List ℕ) → OneOutcome (λ (o : Told × List ℕ × List ℕ). AloneAllows b r d o.0 o.1 o.2)
one_outcome_of_sbe_alone b r d = one_triple _ _ _

pub one_outcome_of_undo : (b : List ℕ) → OneOutcome (λ (o : Told × List ℕ). UndoAllows b o.0 o.1)
one_outcome_of_undo b = one_pair _ _

pub one_outcome_of_redo : (b : List ℕ) → OneOutcome (λ (o : Told × List ℕ). RedoAllows b o.0 o.1)
one_outcome_of_redo b = one_pair _ _

pub one_outcome_of_forget : (n : ℕ) (b : List ℕ) → OneOutcome (λ (o : Told × List ℕ). ForgetAllows n b o.0 o.1)
one_outcome_of_forget n b = one_pair _ _

pub one_outcome_of_time : (n : ℕ) (b : List ℕ) → OneOutcome (λ (o : Told × List ℕ). TimeAllows n b o.0 o.1)
one_outcome_of_time n b = one_pair _ _

pub one_outcome_of_watch : (b : List ℕ) → OneOutcome (λ (o : Told × List ℕ). WatchAllows b o.0 o.1)
one_outcome_of_watch b = one_pair _ _

pub one_outcome_of_plan_ok : (b p : List ℕ) (wanted : ℕ) (o : List ℕ) → OneOutcome (λ (x : Told). x ≡ plan_ok_on b p wanted o)
one_outcome_of_plan_ok b p wanted o = one_value _

pub one_outcome_of_plan : (b p : List ℕ) (wanted : ℕ) (d : List ℕ) → OneOutcome (λ (x : Told × List ℕ). PlanAllows b p wanted d x.0 x.1)
one_outcome_of_plan b p wanted d = one_pair _ _

pub one_outcome_of_save : (b out : List ℕ) → OneOutcome (λ (x : Told × List ℕ). Allows (save_to b out) x.0 x.1)
one_outcome_of_save b out = one_pair _ _

pub one_outcome_of_restore : (saved d : List ℕ) → OneOutcome (λ (x : Told × List ℕ). Allows (restore_to saved d) x.0 x.1)
one_outcome_of_restore saved d = one_pair _ _

pub one_outcome_of_move_up : (saved out : List ℕ) → OneOutcome (λ (x : Told × List ℕ). Allows (move_up_to saved out) x.0 x.1)
one_outcome_of_move_up saved out = one_pair _ _

pub one_outcome_of_move_down : (saved out : List ℕ) → OneOutcome (λ (x : Told × List ℕ). Allows (move_down_to saved out) x.0 x.1)
one_outcome_of_move_down saved out = one_pair _ _

pub one_outcome_of_fresh_for_c : (b : List ℕ) → OneOutcome (λ (o : ℕ × List ℕ). FreshReturns b o.0 o.1)
one_outcome_of_fresh_for_c b = one_pair _ _

pub one_outcome_of_occ_for_c : (b : List ℕ) (sender : ℕ) (c d : List ℕ) → OneOutcome (λ (o : ℕ × List ℕ × List ℕ). OccReturns b sender c d o.0 o.1 o.2)
one_outcome_of_occ_for_c b sender c d = one_triple _ _ _

pub one_outcome_of_sbe_for_c : (b r d : List ℕ) → OneOutcome (λ (o : ℕ × List ℕ × List ℕ). SbeReturns b r d o.0 o.1 o.2)
one_outcome_of_sbe_for_c b r d = one_triple _ _ _

pub one_outcome_of_sbe_seeprom_for_c : (b r d m x : List ℕ) → OneOutcome (λ (o : ℕ × List ℕ × List ℕ × List ℕ). SeepromReturns b r d m x o.0 o.1 o.2 o.3)
one_outcome_of_sbe_seeprom_for_c b r d m x = one_four _ _ _ _

pub one_outcome_of_undo_for_c : (b : List ℕ) → OneOutcome (λ (o : ℕ × List ℕ). UndoReturns b o.0 o.1)
one_outcome_of_undo_for_c b = one_pair _ _

pub one_outcome_of_redo_for_c : (b : List ℕ) → OneOutcome (λ (o : ℕ × List ℕ). RedoReturns b o.0 o.1)
one_outcome_of_redo_for_c b = one_pair _ _

pub one_outcome_of_forget_for_c : (b : List ℕ) (n : ℕ) → OneOutcome (λ (o : ℕ × List ℕ). ForgetReturns b n o.0 o.1)
one_outcome_of_forget_for_c b n = one_pair _ _

pub one_outcome_of_time_for_c : (b : List ℕ) (n : ℕ) → OneOutcome (λ (o : ℕ × List ℕ). TimeReturns b n o.0 o.1)
one_outcome_of_time_for_c b n = one_pair _ _

pub one_outcome_of_watch_for_c : (b : List ℕ) → OneOutcome (λ (o : ℕ × List ℕ). WatchReturns b o.0 o.1)
one_outcome_of_watch_for_c b = one_pair _ _

pub one_outcome_of_plan_for_c : (b p : List ℕ) (wanted : ℕ) (d : List ℕ) → OneOutcome (λ (o : ℕ × List ℕ). PlanReturns b p wanted d o.0 o.1)
one_outcome_of_plan_for_c b p wanted d = one_pair _ _

pub one_outcome_of_plan_ok_for_c : (b p : List ℕ) (wanted : ℕ) (o : List ℕ) → OneOutcome (λ (x : ℕ). PlanOkReturns b p wanted o x)
one_outcome_of_plan_ok_for_c b p wanted o = one_value _

pub one_outcome_of_part_for_c : (t u d : List ℕ) → OneOutcome (λ (x : ℕ × List ℕ). PartReturns t u d x.0 x.1)
one_outcome_of_part_for_c t u d = one_pair _ _

pub one_outcome_of_save_for_c : (b out : List ℕ) → OneOutcome (λ (x : ℕ × List ℕ). SaveReturns b out x.0 x.1)
one_outcome_of_save_for_c b out = one_pair _ _

pub one_outcome_of_restore_for_c : (b saved : List ℕ) → OneOutcome (λ (x : ℕ × List ℕ). RestoreReturns b saved x.0 x.1)
one_outcome_of_restore_for_c b saved = one_pair _ _

pub one_outcome_of_move_up_for_c : (saved out : List ℕ) → OneOutcome (λ (x : ℕ × List ℕ). MoveUpReturns saved out x.0 x.1)
one_outcome_of_move_up_for_c saved out = one_pair _ _

pub one_outcome_of_move_down_for_c : (saved out : List ℕ) → OneOutcome (λ (x : ℕ × List ℕ). MoveDownReturns saved out x.0 x.1)
one_outcome_of_move_down_for_c saved out = one_pair _ _

pub one_outcome_of_step : (b : List ℕ) (number : ℕ) (e d : List ℕ) → OneOutcome (λ (o : ℕ × List ℕ × List ℕ). StepAllows b number e d o.0 o.1 o.2)
one_outcome_of_step b number e d = one_triple _ _ _

pub one_outcome_of_play : (b t d : List ℕ) → OneOutcome (λ (o : Result Played NotPlayed × List ℕ × List ℕ). PlayAllows b t d o.0 o.1 o.2)
one_outcome_of_play b t d = one_triple _ _ _

pub one_outcome_of_stop : (d : List ℕ) (reading : Reading) → OneOutcome (λ (o : Sheet). o ≡ put_all (sheet d 0) (stop_line reading))
one_outcome_of_stop d reading = one_value _

pub one_outcome_of_shared : (t u : List ℕ) → OneOutcome (λ (o : List ℕ). o ≡ shared_part t u)
one_outcome_of_shared t u = one_value _

pub one_outcome_of_where_they_part : (t u : List ℕ) → OneOutcome (λ (o : Parting). o ≡ parting_of t u)
one_outcome_of_where_they_part t u = one_value _

pub one_outcome_of_tell : (t u d : List ℕ) → OneOutcome (λ (o : ℕ × List ℕ). (o.0 ≡ told_length t u d) and (o.1 ≡ told t u d))
one_outcome_of_tell t u d = one_pair _ _

pub one_outcome_of_list : (j d : List ℕ) → OneOutcome (λ (o : ℕ × List ℕ). (o.0 ≡ listed_length j d) and (o.1 ≡ listed j d))
one_outcome_of_list j d = one_pair _ _

-- ---- well-formed in, well-formed out, on every session of the type; and what is worked out is the record's

pub occ_stays_well_formed : (s : Session) → TypedSession s → well_formed s ≡ true → (sender : ℕ) (c d : List ℕ) → Bytes c → well_formed (occ_call s sender c d).session ≡ true
occ_stays_well_formed = occ_formed

pub sbe_stays_well_formed : (s : Session) → TypedSession s → well_formed s ≡ true → (r d m x : List ℕ) → Bytes r → well_formed (sbe_call s r d m x).session ≡ true
sbe_stays_well_formed = sbe_formed

pub undo_stays_well_formed : (s : Session) → TypedSession s → well_formed s ≡ true → well_formed (undo_call s).session ≡ true
undo_stays_well_formed = undo_formed

pub redo_stays_well_formed : (s : Session) → TypedSession s → well_formed s ≡ true → well_formed (redo_call s).session ≡ true
redo_stays_well_formed = redo_formed

pub worked_out_after_occ : (s : Session) (sender : ℕ) (c d : List ℕ) → well_formed s ≡ true
    → (occ_call s sender c d).session.worked ≡ worked_of (occ_call s sender c d).session.held
unfolding occ_call
worked_out_after_occ s sender c d w = worked_after s d w (occ_asks s sender c d)

pub worked_out_after_sbe : (s : Session) (r d m x : List ℕ) → well_formed s ≡ true → (sbe_call s r d m x).session.worked ≡ worked_of (sbe_call s r d m x).session.held
unfolding sbe_call
worked_out_after_sbe s r d m x w = worked_after s d w (sbe_asks s r d m x)

pub worked_out_after_undo : (s : Session) → well_formed s ≡ true → (undo_call s).session.worked ≡ worked_of (undo_call s).session.held
unfolding move_call
worked_out_after_undo s w = worked_after s [] w (move_asks Before s)

pub worked_out_after_redo : (s : Session) → well_formed s ≡ true → (redo_call s).session.worked ≡ worked_of (redo_call s).session.held
unfolding move_call
worked_out_after_redo s w = worked_after s [] w (move_asks After s)

pub forget_stays_well_formed : (s : Session) → TypedSession s → well_formed s ≡ true → (n : ℕ) → well_formed (forget_call n s).session ≡ true
forget_stays_well_formed = forget_formed

pub worked_out_after_forget : (n : ℕ) (s : Session) → well_formed s ≡ true → (forget_call n s).session.worked ≡ worked_of (forget_call n s).session.held
unfolding forget_call
worked_out_after_forget n s w = worked_after s [] w (forget_asks n s)

pub time_stays_well_formed : (s : Session) → well_formed s ≡ true → (n : ℕ) → well_formed (time_call n s).session ≡ true
time_stays_well_formed = time_formed

pub worked_out_after_time : (n : ℕ) (s : Session) → well_formed s ≡ true → (time_call n s).session.worked ≡ worked_of (time_call n s).session.held
unfolding time_call
worked_out_after_time n s w = worked_after s [] w (time_asks n s)

pub watch_stays_well_formed : (s : Session) → well_formed s ≡ true → well_formed (watch_call s).session ≡ true
unfolding done
watch_stays_well_formed s w = ap (λ (q : Said). well_formed q.session) (watch_opens s w) ∙ watch_formed s w

pub worked_out_after_watch : (s : Session) → well_formed s ≡ true → (watch_call s).session.worked ≡ worked_of (watch_call s).session.held
unfolding watch_call
worked_out_after_watch s w = worked_after s [] w (watch_asks s)

-- ---- demand 2: accepted exactly when (the conditions: Demand2.antt), and what is then done (Effects.antt)

pub occ_accepted_exactly_when : (s : Session) → TypedSession s → (sender : ℕ) (c d : List ℕ) → well_formed s ≡ true
    → OccSucceeds s sender c d ↔ OccAccepted s sender c d
occ_accepted_exactly_when = occ_accepted

pub sbe_accepted_exactly_when : (s : Session) → TypedSession s → (r d m x : List ℕ) → well_formed s ≡ true → SbeSucceeds s r d m x ↔ SbeAccepted s r d m x
sbe_accepted_exactly_when = sbe_accepted

pub undo_accepted_exactly_when : (s : Session) → well_formed s ≡ true → ((undo_call s).answer ≡ 0) ↔ UndoAccepted s
undo_accepted_exactly_when = undo_accepted

pub redo_accepted_exactly_when : (s : Session) → well_formed s ≡ true → ((redo_call s).answer ≡ 0) ↔ RedoAccepted s
redo_accepted_exactly_when = redo_accepted

pub effect_of_occ : (s : Session) → TypedSession s → (sender : ℕ) (c d : List ℕ) → Bytes c → OccSucceeds s sender c d
    → OccEffect s (get_or c 1 0) (data_of c) (occ_call s sender c d).session
effect_of_occ = occ_effect

pub effect_of_sbe : (s : Session) → TypedSession s → (r d m x : List ℕ) → Bytes r → SbeSucceeds s r d m x → SbeEffect s r (sbe_call s r d m x).session
effect_of_sbe = sbe_effect

-- document 02, h: "SEEPROM serves from an image the caller lends .. into a second lent buffer, kept .. past the data"
pub second_buffer_holds : (s : Session) (r d m x : List ℕ) → SbeDue s r d → Served r m x
    → sbe_data s r d m x ≡ at_front (take (mailbox.word_at 12 r) (drop (mailbox.word_at 8 r) m)) x
second_buffer_holds = data_served

-- by every other call it is kept, so also "kept on refusal", by an answer or a status
pub second_buffer_kept : (s : Session) (r d m x : List ℕ) → (SbeDue s r d and Served r m x → ⊥) → sbe_data s r d m x ≡ x
second_buffer_kept = data_kept

pub second_buffer_kept_on_refusal : (s : Session) (r d m x : List ℕ) → (SbeSucceeds s r d m x → ⊥) → sbe_data s r d m x ≡ x
second_buffer_kept_on_refusal = data_refused

-- on lent bytes b: as on the session, and kept where they are none
pub second_buffer_on_lent_bytes : (b r d m x : List ℕ)
    → (length b ≡ image_length → data_on b r d m x ≡ sbe_data (session_of b) r d m x) and ((length b ≡ image_length → ⊥) → data_on b r d m x ≡ x)
second_buffer_on_lent_bytes b r d m x = (data_on_image b r d m x, data_no_image b r d m x)

pub effect_of_undo : (s : Session) → TypedSession s → (undo_call s).answer ≡ 0 → UndoEffect s (undo_call s)
effect_of_undo = move_effect Before

pub effect_of_redo : (s : Session) → TypedSession s → (redo_call s).answer ≡ 0 → RedoEffect s (redo_call s)
effect_of_redo = move_effect After

-- document 02, j: the oldest entries go, the rest moves down, what is freed is zero; "the next change that fits the freed room is accepted"
pub effect_of_forget : (n : ℕ) (s : Session) → TypedSession s → (forget_call n s).answer ≡ 0 → ForgetEffect n s (forget_call n s)
effect_of_forget = forget_effect

pub next_occ_change_fits_freed_room : (n : ℕ) (s : Session) → TypedSession s → (forget_call n s).answer ≡ 0 → (e : ForgetEffect n s (forget_call n s)) (sender : ℕ) (c d : List ℕ)
    → KnownSender sender → 4096 ≤ length d → 4 ≤ length c → WellAsked s sender c → s.used + entry_length (occ_kind c) ≤ 2048 + length (written e.forgotten)
    → OccSucceeds (forget_call n s).session sender c d
next_occ_change_fits_freed_room = occ_fits_freed

pub next_sbe_change_fits_freed_room : (n : ℕ) (s : Session) → TypedSession s → (forget_call n s).answer ≡ 0 → (e : ForgetEffect n s (forget_call n s)) (r d m x : List ℕ)
    → 32 ≤ length d → 32 ≤ length r → Changes r → s.profile ≡ 0 → s.used + entry_length (sbe_kind r) ≤ 2048 + length (written e.forgotten) → SbeSucceeds (forget_call n s).session r d m x
next_sbe_change_fits_freed_room = sbe_fits_freed

-- document 02, h: the timer "expires only when the bench reports as many microseconds as are left, or more (fewer are taken off; off means 0 left); doorbell bit 14
-- then comes once"
pub effect_of_time : (n : ℕ) (s : Session) → (time_call n s).answer ≡ 0 → TimeEffect n s (time_call n s)
effect_of_time = time_effect

-- document 02, k: "Watch-only is opened over a well-formed session: its record, timer and next id, an empty journal and redo store"
pub effect_of_watch : (s : Session) → well_formed s ≡ true → ((watch_call s).answer ≡ 0) × WatchEffect s (watch_call s).session
effect_of_watch = watch_effect

-- document 02, i (Passed.antt): the marks of every well-formed session, so that of each call's session too, stand at every 32nd entry of its journal, counting
-- the first, and the unused ones are 0
pub marks_at_every_32nd_entry : (s : Session) (w : WellFormed s) → MarksStand s.marks w.journal.entries
marks_at_every_32nd_entry = session_marks

-- the number that undo reports: the entries held, less one, less the greatest multiple of 32 not above that; 0 when refused; at most 31
pub number_passed : (s : Session) → (undo_call s).answer ≡ 0 → PassedAsHeld s (told-beside s undo).small
number_passed = passed_as_held

pub number_passed_when_refused : (s : Session) → ((undo_call s).answer ≡ 0 → ⊥) → (told-beside s undo).small ≡ 0
number_passed_when_refused = none_passed

pub number_passed_at_most_31 : (s : Session) → (told-beside s undo).small ≤ 31
number_passed_at_most_31 = few_passed

-- "redo never lacks journal room", nor undo room in the redo store: whatever the newest entry says, the entry that takes it back fits into the other store,
-- and the two used lengths together stay what they were
pub never_lacks_room : (w : Way) (s : Session) → TypedSession s → well_formed s ≡ true → (e : Edit) → Newest w s e
    → (used_of (other w) s + length (bytes_of (entry_back s e)) ≤ 2048) and ((move_call w s).session.used + (move_call w s).session.ahead ≡ s.used + s.ahead)
never_lacks_room = room_left

-- the changes that demand 3 counts: those calls that succeed, but for polls and the requests that "make no journal entry"; and what a call counts as is what its
-- record and its timer show
pub counted_of_occ : (s : Session) → TypedSession s → (sender : ℕ) (c d : List ℕ)
    → ((e : Edit) × (deed s (occ sender c d) ≡ adds e)) ↔ (OccSucceeds s sender c d and NotPoll c)
counted_of_occ = occ_deed

pub counted_of_sbe : (s : Session) → TypedSession s → (r d m x : List ℕ) → ((e : Edit) × (deed s (sbe r d m x) ≡ adds e)) ↔ (SbeSucceeds s r d m x and Changes r)
counted_of_sbe = sbe_deed

pub counted_is_shown : (s : Session) → TypedSession s → (e : Edit) (c : Call) → deed s c ≡ adds e
    → ((said s c).session.held ≡ put_after s.held e) and ((said s c).session.timer ≡ timer_after s.timer e.change)
counted_is_shown s typed e c = deed_shown s e c

-- ---- demand 3: start fresh, and hand each session on unchanged through any calls, forgetting among them

pub undo_over_any_calls : (cs : List Call) → AllOfBytes cs → Demand3 fresh_record 1 (run (start fresh_session) cs)
undo_over_any_calls cs b = demand3 fresh_record 1 cs (start fresh_session) b fresh_start

-- the same from any well-formed session with nothing in its journal and its redo store, say one that was saved so: from its record and its next id on
pub undo_over_any_calls_from : (s : Session) → TypedSession s → well_formed s ≡ true → s.used ≡ 0 → s.ahead ≡ 0 → (cs : List Call) → AllOfBytes cs
    → Demand3 s.held s.next (run (start s) cs)
undo_over_any_calls_from s typed ok none none_ahead cs b = demand3 s.held s.next cs (start s) b (opened_start s typed ok none none_ahead)

-- and no id twice: its logs have the ids from that one on
pub no_id_twice_from : (s : Session) → TypedSession s → well_formed s ≡ true → s.used ≡ 0 → s.ahead ≡ 0 → (cs : List Call) → AllOfBytes cs
    → ids_made (run (start s) cs).marks ≡ countdown s.next (logs_made (run (start s) cs).marks)
no_id_twice_from s typed ok none none_ahead cs b = ids_in_order s.held s.next cs (start s) b (opened_start s typed ok none none_ahead)

-- document 02, k: through any calls and openings of watch-only sessions (Sittings.antt), "demand 3 starts from that record and id", the ones at the last opening, of both
-- profiles; and an opening is always accepted. s is one that starts a history, a fresh one say
pub undo_over_any_calls_and_openings : (s : Session) → TypedSession s → well_formed s ≡ true → s.used ≡ 0 → s.ahead ≡ 0 → (xs : List Act) → ActsOfBytes xs
    → Demand3 (sittings (sat s) xs).base (sittings (sat s) xs).first (sittings (sat s) xs).run
unfolding sat
undo_over_any_calls_and_openings s typed ok none none_ahead xs b = sitting_demand xs (sat s) b (opened_start s typed ok none none_ahead)

pub opening_is_accepted : (s : Session) → TypedSession s → well_formed s ≡ true → s.used ≡ 0 → s.ahead ≡ 0 → (xs : List Act) → ActsOfBytes xs
    → (watch_call (sittings (sat s) xs).run.session).answer ≡ 0
unfolding sat
opening_is_accepted s typed ok none none_ahead xs b = sitting_opens xs (sat s) b (opened_start s typed ok none none_ahead)

-- over any well-formed session, whatever its stores hold: from its record and its next id
pub undo_over_any_calls_once_opened : (s : Session) → TypedSession s → well_formed s ≡ true → (cs : List Call) → AllOfBytes cs
    → Demand3 s.held s.next (run (start (watch_call s).session) cs)
unfolding done watch_only renewed with_profile
undo_over_any_calls_once_opened s typed ok cs b =
    subst (λ (q : Said). Demand3 s.held s.next (run (start q.session) cs)) (sym (watch_opens s ok))
    (demand3 s.held s.next cs (start (watch_only s)) b (opening_starts s typed ok))

-- "The profile is fixed at opening and no undo alters it": after any calls, on every session
pub profile_is_fixed_at_opening : (s : Session) (cs : List Call) → (run (start s) cs).session.profile ≡ s.profile
unfolding start
profile_is_fixed_at_opening s cs = profile_fixed cs (start s)

-- "Undo and redo take back and put back clears only": what they report, of every watch-only session
pub watch_only_moves_clears_only : (w : Way) (s : Session) → s.profile ≡ 1 → (move_call w s).answer ≡ 0 → (move_call w s).kind ≡ 0x01
watch_only_moves_clears_only w s on = moves_clears s on w

-- "Training rooms want a session students can't break": of a watch-only session, right or damaged, any calls and openings change the pending logs and nothing else
-- of the record; the next id stays
pub students_cant_break_it : (s : Session) → s.profile ≡ 1 → (xs : List Act) → Unbroken s (handed s xs)
students_cant_break_it s on xs = students_unbroken xs s on

-- document 02, h: "Demand 3 reads from then on with the timer left out". The timer after a call is the one that a timer command sets; undo and redo of one give back
-- what its mark holds, "as it stood just before that command or, if it was redone since, just before its last redo", and "as it stood just before that undo" (Marks.antt,
-- `marked` and `clock_after` in History.antt); a time report takes microseconds off
pub timer_over_any_calls : (cs : List Call) → AllOfBytes cs → (c : Call) → OfBytes c → (said (after cs).session c).session.timer ≡ clock_after (after cs) (deed (after cs).session c)
unfolding next_run did
timer_over_any_calls cs b = clock_is fresh_record 1 (after cs) (invariant fresh_record 1 cs (start fresh_session) b fresh_start)

-- "no other undo or redo touches it", on every session: one that reports another kind, or none
pub no_other_undo_or_redo_touches_the_timer : (w : Way) (s : Session) → ((move_call w s).kind ≡ 0x0C → ⊥) → (move_call w s).session.timer ≡ s.timer
no_other_undo_or_redo_touches_the_timer = other_kind_keeps

-- ---- no trace: a change followed by its undo leaves all as it was, the timer too, but for the redo store, which holds that change, and the next id, where a log was made

pub no_trace : (cs : List Call) → AllOfBytes cs → (c : Call) → OfBytes c → (e : Edit) → deed (after cs).session c ≡ adds e → tried cs c ≡ leaves (after cs).session e
no_trace cs b c bc e = trace_free fresh_record 1 (after cs) (invariant fresh_record 1 cs (start fresh_session) b fresh_start) c bc e

-- the same as people use it: between the change and its undo any calls that keep the session, polls, D1 02, D3 01 and D7 03, refusals and error replies, but no
-- time report; so what follows holds of that, too
pub no_trace_with_looks_between : (cs : List Call) (c : Call) (ks : List Call) → AllKeep (said (after cs).session c).session ks → tried_and_looked cs c ks ≡ tried cs c
unfolding next_run did
no_trace_with_looks_between cs c ks h = ap (λ (s : Session). (said s undo).session) (handed_same (said (after cs).session c).session ks h)

pub kept_by_what_counts_as_nothing : (s : Session) (c : Call) → deed s c ≡ keeps → (said s c).session ≡ s
kept_by_what_counts_as_nothing = kept_session

-- without a log, every later reply is as if nobody had tried, as long as nobody redoes: any calls but redo (NoTrace.antt)
pub no_trace_without_log : (cs : List Call) → AllOfBytes cs → (c : Call) → OfBytes c → (e : Edit) → deed (after cs).session c ≡ adds e → made_of e.change ≡ 0
    → (later : List Call) → AllButRedo later → AsBefore (after cs).session (tried cs c) later
no_trace_without_log cs b c bc e = later_as_before fresh_record 1 (after cs) (invariant fresh_record 1 cs (start fresh_session) b fresh_start) c bc e

-- after a log that was taken back, every later reply is as if nobody had tried, but for log ids, as long as ids last and nobody redoes (Later.antt)
pub no_trace_later : (cs : List Call) → AllOfBytes cs → (c : Call) → OfBytes c → (e : Edit) → deed (after cs).session c ≡ adds e → made_of e.change ≡ 1
    → (ws : List (Wish (after cs).session.next)) → AsIf (after cs).session.next (after cs).session (tried cs c) ws
no_trace_later cs b c bc e d =
    later_alike fresh_record 1 (after cs) (invariant fresh_record 1 cs (start fresh_session) b fresh_start) c bc e d

-- what a redo then gives: the change again, and the session that it had made, all of it
pub redo_brings_the_try_back : (cs : List Call) → AllOfBytes cs → (c : Call) → OfBytes c → (e : Edit) → deed (after cs).session c ≡ adds e
    → (said (tried cs c) redo).session ≡ (said (after cs).session c).session
unfolding next_run did
redo_brings_the_try_back cs b c bc e = redo_brings_back fresh_record 1 (after cs) (invariant fresh_record 1 cs (start fresh_session) b fresh_start) c bc e

-- ---- redo after undo gives back the session from before the undo, all of it

pub redo_after_undo : (cs : List Call) → AllOfBytes cs → (undo_call (after cs).session).answer ≡ 0 → (redo_call (undo_call (after cs).session).session).session ≡ (after cs).session
redo_after_undo cs b = redo_undone fresh_record 1 (after cs) (invariant fresh_record 1 cs (start fresh_session) b fresh_start)

-- ---- no id twice: the logs ever made, struck out or not, have the ids 1, 2, 3, .. in the order they were made

pub no_id_twice : (cs : List Call) → AllOfBytes cs → ids_made (run (start fresh_session) cs).marks ≡ countdown 1 (logs_made (run (start fresh_session) cs).marks)
no_id_twice cs b = ids_in_order fresh_record 1 cs (start fresh_session) b fresh_start

-- ---- document 02, g: "The thermal people share a session with the SBE people and want to know that they can" (Isolation.antt; what is left out, and why: docs/ISOLATION.md)

-- "Take two fresh sessions given the same OCC exchanges in the same order, with any different SBE exchanges mixed in, no undo or redo in either, and no answer 5 to an OCC
-- command in either. Then all OCC answers and reply bytes are the same in both", and the data bytes told beside the answers
pub sbe_work_doesnt_leak : (cs ds : List Call) → AllShare cs → AllShare ds → AllOfBytes cs → AllOfBytes ds
    → occs_in cs ≡ occs_in ds → OccsFit fresh_session cs → OccsFit fresh_session ds → occs_heard fresh_session cs ≡ occs_heard fresh_session ds
sbe_work_doesnt_leak = occ_isolated

-- "also the other way round, with answer 5 to an SBE request excluded", and h: "with equal images and equal time reports at the same places": all answers, doorbells, reply
-- buffers and second buffers, the reports' doorbells among them
pub occ_work_doesnt_leak : (cs ds : List Call) → AllShare cs → AllShare ds → AllOfBytes cs → AllOfBytes ds
    → posts_in cs ≡ posts_in ds → SbesFit fresh_session cs → SbesFit fresh_session ds → posts_heard fresh_session cs ≡ posts_heard fresh_session ds
occ_work_doesnt_leak = sbe_isolated

-- ---- document 02, l: plans. o is any proposal, whoever made it; d the reply buffer of the packets sent, or the buffer that a plan is written to

pub answer_of_plan_ok : (s : Session) (p : List ℕ) (wanted : ℕ) (o : List ℕ) (n : ℕ) → ((plan_ok_call s p wanted o).answer ≡ n) ↔ PlanOkAnswer s p wanted n
answer_of_plan_ok = plan_ok_answers

pub answer_of_plan : (s : Session) (p : List ℕ) (wanted : ℕ) (d : List ℕ) (n : ℕ) → ((plan_call s p wanted d).told.answer ≡ n) ↔ PlanAnswer s p wanted d n
answer_of_plan = plan_answers

pub refusal_of_plan_keeps : (s : Session) (p : List ℕ) (wanted : ℕ) (d : List ℕ) → ((plan_call s p wanted d).told.answer ≡ 0 → ⊥)
    → ((plan_call s p wanted d).order ≡ d) × ((plan_call s p wanted d).told.small ≡ 0) × ((plan_call s p wanted d).told.beside ≡ 0)
refusal_of_plan_keeps = plan_refused

-- "A small check accepts a proposal exactly when it is such an order and, run on the given record in a session with an empty journal and the same next id, full profile,
-- every packet gets answer 0 and success and the last state is the wanted one" (Plans.antt)
pub a_plan_is_checked_exactly : (s : Session) → TypedSession s → (p : List ℕ) → Bytes p → (wanted : ℕ) → PlanDue s p wanted → (o d : List ℕ) → 4096 ≤ length d
    → Accepted (plan_ok_call s p wanted o) ↔ IsPlan s p wanted d o
a_plan_is_checked_exactly s typed p b wanted due o d long =
    Iff.trans (accepted_exactly s p wanted o due) (passes_exactly s typed p b wanted due.formed due.few d long o)

-- answer 5 never comes there: five entries have room
pub trials_never_lack_room : (s : Session) → TypedSession s → (p : List ℕ) → Bytes p → (wanted : ℕ) → PlanDue s p wanted → (o d : List ℕ) → 4096 ≤ length d
    → Order (packets_in p) o → OccsFit (trial_session s) (sent_from p d o)
trials_never_lack_room s typed p b wanted due o d long = trials_fit s typed p b wanted due.formed due.few d long o

-- the plan given passes the check, and stands at the front of the buffer, the bytes past it kept
pub the_plan_given_passes : (s : Session) (p : List ℕ) (wanted : ℕ) (d : List ℕ) → Given (plan_call s p wanted d)
    → Accepted (plan_ok_call s p wanted (plan_in (plan_call s p wanted d))) × ((plan_call s p wanted d).order ≡ at_front (plan_in (plan_call s p wanted d)) d)
    × ((plan_call s p wanted d).told.beside ≡ length (plan_in (plan_call s p wanted d)))
the_plan_given_passes s p wanted d g =
    let x = given_due s p wanted d g.1 in
    let some = given_some s p wanted d x.0 x.1 g.1 in
    (given_passes s p wanted d x.0 x.1 some.0 some.1, given_front s p wanted d x.0 x.1 some.0 some.1, given_long s p wanted d x.0 x.1 some.0 some.1)

-- it is the one with the fewest packets, then the least in index order, of all that pass
pub the_plan_given_is_least : (s : Session) (p : List ℕ) (wanted : ℕ) (d : List ℕ) → Given (plan_call s p wanted d)
    → (o : List ℕ) → Accepted (plan_ok_call s p wanted o) → FewestThenLeast (plan_in (plan_call s p wanted d)) o
the_plan_given_is_least s p wanted d g o a =
    let x = given_due s p wanted d g.1 in
    let some = given_some s p wanted d x.0 x.1 g.1 in
    given_least s p wanted d x.0 x.1 some.0 some.1 o ((accepted_exactly s p wanted o x.0).0 a)

-- "\"No plan\" comes exactly when no such order exists"; the buffer is kept then
pub no_plan_exactly_when_none : (s : Session) (p : List ℕ) (wanted : ℕ) → PlanDue s p wanted → (d : List ℕ) → 5 ≤ length d
    → NoPlan (plan_call s p wanted d) ↔ ((o : List ℕ) → Accepted (plan_ok_call s p wanted o) → ⊥)
no_plan_exactly_when_none s p wanted due d room = none_exactly s p wanted d due room

-- "such an order": about the public call, as the check is said
pub no_plan_exactly_when_no_order_leads_there : (s : Session) → TypedSession s → (p : List ℕ) → Bytes p → (wanted : ℕ) → PlanDue s p wanted → (d e : List ℕ) → 5 ≤ length d → 4096 ≤ length e
    → NoPlan (plan_call s p wanted d) ↔ ((o : List ℕ) → IsPlan s p wanted e o → ⊥)
no_plan_exactly_when_no_order_leads_there s typed p b wanted due d e room long =
    let none = no_plan_exactly_when_none s p wanted due d room in
    let checked : (o : List ℕ) → Accepted (plan_ok_call s p wanted o) ↔ IsPlan s p wanted e o = λ o. a_plan_is_checked_exactly s typed p b wanted due o e long in
    (λ h o l. none.0 h o ((checked o).1 l), λ h. none.1 (λ o a. h o ((checked o).0 a)))

-- one of the two is told where no refusal is due; of a proposal that isn't accepted, and of a refusal, nothing beside the answer
pub a_plan_or_none : (s : Session) (p : List ℕ) (wanted : ℕ) → PlanDue s p wanted → (d : List ℕ) → 5 ≤ length d → Given (plan_call s p wanted d) ⊎ NoPlan (plan_call s p wanted d)
a_plan_or_none s p wanted due d room = given_or_none s p wanted d due room

pub not_accepted_tells_no_more : (s : Session) (p : List ℕ) (wanted : ℕ) (o : List ℕ) → (Accepted (plan_ok_call s p wanted o) → ⊥)
    → plan_ok_call s p wanted o ≡ answered (plan_ok_call s p wanted o).answer
not_accepted_tells_no_more = not_accepted

pub no_plan_keeps : (s : Session) (p : List ℕ) (wanted : ℕ) (d : List ℕ) → NoPlan (plan_call s p wanted d) → (plan_call s p wanted d).order ≡ d
no_plan_keeps s p wanted d h = none_keeps s p wanted d (ap (λ (t : Told). t.small) h)

-- ---- document 02, m: saved sessions. b is a lent session, saved any bytes, out and back any buffers (Saves.antt)

-- "Refusals: 11 won't read or is ill formed .., 12 can't go down, 13 output buffer too short, in that order"
pub answer_of_save : (b out : List ℕ) → Bytes b → (n : ℕ) → ((save_to b out).told.answer ≡ n) ↔ SaveAnswer b out n
answer_of_save = save_exactly

pub answer_of_restore : (saved d : List ℕ) (n : ℕ) → ((restore_to saved d).told.answer ≡ n) ↔ RestoreAnswer saved d n
answer_of_restore = restore_exactly

pub answer_of_move_up : (saved out : List ℕ) → Bytes saved → (n : ℕ) → ((move_up_to saved out).told.answer ≡ n) ↔ MoveUpAnswer saved out n
answer_of_move_up = up_exactly

pub answer_of_move_down : (saved out : List ℕ) → Bytes saved → (n : ℕ) → ((move_down_to saved out).told.answer ≡ n) ↔ MoveDownAnswer saved out n
answer_of_move_down = down_exactly

-- what is tested is what the conditions say
pub a_base_save_exactly_when : (saved : List ℕ) → (base_reads saved ≡ true) ↔ BaseSave saved
a_base_save_exactly_when = base_save_exactly

pub a_new_save_exactly_when : (saved : List ℕ) → (saved_reads saved ≡ true) ↔ NewSave saved
a_new_save_exactly_when = new_save_exactly

pub can_go_down_exactly_when : (s : Session) → (goes_down s ≡ true) ↔ CanGoDown s
can_go_down_exactly_when = goes_down_exactly

-- "the output buffer is kept in all three"
pub refusal_of_save_keeps : (b out : List ℕ) → KeptBy out (save_to b out)
refusal_of_save_keeps = save_refused

pub refusal_of_restore_keeps : (saved d : List ℕ) → KeptBy d (restore_to saved d)
refusal_of_restore_keeps = restore_refused

pub refusal_of_move_up_keeps : (saved out : List ℕ) → KeptBy out (move_up_to saved out)
refusal_of_move_up_keeps = up_refused

pub refusal_of_move_down_keeps : (saved out : List ℕ) → KeptBy out (move_down_to saved out)
refusal_of_move_down_keeps = down_refused

-- what is written is the form of the session that was read, at the front of the buffer; the bytes past it are kept
pub save_writes_the_new_form : (b out : List ℕ) → Done (save_to b out) → Written (saved_of (session_of b)) out (save_to b out)
save_writes_the_new_form = save_written

pub move_up_writes_the_new_form : (saved out : List ℕ) → Done (move_up_to saved out) → Written (saved_of (session_of_base saved)) out (move_up_to saved out)
move_up_writes_the_new_form = up_written

pub move_down_writes_the_base_form : (saved out : List ℕ) → Done (move_down_to saved out) → Written (base_of (session_of_saved saved)) out (move_down_to saved out)
move_down_writes_the_base_form = down_written

-- "Up then down gives the same bytes"
pub up_then_down_gives_the_same_bytes : (saved out : List ℕ) → Done (move_up_to saved out) → Bytes saved → (back : List ℕ)
    → move_down_to (written_by (move_up_to saved out)) back ≡ put_into saved back
up_then_down_gives_the_same_bytes = up_down

-- "down then up gives the same session": the same bytes of its new form
pub down_then_up_gives_the_same_session : (saved out : List ℕ) → Done (move_down_to saved out) → Bytes saved → (back : List ℕ)
    → move_up_to (written_by (move_down_to saved out)) back ≡ put_into saved back
down_then_up_gives_the_same_session = down_up

-- "Moving up leaves redo empty, profile full and timer off, and works the marks out"
pub moving_up_leaves : (saved out : List ℕ) → Done (move_up_to saved out) → Bytes saved → LeftByUp saved (session_of_saved (written_by (move_up_to saved out)))
moving_up_leaves = up_leaves

-- a session saved and restored, over whatever session stood there, and a save restored and saved
pub save_then_restore_gives_the_same_session : (b out : List ℕ) → Done (save_to b out) → Bytes b → (d : List ℕ) → length d ≡ image_length
    → restore_to (written_by (save_to b out)) d ≡ record { told = answered 0; out = b }
save_then_restore_gives_the_same_session = save_restore

pub restore_then_save_gives_the_same_bytes : (saved d : List ℕ) → Done (restore_to saved d) → Bytes saved → (out : List ℕ) → save_to (restore_to saved d).out out ≡ put_into saved out
restore_then_save_gives_the_same_bytes = restore_save

-- "each part one byte of kind and a body whose length the kind fixes": by the table of their lengths, what is restored reads as the seven parts of its session
pub a_new_form_is_seven_parts : (saved d : List ℕ) → Done (restore_to saved d) → Bytes saved → scan_by part_table saved ≡ between (parts_of (session_of_saved saved))
a_new_form_is_seven_parts = restored_parts

-- a session restored is well formed, and what is worked out is worked out
pub a_restored_session_is_well_formed : (saved d : List ℕ) → Done (restore_to saved d) → Bytes saved → well_formed (session_of (restore_to saved d).out) ≡ true
a_restored_session_is_well_formed = restored_formed

pub worked_out_after_restore : (saved d : List ℕ) → Done (restore_to saved d) → Bytes saved
    → (session_of (restore_to saved d).out).worked ≡ worked_of (session_of (restore_to saved d).out).held
worked_out_after_restore = restored_worked

-- ---- every session handed in, right or damaged, at the bytes that are lent: b is any bytes, and those of an image's length are one of a session. So what is
-- promised above of every session s with `TypedSession s` holds of every image, at `session_of b`

pub every_image_is_a_session : (b : List ℕ) → Bytes b → length b ≡ image_length → TypedSession (session_of b)
every_image_is_a_session b bytes long = (typed_image b bytes long).session

-- what a call gives on it is what it gives on its session: result, every byte of the image after it, every byte of the reply buffer
pub same_on_every_image : (b : List ℕ) → Bytes b → length b ≡ image_length → (c : Call) → lent b c ≡ carried_over (session_of b) c
same_on_every_image = every_image

-- an answer other than 0 leaves every byte of image and reply buffer, whatever was lent; the second buffer: second-buffer-on-lent-bytes
pub refusal_keeps_every_byte : (b : List ℕ) → Bytes b → (c : Call) → (answer_in (lent b c).result ≡ 0 → ⊥) → ((lent b c).image ≡ b) × ((lent b c).reply ≡ buffer_of c)
refusal_keeps_every_byte = every_byte

-- bytes of another length are no session: answer 1, and all is kept
pub another_length_is_answer_1 : (b : List ℕ) → (length b ≡ image_length → ⊥) → (c : Call) → lent b c ≡ record { result = 1; image = b; reply = buffer_of c }
another_length_is_answer_1 = no_session

-- the same of an opening: on every image what it gives on its session; a refusal keeps every byte; bytes of another length are no session
pub watch_on_every_image : (b : List ℕ) → length b ≡ image_length → watch_on b ≡ watched_on (session_of b)
watch_on_every_image = watch_lent

pub refusal_of_watch_keeps_every_byte : (b : List ℕ) → Bytes b → ((watch_on b).told.answer ≡ 0 → ⊥) → (watch_on b).image ≡ b
refusal_of_watch_keeps_every_byte = watch_keeps_bytes

pub another_length_is_answer_1_of_watch : (b : List ℕ) → (length b ≡ image_length → ⊥) → watch_on b ≡ no_image b []
another_length_is_answer_1_of_watch = watch_no_image

-- the calls `plan_ok` and `plan` on every image; neither has a way to write to it
pub plan_ok_on_every_image : (b p : List ℕ) (wanted : ℕ) (o : List ℕ) → length b ≡ image_length → plan_ok_on b p wanted o ≡ plan_ok_call (session_of b) p wanted o
plan_ok_on_every_image b p wanted o long = on_image_checked b p wanted o long

pub plan_on_every_image : (b p : List ℕ) (wanted : ℕ) (d : List ℕ) → length b ≡ image_length → plan_on b p wanted d ≡ plan_call (session_of b) p wanted d
plan_on_every_image b p wanted d long = on_image_planned b p wanted d long

pub another_length_is_answer_1_of_plan : (b p : List ℕ) (wanted : ℕ) (d : List ℕ) → (length b ≡ image_length → ⊥)
    → (plan_ok_on b p wanted d ≡ answered 1) × (plan_on b p wanted d ≡ record { told = answered 1; order = d })
another_length_is_answer_1_of_plan = no_image_plans

-- ---- the same for C: an image made fresh, and any calls on it; it stays the image of the session, and each call's result and reply are the session's

pub same_on_images : (b : List ℕ) → length b ≡ image_length → (cs : List Call) → AllOfBytes cs
    → (lent_run (fresh_on b).image cs ≡ image_of (after cs).session) × ((c : Call) → lent (image_of (after cs).session) c ≡ carried_over (after cs).session c)
unfolding start
same_on_images b long cs bs = (
  ap (λ (i : List ℕ). lent_run i cs) (fresh_image b long) ∙ lent_run_lem fresh_record 1 cs (start fresh_session) bs fresh_start,
  lent_next fresh_record 1 (after cs) (invariant fresh_record 1 cs (start fresh_session) bs fresh_start),
)

-- ---- document 02, a: a trace of bytes, played from a fresh session (Replays.antt)

-- the session at the end is the one that its calls give one by one, so demand 3 holds of it; the lines are those of the calls, and last the stop line
pub replay_is_its_calls : (t : List ℕ) → Bytes t
    → (image_after (entries_of (trace_scan t)) ≡ image_of (after (calls_in t)).session) and (pieces_of t ≡ lines_by (start fresh_session) 1 (calls_in t) ++ stop_line (reading_of (trace_scan t)))
replay_is_its_calls t bytes = (replay_run t bytes, replay_lines t bytes)

pub replay_meets_demand_3 : (t : List ℕ) → Bytes t → Demand3 fresh_record 1 (run (start fresh_session) (calls_in t))
replay_meets_demand_3 t bytes = undo_over_any_calls (calls_in t) (trace_bytes t bytes)

-- said of the bytes: the whole entries are a beginning of the trace, each as long as its kind fixes; they are played; what stands where they end is no kind, or a kind whose
-- entry is longer than what is left, and that offset is told (Replays.antt)
pub replay_plays_up_to_the_break : (t : List ℕ) → Bytes t → PlaysUpTo t
replay_plays_up_to_the_break = plays_up_to

-- that session and those lines are what `play` leaves in what it is lent, b and d, where b has an image's length and d room for the lines
pub play_leaves_session_and_lines : (b t d : List ℕ) → length b ≡ image_length → room_for (length (entries_of (trace_scan t))) ≤ length d
    → ((replayed b t d).image ≡ image_after (entries_of (trace_scan t))) and ((replayed b t d).out ≡ pasted 0 (joined (pieces_of t)) d)
play_leaves_session_and_lines = play_leaves

-- a broken trace plays exactly as its whole entries do, and then stops
pub broken_plays_as_whole : (t : List ℕ)
    → (image_after (entries_of (trace_scan t)) ≡ image_after (entries_of (trace_scan (whole_part t)))) and (pieces_of t ≡ pieces_of (whole_part t) ++ stop_line (reading_of (trace_scan t)))
broken_plays_as_whole t = (broken_image t, broken_lines t)

-- the whole entries of a trace of any length, handed to `step` one after the other, each session handed on, with any buffer that it takes: the same session and
-- the same lines (Steps.antt of `playing`)
pub steps_are_the_whole : (t d : List ℕ) → line_room ≤ length d
    → steps_from d (image_of fresh_session) 1 (oldest_first (entries_of (trace_scan t)))
    ≡ record { image = image_after (entries_of (trace_scan t)); text = joined (lines_of (entries_of (trace_scan t))) }
steps_are_the_whole = steps_whole

-- ---- document 02, f: where the traces t and u part (Partings.antt, and Parting.antt of `parting`)

-- the part is the longest run of whole entries with which both begin, and there is no other
pub parting_is_longest : (t u : List ℕ) → Longest t u (shared_part t u) and ((p : List ℕ) → Longest t u p → p ≡ shared_part t u)
parting_is_longest t u = (part_longest t u, λ p l. longest_is_one t u p (shared_part t u) l (part_longest t u))

-- the number of entries is that of the part, and the next entry has the number after it
pub parting_number : (t u : List ℕ)
    → (es : List Entry) × ((trace_scan (shared_part t u) ≡ between es) and ((parting_of t u).entries ≡ length es) and ((parting_of t u).next ≡ suc (length es)))
parting_number = part_number

-- so many first entries of both are the same
pub parting_same_entries : (t u : List ℕ) → first_entries (parting_of t u).entries t ≡ first_entries (parting_of t u).entries u
parting_same_entries = same_first

-- the part ends in the session, and in the lines, of as many first entries of either trace
pub parting_plays_alike : (t u : List ℕ)
    → PlaysAsFirst (shared_part t u) (parting_of t u).entries t and PlaysAsFirst (shared_part t u) (parting_of t u).entries u
parting_plays_alike t u = (part_plays_as_first t u, part_plays_as_second t u)

-- "Equal traces that read to the end give all of the first; an empty trace shares nothing"
pub equal_traces_share_all : (t : List ℕ) (es : List Entry) → trace_scan t ≡ between es → shared_part t t ≡ t
equal_traces_share_all = equal_share_all

pub empty_shares_nothing : (t : List ℕ) → (shared_part [] t ≡ []) and (shared_part t [] ≡ [])
empty_shares_nothing t = (first_empty t, second_empty t)

-- "a trace whose first entry won't read shares nothing, and the player's refusal for it stands beside the answer, the first trace's before the second's"
pub parting_refused_as_played : (t u : List ℕ) → PlayersRefusal (reading_of (trace_scan t)) (reading_of (trace_scan u)) (refusal_of t u)
parting_refused_as_played = refusal_is_the_players

pub refused_traces_share_nothing : (t u : List ℕ) → (refusal_of t u ≡ None → ⊥) → shared_part t u ≡ []
refused_traces_share_nothing = refused_shares_nothing

-- ---- the ten worked examples of document 01, at the bytes

pub ten_examples : All holds table
ten_examples = examples
