-- What the examples compute with, of the session and below: to unfold `computed_session` is to unfold all that its line names.
use Rattle.std.specs.Prelude.{ℕ}
use Rattle.wire.specs.Wire.{sum_of, packet_sum, be_onto, be_nat, to_be, pasted, all_are}
use Rattle.record.specs.Record.{fresh_record, clamped, limit_of, observation_ready, active_ready, caps_missing, wanted_of, flag_of, worked_of}
use Rattle.change.specs.Change.{clear_of, unclear_of, reset_of, unreset_of, put_with, put_of, last_of, made_by, made_again, back_of, kind_of, tables_for, inverse_of, timed_change, timed, takes_back, timer_after}
use Rattle.change.specs.Logs.{pending_of, find_of, remove_at, insert_at, pends_at}
use Rattle.change.specs.With.{with_state, with_role, with_caps, with_throttles, with_user, with_thermal, with_logs, with_mask, with_deadman, with_areas}
use Rattle.formed.specs.Formed.{state_ok, flag_ok, role_ok, caps_ok, clock_ok, deadman_ok, timer_ok, pair_ok, pairs_ok, absent_zero, throttles_ok, multiple_of128, in_memory, area_ok, areas_ok, fields_ok, in_order, thermal_rule, thermal_ok, next_ok, reason_ok, unused, log_ok, logs_above, logs_ok, record_ok, cleared_ok, made_ok, unreset_ok, change_ok, edit_ok}
use Rattle.entries.specs.Entries.{body_len, bytes_of, written, with_kind, journal_table, opened, eat, scan_from, scan_by, entries_of, newest_at, reading_of}
use Rattle.marks.specs.Marks.{milestones, spelled, marks_of, same}
use Rattle.journal.specs.Add.{end_of, added_to, cut_from}
use Rattle.journal.specs.Bytes.{cleared_body, caps_body, throttles_body, clock_body, area_bytes, areas_body, body_of, entry_for, entry_bytes}
use Rattle.journal.specs.Read.{caps_at, area_at, found_for, tables_in, edit_by, got_for, got_of, values_ok, entry_ok, all_ok, scan_ok, entries_ok, cleared_as, reset_as}
use Rattle.session.specs.Session.{fresh_session, worked_fits, held_ok, store_ok, entries_in, stores_ok, only_clears, profile_ok, well_formed, made_of, renewed, with_timer, carried_to, carried_of}
use Rattle.session.specs.Road.{due, store_of, used_of, lessened, grown, grown_to, session_moved, kept, done, carried_says, settled}

unfoldable pub computed_session : ℕ
unfolding sum_of packet_sum be_onto be_nat to_be pasted all_are fresh_record clamped limit_of observation_ready active_ready caps_missing wanted_of flag_of worked_of clear_of unclear_of reset_of unreset_of put_with put_of last_of made_by made_again back_of kind_of tables_for inverse_of timed_change timed takes_back timer_after pending_of find_of remove_at insert_at pends_at with_state with_role with_caps with_throttles with_user with_thermal with_logs with_mask with_deadman with_areas state_ok flag_ok role_ok caps_ok clock_ok deadman_ok timer_ok pair_ok pairs_ok absent_zero throttles_ok multiple_of128 in_memory area_ok areas_ok fields_ok in_order thermal_rule thermal_ok next_ok reason_ok unused log_ok logs_above logs_ok record_ok cleared_ok made_ok unreset_ok change_ok edit_ok body_len bytes_of written with_kind journal_table opened eat scan_from scan_by entries_of newest_at reading_of milestones spelled marks_of same end_of added_to cut_from cleared_body caps_body throttles_body clock_body area_bytes areas_body body_of entry_for entry_bytes caps_at area_at found_for tables_in edit_by got_for got_of values_ok entry_ok all_ok scan_ok entries_ok cleared_as reset_as fresh_session worked_fits held_ok store_ok entries_in stores_ok only_clears profile_ok well_formed made_of renewed with_timer carried_to carried_of due store_of used_of lessened grown grown_to session_moved kept done carried_says settled
computed_session = 0
