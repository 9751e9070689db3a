-- What the examples compute with, of the calls `sbe`, `undo` and `redo`.
use Rattle.std.specs.Prelude.{ℕ}
use Rattle.sbe.specs.Mailbox.{flags_of, word_at, register_at, plain_flags, start_or_stop, deadman_of, exit_of, target_of, chiplet_of, chiplet_ranges, within, in_ranges, chiplet_known, ring_at, ring_of, timer_of, seeprom_of, cores_of, area_status, area_of, if_fine, areas_read, areas_judged, areas_of, core_state, ring_class, timer_class, general, request_for, request_ruling, bell_of, response_bytes}
use Rattle.sbe_call.specs.Sbe.{refusal_of, sbe_refusal, counted_in, read_status, read_at, judged_for, told_of, ruling_asks, sbe_ruling, denied, by_profile, sbe_read, sbe_asks, sbe_call}
use Rattle.journal.specs.Ways.{by_way, other}
use Rattle.undo_call.specs.Undo.{put_asks, edit_asks, got_asks, entry_asks, read_asks, none_left, newest_asks, move_asks, move_call}

unfoldable pub computed_sbe : ℕ
unfolding flags_of word_at register_at plain_flags start_or_stop deadman_of exit_of target_of chiplet_of chiplet_ranges within in_ranges chiplet_known ring_at ring_of timer_of seeprom_of cores_of area_status area_of if_fine areas_read areas_judged areas_of core_state ring_class timer_class general request_for request_ruling bell_of response_bytes refusal_of sbe_refusal counted_in read_status read_at judged_for told_of ruling_asks sbe_ruling denied by_profile sbe_read sbe_asks sbe_call by_way other put_asks edit_asks got_asks entry_asks read_asks none_left newest_asks move_asks move_call
computed_sbe = 0
