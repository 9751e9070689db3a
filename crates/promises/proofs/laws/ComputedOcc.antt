-- What the examples compute with, of the call `occ`.
use Rattle.std.specs.Prelude.{ℕ}
use Rattle.packet.specs.Packet.{data_length, status_at, packet_status, data_at, data_of, unsummed, reply_bytes, replied}
use Rattle.sets.specs.Sets.{bit_of, read_of, with_pair, one_set, throttles_of, with_fru, one_fru, thermal_of}
use Rattle.poll.specs.Poll.{master_bit, mark_bit, status_byte, oldest_id, log_length, poll_head, caps_block, shows_caps, poll_data}
use Rattle.occ.specs.Commands.{poll_verdict, clear_at, clear_verdict, state_fits, not_ready, state_verdict, role_verdict, caps_for, sent_caps, caps_verdict, user_allowed, user_for, user_verdict, log_due, reset_for, reset_verdict}
use Rattle.occ.specs.Judge.{plainly, count_status, sets_status, sets_read, read_judged, throttles_read, throttles_judged, thermal_read, thermal_judged, format_judged, configure_judged, type_judged, judge_of}
use Rattle.occ.specs.Open.{row_of, open_to, open_in, shut_status, shut, by_profile}
use Rattle.occ_call.specs.Occ.{known_sender, refusal_of, occ_refusal, told_of, verdict_asks, judged_asks, asked_for, asked_of, occ_read, occ_asks, occ_call}

unfoldable pub computed_occ : ℕ
unfolding data_length status_at packet_status data_at data_of unsummed reply_bytes replied bit_of read_of with_pair one_set throttles_of with_fru one_fru thermal_of master_bit mark_bit status_byte oldest_id log_length poll_head caps_block shows_caps poll_data poll_verdict clear_at clear_verdict state_fits not_ready state_verdict role_verdict caps_for sent_caps caps_verdict user_allowed user_for user_verdict log_due reset_for reset_verdict plainly count_status sets_status sets_read read_judged throttles_read throttles_judged thermal_read thermal_judged format_judged configure_judged row_of open_to open_in shut_status shut by_profile type_judged judge_of known_sender refusal_of occ_refusal told_of verdict_asks judged_asks asked_for asked_of occ_read occ_asks occ_call
computed_occ = 0
