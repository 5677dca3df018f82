-- Names for the lists of words that proofs compute with: `unfolding computed_step` unfolds them all.
use Rattle.std.proofs.Common.{ℕ, zero}
use Rattle.lapd_mod128.specs.Counting.{after, before, steps, lies_within}
use Rattle.lapd_supervision.specs.StateVariables.{last_i_frame, initial_variables, without_exceptions, with_zero_counters, status_frame, acknowledgement, without_ack_pending, poll_response, is_accepted, is_rejected, after_i_frame, i_frame_response, is_valid_nr, with_va, acknowledged_count, acknowledges_all, with_vs, may_send, next_i_frame, after_sending, with_own_busy, with_peer_busy}
use Rattle.lapd_link_definition.specs.AwaitingEstablishment.{end_establishment, confirm_or_indicate, ua_final, awaiting_establishment_t200, awaiting_establishment}
use Rattle.lapd_link_definition.specs.AwaitingRelease.{confirm_release, awaiting_release_t200, awaiting_release}
use Rattle.lapd_link_definition.specs.EndOfStep.{send_all, acknowledge_pending, end_step}
use Rattle.lapd_link_definition.specs.End.{begin}
use Rattle.lapd_link_definition.specs.Established.{established_t200, acknowledge_with_timers, i_frame_nr, poll_or_final, rr_nr, rej_nr, rnr_nr, busy_on, busy_off, in_7_and_8, multiple_frame_established}
use Rattle.lapd_link_definition.specs.Procedures.{retransmit_last_i_frame, put, state_to, rc_to, increment_rc, layer3_initiated_to, release_pending_to, start, stop, expired, clear_exception_conditions, zero_state_variables, set_peer_busy, set_own_busy, enquiry_response, transmit_enquiry, queue_up, discard_i_queue, acknowledge, invoke_retransmission, i_frame_ns, discard_unacknowledged, transmit_i_frame, ensure_t200, transmit_rr, establish_data_link, reestablish_data_link, nr_error_recovery}
use Rattle.lapd_link_definition.specs.Table.{by_state, report_fault, row, step}
use Rattle.lapd_link_definition.specs.TeiAssigned.{tei_assigned}
use Rattle.lapd_link_definition.specs.TimerRecovery.{i_frame_nr_in_recovery, poll, rr_nr_in_recovery, rnr_nr_in_recovery, timer_recovery_t200, timer_recovery}

-- each action of the state table, except those that are rows of actions
unfoldable pub each_action : ℕ
unfolding put state_to rc_to increment_rc layer3_initiated_to release_pending_to start stop expired
    clear_exception_conditions zero_state_variables set_peer_busy set_own_busy enquiry_response
    transmit_enquiry transmit_rr queue_up discard_i_queue acknowledge invoke_retransmission
    discard_unacknowledged i_frame_ns transmit_i_frame ensure_t200 retransmit_last_i_frame
each_action = zero

-- each action, and how it changes the state variables
unfoldable pub each_change : ℕ
unfolding each_action begin without_exceptions with_zero_counters without_ack_pending after_i_frame
    with_va acknowledged_count with_vs after_sending with_own_busy with_peer_busy
each_change = zero

-- each row of the state table
unfoldable pub each_row : ℕ
unfolding establish_data_link reestablish_data_link nr_error_recovery tei_assigned end_establishment
    confirm_or_indicate ua_final awaiting_establishment_t200 awaiting_establishment confirm_release
    awaiting_release_t200 awaiting_release acknowledge_with_timers i_frame_nr poll_or_final rr_nr
    rej_nr rnr_nr busy_on busy_off in_7_and_8 established_t200 multiple_frame_established
    i_frame_nr_in_recovery poll rr_nr_in_recovery rnr_nr_in_recovery timer_recovery_t200
    timer_recovery by_state report_fault row
each_row = zero

-- all that a step computes with
unfoldable pub computed_step : ℕ
unfolding each_change each_row send_all acknowledge_pending end_step step last_i_frame before
    initial_variables status_frame acknowledgement poll_response is_accepted is_rejected
    i_frame_response is_valid_nr acknowledges_all may_send next_i_frame after steps lies_within
computed_step = zero
