-- T200 runs when it must, after each step: row by row.
use Rattle.std.proofs.Common.{◌≡◌, ℕ, zero, suc, ◌==◌, ◌&&◌, nat_lt, Ok, if◌then◌else◌, Bool, true, false, subst, refl, sym}
use Rattle.std.proofs.lemmas.Bool.{eqb-true}
use Rattle.lapd_timers.specs.declared.timer.Timer.TheVariants.{T200, T203}
use Rattle.lapd_frame.specs.declared.Role.TheVariants.{Command, Answer}
use Rattle.lapd_frame.specs.declared.Control.TheVariants.{I, Rr, Rnr, Rej, Sabme, Dm, Disc, Ua, Frmr}
use Rattle.lapd_mod128.specs.Counting.{Whole}
use Rattle.lapd_supervision.specs.StateVariables.{is_valid_nr, acknowledges_all, without_exceptions, with_zero_counters, without_ack_pending, after_i_frame, with_va, with_vs, with_peer_busy}
use Rattle.lapd_link_definition.specs.declared.state.State.{State}
use Rattle.lapd_link_definition.specs.declared.state.State.TheVariants.{TeiAssigned, AwaitingEstablishment, AwaitingRelease, MultipleFrameEstablished, TimerRecovery}
use Rattle.lapd_frame.specs.declared.fault_kind.FaultKind.{FaultKind}
use Rattle.lapd_link_definition.specs.declared.out.Letter.TheVariants as letter
use Rattle.lapd_link_definition.specs.declared.out.Out.TheVariants.{Report, Confirmed}
use Rattle.lapd_link_definition.specs.AwaitingEstablishment.{end_establishment, confirm_or_indicate, ua_final, awaiting_establishment_t200, awaiting_establishment}
use Rattle.lapd_link_definition.specs.AwaitingRelease.{confirm_release, awaiting_release_t200, awaiting_release}
use Rattle.lapd_link_definition.specs.EndOfStep.{send_next, is_7_or_8, is_established, send_all, acknowledge_pending, end_step, may_send_next}
use Rattle.lapd_link_definition.specs.End.{End, StepState, ◌▷◌, unsent, runs, begin}
use Rattle.lapd_link_definition.specs.Established.{sends_last, established_t200, acknowledge_with_timers, i_frame_nr, poll_or_final, rr_nr, rej_nr, rnr_nr, busy_on, busy_off, in_7_and_8, multiple_frame_established}
use Rattle.lapd_link_definition.specs.Input.{Input, Heard, Faulty, Expiry, Establish, Release, BusyOn, BusyOff, UnitData, Give}
use Rattle.lapd_link_definition.specs.Procedures.{put, state_to, rc_to, increment_rc, layer3_initiated_to, release_pending_to, start, stop, expired, clear_exception_conditions, zero_state_variables, set_peer_busy, enquiry_response, transmit_enquiry, acknowledge, invoke_retransmission, i_frame_ns, discard_unacknowledged, transmit_i_frame, ensure_t200, transmit_rr, establish_data_link, reestablish_data_link, nr_error_recovery}
use Rattle.lapd_link_definition.specs.Refusal.{refused}
use Rattle.lapd_link_definition.specs.Table.{by_state, report_fault, row, step, is_unit_data, fault_letter}
use Rattle.lapd_link_definition.specs.TeiAssigned.{tei_assigned}
use Rattle.lapd_link_definition.specs.TimerRecovery.{i_frame_nr_in_recovery, poll, rr_nr_in_recovery, rnr_nr_in_recovery, timer_recovery_t200, timer_recovery, is_final}
use Rattle.lapd_link_definition.proofs.PreservedByStep.{taken}
use Rattle.lapd_link_definition.proofs.Sending.{both_true}
use Rattle.lapd_pair_laws.proofs.Lists.{by_test}
use Rattle.lapd_pair_laws.specs.Timed.{IsTimedIn, IsTimed}
use Rattle.lapd_link_definition.proofs.ComputedStep.{each_change}

abbrev After : StepState → Type 0
After s = IsTimed s.end

-- ---- States 4, 5 and 6.

timed_4 : (h : Input) (s : StepState) → s.end.state ≡ TeiAssigned → After (tei_assigned h s)
unfolding each_change tei_assigned establish_data_link
timed_4 (Heard (Sabme p) Command) s q = λ no. (refl, refl)
timed_4 Establish s q = refl
timed_4 (Heard (Disc p) Command) s q = rw q tt
timed_4 (Heard (Ua f) Answer) s q = rw q tt
timed_4 Release s q = rw q tt
timed_4 input s q = rw q tt

timed_6_expired : (s : StepState) → s.end.state ≡ AwaitingRelease → After (awaiting_release_t200 s)
unfolding each_change awaiting_release_t200
timed_6_expired s q =
    by_test After (nat_lt s.end.rc s.end.parameters.n200) _ _ (λ _. rw q tt) (λ _. tt)

timed_6 : (h : Input) (s : StepState) → s.end.state ≡ AwaitingRelease → After (awaiting_release h s)
unfolding each_change awaiting_release confirm_release
timed_6 (Heard (Dm true) Answer) s q = tt
timed_6 (Heard (Ua true) Answer) s q = tt
timed_6 (Expiry T200) s q = timed_6_expired s q
timed_6 (Heard (Sabme p) Command) s q = rw q tt
timed_6 (Heard (Disc p) Command) s q = rw q tt
timed_6 (Heard (Ua false) Answer) s q = rw q tt
timed_6 input s q = rw q tt

timed_5_expired : (s : StepState) → s.end.state ≡ AwaitingEstablishment
    → s.end.window.peer_busy ≡ false → After (awaiting_establishment_t200 s)
unfolding each_change awaiting_establishment_t200 end_establishment
timed_5_expired s q h =
    by_test After (nat_lt s.end.rc s.end.parameters.n200) _ _ (λ _. rw q h) (λ _. tt)

confirmed : (s : StepState) → (confirm_or_indicate s).end.window.peer_busy ≡ s.end.window.peer_busy
unfolding each_change confirm_or_indicate
confirmed s = by_asking s.end.layer3_initiated
  where
    by_asking : (b : Bool)
        → (if b then s ▷ put Confirmed else s ▷ discard_unacknowledged).end.window.peer_busy
        ≡ s.end.window.peer_busy
    by_asking true = refl
    by_asking false = refl

answered_5 : (s : StepState) → s.end.window.peer_busy ≡ false → After (ua_final s)
unfolding ua_final release_pending_to rc_to put start stop state_to zero_state_variables
    with_zero_counters
answered_5 s h =
    by_test After s.end.release_pending _ _ (λ _. tt)
    (λ _ no. let same = confirmed s in (refl, rw same h))

timed_5 : (h : Input) (s : StepState) → s.end.state ≡ AwaitingEstablishment
    → s.end.window.peer_busy ≡ false → After (awaiting_establishment h s)
unfolding each_change awaiting_establishment end_establishment
timed_5 (Heard (Dm true) Answer) s q h = tt
timed_5 (Heard (Ua true) Answer) s q h = answered_5 s h
timed_5 (Expiry T200) s q h = timed_5_expired s q h
timed_5 Establish s q h = rw q h
timed_5 Release s q h = rw q h
timed_5 (Give message) s q h = rw q h
timed_5 (Heard (Sabme p) Command) s q h = rw q h
timed_5 (Heard (Disc p) Command) s q h = rw q h
timed_5 (Heard (Ua false) Answer) s q h = rw q h
timed_5 input s q h = rw q h

-- ---- States 7 and 8.

-- the data link establishes again by itself
again : (s : StepState) → After (reestablish_data_link s)
unfolding reestablish_data_link establish_data_link clear_exception_conditions without_exceptions
    layer3_initiated_to release_pending_to rc_to put stop start state_to
again s = refl

wrong : (s : StepState) → After (nr_error_recovery s)
unfolding nr_error_recovery put
wrong s = again (s ▷ put (Report letter.J))

-- in state 7, or in state 8
abbrev In7 : StepState → Type 0
In7 s = s.end.t200 ≡ false → (s.end.window.vs ≡ s.end.window.va) × (s.end.window.peer_busy ≡ false)

timed_timers : (nr : ℕ) (s : StepState) → s.end.state ≡ MultipleFrameEstablished
    → s.end.window.peer_busy ≡ false → In7 s → After (acknowledge_with_timers Whole nr s)
unfolding acknowledge_with_timers acknowledges_all acknowledge with_va stop start
timed_timers nr s q free h =
    by_test After (nr == s.end.window.vs) _ _
    (λ all. let same = eqb-true nr s.end.window.vs all in rw q (λ no. (sym same, free)))
    (λ _. by_test After (nr == s.end.window.va) _ _ (λ _. rw q h) (λ _. rw q (λ no. cc)))

timed_i_nr : (nr : ℕ) (s : StepState) → s.end.state ≡ MultipleFrameEstablished → In7 s
    → After (i_frame_nr Whole nr s)
unfolding i_frame_nr acknowledge with_va
timed_i_nr nr s q h = by_test After (is_valid_nr Whole nr s.end.window) _ _
    (λ _. by_test After s.end.window.peer_busy _ _ (λ busy. rw q (λ no. let free = (h no).1 in cc))
    (λ free. timed_timers nr s q free h)) (λ _. wrong s)

timed_rr_nr : (nr : ℕ) (s : StepState) → s.end.state ≡ MultipleFrameEstablished
    → s.end.window.peer_busy ≡ false → In7 s → After (rr_nr Whole nr s)
unfolding rr_nr
timed_rr_nr nr s q free h =
    by_test After (is_valid_nr Whole nr s.end.window) _ _ (λ _. timed_timers nr s q free h)
    (λ _. wrong s)

timed_rej_nr : (nr : ℕ) (s : StepState) → s.end.state ≡ MultipleFrameEstablished
    → s.end.window.peer_busy ≡ false → After (rej_nr Whole nr s)
unfolding rej_nr acknowledge invoke_retransmission with_va with_vs stop start
timed_rej_nr nr s q free =
    by_test After (is_valid_nr Whole nr s.end.window) _ _ (λ _. rw q (λ no. (refl, free)))
    (λ _. wrong s)

timed_rnr_nr : (nr : ℕ) (s : StepState) → s.end.state ≡ MultipleFrameEstablished
    → After (rnr_nr Whole nr s)
unfolding rnr_nr acknowledge with_va stop start
timed_rnr_nr nr s q =
    by_test After (is_valid_nr Whole nr s.end.window) _ _ (λ _. rw q (λ no. cc)) (λ _. wrong s)

timed_both : (h : Input) (s : StepState) → is_7_or_8 s.end.state ≡ true → After s
    → After (in_7_and_8 h s)
unfolding each_change in_7_and_8 busy_on busy_off establish_data_link
timed_both (Heard (Sabme p) Command) s q h = λ no. (refl, refl)
timed_both (Heard (Disc p) Command) s q h = tt
timed_both (Heard (Dm false) Answer) s q h = again (s ▷ put (Report letter.E))
timed_both (Heard (Frmr f) Answer) s q h = again (s ▷ put (Report letter.K))
timed_both Establish s q h = refl
timed_both Release s q h = tt
timed_both BusyOn s q h = by_test After s.end.window.own_busy _ _ (λ _. h) (λ _. h)
timed_both BusyOff s q h = by_test After s.end.window.own_busy _ _ (λ _. h) (λ _. h)
timed_both (Give message) s q h = h
timed_both (Heard (Ua f) Answer) s q h = h
timed_both input s q h = h

timed_7_t200 : (s : StepState) → After (established_t200 Whole s)
unfolding each_change established_t200
timed_7_t200 s =
    by_test After (sends_last s.end.parameters.recovery s.end.window) _ _ (λ _. tt) (λ _. tt)

timed_7_t203 : (s : StepState) → After (multiple_frame_established Whole (Expiry T203) s)
unfolding each_change multiple_frame_established
timed_7_t203 s = tt

-- an end whose state and variables are those of s
in_state : (state : State) (s : StepState) → s.end.state ≡ state
    → IsTimedIn state s.end.t200 s.end.window.vs s.end.window.va s.end.window.peer_busy → After s
in_state state s q h =
    let F : State → Type 0 =
    λ st. IsTimedIn st s.end.t200 s.end.window.vs s.end.window.va s.end.window.peer_busy in
    subst F (sym q) h

timed_7 : (h : Input) (s : StepState) → s.end.state ≡ MultipleFrameEstablished → In7 s
    → After (multiple_frame_established Whole h s)
unfolding each_change multiple_frame_established poll_or_final
timed_7 (Heard (I ns nr p) Command) s q h = timed_i_nr nr (i_frame_ns Whole ns p s) q h
timed_7 (Heard (Rr nr true) Command) s q h =
    timed_rr_nr nr (enquiry_response (set_peer_busy false s)) q refl (λ no. ((h no).0, refl))
timed_7 (Heard (Rr nr false) Command) s q h =
    timed_rr_nr nr (set_peer_busy false s) q refl (λ no. ((h no).0, refl))
timed_7 (Heard (Rr nr true) Answer) s q h =
    timed_rr_nr nr (put (Report letter.A) (set_peer_busy false s)) q refl (λ no. ((h no).0, refl))
timed_7 (Heard (Rr nr false) Answer) s q h =
    timed_rr_nr nr (set_peer_busy false s) q refl (λ no. ((h no).0, refl))
timed_7 (Heard (Rnr nr true) Command) s q h =
    timed_rnr_nr nr (enquiry_response (set_peer_busy true s)) q
timed_7 (Heard (Rnr nr false) Command) s q h = timed_rnr_nr nr (set_peer_busy true s) q
timed_7 (Heard (Rnr nr true) Answer) s q h =
    timed_rnr_nr nr (put (Report letter.A) (set_peer_busy true s)) q
timed_7 (Heard (Rnr nr false) Answer) s q h = timed_rnr_nr nr (set_peer_busy true s) q
timed_7 (Heard (Rej nr true) Command) s q h =
    timed_rej_nr nr (enquiry_response (set_peer_busy false s)) q refl
timed_7 (Heard (Rej nr false) Command) s q h = timed_rej_nr nr (set_peer_busy false s) q refl
timed_7 (Heard (Rej nr true) Answer) s q h =
    timed_rej_nr nr (put (Report letter.A) (set_peer_busy false s)) q refl
timed_7 (Heard (Rej nr false) Answer) s q h = timed_rej_nr nr (set_peer_busy false s) q refl
timed_7 (Heard (Dm true) Answer) s q h =
    in_state MultipleFrameEstablished (put (Report letter.B) s) q h
timed_7 (Expiry T200) s q h = timed_7_t200 s
timed_7 (Expiry T203) s q h = timed_7_t203 s
timed_7 input s q h = timed_both input s (rw q refl) (in_state MultipleFrameEstablished s q h)

timed_8_i : (nr : ℕ) (s : StepState) → s.end.state ≡ TimerRecovery
    → After (i_frame_nr_in_recovery Whole nr s)
unfolding i_frame_nr_in_recovery acknowledge with_va
timed_8_i nr s q =
    by_test After (is_valid_nr Whole nr s.end.window) _ _ (λ _. rw q tt) (λ _. wrong s)

timed_8_rr : (final : Bool) (nr : ℕ) (s : StepState) → s.end.state ≡ TimerRecovery
    → s.end.window.peer_busy ≡ false → After (rr_nr_in_recovery Whole final nr s)
unfolding rr_nr_in_recovery acknowledge invoke_retransmission with_va with_vs stop start state_to
timed_8_rr final nr s q free =
    by_test After (is_valid_nr Whole nr s.end.window) _ _
    (λ _. by_test After final _ _ (λ _ no. (refl, free)) (λ _. rw q tt)) (λ _. wrong s)

timed_8_rnr : (final : Bool) (nr : ℕ) (s : StepState) → s.end.state ≡ TimerRecovery
    → After (rnr_nr_in_recovery Whole final nr s)
unfolding rnr_nr_in_recovery acknowledge invoke_retransmission with_va with_vs start state_to
timed_8_rnr final nr s q =
    by_test After (is_valid_nr Whole nr s.end.window) _ _
    (λ _. by_test After final _ _ (λ _ no. cc) (λ _. rw q tt)) (λ _. wrong s)

timed_8_t200 : (s : StepState) → s.end.state ≡ TimerRecovery → After (timer_recovery_t200 s)
unfolding timer_recovery_t200 expired transmit_enquiry without_ack_pending increment_rc put
timed_8_t200 s q =
    by_test After (nat_lt s.end.rc s.end.parameters.n200) _ _ (λ _. rw q tt)
    (λ _. again (s ▷ expired T200 ▷ put (Report letter.I)))

timed_8 : (h : Input) (s : StepState) → s.end.state ≡ TimerRecovery
    → After (timer_recovery Whole h s)
unfolding timer_recovery poll put set_peer_busy with_peer_busy i_frame_ns after_i_frame
    enquiry_response without_ack_pending
timed_8 (Heard (I ns nr p) Command) s q = timed_8_i nr (i_frame_ns Whole ns p s) q
timed_8 (Heard (Rr nr true) Command) s q =
    timed_8_rr (is_final Command true) nr (enquiry_response (set_peer_busy false s)) q refl
timed_8 (Heard (Rr nr true) Answer) s q =
    timed_8_rr (is_final Answer true) nr (set_peer_busy false s) q refl
timed_8 (Heard (Rr nr false) Command) s q =
    timed_8_rr (is_final Command false) nr (set_peer_busy false s) q refl
timed_8 (Heard (Rr nr false) Answer) s q =
    timed_8_rr (is_final Answer false) nr (set_peer_busy false s) q refl
timed_8 (Heard (Rej nr true) Command) s q =
    timed_8_rr (is_final Command true) nr (enquiry_response (set_peer_busy false s)) q refl
timed_8 (Heard (Rej nr true) Answer) s q =
    timed_8_rr (is_final Answer true) nr (set_peer_busy false s) q refl
timed_8 (Heard (Rej nr false) Command) s q =
    timed_8_rr (is_final Command false) nr (set_peer_busy false s) q refl
timed_8 (Heard (Rej nr false) Answer) s q =
    timed_8_rr (is_final Answer false) nr (set_peer_busy false s) q refl
timed_8 (Heard (Rnr nr true) Command) s q =
    timed_8_rnr (is_final Command true) nr (enquiry_response (set_peer_busy true s)) q
timed_8 (Heard (Rnr nr true) Answer) s q =
    timed_8_rnr (is_final Answer true) nr (set_peer_busy true s) q
timed_8 (Heard (Rnr nr false) Command) s q =
    timed_8_rnr (is_final Command false) nr (set_peer_busy true s) q
timed_8 (Heard (Rnr nr false) Answer) s q =
    timed_8_rnr (is_final Answer false) nr (set_peer_busy true s) q
timed_8 (Heard (Dm true) Answer) s q = again (put (Report letter.B) s)
timed_8 (Expiry T200) s q = timed_8_t200 s q
timed_8 input s q = timed_both input s (rw q refl) (in_state TimerRecovery s q tt)

-- ---- All states.

timed_by_state : (state : State) (h : Input) (s : StepState) → s.end.state ≡ state
    → IsTimedIn state s.end.t200 s.end.window.vs s.end.window.va s.end.window.peer_busy
    → After (by_state Whole state h s)
unfolding by_state
timed_by_state TeiAssigned h s q t = timed_4 h s q
timed_by_state AwaitingEstablishment h s q t = timed_5 h s q t
timed_by_state AwaitingRelease h s q t = timed_6 h s q
timed_by_state MultipleFrameEstablished h s q t = timed_7 h s q t
timed_by_state TimerRecovery h s q t = timed_8 h s q

timed_fault : (state : State) (kind : FaultKind) (s : StepState) → s.end.state ≡ state
    → IsTimedIn state s.end.t200 s.end.window.vs s.end.window.va s.end.window.peer_busy
    → After (report_fault state kind s)
unfolding report_fault put
timed_fault TeiAssigned kind s q t = rw q t
timed_fault AwaitingEstablishment kind s q t = rw q t
timed_fault AwaitingRelease kind s q t = rw q t
timed_fault MultipleFrameEstablished kind s q t = again (put (Report (fault_letter kind)) s)
timed_fault TimerRecovery kind s q t = again (put (Report (fault_letter kind)) s)

timed_row : (state : State) (h : Input) (s : StepState) → s.end.state ≡ state
    → IsTimedIn state s.end.t200 s.end.window.vs s.end.window.va s.end.window.peer_busy
    → After (row Whole state h s)
unfolding row put
timed_row state (Heard control role) s q t =
    by_test After (is_unit_data control role) _ _ (λ _. in_state state s q t)
    (λ _. timed_by_state state (Heard control role) s q t)
timed_row state (Faulty kind) s q t = timed_fault state kind s q t
timed_row state (Expiry timer) s q t =
    by_test After (runs timer s.end) _ _ (λ _. timed_by_state state (Expiry timer) s q t)
    (λ _. in_state state s q t)
timed_row state Establish s q t = timed_by_state state Establish s q t
timed_row state Release s q t = timed_by_state state Release s q t
timed_row state BusyOn s q t = timed_by_state state BusyOn s q t
timed_row state BusyOff s q t = timed_by_state state BusyOff s q t
timed_row state (UnitData len) s q t = in_state state s q t
timed_row state (Give message) s q t = timed_by_state state (Give message) s q t

-- ---- The end of a step.

runs_then : (state : State) (vs va : ℕ) (busy : Bool) → is_established state ≡ true
    → IsTimedIn state true vs va busy
runs_then MultipleFrameEstablished vs va busy is = λ no. cc
runs_then state vs va busy is = cc

timed_send_all : (n : ℕ) (s : StepState) → After s → After (send_all Whole n s)
unfolding send_all transmit_i_frame ensure_t200
timed_send_all zero s t = t
timed_send_all (suc n) s t =
    by_test After (may_send_next Whole s) _ _ (λ go. timed_send_all n
    (send_next Whole s)
    (runs_then s.end.state _ _ _ (both_true (is_established s.end.state) _ go).0)) (λ _. t)

timed_close : (s : StepState) → After s → After (end_step Whole s)
unfolding end_step acknowledge_pending transmit_rr without_ack_pending
timed_close s t =
    let all = send_all Whole (unsent s.end) s in
    let done = timed_send_all (unsent s.end) s t in
    by_test After (is_7_or_8 all.end.state && all.end.window.ack_pending) _ _ (λ _. done)
    (λ _. done)

-- each step keeps it, for every input
pub timed_step : (input : Input) (e : End) (s : StepState) → IsTimed e → step Whole input e ≡ Ok s
    → IsTimed s.end
unfolding step begin
timed_step input e s t done =
    let F : StepState → Type 0 = λ d. After d in
    subst F (taken (refused input e) _ s done).1
    (timed_close (row Whole e.state input (begin e)) (timed_row e.state input (begin e) refl t))
