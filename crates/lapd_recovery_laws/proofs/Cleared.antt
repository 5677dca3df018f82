-- In state 5 the conditions that an establishment clears stay cleared: after each step, each move
-- and each run.
use Rattle.std.proofs.Common.{◌≡◌, ℕ, zero, suc, ◌==◌, ◌&&◌, nat_lt, Ok, Bool, true, false, List, subst, refl, ap}
use Rattle.lapd_timers.specs.declared.timer.Timer.TheVariants.{T200, T203}
use Rattle.lapd_frame.specs.declared.Role.{Role}
use Rattle.lapd_frame.specs.declared.Role.TheVariants.{Command, Answer}
use Rattle.lapd_frame.specs.declared.Control.TheVariants.{I, Rr, Rnr, Rej, Sabme, Dm, Disc, Ua, Frmr}
use Rattle.lapd_frame.specs.declared.fault_kind.FaultKind.{FaultKind}
use Rattle.lapd_mod128.specs.Counting.{Whole}
use Rattle.lapd_supervision.specs.StateVariables.{is_valid_nr, acknowledges_all, without_ack_pending}
use Rattle.lapd_link_definition.specs.declared.out.Letter.TheVariants as letter
use Rattle.lapd_link_definition.specs.declared.out.Out.TheVariants.{Report}
use Rattle.lapd_link_definition.specs.declared.state.State.{State}
use Rattle.lapd_link_definition.specs.declared.state.State.TheVariants.{TeiAssigned, AwaitingEstablishment, AwaitingRelease, MultipleFrameEstablished, TimerRecovery}
use Rattle.lapd_link_definition.specs.AwaitingEstablishment.{awaiting_establishment}
use Rattle.lapd_link_definition.specs.AwaitingRelease.{awaiting_release}
use Rattle.lapd_link_definition.specs.EndOfStep.{send_next, is_7_or_8, is_established, send_all, acknowledge_pending, end_step, may_send_next}
use Rattle.lapd_link_definition.specs.End.{End, StepState, unsent, runs, begin}
use Rattle.lapd_link_definition.specs.Established.{sends_last, established_t200, acknowledge_with_timers, i_frame_nr, poll_or_final, rr_nr, rej_nr, rnr_nr, in_7_and_8, multiple_frame_established}
use Rattle.lapd_link_definition.specs.Input.{Input, Heard, Faulty, Expiry, Establish, Release, BusyOn, BusyOff, UnitData, Give}
use Rattle.lapd_link_definition.specs.Parameters.{Parameters}
use Rattle.lapd_link_definition.specs.Procedures.{put, state_to, layer3_initiated_to, expired, set_peer_busy, set_own_busy, enquiry_response, queue_up, discard_i_queue, acknowledge, i_frame_ns, transmit_i_frame, ensure_t200, transmit_rr, establish_data_link, reestablish_data_link, nr_error_recovery}
use Rattle.lapd_link_definition.specs.Refusal.{refused}
use Rattle.lapd_link_definition.specs.Table.{by_state, report_fault, row, step, is_unit_data}
use Rattle.lapd_link_definition.specs.TeiAssigned.{tei_assigned}
use Rattle.lapd_link_definition.specs.TimerRecovery.{i_frame_nr_in_recovery, poll, rr_nr_in_recovery, rnr_nr_in_recovery, timer_recovery_t200, timer_recovery, is_final}
use Rattle.lapd_link_definition.proofs.PreservedByStep.{taken}
use Rattle.lapd_link_definition.proofs.Sending.{both_true}
use Rattle.lapd_link_definition.proofs.Soundness.{established_is}
use Rattle.lapd_pair_laws.specs.Move.{Move, restarted}
use Rattle.lapd_pair_laws.specs.World.{World, world_after, happens, run, new_world}
use Rattle.lapd_pair_laws.proofs.EachMove.{AreBoth, kept_by_move, kept_by_run}
use Rattle.lapd_pair_laws.proofs.Lists.{by_test}
use Rattle.lapd_link_definition.proofs.ComputedStep.{each_action, each_change, each_row}

-- neither own receiver busy nor an acknowledgement pending
pub record AreClear (e : End) : Type 0 where
  pub idle : e.window.own_busy ≡ false
  pub none_pending : e.window.ack_pending ≡ false

abbrev pub IsClearIn5 : End → Type 0
IsClearIn5 e = e.state ≡ AwaitingEstablishment → AreClear e

abbrev After : StepState → Type 0
After s = IsClearIn5 s.end

-- ---- Rows.

-- an establishment begins
begins : (s : StepState) → After (establish_data_link s)
unfolding each_change establish_data_link
begins s is = record { idle = refl; none_pending = refl }

again : (s : StepState) → After (reestablish_data_link s)
unfolding reestablish_data_link
again s = begins (layer3_initiated_to false s)

wrong : (s : StepState) → After (nr_error_recovery s)
unfolding nr_error_recovery
wrong s = again (put (Report letter.J) s)

clear_4 : (h : Input) (s : StepState) → s.end.state ≡ TeiAssigned → After (tei_assigned h s)
unfolding each_action tei_assigned
clear_4 Establish s q = begins (layer3_initiated_to true (discard_i_queue s))
clear_4 (Heard (Sabme p) Command) s q = λ is. cc
clear_4 (Heard (Disc p) Command) s q = λ is. cc
clear_4 (Heard (Ua f) Answer) s q = λ is. cc
clear_4 Release s q = λ is. cc
clear_4 h s q = λ is. cc

clear_6 : (h : Input) (s : StepState) → s.end.state ≡ AwaitingRelease → After (awaiting_release h s)
unfolding each_action each_row
clear_6 (Heard (Sabme p) Command) s q = λ is. cc
clear_6 (Heard (Disc p) Command) s q = λ is. cc
clear_6 (Heard (Ua true) Answer) s q = λ is. cc
clear_6 (Heard (Dm true) Answer) s q = λ is. cc
clear_6 (Heard (Ua false) Answer) s q = λ is. cc
clear_6 (Expiry T200) s q =
    by_test After (nat_lt s.end.rc s.end.parameters.n200) _ _ (λ _ is. cc) (λ _ is. cc)
clear_6 h s q = λ is. cc

clear_5 : (h : Input) (s : StepState) → s.end.state ≡ AwaitingEstablishment → AreClear s.end
    → After (awaiting_establishment h s)
unfolding each_action each_row
clear_5 Establish s q c = λ is. record { idle = c.idle; none_pending = c.none_pending }
clear_5 Release s q c = λ is. record { idle = c.idle; none_pending = c.none_pending }
clear_5 (Give message) s q c = λ is. record { idle = c.idle; none_pending = c.none_pending }
clear_5 (Heard (Sabme p) Command) s q c =
    λ is. record { idle = c.idle; none_pending = c.none_pending }
clear_5 (Heard (Disc p) Command) s q c =
    λ is. record { idle = c.idle; none_pending = c.none_pending }
clear_5 (Heard (Ua true) Answer) s q c =
    by_test After s.end.release_pending _ _ (λ _ is. cc) (λ _ is. cc)
clear_5 (Heard (Ua false) Answer) s q c =
    λ is. record { idle = c.idle; none_pending = c.none_pending }
clear_5 (Heard (Dm true) Answer) s q c = λ is. cc
clear_5 (Expiry T200) s q c =
    by_test After (nat_lt s.end.rc s.end.parameters.n200) _ _
    (λ _ is. record { idle = c.idle; none_pending = c.none_pending }) (λ _ is. cc)
clear_5 h s q c = λ is. c

-- ---- States 7 and 8.

abbrev IsOpenState : StepState → Type 0
IsOpenState s = is_7_or_8 s.end.state ≡ true

never_5 : (s : StepState) → IsOpenState s → s.end.state ≡ AwaitingEstablishment → ⊥
never_5 s opened is = let impossible : is_7_or_8 s.end.state ≡ false = ap is_7_or_8 is in cc

stays_open : (s : StepState) → IsOpenState s → After s
stays_open s opened = λ is. let impossible : is_7_or_8 s.end.state ≡ false = ap is_7_or_8 is in cc

clear_both : (h : Input) (s : StepState) → IsOpenState s → After (in_7_and_8 h s)
unfolding each_action each_row
clear_both Establish s o = begins (layer3_initiated_to true (discard_i_queue s))
clear_both Release s o = λ is. cc
clear_both (Give message) s o = stays_open (queue_up message s) o
clear_both BusyOn s o =
    by_test After s.end.window.own_busy _ _ (λ _. stays_open s o)
    (λ _. stays_open (set_own_busy true s) o)
clear_both BusyOff s o =
    by_test After s.end.window.own_busy _ _ (λ _. stays_open (set_own_busy false s) o)
    (λ _. stays_open s o)
clear_both (Heard (Sabme p) Command) s o = λ is. cc
clear_both (Heard (Disc p) Command) s o = λ is. cc
clear_both (Heard (Ua f) Answer) s o = λ is. absurd (never_5 s o is)
clear_both (Heard (Dm false) Answer) s o = again (put (Report letter.E) s)
clear_both (Heard (Frmr f) Answer) s o = again (put (Report letter.K) s)
clear_both h s o = stays_open s o

clear_timers : (nr : ℕ) (s : StepState) → IsOpenState s → After (acknowledge_with_timers Whole nr s)
unfolding each_action acknowledge_with_timers
clear_timers nr s o =
    by_test After (acknowledges_all nr s.end.window) _ _ (λ _ is. absurd (never_5 s o is))
    (λ _. by_test After (nr == s.end.window.va) _ _ (λ _. stays_open s o)
    (λ _ is. absurd (never_5 s o is)))

clear_i_nr : (nr : ℕ) (s : StepState) → IsOpenState s → After (i_frame_nr Whole nr s)
unfolding i_frame_nr acknowledge
clear_i_nr nr s o =
    by_test After (is_valid_nr Whole nr s.end.window) _ _
    (λ _. by_test After s.end.window.peer_busy _ _ (λ _ is. absurd (never_5 s o is))
    (λ _. clear_timers nr s o)) (λ _. wrong s)

clear_rr_nr : (nr : ℕ) (s : StepState) → IsOpenState s → After (rr_nr Whole nr s)
unfolding rr_nr
clear_rr_nr nr s o =
    by_test After (is_valid_nr Whole nr s.end.window) _ _ (λ _. clear_timers nr s o) (λ _. wrong s)

clear_rej_nr : (nr : ℕ) (s : StepState) → IsOpenState s → After (rej_nr Whole nr s)
unfolding each_action rej_nr
clear_rej_nr nr s o =
    by_test After (is_valid_nr Whole nr s.end.window) _ _ (λ _ is. absurd (never_5 s o is))
    (λ _. wrong s)

clear_rnr_nr : (nr : ℕ) (s : StepState) → IsOpenState s → After (rnr_nr Whole nr s)
unfolding each_action rnr_nr
clear_rnr_nr nr s o =
    by_test After (is_valid_nr Whole nr s.end.window) _ _ (λ _ is. absurd (never_5 s o is))
    (λ _. wrong s)

polled : (role : Role) (pf : Bool) (s : StepState) → IsOpenState s
    → IsOpenState (poll_or_final role pf s)
unfolding poll_or_final enquiry_response put
polled Command true s o = o
polled Answer true s o = o
polled Command false s o = o
polled Answer false s o = o

clear_7_t200 : (s : StepState) → After (established_t200 Whole s)
unfolding established_t200 state_to
clear_7_t200 s =
    by_test After (sends_last s.end.parameters.recovery s.end.window) _ _ (λ _ is. cc) (λ _ is. cc)

clear_7 : (h : Input) (s : StepState) → IsOpenState s → After (multiple_frame_established Whole h s)
unfolding each_action multiple_frame_established
clear_7 (Heard (I ns nr p) Command) s o = clear_i_nr nr (i_frame_ns Whole ns p s) o
clear_7 (Heard (Rr nr pf) role) s o =
    clear_rr_nr nr (poll_or_final role pf (set_peer_busy false s))
    (polled role pf (set_peer_busy false s) o)
clear_7 (Heard (Rej nr pf) role) s o =
    clear_rej_nr nr (poll_or_final role pf (set_peer_busy false s))
    (polled role pf (set_peer_busy false s) o)
clear_7 (Heard (Rnr nr pf) role) s o =
    clear_rnr_nr nr (poll_or_final role pf (set_peer_busy true s))
    (polled role pf (set_peer_busy true s) o)
clear_7 (Heard (Dm true) Answer) s o = λ is. absurd (never_5 s o is)
clear_7 (Expiry T203) s o = λ is. cc
clear_7 (Expiry T200) s o = clear_7_t200 s
clear_7 (Heard (Sabme p) Command) s o = clear_both (Heard (Sabme p) Command) s o
clear_7 (Heard (Disc p) Command) s o = clear_both (Heard (Disc p) Command) s o
clear_7 (Heard (Ua f) Answer) s o = clear_both (Heard (Ua f) Answer) s o
clear_7 (Heard (Dm false) Answer) s o = clear_both (Heard (Dm false) Answer) s o
clear_7 (Heard (Frmr f) Answer) s o = clear_both (Heard (Frmr f) Answer) s o
clear_7 h s o = clear_both h s o

polled_8 : (role : Role) (pf : Bool) (s : StepState) → IsOpenState s → IsOpenState (poll role pf s)
unfolding poll enquiry_response
polled_8 Command true s o = o
polled_8 Answer true s o = o
polled_8 Command false s o = o
polled_8 Answer false s o = o

clear_8_i : (nr : ℕ) (s : StepState) → IsOpenState s → After (i_frame_nr_in_recovery Whole nr s)
unfolding i_frame_nr_in_recovery acknowledge
clear_8_i nr s o =
    by_test After (is_valid_nr Whole nr s.end.window) _ _ (λ _ is. absurd (never_5 s o is))
    (λ _. wrong s)

clear_8_rr : (final : Bool) (nr : ℕ) (s : StepState) → IsOpenState s
    → After (rr_nr_in_recovery Whole final nr s)
unfolding each_action rr_nr_in_recovery
clear_8_rr final nr s o =
    by_test After (is_valid_nr Whole nr s.end.window) _ _
    (λ _. by_test After final _ _ (λ _ is. cc) (λ _ is. absurd (never_5 s o is))) (λ _. wrong s)

clear_8_rnr : (final : Bool) (nr : ℕ) (s : StepState) → IsOpenState s
    → After (rnr_nr_in_recovery Whole final nr s)
unfolding each_action rnr_nr_in_recovery
clear_8_rnr final nr s o =
    by_test After (is_valid_nr Whole nr s.end.window) _ _
    (λ _. by_test After final _ _ (λ _ is. cc) (λ _ is. absurd (never_5 s o is))) (λ _. wrong s)

clear_8_t200 : (s : StepState) → IsOpenState s → After (timer_recovery_t200 s)
unfolding each_action timer_recovery_t200
clear_8_t200 s o =
    by_test After (nat_lt s.end.rc s.end.parameters.n200) _ _ (λ _ is. absurd (never_5 s o is))
    (λ _. again (put (Report letter.I) (expired T200 s)))

clear_8 : (h : Input) (s : StepState) → IsOpenState s → After (timer_recovery Whole h s)
unfolding each_action timer_recovery
clear_8 (Heard (I ns nr p) Command) s o = clear_8_i nr (i_frame_ns Whole ns p s) o
clear_8 (Heard (Dm true) Answer) s o = again (put (Report letter.B) s)
clear_8 (Heard (Rr nr pf) role) s o =
    clear_8_rr (is_final role pf) nr (poll role pf (set_peer_busy false s))
    (polled_8 role pf (set_peer_busy false s) o)
clear_8 (Heard (Rej nr pf) role) s o =
    clear_8_rr (is_final role pf) nr (poll role pf (set_peer_busy false s))
    (polled_8 role pf (set_peer_busy false s) o)
clear_8 (Heard (Rnr nr pf) role) s o =
    clear_8_rnr (is_final role pf) nr (poll role pf (set_peer_busy true s))
    (polled_8 role pf (set_peer_busy true s) o)
clear_8 (Expiry T200) s o = clear_8_t200 s o
clear_8 (Heard (Sabme p) Command) s o = clear_both (Heard (Sabme p) Command) s o
clear_8 (Heard (Disc p) Command) s o = clear_both (Heard (Disc p) Command) s o
clear_8 (Heard (Ua f) Answer) s o = clear_both (Heard (Ua f) Answer) s o
clear_8 (Heard (Dm false) Answer) s o = clear_both (Heard (Dm false) Answer) s o
clear_8 (Heard (Frmr f) Answer) s o = clear_both (Heard (Frmr f) Answer) s o
clear_8 h s o = clear_both h s o

-- ---- The step.

clear_by_state : (state : State) (h : Input) (s : StepState) → s.end.state ≡ state → After s
    → After (by_state Whole state h s)
unfolding by_state
clear_by_state TeiAssigned h s q c = clear_4 h s q
clear_by_state AwaitingEstablishment h s q c = clear_5 h s q (c q)
clear_by_state AwaitingRelease h s q c = clear_6 h s q
clear_by_state MultipleFrameEstablished h s q c = clear_7 h s (ap is_7_or_8 q)
clear_by_state TimerRecovery h s q c = clear_8 h s (ap is_7_or_8 q)

clear_fault : (state : State) (kind : FaultKind) (s : StepState) → After s
    → After (report_fault state kind s)
unfolding report_fault put
clear_fault MultipleFrameEstablished kind s c = again _
clear_fault TimerRecovery kind s c = again _
clear_fault TeiAssigned kind s c = λ is. c is
clear_fault AwaitingEstablishment kind s c = λ is. c is
clear_fault AwaitingRelease kind s c = λ is. c is

clear_row : (state : State) (h : Input) (s : StepState) → s.end.state ≡ state → After s
    → After (row Whole state h s)
unfolding row put
clear_row state (Heard control role) s q c =
    by_test After (is_unit_data control role) _ _ (λ _ is. c is)
    (λ _. clear_by_state state (Heard control role) s q c)
clear_row state (UnitData len) s q c = λ is. c is
clear_row state (Faulty kind) s q c = clear_fault state kind s c
clear_row state (Expiry timer) s q c =
    by_test After (runs timer s.end) _ _ (λ _. clear_by_state state (Expiry timer) s q c) (λ _. c)
clear_row state Establish s q c = clear_by_state state Establish s q c
clear_row state Release s q c = clear_by_state state Release s q c
clear_row state BusyOn s q c = clear_by_state state BusyOn s q c
clear_row state BusyOff s q c = clear_by_state state BusyOff s q c
clear_row state (Give message) s q c = clear_by_state state (Give message) s q c

clear_send_all : (n : ℕ) (s : StepState) → After s → After (send_all Whole n s)
unfolding send_all transmit_i_frame ensure_t200
clear_send_all zero s c = c
clear_send_all (suc n) s c =
    by_test After (may_send_next Whole s) _ _ (λ go. clear_send_all n
    (send_next Whole s) (λ is. let in_7 =
    established_is s.end.state (both_true (is_established s.end.state) _ go).0 in cc))
    (λ _. c)

clear_close : (s : StepState) → After s → After (end_step Whole s)
unfolding end_step acknowledge_pending transmit_rr without_ack_pending
clear_close s c =
    let all = send_all Whole (unsent s.end) s in
    let done = clear_send_all (unsent s.end) s c in
    by_test After (is_7_or_8 all.end.state && all.end.window.ack_pending) _ _
    (λ _ is. record { idle = (done is).idle; none_pending = refl }) (λ _. done)

clear_step : (what : Input) (e : End) (s : StepState) → IsClearIn5 e → step Whole what e ≡ Ok s
    → IsClearIn5 s.end
unfolding step begin
clear_step what e s c done =
    let F : StepState → Type 0 = λ d. After d in
    subst F (taken (refused what e) _ s done).1
    (clear_close (row Whole e.state what (begin e)) (clear_row e.state what (begin e) refl c))

-- ---- Moves and runs.

abbrev pub AreClearIn5 : World → Type 0
AreClearIn5 w = AreBoth IsClearIn5 w

clear_again : (e : End) → IsClearIn5 e → IsClearIn5 (restarted e)
clear_again e clear = λ is. cc

pub clear_after_move : (move : Move) (w : World) → AreClearIn5 w
    → AreClearIn5 (world_after w (happens Whole move w))
clear_after_move = kept_by_move IsClearIn5 clear_step clear_again

pub clear_after_run : (moves : List Move) (w : World) → AreClearIn5 w
    → AreClearIn5 (run Whole moves w)
clear_after_run = kept_by_run IsClearIn5 clear_step clear_again

pub new_is_clear : (user network : Parameters) → AreClearIn5 (new_world user network)
new_is_clear user network = record { user = λ is. cc; network = λ is. cc }
