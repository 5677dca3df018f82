-- A step has the same effect on tags as on whole numbers, if these are near each other.
use Rattle.std.proofs.Common.{◌≡◌, ℕ, zero, suc, ◌≤◌, ◌&&◌, nat_lt, true, length, Option, Some, None, refl, ap, ◌∙◌}
use Rattle.lapd_frame.specs.declared.Role.{Role}
use Rattle.lapd_frame.specs.declared.Control.{Control}
use Rattle.lapd_frame.specs.declared.Control.TheVariants.{I, Rr, Rnr, Rej, Sabme, Dm, Ui, Disc, Ua, Frmr, Xid}
use Rattle.lapd_frame.specs.declared.fault_kind.FaultKind.{FaultKind}
use Rattle.lapd_mod128.specs.Counting.{Whole, Tagged}
use Rattle.lapd_supervision.specs.StateVariables.{may_send}
use Rattle.lapd_supervision.specs.Tags.{tag_variables, tag_control}
use Rattle.lapd_supervision.proofs.Tagging.{may_send_on_tags}
use Rattle.lapd_link_definition.specs.declared.event.LinkFault.{LinkFault}
use Rattle.lapd_link_definition.specs.declared.state.State.{State}
use Rattle.lapd_link_definition.specs.declared.state.State.TheVariants.{TeiAssigned, AwaitingEstablishment, AwaitingRelease, MultipleFrameEstablished, TimerRecovery}
use Rattle.lapd_link_definition.specs.EndOfStep.{is_established, is_7_or_8, may_send_next, send_next, send_all, acknowledge_pending, end_step}
use Rattle.lapd_link_definition.specs.End.{End, StepState, begin, runs, unsent}
use Rattle.lapd_link_definition.specs.Input.{Input, Heard, Faulty, Expiry, Establish, UnitData, Give}
use Rattle.lapd_link_definition.specs.Procedures.{transmit_i_frame, ensure_t200}
use Rattle.lapd_link_definition.specs.Refusal.{refused}
use Rattle.lapd_link_definition.specs.Sound.{IsSoundIn, IsSound}
use Rattle.lapd_link_definition.specs.Table.{by_state, report_fault, is_unit_data, row, unless, step}
use Rattle.lapd_link_definition.specs.Tagging.{tag_input, tag_end, tag_step_state, tag_result, IsReceivedNear, IsNear}
use Rattle.lapd_link_definition.proofs.ActionsOnTags.{actions, procedures, put_on_tags, runs_on_tags, transmit_rr_on_tags}
use Rattle.lapd_link_definition.proofs.OpenRowsOnTags.{multiple_frame_established_on_tags, timer_recovery_on_tags}
use Rattle.lapd_link_definition.proofs.PreservedByStep.{row_preserves_parameters}
use Rattle.lapd_link_definition.proofs.RowsOnTags.{by_test, window_of, tei_assigned_on_tags, awaiting_establishment_on_tags, awaiting_release_on_tags}
use Rattle.lapd_link_definition.proofs.Soundness.{sound_row, sound_send_next}

-- ---- All rows.

by_state_on_tags : (state : State) (input : Input) (s : StepState) → IsSoundIn Whole state s.end
    → (is_7_or_8 state ≡ true → IsReceivedNear input s.end.window)
    → tag_step_state (by_state Whole state input s)
    ≡ by_state Tagged state (tag_input input) (tag_step_state s)
unfolding by_state
by_state_on_tags TeiAssigned input s sound reception = tei_assigned_on_tags input s
by_state_on_tags AwaitingEstablishment input s sound reception =
    awaiting_establishment_on_tags input s sound
by_state_on_tags AwaitingRelease input s sound reception = awaiting_release_on_tags input s
by_state_on_tags MultipleFrameEstablished input s sound reception =
    multiple_frame_established_on_tags input s
    (window_of s.end.first s.end.next (length s.end.given) s.end.window.va s.end.window.vs
    sound) (reception refl)
by_state_on_tags TimerRecovery input s sound reception =
    timer_recovery_on_tags input s (window_of s.end.first s.end.next (length s.end.given)
    s.end.window.va s.end.window.vs sound) (reception refl)

report_fault_on_tags : (state : State) (kind : FaultKind) (s : StepState)
    → tag_step_state (report_fault state kind s) ≡ report_fault state kind (tag_step_state s)
unfolding report_fault
report_fault_on_tags TeiAssigned kind s = simp procedures
report_fault_on_tags AwaitingEstablishment kind s = simp procedures
report_fault_on_tags AwaitingRelease kind s = simp procedures
report_fault_on_tags MultipleFrameEstablished kind s = simp procedures
report_fault_on_tags TimerRecovery kind s = simp procedures

is_unit_data_on_tags : (control : Control) (role : Role)
    → is_unit_data (tag_control control) role ≡ is_unit_data control role
unfolding tag_control
is_unit_data_on_tags (I ns nr p) role = refl
is_unit_data_on_tags (Rr nr pf) role = refl
is_unit_data_on_tags (Rnr nr pf) role = refl
is_unit_data_on_tags (Rej nr pf) role = refl
is_unit_data_on_tags (Sabme p) role = refl
is_unit_data_on_tags (Dm f) role = refl
is_unit_data_on_tags (Ui p) role = refl
is_unit_data_on_tags (Disc p) role = refl
is_unit_data_on_tags (Ua f) role = refl
is_unit_data_on_tags (Frmr f) role = refl
is_unit_data_on_tags (Xid pf) role = refl

row_on_tags : (state : State) (input : Input) (s : StepState) → IsSoundIn Whole state s.end
    → (is_7_or_8 state ≡ true → IsReceivedNear input s.end.window)
    → tag_step_state (row Whole state input s)
    ≡ row Tagged state (tag_input input) (tag_step_state s)
unfolding row tag_step_state
row_on_tags state (Heard control role) s sound reception =
    by_test (is_unit_data control role) (is_unit_data (tag_control control) role) _ _ _ _
    (is_unit_data_on_tags control role) (λ _. put_on_tags _ s)
    (λ _. by_state_on_tags state (Heard control role) s sound reception)
row_on_tags state (UnitData len) s sound reception = put_on_tags _ s
row_on_tags state (Faulty kind) s sound reception = report_fault_on_tags state kind s
row_on_tags state (Expiry timer) s sound reception =
    by_test (runs timer s.end) (runs timer (tag_end s.end)) _ _ _ _ (runs_on_tags timer s.end)
    (λ _. by_state_on_tags state (Expiry timer) s sound reception) (λ _. refl)
row_on_tags state input s sound reception = by_state_on_tags state input s sound reception

-- ---- The end of a step.

allowed_on_tags : (state : State) (e : End) → IsSoundIn Whole state e
    → (is_established state
    && (may_send Tagged e.parameters.k (tag_variables e.window)
    && nat_lt e.next (length e.given)))
    ≡ (is_established state
    && (may_send Whole e.parameters.k e.window && nat_lt e.next (length e.given)))
allowed_on_tags MultipleFrameEstablished e sound =
    rw (may_send_on_tags e.parameters.k e.window
    (window_of e.first e.next (length e.given) e.window.va e.window.vs sound)) refl
allowed_on_tags state e sound = refl

may_send_next_on_tags : (s : StepState) → IsSound Whole s.end
    → may_send_next Tagged (tag_step_state s) ≡ may_send_next Whole s
unfolding tag_step_state
may_send_next_on_tags s sound = allowed_on_tags s.end.state s.end sound

send_next_on_tags : (s : StepState)
    → tag_step_state (send_next Whole s) ≡ send_next Tagged (tag_step_state s)
send_next_on_tags s = simp actions

send_all_on_tags : (n : ℕ) (s : StepState) → s.end.parameters.k ≤ 127 → IsSound Whole s.end
    → tag_step_state (send_all Whole n s) ≡ send_all Tagged n (tag_step_state s)
unfolding send_all transmit_i_frame ensure_t200
send_all_on_tags zero s small sound = refl
send_all_on_tags (suc n) s small sound =
    by_test (may_send_next Whole s) (may_send_next Tagged (tag_step_state s)) _ _ _ _
    (may_send_next_on_tags s sound)
    (λ go. send_all_on_tags n
    (send_next Whole s) small (sound_send_next Whole s small go sound)
    ∙ ap (λ t. send_all Tagged n t) (send_next_on_tags s)) (λ _. refl)

acknowledge_pending_on_tags : (s : StepState)
    → tag_step_state (acknowledge_pending s) ≡ acknowledge_pending (tag_step_state s)
unfolding acknowledge_pending tag_step_state tag_variables
acknowledge_pending_on_tags s =
    by_test (is_7_or_8 s.end.state && s.end.window.ack_pending)
    (is_7_or_8 s.end.state && s.end.window.ack_pending) _ _ _ _ refl
    (λ _. transmit_rr_on_tags s) (λ _. refl)

close_on_tags : (s : StepState) → s.end.parameters.k ≤ 127 → IsSound Whole s.end
    → tag_step_state (end_step Whole s) ≡ end_step Tagged (tag_step_state s)
unfolding end_step tag_step_state
close_on_tags s small sound =
    acknowledge_pending_on_tags (send_all Whole (unsent s.end) s)
    ∙ ap (λ t. acknowledge_pending t) (send_all_on_tags (unsent s.end) s small sound)

-- ---- A whole step.

refused_on_tags : (input : Input) (e : End)
    → refused (tag_input input) (tag_end e) ≡ refused input e
refused_on_tags (Give message) e = refl
refused_on_tags (UnitData len) e = refl
refused_on_tags Establish e = refl
refused_on_tags input e = refl

unless_on_tags : (refusal : Option LinkFault) (s : StepState)
    → unless refusal (tag_step_state s) ≡ tag_result (unless refusal s)
unless_on_tags None s = refl
unless_on_tags (Some fault) s = refl

begin_on_tags : (e : End) → tag_step_state (begin e) ≡ begin (tag_end e)
unfolding begin tag_step_state
begin_on_tags e = refl

done_on_tags : (input : Input) (e : End) → IsNear input e
    → tag_step_state (end_step Whole (row Whole e.state input (begin e)))
    ≡ end_step Tagged (row Tagged e.state (tag_input input) (begin (tag_end e)))
unfolding begin
done_on_tags input e near =
    let small : (row Whole e.state input (begin e)).end.parameters.k ≤ 127 =
    rw (row_preserves_parameters Whole input e) near.window in
    close_on_tags (row Whole e.state input (begin e)) small
    (sound_row Whole e.state input (begin e) refl near.sound)
    ∙ ap (λ t. end_step Tagged t) (row_on_tags e.state input (begin e) near.sound near.reception
    ∙ ap (λ t. row Tagged e.state (tag_input input) t) (begin_on_tags e))

pub step_on_tags : (input : Input) (e : End) → IsNear input e
    → step Tagged (tag_input input) (tag_end e) ≡ tag_result (step Whole input e)
unfolding step
step_on_tags input e near =
    rw (refused_on_tags input e, ← done_on_tags input e near)
    (unless_on_tags (refused input e) (end_step Whole (row Whole e.state input (begin e))))
