-- Each row of states 7 and 8 has the same effect on tags as on whole numbers, if these are near
-- each other.
use Rattle.std.proofs.Common.{◌≡◌, ℕ, ◌<◌, ◌≤◌, ◌==◌, ◌&&◌, not, nat_lt, Bool, true, false, if◌then◌else◌, refl, arith}
use Rattle.std.proofs.lemmas.Bool.Decides.{nat_tests}
use Rattle.lapd_timers.specs.declared.timer.Timer.TheVariants.{T200, T203}
use Rattle.lapd_frame.specs.declared.Role.{Role}
use Rattle.lapd_frame.specs.declared.Role.TheVariants.{Command, Answer}
use Rattle.lapd_frame.specs.declared.Control.TheVariants.{I, Rr, Rnr, Rej, Sabme, Dm, Disc, Ua, Frmr}
use Rattle.lapd_mod128.specs.Counting.{Whole, Tagged, tag, AreNear}
use Rattle.lapd_mod128.proofs.Steps.{whole_within_implies}
use Rattle.lapd_mod128.proofs.Tags.{equality_on_tags}
use Rattle.lapd_supervision.specs.StateVariables.{StateVariables, is_valid_nr, acknowledges_all, after_i_frame, without_ack_pending, with_peer_busy, without_exceptions}
use Rattle.lapd_supervision.specs.Tags.{tag_variables, tag_control, IsWindow, IsNearWindow}
use Rattle.lapd_supervision.proofs.Tagging.{is_valid_nr_on_tags, acknowledges_all_on_tags}
use Rattle.lapd_link_definition.specs.declared.recovery.Recovery.{Recovery}
use Rattle.lapd_link_definition.specs.declared.recovery.Recovery.TheVariants.{Enquiry, LastMessage}
use Rattle.lapd_link_definition.specs.declared.state.State.TheVariants.{TimerRecovery}
use Rattle.lapd_link_definition.specs.declared.out.Letter.TheVariants as letter
use Rattle.lapd_link_definition.specs.declared.out.Out.TheVariants.{Send, Report}
use Rattle.lapd_link_definition.specs.End.{StepState, ◌▷◌}
use Rattle.lapd_link_definition.specs.Established.{busy_on, busy_off, in_7_and_8, sends_last, established_t200, poll_or_final, acknowledge_with_timers, i_frame_nr, rr_nr, rej_nr, rnr_nr, multiple_frame_established}
use Rattle.lapd_link_definition.specs.Input.{Input, Heard, Expiry, Establish, Release, BusyOn, BusyOff, Give}
use Rattle.lapd_link_definition.specs.Procedures.{put, expired, rc_to, state_to, transmit_enquiry, retransmit_last_i_frame, clear_exception_conditions, set_peer_busy, enquiry_response, acknowledge, discard_unacknowledged, i_frame_ns, nr_error_recovery}
use Rattle.lapd_link_definition.specs.Tagging.{tag_input, tag_step_state, IsReceivedNear}
use Rattle.lapd_link_definition.specs.TimerRecovery.{poll, is_final, i_frame_nr_in_recovery, rr_nr_in_recovery, rnr_nr_in_recovery, timer_recovery_t200, timer_recovery}
use Rattle.lapd_link_definition.proofs.ActionsOnTags.{actions, retransmit_last_i_frame_on_tags, procedures, set_peer_busy_on_tags, set_own_busy_on_tags, enquiry_response_on_tags, put_on_tags, acknowledge_on_tags, discard_unacknowledged_on_tags, i_frame_ns_on_tags, nr_error_recovery_on_tags}
use Rattle.lapd_link_definition.proofs.RowsOnTags.{by_test, window_is_near}

-- ---- The rows that states 7 and 8 have in common.

busy_on_on_tags : (s : StepState) → tag_step_state (busy_on s) ≡ busy_on (tag_step_state s)
unfolding busy_on tag_step_state tag_variables
busy_on_on_tags s =
    by_test s.end.window.own_busy s.end.window.own_busy _ _ _ _ refl (λ _. refl)
    (λ _. set_own_busy_on_tags true s)

busy_off_on_tags : (s : StepState) → tag_step_state (busy_off s) ≡ busy_off (tag_step_state s)
unfolding busy_off tag_step_state tag_variables
busy_off_on_tags s =
    by_test s.end.window.own_busy s.end.window.own_busy _ _ _ _ refl
    (λ _. set_own_busy_on_tags false s) (λ _. refl)

-- a SABME when messages may be outstanding
lost_on_tags : (p : Bool) (s : StepState) → AreNear s.end.window.vs s.end.window.va
    → tag_step_state (s ▷ put (Send Answer (Ua p)) ▷ clear_exception_conditions ▷ put
    (Report letter.F) ▷ discard_unacknowledged)
    ≡ discard_unacknowledged (tag_step_state
    (s ▷ put (Send Answer (Ua p)) ▷ clear_exception_conditions ▷ put (Report letter.F)))
unfolding put clear_exception_conditions without_exceptions
lost_on_tags p s near =
    discard_unacknowledged_on_tags
    (s ▷ put (Send Answer (Ua p)) ▷ clear_exception_conditions ▷ put (Report letter.F)) near

in_7_and_8_on_tags : (input : Input) (s : StepState) → IsWindow s.end.window.va s.end.window.vs
    → tag_step_state (in_7_and_8 input s) ≡ in_7_and_8 (tag_input input) (tag_step_state s)
unfolding in_7_and_8 tag_control
in_7_and_8_on_tags Establish s w = simp procedures
in_7_and_8_on_tags Release s w = simp actions
in_7_and_8_on_tags (Give message) s w = simp actions
in_7_and_8_on_tags BusyOn s w = busy_on_on_tags s
in_7_and_8_on_tags BusyOff s w = busy_off_on_tags s
in_7_and_8_on_tags (Heard (Sabme p) Command) s w =
    simp (actions, lost_on_tags p s (window_is_near s.end.window.va s.end.window.vs w))
in_7_and_8_on_tags (Heard (Disc p) Command) s w = simp actions
in_7_and_8_on_tags (Heard (Ua f) Answer) s w = simp actions
in_7_and_8_on_tags (Heard (Dm false) Answer) s w = simp procedures
in_7_and_8_on_tags (Heard (Frmr f) Answer) s w = simp procedures
in_7_and_8_on_tags input s w = refl

-- ---- Receiving an N(R).

-- the window, and an N(R) near it
abbrev IsNumbered : ℕ → StepState → Type 0
IsNumbered nr s =
    IsWindow s.end.window.va s.end.window.vs × IsNearWindow nr s.end.window.va s.end.window.vs

by_valid : (nr : ℕ) (s x v : StepState) → IsNumbered nr s
    → (is_valid_nr Whole nr s.end.window ≡ true → tag_step_state x ≡ v)
    → tag_step_state (if is_valid_nr Whole nr s.end.window then x else nr_error_recovery s)
    ≡ (if is_valid_nr Tagged (tag nr) (tag_variables s.end.window) then v
    else nr_error_recovery (tag_step_state s))
by_valid nr s x v n one =
    by_test (is_valid_nr Whole nr s.end.window)
    (is_valid_nr Tagged (tag nr) (tag_variables s.end.window)) _ _ _ _
    (is_valid_nr_on_tags nr s.end.window n.0 n.1) one (λ _. nr_error_recovery_on_tags s)

acked : (nr : ℕ) (s : StepState) → IsNumbered nr s → is_valid_nr Whole nr s.end.window ≡ true
    → tag_step_state (acknowledge Whole nr s) ≡ acknowledge Tagged (tag nr) (tag_step_state s)
unfolding is_valid_nr
acked nr s n valid =
    let between = whole_within_implies s.end.window.va nr s.end.window.vs valid in
    acknowledge_on_tags nr s between.0 (omega (arith, between.1, n.0.at_most))

acknowledge_with_timers_on_tags : (nr : ℕ) (s : StepState) → IsNumbered nr s
    → is_valid_nr Whole nr s.end.window ≡ true
    → tag_step_state (acknowledge_with_timers Whole nr s)
    ≡ acknowledge_with_timers Tagged (tag nr) (tag_step_state s)
unfolding acknowledge_with_timers tag_step_state tag_variables
acknowledge_with_timers_on_tags nr s n valid =
    by_test (acknowledges_all nr s.end.window) _ _ _ _ _
    (acknowledges_all_on_tags nr s.end.window n.1.near_vs)
    (λ _. simp (actions, acked nr s n valid))
    (λ _. by_test (nr == s.end.window.va) (tag nr == tag s.end.window.va) _ _ _ _
    (equality_on_tags nr s.end.window.va
    (record { above = n.1.near_va.below; below = n.1.near_va.above })) (λ _. refl)
    (λ _. simp (actions, acked nr s n valid)))

i_frame_nr_on_tags : (nr : ℕ) (s : StepState) → IsNumbered nr s
    → tag_step_state (i_frame_nr Whole nr s) ≡ i_frame_nr Tagged (tag nr) (tag_step_state s)
unfolding i_frame_nr tag_step_state tag_variables
i_frame_nr_on_tags nr s n =
    by_valid nr s _ _ n (λ valid. by_test s.end.window.peer_busy s.end.window.peer_busy _ _ _ _ refl
    (λ _. acked nr s n valid) (λ _. acknowledge_with_timers_on_tags nr s n valid))

rr_nr_on_tags : (nr : ℕ) (s : StepState) → IsNumbered nr s
    → tag_step_state (rr_nr Whole nr s) ≡ rr_nr Tagged (tag nr) (tag_step_state s)
unfolding rr_nr tag_step_state
rr_nr_on_tags nr s n = by_valid nr s _ _ n (λ valid. acknowledge_with_timers_on_tags nr s n valid)

rej_nr_on_tags : (nr : ℕ) (s : StepState) → IsNumbered nr s
    → tag_step_state (rej_nr Whole nr s) ≡ rej_nr Tagged (tag nr) (tag_step_state s)
unfolding rej_nr tag_step_state
rej_nr_on_tags nr s n = by_valid nr s _ _ n (λ valid. simp (actions, acked nr s n valid))

rnr_nr_on_tags : (nr : ℕ) (s : StepState) → IsNumbered nr s
    → tag_step_state (rnr_nr Whole nr s) ≡ rnr_nr Tagged (tag nr) (tag_step_state s)
unfolding rnr_nr tag_step_state
rnr_nr_on_tags nr s n = by_valid nr s _ _ n (λ valid. simp (actions, acked nr s n valid))

i_frame_nr_in_recovery_on_tags : (nr : ℕ) (s : StepState) → IsNumbered nr s
    → tag_step_state (i_frame_nr_in_recovery Whole nr s)
    ≡ i_frame_nr_in_recovery Tagged (tag nr) (tag_step_state s)
unfolding i_frame_nr_in_recovery tag_step_state
i_frame_nr_in_recovery_on_tags nr s n = by_valid nr s _ _ n (λ valid. acked nr s n valid)

rr_nr_in_recovery_on_tags : (final : Bool) (nr : ℕ) (s : StepState) → IsNumbered nr s
    → tag_step_state (rr_nr_in_recovery Whole final nr s)
    ≡ rr_nr_in_recovery Tagged final (tag nr) (tag_step_state s)
unfolding rr_nr_in_recovery tag_step_state
rr_nr_in_recovery_on_tags final nr s n =
    by_valid nr s _ _ n (λ valid. by_test final final _ _ _ _ refl
    (λ _. simp (actions, acked nr s n valid)) (λ _. acked nr s n valid))

rnr_nr_in_recovery_on_tags : (final : Bool) (nr : ℕ) (s : StepState) → IsNumbered nr s
    → tag_step_state (rnr_nr_in_recovery Whole final nr s)
    ≡ rnr_nr_in_recovery Tagged final (tag nr) (tag_step_state s)
unfolding rnr_nr_in_recovery tag_step_state
rnr_nr_in_recovery_on_tags final nr s n =
    by_valid nr s _ _ n (λ valid. by_test final final _ _ _ _ refl
    (λ _. simp (actions, acked nr s n valid)) (λ _. acked nr s n valid))

-- ---- State 7.

poll_or_final_on_tags : (role : Role) (pf : Bool) (s : StepState)
    → tag_step_state (poll_or_final role pf s) ≡ poll_or_final role pf (tag_step_state s)
unfolding poll_or_final
poll_or_final_on_tags Command true s = enquiry_response_on_tags s
poll_or_final_on_tags Answer true s = put_on_tags (Report letter.A) s
poll_or_final_on_tags Command false s = refl
poll_or_final_on_tags Answer false s = refl

polled_numbered : (nr : ℕ) (on : Bool) (role : Role) (pf : Bool) (s : StepState) → IsNumbered nr s
    → IsNumbered nr (s ▷ set_peer_busy on ▷ poll_or_final role pf)
unfolding poll_or_final enquiry_response without_ack_pending put set_peer_busy with_peer_busy
polled_numbered nr on Command true s n = n
polled_numbered nr on Answer true s n = n
polled_numbered nr on Command false s n = n
polled_numbered nr on Answer false s n = n

message_numbered : (nr ns : ℕ) (p : Bool) (s : StepState) → IsNumbered nr s
    → IsNumbered nr (s ▷ i_frame_ns Whole ns p)
unfolding i_frame_ns after_i_frame
message_numbered nr ns p s n = n

-- T200 expires: tags and whole numbers decide alike whether the last message is retransmitted
sends_last_on_tags : (recovery : Recovery) (v : StateVariables) → IsWindow v.va v.vs
    → sends_last recovery (tag_variables v) ≡ sends_last recovery v
unfolding tag_variables
sends_last_on_tags Enquiry v w = refl
sends_last_on_tags LastMessage v w =
    rw (equality_on_tags v.vs v.va (window_is_near v.va v.vs w)) refl

differs : (busy : Bool) (vs va : ℕ) → (not busy && not (vs == va)) ≡ true → va ≤ vs → 0 < vs
differs true vs va h low = cc
differs false vs va h low = grind (arith, nat_tests, h, low)

some_sent : (recovery : Recovery) (v : StateVariables) → IsWindow v.va v.vs
    → sends_last recovery v ≡ true → 0 < v.vs
some_sent Enquiry v w h = cc
some_sent LastMessage v w h = differs v.peer_busy v.vs v.va h w.in_order

expired_preserves : (s : StepState) → 0 < s.end.window.vs → 0 < (expired T200 s).end.window.vs
unfolding expired
expired_preserves s h = h

last_on_tags : (s : StepState) → 0 < s.end.window.vs
    → tag_step_state
    (s ▷ expired T200 ▷ retransmit_last_i_frame Whole ▷ rc_to 1 ▷ state_to TimerRecovery)
    ≡ (tag_step_state s ▷ expired T200 ▷ retransmit_last_i_frame Tagged ▷ rc_to 1 ▷ state_to
    TimerRecovery)
last_on_tags s h =
    simp (actions, retransmit_last_i_frame_on_tags (expired T200 s) (expired_preserves s h))

enquiry_on_tags : (s : StepState)
    → tag_step_state (s ▷ expired T200 ▷ transmit_enquiry ▷ rc_to 1 ▷ state_to TimerRecovery)
    ≡ (tag_step_state s ▷ expired T200 ▷ transmit_enquiry ▷ rc_to 1 ▷ state_to TimerRecovery)
enquiry_on_tags s = simp actions

shown_on_tags : (s : StepState) → IsWindow s.end.window.va s.end.window.vs
    → sends_last (tag_step_state s).end.parameters.recovery (tag_step_state s).end.window
    ≡ sends_last s.end.parameters.recovery s.end.window
unfolding tag_step_state
shown_on_tags s w = sends_last_on_tags s.end.parameters.recovery s.end.window w

established_t200_on_tags : (s : StepState) → IsWindow s.end.window.va s.end.window.vs
    → tag_step_state (established_t200 Whole s) ≡ established_t200 Tagged (tag_step_state s)
unfolding established_t200
established_t200_on_tags s w =
    by_test (sends_last s.end.parameters.recovery s.end.window)
    (sends_last (tag_step_state s).end.parameters.recovery (tag_step_state s).end.window) _ _ _
    _ (shown_on_tags s w)
    (λ last. last_on_tags s (some_sent s.end.parameters.recovery s.end.window w last))
    (λ _. enquiry_on_tags s)

pub multiple_frame_established_on_tags : (input : Input) (s : StepState)
    → IsWindow s.end.window.va s.end.window.vs → IsReceivedNear input s.end.window
    → tag_step_state (multiple_frame_established Whole input s)
    ≡ multiple_frame_established Tagged (tag_input input) (tag_step_state s)
unfolding multiple_frame_established tag_control
multiple_frame_established_on_tags (Heard (I ns nr p) Command) s w n =
    rw (
      i_frame_nr_on_tags nr (i_frame_ns Whole ns p s) (message_numbered nr ns p s (w, n.1)),
      i_frame_ns_on_tags ns p s n.0,
    ) refl
multiple_frame_established_on_tags (Heard (Dm true) Answer) s w n = simp actions
multiple_frame_established_on_tags (Heard (Rr nr pf) role) s w n =
    rw (
      rr_nr_on_tags nr (s ▷ set_peer_busy false ▷ poll_or_final role pf)
          (polled_numbered nr false role pf s (w, n)),
      poll_or_final_on_tags role pf (set_peer_busy false s),
      set_peer_busy_on_tags false s,
    )
    refl
multiple_frame_established_on_tags (Heard (Rej nr pf) role) s w n =
    rw (
      rej_nr_on_tags nr (s ▷ set_peer_busy false ▷ poll_or_final role pf)
          (polled_numbered nr false role pf s (w, n)),
      poll_or_final_on_tags role pf (set_peer_busy false s),
      set_peer_busy_on_tags false s,
    )
    refl
multiple_frame_established_on_tags (Heard (Rnr nr pf) role) s w n =
    rw (
      rnr_nr_on_tags nr (s ▷ set_peer_busy true ▷ poll_or_final role pf)
          (polled_numbered nr true role pf s (w, n)),
      poll_or_final_on_tags role pf (set_peer_busy true s),
      set_peer_busy_on_tags true s,
    ) refl
multiple_frame_established_on_tags (Expiry T203) s w n = simp actions
multiple_frame_established_on_tags (Expiry T200) s w n = established_t200_on_tags s w
multiple_frame_established_on_tags input s w n = in_7_and_8_on_tags input s w

-- ---- State 8.

poll_on_tags : (role : Role) (pf : Bool) (s : StepState)
    → tag_step_state (poll role pf s) ≡ poll role pf (tag_step_state s)
unfolding poll
poll_on_tags Command true s = enquiry_response_on_tags s
poll_on_tags Answer true s = refl
poll_on_tags Command false s = refl
poll_on_tags Answer false s = refl

polled_in_recovery : (nr : ℕ) (on : Bool) (role : Role) (pf : Bool) (s : StepState)
    → IsNumbered nr s → IsNumbered nr (s ▷ set_peer_busy on ▷ poll role pf)
unfolding poll enquiry_response without_ack_pending set_peer_busy with_peer_busy
polled_in_recovery nr on Command true s n = n
polled_in_recovery nr on Answer true s n = n
polled_in_recovery nr on Command false s n = n
polled_in_recovery nr on Answer false s n = n

timer_recovery_t200_on_tags : (s : StepState)
    → tag_step_state (timer_recovery_t200 s) ≡ timer_recovery_t200 (tag_step_state s)
unfolding timer_recovery_t200 tag_step_state
timer_recovery_t200_on_tags s =
    by_test (nat_lt s.end.rc s.end.parameters.n200) (nat_lt s.end.rc s.end.parameters.n200) _ _ _ _
    refl (λ _. simp actions) (λ _. simp procedures)

pub timer_recovery_on_tags : (input : Input) (s : StepState)
    → IsWindow s.end.window.va s.end.window.vs → IsReceivedNear input s.end.window
    → tag_step_state (timer_recovery Whole input s)
    ≡ timer_recovery Tagged (tag_input input) (tag_step_state s)
unfolding timer_recovery tag_control
timer_recovery_on_tags (Heard (I ns nr p) Command) s w n =
    rw (
      i_frame_nr_in_recovery_on_tags nr (i_frame_ns Whole ns p s)
          (message_numbered nr ns p s (w, n.1)),
      i_frame_ns_on_tags ns p s n.0,
    ) refl
timer_recovery_on_tags (Heard (Dm true) Answer) s w n = simp procedures
timer_recovery_on_tags (Heard (Rr nr pf) role) s w n =
    rw (
      rr_nr_in_recovery_on_tags (is_final role pf) nr (s ▷ set_peer_busy false ▷ poll role pf)
          (polled_in_recovery nr false role pf s (w, n)),
      poll_on_tags role pf (set_peer_busy false s),
      set_peer_busy_on_tags false s,
    ) refl
timer_recovery_on_tags (Heard (Rej nr pf) role) s w n =
    rw (
      rr_nr_in_recovery_on_tags (is_final role pf) nr (s ▷ set_peer_busy false ▷ poll role pf)
          (polled_in_recovery nr false role pf s (w, n)),
      poll_on_tags role pf (set_peer_busy false s),
      set_peer_busy_on_tags false s,
    ) refl
timer_recovery_on_tags (Heard (Rnr nr pf) role) s w n =
    rw (
      rnr_nr_in_recovery_on_tags (is_final role pf) nr (s ▷ set_peer_busy true ▷ poll role pf)
          (polled_in_recovery nr true role pf s (w, n)),
      poll_on_tags role pf (set_peer_busy true s),
      set_peer_busy_on_tags true s,
    ) refl
timer_recovery_on_tags (Expiry T200) s w n = timer_recovery_t200_on_tags s
timer_recovery_on_tags input s w n = in_7_and_8_on_tags input s w
