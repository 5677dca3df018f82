-- T200 after a frame in states 7 and 8: only an RNR starts it before messages are sent.
use Rattle.std.proofs.Common.{◌≡◌, ℕ, ◌==◌, ◌&&◌, nat_le, if◌then◌else◌, Bool, true, false, refl, subst, arith}
use Rattle.std.proofs.lemmas.Bool.Decides.{nat_tests}
use Rattle.lapd_frame.specs.declared.Role.{Role}
use Rattle.lapd_frame.specs.declared.Role.TheVariants.{Command, Answer}
use Rattle.lapd_frame.specs.declared.Control.{Control}
use Rattle.lapd_frame.specs.declared.Control.TheVariants.{I, Rr, Rej}
use Rattle.lapd_mod128.specs.Counting.{Whole, lies_within}
use Rattle.lapd_supervision.specs.StateVariables.{without_ack_pending, with_peer_busy, is_valid_nr, acknowledges_all, after_i_frame}
use Rattle.lapd_link_definition.specs.declared.state.State.{State}
use Rattle.lapd_link_definition.specs.declared.state.State.TheVariants.{AwaitingEstablishment, MultipleFrameEstablished, TimerRecovery}
use Rattle.lapd_link_definition.specs.declared.out.Letter.TheVariants as letter
use Rattle.lapd_link_definition.specs.declared.out.Out.TheVariants.{Report}
use Rattle.lapd_link_definition.specs.EndOfStep.{is_7_or_8}
use Rattle.lapd_link_definition.specs.End.{End, StepState, begin}
use Rattle.lapd_link_definition.specs.Established.{in_7_and_8, poll_or_final, acknowledge_with_timers, i_frame_nr, rr_nr, rej_nr, multiple_frame_established}
use Rattle.lapd_link_definition.specs.Input.{Heard}
use Rattle.lapd_link_definition.specs.Procedures.{put, set_peer_busy, enquiry_response, acknowledge, i_frame_ns, establish_data_link, reestablish_data_link, nr_error_recovery}
use Rattle.lapd_link_definition.specs.Table.{by_state, row, is_unit_data}
use Rattle.lapd_link_definition.specs.TimerRecovery.{poll, i_frame_nr_in_recovery, rr_nr_in_recovery, timer_recovery}
use Rattle.lapd_link_definition.proofs.ComputedStep.{each_change}
use Rattle.lapd_link_definition.proofs.Sending.{both_true}
use Rattle.lapd_pair_laws.specs.Timed.{IsTimedIn, IsSettledEnd}
use Rattle.lapd_pair_laws.proofs.Lists.{by_test}
use Rattle.lapd_pair_laws.proofs.WorkOfActions.{is_ready}

-- T200 runs in state 7 after this step only if it did before
abbrev pub OnlyRuns : StepState → StepState → Type 0
OnlyRuns s t = t.end.state ≡ MultipleFrameEstablished → t.end.t200 ≡ true
    → (s.end.state ≡ MultipleFrameEstablished) × (s.end.t200 ≡ true)

-- if it does not, no message is outstanding
abbrev Timed : StepState → Type 0
Timed s = s.end.t200 ≡ false → s.end.window.vs ≡ s.end.window.va

none_between : (a b c : ℕ) → (nat_le a b && nat_le b c) ≡ true → (b == c) ≡ false → c ≡ a → ⊥
none_between a b c le other same =
    let two = both_true (nat_le a b) (nat_le b c) le in
    let low = two.0 in
    let high = two.1 in
    grind (arith, nat_tests, low, high, other, same)

module _ (nr : ℕ) where
  no_recovery : (s : StepState)
      → (nr_error_recovery s).end.state ≡ MultipleFrameEstablished → ⊥
  unfolding each_change nr_error_recovery reestablish_data_link establish_data_link
  no_recovery s in_7 =
      let impossible : AwaitingEstablishment ≡ MultipleFrameEstablished = in_7 in cc

  -- N(R) is valid, or a new establishment begins
  when_valid : (s t x : StepState) → (is_valid_nr Whole nr s.end.window ≡ true → OnlyRuns t x)
      → OnlyRuns t (if is_valid_nr Whole nr s.end.window then x else nr_error_recovery s)
  when_valid s t x only =
      by_test (λ (z : StepState). OnlyRuns t z) (is_valid_nr Whole nr s.end.window) _ _ only
      (λ _ in_7 on. absurd (no_recovery s in_7))

  runs_already : (s : StepState) → Timed s → is_valid_nr Whole nr s.end.window ≡ true
      → (nr == s.end.window.vs) ≡ false → s.end.t200 ≡ true
  unfolding is_valid_nr lies_within
  runs_already s timed valid other = by_case s.end.t200 refl
    where
      by_case : (on : Bool) → s.end.t200 ≡ on → s.end.t200 ≡ true
      by_case true on = on
      by_case false off =
          absurd (none_between s.end.window.va nr s.end.window.vs valid other (timed off))

  timers_only : (s : StepState) → s.end.state ≡ MultipleFrameEstablished → Timed s
      → is_valid_nr Whole nr s.end.window ≡ true
      → OnlyRuns s (acknowledge_with_timers Whole nr s)
  unfolding each_change acknowledge_with_timers acknowledges_all
  timers_only s is timed valid =
      by_test (λ (t : StepState). OnlyRuns s t) (nr == s.end.window.vs) _ _ (λ _ in_7 on. cc)
      (λ other. by_test (λ (t : StepState). OnlyRuns s t) (nr == s.end.window.va) _ _
      (λ _ in_7 on. (is, on)) (λ _ in_7 on. (is, runs_already s timed valid other)))

  i_nr_only : (s : StepState) → s.end.state ≡ MultipleFrameEstablished → Timed s
      → OnlyRuns s (i_frame_nr Whole nr s)
  unfolding i_frame_nr acknowledge
  i_nr_only s is timed =
      when_valid s s _ (λ valid.
      by_test (λ (t : StepState). OnlyRuns s t) s.end.window.peer_busy _ _
      (λ _ in_7 on. (is, on)) (λ _. timers_only s is timed valid))

  rr_nr_only : (s : StepState) → s.end.state ≡ MultipleFrameEstablished → Timed s
      → OnlyRuns s (rr_nr Whole nr s)
  unfolding rr_nr
  rr_nr_only s is timed = when_valid s s _ (λ valid. timers_only s is timed valid)

  rej_nr_only : (s : StepState) → OnlyRuns s (rej_nr Whole nr s)
  unfolding rej_nr each_change
  rej_nr_only s = when_valid s s _ (λ valid in_7 on. cc)

  i_nr_only_in_8 : (s : StepState) → s.end.state ≡ TimerRecovery
      → OnlyRuns s (i_frame_nr_in_recovery Whole nr s)
  unfolding i_frame_nr_in_recovery acknowledge
  i_nr_only_in_8 s is = when_valid s s _ (λ valid in_7 on. cc)

  rr_nr_only_in_8 : (final : Bool) (s : StepState) → s.end.state ≡ TimerRecovery
      → OnlyRuns s (rr_nr_in_recovery Whole final nr s)
  unfolding rr_nr_in_recovery each_change
  rr_nr_only_in_8 true s is = when_valid s s _ (λ valid in_7 on. cc)
  rr_nr_only_in_8 false s is = when_valid s s _ (λ valid in_7 on. cc)

only_in_7 : (control : Control) (role : Role) (s : StepState)
    → s.end.state ≡ MultipleFrameEstablished → Timed s → is_ready control ≡ true
    → OnlyRuns s (multiple_frame_established Whole (Heard control role) s)
unfolding multiple_frame_established in_7_and_8 poll_or_final i_frame_ns after_i_frame set_peer_busy
    with_peer_busy enquiry_response without_ack_pending put
only_in_7 (I ns nr p) Command s is timed ready = i_nr_only nr (i_frame_ns Whole ns p s) is timed
only_in_7 (I ns nr p) Answer s is timed ready = λ in_7 on. (is, on)
only_in_7 (Rr nr true) Command s is timed ready =
    rr_nr_only nr (enquiry_response (set_peer_busy false s)) is timed
only_in_7 (Rr nr true) Answer s is timed ready =
    rr_nr_only nr (put (Report letter.A) (set_peer_busy false s)) is timed
only_in_7 (Rr nr false) Command s is timed ready = rr_nr_only nr (set_peer_busy false s) is timed
only_in_7 (Rr nr false) Answer s is timed ready = rr_nr_only nr (set_peer_busy false s) is timed
only_in_7 (Rej nr true) Command s is timed ready =
    rej_nr_only nr (enquiry_response (set_peer_busy false s))
only_in_7 (Rej nr true) Answer s is timed ready =
    rej_nr_only nr (put (Report letter.A) (set_peer_busy false s))
only_in_7 (Rej nr false) Command s is timed ready = rej_nr_only nr (set_peer_busy false s)
only_in_7 (Rej nr false) Answer s is timed ready = rej_nr_only nr (set_peer_busy false s)
only_in_7 control role s is timed ready = cc

only_in_8 : (control : Control) (role : Role) (s : StepState) → s.end.state ≡ TimerRecovery
    → is_ready control ≡ true → OnlyRuns s (timer_recovery Whole (Heard control role) s)
unfolding timer_recovery in_7_and_8 poll i_frame_ns after_i_frame set_peer_busy enquiry_response
only_in_8 (I ns nr p) Command s is ready = i_nr_only_in_8 nr (i_frame_ns Whole ns p s) is
only_in_8 (I ns nr p) Answer s is ready = λ in_7 on. (in_7, on)
only_in_8 (Rr nr true) Command s is ready =
    rr_nr_only_in_8 nr false (enquiry_response (set_peer_busy false s)) is
only_in_8 (Rr nr true) Answer s is ready = rr_nr_only_in_8 nr true (set_peer_busy false s) is
only_in_8 (Rr nr false) Command s is ready = rr_nr_only_in_8 nr false (set_peer_busy false s) is
only_in_8 (Rr nr false) Answer s is ready = rr_nr_only_in_8 nr false (set_peer_busy false s) is
only_in_8 (Rej nr true) Command s is ready =
    rr_nr_only_in_8 nr false (enquiry_response (set_peer_busy false s)) is
only_in_8 (Rej nr true) Answer s is ready = rr_nr_only_in_8 nr true (set_peer_busy false s) is
only_in_8 (Rej nr false) Command s is ready = rr_nr_only_in_8 nr false (set_peer_busy false s) is
only_in_8 (Rej nr false) Answer s is ready = rr_nr_only_in_8 nr false (set_peer_busy false s) is
only_in_8 control role s is ready = cc

timed_7 : (e : End) → IsSettledEnd e → e.state ≡ MultipleFrameEstablished → e.t200 ≡ false
    → e.window.vs ≡ e.window.va
timed_7 e settled is off =
    let timed : IsTimedIn MultipleFrameEstablished e.t200 e.window.vs e.window.va
    e.window.peer_busy =
    subst (λ st. IsTimedIn st e.t200 e.window.vs e.window.va e.window.peer_busy) is
    settled.timed in
    (timed off).0

pub only_runs : (e : End) (control : Control) (role : Role) → IsSettledEnd e
    → is_7_or_8 e.state ≡ true → is_ready control ≡ true
    → OnlyRuns (begin e) (row Whole e.state (Heard control role) (begin e))
unfolding row begin put by_state
only_runs e control role settled opened ready =
    by_test (λ (t : StepState). OnlyRuns (begin e) t) (is_unit_data control role) _ _
    (λ unit in_7 on. (in_7, on)) (λ no_unit. in_state e.state refl opened)
  where
    in_state : (state : State) → e.state ≡ state → is_7_or_8 state ≡ true
        → OnlyRuns (begin e) (by_state Whole state (Heard control role) (begin e))
    in_state MultipleFrameEstablished is o =
        only_in_7 control role (begin e) is (λ off. timed_7 e settled is off) ready
    in_state TimerRecovery is o = only_in_8 control role (begin e) is ready
    in_state state is o = cc
