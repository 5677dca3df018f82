-- The moves of a side other than deliveries.
use Rattle.std.proofs.Common.{◌≡◌, ℕ, Bool, true, false, List, [], Option, Some, None, Result, refl, ap, ◌∙◌, arith}
use Rattle.lapd_timers.specs.declared.timer.Timer.TheVariants.{T200, T203}
use Rattle.lapd_frame.specs.declared.Side.TheVariants as side
use Rattle.lapd_mod128.specs.Counting.{Whole}
use Rattle.lapd_link_definition.specs.declared.state.State.{State}
use Rattle.lapd_link_definition.specs.declared.state.State.TheVariants.{TeiAssigned, AwaitingEstablishment, AwaitingRelease, MultipleFrameEstablished, TimerRecovery}
use Rattle.lapd_link_definition.specs.declared.out.Out.TheVariants.{ReleaseConfirm}
use Rattle.lapd_link_definition.specs.AwaitingEstablishment.{awaiting_establishment}
use Rattle.lapd_link_definition.specs.AwaitingRelease.{awaiting_release}
use Rattle.lapd_link_definition.specs.EndOfStep.{is_7_or_8, end_step}
use Rattle.lapd_link_definition.specs.End.{StepState, begin, runs}
use Rattle.lapd_link_definition.specs.Established.{in_7_and_8, multiple_frame_established}
use Rattle.lapd_link_definition.specs.Input as input
use Rattle.lapd_link_definition.specs.Input.{Input, Expiry, BusyOn, BusyOff}
use Rattle.lapd_link_definition.specs.Procedures.{put}
use Rattle.lapd_link_definition.specs.Table.{by_state, row}
use Rattle.lapd_link_definition.specs.TeiAssigned.{tei_assigned}
use Rattle.lapd_link_definition.specs.TimerRecovery.{timer_recovery}
use Rattle.lapd_pair_laws.specs.Line.{Flight, first_poll, first_final}
use Rattle.lapd_pair_laws.specs.Move.{Establish, Release, Expire200, Expire203, Busy, Station, View, ViewStep, Refusal, acts, takes, expires_200, expires_203, unless_under_way, busy_input, story_after}
use Rattle.lapd_pair_laws.specs.Kinds.{Kind, kinds}
use Rattle.lapd_pair_laws.specs.Conjuncts.{most_asks}
use Rattle.lapd_pair_laws.specs.Invariant.{Both}
use Rattle.lapd_pair_laws.specs.Eager.{awaited, awaited_in}
use Rattle.lapd_pair_laws.proofs.ClosedRows.{here, ends_as_it_was, ends_establishing, ends_established_by_layer3, ends_release_pending, ends_releasing, ends_t200_in_5, ends_t200_in_6}
use Rattle.lapd_pair_laws.proofs.ActionEffects.{Context, seen, line, HoldsMid}
use Rattle.lapd_pair_laws.proofs.Lists.{by_test}
use Rattle.lapd_pair_laws.proofs.MidSteps.{enter}
use Rattle.lapd_pair_laws.proofs.OpenTimers.{mid_busy_on, mid_busy_off, mid_t200_in_7, mid_t203_in_7, ends_t200_in_8}
use Rattle.lapd_pair_laws.proofs.ClosedActions.{Ends, seems_put}
use Rattle.lapd_pair_laws.proofs.Steps.{context, begun, ends_open, by_refusal}
use Rattle.lapd_pair_laws.proofs.Units.{ends_as_seen}
use Rattle.lapd_pair_laws.proofs.UnderWay.{none_under_way, none_answered, received_polls}
use Rattle.lapd_pair_laws.proofs.Worlds.{Holds, Preserves, left_by}

-- ---- By the state before the step.

abbrev pub Before : Context → List Kind → StepState → Type 0
Before c ks s = Both (seen c s) c.peer (line c s) ks

pub ends_nothing : (c : Context) (ks : List Kind) (s : StepState) → Before c ks s
    → Ends c ks (end_step Whole s)
ends_nothing c ks s b = ends_as_seen c ks s (seen c s) (line c s) (here c s) b

pub opened_in : (state : State) (s : StepState) → s.end.state ≡ state → is_7_or_8 state ≡ true
    → is_7_or_8 s.end.state ≡ true
opened_in state s is opened = ap (λ st. is_7_or_8 st) is ∙ opened

pub closed_in : (state : State) (s : StepState) → s.end.state ≡ state → is_7_or_8 state ≡ false
    → is_7_or_8 s.end.state ≡ false
closed_in state s is closed = ap (λ st. is_7_or_8 st) is ∙ closed

-- ---- DL-ESTABLISH and DL-RELEASE.

ends_establish : (c : Context) (ks : List Kind) (s : StepState) (state : State)
    → s.end.state ≡ state → Before c ks s
    → Ends c ks (end_step Whole (row Whole state input.Establish s))
unfolding row by_state tei_assigned awaiting_establishment awaiting_release
    multiple_frame_established timer_recovery in_7_and_8
ends_establish c ks s TeiAssigned is b = ends_establishing c ks s (ap (λ st. most_asks st) is) b
ends_establish c ks s AwaitingEstablishment is b = ends_established_by_layer3 c ks s is b
ends_establish c ks s AwaitingRelease is b = ends_nothing c ks s b
ends_establish c ks s MultipleFrameEstablished is b =
    ends_establishing c ks s (ap (λ st. most_asks st) is) b
ends_establish c ks s TimerRecovery is b = ends_establishing c ks s (ap (λ st. most_asks st) is) b

ends_release : (c : Context) (ks : List Kind) (s : StepState) (state : State) → s.end.state ≡ state
    → Before c ks s → Ends c ks (end_step Whole (row Whole state input.Release s))
unfolding row by_state tei_assigned awaiting_establishment awaiting_release
    multiple_frame_established timer_recovery in_7_and_8
ends_release c ks s TeiAssigned is b =
    ends_as_it_was c ks s (put ReleaseConfirm s) (closed_in TeiAssigned s is refl)
    (seems_put c ReleaseConfirm s (seen c s) (line c s) (λ o t. refl) (here c s)) b
ends_release c ks s AwaitingEstablishment is b = ends_release_pending c ks s is b
ends_release c ks s AwaitingRelease is b = ends_nothing c ks s b
ends_release c ks s MultipleFrameEstablished is b =
    ends_releasing c ks s (opened_in MultipleFrameEstablished s is refl) b
ends_release c ks s TimerRecovery is b = ends_releasing c ks s (opened_in TimerRecovery s is refl) b

-- ---- Own receiver busy.

entered : (c : Context) (ks : List Kind) (s : StepState) (state : State) → s.end.state ≡ state
    → is_7_or_8 state ≡ true → Before c ks s → HoldsMid c ks s
entered c ks s state is opened b =
    enter (seen c s) c.peer (line c s) ks (opened_in state s is opened) b

ends_busy : (c : Context) (ks : List Kind) (s : StepState) (state : State) (on : Bool)
    → s.end.state ≡ state → Before c ks s
    → Ends c ks (end_step Whole (row Whole state (busy_input on) s))
unfolding row by_state tei_assigned awaiting_establishment awaiting_release
    multiple_frame_established timer_recovery in_7_and_8
ends_busy c ks s TeiAssigned true is b = ends_nothing c ks s b
ends_busy c ks s TeiAssigned false is b = ends_nothing c ks s b
ends_busy c ks s AwaitingEstablishment true is b = ends_nothing c ks s b
ends_busy c ks s AwaitingEstablishment false is b = ends_nothing c ks s b
ends_busy c ks s AwaitingRelease true is b = ends_nothing c ks s b
ends_busy c ks s AwaitingRelease false is b = ends_nothing c ks s b
ends_busy c ks s MultipleFrameEstablished true is b =
    ends_open c ks _ (mid_busy_on c s ks (entered c ks s MultipleFrameEstablished is refl b))
ends_busy c ks s MultipleFrameEstablished false is b =
    ends_open c ks _ (mid_busy_off c s ks (entered c ks s MultipleFrameEstablished is refl b))
ends_busy c ks s TimerRecovery true is b =
    ends_open c ks _ (mid_busy_on c s ks (entered c ks s TimerRecovery is refl b))
ends_busy c ks s TimerRecovery false is b =
    ends_open c ks _ (mid_busy_off c s ks (entered c ks s TimerRecovery is refl b))

-- ---- Timers.

by_t200 : (c : Context) (ks : List Kind) (s : StepState) (state : State) → s.end.state ≡ state
    → awaited state (line c s) ks ≡ 0 → Before c ks s
    → Ends c ks (end_step Whole (by_state Whole state (Expiry T200) s))
unfolding by_state tei_assigned awaiting_establishment awaiting_release multiple_frame_established
    timer_recovery in_7_and_8
by_t200 c ks s TeiAssigned is none b = ends_nothing c ks s b
by_t200 c ks s AwaitingEstablishment is none b =
    ends_t200_in_5 c ks s is (omega (arith, none)) (omega (arith, none)) b
by_t200 c ks s AwaitingRelease is none b =
    ends_t200_in_6 c ks s is (omega (arith, none)) (omega (arith, none)) b
by_t200 c ks s MultipleFrameEstablished is none b =
    ends_open c ks _ (mid_t200_in_7 c s ks is (entered c ks s MultipleFrameEstablished is refl b))
by_t200 c ks s TimerRecovery is none b =
    ends_t200_in_8 c s ks is (record {
      polls =
          received_polls c.peer (line c s) (omega (arith, none));
      finals = omega (arith, none);
    })
    b

ends_t200 : (c : Context) (ks : List Kind) (s : StepState) (state : State) → s.end.state ≡ state
    → awaited state (line c s) ks ≡ 0 → Before c ks s
    → Ends c ks (end_step Whole (row Whole state (Expiry T200) s))
unfolding row
ends_t200 c ks s state is none b =
    by_test (λ (t : StepState). Ends c ks (end_step Whole t)) (runs T200 s.end) _ _
    (λ _. by_t200 c ks s state is none b) (λ _. ends_nothing c ks s b)

by_t203 : (c : Context) (ks : List Kind) (s : StepState) (state : State) → s.end.state ≡ state
    → Before c ks s → Ends c ks (end_step Whole (by_state Whole state (Expiry T203) s))
unfolding by_state tei_assigned awaiting_establishment awaiting_release multiple_frame_established
    timer_recovery in_7_and_8
by_t203 c ks s MultipleFrameEstablished is b =
    ends_open c ks _ (mid_t203_in_7 c s ks is (entered c ks s MultipleFrameEstablished is refl b))
by_t203 c ks s state is b = ends_nothing c ks s b

ends_t203 : (c : Context) (ks : List Kind) (s : StepState) (state : State) → s.end.state ≡ state
    → Before c ks s → Ends c ks (end_step Whole (row Whole state (Expiry T203) s))
unfolding row
ends_t203 c ks s state is b =
    by_test (λ (t : StepState). Ends c ks (end_step Whole t)) (runs T203 s.end) _ _
    (λ _. by_t203 c ks s state is b) (λ _. ends_nothing c ks s b)

-- ---- From what the side sees.

-- the context of an input without a frame
abbrev at : (v : View) (peer : Station) → Holds v peer → Context
at v peer h = context h.base [] 0 v v.incoming peer h.its_base

started : (v : View) (peer : Station) (h : Holds v peer)
    → Before (at v peer h) (kinds v.incoming) (begin v.station.end)
started v peer h = begun (at v peer h) (kinds v.incoming) h.both

pub preserves_establish : Preserves Establish
unfolding acts takes begin
preserves_establish v peer small h =
    by_refusal [] 0 v h.base h.its_base peer input.Establish h
    (λ _. ends_establish (at v peer h) (kinds v.incoming) (begin v.station.end) v.station.end.state
    refl (started v peer h))

pub preserves_release : Preserves Release
unfolding acts takes begin
preserves_release v peer small h =
    by_refusal [] 0 v h.base h.its_base peer input.Release h
    (λ _. ends_release (at v peer h) (kinds v.incoming) (begin v.station.end) v.station.end.state
    refl (started v peer h))

pub preserves_busy : (on : Bool) → Preserves (Busy on)
unfolding acts takes begin
preserves_busy on v peer small h =
    by_refusal [] 0 v h.base h.its_base peer (busy_input on) h
    (λ _. ends_busy (at v peer h) (kinds v.incoming) (begin v.station.end) v.station.end.state on
    refl (started v peer h))

pub preserves_t203 : Preserves Expire203
unfolding acts takes begin expires_203
preserves_t203 v peer small h =
    by_test (λ (r : Result ViewStep Refusal). Holds (left_by v r) peer) v.station.end.t203 _ _
    (λ _. by_refusal [] 0 v h.base h.its_base peer (Expiry T203) h
    (λ _. ends_t203 (at v peer h) (kinds v.incoming) (begin v.station.end)
    v.station.end.state refl (started v peer h))) (λ _. h)

unless_so : (v : View) (peer : Station) (poll final : Option ℕ) (outcome : Result ViewStep Refusal)
    → Holds v peer → (poll ≡ None → final ≡ None → Holds (left_by v outcome) peer)
    → Holds (left_by v (unless_under_way side.User poll final outcome)) peer
unless_so v peer (Some n) final outcome h f = h
unless_so v peer None (Some n) outcome h f = h
unless_so v peer None None outcome h f = f refl refl

-- T200 expires while no frame is awaited
pub holds_after_t200 : (v : View) (peer : Station) → Holds v peer → awaited_in v ≡ 0
    → Holds (left_by v (takes Whole (Expiry T200) [] v)) peer
unfolding takes begin story_after
holds_after_t200 v peer h none =
    by_refusal [] 0 v h.base h.its_base peer (Expiry T200) h
    (λ _. ends_t200 (at v peer h) (kinds v.incoming) (begin v.station.end) v.station.end.state refl
    none (started v peer h))

-- if no command with P=1 and no response with F=1 is in transit, no frame is awaited
pub none_awaited : (state : State) (out back : List Flight) → first_poll out ≡ None
    → first_final back ≡ None → awaited state (kinds out) (kinds back) ≡ 0
none_awaited TeiAssigned out back poll final = refl
none_awaited AwaitingEstablishment out back poll final =
    omega (arith, (none_under_way out poll).1, (none_answered back final).1)
none_awaited AwaitingRelease out back poll final =
    omega (arith, (none_under_way out poll).1, (none_answered back final).1)
none_awaited MultipleFrameEstablished out back poll final = refl
none_awaited TimerRecovery out back poll final =
    omega (arith, (none_under_way out poll).0, (none_answered back final).0)

pub preserves_t200 : Preserves Expire200
unfolding acts expires_200
preserves_t200 v peer small h =
    by_test (λ (r : Result ViewStep Refusal). Holds (left_by v r) peer) v.station.end.t200 _ _
    (λ _. unless_so v peer (first_poll v.outgoing) (first_final v.incoming) _ h (λ poll final.
    holds_after_t200 v peer h
    (none_awaited v.station.end.state v.outgoing v.incoming poll final))) (λ _. h)
