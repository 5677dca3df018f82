-- The places of an end agree with its counters, row by row.
use Rattle.std.proofs.Common.{◌≡◌, ℕ, zero, suc, ◌≤◌, ◌==◌, ◌&&◌, nat_lt, Option, Some, None, Result, Ok, if◌then◌else◌, Bool, true, false, List, [], ◌∷◌, ◌++◌, length, length-append, subst, refl, sym, arith}
use Rattle.lapd_timers.specs.declared.timer.Timer.TheVariants.{T200, T201, T202, T203}
use Rattle.lapd_frame.specs.declared.Role.{Role}
use Rattle.lapd_frame.specs.declared.Role.TheVariants.{Command, Answer}
use Rattle.lapd_frame.specs.declared.Control.TheVariants.{I, Rr, Rnr, Rej, Sabme, Dm, Disc, Ua, Frmr}
use Rattle.lapd_mod128.specs.Counting.{Reading, Whole, Tagged, reaches}
use Rattle.lapd_mod128.proofs.Steps.{no_steps}
use Rattle.lapd_supervision.specs.StateVariables.{is_valid_nr, acknowledges_all, without_exceptions, with_zero_counters, without_ack_pending, after_i_frame, with_own_busy, with_peer_busy}
use Rattle.lapd_supervision.proofs.Outstanding.{acknowledged_count_at_most, outstanding_with_va, outstanding_after_sending, outstanding_with_vs, may_send_leaves_room, reaches_with_va, reaches_with_vs, reaches_after_sending}
use Rattle.lapd_link_definition.specs.declared.state.State.{State}
use Rattle.lapd_link_definition.specs.declared.state.State.TheVariants.{TeiAssigned, AwaitingEstablishment, AwaitingRelease, MultipleFrameEstablished, TimerRecovery}
use Rattle.lapd_frame.specs.declared.fault_kind.FaultKind.{FaultKind}
use Rattle.lapd_link_definition.specs.declared.event.LinkFault.{LinkFault}
use Rattle.lapd_link_definition.proofs.PreservedByStep.{row_preserves_parameters}
use Rattle.lapd_link_definition.proofs.Sending.{both_true, below}
use Rattle.lapd_link_definition.specs.Parameters.{Parameters}
use Rattle.lapd_link_definition.specs.declared.out.Letter.TheVariants as letter
use Rattle.lapd_link_definition.specs.declared.out.Out.TheVariants.{Report, UnitUp}
use Rattle.lapd_link_definition.specs.AwaitingEstablishment.{end_establishment, confirm_or_indicate, ua_final, awaiting_establishment_t200, awaiting_establishment}
use Rattle.lapd_link_definition.specs.AwaitingRelease.{confirm_release, awaiting_release_t200, awaiting_release}
use Rattle.lapd_link_definition.specs.EndOfStep.{send_next, is_7_or_8, is_established, send_all, acknowledge_pending, end_step, may_send_next}
use Rattle.lapd_link_definition.specs.End.{End, StepState, ◌▷◌, new_end, unsent, runs, begin}
use Rattle.lapd_link_definition.specs.Established.{sends_last, established_t200, acknowledge_with_timers, i_frame_nr, poll_or_final, rr_nr, rej_nr, rnr_nr, busy_on, busy_off, in_7_and_8, multiple_frame_established}
use Rattle.lapd_link_definition.specs.Input.{Input, Heard, Faulty, Expiry, Establish, Release, BusyOn, BusyOff, UnitData, Give}
use Rattle.lapd_link_definition.specs.Procedures.{retransmit_last_i_frame, put, state_to, rc_to, increment_rc, layer3_initiated_to, release_pending_to, start, stop, expired, clear_exception_conditions, zero_state_variables, set_peer_busy, set_own_busy, enquiry_response, transmit_enquiry, acknowledge, invoke_retransmission, i_frame_ns, transmit_i_frame, ensure_t200, transmit_rr, establish_data_link, reestablish_data_link, nr_error_recovery}
use Rattle.lapd_link_definition.specs.Refusal.{refused}
use Rattle.lapd_link_definition.specs.Sound.{AreOutstanding, AreUnsent, AreAwaiting, IsSoundIn, IsSound}
use Rattle.lapd_link_definition.specs.Table.{by_state, report_fault, row, step, is_unit_data, unless, fault_letter}
use Rattle.lapd_link_definition.specs.TeiAssigned.{tei_assigned}
use Rattle.lapd_link_definition.specs.TimerRecovery.{i_frame_nr_in_recovery, poll, rr_nr_in_recovery, rnr_nr_in_recovery, timer_recovery_t200, timer_recovery, is_final}
use Rattle.lapd_link_definition.proofs.ComputedStep.{each_change}

abbrev SoundAfter : Reading → StepState → Type 0
SoundAfter r s = IsSound r s.end

-- both branches of a row with a test
either : (r : Reading) (test : Bool) (x y : StepState) → (test ≡ true → SoundAfter r x)
    → (test ≡ false → SoundAfter r y) → SoundAfter r (if test then x else y)
either r true x y one other = one refl
either r false x y one other = other refl

-- ---- The places after an action.

zero_is_reached : (r : Reading) → reaches r 0 0 ≡ true
unfolding reaches
zero_is_reached Whole = refl
zero_is_reached Tagged = refl

-- an establishment begins without sent messages
begun : (r : Reading) (first next given : ℕ) → AreUnsent first next given
    → AreOutstanding r first next given 0 0
begun r first next given h = record {
  places = omega (arith, no_steps r 0, h.places);
  within = h.within;
  reached = zero_is_reached r;
  at_most = omega (arith, no_steps r 0);
}

-- all accepted messages are dropped
dropped : (given : ℕ) → AreUnsent given given given
dropped given = record { places = refl; within = omega arith }

dropped_awaiting : (r : Reading) (leaving : Bool) (given va vs : ℕ)
    → AreAwaiting r true leaving given given given va vs
dropped_awaiting r leaving given va vs = dropped given

dropped_leaving : (r : Reading) (asked : Bool) (given va vs : ℕ)
    → AreAwaiting r asked true given given given va vs
dropped_leaving r true given va vs = dropped given
dropped_leaving r false given va vs = dropped given

-- one more message is accepted
given_unsent : (first next : ℕ) (given : List (List ℕ)) (message : List ℕ)
    → AreUnsent first next (length given) → AreUnsent first next (length (given ++ message ∷ []))
given_unsent first next given message h = record {
  places = h.places;
  within = omega (arith, length-append given (message ∷ []), h.within);
}

given_outstanding : (r : Reading) (first next : ℕ) (given : List (List ℕ)) (message : List ℕ)
    (va vs : ℕ) → AreOutstanding r first next (length given) va vs
    → AreOutstanding r first next (length (given ++ message ∷ [])) va vs
given_outstanding r first next given message va vs h = record {
  places = h.places;
  within = omega (arith, length-append given (message ∷ []), h.within);
  reached = h.reached;
  at_most = h.at_most;
}

given_awaiting : (r : Reading) (asked leaving : Bool) (first next : ℕ) (given : List (List ℕ))
    (message : List ℕ) (va vs : ℕ) → AreAwaiting r asked leaving first next (length given) va vs
    → AreAwaiting r asked leaving first next (length (given ++ message ∷ [])) va vs
given_awaiting r true leaving first next given message va vs h =
    given_unsent first next given message h
given_awaiting r false true first next given message va vs h =
    given_unsent first next given message h
given_awaiting r false false first next given message va vs h =
    given_outstanding r first next given message va vs h

-- ---- States 4 and 6.

sound_tei_assigned : (r : Reading) (h : Input) (s : StepState) → s.end.state ≡ TeiAssigned
    → AreUnsent s.end.first s.end.next (length s.end.given) → SoundAfter r (tei_assigned h s)
unfolding each_change tei_assigned establish_data_link
sound_tei_assigned r (Heard (Sabme p) Command) s q h =
    begun r s.end.first s.end.next (length s.end.given) h
sound_tei_assigned r Establish s q h = dropped (length s.end.given)
sound_tei_assigned r (Heard (Disc p) Command) s q h = rw q h
sound_tei_assigned r (Heard (Ua f) Answer) s q h = rw q h
sound_tei_assigned r Release s q h = rw q h
sound_tei_assigned r input s q h = rw q h

sound_release_expired : (r : Reading) (s : StepState) → s.end.state ≡ AwaitingRelease
    → AreUnsent s.end.first s.end.next (length s.end.given) → SoundAfter r (awaiting_release_t200 s)
unfolding each_change awaiting_release_t200
sound_release_expired r s q h =
    either r (nat_lt s.end.rc s.end.parameters.n200) _ _ (λ _. rw q h) (λ _. h)

sound_awaiting_release : (r : Reading) (h : Input) (s : StepState) → s.end.state ≡ AwaitingRelease
    → AreUnsent s.end.first s.end.next (length s.end.given) → SoundAfter r (awaiting_release h s)
unfolding each_change awaiting_release confirm_release
sound_awaiting_release r (Heard (Dm true) Answer) s q h = h
sound_awaiting_release r (Heard (Ua true) Answer) s q h = h
sound_awaiting_release r (Expiry T200) s q h = sound_release_expired r s q h
sound_awaiting_release r (Heard (Sabme p) Command) s q h = rw q h
sound_awaiting_release r (Heard (Disc p) Command) s q h = rw q h
sound_awaiting_release r (Heard (Ua false) Answer) s q h = rw q h
sound_awaiting_release r input s q h = rw q h

-- ---- State 5.

-- both branches of a row with a test, for any property
by_test : (P : StepState → Type 0) (test : Bool) (x y : StepState) → (test ≡ true → P x)
    → (test ≡ false → P y) → P (if test then x else y)
by_test P true x y one other = one refl
by_test P false x y one other = other refl

awaiting_leaving : (r : Reading) (asked : Bool) (first next given va vs : ℕ)
    → AreAwaiting r asked true first next given va vs → AreUnsent first next given
awaiting_leaving r true first next given va vs h = h
awaiting_leaving r false first next given va vs h = h

same_number : (a b : ℕ) → (a == b) ≡ true → a ≡ b
same_number a b h = grind (arith, h)

-- if V(S) is V(A) nothing is outstanding; otherwise all messages are dropped
lost : (r : Reading) (first next given va vs : ℕ) (same : Bool) → (vs == va) ≡ same
    → AreOutstanding r first next given va vs
    → AreUnsent (if same then first else given) (if same then next else given) given
lost r first next given va vs true e h =
    let none = rw (same_number vs va e) at h.places in
    record { places = omega (arith, none, no_steps r va); within = h.within }
lost r first next given va vs false e h = dropped given

abbrev NothingSent : StepState → Type 0
NothingSent s = AreUnsent s.end.first s.end.next (length s.end.given)

confirmed : (r : Reading) (s : StepState) → s.end.release_pending ≡ false
    → AreAwaiting r s.end.layer3_initiated s.end.release_pending s.end.first s.end.next
    (length s.end.given) s.end.window.va s.end.window.vs → NothingSent (confirm_or_indicate s)
unfolding each_change confirm_or_indicate
confirmed r s q h =
    let A : Bool → Bool → Type 0 =
    λ asked leaving. AreAwaiting r asked leaving s.end.first s.end.next (length s.end.given)
    s.end.window.va s.end.window.vs in
    by_test NothingSent s.end.layer3_initiated _ _ (λ e. subst (λ b. A b s.end.release_pending) e h)
    (λ e. lost r s.end.first s.end.next (length s.end.given) s.end.window.va s.end.window.vs _ refl
    (subst (A false) q (subst (λ b. A b s.end.release_pending) e h)))

answered_awaiting : (r : Reading) (s : StepState)
    → AreAwaiting r s.end.layer3_initiated s.end.release_pending s.end.first s.end.next
    (length s.end.given) s.end.window.va s.end.window.vs → SoundAfter r (ua_final s)
unfolding ua_final release_pending_to rc_to put start stop state_to zero_state_variables
    with_zero_counters
answered_awaiting r s h =
    let A : Bool → Type 0 =
    λ leaving. AreAwaiting r s.end.layer3_initiated leaving s.end.first s.end.next
    (length s.end.given) s.end.window.va s.end.window.vs in
    either r s.end.release_pending _ _ (λ e. awaiting_leaving r s.end.layer3_initiated s.end.first
    s.end.next (length s.end.given) s.end.window.va s.end.window.vs (subst A e h))
    (λ e. begun r (confirm_or_indicate s).end.first (confirm_or_indicate s).end.next
    (length (confirm_or_indicate s).end.given) (confirmed r s e h))

expired_awaiting : (r : Reading) (s : StepState) → s.end.state ≡ AwaitingEstablishment
    → AreAwaiting r s.end.layer3_initiated s.end.release_pending s.end.first s.end.next
    (length s.end.given) s.end.window.va s.end.window.vs
    → SoundAfter r (awaiting_establishment_t200 s)
unfolding each_change awaiting_establishment_t200 end_establishment
expired_awaiting r s q h =
    either r (nat_lt s.end.rc s.end.parameters.n200) _ _ (λ _. rw q h)
    (λ _. dropped (length s.end.given))

sound_awaiting_establishment : (r : Reading) (h : Input) (s : StepState)
    → s.end.state ≡ AwaitingEstablishment
    → AreAwaiting r s.end.layer3_initiated s.end.release_pending s.end.first s.end.next
    (length s.end.given) s.end.window.va s.end.window.vs
    → SoundAfter r (awaiting_establishment h s)
unfolding each_change awaiting_establishment end_establishment
sound_awaiting_establishment r (Heard (Dm true) Answer) s q h = dropped (length s.end.given)
sound_awaiting_establishment r (Heard (Ua true) Answer) s q h = answered_awaiting r s h
sound_awaiting_establishment r (Expiry T200) s q h = expired_awaiting r s q h
sound_awaiting_establishment r Establish s q h =
    rw q
    (dropped_awaiting r s.end.release_pending (length s.end.given) s.end.window.va s.end.window.vs)
sound_awaiting_establishment r Release s q h =
    rw q
    (dropped_leaving r s.end.layer3_initiated (length s.end.given) s.end.window.va s.end.window.vs)
sound_awaiting_establishment r (Give message) s q h =
    rw q (given_awaiting r s.end.layer3_initiated s.end.release_pending s.end.first s.end.next
    s.end.given message s.end.window.va s.end.window.vs h)
sound_awaiting_establishment r (Heard (Sabme p) Command) s q h = rw q h
sound_awaiting_establishment r (Heard (Disc p) Command) s q h = rw q h
sound_awaiting_establishment r (Heard (Ua false) Answer) s q h = rw q h
sound_awaiting_establishment r input s q h = rw q h

-- ---- States 7 and 8.

-- an end in one of these states, with all sent messages outstanding
abbrev Opened : Reading → StepState → Type 0
Opened r s =
    (is_7_or_8 s.end.state ≡ true)
    × AreOutstanding r s.end.first s.end.next (length s.end.given) s.end.window.va s.end.window.vs

opened_in : (r : Reading) (state : State) (e : End) → is_7_or_8 state ≡ true
    → AreOutstanding r e.first e.next (length e.given) e.window.va e.window.vs → IsSoundIn r state e
opened_in r TeiAssigned e q h = cc
opened_in r AwaitingEstablishment e q h = cc
opened_in r AwaitingRelease e q h = cc
opened_in r MultipleFrameEstablished e q h = h
opened_in r TimerRecovery e q h = h

opened : (r : Reading) (s : StepState) → Opened r s → SoundAfter r s
opened r s o = opened_in r s.end.state s.end o.0 o.1

-- acknowledged messages are removed
acked : (r : Reading) (nr : ℕ) (s : StepState) → is_valid_nr r nr s.end.window ≡ true → Opened r s
    → Opened r (acknowledge r nr s)
unfolding acknowledge
acked r nr s valid o = (
  o.0,
  record {
    places = omega (arith, o.1.places, outstanding_with_va r nr s.end.window valid);
    within = o.1.within;
    reached = reaches_with_va r nr s.end.window valid;
    at_most = omega (arith, o.1.at_most, outstanding_with_va r nr s.end.window valid);
  },
)

-- all remaining messages are to be retransmitted
backed : (r : Reading) (nr : ℕ) (s : StepState) → is_valid_nr r nr s.end.window ≡ true → Opened r s
    → Opened r (s ▷ acknowledge r nr ▷ invoke_retransmission nr)
unfolding invoke_retransmission acknowledge
backed r nr s valid o =
    let some = acknowledged_count_at_most r nr s.end.window valid in (
      o.0,
      record {
        places = omega (arith, outstanding_with_vs r nr s.end.window);
        within = omega (arith, o.1.places, o.1.within, some);
        reached = reaches_with_vs r nr s.end.window;
        at_most = omega (arith, outstanding_with_vs r nr s.end.window);
      },
    )

-- the data link re-establishes by itself: sent messages stay outstanding for now
again : (r : Reading) (s : StepState) → Opened r s → SoundAfter r (reestablish_data_link s)
unfolding reestablish_data_link establish_data_link clear_exception_conditions without_exceptions
    layer3_initiated_to release_pending_to rc_to put stop start state_to
again r s o = o.1

wrong : (r : Reading) (s : StepState) → Opened r s → SoundAfter r (nr_error_recovery s)
unfolding nr_error_recovery put
wrong r s o = again r (s ▷ put (Report letter.J)) o

-- an action that changes no place and no counter
stays : (r : Reading) (s t : StepState) → Opened r s → (Opened r s → Opened r t) → SoundAfter r t
stays r s t o f = opened r t (f o)

advanced : (r : Reading) (nr : ℕ) (s : StepState) → is_valid_nr r nr s.end.window ≡ true
    → Opened r s → Opened r (acknowledge_with_timers r nr s)
unfolding acknowledge_with_timers stop start
advanced r nr s valid o =
    let all : Opened r (s ▷ acknowledge r nr) = acked r nr s valid o in
    by_test (Opened r) (acknowledges_all nr s.end.window) _ _ (λ _. all)
    (λ _. by_test (Opened r) (nr == s.end.window.va) _ _ (λ _. o) (λ _. all))

message_numbered : (r : Reading) (nr : ℕ) (s : StepState) → Opened r s
    → SoundAfter r (i_frame_nr r nr s)
unfolding i_frame_nr
message_numbered r nr s o = either r (is_valid_nr r nr s.end.window) _ _
    (λ valid. either r s.end.window.peer_busy _ _
    (λ _. opened r (acknowledge r nr s) (acked r nr s valid o))
    (λ _. opened r (acknowledge_with_timers r nr s) (advanced r nr s valid o)))
    (λ _. wrong r s o)

message_recovering : (r : Reading) (nr : ℕ) (s : StepState) → Opened r s
    → SoundAfter r (i_frame_nr_in_recovery r nr s)
unfolding i_frame_nr_in_recovery
message_recovering r nr s o =
    either r (is_valid_nr r nr s.end.window) (acknowledge r nr s) (nr_error_recovery s)
    (λ valid. opened r (acknowledge r nr s) (acked r nr s valid o)) (λ _. wrong r s o)

ready_numbered : (r : Reading) (nr : ℕ) (s : StepState) → Opened r s → SoundAfter r (rr_nr r nr s)
unfolding rr_nr
ready_numbered r nr s o =
    either r (is_valid_nr r nr s.end.window) (acknowledge_with_timers r nr s) (nr_error_recovery s)
    (λ valid. opened r (acknowledge_with_timers r nr s) (advanced r nr s valid o))
    (λ _. wrong r s o)

reject_numbered : (r : Reading) (nr : ℕ) (s : StepState) → Opened r s → SoundAfter r (rej_nr r nr s)
unfolding rej_nr stop start
reject_numbered r nr s o =
    either r (is_valid_nr r nr s.end.window)
    (s ▷ acknowledge r nr ▷ invoke_retransmission nr ▷ stop T200 ▷ start T203) (nr_error_recovery s)
    (λ valid. opened r (s ▷ acknowledge r nr ▷ invoke_retransmission nr ▷ stop T200 ▷ start T203)
    (backed r nr s valid o)) (λ _. wrong r s o)

not_ready_numbered : (r : Reading) (nr : ℕ) (s : StepState) → Opened r s
    → SoundAfter r (rnr_nr r nr s)
unfolding rnr_nr stop start
not_ready_numbered r nr s o =
    either r (is_valid_nr r nr s.end.window) (s ▷ acknowledge r nr ▷ stop T203 ▷ start T200)
    (nr_error_recovery s)
    (λ valid. opened r (s ▷ acknowledge r nr ▷ stop T203 ▷ start T200) (acked r nr s valid o))
    (λ _. wrong r s o)

ready_recovering : (r : Reading) (final : Bool) (nr : ℕ) (s : StepState) → Opened r s
    → SoundAfter r (rr_nr_in_recovery r final nr s)
unfolding rr_nr_in_recovery stop start state_to
ready_recovering r final nr s o = either r (is_valid_nr r nr s.end.window) _ _
    (λ valid. either r final _ _ (λ _. (backed r nr s valid o).1)
    (λ _. opened r (acknowledge r nr s) (acked r nr s valid o))) (λ _. wrong r s o)

not_ready_recovering : (r : Reading) (final : Bool) (nr : ℕ) (s : StepState) → Opened r s
    → SoundAfter r (rnr_nr_in_recovery r final nr s)
unfolding rnr_nr_in_recovery start state_to
not_ready_recovering r final nr s o = either r (is_valid_nr r nr s.end.window) _ _
    (λ valid. either r final _ _ (λ _. (backed r nr s valid o).1)
    (λ _. opened r (acknowledge r nr s) (acked r nr s valid o))) (λ _. wrong r s o)

polled : (r : Reading) (role : Role) (pf : Bool) (s : StepState) → Opened r s
    → Opened r (poll_or_final role pf s)
unfolding poll_or_final enquiry_response without_ack_pending put
polled r Command true s o = o
polled r Answer true s o = o
polled r Command false s o = o
polled r Answer false s o = o

polled_in_recovery : (r : Reading) (role : Role) (pf : Bool) (s : StepState) → Opened r s
    → Opened r (poll role pf s)
unfolding poll enquiry_response without_ack_pending
polled_in_recovery r Command true s o = o
polled_in_recovery r Answer true s o = o
polled_in_recovery r Command false s o = o
polled_in_recovery r Answer false s o = o

busy_on_is_sound : (r : Reading) (s : StepState) → Opened r s → SoundAfter r (busy_on s)
unfolding busy_on set_own_busy with_own_busy
busy_on_is_sound r s o =
    either r s.end.window.own_busy _ _ (λ _. opened r s o) (λ _. opened r (set_own_busy true s) o)

busy_off_is_sound : (r : Reading) (s : StepState) → Opened r s → SoundAfter r (busy_off s)
unfolding busy_off set_own_busy with_own_busy
busy_off_is_sound r s o =
    either r s.end.window.own_busy _ _ (λ _. opened r (set_own_busy false s) o) (λ _. opened r s o)

sound_in_7_and_8 : (r : Reading) (h : Input) (s : StepState) → is_7_or_8 s.end.state ≡ true
    → AreOutstanding r s.end.first s.end.next (length s.end.given) s.end.window.va s.end.window.vs
    → SoundAfter r (in_7_and_8 h s)
unfolding each_change in_7_and_8 establish_data_link
sound_in_7_and_8 r (Heard (Sabme p) Command) s q h =
    begun r _ _ _
    (lost r s.end.first s.end.next (length s.end.given) s.end.window.va s.end.window.vs _ refl h)
sound_in_7_and_8 r (Heard (Disc p) Command) s q h = dropped (length s.end.given)
sound_in_7_and_8 r (Heard (Dm false) Answer) s q h = again r (s ▷ put (Report letter.E)) (q, h)
sound_in_7_and_8 r (Heard (Frmr f) Answer) s q h = again r (s ▷ put (Report letter.K)) (q, h)
sound_in_7_and_8 r Establish s q h = dropped (length s.end.given)
sound_in_7_and_8 r Release s q h = dropped (length s.end.given)
sound_in_7_and_8 r BusyOn s q h = busy_on_is_sound r s (q, h)
sound_in_7_and_8 r BusyOff s q h = busy_off_is_sound r s (q, h)
sound_in_7_and_8 r (Give message) s q h =
    opened_in r s.end.state _ q (given_outstanding r s.end.first s.end.next s.end.given message
    s.end.window.va s.end.window.vs h)
sound_in_7_and_8 r (Heard (Ua f) Answer) s q h = opened_in r s.end.state _ q h
sound_in_7_and_8 r input s q h = opened_in r s.end.state _ q h

expired_last : (r : Reading) (s : StepState)
    → AreOutstanding r s.end.first s.end.next (length s.end.given) s.end.window.va s.end.window.vs
    → SoundAfter r (established_t200 r s)
unfolding established_t200 retransmit_last_i_frame expired transmit_enquiry without_ack_pending
    rc_to state_to
expired_last r s h =
    either r (sends_last s.end.parameters.recovery s.end.window) _ _ (λ _. h) (λ _. h)

expired_203 : (r : Reading) (s : StepState)
    → AreOutstanding r s.end.first s.end.next (length s.end.given) s.end.window.va s.end.window.vs
    → SoundAfter r (multiple_frame_established r (Expiry T203) s)
unfolding multiple_frame_established expired transmit_enquiry without_ack_pending rc_to state_to
expired_203 r s h = h

recovery_expiring : (r : Reading) (s : StepState) → Opened r s
    → SoundAfter r (timer_recovery_t200 s)
unfolding timer_recovery_t200 expired transmit_enquiry without_ack_pending increment_rc put
recovery_expiring r s o =
    either r (nat_lt s.end.rc s.end.parameters.n200)
    (s ▷ increment_rc ▷ expired T200 ▷ transmit_enquiry)
    (s ▷ expired T200 ▷ put (Report letter.I) ▷ reestablish_data_link)
    (λ _. opened r (s ▷ increment_rc ▷ expired T200 ▷ transmit_enquiry) o)
    (λ _. again r (s ▷ expired T200 ▷ put (Report letter.I)) o)

sound_established : (r : Reading) (h : Input) (s : StepState) → Opened r s
    → SoundAfter r (multiple_frame_established r h s)
unfolding multiple_frame_established put set_peer_busy with_peer_busy i_frame_ns after_i_frame
sound_established r (Heard (I ns nr p) Command) s o = message_numbered r nr (i_frame_ns r ns p s) o
sound_established r (Heard (Rr nr pf) Command) s o =
    ready_numbered r nr (poll_or_final Command pf (set_peer_busy false s))
    (polled r Command pf (set_peer_busy false s) o)
sound_established r (Heard (Rnr nr pf) Command) s o =
    not_ready_numbered r nr (poll_or_final Command pf (set_peer_busy true s))
    (polled r Command pf (set_peer_busy true s) o)
sound_established r (Heard (Rej nr pf) Command) s o =
    reject_numbered r nr (poll_or_final Command pf (set_peer_busy false s))
    (polled r Command pf (set_peer_busy false s) o)
sound_established r (Heard (Rr nr pf) Answer) s o =
    ready_numbered r nr (poll_or_final Answer pf (set_peer_busy false s))
    (polled r Answer pf (set_peer_busy false s) o)
sound_established r (Heard (Rnr nr pf) Answer) s o =
    not_ready_numbered r nr (poll_or_final Answer pf (set_peer_busy true s))
    (polled r Answer pf (set_peer_busy true s) o)
sound_established r (Heard (Rej nr pf) Answer) s o =
    reject_numbered r nr (poll_or_final Answer pf (set_peer_busy false s))
    (polled r Answer pf (set_peer_busy false s) o)
sound_established r (Heard (Dm true) Answer) s o = opened r (put (Report letter.B) s) o
sound_established r (Expiry T200) s o = expired_last r s o.1
sound_established r (Expiry T203) s o = expired_203 r s o.1
sound_established r input s o = sound_in_7_and_8 r input s o.0 o.1

sound_timer_recovery : (r : Reading) (h : Input) (s : StepState) → Opened r s
    → SoundAfter r (timer_recovery r h s)
unfolding timer_recovery put set_peer_busy with_peer_busy i_frame_ns after_i_frame
sound_timer_recovery r (Heard (I ns nr p) Command) s o =
    message_recovering r nr (i_frame_ns r ns p s) o
sound_timer_recovery r (Heard (Rr nr pf) Command) s o =
    ready_recovering r (is_final Command pf) nr (poll Command pf (set_peer_busy false s))
    (polled_in_recovery r Command pf (set_peer_busy false s) o)
sound_timer_recovery r (Heard (Rnr nr pf) Command) s o =
    not_ready_recovering r (is_final Command pf) nr (poll Command pf (set_peer_busy true s))
    (polled_in_recovery r Command pf (set_peer_busy true s) o)
sound_timer_recovery r (Heard (Rej nr pf) Command) s o =
    ready_recovering r (is_final Command pf) nr (poll Command pf (set_peer_busy false s))
    (polled_in_recovery r Command pf (set_peer_busy false s) o)
sound_timer_recovery r (Heard (Rr nr pf) Answer) s o =
    ready_recovering r (is_final Answer pf) nr (poll Answer pf (set_peer_busy false s))
    (polled_in_recovery r Answer pf (set_peer_busy false s) o)
sound_timer_recovery r (Heard (Rnr nr pf) Answer) s o =
    not_ready_recovering r (is_final Answer pf) nr (poll Answer pf (set_peer_busy true s))
    (polled_in_recovery r Answer pf (set_peer_busy true s) o)
sound_timer_recovery r (Heard (Rej nr pf) Answer) s o =
    ready_recovering r (is_final Answer pf) nr (poll Answer pf (set_peer_busy false s))
    (polled_in_recovery r Answer pf (set_peer_busy false s) o)
sound_timer_recovery r (Heard (Dm true) Answer) s o = again r (put (Report letter.B) s) o
sound_timer_recovery r (Expiry T200) s o = recovery_expiring r s o
sound_timer_recovery r input s o = sound_in_7_and_8 r input s o.0 o.1

-- ---- All states.

sound_by_state : (r : Reading) (state : State) (h : Input) (s : StepState) → s.end.state ≡ state
    → IsSoundIn r state s.end → SoundAfter r (by_state r state h s)
unfolding by_state
sound_by_state r TeiAssigned h s q sound = sound_tei_assigned r h s q sound
sound_by_state r AwaitingEstablishment h s q sound = sound_awaiting_establishment r h s q sound
sound_by_state r AwaitingRelease h s q sound = sound_awaiting_release r h s q sound
sound_by_state r MultipleFrameEstablished h s q sound = sound_established r h s (rw q refl, sound)
sound_by_state r TimerRecovery h s q sound = sound_timer_recovery r h s (rw q refl, sound)

fault_sound : (r : Reading) (state : State) (kind : FaultKind) (s : StepState) → s.end.state ≡ state
    → IsSoundIn r state s.end → SoundAfter r (report_fault state kind s)
unfolding report_fault put
fault_sound r TeiAssigned kind s q sound = rw q sound
fault_sound r AwaitingEstablishment kind s q sound = rw q sound
fault_sound r AwaitingRelease kind s q sound = rw q sound
fault_sound r MultipleFrameEstablished kind s q sound =
    again r (put (Report (fault_letter kind)) s) (rw q refl, sound)
fault_sound r TimerRecovery kind s q sound =
    again r (put (Report (fault_letter kind)) s) (rw q refl, sound)

in_state : (r : Reading) (state : State) (s : StepState) → s.end.state ≡ state
    → IsSoundIn r state s.end → SoundAfter r s
in_state r state s q sound =
    let F : State → Type 0 = λ st. IsSoundIn r st s.end in subst F (sym q) sound

pub sound_row : (r : Reading) (state : State) (h : Input) (s : StepState) → s.end.state ≡ state
    → IsSoundIn r state s.end → SoundAfter r (row r state h s)
unfolding row put
sound_row r state (Heard control role) s q sound =
    either r (is_unit_data control role) (s ▷ put UnitUp)
    (s ▷ by_state r state (Heard control role)) (λ _. in_state r state s q sound)
    (λ _. sound_by_state r state (Heard control role) s q sound)
sound_row r state (Faulty kind) s q sound = fault_sound r state kind s q sound
sound_row r state (Expiry T200) s q sound =
    either r (runs T200 s.end) (by_state r state (Expiry T200) s) s
    (λ _. sound_by_state r state (Expiry T200) s q sound) (λ _. in_state r state s q sound)
sound_row r state (Expiry T201) s q sound =
    either r (runs T201 s.end) (by_state r state (Expiry T201) s) s
    (λ _. sound_by_state r state (Expiry T201) s q sound) (λ _. in_state r state s q sound)
sound_row r state (Expiry T202) s q sound =
    either r (runs T202 s.end) (by_state r state (Expiry T202) s) s
    (λ _. sound_by_state r state (Expiry T202) s q sound) (λ _. in_state r state s q sound)
sound_row r state (Expiry T203) s q sound =
    either r (runs T203 s.end) (by_state r state (Expiry T203) s) s
    (λ _. sound_by_state r state (Expiry T203) s q sound) (λ _. in_state r state s q sound)
sound_row r state Establish s q sound = sound_by_state r state Establish s q sound
sound_row r state Release s q sound = sound_by_state r state Release s q sound
sound_row r state BusyOn s q sound = sound_by_state r state BusyOn s q sound
sound_row r state BusyOff s q sound = sound_by_state r state BusyOff s q sound
sound_row r state (UnitData len) s q sound = in_state r state s q sound
sound_row r state (Give message) s q sound = sound_by_state r state (Give message) s q sound

-- ---- The end of a step.

pub established_is : (state : State) → is_established state ≡ true
    → state ≡ MultipleFrameEstablished
established_is MultipleFrameEstablished h = refl
established_is state h = cc

pub sound_send_next : (r : Reading) (s : StepState) → s.end.parameters.k ≤ 127
    → may_send_next r s ≡ true → SoundAfter r s → SoundAfter r (send_next r s)
unfolding transmit_i_frame ensure_t200
sound_send_next r s small go sound =
    let one = both_true _ _ go in
    let two = both_true _ _ one.1 in
    let state = established_is s.end.state one.0 in
    let o : AreOutstanding r s.end.first s.end.next (length s.end.given) s.end.window.va
    s.end.window.vs =
    rw state at sound in
    let room = may_send_leaves_room r s.end.parameters.k s.end.window two.0 in
    let free = below s.end.next (length s.end.given) two.1 in
    rw state (record {
      places =
          omega (arith, o.places, outstanding_after_sending r s.end.window o.reached (omega arith));
      within = omega arith;
      reached = reaches_after_sending r s.end.window o.reached;
      at_most = omega (arith, outstanding_after_sending r s.end.window o.reached (omega arith));
    })

sound_send_all : (r : Reading) (n : ℕ) (s : StepState) → s.end.parameters.k ≤ 127 → SoundAfter r s
    → SoundAfter r (send_all r n s)
unfolding send_all transmit_i_frame ensure_t200
sound_send_all r zero s small sound = sound
sound_send_all r (suc n) s small sound =
    either r (may_send_next r s) (send_all r n (send_next r s)) s
    (λ go. sound_send_all r n (send_next r s) small (sound_send_next r s small go sound))
    (λ _. sound)

outstanding_in : (r : Reading) (state : State) (e : End) → is_7_or_8 state ≡ true
    → IsSoundIn r state e → AreOutstanding r e.first e.next (length e.given) e.window.va e.window.vs
outstanding_in r TeiAssigned e q h = cc
outstanding_in r AwaitingEstablishment e q h = cc
outstanding_in r AwaitingRelease e q h = cc
outstanding_in r MultipleFrameEstablished e q h = h
outstanding_in r TimerRecovery e q h = h

sound_pending : (r : Reading) (s : StepState)
    → (is_7_or_8 s.end.state && s.end.window.ack_pending) ≡ true → SoundAfter r s
    → SoundAfter r (transmit_rr s)
unfolding transmit_rr without_ack_pending
sound_pending r s test sound =
    let here = (both_true _ _ test).0 in
    opened_in r s.end.state _ here (outstanding_in r s.end.state s.end here sound)

sound_close : (r : Reading) (s : StepState) → s.end.parameters.k ≤ 127 → SoundAfter r s
    → SoundAfter r (end_step r s)
unfolding end_step acknowledge_pending
sound_close r s small sound =
    let done = sound_send_all r (unsent s.end) s small sound in
    either r (is_7_or_8 (send_all r (unsent s.end) s).end.state
    && (send_all r (unsent s.end) s).end.window.ack_pending)
    (transmit_rr (send_all r (unsent s.end) s)) (send_all r (unsent s.end) s)
    (λ test. sound_pending r (send_all r (unsent s.end) s) test done) (λ _. done)

abbrev Done : StepState → Result StepState LinkFault
Done s = Ok s

same_done : (s t : StepState) → Done s ≡ Done t → s ≡ t
same_done s t h = cc

taken : (refusal : Option LinkFault) (s done : StepState) → unless refusal s ≡ Ok done → s ≡ done
taken None s done h = same_done s done h
taken (Some fault) s done h = cc

-- each step keeps it, for any input
pub sound_step : (r : Reading) (input : Input) (e : End) (s : StepState) → e.parameters.k ≤ 127
    → IsSound r e → step r input e ≡ Ok s → IsSound r s.end
unfolding step begin
sound_step r input e s small sound done =
    let F : StepState → Type 0 = λ d. SoundAfter r d in
    let small_then : (row r e.state input (begin e)).end.parameters.k ≤ 127 =
    rw (row_preserves_parameters r input e) small in
    subst F (taken (refused input e) _ s done)
    (sound_close r (row r e.state input (begin e)) small_then
    (sound_row r e.state input (begin e) refl sound))

pub sound_new : (r : Reading) (p : Parameters) → IsSound r (new_end p)
sound_new r p = record { places = refl; within = omega arith }
