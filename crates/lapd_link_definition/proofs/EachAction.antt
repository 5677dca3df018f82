-- One induction over the table: a property that each action keeps is kept by each row and by the
-- end of a step.
--
-- A property P is kept until an N(R) is acknowledged or a message is sent, and from then on a
-- property Q that follows from P. Some actions need a premise of their own: E for a timer that
-- expires, M for a message that joins the queue, B for the start of an establishment, T for an
-- accepted I frame, U for unit data that is delivered to layer 3, G for a message that is sent, N
-- for an N(R) that is acknowledged.
use Rattle.std.proofs.Common.{◌≡◌, ℕ, zero, suc, ◌==◌, ◌&&◌, not, nat_lt, Bool, true, false, if◌then◌else◌, List, Option, Some, None, refl}
use Rattle.lapd_timers.specs.declared.timer.Timer.{Timer}
use Rattle.lapd_timers.specs.declared.timer.Timer.TheVariants.{T200, T203}
use Rattle.lapd_frame.specs.declared.Role.{Role}
use Rattle.lapd_frame.specs.declared.Role.TheVariants.{Command, Answer}
use Rattle.lapd_frame.specs.declared.Control.TheVariants.{I, Rr, Rnr, Rej, Sabme, Dm, Disc, Ua, Frmr}
use Rattle.lapd_frame.specs.declared.fault_kind.FaultKind.{FaultKind}
use Rattle.lapd_frame.specs.Control.{IsControl}
use Rattle.lapd_frame.specs.Frame.{content_fault}
use Rattle.lapd_mod128.specs.Counting.{Reading}
use Rattle.lapd_supervision.specs.StateVariables.{is_valid_nr, acknowledges_all}
use Rattle.lapd_link_definition.specs.declared.state.State.{State}
use Rattle.lapd_link_definition.specs.declared.state.State.TheVariants.{TeiAssigned, AwaitingEstablishment, AwaitingRelease, MultipleFrameEstablished, TimerRecovery}
use Rattle.lapd_link_definition.specs.declared.out.Out.{Out}
use Rattle.lapd_link_definition.specs.declared.out.Out.TheVariants.{Send, SendUnit, UnitUp, Established, Confirmed, Released, ReleaseConfirm, Report}
use Rattle.lapd_link_definition.specs.AwaitingEstablishment.{release_primitive, end_establishment, confirm_or_indicate, ua_final, awaiting_establishment_t200, awaiting_establishment}
use Rattle.lapd_link_definition.specs.AwaitingRelease.{confirm_release, awaiting_release_t200, awaiting_release}
use Rattle.lapd_link_definition.specs.Begins.{is_sabme, is_final_ua, begins}
use Rattle.lapd_link_definition.specs.Counts.{receives_unit}
use Rattle.lapd_link_definition.specs.EndOfStep.{is_7_or_8, may_send_next, send_all, acknowledge_pending, end_step}
use Rattle.lapd_link_definition.specs.End.{StepState, ◌▷◌, runs, unsent}
use Rattle.lapd_link_definition.specs.Established.{busy_on, busy_off, in_7_and_8, sends_last, established_t200, poll_or_final, acknowledge_with_timers, i_frame_nr, rr_nr, rej_nr, rnr_nr, multiple_frame_established}
use Rattle.lapd_link_definition.specs.Input.{Input, Heard, Faulty, Expiry, Establish, Release, BusyOn, BusyOff, UnitData, Give}
use Rattle.lapd_link_definition.specs.Procedures.{put, retransmit_last_i_frame, state_to, rc_to, increment_rc, layer3_initiated_to, release_pending_to, start, stop, expired, clear_exception_conditions, zero_state_variables, set_peer_busy, set_own_busy, enquiry_response, transmit_enquiry, transmit_rr, queue_up, discard_i_queue, acknowledge, invoke_retransmission, discard_unacknowledged, i_frame_ns, transmit_i_frame, ensure_t200, establish_data_link, reestablish_data_link, nr_error_recovery}
use Rattle.lapd_link_definition.specs.Table.{by_state, report_fault, is_unit_data, row}
use Rattle.lapd_link_definition.specs.TeiAssigned.{tei_assigned}
use Rattle.lapd_link_definition.specs.TimerRecovery.{poll, is_final, i_frame_nr_in_recovery, rr_nr_in_recovery, rnr_nr_in_recovery, timer_recovery_t200, timer_recovery}

-- the outputs of `put` except unit data for layer 3: a frame of the grammar without information, a
-- primitive about the link, unit data to send, a report
abbrev pub IsPut : Out → Type 0
IsPut (Send role control) = (content_fault role control 0 ≡ None) × IsControl control
IsPut SendUnit = Unit {0}
IsPut Established = Unit {0}
IsPut Confirmed = Unit {0}
IsPut Released = Unit {0}
IsPut ReleaseConfirm = Unit {0}
IsPut (Report letter) = Unit {0}
IsPut out = ⊥

-- the N(R) of a received frame
abbrev pub received_number : Input → Option ℕ
received_number (Heard (I ns nr p) role) = Some nr
received_number (Heard (Rr nr pf) role) = Some nr
received_number (Heard (Rnr nr pf) role) = Some nr
received_number (Heard (Rej nr pf) role) = Some nr
received_number input = None

pub record PreservedByActions (r : Reading) (E : Timer → StepState → Type 0)
    (P Q : StepState → Type 0) (M : List ℕ → Type 0) (B T U G : Type 0) (N : ℕ → Type 0) : Type
    0 where
  pub puts : (out : Out) (s : StepState) → IsPut out → P s → P (put out s)
  pub unit_ups : (s : StepState) → U → P s → P (put UnitUp s)
  pub states : (state : State) (s : StepState) → P s → P (state_to state s)
  pub rcs : (n : ℕ) (s : StepState) → P s → P (rc_to n s)
  pub increments : (s : StepState) → P s → P (increment_rc s)
  pub layer3s : (on : Bool) (s : StepState) → P s → P (layer3_initiated_to on s)
  pub pendings : (on : Bool) (s : StepState) → P s → P (release_pending_to on s)
  pub starts : (timer : Timer) (s : StepState) → P s → P (start timer s)
  pub stops : (timer : Timer) (s : StepState) → P s → P (stop timer s)
  -- the expiry is counted before the rest of the row
  pub still_expires : (timer : Timer) (s : StepState) → E timer s → E timer (increment_rc s)
  pub expires : (timer : Timer) (s : StepState) → E timer s → P s → P (expired timer s)
  pub clears : (s : StepState) → P s → P (clear_exception_conditions s)
  pub zeroes : (s : StepState) → B → P s → P (zero_state_variables s)
  pub peers : (on : Bool) (s : StepState) → P s → P (set_peer_busy on s)
  pub owns : (on : Bool) (s : StepState) → P s → P (set_own_busy on s)
  pub responds : (s : StepState) → P s → P (enquiry_response s)
  pub enquires : (s : StepState) → P s → P (transmit_enquiry s)
  pub queues : (message : List ℕ) (s : StepState) → M message → P s → P (queue_up message s)
  pub discards : (s : StepState) → P s → P (discard_i_queue s)
  pub loses : (s : StepState) → P s → P (discard_unacknowledged s)
  pub takes : (ns : ℕ) (p : Bool) (s : StepState) → T → P s → P (i_frame_ns r ns p s)
  pub follows : (s : StepState) → P s → Q s
  pub acknowledges : (nr : ℕ) (s : StepState) → N nr → is_valid_nr r nr s.end.window ≡ true → P s
      → Q (acknowledge r nr s)
  pub retransmits : (nr : ℕ) (s : StepState) → N nr → is_valid_nr r nr s.end.window ≡ true
      → Q (acknowledge r nr s) → Q (s ▷ acknowledge r nr ▷ invoke_retransmission nr)
  pub repeats : (s : StepState) → G → P s → Q (retransmit_last_i_frame r s)
  pub rcs_then : (n : ℕ) (s : StepState) → Q s → Q (rc_to n s)
  pub states_then : (state : State) (s : StepState) → Q s → Q (state_to state s)
  pub starts_then : (timer : Timer) (s : StepState) → Q s → Q (start timer s)
  pub stops_then : (timer : Timer) (s : StepState) → Q s → Q (stop timer s)
  pub sends : (s : StepState) → G → may_send_next r s ≡ true → Q s → Q (transmit_i_frame r s)
  pub ensures_t200 : (s : StepState) → Q s → Q (ensure_t200 s)
  pub reporting : (s : StepState) → Q s → Q (transmit_rr s)

-- both branches of a row with a test
pub either : (F : StepState → Type 0) (test : Bool) (x y : StepState) → (test ≡ true → F x)
    → (test ≡ false → F y) → F (if test then x else y)
either F true x y one other = one refl
either F false x y one other = other refl

pub primitive_is_put : (leaving : Bool) → IsPut (release_primitive leaving)
primitive_is_put true = tt
primitive_is_put false = tt

both_then : (a leaving : Bool) → a ≡ true → leaving ≡ false → (a && not leaving) ≡ true
both_then true false p q = refl
both_then true true p q = cc
both_then false leaving p q = cc

module _ (r : Reading) (E : Timer → StepState → Type 0) (P Q : StepState → Type 0)
    (M : List ℕ → Type 0) (B T U G : Type 0) (N : ℕ → Type 0)
    (w : PreservedByActions r E P Q M B T U G N) where
  establishing : (s : StepState) → P s → P (establish_data_link s)
  unfolding establish_data_link
  establishing s h =
      w.states _ _ (w.starts T200 _
      (w.stops T203 _ (w.puts _ _ (refl, tt) (w.rcs 0 _ (w.pendings false _ (w.clears _ h))))))

  reestablishing : (s : StepState) → P s → P (reestablish_data_link s)
  unfolding reestablish_data_link
  reestablishing s h = establishing _ (w.layer3s false _ h)

  recovering : (s : StepState) → P s → Q (nr_error_recovery s)
  unfolding nr_error_recovery
  recovering s h = w.follows _ (reestablishing _ (w.puts _ _ tt h))

  -- ---- States 4, 5 and 6.

  in_4 : (input : Input) (s : StepState) → (is_sabme input ≡ true → B) → P s
      → P (tei_assigned input s)
  unfolding tei_assigned
  in_4 Establish s b h = establishing _ (w.layer3s true _ (w.discards _ h))
  in_4 Release s b h = w.puts _ _ tt h
  in_4 (Heard (Sabme p) Command) s b h =
      w.states _ _
      (w.starts T203 _ (w.puts _ _ tt (w.zeroes _ (b refl) (w.clears _ (w.puts _ _ (refl, tt) h)))))
  in_4 (Heard (Disc p) Command) s b h = w.puts _ _ (refl, tt) h
  in_4 (Heard (Ua f) Answer) s b h = w.puts _ _ tt h
  in_4 input s b h = h

  ending : (s : StepState) → P s → P (end_establishment s)
  unfolding end_establishment
  ending s h =
      w.states _ _ (w.pendings false _ (w.puts _ _ (primitive_is_put s.end.release_pending) h))

  confirming : (s : StepState) → P s → P (confirm_or_indicate s)
  unfolding confirm_or_indicate
  confirming s h = either P s.end.layer3_initiated _ _ (λ _. w.puts _ _ tt h) (λ _. w.loses _ h)

  answered : (s : StepState) → (s.end.release_pending ≡ false → B) → P s → P (ua_final s)
  unfolding ua_final
  answered s b h = either P s.end.release_pending _ _
      (λ _. w.states _ _
      (w.starts T200 _ (w.puts _ _ (refl, tt) (w.rcs 0 _ (w.pendings false _ h)))))
      (λ stays. w.states _ _
      (w.starts T203 _ (w.stops T200 _ (w.zeroes _ (b stays) (confirming _ h)))))

  expiring_5 : (s : StepState) → E T200 s → P s → P (awaiting_establishment_t200 s)
  unfolding awaiting_establishment_t200
  expiring_5 s x h = either P (nat_lt s.end.rc s.end.parameters.n200) _ _
      (λ _. w.starts T200 _ (w.puts _ _ (refl, tt)
      (w.expires T200 _ (w.still_expires T200 _ x) (w.increments _ h))))
      (λ _. ending _ (w.puts _ _ tt (w.discards _ (w.expires T200 _ x h))))

  in_5 : (input : Input) (s : StepState) → ((message : List ℕ) → input ≡ Give message → M message)
      → ((is_final_ua input && not s.end.release_pending) ≡ true → B)
      → ((timer : Timer) → input ≡ Expiry timer → E timer s) → P s
      → P (awaiting_establishment input s)
  unfolding awaiting_establishment
  in_5 Establish s m b x h = w.layer3s true _ (w.discards _ h)
  in_5 Release s m b x h = w.pendings true _ (w.discards _ h)
  in_5 (Give message) s m b x h = w.queues message _ (m message refl) h
  in_5 (Heard (Sabme p) Command) s m b x h = w.puts _ _ (refl, tt) h
  in_5 (Heard (Disc p) Command) s m b x h = w.puts _ _ (refl, tt) h
  in_5 (Heard (Ua true) Answer) s m b x h =
      answered s (λ stays. b (both_then true s.end.release_pending refl stays)) h
  in_5 (Heard (Ua false) Answer) s m b x h = w.puts _ _ tt h
  in_5 (Heard (Dm true) Answer) s m b x h = ending _ (w.stops T200 _ (w.discards _ h))
  in_5 (Expiry T200) s m b x h = expiring_5 s (x T200 refl) h
  in_5 input s m b x h = h

  released : (s : StepState) → P s → P (confirm_release s)
  unfolding confirm_release
  released s h = w.states _ _ (w.puts _ _ tt (w.stops T200 _ h))

  expiring_6 : (s : StepState) → E T200 s → P s → P (awaiting_release_t200 s)
  unfolding awaiting_release_t200
  expiring_6 s x h = either P (nat_lt s.end.rc s.end.parameters.n200) _ _
      (λ _. w.starts T200 _ (w.puts _ _ (refl, tt)
      (w.expires T200 _ (w.still_expires T200 _ x) (w.increments _ h))))
      (λ _. w.states _ _ (w.puts _ _ tt (w.puts _ _ tt (w.expires T200 _ x h))))

  in_6 : (input : Input) (s : StepState) → ((timer : Timer) → input ≡ Expiry timer → E timer s)
      → P s → P (awaiting_release input s)
  unfolding awaiting_release
  in_6 (Heard (Sabme p) Command) s x h = w.puts _ _ (refl, tt) h
  in_6 (Heard (Disc p) Command) s x h = w.puts _ _ (refl, tt) h
  in_6 (Heard (Ua true) Answer) s x h = released s h
  in_6 (Heard (Dm true) Answer) s x h = released s h
  in_6 (Heard (Ua false) Answer) s x h = w.puts _ _ tt h
  in_6 (Expiry T200) s x h = expiring_6 s (x T200 refl) h
  in_6 input s x h = h

  -- ---- States 7 and 8.

  busy : (s : StepState) → P s → P (busy_on s)
  unfolding busy_on
  busy s h = either P s.end.window.own_busy _ _ (λ _. h) (λ _. w.owns true _ h)

  own_busy_off : (s : StepState) → P s → P (busy_off s)
  unfolding busy_off
  own_busy_off s h = either P s.end.window.own_busy _ _ (λ _. w.owns false _ h) (λ _. h)

  in_both : (input : Input) (s : StepState)
      → ((message : List ℕ) → input ≡ Give message → M message) → (is_sabme input ≡ true → B) → P s
      → P (in_7_and_8 input s)
  unfolding in_7_and_8
  in_both Establish s m b h = establishing _ (w.layer3s true _ (w.discards _ h))
  in_both Release s m b h =
      w.states _ _
      (w.starts T200 _ (w.stops T203 _ (w.puts _ _ (refl, tt) (w.rcs 0 _ (w.discards _ h)))))
  in_both (Give message) s m b h = w.queues message _ (m message refl) h
  in_both BusyOn s m b h = busy s h
  in_both BusyOff s m b h = own_busy_off s h
  in_both (Heard (Sabme p) Command) s m b h =
      w.states _ _ (w.zeroes _ (b refl) (w.starts T203 _
      (w.stops T200 _
      (w.loses _ (w.puts _ _ tt (w.clears _ (w.puts _ _ (refl, tt) h)))))))
  in_both (Heard (Disc p) Command) s m b h =
      w.states _ _
      (w.stops T203 _ (w.stops T200 _ (w.puts _ _ tt (w.puts _ _ (refl, tt) (w.discards _ h)))))
  in_both (Heard (Ua f) Answer) s m b h = w.puts _ _ tt h
  in_both (Heard (Dm false) Answer) s m b h = reestablishing _ (w.puts _ _ tt h)
  in_both (Heard (Frmr f) Answer) s m b h = reestablishing _ (w.puts _ _ tt h)
  in_both input s m b h = h

  by_valid : (nr : ℕ) (s x : StepState) → P s → (is_valid_nr r nr s.end.window ≡ true → Q x)
      → Q (if is_valid_nr r nr s.end.window then x else nr_error_recovery s)
  by_valid nr s x h one = either Q (is_valid_nr r nr s.end.window) _ _ one (λ _. recovering s h)

  advancing : (nr : ℕ) (s : StepState) → N nr → is_valid_nr r nr s.end.window ≡ true → P s
      → Q (acknowledge_with_timers r nr s)
  unfolding acknowledge_with_timers
  advancing nr s n valid h =
      either Q (acknowledges_all nr s.end.window) _ _
      (λ _. w.starts_then T203 _ (w.stops_then T200 _ (w.acknowledges nr s n valid h)))
      (λ _. either Q (nr == s.end.window.va) _ _ (λ _. w.follows s h)
      (λ _. w.starts_then T200 _ (w.acknowledges nr s n valid h)))

  pub i_frame_numbered : (nr : ℕ) (s : StepState) → N nr → P s → Q (i_frame_nr r nr s)
  unfolding i_frame_nr
  i_frame_numbered nr s n h =
      by_valid nr s _ h (λ valid. either Q s.end.window.peer_busy _ _
      (λ _. w.acknowledges nr s n valid h) (λ _. advancing nr s n valid h))

  rr_numbered : (nr : ℕ) (s : StepState) → N nr → P s → Q (rr_nr r nr s)
  unfolding rr_nr
  rr_numbered nr s n h = by_valid nr s _ h (λ valid. advancing nr s n valid h)

  rej_numbered : (nr : ℕ) (s : StepState) → N nr → P s → Q (rej_nr r nr s)
  unfolding rej_nr
  rej_numbered nr s n h =
      by_valid nr s _ h (λ valid. w.starts_then T203 _
      (w.stops_then T200 _ (w.retransmits nr s n valid (w.acknowledges nr s n valid h))))

  rnr_numbered : (nr : ℕ) (s : StepState) → N nr → P s → Q (rnr_nr r nr s)
  unfolding rnr_nr
  rnr_numbered nr s n h =
      by_valid nr s _ h
      (λ valid. w.starts_then T200 _ (w.stops_then T203 _ (w.acknowledges nr s n valid h)))

  pub i_frame_in_recovery : (nr : ℕ) (s : StepState) → N nr → P s
      → Q (i_frame_nr_in_recovery r nr s)
  unfolding i_frame_nr_in_recovery
  i_frame_in_recovery nr s n h = by_valid nr s _ h (λ valid. w.acknowledges nr s n valid h)

  rr_in_recovery : (final : Bool) (nr : ℕ) (s : StepState) → N nr → P s
      → Q (rr_nr_in_recovery r final nr s)
  unfolding rr_nr_in_recovery
  rr_in_recovery final nr s n h = by_valid nr s _ h (λ valid. either Q final _ _
      (λ _. w.states_then _ _ (w.starts_then T203 _
      (w.stops_then T200 _
      (w.retransmits nr s n valid (w.acknowledges nr s n valid h)))))
      (λ _. w.acknowledges nr s n valid h))

  rnr_in_recovery : (final : Bool) (nr : ℕ) (s : StepState) → N nr → P s
      → Q (rnr_nr_in_recovery r final nr s)
  unfolding rnr_nr_in_recovery
  rnr_in_recovery final nr s n h = by_valid nr s _ h (λ valid. either Q final _ _
      (λ _. w.states_then _ _
      (w.starts_then T200 _ (w.retransmits nr s n valid (w.acknowledges nr s n valid h))))
      (λ _. w.acknowledges nr s n valid h))

  polled : (role : Role) (pf : Bool) (s : StepState) → P s → P (poll_or_final role pf s)
  unfolding poll_or_final
  polled Command true s h = w.responds s h
  polled Answer true s h = w.puts _ s tt h
  polled Command false s h = h
  polled Answer false s h = h

  expiring_7 : (s : StepState) → E T200 s → G → P s → Q (established_t200 r s)
  unfolding established_t200
  expiring_7 s x g h = either Q (sends_last s.end.parameters.recovery s.end.window) _ _
      (λ _. w.states_then _ _ (w.rcs_then 1 _ (w.repeats _ g (w.expires T200 _ x h))))
      (λ _. w.follows _ (w.states _ _ (w.rcs 1 _ (w.enquires _ (w.expires T200 _ x h)))))

  in_7 : (input : Input) (s : StepState) → ((message : List ℕ) → input ≡ Give message → M message)
      → (is_sabme input ≡ true → B)
      → ((ns nr : ℕ) (p : Bool) → input ≡ Heard (I ns nr p) Command → T)
      → (input ≡ Expiry T200 → G) → ((nr : ℕ) → received_number input ≡ Some nr → N nr)
      → ((timer : Timer) → input ≡ Expiry timer → E timer s) → P s
      → Q (multiple_frame_established r input s)
  unfolding multiple_frame_established
  in_7 (Heard (I ns nr p) Command) s m b t g n x h =
      i_frame_numbered nr _ (n nr refl) (w.takes ns p s (t ns nr p refl) h)
  in_7 (Heard (Dm true) Answer) s m b t g n x h = w.follows _ (w.puts _ _ tt h)
  in_7 (Heard (Rr nr pf) role) s m b t g n x h =
      rr_numbered nr _ (n nr refl) (polled role pf _ (w.peers false s h))
  in_7 (Heard (Rej nr pf) role) s m b t g n x h =
      rej_numbered nr _ (n nr refl) (polled role pf _ (w.peers false s h))
  in_7 (Heard (Rnr nr pf) role) s m b t g n x h =
      rnr_numbered nr _ (n nr refl) (polled role pf _ (w.peers true s h))
  in_7 (Expiry T203) s m b t g n x h =
      w.follows _ (w.states _ _ (w.enquires _ (w.rcs 0 _ (w.expires T203 _ (x T203 refl) h))))
  in_7 (Expiry T200) s m b t g n x h = expiring_7 s (x T200 refl) (g refl) h
  in_7 input s m b t g n x h = w.follows _ (in_both input s m b h)

  polled_in_recovery : (role : Role) (pf : Bool) (s : StepState) → P s → P (poll role pf s)
  unfolding poll
  polled_in_recovery Command true s h = w.responds s h
  polled_in_recovery Answer true s h = h
  polled_in_recovery Command false s h = h
  polled_in_recovery Answer false s h = h

  expiring_8 : (s : StepState) → E T200 s → P s → P (timer_recovery_t200 s)
  unfolding timer_recovery_t200
  expiring_8 s x h = either P (nat_lt s.end.rc s.end.parameters.n200) _ _
      (λ _. w.enquires _ (w.expires T200 _ (w.still_expires T200 _ x) (w.increments _ h)))
      (λ _. reestablishing _ (w.puts _ _ tt (w.expires T200 _ x h)))

  in_8 : (input : Input) (s : StepState) → ((message : List ℕ) → input ≡ Give message → M message)
      → (is_sabme input ≡ true → B)
      → ((ns nr : ℕ) (p : Bool) → input ≡ Heard (I ns nr p) Command → T)
      → ((nr : ℕ) → received_number input ≡ Some nr → N nr)
      → ((timer : Timer) → input ≡ Expiry timer → E timer s) → P s
      → Q (timer_recovery r input s)
  unfolding timer_recovery
  in_8 (Heard (I ns nr p) Command) s m b t n x h =
      i_frame_in_recovery nr _ (n nr refl) (w.takes ns p s (t ns nr p refl) h)
  in_8 (Heard (Dm true) Answer) s m b t n x h = w.follows _ (reestablishing _ (w.puts _ _ tt h))
  in_8 (Heard (Rr nr pf) role) s m b t n x h =
      rr_in_recovery (is_final role pf) nr _ (n nr refl)
      (polled_in_recovery role pf _ (w.peers false s h))
  in_8 (Heard (Rej nr pf) role) s m b t n x h =
      rr_in_recovery (is_final role pf) nr _ (n nr refl)
      (polled_in_recovery role pf _ (w.peers false s h))
  in_8 (Heard (Rnr nr pf) role) s m b t n x h =
      rnr_in_recovery (is_final role pf) nr _ (n nr refl)
      (polled_in_recovery role pf _ (w.peers true s h))
  in_8 (Expiry T200) s m b t n x h = w.follows _ (expiring_8 s (x T200 refl) h)
  in_8 input s m b t n x h = w.follows _ (in_both input s m b h)

  -- ---- All rows.

  in_state : (state : State) (input : Input) (s : StepState)
      → ((message : List ℕ) → input ≡ Give message → M message)
      → (begins state s.end.release_pending input ≡ true → B)
      → (is_7_or_8 state ≡ true → (ns nr : ℕ) (p : Bool) → input ≡ Heard (I ns nr p) Command → T)
      → (state ≡ MultipleFrameEstablished → input ≡ Expiry T200 → G)
      → ((nr : ℕ) → received_number input ≡ Some nr → N nr)
      → ((timer : Timer) → input ≡ Expiry timer → E timer s) → P s
      → Q (by_state r state input s)
  unfolding by_state
  in_state TeiAssigned input s m b t g n x h = w.follows _ (in_4 input s b h)
  in_state AwaitingEstablishment input s m b t g n x h = w.follows _ (in_5 input s m b x h)
  in_state AwaitingRelease input s m b t g n x h = w.follows _ (in_6 input s x h)
  in_state MultipleFrameEstablished input s m b t g n x h = in_7 input s m b (t refl) (g refl) n x h
  in_state TimerRecovery input s m b t g n x h = in_8 input s m b (t refl) n x h

  faulty : (state : State) (kind : FaultKind) (s : StepState) → P s → P (report_fault state kind s)
  unfolding report_fault
  faulty TeiAssigned kind s h = w.puts _ s tt h
  faulty AwaitingEstablishment kind s h = w.puts _ s tt h
  faulty AwaitingRelease kind s h = w.puts _ s tt h
  faulty MultipleFrameEstablished kind s h = reestablishing _ (w.puts _ s tt h)
  faulty TimerRecovery kind s h = reestablishing _ (w.puts _ s tt h)

  pub row_preserves : (state : State) (input : Input) (s : StepState)
      → ((message : List ℕ) → input ≡ Give message → M message)
      → (begins state s.end.release_pending input ≡ true → B)
      → (is_7_or_8 state ≡ true → (ns nr : ℕ) (p : Bool) → input ≡ Heard (I ns nr p) Command → T)
      → (receives_unit input ≡ true → U)
      → (state ≡ MultipleFrameEstablished → input ≡ Expiry T200 → G)
      → ((nr : ℕ) → received_number input ≡ Some nr → N nr)
      → ((timer : Timer) → input ≡ Expiry timer → E timer s) → P s → Q (row r state input s)
  unfolding row
  row_preserves state (Heard control role) s m b t u g n x h =
      either Q (is_unit_data control role) _ _ (λ unit. w.follows _ (w.unit_ups s (u unit) h))
      (λ _. in_state state (Heard control role) s m b t g n x h)
  row_preserves state (UnitData len) s m b t u g n x h = w.follows _ (w.puts _ s tt h)
  row_preserves state (Faulty kind) s m b t u g n x h = w.follows _ (faulty state kind s h)
  row_preserves state (Expiry timer) s m b t u g n x h =
      either Q (runs timer s.end) _ _ (λ _. in_state state (Expiry timer) s m b t g n x h)
      (λ _. w.follows s h)
  row_preserves state input s m b t u g n x h = in_state state input s m b t g n x h

  -- ---- The end of a step, and a whole step.

  all_sent : (n : ℕ) (s : StepState) → G → Q s → Q (send_all r n s)
  unfolding send_all
  all_sent zero s g h = h
  all_sent (suc n) s g h =
      either Q (may_send_next r s) _ _ (λ go. all_sent n _ g (w.ensures_t200 _ (w.sends s g go h)))
      (λ _. h)

  pub close_preserves : (s : StepState) → G → Q s → Q (end_step r s)
  unfolding end_step acknowledge_pending
  close_preserves s g h =
      let sent = all_sent (unsent s.end) s g h in
      either Q (is_7_or_8 (send_all r (unsent s.end) s).end.state
      && (send_all r (unsent s.end) s).end.window.ack_pending) _ _ (λ _. w.reporting _ sent)
      (λ _. sent)
