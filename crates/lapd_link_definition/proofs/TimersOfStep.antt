-- After each step T200 and T203 run as its outputs say, and as the state requires: row by row.
use Rattle.std.proofs.Common.{◌≡◌, ℕ, zero, suc, ◌==◌, ◌&&◌, not, nat_lt, if◌then◌else◌, Bool, true, false, List, ◌∷◌, ◌++◌, Some, refl, sym, ap, ◌∙◌, arith, []}
use Rattle.std.proofs.lemmas.Bool.{eqb-true, eqb-false}
use Rattle.lapd_timers.specs.declared.timer.Timer.TheVariants.{T200, T203}
use Rattle.lapd_frame.specs.declared.Role.{Role}
use Rattle.lapd_frame.specs.declared.Role.TheVariants.{Command, Answer}
use Rattle.lapd_frame.specs.declared.Control.TheVariants.{I, Rr, Rnr, Rej, Sabme, Dm, Disc, Ua, Frmr}
use Rattle.lapd_frame.specs.declared.fault_kind.FaultKind.{FaultKind}
use Rattle.lapd_mod128.specs.Counting.{Reading, IsNumber}
use Rattle.lapd_mod128.proofs.Steps.{only_itself_within}
use Rattle.lapd_supervision.specs.StateVariables.{is_valid_nr, is_accepted, i_frame_response, acknowledges_all, acknowledged_count, without_exceptions, with_zero_counters, with_peer_busy, with_own_busy, without_ack_pending, after_i_frame, with_va, with_vs, after_sending}
use Rattle.lapd_link_definition.specs.declared.state.State.{State}
use Rattle.lapd_link_definition.specs.declared.state.State.TheVariants.{TeiAssigned, AwaitingEstablishment, AwaitingRelease, MultipleFrameEstablished, TimerRecovery}
use Rattle.lapd_link_definition.specs.declared.out.Out.{Out}
use Rattle.lapd_link_definition.specs.declared.out.Out.TheVariants.{Up, UnitUp, Acknowledged, Dropped, Start, Stop}
use Rattle.lapd_link_definition.specs.AwaitingEstablishment.{end_establishment, confirm_or_indicate, ua_final, awaiting_establishment_t200, awaiting_establishment}
use Rattle.lapd_link_definition.specs.AwaitingRelease.{confirm_release, awaiting_release_t200, awaiting_release}
use Rattle.lapd_link_definition.specs.EndOfStep.{is_established, is_7_or_8, may_send_next, send_all, acknowledge_pending, end_step}
use Rattle.lapd_link_definition.specs.End.{StepState, ◌▷◌, unsent, waiting}
use Rattle.lapd_link_definition.specs.Established.{busy_on, busy_off, in_7_and_8, poll_or_final, acknowledge_with_timers, i_frame_nr, rr_nr, rej_nr, rnr_nr, sends_last, established_t200, multiple_frame_established}
use Rattle.lapd_link_definition.specs.Input.{Input, Heard, Faulty, Expiry, Establish, Release, BusyOn, BusyOff, UnitData, Give}
use Rattle.lapd_link_definition.specs.Procedures.{out_where, counted, response_of, put, state_to, rc_to, increment_rc, layer3_initiated_to, release_pending_to, start, stop, expired, clear_exception_conditions, zero_state_variables, set_peer_busy, set_own_busy, enquiry_response, transmit_enquiry, transmit_rr, queue_up, discard_i_queue, acknowledge, invoke_retransmission, discard_unacknowledged, i_frame_ns, transmit_i_frame, retransmit_last_i_frame, ensure_t200, establish_data_link, reestablish_data_link, nr_error_recovery}
use Rattle.lapd_link_definition.specs.Table.{by_state, report_fault, is_unit_data, row}
use Rattle.lapd_link_definition.specs.TeiAssigned.{tei_assigned}
use Rattle.lapd_link_definition.specs.TimerRecovery.{poll, is_final, i_frame_nr_in_recovery, rr_nr_in_recovery, rnr_nr_in_recovery, timer_recovery_t200, timer_recovery}
use Rattle.lapd_link_definition.proofs.EachAction.{IsPut, primitive_is_put, received_number, either}
use Rattle.lapd_link_definition.proofs.Sending.{both_true}
use Rattle.lapd_link_definition.proofs.TimersOfOuts.{then_follow, AreNoTimers, alone, put_is_no_timer, where_is_no_timer, response_is_no_timer, lost_are_no_timers, started_200, started_203, stopped_200, stopped_203, stopped_unless, started_unless}
use Rattle.lapd_link_definition.proofs.TimerFacts.{Timed, zero_is_number, Knows, Expires200, Expires203, Walked, Allowed, are_timers, as_known, IsOther, some_left, sent_timers}

module _ (r : Reading) (b c : Bool) (Numbers : Type 0) where
  abbrev P : State → Bool → Bool → Bool → StepState → Type 0
  P q t u level s = Knows r b c Numbers q t u level s

  abbrev After : StepState → Type 0
  After s = Walked b c Numbers s

  reporting : {q : State} {t u level : Bool} {state : State} {t200 t203 : Bool} {vs va : ℕ}
      {outs : List Out} (more : List Out) → AreNoTimers more
      → Timed r b c Numbers q t u level state t200 t203 vs va outs
      → Timed r b c Numbers q t u level state t200 t203 vs va (outs ++ more)
  reporting {t200 = t200} {t203 = t203} more none h = record {
    in_state = h.in_state;
    t200_is = h.t200_is;
    t203_is = h.t203_is;
    number = h.number;
    same = h.same;
    follow = then_follow more (alone more t200 t203 none) h.follow;
  }

  puts : {q : State} {t u level : Bool} (out : Out) (s : StepState) → IsPut out → P q t u level s
      → P q t u level (put out s)
  unfolding put
  puts out s is k =
      let h = k.known in record { known = reporting (out ∷ []) (put_is_no_timer out is) h }

  unit_ups : {q : State} {t u level : Bool} (s : StepState) → P q t u level s
      → P q t u level (put UnitUp s)
  unfolding put
  unit_ups s k =
      let h = k.known in record { known = reporting (UnitUp ∷ []) (λ timer running. refl) h }

  states : {q : State} {t u level : Bool} (state : State) (s : StepState) → P q t u level s
      → P state t u level (state_to state s)
  unfolding state_to
  states state s k =
      let h = k.known in
      record {
        known = record {
          in_state = refl;
          t200_is = h.t200_is;
          t203_is = h.t203_is;
          number = h.number;
          same = h.same;
          follow = h.follow;
        };
      }

  rcs : {q : State} {t u level : Bool} (n : ℕ) (s : StepState) → P q t u level s
      → P q t u level (rc_to n s)
  unfolding rc_to
  rcs n s k = record { known = k.known }

  layer3s : {q : State} {t u level : Bool} (on : Bool) (s : StepState) → P q t u level s
      → P q t u level (layer3_initiated_to on s)
  unfolding layer3_initiated_to
  layer3s on s k = record { known = k.known }

  pendings : {q : State} {t u level : Bool} (on : Bool) (s : StepState) → P q t u level s
      → P q t u level (release_pending_to on s)
  unfolding release_pending_to
  pendings on s k = record { known = k.known }

  clears : {q : State} {t u level : Bool} (s : StepState) → P q t u level s
      → P q t u level (clear_exception_conditions s)
  unfolding clear_exception_conditions without_exceptions
  clears s k = record { known = k.known }

  zeroes : {q : State} {t u level : Bool} (s : StepState) → P q t u level s
      → P q t u true (zero_state_variables s)
  unfolding zero_state_variables with_zero_counters
  zeroes s k =
      let h = k.known in
      record {
        known = record {
          in_state = h.in_state;
          t200_is = h.t200_is;
          t203_is = h.t203_is;
          number = λ n. zero_is_number r;
          same = λ n is. refl;
          follow = h.follow;
        };
      }

  peers : {q : State} {t u level : Bool} (on : Bool) (s : StepState) → P q t u level s
      → P q t u level (set_peer_busy on s)
  unfolding set_peer_busy with_peer_busy
  peers on s k = record { known = k.known }

  owns : {q : State} {t u level : Bool} (on : Bool) (s : StepState) → P q t u level s
      → P q t u level (set_own_busy on s)
  unfolding set_own_busy with_own_busy
  owns on s k = let h = k.known in record { known = reporting _ (λ timer running. refl) h }

  responds : {q : State} {t u level : Bool} (s : StepState) → P q t u level s
      → P q t u level (enquiry_response s)
  unfolding enquiry_response without_ack_pending
  responds s k = let h = k.known in record { known = reporting _ (λ timer running. refl) h }

  queues : {q : State} {t u level : Bool} (message : List ℕ) (s : StepState) → P q t u level s
      → P q t u level (queue_up message s)
  unfolding queue_up
  queues message s k = record { known = k.known }

  discards : {q : State} {t u level : Bool} (s : StepState) → P q t u level s
      → P q t u level (discard_i_queue s)
  unfolding discard_i_queue
  discards s k =
      let h = k.known in
      record {
        known =
            reporting _ (where_is_no_timer (nat_lt 0 (waiting s.end)) (Dropped (waiting s.end))
            (λ timer running. refl)) h;
      }

  loses : {q : State} {t u level : Bool} (s : StepState) → P q t u level s
      → P q t u level (discard_unacknowledged s)
  unfolding discard_unacknowledged
  loses s k =
      let h = k.known in
      record {
        known =
            reporting _ (lost_are_no_timers (s.end.window.vs == s.end.window.va) (waiting s.end)) h;
      }

  takes : {q : State} {t u level : Bool} (ns : ℕ) (p : Bool) (s : StepState) → P q t u level s
      → P q t u level (i_frame_ns r ns p s)
  unfolding i_frame_ns after_i_frame
  takes ns p s k = let h = k.known in record {
    known =
        reporting (response_of (i_frame_response r ns p s.end.window))
        (response_is_no_timer (i_frame_response r ns p s.end.window))
        (reporting (out_where (is_accepted ns s.end.window) Up)
        (where_is_no_timer (is_accepted ns s.end.window) Up (λ timer running. refl)) h);
  }

  -- ---- Timers.

  starts_200 : {q : State} {t u level : Bool} (s : StepState) → P q t u level s
      → P q true u level (start T200 s)
  unfolding start
  starts_200 s k =
      let h = k.known in
      record {
        known = record {
          in_state = h.in_state;
          t200_is = refl;
          t203_is = h.t203_is;
          number = h.number;
          same = h.same;
          follow = then_follow _ (started_200 s.end.t200 s.end.t203) h.follow;
        };
      }

  starts_203 : {q : State} {t u level : Bool} (s : StepState) → P q t u level s
      → P q t true level (start T203 s)
  unfolding start
  starts_203 s k =
      let h = k.known in
      record {
        known = record {
          in_state = h.in_state;
          t200_is = h.t200_is;
          t203_is = refl;
          number = h.number;
          same = h.same;
          follow = then_follow _ (started_203 s.end.t200 s.end.t203) h.follow;
        };
      }

  stops_200 : {q : State} {t u level : Bool} (s : StepState) → P q t u level s
      → P q false u level (stop T200 s)
  unfolding stop
  stops_200 s k =
      let h = k.known in
      record {
        known = record {
          in_state = h.in_state;
          t200_is = refl;
          t203_is = h.t203_is;
          number = h.number;
          same = h.same;
          follow = then_follow _ (stopped_200 s.end.t200 s.end.t203) h.follow;
        };
      }

  stops_203 : {q : State} {t u level : Bool} (s : StepState) → P q t u level s
      → P q t false level (stop T203 s)
  unfolding stop
  stops_203 s k =
      let h = k.known in
      record {
        known = record {
          in_state = h.in_state;
          t200_is = h.t200_is;
          t203_is = refl;
          number = h.number;
          same = h.same;
          follow = then_follow _ (stopped_203 s.end.t200 s.end.t203) h.follow;
        };
      }

  enquires : {q : State} {t u level : Bool} (s : StepState) → P q t u level s
      → P q true u level (transmit_enquiry s)
  unfolding transmit_enquiry without_ack_pending
  enquires s k = let h = k.known in record {
    known = record {
      in_state = h.in_state;
      t200_is = refl;
      t203_is = h.t203_is;
      number = h.number;
      same = h.same;
      follow =
          then_follow _ (record {
            t200_follows = refl;
            t203_follows = refl;
            t201_stays = λ on. refl;
            t202_stays = λ on. refl;
          }) h.follow;
    };
  }

  repeats : {q : State} {t u level : Bool} (s : StepState) → P q t u level s
      → P q true u level (retransmit_last_i_frame r s)
  unfolding retransmit_last_i_frame without_ack_pending
  repeats s k = let h = k.known in record {
    known = record {
      in_state = h.in_state;
      t200_is = refl;
      t203_is = h.t203_is;
      number = h.number;
      same = h.same;
      follow =
          then_follow _ (record {
            t200_follows = refl;
            t203_follows = refl;
            t201_stays = λ on. refl;
            t202_stays = λ on. refl;
          }) h.follow;
    };
  }

  -- ---- An N(R).

  acknowledged_is_no_timer : (n : ℕ) → AreNoTimers (counted n Acknowledged)
  acknowledged_is_no_timer n =
      where_is_no_timer (nat_lt 0 n) (Acknowledged n) (λ timer running. refl)

  -- if V(S) = V(A), the only valid N(R) is V(A)
  only_one : {q : State} {t u level : Bool} (nr : ℕ) (s : StepState) → (Numbers → IsNumber r nr)
      → is_valid_nr r nr s.end.window ≡ true → P q t u level s → Numbers → level ≡ true
      → s.end.window.va ≡ nr
  unfolding is_valid_nr
  only_one nr s small valid k n is =
      let h = k.known in
      let to_vs = h.same n is in
      only_itself_within r s.end.window.va nr (h.number n) (small n) (rw to_vs at valid)

  acknowledges : {q : State} {t u level : Bool} (nr : ℕ) (s : StepState) → (Numbers → IsNumber r nr)
      → is_valid_nr r nr s.end.window ≡ true → P q t u level s → P q t u level (acknowledge r nr s)
  unfolding acknowledge with_va
  acknowledges nr s small valid k = let h = k.known in record {
    known = record {
      in_state = h.in_state;
      t200_is = h.t200_is;
      t203_is = h.t203_is;
      number = small;
      same = λ n is. h.same n is ∙ only_one nr s small valid k n is;
      follow =
          then_follow _ (alone _ s.end.t200 s.end.t203
          (acknowledged_is_no_timer (acknowledged_count r nr s.end.window))) h.follow;
    };
  }

  acknowledges_them : {q : State} {t u level : Bool} (nr : ℕ) (s : StepState)
      → (Numbers → IsNumber r nr) → acknowledges_all nr s.end.window ≡ true → P q t u level s
      → P q t u true (acknowledge r nr s)
  unfolding acknowledge with_va acknowledges_all
  acknowledges_them nr s small all k = let h = k.known in record {
    known = record {
      in_state = h.in_state;
      t200_is = h.t200_is;
      t203_is = h.t203_is;
      number = small;
      same = λ n is. sym (eqb-true nr s.end.window.vs all);
      follow =
          then_follow _ (alone _ s.end.t200 s.end.t203
          (acknowledged_is_no_timer (acknowledged_count r nr s.end.window))) h.follow;
    };
  }

  goes_back : {q : State} {t u level : Bool} (nr : ℕ) (s : StepState) → (Numbers → IsNumber r nr)
      → P q t u level s → P q t u true (s ▷ acknowledge r nr ▷ invoke_retransmission nr)
  unfolding acknowledge invoke_retransmission with_va with_vs
  goes_back nr s small k = let h = k.known in record {
    known = record {
      in_state = h.in_state;
      t200_is = h.t200_is;
      t203_is = h.t203_is;
      number = small;
      same = λ n is. refl;
      follow =
          then_follow _ (alone _ s.end.t200 s.end.t203
          (acknowledged_is_no_timer (acknowledged_count r nr s.end.window))) h.follow;
    };
  }

  -- ---- An expiry.

  increments : {q : State} {u level : Bool} (s : StepState) → Expires200 r b c Numbers q u level s
      → Expires200 r b c Numbers q u level (increment_rc s)
  unfolding increment_rc
  increments s k = record { known = k.known }

  expires_200 : {q : State} {u level : Bool} (s : StepState) → Expires200 r b c Numbers q u level s
      → P q false u level (expired T200 s)
  unfolding expired
  expires_200 s k = record { known = k.known }

  expires_203 : {q : State} {t level : Bool} (s : StepState) → Expires203 r b c Numbers q t level s
      → P q t false level (expired T203 s)
  unfolding expired
  expires_203 s k = record { known = k.known }

  -- ---- Rows.

  ends : {q : State} {t u level : Bool} (s : StepState) → P q t u level s
      → (Numbers → Allowed q t u level) → After s
  ends {q = q} {t = t} {u = u} {level = level} s k a = let h = k.known in record {
    timers =
        λ n. as_known (s.end.window.vs ≡ s.end.window.va) q s.end.state t u s.end.t200 s.end.t203
        h.in_state h.t200_is h.t203_is (are_timers q t u (h.same n) (a n));
    follow = h.follow;
  }

  establishing : {q : State} {t u level : Bool} (s : StepState) → P q t u level s
      → P AwaitingEstablishment true false level (establish_data_link s)
  unfolding establish_data_link
  establishing s h =
      states _ _
      (starts_200 _ (stops_203 _ (puts _ _ (refl, tt) (rcs 0 _ (pendings false _ (clears _ h))))))

  again : {q : State} {t u level : Bool} (s : StepState) → P q t u level s
      → After (reestablish_data_link s)
  unfolding reestablish_data_link
  again s h = ends _ (establishing _ (layer3s false _ h)) (λ n. (refl, refl))

  recovering : {q : State} {t u level : Bool} (s : StepState) → P q t u level s
      → After (nr_error_recovery s)
  unfolding nr_error_recovery
  recovering s h = again _ (puts _ _ tt h)

  -- ---- States 4, 5 and 6.

  in_4 : {t u level : Bool} (input : Input) (s : StepState) → Allowed TeiAssigned t u level
      → P TeiAssigned t u level s → After (tei_assigned input s)
  unfolding tei_assigned
  in_4 Establish s a h = ends _ (establishing _ (layer3s true _ (discards _ h))) (λ n. (refl, refl))
  in_4 Release s a h = ends _ (puts _ _ tt h) (λ n. a)
  in_4 (Heard (Sabme p) Command) s a h =
      ends _ (states _ _ (starts_203 _ (puts _ _ tt (zeroes _ (clears _ (puts _ _ (refl, tt) h))))))
      (λ n. (ap not (sym a.0), λ off. refl))
  in_4 (Heard (Disc p) Command) s a h = ends _ (puts _ _ (refl, tt) h) (λ n. a)
  in_4 (Heard (Ua f) Answer) s a h = ends _ (puts _ _ tt h) (λ n. a)
  in_4 input s a h = ends _ h (λ n. a)

  ending : {q : State} {t u level : Bool} (s : StepState) → P q t u level s
      → P TeiAssigned t u level (end_establishment s)
  unfolding end_establishment
  ending s h = states _ _ (pendings false _ (puts _ _ (primitive_is_put s.end.release_pending) h))

  confirming : {q : State} {t u level : Bool} (s : StepState) → P q t u level s
      → P q t u level (confirm_or_indicate s)
  unfolding confirm_or_indicate
  confirming {q = q} {t = t} {u = u} {level = level} s h =
      either (P q t u level) s.end.layer3_initiated _ _ (λ on. puts _ _ tt h) (λ off. loses _ h)

  answered : {t u level : Bool} (s : StepState) → Allowed AwaitingEstablishment t u level
      → P AwaitingEstablishment t u level s → After (ua_final s)
  unfolding ua_final
  answered s a h = either After s.end.release_pending _ _
      (λ on. ends _ (states _ _ (starts_200 _ (puts _ _ (refl, tt) (rcs 0 _ (pendings false _ h)))))
      (λ n. (refl, a.1)))
      (λ off. ends _ (states _ _ (starts_203 _ (stops_200 _ (zeroes _ (confirming _ h)))))
      (λ n. (refl, λ still. refl)))

  in_5 : {t u level : Bool} (input : Input) (s : StepState) → IsOther input
      → Allowed AwaitingEstablishment t u level → P AwaitingEstablishment t u level s
      → After (awaiting_establishment input s)
  unfolding awaiting_establishment
  in_5 Establish s o a h = ends _ (layer3s true _ (discards _ h)) (λ n. a)
  in_5 Release s o a h = ends _ (pendings true _ (discards _ h)) (λ n. a)
  in_5 (Give message) s o a h = ends _ (queues message _ h) (λ n. a)
  in_5 (Heard (Sabme p) Command) s o a h = ends _ (puts _ _ (refl, tt) h) (λ n. a)
  in_5 (Heard (Disc p) Command) s o a h = ends _ (puts _ _ (refl, tt) h) (λ n. a)
  in_5 (Heard (Ua true) Answer) s o a h = answered s a h
  in_5 (Heard (Ua false) Answer) s o a h = ends _ (puts _ _ tt h) (λ n. a)
  in_5 (Heard (Dm true) Answer) s o a h =
      ends _ (ending _ (stops_200 _ (discards _ h))) (λ n. (refl, a.1))
  in_5 (Expiry T200) s o a h = absurd o
  in_5 input s o a h = ends _ h (λ n. a)

  released : {t u level : Bool} (s : StepState) → Allowed AwaitingRelease t u level
      → P AwaitingRelease t u level s → After (confirm_release s)
  unfolding confirm_release
  released s a h = ends _ (states _ _ (puts _ _ tt (stops_200 _ h))) (λ n. (refl, a.1))

  in_6 : {t u level : Bool} (input : Input) (s : StepState) → IsOther input
      → Allowed AwaitingRelease t u level → P AwaitingRelease t u level s
      → After (awaiting_release input s)
  unfolding awaiting_release
  in_6 (Heard (Sabme p) Command) s o a h = ends _ (puts _ _ (refl, tt) h) (λ n. a)
  in_6 (Heard (Disc p) Command) s o a h = ends _ (puts _ _ (refl, tt) h) (λ n. a)
  in_6 (Heard (Ua true) Answer) s o a h = released s a h
  in_6 (Heard (Dm true) Answer) s o a h = released s a h
  in_6 (Heard (Ua false) Answer) s o a h = ends _ (puts _ _ tt h) (λ n. a)
  in_6 (Expiry T200) s o a h = absurd o
  in_6 input s o a h = ends _ h (λ n. a)

  -- ---- States 7 and 8.

  busy : {q : State} {t u level : Bool} (s : StepState) → P q t u level s
      → P q t u level (busy_on s)
  unfolding busy_on
  busy {q = q} {t = t} {u = u} {level = level} s h =
      either (P q t u level) s.end.window.own_busy _ _ (λ on. h) (λ off. owns true _ h)

  own_busy_off : {q : State} {t u level : Bool} (s : StepState) → P q t u level s
      → P q t u level (busy_off s)
  unfolding busy_off
  own_busy_off {q = q} {t = t} {u = u} {level = level} s h =
      either (P q t u level) s.end.window.own_busy _ _ (λ on. owns false _ h) (λ off. h)

  in_both : {q : State} {t u level : Bool} (input : Input) (s : StepState) → Allowed q t u level
      → P q t u level s → After (in_7_and_8 input s)
  unfolding in_7_and_8
  in_both Establish s a h =
      ends _ (establishing _ (layer3s true _ (discards _ h))) (λ n. (refl, refl))
  in_both Release s a h =
      ends _
      (states _ _ (starts_200 _ (stops_203 _ (puts _ _ (refl, tt) (rcs 0 _ (discards _ h))))))
      (λ n. (refl, refl))
  in_both (Give message) s a h = ends _ (queues message _ h) (λ n. a)
  in_both BusyOn s a h = ends _ (busy s h) (λ n. a)
  in_both BusyOff s a h = ends _ (own_busy_off s h) (λ n. a)
  in_both (Heard (Sabme p) Command) s a h =
      ends _ (states _ _ (zeroes _ (starts_203 _
      (stops_200 _ (loses _ (puts _ _ tt (clears _ (puts _ _ (refl, tt) h))))))))
      (λ n. (refl, λ off. refl))
  in_both (Heard (Disc p) Command) s a h =
      ends _
      (states _ _ (stops_203 _ (stops_200 _ (puts _ _ tt (puts _ _ (refl, tt) (discards _ h))))))
      (λ n. (refl, refl))
  in_both (Heard (Ua f) Answer) s a h = ends _ (puts _ _ tt h) (λ n. a)
  in_both (Heard (Dm false) Answer) s a h = again _ (puts _ _ tt h)
  in_both (Heard (Frmr f) Answer) s a h = again _ (puts _ _ tt h)
  in_both input s a h = ends _ h (λ n. a)

  polled : {q : State} {t u level : Bool} (role : Role) (pf : Bool) (s : StepState)
      → P q t u level s → P q t u level (poll_or_final role pf s)
  unfolding poll_or_final
  polled Command true s h = responds s h
  polled Answer true s h = puts _ s tt h
  polled Command false s h = h
  polled Answer false s h = h

  polled_in_recovery : {q : State} {t u level : Bool} (role : Role) (pf : Bool) (s : StepState)
      → P q t u level s → P q t u level (poll role pf s)
  unfolding poll
  polled_in_recovery Command true s h = responds s h
  polled_in_recovery Answer true s h = h
  polled_in_recovery Command false s h = h
  polled_in_recovery Answer false s h = h

  by_valid : {q : State} {t u level : Bool} (nr : ℕ) (s x : StepState) → P q t u level s
      → (is_valid_nr r nr s.end.window ≡ true → After x)
      → After (if is_valid_nr r nr s.end.window then x else nr_error_recovery s)
  by_valid nr s x h one =
      either After (is_valid_nr r nr s.end.window) _ _ one (λ off. recovering s h)

  -- T200 is started if some messages are acknowledged and some are left
  starting_again : {t u level : Bool} (nr : ℕ) (s : StepState) → (Numbers → IsNumber r nr)
      → is_valid_nr r nr s.end.window ≡ true → (nr == s.end.window.va) ≡ false
      → Allowed MultipleFrameEstablished t u level → P MultipleFrameEstablished t u level s
      → Numbers → Allowed MultipleFrameEstablished true u level
  starting_again {t = t} {u = u} {level = level} nr s small valid unlike a h n =
      some_left t u level a
      (λ is. eqb-false nr s.end.window.va unlike (sym (only_one nr s small valid h n is)))

  advancing : {t u level : Bool} (nr : ℕ) (s : StepState) → (Numbers → IsNumber r nr)
      → is_valid_nr r nr s.end.window ≡ true → Allowed MultipleFrameEstablished t u level
      → P MultipleFrameEstablished t u level s → After (acknowledge_with_timers r nr s)
  unfolding acknowledge_with_timers
  advancing nr s small valid a h =
      either After (acknowledges_all nr s.end.window) _ _
      (λ all. ends _ (starts_203 _ (stops_200 _ (acknowledges_them nr s small all h)))
      (λ n. (refl, λ off. refl)))
      (λ left. either After (nr == s.end.window.va) _ _ (λ nothing. ends _ h (λ n. a))
      (λ unlike. ends _ (starts_200 _ (acknowledges nr s small valid h))
      (starting_again nr s small valid unlike a h)))

  i_frame_numbered : {t u level : Bool} (nr : ℕ) (s : StepState) → (Numbers → IsNumber r nr)
      → Allowed MultipleFrameEstablished t u level → P MultipleFrameEstablished t u level s
      → After (i_frame_nr r nr s)
  unfolding i_frame_nr
  i_frame_numbered nr s small a h =
      by_valid nr s _ h (λ valid. either After s.end.window.peer_busy _ _
      (λ on. ends _ (acknowledges nr s small valid h) (λ n. a))
      (λ off. advancing nr s small valid a h))

  rr_numbered : {t u level : Bool} (nr : ℕ) (s : StepState) → (Numbers → IsNumber r nr)
      → Allowed MultipleFrameEstablished t u level → P MultipleFrameEstablished t u level s
      → After (rr_nr r nr s)
  unfolding rr_nr
  rr_numbered nr s small a h = by_valid nr s _ h (λ valid. advancing nr s small valid a h)

  rej_numbered : {t u level : Bool} (nr : ℕ) (s : StepState) → (Numbers → IsNumber r nr)
      → P MultipleFrameEstablished t u level s → After (rej_nr r nr s)
  unfolding rej_nr
  rej_numbered nr s small h =
      by_valid nr s _ h (λ valid. ends _ (starts_203 _ (stops_200 _ (goes_back nr s small h)))
      (λ n. (refl, λ off. refl)))

  rnr_numbered : {t u level : Bool} (nr : ℕ) (s : StepState) → (Numbers → IsNumber r nr)
      → P MultipleFrameEstablished t u level s → After (rnr_nr r nr s)
  unfolding rnr_nr
  rnr_numbered nr s small h =
      by_valid nr s _ h (λ valid. ends _
      (starts_200 _ (stops_203 _ (acknowledges nr s small valid h))) (λ n. (refl, λ off. cc)))

  in_7 : {t u level : Bool} (input : Input) (s : StepState) → IsOther input
      → ((nr : ℕ) → received_number input ≡ Some nr → Numbers → IsNumber r nr)
      → Allowed MultipleFrameEstablished t u level → P MultipleFrameEstablished t u level s
      → After (multiple_frame_established r input s)
  unfolding multiple_frame_established
  in_7 (Heard (I ns nr p) Command) s o small a h =
      i_frame_numbered nr _ (small nr refl) a (takes ns p s h)
  in_7 (Heard (Dm true) Answer) s o small a h = ends _ (puts _ _ tt h) (λ n. a)
  in_7 (Heard (Rr nr pf) role) s o small a h =
      rr_numbered nr _ (small nr refl) a (polled role pf _ (peers false s h))
  in_7 (Heard (Rej nr pf) role) s o small a h =
      rej_numbered nr _ (small nr refl) (polled role pf _ (peers false s h))
  in_7 (Heard (Rnr nr pf) role) s o small a h =
      rnr_numbered nr _ (small nr refl) (polled role pf _ (peers true s h))
  in_7 (Expiry T203) s o small a h = absurd o
  in_7 (Expiry T200) s o small a h = absurd o
  in_7 input s o small a h = in_both input s a h

  i_frame_in_recovery : {t u level : Bool} (nr : ℕ) (s : StepState) → (Numbers → IsNumber r nr)
      → Allowed TimerRecovery t u level → P TimerRecovery t u level s
      → After (i_frame_nr_in_recovery r nr s)
  unfolding i_frame_nr_in_recovery
  i_frame_in_recovery nr s small a h =
      by_valid nr s _ h (λ valid. ends _ (acknowledges nr s small valid h) (λ n. a))

  rr_in_recovery : {t u level : Bool} (final : Bool) (nr : ℕ) (s : StepState)
      → (Numbers → IsNumber r nr) → Allowed TimerRecovery t u level → P TimerRecovery t u level s
      → After (rr_nr_in_recovery r final nr s)
  unfolding rr_nr_in_recovery
  rr_in_recovery final nr s small a h = by_valid nr s _ h (λ valid. either After final _ _
      (λ on. ends _ (states _ _ (starts_203 _ (stops_200 _ (goes_back nr s small h))))
      (λ n. (refl, λ off. refl)))
      (λ off. ends _ (acknowledges nr s small valid h) (λ n. a)))

  rnr_in_recovery : {t u level : Bool} (final : Bool) (nr : ℕ) (s : StepState)
      → (Numbers → IsNumber r nr) → Allowed TimerRecovery t u level → P TimerRecovery t u level s
      → After (rnr_nr_in_recovery r final nr s)
  unfolding rnr_nr_in_recovery
  rnr_in_recovery final nr s small a h = by_valid nr s _ h (λ valid. either After final _ _
      (λ on. ends _ (states _ _ (starts_200 _ (goes_back nr s small h))) (λ n. (a.1, λ off. refl)))
      (λ off. ends _ (acknowledges nr s small valid h) (λ n. a)))

  in_8 : {t u level : Bool} (input : Input) (s : StepState) → IsOther input
      → ((nr : ℕ) → received_number input ≡ Some nr → Numbers → IsNumber r nr)
      → Allowed TimerRecovery t u level → P TimerRecovery t u level s
      → After (timer_recovery r input s)
  unfolding timer_recovery
  in_8 (Heard (I ns nr p) Command) s o small a h =
      i_frame_in_recovery nr _ (small nr refl) a (takes ns p s h)
  in_8 (Heard (Dm true) Answer) s o small a h = again _ (puts _ _ tt h)
  in_8 (Heard (Rr nr pf) role) s o small a h =
      rr_in_recovery (is_final role pf) nr _ (small nr refl) a
      (polled_in_recovery role pf _ (peers false s h))
  in_8 (Heard (Rej nr pf) role) s o small a h =
      rr_in_recovery (is_final role pf) nr _ (small nr refl) a
      (polled_in_recovery role pf _ (peers false s h))
  in_8 (Heard (Rnr nr pf) role) s o small a h =
      rnr_in_recovery (is_final role pf) nr _ (small nr refl) a
      (polled_in_recovery role pf _ (peers true s h))
  in_8 (Expiry T200) s o small a h = absurd o
  in_8 input s o small a h = in_both input s a h

  -- ---- All rows except expiries.

  by_states : {t u level : Bool} (state : State) (input : Input) (s : StepState) → IsOther input
      → ((nr : ℕ) → received_number input ≡ Some nr → Numbers → IsNumber r nr)
      → Allowed state t u level → P state t u level s → After (by_state r state input s)
  unfolding by_state
  by_states TeiAssigned input s o small a h = in_4 input s a h
  by_states AwaitingEstablishment input s o small a h = in_5 input s o a h
  by_states AwaitingRelease input s o small a h = in_6 input s o a h
  by_states MultipleFrameEstablished input s o small a h = in_7 input s o small a h
  by_states TimerRecovery input s o small a h = in_8 input s o small a h

  faulty : {t u level : Bool} (state : State) (kind : FaultKind) (s : StepState)
      → Allowed state t u level → P state t u level s → After (report_fault state kind s)
  unfolding report_fault
  faulty TeiAssigned kind s a h = ends _ (puts _ s tt h) (λ n. a)
  faulty AwaitingEstablishment kind s a h = ends _ (puts _ s tt h) (λ n. a)
  faulty AwaitingRelease kind s a h = ends _ (puts _ s tt h) (λ n. a)
  faulty MultipleFrameEstablished kind s a h = again _ (puts _ s tt h)
  faulty TimerRecovery kind s a h = again _ (puts _ s tt h)

  pub in_row : {t u level : Bool} (state : State) (input : Input) (s : StepState) → IsOther input
      → ((nr : ℕ) → received_number input ≡ Some nr → Numbers → IsNumber r nr)
      → Allowed state t u level → P state t u level s → After (row r state input s)
  unfolding row
  in_row state (Heard control role) s o small a h =
      either After (is_unit_data control role) _ _ (λ unit. ends _ (unit_ups s h) (λ n. a))
      (λ other. by_states state (Heard control role) s o small a h)
  in_row state (UnitData len) s o small a h = ends _ (puts _ s tt h) (λ n. a)
  in_row state (Faulty kind) s o small a h = faulty state kind s a h
  in_row state (Expiry timer) s o small a h = absurd o
  in_row state input s o small a h = by_states state input s o small a h

  -- ---- Expiries.

  expiring_5 : {level : Bool} (s : StepState)
      → Expires200 r b c Numbers AwaitingEstablishment false level s
      → After (awaiting_establishment_t200 s)
  unfolding awaiting_establishment_t200
  expiring_5 s k = either After (nat_lt s.end.rc s.end.parameters.n200) _ _
      (λ more. ends _ (starts_200 _ (puts _ _ (refl, tt) (expires_200 _ (increments _ k))))
      (λ n. (refl, refl)))
      (λ none. ends _ (ending _ (puts _ _ tt (discards _ (expires_200 _ k)))) (λ n. (refl, refl)))

  expiring_6 : {level : Bool} (s : StepState)
      → Expires200 r b c Numbers AwaitingRelease false level s → After (awaiting_release_t200 s)
  unfolding awaiting_release_t200
  expiring_6 s k = either After (nat_lt s.end.rc s.end.parameters.n200) _ _
      (λ more. ends _ (starts_200 _ (puts _ _ (refl, tt) (expires_200 _ (increments _ k))))
      (λ n. (refl, refl)))
      (λ none. ends _ (states _ _ (puts _ _ tt (puts _ _ tt (expires_200 _ k))))
      (λ n. (refl, refl)))

  expiring_7 : {level : Bool} (s : StepState)
      → Expires200 r b c Numbers MultipleFrameEstablished false level s
      → After (established_t200 r s)
  unfolding established_t200
  expiring_7 s k = either After (sends_last s.end.parameters.recovery s.end.window) _ _
      (λ last. ends _ (states _ _ (rcs 1 _ (repeats _ (expires_200 _ k)))) (λ n. (refl, refl)))
      (λ none. ends _ (states _ _ (rcs 1 _ (enquires _ (expires_200 _ k)))) (λ n. (refl, refl)))

  expiring_8 : {level : Bool} (s : StepState) → Expires200 r b c Numbers TimerRecovery false level s
      → After (timer_recovery_t200 s)
  unfolding timer_recovery_t200
  expiring_8 s k = either After (nat_lt s.end.rc s.end.parameters.n200) _ _
      (λ more. ends _ (enquires _ (expires_200 _ (increments _ k))) (λ n. (refl, refl)))
      (λ none. again _ (puts _ _ tt (expires_200 _ k)))

  pub expiring_200 : {level : Bool} (state : State) (s : StepState) → (state ≡ TeiAssigned → ⊥)
      → Expires200 r b c Numbers state false level s → After (by_state r state (Expiry T200) s)
  unfolding by_state awaiting_establishment awaiting_release multiple_frame_established
      timer_recovery
  expiring_200 TeiAssigned s other k = absurd (other refl)
  expiring_200 AwaitingEstablishment s other k = expiring_5 s k
  expiring_200 AwaitingRelease s other k = expiring_6 s k
  expiring_200 MultipleFrameEstablished s other k = expiring_7 s k
  expiring_200 TimerRecovery s other k = expiring_8 s k

  pub expiring_203 : {t level : Bool} (s : StepState)
      → Expires203 r b c Numbers MultipleFrameEstablished t level s
      → After (by_state r MultipleFrameEstablished (Expiry T203) s)
  unfolding by_state multiple_frame_established
  expiring_203 s k =
      ends _ (states _ _ (enquires _ (rcs 0 _ (expires_203 _ k)))) (λ n. (refl, refl))

  -- ---- The end of a step.

  reported : (s : StepState) → After s → After (transmit_rr s)
  unfolding transmit_rr without_ack_pending
  reported s h = record {
    timers = h.timers;
    follow = then_follow _ (alone _ s.end.t200 s.end.t203 (λ timer running. refl)) h.follow;
  }

  one_sent : (s : StepState) → is_established s.end.state ≡ true → After s
      → After (s ▷ transmit_i_frame r ▷ ensure_t200)
  unfolding transmit_i_frame ensure_t200 after_sending
  one_sent s is h = record {
    timers =
        λ n. sent_timers (s.end.window.vs ≡ s.end.window.va) _ s.end.state s.end.t200 s.end.t203 is
        (h.timers n);
    follow =
        then_follow (if s.end.t200 then [] else Start T200 ∷ [])
        (started_unless s.end.t200 (s.end.t200 && s.end.t203))
        (then_follow (if s.end.t200 then [] else out_where s.end.t203 (Stop T203))
        (stopped_unless s.end.t200 s.end.t203)
        (then_follow _ (alone _ s.end.t200 s.end.t203 (λ timer running. refl)) h.follow));
  }

  all_sent : (n : ℕ) (s : StepState) → After s → After (send_all r n s)
  unfolding send_all
  all_sent zero s h = h
  all_sent (suc n) s h =
      either After (may_send_next r s) _ _
      (λ go. all_sent n _ (one_sent s (both_true (is_established s.end.state) _ go).0 h))
      (λ stop. h)

  pub closes : (s : StepState) → After s → After (end_step r s)
  unfolding end_step acknowledge_pending
  closes s h =
      let sent = all_sent (unsent s.end) s h in
      either After (is_7_or_8 (send_all r (unsent s.end) s).end.state
      && (send_all r (unsent s.end) s).end.window.ack_pending) _ _
      (λ pending. reported _ sent) (λ none. sent)
