-- If each input is due, a step reports only the errors to which lost frames lead.
use Rattle.std.proofs.Common.{◌≡◌, ℕ, zero, suc, ◌==◌, ◌&&◌, nat_lt, if◌then◌else◌, Bool, true, false, List, [], ◌∷◌, ◌++◌, Option, Some, None, Ok, refl, subst}
use Rattle.lapd_timers.specs.declared.timer.Timer.{Timer}
use Rattle.lapd_timers.specs.declared.timer.Timer.TheVariants.{T200, T203}
use Rattle.lapd_frame.specs.declared.Role.{Role}
use Rattle.lapd_frame.specs.declared.Role.TheVariants.{Command, Answer}
use Rattle.lapd_frame.specs.declared.Control.{Control}
use Rattle.lapd_frame.specs.declared.Control.TheVariants.{I, Rr, Rnr, Rej, Sabme, Dm, Disc, Ua, Frmr}
use Rattle.lapd_mod128.specs.Counting.{Reading}
use Rattle.lapd_supervision.specs.StateVariables.{is_accepted, is_valid_nr, acknowledges_all, after_i_frame, with_peer_busy, without_ack_pending}
use Rattle.lapd_link_definition.specs.declared.state.State.{State}
use Rattle.lapd_link_definition.specs.declared.state.State.TheVariants.{TeiAssigned, AwaitingEstablishment, AwaitingRelease, MultipleFrameEstablished, TimerRecovery}
use Rattle.lapd_link_definition.specs.declared.out.Out.{Out}
use Rattle.lapd_link_definition.specs.declared.out.Out.TheVariants.{Start, Stop, Up, Dropped, Established}
use Rattle.lapd_link_definition.specs.AwaitingEstablishment.{release_primitive, end_establishment, confirm_or_indicate, ua_final, awaiting_establishment_t200, awaiting_establishment}
use Rattle.lapd_link_definition.specs.AwaitingRelease.{confirm_release, awaiting_release_t200, awaiting_release}
use Rattle.lapd_link_definition.specs.EndOfStep.{is_7_or_8, may_send_next, send_all, acknowledge_pending, end_step}
use Rattle.lapd_link_definition.specs.End.{End, StepState, ◌▷◌, begin, runs, unsent, waiting}
use Rattle.lapd_link_definition.specs.Established.{busy_on, busy_off, in_7_and_8, poll_or_final, acknowledge_with_timers, i_frame_nr, rr_nr, rej_nr, rnr_nr, sends_last, established_t200, multiple_frame_established}
use Rattle.lapd_link_definition.specs.Input.{Input, Heard, Faulty, Expiry, Establish, Release, BusyOn, BusyOff, UnitData, Give}
use Rattle.lapd_link_definition.specs.Procedures.{out_where, counted, response_of, put, retransmit_last_i_frame, state_to, rc_to, increment_rc, layer3_initiated_to, release_pending_to, start, stop, expired, clear_exception_conditions, zero_state_variables, set_peer_busy, set_own_busy, enquiry_response, transmit_enquiry, transmit_rr, queue_up, discard_i_queue, acknowledge, invoke_retransmission, discard_unacknowledged, i_frame_ns, transmit_i_frame, ensure_t200, establish_data_link, reestablish_data_link, nr_error_recovery}
use Rattle.lapd_link_definition.specs.Refusal.{refused}
use Rattle.lapd_link_definition.specs.Reports.{IsExpectedOut, AreExpected, IsDueIn, IsDue}
use Rattle.lapd_link_definition.specs.Table.{by_state, is_unit_data, row, step}
use Rattle.lapd_link_definition.specs.TeiAssigned.{tei_assigned}
use Rattle.lapd_link_definition.specs.TimerRecovery.{poll, is_final, i_frame_nr_in_recovery, rr_nr_in_recovery, rnr_nr_in_recovery, timer_recovery_t200, timer_recovery}
use Rattle.lapd_link_definition.proofs.EachAction.{either}
use Rattle.lapd_link_definition.proofs.PreservedByStep.{taken}

-- no other error is reported so far
abbrev P : StepState → Type 0
P s = AreExpected s.outs

-- ---- Outputs.

both : (xs ys : List Out) → AreExpected xs → AreExpected ys → AreExpected (xs ++ ys)
both [] ys p q = q
both (x ∷ xs) ys p q = (p.0, both xs ys p.1 q)

one_where : (test : Bool) (out : Out) → IsExpectedOut out → AreExpected (out_where test out)
one_where true out p = (p, tt)
one_where false out p = tt

none_or : (test : Bool) (xs : List Out) → AreExpected xs → AreExpected (if test then [] else xs)
none_or true xs p = tt
none_or false xs p = p

answering : (answer : Option Control) → AreExpected (response_of answer)
answering None = tt
answering (Some control) = (tt, tt)

-- ---- Actions.

puts : (out : Out) (s : StepState) → IsExpectedOut out → P s → P (put out s)
unfolding put
puts out s q h = both s.outs (out ∷ []) h (q, tt)

states : (state : State) (s : StepState) → P s → P (state_to state s)
unfolding state_to
states state s h = h

rcs : (n : ℕ) (s : StepState) → P s → P (rc_to n s)
unfolding rc_to
rcs n s h = h

increments : (s : StepState) → P s → P (increment_rc s)
unfolding increment_rc
increments s h = h

layer3s : (on : Bool) (s : StepState) → P s → P (layer3_initiated_to on s)
unfolding layer3_initiated_to
layer3s on s h = h

pendings : (on : Bool) (s : StepState) → P s → P (release_pending_to on s)
unfolding release_pending_to
pendings on s h = h

starts : (timer : Timer) (s : StepState) → P s → P (start timer s)
unfolding start
starts timer s h = both s.outs (Start timer ∷ []) h (tt, tt)

stops : (timer : Timer) (s : StepState) → P s → P (stop timer s)
unfolding stop
stops timer s h =
    both s.outs (out_where (runs timer s.end) (Stop timer)) h
    (one_where (runs timer s.end) (Stop timer) tt)

expires : (timer : Timer) (s : StepState) → P s → P (expired timer s)
unfolding expired
expires timer s h = h

clears : (s : StepState) → P s → P (clear_exception_conditions s)
unfolding clear_exception_conditions
clears s h = h

zeroes : (s : StepState) → P s → P (zero_state_variables s)
unfolding zero_state_variables
zeroes s h = h

peers : (on : Bool) (s : StepState) → P s → P (set_peer_busy on s)
unfolding set_peer_busy
peers on s h = h

owns : (on : Bool) (s : StepState) → P s → P (set_own_busy on s)
unfolding set_own_busy
owns on s h = both s.outs _ h (tt, tt)

responds : (s : StepState) → P s → P (enquiry_response s)
unfolding enquiry_response
responds s h = both s.outs _ h (tt, tt)

enquires : (s : StepState) → P s → P (transmit_enquiry s)
unfolding transmit_enquiry
enquires s h = both s.outs _ h (tt, (tt, tt))

reporting : (s : StepState) → P s → P (transmit_rr s)
unfolding transmit_rr
reporting s h = both s.outs _ h (tt, tt)

queues : (message : List ℕ) (s : StepState) → P s → P (queue_up message s)
unfolding queue_up
queues message s h = h

discards : (s : StepState) → P s → P (discard_i_queue s)
unfolding discard_i_queue
discards s h =
    both s.outs (counted (waiting s.end) Dropped) h
    (one_where (nat_lt 0 (waiting s.end)) (Dropped (waiting s.end)) tt)

loses : (s : StepState) → P s → P (discard_unacknowledged s)
unfolding discard_unacknowledged
loses s h =
    both s.outs _ h (none_or (s.end.window.vs == s.end.window.va)
    (counted (waiting s.end) Dropped ++ Established ∷ [])
    (both (counted (waiting s.end) Dropped) (Established ∷ [])
    (one_where (nat_lt 0 (waiting s.end)) (Dropped (waiting s.end)) tt) (tt, tt)))

establishing : (s : StepState) → P s → P (establish_data_link s)
unfolding establish_data_link
establishing s h =
    states _ _
    (starts T200 _ (stops T203 _ (puts _ _ tt (rcs 0 _ (pendings false _ (clears _ h))))))

reestablishing : (s : StepState) → P s → P (reestablish_data_link s)
unfolding reestablish_data_link
reestablishing s h = establishing _ (layer3s false _ h)

module _ (r : Reading) where
  acknowledges : (nr : ℕ) (s : StepState) → P s → P (acknowledge r nr s)
  unfolding acknowledge
  acknowledges nr s h = both s.outs _ h (one_where _ _ tt)

  retransmits : (nr : ℕ) (s : StepState) → P s → P (invoke_retransmission nr s)
  unfolding invoke_retransmission
  retransmits nr s h = h

  takes : (ns : ℕ) (p : Bool) (s : StepState) → P s → P (i_frame_ns r ns p s)
  unfolding i_frame_ns
  takes ns p s h =
      both (s.outs ++ out_where (is_accepted ns s.end.window) Up) _
      (both s.outs _ h (one_where (is_accepted ns s.end.window) Up tt)) (answering _)

  sends : (s : StepState) → P s → P (transmit_i_frame r s)
  unfolding transmit_i_frame
  sends s h = both s.outs _ h (tt, tt)

  repeats : (s : StepState) → P s → P (retransmit_last_i_frame r s)
  unfolding retransmit_last_i_frame
  repeats s h = both s.outs _ h (tt, (tt, tt))

  ensures_t200 : (s : StepState) → P s → P (ensure_t200 s)
  unfolding ensure_t200
  ensures_t200 s h =
      both (s.outs ++ (if s.end.t200 then [] else out_where s.end.t203 (Stop T203))) _
      (both s.outs _ h (none_or s.end.t200 (out_where s.end.t203 (Stop T203))
      (one_where s.end.t203 (Stop T203) tt)))
      (none_or s.end.t200 (Start T200 ∷ []) (tt, tt))

  -- ---- States 4, 5 and 6.

  in_4 : (input : Input) (s : StepState) → IsDueIn r TeiAssigned input s.end.window → P s
      → P (tei_assigned input s)
  unfolding tei_assigned
  in_4 Establish s due h = establishing _ (layer3s true _ (discards _ h))
  in_4 Release s due h = puts _ _ tt h
  in_4 (Heard (Sabme p) Command) s due h =
      states _ _ (starts T203 _ (puts _ _ tt (zeroes _ (clears _ (puts _ _ tt h)))))
  in_4 (Heard (Disc p) Command) s due h = puts _ _ tt h
  in_4 (Heard (Ua true) Answer) s due h = let asked = due.0 in cc
  in_4 (Heard (Ua false) Answer) s due h = let asked = due.0 in cc
  in_4 input s due h = h

  primitive : (leaving : Bool) → IsExpectedOut (release_primitive leaving)
  primitive true = tt
  primitive false = tt

  ending : (s : StepState) → P s → P (end_establishment s)
  unfolding end_establishment
  ending s h = states _ _ (pendings false _ (puts _ _ (primitive s.end.release_pending) h))

  confirming : (s : StepState) → P s → P (confirm_or_indicate s)
  unfolding confirm_or_indicate
  confirming s h = either P s.end.layer3_initiated _ _ (λ _. puts _ _ tt h) (λ _. loses _ h)

  answered : (s : StepState) → P s → P (ua_final s)
  unfolding ua_final
  answered s h = either P s.end.release_pending _ _
      (λ _. states _ _ (starts T200 _ (puts _ _ tt (rcs 0 _ (pendings false _ h)))))
      (λ _. states _ _ (starts T203 _ (stops T200 _ (zeroes _ (confirming _ h)))))

  expiring_5 : (s : StepState) → P s → P (awaiting_establishment_t200 s)
  unfolding awaiting_establishment_t200
  expiring_5 s h = either P (nat_lt s.end.rc s.end.parameters.n200) _ _
      (λ _. starts T200 _ (puts _ _ tt (expires T200 _ (increments _ h))))
      (λ _. ending _ (puts _ _ tt (discards _ (expires T200 _ h))))

  in_5 : (input : Input) (s : StepState) → IsDueIn r AwaitingEstablishment input s.end.window → P s
      → P (awaiting_establishment input s)
  unfolding awaiting_establishment
  in_5 Establish s due h = layer3s true _ (discards _ h)
  in_5 Release s due h = pendings true _ (discards _ h)
  in_5 (Give message) s due h = queues message _ h
  in_5 (Heard (Sabme p) Command) s due h = puts _ _ tt h
  in_5 (Heard (Disc p) Command) s due h = puts _ _ tt h
  in_5 (Heard (Ua true) Answer) s due h = answered s h
  in_5 (Heard (Ua false) Answer) s due h = let asked = due.0 in cc
  in_5 (Heard (Dm true) Answer) s due h = ending _ (stops T200 _ (discards _ h))
  in_5 (Expiry T200) s due h = expiring_5 s h
  in_5 input s due h = h

  released : (s : StepState) → P s → P (confirm_release s)
  unfolding confirm_release
  released s h = states _ _ (puts _ _ tt (stops T200 _ h))

  expiring_6 : (s : StepState) → P s → P (awaiting_release_t200 s)
  unfolding awaiting_release_t200
  expiring_6 s h = either P (nat_lt s.end.rc s.end.parameters.n200) _ _
      (λ _. starts T200 _ (puts _ _ tt (expires T200 _ (increments _ h))))
      (λ _. states _ _ (puts _ _ tt (puts _ _ tt (expires T200 _ h))))

  in_6 : (input : Input) (s : StepState) → IsDueIn r AwaitingRelease input s.end.window → P s
      → P (awaiting_release input s)
  unfolding awaiting_release
  in_6 (Heard (Sabme p) Command) s due h = puts _ _ tt h
  in_6 (Heard (Disc p) Command) s due h = puts _ _ tt h
  in_6 (Heard (Ua true) Answer) s due h = released s h
  in_6 (Heard (Dm true) Answer) s due h = released s h
  in_6 (Heard (Ua false) Answer) s due h = let asked = due.0 in cc
  in_6 (Expiry T200) s due h = expiring_6 s h
  in_6 input s due h = h

  -- ---- States 7 and 8.

  busy : (s : StepState) → P s → P (busy_on s)
  unfolding busy_on
  busy s h = either P s.end.window.own_busy _ _ (λ _. h) (λ _. owns true _ h)

  own_busy_off : (s : StepState) → P s → P (busy_off s)
  unfolding busy_off
  own_busy_off s h = either P s.end.window.own_busy _ _ (λ _. owns false _ h) (λ _. h)

  -- a UA, a DM and a FRMR are unsolicited
  abbrev IsDueInBoth : Input → Type 0
  IsDueInBoth (Heard (Ua f) Answer) = ⊥
  IsDueInBoth (Heard (Dm f) Answer) = ⊥
  IsDueInBoth (Heard (Frmr f) Answer) = ⊥
  IsDueInBoth input = Unit {0}

  in_both : (input : Input) (s : StepState) → IsDueInBoth input → P s → P (in_7_and_8 input s)
  unfolding in_7_and_8
  in_both Establish s due h = establishing _ (layer3s true _ (discards _ h))
  in_both Release s due h =
      states _ _ (starts T200 _ (stops T203 _ (puts _ _ tt (rcs 0 _ (discards _ h)))))
  in_both (Give message) s due h = queues message _ h
  in_both BusyOn s due h = busy s h
  in_both BusyOff s due h = own_busy_off s h
  in_both (Heard (Sabme p) Command) s due h =
      states _ _
      (zeroes _ (starts T203 _ (stops T200 _ (loses _ (puts _ _ tt (clears _ (puts _ _ tt h)))))))
  in_both (Heard (Disc p) Command) s due h =
      states _ _ (stops T203 _ (stops T200 _ (puts _ _ tt (puts _ _ tt (discards _ h)))))
  in_both (Heard (Ua f) Answer) s due h = absurd due
  in_both (Heard (Dm false) Answer) s due h = absurd due
  in_both (Heard (Frmr f) Answer) s due h = absurd due
  in_both input s due h = h

  by_valid : (nr : ℕ) (s x : StepState) → is_valid_nr r nr s.end.window ≡ true → P x
      → P (if is_valid_nr r nr s.end.window then x else nr_error_recovery s)
  by_valid nr s x valid h = either P (is_valid_nr r nr s.end.window) _ _ (λ _. h) (λ invalid. cc)

  advancing : (nr : ℕ) (s : StepState) → P s → P (acknowledge_with_timers r nr s)
  unfolding acknowledge_with_timers
  advancing nr s h =
      either P (acknowledges_all nr s.end.window) _ _
      (λ _. starts T203 _ (stops T200 _ (acknowledges nr s h)))
      (λ _. either P (nr == s.end.window.va) _ _ (λ _. h)
      (λ _. starts T200 _ (acknowledges nr s h)))

  -- V(A) and V(S) do not change before N(R) is checked
  valid_then : (ns nr : ℕ) (p : Bool) (s : StepState) → is_valid_nr r nr s.end.window ≡ true
      → is_valid_nr r nr (i_frame_ns r ns p s).end.window ≡ true
  unfolding i_frame_ns after_i_frame is_valid_nr
  valid_then ns nr p s valid = valid

  i_frame_in_7 : (ns nr : ℕ) (p : Bool) (s : StepState) → is_valid_nr r nr s.end.window ≡ true → P s
      → P (s ▷ i_frame_ns r ns p ▷ i_frame_nr r nr)
  unfolding i_frame_nr
  i_frame_in_7 ns nr p s valid h =
      let t = i_frame_ns r ns p s in
      let after : P t = takes ns p s h in
      by_valid nr t _ (valid_then ns nr p s valid)
      (either P t.end.window.peer_busy _ _ (λ _. acknowledges nr t after)
      (λ _. advancing nr t after))

  i_frame_in_8 : (ns nr : ℕ) (p : Bool) (s : StepState) → is_valid_nr r nr s.end.window ≡ true → P s
      → P (s ▷ i_frame_ns r ns p ▷ i_frame_nr_in_recovery r nr)
  unfolding i_frame_nr_in_recovery
  i_frame_in_8 ns nr p s valid h =
      by_valid nr _ _ (valid_then ns nr p s valid) (acknowledges nr _ (takes ns p s h))

  -- a supervisory frame in state 7: a response has F=0
  abbrev IsPollOrNot : Role → Bool → Type 0
  IsPollOrNot Command pf = Unit {0}
  IsPollOrNot Answer pf = pf ≡ false

  polled : (busy_now pf : Bool) (role : Role) (s : StepState) → IsPollOrNot role pf → P s
      → P (s ▷ set_peer_busy busy_now ▷ poll_or_final role pf)
  unfolding poll_or_final
  polled busy_now true Command s is h = responds _ (peers busy_now s h)
  polled busy_now false Command s is h = peers busy_now s h
  polled busy_now true Answer s is h = cc
  polled busy_now false Answer s is h = peers busy_now s h

  still_valid : (nr : ℕ) (busy_now pf : Bool) (role : Role) (s : StepState)
      → is_valid_nr r nr s.end.window ≡ true
      → is_valid_nr r nr (s ▷ set_peer_busy busy_now ▷ poll_or_final role pf).end.window ≡ true
  unfolding poll_or_final set_peer_busy with_peer_busy enquiry_response without_ack_pending put
      is_valid_nr
  still_valid nr busy_now true Command s valid = valid
  still_valid nr busy_now true Answer s valid = valid
  still_valid nr busy_now false Command s valid = valid
  still_valid nr busy_now false Answer s valid = valid

  rr_in_7 : (nr : ℕ) (t : StepState) → is_valid_nr r nr t.end.window ≡ true → P t → P (rr_nr r nr t)
  unfolding rr_nr
  rr_in_7 nr t valid h = by_valid nr t _ valid (advancing nr t h)

  rej_in_7 : (nr : ℕ) (t : StepState) → is_valid_nr r nr t.end.window ≡ true → P t
      → P (rej_nr r nr t)
  unfolding rej_nr
  rej_in_7 nr t valid h =
      by_valid nr t _ valid (starts T203 _ (stops T200 _ (retransmits nr _ (acknowledges nr t h))))

  rnr_in_7 : (nr : ℕ) (t : StepState) → is_valid_nr r nr t.end.window ≡ true → P t
      → P (rnr_nr r nr t)
  unfolding rnr_nr
  rnr_in_7 nr t valid h = by_valid nr t _ valid (starts T200 _ (stops T203 _ (acknowledges nr t h)))

  expiring_7 : (s : StepState) → P s → P (established_t200 r s)
  unfolding established_t200
  expiring_7 s h = either P (sends_last s.end.parameters.recovery s.end.window) _ _
      (λ _. states _ _ (rcs 1 _ (repeats _ (expires T200 _ h))))
      (λ _. states _ _ (rcs 1 _ (enquires _ (expires T200 _ h))))

  in_7 : (input : Input) (s : StepState) → IsDueIn r MultipleFrameEstablished input s.end.window
      → P s → P (multiple_frame_established r input s)
  unfolding multiple_frame_established
  in_7 (Heard (I ns nr p) Command) s due h = i_frame_in_7 ns nr p s due h
  in_7 (Heard (Rr nr pf) Command) s due h =
      rr_in_7 nr _ (still_valid nr false pf Command s due) (polled false pf Command s tt h)
  in_7 (Heard (Rr nr pf) Answer) s due h =
      rr_in_7 nr _ (still_valid nr false pf Answer s due.1) (polled false pf Answer s due.0 h)
  in_7 (Heard (Rej nr pf) Command) s due h =
      rej_in_7 nr _ (still_valid nr false pf Command s due) (polled false pf Command s tt h)
  in_7 (Heard (Rej nr pf) Answer) s due h =
      rej_in_7 nr _ (still_valid nr false pf Answer s due.1) (polled false pf Answer s due.0 h)
  in_7 (Heard (Rnr nr pf) Command) s due h =
      rnr_in_7 nr _ (still_valid nr true pf Command s due) (polled true pf Command s tt h)
  in_7 (Heard (Rnr nr pf) Answer) s due h =
      rnr_in_7 nr _ (still_valid nr true pf Answer s due.1) (polled true pf Answer s due.0 h)
  in_7 (Heard (Ua true) Answer) s due h = let asked = due.0 in cc
  in_7 (Heard (Ua false) Answer) s due h = let asked = due.0 in cc
  in_7 (Heard (Dm true) Answer) s due h = let asked = due.0 in cc
  in_7 (Heard (Dm false) Answer) s due h = let asked = due.0 in cc
  in_7 (Heard (Frmr f) Answer) s due h = let asked = due.0 in cc
  in_7 (Expiry T203) s due h = states _ _ (enquires _ (rcs 0 _ (expires T203 _ h)))
  in_7 (Expiry T200) s due h = expiring_7 s h
  in_7 input s due h = in_both input s tt h

  -- a supervisory frame in state 8
  polled_in_8 : (busy_now pf : Bool) (role : Role) (s : StepState) → P s
      → P (s ▷ set_peer_busy busy_now ▷ poll role pf)
  unfolding poll
  polled_in_8 busy_now true Command s h = responds _ (peers busy_now s h)
  polled_in_8 busy_now false Command s h = peers busy_now s h
  polled_in_8 busy_now true Answer s h = peers busy_now s h
  polled_in_8 busy_now false Answer s h = peers busy_now s h

  still_valid_in_8 : (nr : ℕ) (busy_now pf : Bool) (role : Role) (s : StepState)
      → is_valid_nr r nr s.end.window ≡ true
      → is_valid_nr r nr (s ▷ set_peer_busy busy_now ▷ poll role pf).end.window ≡ true
  unfolding poll set_peer_busy with_peer_busy enquiry_response without_ack_pending is_valid_nr
  still_valid_in_8 nr busy_now true Command s valid = valid
  still_valid_in_8 nr busy_now true Answer s valid = valid
  still_valid_in_8 nr busy_now false Command s valid = valid
  still_valid_in_8 nr busy_now false Answer s valid = valid

  rr_in_8 : (final : Bool) (nr : ℕ) (t : StepState) → is_valid_nr r nr t.end.window ≡ true → P t
      → P (rr_nr_in_recovery r final nr t)
  unfolding rr_nr_in_recovery
  rr_in_8 final nr t valid h =
      by_valid nr t _ valid (either P final _ _
      (λ _. states _ _ (starts T203 _ (stops T200 _ (retransmits nr _ (acknowledges nr t h)))))
      (λ _. acknowledges nr t h))

  rnr_in_8 : (final : Bool) (nr : ℕ) (t : StepState) → is_valid_nr r nr t.end.window ≡ true → P t
      → P (rnr_nr_in_recovery r final nr t)
  unfolding rnr_nr_in_recovery
  rnr_in_8 final nr t valid h =
      by_valid nr t _ valid (either P final _ _
      (λ _. states _ _ (starts T200 _ (retransmits nr _ (acknowledges nr t h))))
      (λ _. acknowledges nr t h))

  expiring_8 : (s : StepState) → P s → P (timer_recovery_t200 s)
  unfolding timer_recovery_t200
  expiring_8 s h =
      either P (nat_lt s.end.rc s.end.parameters.n200) _ _
      (λ _. enquires _ (expires T200 _ (increments _ h)))
      (λ _. reestablishing _ (puts _ _ tt (expires T200 _ h)))

  in_8 : (input : Input) (s : StepState) → IsDueIn r TimerRecovery input s.end.window → P s
      → P (timer_recovery r input s)
  unfolding timer_recovery
  in_8 (Heard (I ns nr p) Command) s due h = i_frame_in_8 ns nr p s due h
  in_8 (Heard (Rr nr pf) Command) s due h =
      rr_in_8 (is_final Command pf) nr _ (still_valid_in_8 nr false pf Command s due)
      (polled_in_8 false pf Command s h)
  in_8 (Heard (Rr nr pf) Answer) s due h =
      rr_in_8 (is_final Answer pf) nr _ (still_valid_in_8 nr false pf Answer s due.1)
      (polled_in_8 false pf Answer s h)
  in_8 (Heard (Rej nr pf) Command) s due h =
      rr_in_8 (is_final Command pf) nr _ (still_valid_in_8 nr false pf Command s due)
      (polled_in_8 false pf Command s h)
  in_8 (Heard (Rej nr pf) Answer) s due h =
      rr_in_8 (is_final Answer pf) nr _ (still_valid_in_8 nr false pf Answer s due.1)
      (polled_in_8 false pf Answer s h)
  in_8 (Heard (Rnr nr pf) Command) s due h =
      rnr_in_8 (is_final Command pf) nr _ (still_valid_in_8 nr true pf Command s due)
      (polled_in_8 true pf Command s h)
  in_8 (Heard (Rnr nr pf) Answer) s due h =
      rnr_in_8 (is_final Answer pf) nr _ (still_valid_in_8 nr true pf Answer s due.1)
      (polled_in_8 true pf Answer s h)
  in_8 (Heard (Ua true) Answer) s due h = let asked = due.0 in cc
  in_8 (Heard (Ua false) Answer) s due h = let asked = due.0 in cc
  in_8 (Heard (Dm true) Answer) s due h = let asked = due.0 in cc
  in_8 (Heard (Dm false) Answer) s due h = let asked = due.0 in cc
  in_8 (Heard (Frmr f) Answer) s due h = let asked = due.0 in cc
  in_8 (Expiry T200) s due h = expiring_8 s h
  in_8 input s due h = in_both input s tt h

  -- ---- All rows, and the end of a step.

  in_state : (state : State) (input : Input) (s : StepState) → IsDueIn r state input s.end.window
      → P s → P (by_state r state input s)
  unfolding by_state
  in_state TeiAssigned input s due h = in_4 input s due h
  in_state AwaitingEstablishment input s due h = in_5 input s due h
  in_state AwaitingRelease input s due h = in_6 input s due h
  in_state MultipleFrameEstablished input s due h = in_7 input s due h
  in_state TimerRecovery input s due h = in_8 input s due h

  by_row : (state : State) (input : Input) (s : StepState) → IsDueIn r state input s.end.window
      → P s → P (row r state input s)
  unfolding row
  by_row state (Heard control role) s due h =
      either P (is_unit_data control role) _ _ (λ _. puts _ s tt h)
      (λ _. in_state state (Heard control role) s due h)
  by_row state (UnitData len) s due h = puts _ s tt h
  by_row state (Faulty kind) s due h = absurd due
  by_row state (Expiry timer) s due h =
      either P (runs timer s.end) _ _ (λ _. in_state state (Expiry timer) s due h) (λ _. h)
  by_row state input s due h = in_state state input s due h

  all_sent : (n : ℕ) (s : StepState) → P s → P (send_all r n s)
  unfolding send_all
  all_sent zero s h = h
  all_sent (suc n) s h =
      either P (may_send_next r s) _ _ (λ _. all_sent n _ (ensures_t200 _ (sends s h))) (λ _. h)

  closes : (s : StepState) → P s → P (end_step r s)
  unfolding end_step acknowledge_pending
  closes s h =
      let t = send_all r (unsent s.end) s in let sent : P t = all_sent (unsent s.end) s h in
      either P (is_7_or_8 t.end.state && t.end.window.ack_pending) _ _ (λ _. reporting t sent)
      (λ _. sent)

  pub due_is_expected : (input : Input) (e : End) (s : StepState) → IsDue r input e
      → step r input e ≡ Ok s → AreExpected s.outs
  unfolding step begin
  due_is_expected input e s due done =
      let is = (taken (refused input e) (end_step r (row r e.state input (begin e))) s done).1 in
      subst (λ (t : StepState). P t) is
      (closes (row r e.state input (begin e)) (by_row e.state input (begin e) due tt))
