-- A step that sends a command with P=1 starts T200, and a response with F=1 answers a command with
-- P=1 that the step has received: row by row.
use Rattle.std.proofs.Common.{◌≡◌, ◌⊎◌, inl, inr, ℕ, zero, suc, ◌-◌, ◌==◌, ◌&&◌, nat_lt, if◌then◌else◌, Bool, true, false, List, [], ◌∷◌, ◌++◌, Some, None, Ok, refl, sym, ap, subst, ◌∙◌}
use Rattle.std.specs.Prelude.{◌||◌}
use Rattle.std.specs.List.{list_any}
use Rattle.std.proofs.lemmas.List.Folds.{list_any-append}
use Rattle.lapd_timers.specs.declared.timer.Timer.{Timer}
use Rattle.lapd_timers.specs.declared.timer.Timer.TheVariants.{T200, T203}
use Rattle.lapd_frame.specs.declared.Role.{Role}
use Rattle.lapd_frame.specs.declared.Role.TheVariants.{Command, Answer}
use Rattle.lapd_frame.specs.declared.Control.{Control}
use Rattle.lapd_frame.specs.declared.Control.TheVariants.{I, Rr, Rnr, Rej, Sabme, Dm, Disc, Ua, Frmr}
use Rattle.lapd_frame.specs.declared.fault_kind.FaultKind.{FaultKind}
use Rattle.lapd_frame.specs.Control.{poll_final}
use Rattle.lapd_frame.specs.Reading.{is_command}
use Rattle.lapd_mod128.specs.Counting.{Reading}
use Rattle.lapd_supervision.specs.StateVariables.{StateVariables, status_frame, acknowledgement, poll_response, is_accepted, is_rejected, after_i_frame, i_frame_response, is_valid_nr, acknowledges_all, acknowledged_count, next_i_frame, last_i_frame, with_own_busy}
use Rattle.lapd_link_definition.specs.declared.state.State.{State}
use Rattle.lapd_link_definition.specs.declared.state.State.TheVariants.{TeiAssigned, AwaitingEstablishment, AwaitingRelease, MultipleFrameEstablished, TimerRecovery}
use Rattle.lapd_link_definition.specs.declared.out.Out.{Out}
use Rattle.lapd_link_definition.specs.declared.out.Out.TheVariants.{Send, SendMessage, Up, Established, Acknowledged, Dropped, Start, Stop}
use Rattle.lapd_link_definition.specs.AwaitingEstablishment.{release_primitive, end_establishment, confirm_or_indicate, ua_final, awaiting_establishment_t200, awaiting_establishment}
use Rattle.lapd_link_definition.specs.AwaitingRelease.{confirm_release, awaiting_release_t200, awaiting_release}
use Rattle.lapd_link_definition.specs.EndOfStep.{is_7_or_8, may_send_next, send_all, acknowledge_pending, end_step}
use Rattle.lapd_link_definition.specs.End.{End, StepState, begin, waiting, runs, unsent}
use Rattle.lapd_link_definition.specs.Established.{busy_on, busy_off, in_7_and_8, sends_last, established_t200, poll_or_final, acknowledge_with_timers, i_frame_nr, rr_nr, rej_nr, rnr_nr, multiple_frame_established}
use Rattle.lapd_link_definition.specs.Input.{Input, Heard, Faulty, Expiry, Establish, Release, BusyOn, BusyOff, UnitData, Give}
use Rattle.lapd_link_definition.specs.Procedures.{out_where, counted, response_of, put, retransmit_last_i_frame, state_to, rc_to, increment_rc, layer3_initiated_to, release_pending_to, start, stop, expired, clear_exception_conditions, zero_state_variables, set_peer_busy, set_own_busy, enquiry_response, transmit_enquiry, transmit_rr, queue_up, discard_i_queue, acknowledge, invoke_retransmission, discard_unacknowledged, i_frame_ns, transmit_i_frame, ensure_t200, establish_data_link, reestablish_data_link, nr_error_recovery}
use Rattle.lapd_link_definition.specs.Refusal.{refused}
use Rattle.lapd_link_definition.specs.Table.{by_state, report_fault, is_unit_data, row, step}
use Rattle.lapd_link_definition.specs.TeiAssigned.{tei_assigned}
use Rattle.lapd_link_definition.specs.TimerRecovery.{poll, is_final, i_frame_nr_in_recovery, rr_nr_in_recovery, rnr_nr_in_recovery, timer_recovery_t200, timer_recovery}
use Rattle.lapd_link_definition.proofs.EachAction.{either}
use Rattle.lapd_link_definition.proofs.PreservedByStep.{taken}

-- ---- Outputs.

-- whether a command with P=1 was sent, and T200 not started since
abbrev pub owes_by : Out → Bool → Bool
owes_by (Send Command control) owing = poll_final control || owing
owes_by (SendMessage place control) owing = poll_final control || owing
owes_by (Start T200) owing = false
owes_by out owing = owing

abbrev pub owes : List Out → Bool → Bool
owes [] owing = owing
owes (out ∷ outs) owing = owes outs (owes_by out owing)

-- a response with F=1
abbrev pub answers_poll : Out → Bool
answers_poll (Send Answer control) = poll_final control
answers_poll out = false

-- a command with P=1 was received
abbrev pub polls : Input → Bool
polls (Heard control role) = is_command role && poll_final control
polls input = false

-- an output that is neither, and does not start T200
abbrev IsPlain : Out → Type 0
IsPlain (Send role control) = poll_final control ≡ false
IsPlain (SendMessage place control) = poll_final control ≡ false
IsPlain (Start T200) = ⊥
IsPlain out = Unit {0}

abbrev ArePlain : List Out → Type 0
ArePlain [] = Unit {0}
ArePlain (out ∷ outs) = IsPlain out × ArePlain outs

plain_both : (xs ys : List Out) → ArePlain xs → ArePlain ys → ArePlain (xs ++ ys)
plain_both [] ys hx hy = hy
plain_both (x ∷ xs) ys hx hy = (hx.0, plain_both xs ys hx.1 hy)

plain_where : (on : Bool) (out : Out) → IsPlain out → ArePlain (out_where on out)
plain_where true out h = (h, tt)
plain_where false out h = tt

plain_unless : (on : Bool) (outs : List Out) → ArePlain outs → ArePlain (if on then [] else outs)
plain_unless true outs h = tt
plain_unless false outs h = h

pub owes_both : (xs ys : List Out) (owing : Bool)
    → owes (xs ++ ys) owing ≡ owes ys (owes xs owing)
owes_both [] ys owing = refl
owes_both (x ∷ xs) ys owing = owes_both xs ys (owes_by x owing)

or_none : (a b : Bool) → a ≡ false → (a || b) ≡ b
or_none true b h = cc
or_none false b h = refl

or_false : (a : Bool) → (a || false) ≡ true → a ≡ true
or_false true h = refl
or_false false h = h

plain_owes : (out : Out) (owing : Bool) → IsPlain out → owes_by out owing ≡ owing
plain_owes (Send Command control) owing h = or_none (poll_final control) owing h
plain_owes (Send Answer control) owing h = refl
plain_owes (SendMessage place control) owing h = or_none (poll_final control) owing h
plain_owes (Start T200) owing h = absurd h
plain_owes out owing h = refl

all_plain_owe : (outs : List Out) (owing : Bool) → ArePlain outs → owes outs owing ≡ owing
all_plain_owe [] owing h = refl
all_plain_owe (out ∷ outs) owing h =
    ap (owes outs) (plain_owes out owing h.0) ∙ all_plain_owe outs owing h.1

plain_answers : (out : Out) → IsPlain out → answers_poll out ≡ false
plain_answers (Send Command control) h = refl
plain_answers (Send Answer control) h = h
plain_answers out h = refl

all_plain_answer : (outs : List Out) → ArePlain outs → list_any answers_poll outs ≡ false
all_plain_answer [] h = refl
all_plain_answer (out ∷ outs) h =
    or_none (answers_poll out) (list_any answers_poll outs) (plain_answers out h.0)
    ∙ all_plain_answer outs h.1

pub one_of_both : (a b : Bool) → (a || b) ≡ true → (a ≡ true) ⊎ (b ≡ true)
one_of_both true b h = inl refl
one_of_both false b h = inr h

-- ---- What holds of the outputs of a step, so far.

-- T200 was started after each command with P=1, and a response with F=1 was sent only if a command
-- with P=1 was received
pub record IsGuarded (polled : Bool) (outs : List Out) : Type 0 where
  pub owes_nothing : owes outs false ≡ false
  pub silent : list_any answers_poll outs ≡ true → polled ≡ true

status_bit : (pf : Bool) (m : StateVariables) → poll_final (status_frame pf m) ≡ pf
unfolding status_frame
status_bit pf m = by_test m.own_busy
  where
    by_test : (busy : Bool) → poll_final (if busy then Rnr m.vr pf else Rr m.vr pf) ≡ pf
    by_test true = refl
    by_test false = refl

module _ (polled : Bool) where
  abbrev Silent : List Out → Type 0
  Silent outs = list_any answers_poll outs ≡ true → polled ≡ true

  silent_both : (xs ys : List Out) → Silent xs → Silent ys → Silent (xs ++ ys)
  silent_both xs ys hx hy any =
      elim (one_of_both (list_any answers_poll xs) (list_any answers_poll ys)
      (sym (list_any-append answers_poll xs ys) ∙ any)) [
        | inl first ↦ hx first
        | inr second ↦ hy second
      ]

  more : (xs ys : List Out) → ArePlain ys → IsGuarded polled xs → IsGuarded polled (xs ++ ys)
  more xs ys plain h = record {
    owes_nothing =
        owes_both xs ys false ∙ ap (owes ys) h.owes_nothing ∙ all_plain_owe ys false plain;
    silent = silent_both xs ys h.silent
        (λ any. (let none : false ≡ true = sym (all_plain_answer ys plain) ∙ any in cc));
  }

  answered : (xs : List Out) (control : Control) → (poll_final control ≡ true → polled ≡ true)
      → IsGuarded polled xs → IsGuarded polled (xs ++ Send Answer control ∷ [])
  answered xs control allowed h = record {
    owes_nothing = owes_both xs (Send Answer control ∷ []) false ∙ h.owes_nothing;
    silent = silent_both xs (Send Answer control ∷ []) h.silent
        (λ any. allowed (or_false (poll_final control) any));
  }

  starting : (xs : List Out) → Silent xs → IsGuarded polled (xs ++ Start T200 ∷ [])
  starting xs h = record {
    owes_nothing = owes_both xs (Start T200 ∷ []) false;
    silent = silent_both xs (Start T200 ∷ []) h (λ any. cc);
  }

  -- ---- Each action.

  abbrev P : StepState → Type 0
  P s = IsGuarded polled s.outs

  abbrev Q : StepState → Type 0
  Q s = Silent s.outs

  puts : (out : Out) (s : StepState) → IsPlain out → P s → P (put out s)
  unfolding put
  puts out s plain h = more s.outs (out ∷ []) (plain, tt) h

  answers : (control : Control) (s : StepState) → (poll_final control ≡ true → polled ≡ true)
      → P s → P (put (Send Answer control) s)
  unfolding put
  answers control s allowed h = answered s.outs control allowed h

  asks : (control : Control) (s : StepState) → P s → Q (put (Send Command control) s)
  unfolding put
  asks control s h = silent_both s.outs (Send Command control ∷ []) h.silent (λ any. cc)

  states : (state : State) (s : StepState) → P s → P (state_to state s)
  unfolding state_to
  states state s h = h

  rcs : (n : ℕ) (s : StepState) → P s → P (rc_to n s)
  unfolding rc_to
  rcs n s h = h

  increments : (s : StepState) → P s → P (increment_rc s)
  unfolding increment_rc
  increments s h = h

  layer3s : (on : Bool) (s : StepState) → P s → P (layer3_initiated_to on s)
  unfolding layer3_initiated_to
  layer3s on s h = h

  pendings : (on : Bool) (s : StepState) → P s → P (release_pending_to on s)
  unfolding release_pending_to
  pendings on s h = h

  starts_200 : (s : StepState) → Q s → P (start T200 s)
  unfolding start
  starts_200 s h = starting s.outs h

  starts_203 : (s : StepState) → P s → P (start T203 s)
  unfolding start
  starts_203 s h = more s.outs (Start T203 ∷ []) (tt, tt) h

  stops : (timer : Timer) (s : StepState) → P s → P (stop timer s)
  unfolding stop
  stops timer s h = more s.outs (out_where (runs timer s.end) (Stop timer))
      (plain_where (runs timer s.end) (Stop timer) tt) h

  stops_then : (timer : Timer) (s : StepState) → Q s → Q (stop timer s)
  unfolding stop
  stops_then timer s h = silent_both s.outs (out_where (runs timer s.end) (Stop timer)) h
      (λ any. (let none : false ≡ true =
      sym (all_plain_answer (out_where (runs timer s.end) (Stop timer))
      (plain_where (runs timer s.end) (Stop timer) tt)) ∙ any in cc))

  expires : (timer : Timer) (s : StepState) → P s → P (expired timer s)
  unfolding expired
  expires timer s h = h

  clears : (s : StepState) → P s → P (clear_exception_conditions s)
  unfolding clear_exception_conditions
  clears s h = h

  zeroes : (s : StepState) → P s → P (zero_state_variables s)
  unfolding zero_state_variables
  zeroes s h = h

  peers : (on : Bool) (s : StepState) → P s → P (set_peer_busy on s)
  unfolding set_peer_busy
  peers on s h = h

  owns : (on : Bool) (s : StepState) → P s → P (set_own_busy on s)
  unfolding set_own_busy
  owns on s h = more s.outs (Send Answer (status_frame false (with_own_busy on s.end.window)) ∷ [])
      (status_bit false (with_own_busy on s.end.window), tt) h

  responds : (s : StepState) → polled ≡ true → P s → P (enquiry_response s)
  unfolding enquiry_response
  responds s known h = answered s.outs (status_frame true s.end.window) (λ any. known) h

  enquires : (s : StepState) → P s → P (transmit_enquiry s)
  unfolding transmit_enquiry
  enquires s h = record {
    owes_nothing =
        owes_both s.outs (Send Command (status_frame true s.end.window) ∷ Start T200 ∷ []) false;
    silent = silent_both s.outs (Send Command (status_frame true s.end.window) ∷ Start T200 ∷ [])
        h.silent (λ any. cc);
  }

  repeats : (r : Reading) (s : StepState) → P s → P (retransmit_last_i_frame r s)
  unfolding retransmit_last_i_frame
  repeats r s h =
      let last = SendMessage (s.end.next - 1 - s.end.first) (last_i_frame r s.end.window) in
      record {
        owes_nothing = owes_both s.outs (last ∷ Start T200 ∷ []) false;
        silent = silent_both s.outs (last ∷ Start T200 ∷ []) h.silent (λ any. cc);
      }

  queues : (message : List ℕ) (s : StepState) → P s → P (queue_up message s)
  unfolding queue_up
  queues message s h = h

  discards : (s : StepState) → P s → P (discard_i_queue s)
  unfolding discard_i_queue
  discards s h = more s.outs (counted (waiting s.end) Dropped)
      (plain_where (nat_lt 0 (waiting s.end)) (Dropped (waiting s.end)) tt) h

  loses : (s : StepState) → P s → P (discard_unacknowledged s)
  unfolding discard_unacknowledged
  loses s h = more s.outs _ (plain_unless (s.end.window.vs == s.end.window.va)
      (counted (waiting s.end) Dropped ++ Established ∷ [])
      (plain_both (counted (waiting s.end) Dropped) (Established ∷ [])
      (plain_where (nat_lt 0 (waiting s.end)) (Dropped (waiting s.end)) tt) (tt, tt))) h

  response : (xs : List Out) (rejected p : Bool) (nr : ℕ) (m : StateVariables)
      → (p ≡ true → polled ≡ true) → IsGuarded polled xs
      → IsGuarded polled (xs ++ response_of (if rejected then Some (Rej nr p)
      else (if p then Some (status_frame true m) else None)))
  response xs true p nr m allowed h = answered xs (Rej nr p) allowed h
  response xs false true nr m allowed h =
      answered xs (status_frame true m) (λ any. allowed refl) h
  response xs false false nr m allowed h = more xs [] tt h

  takes : (r : Reading) (ns : ℕ) (p : Bool) (s : StepState) → (p ≡ true → polled ≡ true) → P s
      → P (i_frame_ns r ns p s)
  unfolding i_frame_ns i_frame_response poll_response
  takes r ns p s allowed h = response (s.outs ++ out_where (is_accepted ns s.end.window) Up)
      (is_rejected ns s.end.window) p s.end.window.vr (after_i_frame r ns p s.end.window) allowed
      (more s.outs (out_where (is_accepted ns s.end.window) Up)
      (plain_where (is_accepted ns s.end.window) Up tt) h)

  acknowledges : (r : Reading) (nr : ℕ) (s : StepState) → P s → P (acknowledge r nr s)
  unfolding acknowledge
  acknowledges r nr s h = more s.outs _
      (plain_where (nat_lt 0 (acknowledged_count r nr s.end.window))
      (Acknowledged (acknowledged_count r nr s.end.window)) tt) h

  retransmits : (nr : ℕ) (s : StepState) → P s → P (invoke_retransmission nr s)
  unfolding invoke_retransmission
  retransmits nr s h = h

  sends : (r : Reading) (s : StepState) → P s → P (transmit_i_frame r s)
  unfolding transmit_i_frame next_i_frame
  sends r s h = more s.outs _ (refl, tt) h

  ensured : (xs : List Out) (t200 t203 : Bool) → IsGuarded polled xs
      → IsGuarded polled (xs ++ (if t200 then [] else out_where t203 (Stop T203))
      ++ (if t200 then [] else Start T200 ∷ []))
  ensured xs true t203 h = more (xs ++ []) [] tt (more xs [] tt h)
  ensured xs false t203 h = starting (xs ++ out_where t203 (Stop T203))
      (more xs (out_where t203 (Stop T203)) (plain_where t203 (Stop T203) tt) h).silent

  ensures_t200 : (s : StepState) → P s → P (ensure_t200 s)
  unfolding ensure_t200
  ensures_t200 s h = ensured s.outs s.end.t200 s.end.t203 h

  reporting : (s : StepState) → P s → P (transmit_rr s)
  unfolding transmit_rr acknowledgement
  reporting s h = more s.outs _ (refl, tt) h

  -- ---- Each row.

  establishing : (s : StepState) → P s → P (establish_data_link s)
  unfolding establish_data_link
  establishing s h = states _ _ (starts_200 _ (stops_then T203 _
      (asks (Sabme true) _ (rcs 0 _ (pendings false _ (clears _ h))))))

  reestablishing : (s : StepState) → P s → P (reestablish_data_link s)
  unfolding reestablish_data_link
  reestablishing s h = establishing _ (layer3s false _ h)

  recovering : (s : StepState) → P s → P (nr_error_recovery s)
  unfolding nr_error_recovery
  recovering s h = reestablishing _ (puts _ _ tt h)

  -- whether an input polls, and then `polled`
  abbrev Knows : Input → Type 0
  Knows input = polls input ≡ true → polled ≡ true

  in_4 : (input : Input) (s : StepState) → Knows input → P s → P (tei_assigned input s)
  unfolding tei_assigned
  in_4 Establish s k h = establishing _ (layer3s true _ (discards _ h))
  in_4 Release s k h = puts _ _ tt h
  in_4 (Heard (Sabme p) Command) s k h = states _ _ (starts_203 _ (puts _ _ tt (zeroes _
      (clears _ (answers (Ua p) _ k h)))))
  in_4 (Heard (Disc p) Command) s k h = answers (Dm p) _ k h
  in_4 (Heard (Ua f) Answer) s k h = puts _ _ tt h
  in_4 input s k h = h

  primitive_is_plain : (leaving : Bool) → IsPlain (release_primitive leaving)
  primitive_is_plain true = tt
  primitive_is_plain false = tt

  ending : (s : StepState) → P s → P (end_establishment s)
  unfolding end_establishment
  ending s h = states _ _ (pendings false _ (puts _ _ (primitive_is_plain s.end.release_pending) h))

  confirming : (s : StepState) → P s → P (confirm_or_indicate s)
  unfolding confirm_or_indicate
  confirming s h = either P s.end.layer3_initiated _ _ (λ _. puts _ _ tt h) (λ _. loses _ h)

  ua_received : (s : StepState) → P s → P (ua_final s)
  unfolding ua_final
  ua_received s h = either P s.end.release_pending _ _
      (λ _. states _ _ (starts_200 _ (asks (Disc true) _ (rcs 0 _ (pendings false _ h)))))
      (λ _. states _ _ (starts_203 _ (stops T200 _ (zeroes _ (confirming _ h)))))

  expiring_5 : (s : StepState) → P s → P (awaiting_establishment_t200 s)
  unfolding awaiting_establishment_t200
  expiring_5 s h = either P (nat_lt s.end.rc s.end.parameters.n200) _ _
      (λ _. starts_200 _ (asks (Sabme true) _ (expires T200 _ (increments _ h))))
      (λ _. ending _ (puts _ _ tt (discards _ (expires T200 _ h))))

  in_5 : (input : Input) (s : StepState) → Knows input → P s → P (awaiting_establishment input s)
  unfolding awaiting_establishment
  in_5 Establish s k h = layer3s true _ (discards _ h)
  in_5 Release s k h = pendings true _ (discards _ h)
  in_5 (Give message) s k h = queues message _ h
  in_5 (Heard (Sabme p) Command) s k h = answers (Ua p) _ k h
  in_5 (Heard (Disc p) Command) s k h = answers (Dm p) _ k h
  in_5 (Heard (Ua true) Answer) s k h = ua_received s h
  in_5 (Heard (Ua false) Answer) s k h = puts _ _ tt h
  in_5 (Heard (Dm true) Answer) s k h = ending _ (stops T200 _ (discards _ h))
  in_5 (Expiry T200) s k h = expiring_5 s h
  in_5 input s k h = h

  released : (s : StepState) → P s → P (confirm_release s)
  unfolding confirm_release
  released s h = states _ _ (puts _ _ tt (stops T200 _ h))

  expiring_6 : (s : StepState) → P s → P (awaiting_release_t200 s)
  unfolding awaiting_release_t200
  expiring_6 s h = either P (nat_lt s.end.rc s.end.parameters.n200) _ _
      (λ _. starts_200 _ (asks (Disc true) _ (expires T200 _ (increments _ h))))
      (λ _. states _ _ (puts _ _ tt (puts _ _ tt (expires T200 _ h))))

  in_6 : (input : Input) (s : StepState) → Knows input → P s → P (awaiting_release input s)
  unfolding awaiting_release
  in_6 (Heard (Sabme p) Command) s k h = answers (Dm p) _ k h
  in_6 (Heard (Disc p) Command) s k h = answers (Ua p) _ k h
  in_6 (Heard (Ua true) Answer) s k h = released s h
  in_6 (Heard (Dm true) Answer) s k h = released s h
  in_6 (Heard (Ua false) Answer) s k h = puts _ _ tt h
  in_6 (Expiry T200) s k h = expiring_6 s h
  in_6 input s k h = h

  busy : (s : StepState) → P s → P (busy_on s)
  unfolding busy_on
  busy s h = either P s.end.window.own_busy _ _ (λ _. h) (λ _. owns true _ h)

  own_busy_off : (s : StepState) → P s → P (busy_off s)
  unfolding busy_off
  own_busy_off s h = either P s.end.window.own_busy _ _ (λ _. owns false _ h) (λ _. h)

  in_both : (input : Input) (s : StepState) → Knows input → P s → P (in_7_and_8 input s)
  unfolding in_7_and_8
  in_both Establish s k h = establishing _ (layer3s true _ (discards _ h))
  in_both Release s k h = states _ _ (starts_200 _ (stops_then T203 _
      (asks (Disc true) _ (rcs 0 _ (discards _ h)))))
  in_both (Give message) s k h = queues message _ h
  in_both BusyOn s k h = busy s h
  in_both BusyOff s k h = own_busy_off s h
  in_both (Heard (Sabme p) Command) s k h = states _ _ (zeroes _ (starts_203 _ (stops T200 _
      (loses _ (puts _ _ tt (clears _ (answers (Ua p) _ k h)))))))
  in_both (Heard (Disc p) Command) s k h = states _ _ (stops T203 _ (stops T200 _
      (puts _ _ tt (answers (Ua p) _ k (discards _ h)))))
  in_both (Heard (Ua f) Answer) s k h = puts _ _ tt h
  in_both (Heard (Dm false) Answer) s k h = reestablishing _ (puts _ _ tt h)
  in_both (Heard (Frmr f) Answer) s k h = reestablishing _ (puts _ _ tt h)
  in_both input s k h = h

  module _ (r : Reading) where
    by_valid : (nr : ℕ) (s x : StepState) → P s → P x
        → P (if is_valid_nr r nr s.end.window then x else nr_error_recovery s)
    by_valid nr s x h one =
        either P (is_valid_nr r nr s.end.window) _ _ (λ _. one) (λ _. recovering s h)

    advancing : (nr : ℕ) (s : StepState) → P s → P (acknowledge_with_timers r nr s)
    unfolding acknowledge_with_timers
    advancing nr s h = either P (acknowledges_all nr s.end.window) _ _
        (λ _. starts_203 _ (stops T200 _ (acknowledges r nr s h)))
        (λ _. either P (nr == s.end.window.va) _ _ (λ _. h)
        (λ _. starts_200 _ (acknowledges r nr s h).silent))

    i_frame_numbered : (nr : ℕ) (s : StepState) → P s → P (i_frame_nr r nr s)
    unfolding i_frame_nr
    i_frame_numbered nr s h = by_valid nr s _ h (either P s.end.window.peer_busy _ _
        (λ _. acknowledges r nr s h) (λ _. advancing nr s h))

    rr_numbered : (nr : ℕ) (s : StepState) → P s → P (rr_nr r nr s)
    unfolding rr_nr
    rr_numbered nr s h = by_valid nr s _ h (advancing nr s h)

    rej_numbered : (nr : ℕ) (s : StepState) → P s → P (rej_nr r nr s)
    unfolding rej_nr
    rej_numbered nr s h = by_valid nr s _ h
        (starts_203 _ (stops T200 _ (retransmits nr _ (acknowledges r nr s h))))

    rnr_numbered : (nr : ℕ) (s : StepState) → P s → P (rnr_nr r nr s)
    unfolding rnr_nr
    rnr_numbered nr s h = by_valid nr s _ h
        (starts_200 _ (stops T203 _ (acknowledges r nr s h)).silent)

    i_frame_in_recovery : (nr : ℕ) (s : StepState) → P s → P (i_frame_nr_in_recovery r nr s)
    unfolding i_frame_nr_in_recovery
    i_frame_in_recovery nr s h = by_valid nr s _ h (acknowledges r nr s h)

    rr_in_recovery : (final : Bool) (nr : ℕ) (s : StepState) → P s
        → P (rr_nr_in_recovery r final nr s)
    unfolding rr_nr_in_recovery
    rr_in_recovery final nr s h = by_valid nr s _ h (either P final _ _
        (λ _. states _ _ (starts_203 _ (stops T200 _ (retransmits nr _ (acknowledges r nr s h)))))
        (λ _. acknowledges r nr s h))

    rnr_in_recovery : (final : Bool) (nr : ℕ) (s : StepState) → P s
        → P (rnr_nr_in_recovery r final nr s)
    unfolding rnr_nr_in_recovery
    rnr_in_recovery final nr s h = by_valid nr s _ h (either P final _ _
        (λ _. states _ _ (starts_200 _ (retransmits nr _ (acknowledges r nr s h)).silent))
        (λ _. acknowledges r nr s h))

    polled_in_7 : (role : Role) (pf : Bool) (s : StepState)
        → ((is_command role && pf) ≡ true → polled ≡ true) → P s → P (poll_or_final role pf s)
    unfolding poll_or_final
    polled_in_7 Command true s k h = responds s (k refl) h
    polled_in_7 Answer true s k h = puts _ s tt h
    polled_in_7 Command false s k h = h
    polled_in_7 Answer false s k h = h

    expiring_7 : (s : StepState) → P s → P (established_t200 r s)
    unfolding established_t200
    expiring_7 s h = either P (sends_last s.end.parameters.recovery s.end.window) _ _
        (λ _. states _ _ (rcs 1 _ (repeats r _ (expires T200 _ h))))
        (λ _. states _ _ (rcs 1 _ (enquires _ (expires T200 _ h))))

    in_7 : (input : Input) (s : StepState) → Knows input → P s
        → P (multiple_frame_established r input s)
    unfolding multiple_frame_established
    in_7 (Heard (I ns nr p) Command) s k h = i_frame_numbered nr _ (takes r ns p s k h)
    in_7 (Heard (Dm true) Answer) s k h = puts _ _ tt h
    in_7 (Heard (Rr nr pf) role) s k h =
        rr_numbered nr _ (polled_in_7 role pf _ k (peers false s h))
    in_7 (Heard (Rej nr pf) role) s k h =
        rej_numbered nr _ (polled_in_7 role pf _ k (peers false s h))
    in_7 (Heard (Rnr nr pf) role) s k h =
        rnr_numbered nr _ (polled_in_7 role pf _ k (peers true s h))
    in_7 (Expiry T203) s k h = states _ _ (enquires _ (rcs 0 _ (expires T203 _ h)))
    in_7 (Expiry T200) s k h = expiring_7 s h
    in_7 input s k h = in_both input s k h

    polled_in_8 : (role : Role) (pf : Bool) (s : StepState)
        → ((is_command role && pf) ≡ true → polled ≡ true) → P s → P (poll role pf s)
    unfolding poll
    polled_in_8 Command true s k h = responds s (k refl) h
    polled_in_8 Answer true s k h = h
    polled_in_8 Command false s k h = h
    polled_in_8 Answer false s k h = h

    expiring_8 : (s : StepState) → P s → P (timer_recovery_t200 s)
    unfolding timer_recovery_t200
    expiring_8 s h = either P (nat_lt s.end.rc s.end.parameters.n200) _ _
        (λ _. enquires _ (expires T200 _ (increments _ h)))
        (λ _. reestablishing _ (puts _ _ tt (expires T200 _ h)))

    in_8 : (input : Input) (s : StepState) → Knows input → P s → P (timer_recovery r input s)
    unfolding timer_recovery
    in_8 (Heard (I ns nr p) Command) s k h = i_frame_in_recovery nr _ (takes r ns p s k h)
    in_8 (Heard (Dm true) Answer) s k h = reestablishing _ (puts _ _ tt h)
    in_8 (Heard (Rr nr pf) role) s k h = rr_in_recovery (is_final role pf) nr _
        (polled_in_8 role pf _ k (peers false s h))
    in_8 (Heard (Rej nr pf) role) s k h = rr_in_recovery (is_final role pf) nr _
        (polled_in_8 role pf _ k (peers false s h))
    in_8 (Heard (Rnr nr pf) role) s k h = rnr_in_recovery (is_final role pf) nr _
        (polled_in_8 role pf _ k (peers true s h))
    in_8 (Expiry T200) s k h = expiring_8 s h
    in_8 input s k h = in_both input s k h

    in_state : (state : State) (input : Input) (s : StepState) → Knows input → P s
        → P (by_state r state input s)
    unfolding by_state
    in_state TeiAssigned input s k h = in_4 input s k h
    in_state AwaitingEstablishment input s k h = in_5 input s k h
    in_state AwaitingRelease input s k h = in_6 input s k h
    in_state MultipleFrameEstablished input s k h = in_7 input s k h
    in_state TimerRecovery input s k h = in_8 input s k h

    faulty : (state : State) (kind : FaultKind) (s : StepState) → P s
        → P (report_fault state kind s)
    unfolding report_fault
    faulty TeiAssigned kind s h = puts _ s tt h
    faulty AwaitingEstablishment kind s h = puts _ s tt h
    faulty AwaitingRelease kind s h = puts _ s tt h
    faulty MultipleFrameEstablished kind s h = reestablishing _ (puts _ s tt h)
    faulty TimerRecovery kind s h = reestablishing _ (puts _ s tt h)

    each_row : (state : State) (input : Input) (s : StepState) → Knows input → P s
        → P (row r state input s)
    unfolding row
    each_row state (Heard control role) s k h =
        either P (is_unit_data control role) _ _ (λ _. puts _ _ tt h)
        (λ _. in_state state (Heard control role) s k h)
    each_row state (UnitData len) s k h = puts _ s tt h
    each_row state (Faulty kind) s k h = faulty state kind s h
    each_row state (Expiry timer) s k h =
        either P (runs timer s.end) _ _ (λ _. in_state state (Expiry timer) s k h) (λ _. h)
    each_row state input s k h = in_state state input s k h

    -- ---- The end of a step, and a whole step.

    all_sent : (n : ℕ) (s : StepState) → P s → P (send_all r n s)
    unfolding send_all
    all_sent zero s h = h
    all_sent (suc n) s h = either P (may_send_next r s) _ _
        (λ _. all_sent n _ (ensures_t200 _ (sends r s h))) (λ _. h)

    closes : (s : StepState) → P s → P (end_step r s)
    unfolding end_step acknowledge_pending
    closes s h =
        let sent = all_sent (unsent s.end) s h in
        either P (is_7_or_8 (send_all r (unsent s.end) s).end.state
        && (send_all r (unsent s.end) s).end.window.ack_pending) _ _ (λ _. reporting _ sent)
        (λ _. sent)

    begun : (e : End) → P (begin e)
    unfolding begin
    begun e = record { owes_nothing = refl; silent = λ any. cc }

    pub each_step : (input : Input) (e : End) (s : StepState) → Knows input → step r input e ≡ Ok s
        → IsGuarded polled s.outs
    unfolding step
    each_step input e s k done = subst P
        (taken (refused input e) (end_step r (row r e.state input (begin e))) s done).1
        (closes (row r e.state input (begin e)) (each_row e.state input (begin e) k (begun e)))
