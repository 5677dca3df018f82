-- An end answers layer 3's request before T200 has expired too often: in states 5 and 6 RC only
-- rises, and ends them at N200.
use Rattle.std.proofs.Common.{◌≡◌, ◌⊎◌, inl, inr, ℕ, zero, suc, ◌+◌, ◌-◌, ◌≤◌, ◌<◌, nat_lt, ◌&&◌, ◌||◌, Bool, true, false, List, [], ◌∷◌, ◌++◌, Option, Some, None, Result, Ok, Err, refl, sym, ap, subst, ◌∙◌, arith}
use Rattle.std.specs.List.{list_any}
use Rattle.std.specs.Prelude.{cond}
use Rattle.std.proofs.lemmas.List.Sums.{sum_by-cons}
use Rattle.std.proofs.lemmas.List.Folds.{list_any-append}
use Rattle.std.proofs.lemmas.Bool.{or_left, or_right}
use Rattle.lapd_timers.specs.declared.timer.Timer.TheVariants.{T200, T201, T202, T203}
use Rattle.lapd_frame.specs.declared.Role.TheVariants.{Command, Answer}
use Rattle.lapd_frame.specs.declared.Control.TheVariants.{Sabme, Dm, Disc, Ua}
use Rattle.lapd_mod128.specs.Counting.{Reading}
use Rattle.lapd_link_definition.specs.declared.event.LinkFault.{LinkFault}
use Rattle.lapd_link_definition.specs.declared.state.State.{State}
use Rattle.lapd_link_definition.specs.declared.state.State.TheVariants.{TeiAssigned, AwaitingEstablishment, AwaitingRelease, MultipleFrameEstablished, TimerRecovery}
use Rattle.lapd_link_definition.specs.declared.out.Out.{Out}
use Rattle.lapd_link_definition.specs.declared.out.Out.TheVariants.{Send, Confirmed, Released, ReleaseConfirm, Dropped, Start, Stop}
use Rattle.lapd_link_definition.specs.AwaitingEstablishment.{release_primitive, end_establishment, confirm_or_indicate, ua_final, awaiting_establishment_t200, awaiting_establishment}
use Rattle.lapd_link_definition.specs.AwaitingRelease.{confirm_release, awaiting_release_t200, awaiting_release}
use Rattle.lapd_link_definition.specs.EndOfStep.{is_established, is_7_or_8, may_send_next, send_next, send_all, acknowledge_pending, end_step}
use Rattle.lapd_link_definition.specs.End.{End, StepState, ◌▷◌, begin, runs, unsent, waiting}
use Rattle.lapd_link_definition.specs.Established.{in_7_and_8, multiple_frame_established}
use Rattle.lapd_link_definition.specs.Input.{Input, Heard, Faulty, Expiry, Establish, Release, BusyOn, BusyOff, UnitData, Give}
use Rattle.lapd_link_definition.specs.Parameters.{Parameters}
use Rattle.lapd_link_definition.specs.Procedures.{out_where, counted, put, state_to, rc_to, increment_rc, layer3_initiated_to, release_pending_to, start, stop, expired, clear_exception_conditions, zero_state_variables, queue_up, discard_i_queue, transmit_i_frame, ensure_t200, transmit_rr, establish_data_link}
use Rattle.lapd_link_definition.specs.Refusal.{refused, establish_refused}
use Rattle.lapd_link_definition.specs.RunningTimers.{AreTimersOf, HasTimersOfState}
use Rattle.lapd_link_definition.specs.Table.{by_state, report_fault, row, is_unit_data, unless, step}
use Rattle.lapd_link_definition.specs.TeiAssigned.{tei_assigned}
use Rattle.lapd_link_definition.specs.TimerRecovery.{timer_recovery}
use Rattle.lapd_link_definition.proofs.EachAction.{either}
use Rattle.lapd_link_definition.proofs.PreservedByStep.{step_preserves_parameters, taken}
use Rattle.lapd_link_definition.proofs.Sending.{sends_none}
use Rattle.lapd_two_side_laws.specs.EndAnswers.{Asked, Establishment, Withdrawal, Clearing, request_of, may_release, most_expiries, is_answer, is_answered, is_t200_expiry, is_release, t200_expiries, or_refused, takes, outs_of}

-- ---- While an answer is owed: the establishment that layer 3 requested is in progress, the same
-- with a release pending, or the release is in progress. T200 runs in each.

pub data Situation : Type 0 where
  Establishing : Situation
  Leaving : Situation
  Releasing : Situation

abbrev pub asked_in : Situation → Asked
asked_in Establishing = Establishment
asked_in Leaving = Clearing
asked_in Releasing = Clearing

abbrev pub OwesBy : Situation → State → Bool → Bool → Bool → Type 0
OwesBy Establishing state layer3_initiated release_pending t200 =
    (state ≡ AwaitingEstablishment) × (layer3_initiated ≡ true) × (release_pending ≡ false) ×
    (t200 ≡ true)
OwesBy Leaving state layer3_initiated release_pending t200 = (state ≡ AwaitingEstablishment) ×
    (release_pending ≡ true) × (t200 ≡ true)
OwesBy Releasing state layer3_initiated release_pending t200 = (state ≡ AwaitingRelease) ×
    (t200 ≡ true)

abbrev pub Owes : Situation → End → Type 0
Owes was e = OwesBy was e.state e.layer3_initiated e.release_pending e.t200

-- ---- Outputs and T200.

abbrev pub IsNoT200 : Out → Type 0
IsNoT200 (Start T200) = ⊥
IsNoT200 (Stop T200) = ⊥
IsNoT200 out = Unit {0}

-- outputs that leave T200 running
abbrev pub LeaveT200 : List Out → Type 0
LeaveT200 [] = Unit {0}
LeaveT200 (out ∷ outs) = IsNoT200 out × LeaveT200 outs

-- outputs that restart it
pub record RestartT200 (outs : List Out) : Type 0 where
  pub before : List Out
  pub left : LeaveT200 before
  pub same : outs ≡ before ++ Start T200 ∷ []

leave_where : (on : Bool) (out : Out) → IsNoT200 out → LeaveT200 (out_where on out)
leave_where true out h = (h, tt)
leave_where false out h = tt

dropped_leave : (n : ℕ) → LeaveT200 (counted n Dropped)
dropped_leave n = leave_where (nat_lt 0 n) (Dropped n) tt

restart_after : (before : List Out) → LeaveT200 before → RestartT200 (before ++ Start T200 ∷ [])
restart_after before left = record { before = before; left = left; same = refl }

-- ---- The steps meanwhile.

pub data Continues (was : Situation) (input : Input) (e : End) (s : StepState) : Type 0 where
  answered : is_answered (asked_in was) s.outs ≡ true → Continues was input e s
  stays : Owes was s.end → s.end.rc ≡ e.rc → is_t200_expiry input ≡ false → LeaveT200 s.outs
      → Continues was input e s
  again : Owes was s.end → s.end.rc ≡ e.rc + 1 → e.rc < e.parameters.n200 → input ≡ Expiry T200
      → RestartT200 s.outs → Continues was input e s
  leaves : was ≡ Establishing → input ≡ Release → Owes Leaving s.end → s.end.rc ≡ e.rc
      → LeaveT200 s.outs → Continues was input e s
  releases : was ≡ Leaving → is_t200_expiry input ≡ false → Owes Releasing s.end → s.end.rc ≡ 0
      → RestartT200 s.outs → Continues was input e s

below : (a b : ℕ) → nat_lt a b ≡ true → a < b
below a b h = grind (arith, h)

-- an answer behind other outputs
last_answers : (asked : Asked) (outs : List Out) (out : Out) → is_answer asked out ≡ true
    → is_answered asked (outs ++ out ∷ []) ≡ true
last_answers asked outs out h = list_any-append (is_answer asked) outs (out ∷ []) ∙ or_right _ _
    (or_left (is_answer asked out) false h)

then_answered : (asked : Asked) (outs more : List Out) → is_answered asked outs ≡ true
    → is_answered asked (outs ++ more) ≡ true
then_answered asked outs more h = list_any-append (is_answer asked) outs more ∙ or_left _ _ h

-- ---- State 5.

-- an establishment that layer 3 requested, or one with a release pending
abbrev IsIn5 : Situation → Type 0
IsIn5 Establishing = Unit {0}
IsIn5 Leaving = Unit {0}
IsIn5 Releasing = ⊥

pub runs_t200 : (was : Situation) (state : State) (a b t200 : Bool) → OwesBy was state a b t200
    → t200 ≡ true
runs_t200 Establishing state a b t200 h = h.3
runs_t200 Leaving state a b t200 h = h.2
runs_t200 Releasing state a b t200 h = h.1

restarted : (was : Situation) (state : State) (a b t200 : Bool) → OwesBy was state a b t200
    → OwesBy was state a b true
restarted Establishing state a b t200 h = (h.0, h.1, h.2, refl)
restarted Leaving state a b t200 h = (h.0, h.1, refl)
restarted Releasing state a b t200 h = (h.0, refl)

-- a request to establish in state 5
requested : (was : Situation) (state : State) (a b t200 : Bool) → OwesBy was state a b t200
    → OwesBy was state true b t200
requested Establishing state a b t200 h = (h.0, refl, h.2, h.3)
requested Leaving state a b t200 h = h
requested Releasing state a b t200 h = h

primitive_answers : (was : Situation) (state : State) (a b t200 : Bool) → IsIn5 was
    → OwesBy was state a b t200 → is_answer (asked_in was) (release_primitive b) ≡ true
primitive_answers Establishing state a b t200 in_5 h = rw h.2 refl
primitive_answers Leaving state a b t200 in_5 h = rw h.1 refl
primitive_answers Releasing state a b t200 in_5 h = absurd in_5

module _ (r : Reading) (e : End) where
  module _ (was : Situation) (owed : Owes was e) where
    abbrev Goes : Input → StepState → Type 0
    Goes input s = Continues was input e s

    module _ (in_5 : IsIn5 was) where
      ended_by_dm : Goes (Heard (Dm true) Answer) (begin e ▷ discard_i_queue ▷ stop T200 ▷
          end_establishment)
      unfolding end_establishment begin discard_i_queue stop put release_pending_to state_to
      ended_by_dm = answered (last_answers (asked_in was)
          (counted (waiting e) Dropped ++ out_where (e.t200) (Stop T200))
          (release_primitive e.release_pending) (primitive_answers was e.state e.layer3_initiated
          e.release_pending e.t200 in_5 owed))

      expired_in_5 : Goes (Expiry T200) (awaiting_establishment_t200 (begin e))
      unfolding awaiting_establishment_t200 end_establishment begin discard_i_queue increment_rc
          expired start put release_pending_to state_to
      expired_in_5 = either (Goes (Expiry T200)) (nat_lt e.rc e.parameters.n200) _ _
          (λ more. again (restarted was e.state e.layer3_initiated e.release_pending e.t200 owed)
          refl (below e.rc e.parameters.n200 more) refl
          (restart_after (Send Command (Sabme true) ∷ []) (tt, tt)))
          (λ last. answered (last_answers (asked_in was) _ (release_primitive e.release_pending)
          (primitive_answers was e.state e.layer3_initiated e.release_pending e.t200 in_5
          owed)))

  confirmed : e.layer3_initiated ≡ true → is_answered Establishment
      (confirm_or_indicate (begin e)).outs ≡ true
  unfolding confirm_or_indicate begin put
  confirmed h = rw h refl

  ua_establishing : Owes Establishing e → Continues Establishing (Heard (Ua true) Answer) e
      (ua_final (begin e))
  unfolding ua_final release_pending_to rc_to start stop state_to zero_state_variables begin
  ua_establishing h =
      let F : StepState → Type 0 = λ s. Continues Establishing (Heard (Ua true) Answer) e s in
      let now = confirm_or_indicate (begin e) in
      let stopped = out_where (runs T200 (zero_state_variables now).end) (Stop T200) in
      either F e.release_pending _ _ (λ pending. cc) (λ _. answered (then_answered Establishment
      (now.outs ++ stopped) (Start T203 ∷ []) (then_answered Establishment now.outs stopped
      (confirmed h.1))))

  ua_leaving : Owes Leaving e → Continues Leaving (Heard (Ua true) Answer) e (ua_final (begin e))
  unfolding ua_final begin put release_pending_to rc_to start state_to
  ua_leaving h =
      let F : StepState → Type 0 = λ s. Continues Leaving (Heard (Ua true) Answer) e s in
      either F e.release_pending _ _ (λ _. releases refl refl (refl, refl) refl
      (restart_after (Send Command (Disc true) ∷ []) (tt, tt))) (λ none. cc)

  ua_in_5 : (was : Situation) → IsIn5 was → Owes was e
      → Continues was (Heard (Ua true) Answer) e (ua_final (begin e))
  ua_in_5 Establishing in_5 h = ua_establishing h
  ua_in_5 Leaving in_5 h = ua_leaving h
  ua_in_5 Releasing in_5 h = absurd in_5

  released_in_5 : (was : Situation) → IsIn5 was → Owes was e
      → Continues was Release e (begin e ▷ discard_i_queue ▷ release_pending_to true)
  unfolding begin discard_i_queue release_pending_to
  released_in_5 Establishing in_5 h = leaves refl refl (h.0, refl, h.3) refl
      (dropped_leave (waiting e))
  released_in_5 Leaving in_5 h = stays (h.0, refl, h.2) refl refl (dropped_leave (waiting e))
  released_in_5 Releasing in_5 h = absurd in_5

  module _ (was : Situation) (in_5 : IsIn5 was) (owed : Owes was e) where
    state_5 : (input : Input) → Goes was owed input (awaiting_establishment input (begin e))
    unfolding awaiting_establishment begin put discard_i_queue layer3_initiated_to queue_up
    state_5 Establish = stays (requested was e.state e.layer3_initiated e.release_pending e.t200
        owed) refl refl (dropped_leave (waiting e))
    state_5 Release = released_in_5 was in_5 owed
    state_5 (Give message) = stays owed refl refl tt
    state_5 (Heard (Sabme p) Command) = stays owed refl refl (tt, tt)
    state_5 (Heard (Disc p) Command) = stays owed refl refl (tt, tt)
    state_5 (Heard (Ua true) Answer) = ua_in_5 was in_5 owed
    state_5 (Heard (Ua false) Answer) = stays owed refl refl (tt, tt)
    state_5 (Heard (Dm true) Answer) = ended_by_dm was owed in_5
    state_5 (Expiry T200) = expired_in_5 was owed in_5
    state_5 input = stays owed refl refl tt

    row_5 : (input : Input) → Goes was owed input (row r AwaitingEstablishment input (begin e))
    unfolding row by_state report_fault begin put
    row_5 (Heard control role) = either (Goes was owed (Heard control role))
        (is_unit_data control role) _ _ (λ _. stays owed refl refl (tt, tt))
        (λ _. state_5 (Heard control role))
    row_5 (Faulty kind) = stays owed refl refl (tt, tt)
    row_5 (UnitData len) = stays owed refl refl (tt, tt)
    row_5 (Expiry T200) = either (Goes was owed (Expiry T200)) e.t200 _ _
        (λ _. state_5 (Expiry T200)) (λ off. let on = runs_t200 was e.state e.layer3_initiated
        e.release_pending e.t200 owed in cc)
    row_5 (Expiry T201) = stays owed refl refl tt
    row_5 (Expiry T202) = stays owed refl refl tt
    row_5 (Expiry T203) = either (Goes was owed (Expiry T203)) e.t203 _ _
        (λ _. state_5 (Expiry T203)) (λ _. stays owed refl refl tt)
    row_5 Establish = state_5 Establish
    row_5 Release = state_5 Release
    row_5 BusyOn = state_5 BusyOn
    row_5 BusyOff = state_5 BusyOff
    row_5 (Give message) = state_5 (Give message)

  -- ---- State 6.

  module _ (owed : Owes Releasing e) where
    abbrev Goes6 : Input → StepState → Type 0
    Goes6 input s = Continues Releasing input e s

    expired_in_6 : Goes6 (Expiry T200) (awaiting_release_t200 (begin e))
    unfolding awaiting_release_t200 begin increment_rc expired start put state_to
    expired_in_6 = either (Goes6 (Expiry T200)) (nat_lt e.rc e.parameters.n200) _ _
        (λ more. again (owed.0, refl) refl (below e.rc e.parameters.n200 more) refl
        (restart_after (Send Command (Disc true) ∷ []) (tt, tt)))
        (λ last. answered refl)

    confirmed_in_6 : (input : Input) → Goes6 input (confirm_release (begin e))
    unfolding confirm_release begin stop put state_to
    confirmed_in_6 input = answered (last_answers Clearing
        (out_where e.t200 (Stop T200)) ReleaseConfirm refl)

    state_6 : (input : Input) → Goes6 input (awaiting_release input (begin e))
    unfolding awaiting_release begin put
    state_6 (Heard (Sabme p) Command) = stays owed refl refl (tt, tt)
    state_6 (Heard (Disc p) Command) = stays owed refl refl (tt, tt)
    state_6 (Heard (Ua true) Answer) = confirmed_in_6 (Heard (Ua true) Answer)
    state_6 (Heard (Dm true) Answer) = confirmed_in_6 (Heard (Dm true) Answer)
    state_6 (Heard (Ua false) Answer) = stays owed refl refl (tt, tt)
    state_6 (Expiry T200) = expired_in_6
    state_6 input = stays owed refl refl tt

    row_6 : (input : Input) → Goes6 input (row r AwaitingRelease input (begin e))
    unfolding row by_state report_fault begin put
    row_6 (Heard control role) = either (Goes6 (Heard control role))
        (is_unit_data control role) _ _ (λ _. stays owed refl refl (tt, tt))
        (λ _. state_6 (Heard control role))
    row_6 (Faulty kind) = stays owed refl refl (tt, tt)
    row_6 (UnitData len) = stays owed refl refl (tt, tt)
    row_6 (Expiry T200) = either (Goes6 (Expiry T200)) e.t200 _ _ (λ _. state_6 (Expiry T200))
        (λ off. let on = owed.1 in cc)
    row_6 (Expiry T201) = stays owed refl refl tt
    row_6 (Expiry T202) = stays owed refl refl tt
    row_6 (Expiry T203) = either (Goes6 (Expiry T203)) e.t203 _ _ (λ _. state_6 (Expiry T203))
        (λ _. stays owed refl refl tt)
    row_6 Establish = state_6 Establish
    row_6 Release = state_6 Release
    row_6 BusyOn = state_6 BusyOn
    row_6 BusyOff = state_6 BusyOff
    row_6 (Give message) = state_6 (Give message)

  row_owing : (was : Situation) (input : Input) → Owes was e
      → Continues was input e (row r e.state input (begin e))
  row_owing Establishing input owed = subst (λ q. Continues Establishing input e (row r q input
      (begin e))) (sym owed.0) (row_5 Establishing tt owed input)
  row_owing Leaving input owed = subst (λ q. Continues Leaving input e (row r q input (begin e)))
      (sym owed.0) (row_5 Leaving tt owed input)
  row_owing Releasing input owed = subst (λ q. Continues Releasing input e
      (row r q input (begin e))) (sym owed.0) (row_6 owed input)

-- ---- The end of a step.

module _ (r : Reading) where
  -- in states 4, 5 and 6 nothing is sent
  not_open : (state : State) → is_7_or_8 state ≡ false → is_established state ≡ false
  not_open MultipleFrameEstablished h = cc
  not_open TimerRecovery h = refl
  not_open TeiAssigned h = refl
  not_open AwaitingEstablishment h = refl
  not_open AwaitingRelease h = refl

  none_to_send : (s : StepState) → is_established s.end.state ≡ false → may_send_next r s ≡ false
  none_to_send s h = rw h refl

  closed : (s : StepState) → is_7_or_8 s.end.state ≡ false → end_step r s ≡ s
  unfolding end_step acknowledge_pending
  closed s h =
      let sent : send_all r (unsent s.end) s ≡ s = sends_none r (unsent s.end) s
      (none_to_send s (not_open s.end.state h)) in
      rw sent (rw h refl)

  closed_while : (was : Situation) (state : State) (a b t200 : Bool) → OwesBy was state a b t200
      → is_7_or_8 state ≡ false
  closed_while Establishing state a b t200 h = rw h.0 refl
  closed_while Leaving state a b t200 h = rw h.0 refl
  closed_while Releasing state a b t200 h = rw h.0 refl

  -- outputs at the end of a step are appended
  module _ (asked : Asked) where
    abbrev Has : StepState → Type 0
    Has s = is_answered asked s.outs ≡ true

    all_sent : (n : ℕ) (s : StepState) → Has s → Has (send_all r n s)
    unfolding send_all transmit_i_frame ensure_t200
    all_sent zero s h = h
    all_sent (suc n) s h = either Has (may_send_next r s) _ _
        (λ _. all_sent n (send_next r s) (then_answered asked _ _
        (then_answered asked _ _ (then_answered asked s.outs _ h)))) (λ _. h)

    answered_after : (s : StepState) → Has s → Has (end_step r s)
    unfolding end_step acknowledge_pending transmit_rr
    answered_after s h =
        let t = send_all r (unsent s.end) s in
        let sent : Has t = all_sent (unsent s.end) s h in
        either Has (is_7_or_8 t.end.state && t.end.window.ack_pending) _ _
        (λ _. then_answered asked t.outs _ sent) (λ _. sent)

  after_end : (was : Situation) (input : Input) (e : End) (s : StepState)
      → Continues was input e s → Continues was input e (end_step r s)
  after_end was input e s (answered h) = answered (answered_after (asked_in was) s h)
  after_end was input e s (stays o rc other left) = subst
      (λ (x : StepState). Continues was input e x) (sym (closed s (closed_while was s.end.state
      s.end.layer3_initiated s.end.release_pending s.end.t200 o))) (stays o rc other left)
  after_end was input e s (again o rc more is left) = subst
      (λ (x : StepState). Continues was input e x) (sym (closed s (closed_while was s.end.state
      s.end.layer3_initiated s.end.release_pending s.end.t200 o))) (again o rc more is left)
  after_end was input e s (leaves w is o rc left) = subst
      (λ (x : StepState). Continues was input e x) (sym (closed s (closed_while Leaving
      s.end.state s.end.layer3_initiated s.end.release_pending s.end.t200 o)))
      (leaves w is o rc left)
  after_end was input e s (releases w other o rc left) = subst
      (λ (x : StepState). Continues was input e x) (sym (closed s (closed_while Releasing
      s.end.state s.end.layer3_initiated s.end.release_pending s.end.t200 o)))
      (releases w other o rc left)

  pub goes_on : (was : Situation) (input : Input) (e : End) (s : StepState) → Owes was e
      → step r input e ≡ Ok s → Continues was input e s
  unfolding step
  goes_on was input e s owed done =
      let is = (taken (refused input e) (end_step r (row r e.state input (begin e))) s done).1 in
      subst (λ (x : StepState). Continues was input e x) is
      (after_end was input e (row r e.state input (begin e)) (row_owing r e was input owed))

  -- ---- Any list of inputs.

  refusable : (input : Input) (e : End) (fault : LinkFault) → refused input e ≡ Some fault
      → is_t200_expiry input ≡ false
  refusable (Expiry T200) e fault h = cc
  refusable other e fault h = refl

  either_way : (was : Situation) (input : Input) (e : End) (refusal : Option LinkFault)
      (s : StepState) → refused input e ≡ refusal → Owes was e → Continues was input e s
      → Continues was input e (or_refused e (unless refusal s))
  unfolding begin
  either_way was input e None s is owed h = h
  either_way was input e (Some fault) s is owed h = stays owed refl (refusable input e fault is) tt

  pub takes_on : (was : Situation) (input : Input) (e : End) → Owes was e
      → Continues was input e (takes r input e)
  unfolding step
  takes_on was input e owed = either_way was input e (refused input e)
      (end_step r (row r e.state input (begin e))) refl owed
      (after_end was input e (row r e.state input (begin e)) (row_owing r e was input owed))

  kept_by : (input : Input) (e : End) (x : Result StepState LinkFault) → step r input e ≡ x
      → (or_refused e x).end.parameters ≡ e.parameters
  unfolding begin
  kept_by input e (Ok s) done = step_preserves_parameters r input e s done
  kept_by input e (Err fault) done = refl

  pub takes_keeps : (input : Input) (e : End) → (takes r input e).end.parameters ≡ e.parameters
  takes_keeps input e = kept_by input e (step r input e) refl

all_counted : (input : Input) (inputs : List Input)
    → t200_expiries (input ∷ inputs) ≡ cond {A = ℕ} (is_t200_expiry input) 1 0 + t200_expiries
    inputs
all_counted input inputs = sum_by-cons (λ x. cond {A = ℕ} (is_t200_expiry x) 1 0) input inputs

-- outputs of the first input, and of the rest
first_or_rest : (asked : Asked) (outs more : List Out)
    → (is_answered asked outs ≡ true) ⊎ (is_answered asked more ≡ true)
    → is_answered asked (outs ++ more) ≡ true
first_or_rest asked outs more (inl h) = then_answered asked outs more h
first_or_rest asked outs more (inr h) = list_any-append (is_answer asked) outs more ∙ or_right _ _ h

neither : (a b : Bool) → (a || b) ≡ false → (a ≡ false) × (b ≡ false)
neither false b h = (refl, h)
neither true b h = cc

-- ---- How much is left: expiries of T200, and periods of T200 until the last of them.

-- the situations after a request
abbrev pub IsIn : Asked → Situation → Type 0
IsIn Establishment Establishing = Unit {0}
IsIn Establishment was = ⊥
IsIn Clearing Establishing = ⊥
IsIn Clearing was = Unit {0}
IsIn Withdrawal was = Unit {0}

abbrev pub left : Asked → ℕ → Situation → ℕ → ℕ
left Establishment n was rc = n - rc + 1
left asked n Releasing rc = n - rc + 1
left asked n Establishing rc = n - rc + n + 1
left asked n Leaving rc = n - rc + n + 1

abbrev pub periods : Asked → ℕ → Situation → ℕ → ℕ
periods Establishment n was rc = n - rc
periods asked n Releasing rc = n - rc
periods asked n Establishing rc = n - rc + n + 1
periods asked n Leaving rc = n - rc + n + 1

answer_in : (asked : Asked) (was : Situation) (out : Out) → IsIn asked was
    → is_answer (asked_in was) out ≡ true → is_answer asked out ≡ true
answer_in Establishment Establishing out fits h = h
answer_in Establishment Leaving out fits h = absurd fits
answer_in Establishment Releasing out fits h = absurd fits
answer_in Clearing Establishing out fits h = absurd fits
answer_in Clearing Leaving out fits h = h
answer_in Clearing Releasing out fits h = h
answer_in Withdrawal was Confirmed fits h = refl
answer_in Withdrawal was Released fits h = refl
answer_in Withdrawal was ReleaseConfirm fits h = refl
answer_in Withdrawal Establishing out fits h = h
answer_in Withdrawal Leaving out fits h = h
answer_in Withdrawal Releasing out fits h = h

one_of : (a b : Bool) → (a || b) ≡ true → (a ≡ true) ⊎ (b ≡ true)
one_of true b h = inl refl
one_of false b h = inr h

answered_in : (asked : Asked) (was : Situation) (outs : List Out) → IsIn asked was
    → is_answered (asked_in was) outs ≡ true → is_answered asked outs ≡ true
answered_in asked was [] fits h = cc
answered_in asked was (out ∷ outs) fits h = elim (one_of (is_answer (asked_in was) out)
    (is_answered (asked_in was) outs) h) [
      | inl now ↦ or_left _ _ (answer_in asked was out fits now)
      | inr later ↦ or_right _ _ (answered_in asked was outs fits later)
    ]

-- one if T200 expires
abbrev pub one_expiry : Input → ℕ
one_expiry input = cond (is_t200_expiry input) 1 0

-- T200, which has not expired, runs on; or it is restarted, and then a period less is left
abbrev pub PeriodsAfter : Bool → ℕ → ℕ → List Out → Type 0
PeriodsAfter has_expired before after outs = ((has_expired ≡ false) × LeaveT200 outs
    × (after ≤ before)) ⊎ (RestartT200 outs × (after + 1 ≤ before))

pub record Next (asked : Asked) (n : ℕ) (was : Situation) (input : Input) (e : End)
    (s : StepState) : Type 0 where
  pub now : Situation
  pub fits : IsIn asked now
  pub owed : Owes now s.end
  pub fewer : left asked n now s.end.rc + one_expiry input ≤ left asked n was e.rc
  pub timer : PeriodsAfter (is_t200_expiry input) (periods asked n was e.rc)
      (periods asked n now s.end.rc) s.outs

no_expiry : (input : Input) → is_t200_expiry input ≡ false → one_expiry input ≡ 0
no_expiry input h = rw h refl

an_expiry : (input : Input) → input ≡ Expiry T200 → one_expiry input ≡ 1
an_expiry input h = rw h refl

pub some_left : (asked : Asked) (n : ℕ) (was : Situation) (rc : ℕ) → 1 ≤ left asked n was rc
some_left Establishment n was rc = omega arith
some_left Withdrawal n Establishing rc = omega arith
some_left Withdrawal n Leaving rc = omega arith
some_left Withdrawal n Releasing rc = omega arith
some_left Clearing n Establishing rc = omega arith
some_left Clearing n Leaving rc = omega arith
some_left Clearing n Releasing rc = omega arith

pub at_most : (asked : Asked) (n : ℕ) (was : Situation) (rc : ℕ)
    → left asked n was rc ≤ most_expiries asked n
at_most Establishment n was rc = omega arith
at_most Withdrawal n Establishing rc = omega arith
at_most Withdrawal n Leaving rc = omega arith
at_most Withdrawal n Releasing rc = omega arith
at_most Clearing n Establishing rc = omega arith
at_most Clearing n Leaving rc = omega arith
at_most Clearing n Releasing rc = omega arith

one_less : (asked : Asked) (n : ℕ) (was : Situation) (rc next : ℕ) → rc < n → next ≡ rc + 1
    → (left asked n was next + 1 ≤ left asked n was rc) ×
    (periods asked n was next + 1 ≤ periods asked n was rc)
one_less Establishment n was rc next h is = (omega (arith, h, is), omega (arith, h, is))
one_less Withdrawal n Establishing rc next h is = (omega (arith, h, is), omega (arith, h, is))
one_less Withdrawal n Leaving rc next h is = (omega (arith, h, is), omega (arith, h, is))
one_less Withdrawal n Releasing rc next h is = (omega (arith, h, is), omega (arith, h, is))
one_less Clearing n Establishing rc next h is = (omega (arith, h, is), omega (arith, h, is))
one_less Clearing n Leaving rc next h is = (omega (arith, h, is), omega (arith, h, is))
one_less Clearing n Releasing rc next h is = (omega (arith, h, is), omega (arith, h, is))

-- a release becomes pending, and then is sent
withdrawn : (asked : Asked) (n rc next : ℕ) → may_release asked ≡ true → next ≡ rc
    → (left asked n Leaving next ≤ left asked n Establishing rc) ×
    (periods asked n Leaving next ≤ periods asked n Establishing rc)
withdrawn Establishment n rc next may is = cc
withdrawn Withdrawal n rc next may is = (omega (arith, is), omega (arith, is))
withdrawn Clearing n rc next may is = (omega (arith, is), omega (arith, is))

sent_now : (asked : Asked) (n rc next : ℕ) → may_release asked ≡ true → next ≡ 0
    → (left asked n Releasing next ≤ left asked n Leaving rc) ×
    (periods asked n Releasing next + 1 ≤ periods asked n Leaving rc)
sent_now Establishment n rc next may is = cc
sent_now Withdrawal n rc next may is = (omega (arith, is), omega (arith, is))
sent_now Clearing n rc next may is = (omega (arith, is), omega (arith, is))

leaving_fits : (asked : Asked) → may_release asked ≡ true → IsIn asked Leaving
leaving_fits Establishment may = cc
leaving_fits Withdrawal may = tt
leaving_fits Clearing may = tt

releasing_fits : (asked : Asked) → IsIn asked Leaving
    → (may_release asked ≡ true) × IsIn asked Releasing
releasing_fits Establishment fits = absurd fits
releasing_fits Withdrawal fits = (refl, tt)
releasing_fits Clearing fits = (refl, tt)

permitted : (asked : Asked) (released : Bool) → (may_release asked ≡ false → released ≡ false)
    → released ≡ true → may_release asked ≡ true
permitted Establishment released kept is = let no : released ≡ false = kept refl in cc
permitted Withdrawal released kept is = refl
permitted Clearing released kept is = refl

module _ (asked : Asked) (n : ℕ) (was : Situation) (input : Input) (e : End) (s : StepState)
    (fits : IsIn asked was) where
  pub next_of : e.parameters.n200 ≡ n → (may_release asked ≡ false → is_release input ≡ false)
      → Continues was input e s → (is_answered asked s.outs ≡ true) ⊎ Next asked n was input e s
  next_of same kept (answered h) = inl (answered_in asked was s.outs fits h)
  next_of same kept (stays o rc other leave) = inr (record {
    now = was;
    fits = fits;
    owed = o;
    fewer = omega (arith, no_expiry input other, ap (left asked n was) rc);
    timer = inl (other, leave, omega (arith, ap (periods asked n was) rc));
  })
  next_of same kept (again o rc more is restart) =
      let less = one_less asked n was e.rc s.end.rc (subst (λ m. e.rc < m) same more) rc in
      inr (record {
        now = was;
        fits = fits;
        owed = o;
        fewer = omega
            (arith, an_expiry input is, less.0);
        timer = inr (restart, less.1);
      })
  next_of same kept (leaves w is o rc leave) =
      let may = permitted asked (is_release input) kept (rw is refl) in
      let less = withdrawn asked n e.rc s.end.rc may rc in
      let other : is_t200_expiry input ≡ false = rw is refl in
      inr (record {
        now = Leaving;
        fits = leaving_fits asked may;
        owed = o;
        fewer = omega (arith, no_expiry input other, less.0, ap (λ x. left asked n x e.rc) w);
        timer = inl (other, leave, omega (arith, less.1, ap (λ x. periods asked n x e.rc) w));
      })
  next_of same kept (releases w other o rc restart) =
      let both = releasing_fits asked (subst (IsIn asked) w fits) in
      let less = sent_now asked n e.rc s.end.rc both.0 rc in
      inr (record {
        now = Releasing;
        fits = both.1;
        owed = o;
        fewer = omega (arith, no_expiry input other, less.0, ap (λ x. left asked n x e.rc) w);
        timer = inr (restart, omega (arith, less.1, ap (λ x. periods asked n x e.rc) w));
      })

-- ---- Any list of inputs.

module _ (r : Reading) (asked : Asked) (n : ℕ) where
  within : (inputs : List Input) (was : Situation) (e : End) → IsIn asked was → Owes was e
      → e.parameters.n200 ≡ n → (may_release asked ≡ false → list_any is_release inputs ≡ false)
      → left asked n was e.rc ≤ t200_expiries inputs
      → is_answered asked (outs_of r inputs e) ≡ true
  within [] was e fits owed same kept enough = let none : left asked n was e.rc ≤ 0 = enough in
      absurd (omega (arith, none, some_left asked n was e.rc))
  within (input ∷ inputs) was e fits owed same kept enough =
      let s = takes r input e in
      let both : may_release asked ≡ false
      → (is_release input ≡ false) × (list_any is_release inputs ≡ false) = λ no. neither
      (is_release input) (list_any is_release inputs) (kept no) in
      first_or_rest asked s.outs (outs_of r inputs s.end)
      (elim (next_of asked n was input e s fits same (λ no. (both no).0)
      (takes_on r was input e owed)) [
        | inl h ↦ inl h
        | inr next ↦ inr (within inputs next.now s.end next.fits next.owed
            (ap (λ (p : Parameters). p.n200) (takes_keeps r input e) ∙ same) (λ no. (both no).1)
            (omega (arith, enough, all_counted input inputs, next.fewer)))
      ])

-- ---- From the request on.

pub record IsOwing (asked : Asked) (e : End) : Type 0 where
  pub was : Situation
  pub fits : IsIn asked was
  pub owed : Owes was e

abbrev pub Starts : Asked → StepState → Type 0
Starts asked s = (is_answered asked s.outs ≡ true) ⊎ IsOwing asked s.end

module _ (r : Reading) (e : End) where
  abbrev Allowed : State → Type 0
  Allowed q = AreTimersOf q e.t200 e.t203 (e.window.vs ≡ e.window.va)

  establish_row : (q : State) → e.state ≡ q → establish_refused q e.release_pending ≡ None
      → Allowed q → Owes Establishing (row r q Establish (begin e)).end
  unfolding row by_state tei_assigned awaiting_establishment multiple_frame_established
      timer_recovery in_7_and_8 establish_data_link begin put state_to rc_to layer3_initiated_to
      release_pending_to start stop clear_exception_conditions discard_i_queue
  establish_row TeiAssigned is accepted timers = (refl, refl, refl, refl)
  establish_row AwaitingEstablishment is accepted timers =
      (is, refl, not_pending e.release_pending accepted, timers.0)
    where
      not_pending : (pending : Bool) → establish_refused AwaitingEstablishment pending ≡ None
          → pending ≡ false
      not_pending true h = cc
      not_pending false h = refl
  establish_row AwaitingRelease is accepted timers = cc
  establish_row MultipleFrameEstablished is accepted timers = (refl, refl, refl, refl)
  establish_row TimerRecovery is accepted timers = (refl, refl, refl, refl)

  -- a request to release is answered at once, or its answer is owed
  release_row : (q : State) → e.state ≡ q → Allowed q → Starts Clearing (row r q Release (begin e))
  unfolding row by_state tei_assigned awaiting_establishment awaiting_release
      multiple_frame_established timer_recovery in_7_and_8 begin put state_to rc_to
      release_pending_to start stop discard_i_queue
  release_row TeiAssigned is timers = inl refl
  release_row AwaitingEstablishment is timers = inr (record {
    was = Leaving;
    fits = tt;
    owed =
        (is, refl, timers.0);
  })
  release_row AwaitingRelease is timers = inr (record {
    was = Releasing;
    fits = tt;
    owed = (
      is,
      timers.0,
    );
  })
  release_row MultipleFrameEstablished is timers = inr (record {
    was = Releasing;
    fits = tt;
    owed
        = (refl, refl);
  })
  release_row TimerRecovery is timers = inr (record {
    was = Releasing;
    fits = tt;
    owed = (
      refl,
      refl,
    );
  })

  row_starts : (asked : Asked) → refused (request_of asked) e ≡ None → HasTimersOfState e
      → Starts asked (row r e.state (request_of asked) (begin e))
  row_starts Establishment accepted timers = inr (record {
    was = Establishing;
    fits = tt;
    owed =
        establish_row e.state refl accepted timers;
  })
  row_starts Withdrawal accepted timers = inr (record {
    was = Establishing;
    fits = tt;
    owed =
        establish_row e.state refl accepted timers;
  })
  row_starts Clearing accepted timers = release_row e.state refl timers

  starts_after : (asked : Asked) (s : StepState) → Starts asked s → Starts asked (end_step r s)
  starts_after asked s (inl h) = inl (answered_after r asked s h)
  starts_after asked s (inr o) = subst (λ (x : StepState). Starts asked x)
      (sym (closed r s (closed_while r o.was s.end.state s.end.layer3_initiated
      s.end.release_pending s.end.t200 o.owed))) (inr o)

  pub starts : (asked : Asked) (s : StepState) → HasTimersOfState e
      → step r (request_of asked) e ≡ Ok s → Starts asked s
  unfolding step
  starts asked s timers done =
      let input = request_of asked in
      let both = taken (refused input e) (end_step r (row r e.state input (begin e))) s done in
      subst (λ (x : StepState). Starts asked x) both.1 (starts_after asked (row r e.state input
      (begin e)) (row_starts asked both.0 timers))

pub request_is_answered : (r : Reading) (asked : Asked) (e : End) (s : StepState)
    (inputs : List Input) → HasTimersOfState e → step r (request_of asked) e ≡ Ok s
    → (may_release asked ≡ false → list_any is_release inputs ≡ false)
    → most_expiries asked e.parameters.n200 ≤ t200_expiries inputs
    → is_answered asked (s.outs ++ outs_of r inputs s.end) ≡ true
request_is_answered r asked e s inputs timers done kept enough =
    let n = e.parameters.n200 in
    let same : s.end.parameters.n200 ≡ n = ap (λ (p : Parameters). p.n200)
    (step_preserves_parameters r (request_of asked) e s done) in
    elim (starts r e asked s timers done) [
      | inl h ↦ then_answered asked s.outs (outs_of r inputs s.end) h
      | inr o ↦ first_or_rest asked s.outs (outs_of r inputs s.end)
          (inr (within r asked n inputs o.was s.end o.fits o.owed same kept
          (omega (arith, enough, at_most asked n o.was s.end.rc))))
    ]
