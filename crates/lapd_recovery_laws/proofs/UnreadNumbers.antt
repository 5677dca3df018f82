-- No row reads V(S), V(A) and V(R) in states 4 and 6, nor in state 5 if layer 3 initiated the
-- establishment or a release is pending. So both restarts lead to the same outputs.
use Rattle.std.proofs.Common.{◌≡◌, ◌⊎◌, inl, inr, ℕ, zero, nat_lt, if◌then◌else◌, Bool, true, false, List, [], ◌∷◌, Option, Some, None, Result, Ok, Err, refl, sym, ap, subst, ◌∙◌}
use Rattle.lapd_timers.specs.declared.timer.Timer.TheVariants.{T200, T203}
use Rattle.lapd_frame.specs.declared.Role.{Role}
use Rattle.lapd_frame.specs.declared.Role.TheVariants.{Command, Answer}
use Rattle.lapd_frame.specs.declared.Control.{Control}
use Rattle.lapd_frame.specs.declared.Control.TheVariants.{Sabme, Dm, Ua}
use Rattle.lapd_mod128.specs.Counting.{Reading}
use Rattle.lapd_supervision.specs.StateVariables.{initial_variables, without_exceptions, with_zero_counters}
use Rattle.lapd_link_definition.specs.declared.state.State.{State}
use Rattle.lapd_link_definition.specs.declared.state.State.TheVariants.{TeiAssigned, AwaitingEstablishment, AwaitingRelease, MultipleFrameEstablished, TimerRecovery}
use Rattle.lapd_link_definition.specs.declared.event.LinkFault.{LinkFault}
use Rattle.lapd_link_definition.specs.AwaitingEstablishment.{end_establishment, confirm_or_indicate, ua_final, awaiting_establishment_t200, awaiting_establishment}
use Rattle.lapd_link_definition.specs.AwaitingRelease.{confirm_release, awaiting_release_t200, awaiting_release}
use Rattle.lapd_link_definition.specs.EndOfStep.{is_7_or_8, may_send_next, acknowledge_pending, end_step}
use Rattle.lapd_link_definition.specs.End.{End, StepState, begin, unsent}
use Rattle.lapd_link_definition.specs.Input.{Input, Heard, Expiry, Establish, UnitData, Give}
use Rattle.lapd_link_definition.specs.Procedures.{put, state_to, rc_to, increment_rc, layer3_initiated_to, release_pending_to, start, stop, expired, clear_exception_conditions, zero_state_variables, queue_up, discard_i_queue, establish_data_link}
use Rattle.lapd_link_definition.specs.Refusal.{refused}
use Rattle.lapd_link_definition.specs.Table.{by_state, report_fault, row, unless, step}
use Rattle.lapd_link_definition.specs.TeiAssigned.{tei_assigned}
use Rattle.lapd_link_definition.proofs.Sending.{sends_none}
use Rattle.lapd_pair_laws.specs.Conjuncts.{is_holding}
use Rattle.lapd_pair_laws.specs.Move.{restarted}
use Rattle.lapd_pair_laws.proofs.ClosedActions.{not_established}
use Rattle.lapd_recovery_laws.specs.QuickRestart.{restarted_keeping, outputs_of, end_after, responses}

-- the words of the rows of states 4, 6 and 5
rows_of_4 : ℕ
unfolding row by_state report_fault tei_assigned put state_to rc_to layer3_initiated_to
    release_pending_to start stop clear_exception_conditions zero_state_variables discard_i_queue
    establish_data_link without_exceptions with_zero_counters
rows_of_4 = zero

rows_of_6 : ℕ
unfolding row by_state report_fault awaiting_release confirm_release awaiting_release_t200 put
    state_to increment_rc start stop expired
rows_of_6 = zero

rows_of_5 : ℕ
unfolding row by_state report_fault awaiting_establishment end_establishment confirm_or_indicate
    ua_final awaiting_establishment_t200 put state_to rc_to increment_rc layer3_initiated_to
    release_pending_to start stop expired zero_state_variables queue_up discard_i_queue
    with_zero_counters
rows_of_5 = zero

-- the end with other numbers
abbrev pub with_numbers : ℕ → ℕ → ℕ → End → End
with_numbers vs va vr e = record e { window = record (e.window) { vs = vs; va = va; vr = vr } }

-- a row may read the numbers of the end
abbrev pub reads : End → Bool
reads e = is_holding e.state e.layer3_initiated e.release_pending

module _ (vs va vr : ℕ) where
  abbrev pub renumber : StepState → StepState
  renumber s = record { end = with_numbers vs va vr s.end; outs = s.outs }

  -- of two states within a step, the second has other numbers, which are not read; or they are equal
  abbrev pub Alike : StepState → StepState → Type 0
  Alike s t = ((reads s.end ≡ false) × (t ≡ renumber s)) ⊎ (t ≡ s)

  alike_if : (test : Bool) (s t u v : StepState) → Alike s t → Alike u v
      → Alike (if test then s else u) (if test then t else v)
  alike_if true s t u v one other = one
  alike_if false s t u v one other = other

  -- ---- The rows of states 4, 6 and 5.

  abbrev there : State → Bool → Bool → End → StepState
  there state asked leaving e = record {
    end = record e
        { state = state; layer3_initiated = asked; release_pending = leaving };
    outs = [];
  }

  abbrev RowAlike : Reading → State → Bool → Bool → End → Input → Type 0
  RowAlike r state asked leaving e input =
      Alike (row r state input (there state asked leaving e))
      (row r state input (renumber (there state asked leaving e)))

  module _ (r : Reading) (asked leaving : Bool) (e : End) where
    heard_4 : (role : Role) (control : Control)
        → RowAlike r TeiAssigned asked leaving e (Heard control role)
    unfolding rows_of_4
    heard_4 Command (Sabme p) = inr refl
    heard_4 Answer (Ua f) = inl (refl, refl)
    heard_4 role control = inl (refl, refl)

    in_4 : (input : Input) → RowAlike r TeiAssigned asked leaving e input
    unfolding rows_of_4
    in_4 (Heard control role) = heard_4 role control
    in_4 (Expiry T200) = alike_if e.t200 _ _ _ _ (inl (refl, refl)) (inl (refl, refl))
    in_4 (Expiry T203) = alike_if e.t203 _ _ _ _ (inl (refl, refl)) (inl (refl, refl))
    in_4 input = inl (refl, refl)

    heard_6 : (role : Role) (control : Control)
        → RowAlike r AwaitingRelease asked leaving e (Heard control role)
    unfolding rows_of_6
    heard_6 Command (Ua true) = inl (refl, refl)
    heard_6 Command (Dm true) = inl (refl, refl)
    heard_6 Answer (Ua true) = inl (refl, refl)
    heard_6 Answer (Dm true) = inl (refl, refl)
    heard_6 role control = inl (refl, refl)

    in_6 : (input : Input) → RowAlike r AwaitingRelease asked leaving e input
    unfolding rows_of_6
    in_6 (Heard control role) = heard_6 role control
    in_6 (Expiry T200) =
        alike_if e.t200 _ _ _ _
        (alike_if (nat_lt e.rc e.parameters.n200) _ _ _ _ (inl (refl, refl)) (inl (refl, refl)))
        (inl (refl, refl))
    in_6 (Expiry T203) = alike_if e.t203 _ _ _ _ (inl (refl, refl)) (inl (refl, refl))
    in_6 input = inl (refl, refl)

  module _ (r : Reading) (e : End) where
    heard_5_asked : (role : Role) (control : Control)
        → RowAlike r AwaitingEstablishment true false e (Heard control role)
    unfolding rows_of_5
    heard_5_asked Command (Ua true) = inl (refl, refl)
    heard_5_asked Command (Dm true) = inl (refl, refl)
    heard_5_asked Answer (Ua true) = inr refl
    heard_5_asked Answer (Dm true) = inl (refl, refl)
    heard_5_asked role control = inl (refl, refl)

    in_5_asked : (input : Input) → RowAlike r AwaitingEstablishment true false e input
    unfolding rows_of_5
    in_5_asked (Heard control role) = heard_5_asked role control
    in_5_asked (Expiry T200) =
        alike_if e.t200 _ _ _ _
        (alike_if (nat_lt e.rc e.parameters.n200) _ _ _ _ (inl (refl, refl)) (inl (refl, refl)))
        (inl (refl, refl))
    in_5_asked (Expiry T203) = alike_if e.t203 _ _ _ _ (inl (refl, refl)) (inl (refl, refl))
    in_5_asked input = inl (refl, refl)

    heard_5_leaving_asked : (role : Role) (control : Control)
        → RowAlike r AwaitingEstablishment true true e (Heard control role)
    unfolding rows_of_5
    heard_5_leaving_asked Command (Ua true) = inl (refl, refl)
    heard_5_leaving_asked Command (Dm true) = inl (refl, refl)
    heard_5_leaving_asked Answer (Ua true) = inl (refl, refl)
    heard_5_leaving_asked Answer (Dm true) = inl (refl, refl)
    heard_5_leaving_asked role control = inl (refl, refl)

    in_5_leaving_asked : (input : Input) → RowAlike r AwaitingEstablishment true true e input
    unfolding rows_of_5
    in_5_leaving_asked (Heard control role) = heard_5_leaving_asked role control
    in_5_leaving_asked (Expiry T200) =
        alike_if e.t200 _ _ _ _
        (alike_if (nat_lt e.rc e.parameters.n200) _ _ _ _ (inl (refl, refl)) (inl (refl, refl)))
        (inl (refl, refl))
    in_5_leaving_asked (Expiry T203) = alike_if e.t203 _ _ _ _ (inl (refl, refl)) (inl (refl, refl))
    in_5_leaving_asked input = inl (refl, refl)

    heard_5_leaving_unasked : (role : Role) (control : Control)
        → RowAlike r AwaitingEstablishment false true e (Heard control role)
    unfolding rows_of_5
    heard_5_leaving_unasked Command (Ua true) = inl (refl, refl)
    heard_5_leaving_unasked Command (Dm true) = inl (refl, refl)
    heard_5_leaving_unasked Answer (Ua true) = inl (refl, refl)
    heard_5_leaving_unasked Answer (Dm true) = inl (refl, refl)
    heard_5_leaving_unasked role control = inl (refl, refl)

    in_5_leaving_unasked : (input : Input) → RowAlike r AwaitingEstablishment false true e input
    unfolding rows_of_5
    in_5_leaving_unasked (Heard control role) = heard_5_leaving_unasked role control
    in_5_leaving_unasked (Expiry T200) =
        alike_if e.t200 _ _ _ _
        (alike_if (nat_lt e.rc e.parameters.n200) _ _ _ _ (inl (refl, refl)) (inl (refl, refl)))
        (inl (refl, refl))
    in_5_leaving_unasked (Expiry T203) =
        alike_if e.t203 _ _ _ _ (inl (refl, refl)) (inl (refl, refl))
    in_5_leaving_unasked input = inl (refl, refl)

  each_row : (r : Reading) (state : State) (asked leaving : Bool) (e : End) (input : Input)
      → is_holding state asked leaving ≡ false → RowAlike r state asked leaving e input
  each_row r TeiAssigned asked leaving e input unread = in_4 r asked leaving e input
  each_row r AwaitingRelease asked leaving e input unread = in_6 r asked leaving e input
  each_row r AwaitingEstablishment true false e input unread = in_5_asked r e input
  each_row r AwaitingEstablishment true true e input unread = in_5_leaving_asked r e input
  each_row r AwaitingEstablishment false true e input unread = in_5_leaving_unasked r e input
  each_row r AwaitingEstablishment false false e input unread = cc
  each_row r MultipleFrameEstablished asked leaving e input unread = cc
  each_row r TimerRecovery asked leaving e input unread = cc

  -- ---- The end of a step.

  closed_where : (state : State) (asked leaving : Bool) → is_holding state asked leaving ≡ false
      → is_7_or_8 state ≡ false
  closed_where MultipleFrameEstablished asked leaving unread = cc
  closed_where TimerRecovery asked leaving unread = cc
  closed_where state asked leaving unread = refl

  ends_closed : (r : Reading) (s : StepState) → is_7_or_8 s.end.state ≡ false → end_step r s ≡ s
  unfolding end_step acknowledge_pending
  ends_closed r s closed = rw (sends_none r (unsent s.end) s (none_sent s closed)) (rw closed refl)
    where
      none_sent : (s : StepState) → is_7_or_8 s.end.state ≡ false → may_send_next r s ≡ false
      none_sent s closed = rw (not_established s.end.state closed) refl

  ends_alike : (r : Reading) (s t : StepState) → Alike s t → Alike (end_step r s) (end_step r t)
  ends_alike r s t (inr same) = inr (ap (λ u. end_step r u) same)
  ends_alike r s t (inl (unread, is)) =
      let closed = closed_where s.end.state s.end.layer3_initiated s.end.release_pending unread in
      subst (λ u. Alike u (end_step r t)) (sym (ends_closed r s closed))
      (inl (unread, ap (λ u. end_step r u) is ∙ ends_closed r (renumber s) closed))

  -- ---- A step, and any inputs.

  refused_alike : (input : Input) (e : End)
      → refused input (with_numbers vs va vr e) ≡ refused input e
  refused_alike (Give message) e = refl
  refused_alike (UnitData len) e = refl
  refused_alike Establish e = refl
  refused_alike input e = refl

  -- two results of a step
  abbrev pub StepAlike : Result StepState LinkFault → Result StepState LinkFault → Type 0
  StepAlike (Ok s) (Ok t) = Alike s t
  StepAlike (Ok s) (Err fault) = ⊥
  StepAlike (Err fault) (Ok t) = ⊥
  StepAlike (Err fault) (Err other) = other ≡ fault

  unless_alike : (fault : Option LinkFault) (s t : StepState) → Alike s t
      → StepAlike (unless fault s) (unless fault t)
  unless_alike (Some fault) s t alike = refl
  unless_alike None s t alike = alike

  pub step_alike : (r : Reading) (input : Input) (e : End) → reads e ≡ false
      → StepAlike (step r input e) (step r input (with_numbers vs va vr e))
  unfolding step begin
  step_alike r input e unread = rw (refused_alike input e)
      (unless_alike (refused input e) _ _
      (ends_alike r _ _
      (each_row r e.state e.layer3_initiated e.release_pending e input unread)))

  abbrev EndAlike : End → End → Type 0
  EndAlike e f = ((reads e ≡ false) × (f ≡ with_numbers vs va vr e)) ⊎ (f ≡ e)

  record Answers (e f : End) (x y : Result StepState LinkFault) : Type 0 where
    outputs : outputs_of y ≡ outputs_of x
    ends : EndAlike (end_after e x) (end_after f y)

  answers : (e f : End) (x y : Result StepState LinkFault) → EndAlike e f → StepAlike x y
      → Answers e f x y
  answers e f (Ok s) (Ok t) ends (inl (unread, is)) =
      record { outputs = ap (λ u. Ok u.outs) is; ends = inl (unread, ap (λ u. u.end) is) }
  answers e f (Ok s) (Ok t) ends (inr same) =
      record { outputs = ap (λ u. Ok u.outs) same; ends = inr (ap (λ u. u.end) same) }
  answers e f (Ok s) (Err fault) ends impossible = absurd impossible
  answers e f (Err fault) (Ok t) ends impossible = absurd impossible
  answers e f (Err fault) (Err other) ends same =
      record { outputs = ap (λ x. Err x) same; ends = ends }

  respond_alike : (r : Reading) (inputs : List Input) (e f : End) → EndAlike e f
      → responses r inputs f ≡ responses r inputs e
  respond_alike r [] e f alike = refl
  respond_alike r (input ∷ inputs) e f (inr same) = ap (λ u. responses r (input ∷ inputs) u) same
  respond_alike r (input ∷ inputs) e f (inl (unread, is)) =
      let x = step r input e in
      let y = step r input (with_numbers vs va vr e) in
      let a : Answers e (with_numbers vs va vr e) x y =
      answers e (with_numbers vs va vr e) x y (inl (unread, refl))
      (step_alike r input e unread) in
      subst (λ u. responses r (input ∷ inputs) u ≡ responses r (input ∷ inputs) e) (sym is)
      (ap (λ o. o ∷ responses r inputs (end_after (with_numbers vs va vr e) y)) a.outputs
      ∙ ap (λ os. outputs_of x ∷ os)
      (respond_alike r inputs (end_after e x) (end_after (with_numbers vs va vr e) y) a.ends))

pub restarts_do_the_same : (r : Reading) (inputs : List Input) (e : End)
    → responses r inputs (restarted_keeping e) ≡ responses r inputs (restarted e)
unfolding initial_variables without_exceptions
restarts_do_the_same r inputs e =
    respond_alike e.window.vs e.window.va e.window.vr r inputs (restarted e) (restarted_keeping e)
    (inl (refl, refl))
