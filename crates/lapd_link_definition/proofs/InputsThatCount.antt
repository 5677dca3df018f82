-- The inputs that are counted: the start of an establishment, a message of layer 3, and an accepted
-- I frame.
use Rattle.std.proofs.Common.{◌≡◌, ℕ, zero, suc, ◌+◌, ◌==◌, ◌&&◌, not, nat_lt, length, Bool, true, false, if◌then◌else◌, List, [], ◌∷◌, ◌++◌, Option, Some, None, Ok, refl, sym, subst, ◌∙◌, ap, arith}
use Rattle.std.proofs.lemmas.List.{append-nil}
use Rattle.lapd_frame.specs.declared.Role.TheVariants.{Command, Answer}
use Rattle.lapd_frame.specs.declared.Control.TheVariants.{I, Rr, Rnr, Rej, Sabme, Dm, Ui, Disc, Ua, Frmr, Xid}
use Rattle.lapd_mod128.specs.Counting.{Reading}
use Rattle.lapd_supervision.specs.StateVariables.{with_zero_counters, without_ack_pending, after_sending, is_accepted, i_frame_response}
use Rattle.lapd_link_definition.specs.declared.event.LinkFault.{LinkFault}
use Rattle.lapd_link_definition.specs.declared.event.LinkFault.TheVariants.{TooLong}
use Rattle.lapd_link_definition.specs.declared.state.State.{State}
use Rattle.lapd_link_definition.specs.declared.state.State.TheVariants.{TeiAssigned, AwaitingEstablishment, AwaitingRelease, MultipleFrameEstablished, TimerRecovery}
use Rattle.lapd_link_definition.specs.declared.out.Out.{Out}
use Rattle.lapd_link_definition.specs.declared.out.Out.TheVariants.{Up}
use Rattle.lapd_link_definition.specs.AwaitingEstablishment.{confirm_or_indicate, ua_final, awaiting_establishment}
use Rattle.lapd_link_definition.specs.Begins.{begins, HasBegun}
use Rattle.lapd_link_definition.specs.EndOfStep.{is_7_or_8, may_send_next, send_next, send_all, acknowledge_pending, end_step}
use Rattle.lapd_link_definition.specs.Counts.{ups, messages_of, accepts}
use Rattle.lapd_link_definition.specs.End.{End, StepState, begin, unsent, waiting}
use Rattle.lapd_link_definition.specs.Established.{in_7_and_8, multiple_frame_established}
use Rattle.lapd_link_definition.specs.Input.{Input, Heard, Faulty, Expiry, Establish, Release, BusyOn, BusyOff, UnitData, Give}
use Rattle.lapd_link_definition.specs.Procedures.{out_where, response_of, put, state_to, rc_to, release_pending_to, start, stop, zero_state_variables, transmit_rr, queue_up, discard_unacknowledged, i_frame_ns, transmit_i_frame, ensure_t200}
use Rattle.lapd_link_definition.specs.Refusal.{refused, give_refused}
use Rattle.lapd_link_definition.specs.SentFrames.{AreWellFormed}
use Rattle.lapd_link_definition.specs.Table.{by_state, row, step}
use Rattle.lapd_link_definition.specs.TeiAssigned.{tei_assigned}
use Rattle.lapd_link_definition.specs.TimerRecovery.{timer_recovery}
use Rattle.lapd_link_definition.proofs.PreservedByStep.{AreQuiet, response_is_quiet, IsKept, preserved, is_give, preserved_by_row, preserved_by_step, closed, taken}
use Rattle.lapd_link_definition.proofs.EachAction.{i_frame_numbered, i_frame_in_recovery}
use Rattle.lapd_link_definition.proofs.ComputedStep.{each_action}

-- ---- An establishment begins.

either_count : (test : Bool) (x y : StepState) (n : ℕ) → x.end.establishments ≡ n
    → y.end.establishments ≡ n → (if test then x else y).end.establishments ≡ n
either_count true x y n one other = one
either_count false x y n one other = other

other_begins : (before : End) (test : Bool) (x y : StepState) → test ≡ false → HasBegun before y.end
    → HasBegun before (if test then x else y).end
other_begins before true x y chosen other = cc
other_begins before false x y chosen other = other

confirming_counts_none : (s : StepState)
    → (confirm_or_indicate s).end.establishments ≡ s.end.establishments
unfolding confirm_or_indicate put discard_unacknowledged
confirming_counts_none s = either_count s.end.layer3_initiated _ _ _ refl refl

stays_of : (leaving : Bool) → (true && not leaving) ≡ true → leaving ≡ false
stays_of true h = cc
stays_of false h = refl

ua_begins : (s : StepState) → s.end.release_pending ≡ false → HasBegun s.end (ua_final s).end
unfolding ua_final release_pending_to rc_to put start stop state_to zero_state_variables
    with_zero_counters
ua_begins s stays = other_begins s.end s.end.release_pending _ _ stays
    (record {
      counted = ap (λ n. n + 1) (confirming_counts_none s);
      established = refl;
      none_acknowledged = refl;
      none_received = refl;
    })

begun_4 : (input : Input) (s : StepState) → begins TeiAssigned s.end.release_pending input ≡ true
    → HasBegun s.end (tei_assigned input s).end
unfolding each_action tei_assigned with_zero_counters
begun_4 (Heard (Sabme p) Command) s h =
    record { counted = refl; established = refl; none_acknowledged = refl; none_received = refl }
begun_4 (Heard (Disc p) Command) s h = cc
begun_4 (Heard (Ua f) Answer) s h = cc
begun_4 input s h = cc

begun_5 : (input : Input) (s : StepState)
    → begins AwaitingEstablishment s.end.release_pending input ≡ true
    → HasBegun s.end (awaiting_establishment input s).end
unfolding awaiting_establishment
begun_5 (Heard (Ua true) Answer) s h = ua_begins s (stays_of s.end.release_pending h)
begun_5 (Heard (Ua false) Answer) s h = cc
begun_5 input s h = cc

begun_7_and_8 : (p : Bool) (s : StepState)
    → HasBegun s.end (in_7_and_8 (Heard (Sabme p) Command) s).end
unfolding each_action in_7_and_8 with_zero_counters
begun_7_and_8 p s =
    record { counted = refl; established = refl; none_acknowledged = refl; none_received = refl }

begun_7 : (r : Reading) (input : Input) (s : StepState)
    → begins MultipleFrameEstablished s.end.release_pending input ≡ true
    → HasBegun s.end (multiple_frame_established r input s).end
unfolding multiple_frame_established
begun_7 r (Heard (Sabme p) Command) s h = begun_7_and_8 p s
begun_7 r input s h = cc

begun_8 : (r : Reading) (input : Input) (s : StepState)
    → begins TimerRecovery s.end.release_pending input ≡ true
    → HasBegun s.end (timer_recovery r input s).end
unfolding timer_recovery
begun_8 r (Heard (Sabme p) Command) s h = begun_7_and_8 p s
begun_8 r input s h = cc

begun_in : (r : Reading) (state : State) (input : Input) (s : StepState)
    → begins state s.end.release_pending input ≡ true
    → HasBegun s.end (by_state r state input s).end
unfolding by_state
begun_in r TeiAssigned input s h = begun_4 input s h
begun_in r AwaitingEstablishment input s h = begun_5 input s h
begun_in r AwaitingRelease input s h = cc
begun_in r MultipleFrameEstablished input s h = begun_7 r input s h
begun_in r TimerRecovery input s h = begun_8 r input s h

-- an establishment begins with a SABME or a UA
by_state_alone : (r : Reading) (state : State) (input : Input) (s : StepState)
    → begins state s.end.release_pending input ≡ true
    → row r state input s ≡ by_state r state input s
unfolding row
by_state_alone r TeiAssigned (Heard (Sabme p) Command) s h = refl
by_state_alone r AwaitingEstablishment (Heard (Ua true) Answer) s h = refl
by_state_alone r MultipleFrameEstablished (Heard (Sabme p) Command) s h = refl
by_state_alone r TimerRecovery (Heard (Sabme p) Command) s h = refl
by_state_alone r state input s h = cc

begun_by_row : (r : Reading) (input : Input) (e : End)
    → begins e.state e.release_pending input ≡ true → HasBegun e (row r e.state input (begin e)).end
unfolding begin
begun_by_row r input e h =
    let F : StepState → Type 0 = λ s. HasBegun e s.end in
    subst F (sym (by_state_alone r e.state input (begin e) h))
    (begun_in r e.state input (begin e) h)

-- the frames that are sent at the end of a step do not change this
either_begins : (before : End) (test : Bool) (x y : StepState) → HasBegun before x.end
    → HasBegun before y.end → HasBegun before (if test then x else y).end
either_begins before true x y one other = one
either_begins before false x y one other = other

begun_then_sent : (r : Reading) (before : End) (n : ℕ) (s : StepState) → HasBegun before s.end
    → HasBegun before (send_all r n s).end
unfolding send_all transmit_i_frame after_sending ensure_t200
begun_then_sent r before zero s h = h
begun_then_sent r before (suc n) s h =
    either_begins before (may_send_next r s) (send_all r n (send_next r s)) s
    (begun_then_sent r before n
    (send_next r s) (record {
      counted = h.counted;
      established = h.established;
      none_acknowledged = h.none_acknowledged;
      none_received = h.none_received;
    })) h

begun_then_acknowledged : (before : End) (s : StepState) → HasBegun before s.end
    → HasBegun before (acknowledge_pending s).end
unfolding acknowledge_pending transmit_rr without_ack_pending
begun_then_acknowledged before s h =
    either_begins before (is_7_or_8 s.end.state && s.end.window.ack_pending) (transmit_rr s) s
    (record {
      counted = h.counted;
      established = h.established;
      none_acknowledged = h.none_acknowledged;
      none_received = h.none_received;
    }) h

pub begun_by_step : (r : Reading) (input : Input) (e : End) (s : StepState)
    → begins e.state e.release_pending input ≡ true → step r input e ≡ Ok s → HasBegun e s.end
unfolding step end_step
begun_by_step r input e s h done =
    let F : StepState → Type 0 = λ t. HasBegun e t.end in
    let there = row r e.state input (begin e) in
    subst F (taken (refused input e) (end_step r there) s done).1
    (begun_then_acknowledged e
    (send_all r (unsent there.end) there)
    (begun_then_sent r e (unsent there.end) there (begun_by_row r input e h)))

pub begun_by_no_step : (r : Reading) (input : Input) (e : End) (s : StepState)
    → begins e.state e.release_pending input ≡ false → step r input e ≡ Ok s
    → s.end.establishments ≡ e.establishments
begun_by_no_step r input e s h done = (preserved_by_step r input e s done).same_establishment h

-- ---- A message of layer 3.

given_in : (r : Reading) (state : State) (message : List ℕ) (s : StepState)
    → (release_pending layer3_initiated full : Bool)
    → give_refused state release_pending layer3_initiated full ≡ None
    → (by_state r state (Give message) s).end.given ≡ s.end.given ++ message ∷ []
unfolding by_state awaiting_establishment multiple_frame_established timer_recovery in_7_and_8
    queue_up
given_in r TeiAssigned message s leaving asked full h = cc
given_in r AwaitingEstablishment message s leaving asked full h = refl
given_in r AwaitingRelease message s leaving asked full h = cc
given_in r MultipleFrameEstablished message s leaving asked full h = refl
given_in r TimerRecovery message s leaving asked full h = refl

allowed : (long : Bool) (other : Option LinkFault) → (if long then Some TooLong else other) ≡ None
    → other ≡ None
allowed false other h = h
allowed true other h = cc

given_by_row : (r : Reading) (message : List ℕ) (e : End) → refused (Give message) e ≡ None
    → (row r e.state (Give message) (begin e)).end.given ≡ e.given ++ message ∷ []
unfolding row begin
given_by_row r message e h =
    given_in r e.state message (begin e) e.release_pending e.layer3_initiated
    (waiting e == e.parameters.room) (allowed (nat_lt 260 (length message)) _ h)

given_by_step : (r : Reading) (message : List ℕ) (e : End) (s : StepState)
    → step r (Give message) e ≡ Ok s → s.end.given ≡ e.given ++ message ∷ []
unfolding step
given_by_step r message e s done =
    let is =
    taken (refused (Give message) e) (end_step r (row r e.state (Give message) (begin e))) s
    done in
    let F : StepState → List (List ℕ) = λ t. t.end.given in
    sym (ap F is.1)
    ∙ (closed r (row r e.state (Give message) (begin e))
    (preserved_by_row r (Give message) e).spoken).same_given refl
    ∙ given_by_row r message e is.0

given_by_none : (r : Reading) (input : Input) (e : End) (s : StepState) → is_give input ≡ false
    → step r input e ≡ Ok s → s.end.given ≡ e.given ++ []
given_by_none r input e s none done =
    (preserved_by_step r input e s done).same_given none ∙ sym (append-nil e.given)

pub given_after : (r : Reading) (input : Input) (e : End) (s : StepState) → step r input e ≡ Ok s
    → s.end.given ≡ e.given ++ messages_of input
given_after r (Give message) e s done = given_by_step r message e s done
given_after r (Heard control role) e s done = given_by_none r (Heard control role) e s refl done
given_after r (Faulty kind) e s done = given_by_none r (Faulty kind) e s refl done
given_after r (Expiry timer) e s done = given_by_none r (Expiry timer) e s refl done
given_after r Establish e s done = given_by_none r Establish e s refl done
given_after r Release e s done = given_by_none r Release e s refl done
given_after r BusyOn e s done = given_by_none r BusyOn e s refl done
given_after r BusyOff e s done = given_by_none r BusyOff e s refl done
given_after r (UnitData len) e s done = given_by_none r (UnitData len) e s refl done

-- ---- An accepted I frame.

frame_outs : (accepted : Bool) (response : List Out) → AreQuiet response
    → AreWellFormed ([] ++ out_where accepted Up ++ response)
    × (ups ([] ++ out_where accepted Up ++ response) ≡ (if accepted then 1 else 0))
frame_outs true response quiet = ((tt, quiet.0), omega (arith, quiet.1))
frame_outs false response quiet = quiet

frame_ups : (r : Reading) (ns : ℕ) (p : Bool) (e : End)
    → AreWellFormed (i_frame_ns r ns p (begin e)).outs
    × (ups (i_frame_ns r ns p (begin e)).outs ≡ (if is_accepted ns e.window then 1 else 0))
unfolding i_frame_ns begin
frame_ups r ns p e =
    frame_outs (is_accepted ns e.window) (response_of (i_frame_response r ns p e.window))
    (response_is_quiet r ns p e.window)

frame_in : (r : Reading) (state : State) (ns nr : ℕ) (p : Bool) (s : StepState) (e : End)
    → is_7_or_8 state ≡ true → AreWellFormed (i_frame_ns r ns p s).outs
    → IsKept r e (ups (i_frame_ns r ns p s).outs) true true false (Unit {0}) (i_frame_ns r ns p s)
    → ups (row r state (Heard (I ns nr p) Command) s).outs ≡ ups (i_frame_ns r ns p s).outs
unfolding row by_state multiple_frame_established timer_recovery
frame_in r MultipleFrameEstablished ns nr p s e h spoken before =
    (i_frame_numbered r _ (IsKept r e (ups (i_frame_ns r ns p s).outs) true true false (Unit {0}))
    (IsKept r e (ups (i_frame_ns r ns p s).outs) true true false (Unit {0})) _ _ _ _ _ _
    (preserved r e _ true true false (Unit {0})) nr (i_frame_ns r ns p s) tt before).same_ups
    refl
frame_in r TimerRecovery ns nr p s e h spoken before =
    (i_frame_in_recovery r _
    (IsKept r e (ups (i_frame_ns r ns p s).outs) true true false (Unit {0}))
    (IsKept r e (ups (i_frame_ns r ns p s).outs) true true false (Unit {0})) _ _ _ _ _ _
    (preserved r e _ true true false (Unit {0})) nr (i_frame_ns r ns p s) tt before).same_ups
    refl
frame_in r TeiAssigned ns nr p s e h spoken before = cc
frame_in r AwaitingEstablishment ns nr p s e h spoken before = cc
frame_in r AwaitingRelease ns nr p s e h spoken before = cc

begun_frame : (r : Reading) (ns : ℕ) (p : Bool) (e : End)
    → AreWellFormed (i_frame_ns r ns p (begin e)).outs
    → IsKept r (i_frame_ns r ns p (begin e)).end (ups (i_frame_ns r ns p (begin e)).outs) true true
    false (Unit {0}) (i_frame_ns r ns p (begin e))
begun_frame r ns p e spoken = record {
  same_parameters = refl;
  same_given = λ _. refl;
  short = λ _ before. before;
  same_establishment = λ _. refl;
  spoken = spoken;
  same_ups = λ _. refl;
}

taken_ups : (r : Reading) (ns nr : ℕ) (p : Bool) (e : End) (s : StepState)
    → is_7_or_8 e.state ≡ true → step r (Heard (I ns nr p) Command) e ≡ Ok s
    → ups s.outs ≡ (if is_accepted ns e.window then 1 else 0)
unfolding step
taken_ups r ns nr p e s opened done =
    let input = Heard (I ns nr p) Command in
    let is = (taken (refused input e) (end_step r (row r e.state input (begin e))) s done).1 in
    let first = frame_ups r ns p e in
    let F : StepState → ℕ = λ t. ups t.outs in
    sym (ap F is)
    ∙ (closed r (row r e.state input (begin e)) (preserved_by_row r input e).spoken).same_ups
    refl
    ∙ frame_in r e.state ns nr p (begin e) (i_frame_ns r ns p (begin e)).end opened first.0
    (begun_frame r ns p e first.0) ∙ first.1

frame_or_none : (r : Reading) (ns nr : ℕ) (p : Bool) (e : End) (s : StepState) (opened : Bool)
    → is_7_or_8 e.state ≡ opened → step r (Heard (I ns nr p) Command) e ≡ Ok s
    → ups s.outs ≡ (if opened && is_accepted ns e.window then 1 else 0)
frame_or_none r ns nr p e s true opened done = taken_ups r ns nr p e s opened done
frame_or_none r ns nr p e s false opened done =
    (preserved_by_step r (Heard (I ns nr p) Command) e s done).same_ups opened

pub ups_after : (r : Reading) (input : Input) (e : End) (s : StepState) → step r input e ≡ Ok s
    → ups s.outs ≡ (if accepts input e then 1 else 0)
ups_after r (Heard (I ns nr p) Command) e s done =
    frame_or_none r ns nr p e s (is_7_or_8 e.state) refl done
ups_after r (Heard (I ns nr p) Answer) e s done =
    (preserved_by_step r (Heard (I ns nr p) Answer) e s done).same_ups refl
ups_after r (Heard (Rr nr pf) role) e s done =
    (preserved_by_step r (Heard (Rr nr pf) role) e s done).same_ups refl
ups_after r (Heard (Rnr nr pf) role) e s done =
    (preserved_by_step r (Heard (Rnr nr pf) role) e s done).same_ups refl
ups_after r (Heard (Rej nr pf) role) e s done =
    (preserved_by_step r (Heard (Rej nr pf) role) e s done).same_ups refl
ups_after r (Heard (Sabme p) role) e s done =
    (preserved_by_step r (Heard (Sabme p) role) e s done).same_ups refl
ups_after r (Heard (Dm f) role) e s done =
    (preserved_by_step r (Heard (Dm f) role) e s done).same_ups refl
ups_after r (Heard (Ui p) role) e s done =
    (preserved_by_step r (Heard (Ui p) role) e s done).same_ups refl
ups_after r (Heard (Disc p) role) e s done =
    (preserved_by_step r (Heard (Disc p) role) e s done).same_ups refl
ups_after r (Heard (Ua f) role) e s done =
    (preserved_by_step r (Heard (Ua f) role) e s done).same_ups refl
ups_after r (Heard (Frmr f) role) e s done =
    (preserved_by_step r (Heard (Frmr f) role) e s done).same_ups refl
ups_after r (Heard (Xid pf) role) e s done =
    (preserved_by_step r (Heard (Xid pf) role) e s done).same_ups refl
ups_after r (Faulty kind) e s done = (preserved_by_step r (Faulty kind) e s done).same_ups refl
ups_after r (Expiry timer) e s done = (preserved_by_step r (Expiry timer) e s done).same_ups refl
ups_after r Establish e s done = (preserved_by_step r Establish e s done).same_ups refl
ups_after r Release e s done = (preserved_by_step r Release e s done).same_ups refl
ups_after r BusyOn e s done = (preserved_by_step r BusyOn e s done).same_ups refl
ups_after r BusyOff e s done = (preserved_by_step r BusyOff e s done).same_ups refl
ups_after r (UnitData len) e s done = (preserved_by_step r (UnitData len) e s done).same_ups refl
ups_after r (Give message) e s done = (preserved_by_step r (Give message) e s done).same_ups refl
