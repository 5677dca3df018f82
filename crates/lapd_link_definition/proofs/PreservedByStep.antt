-- Properties that a step keeps in any state: parameters, the grammar of sent frames, and short
-- messages. Except for certain inputs it also keeps the accepted messages and the number of
-- establishments, and delivers nothing to layer 3.
use Rattle.std.proofs.Common.{◌≡◌, ◌-◌, ℕ, ◌+◌, ◌≤◌, ◌==◌, nat_lt, Bool, true, false, if◌then◌else◌, List, [], ◌∷◌, ◌++◌, length, Option, Some, None, Result, Ok, refl, subst, arith}
use Rattle.std.proofs.lemmas.Bool.Decides.{nat_tests}
use Rattle.lapd_timers.specs.declared.timer.Timer.{Timer}
use Rattle.lapd_timers.specs.declared.timer.Timer.TheVariants.{T200, T201, T202, T203}
use Rattle.lapd_frame.specs.declared.Role.{Role}
use Rattle.lapd_frame.specs.declared.Role.TheVariants.{Command, Answer}
use Rattle.lapd_frame.specs.declared.Control.{Control}
use Rattle.lapd_frame.specs.declared.Control.TheVariants.{I, Rr, Rnr, Rej}
use Rattle.lapd_frame.specs.Frame.{n201, at_most_n201, content_fault}
use Rattle.lapd_mod128.specs.Counting.{Reading}
use Rattle.lapd_supervision.specs.StateVariables.{StateVariables, status_frame, acknowledgement, poll_response, is_accepted, is_rejected, after_i_frame, i_frame_response, acknowledged_count, next_i_frame, last_i_frame, with_own_busy}
use Rattle.lapd_link_definition.specs.declared.event.LinkFault.{LinkFault}
use Rattle.lapd_link_definition.specs.declared.event.LinkFault.TheVariants.{TooLong}
use Rattle.lapd_link_definition.specs.declared.state.State.{State}
use Rattle.lapd_link_definition.specs.declared.out.Out.{Out}
use Rattle.lapd_link_definition.specs.declared.out.Out.TheVariants.{Send, SendMessage, SendUnit, Up, UnitUp, Established, Confirmed, Released, ReleaseConfirm, Acknowledged, Dropped, Start, Stop, Report}
use Rattle.lapd_link_definition.specs.Begins.{begins}
use Rattle.lapd_link_definition.specs.EndOfStep.{is_7_or_8, end_step}
use Rattle.lapd_link_definition.specs.Counts.{ups}
use Rattle.lapd_link_definition.specs.End.{End, StepState, begin, waiting, runs, with_timer}
use Rattle.lapd_link_definition.specs.Input.{Input, Heard, Give}
use Rattle.lapd_link_definition.specs.Parameters.{Parameters}
use Rattle.lapd_link_definition.specs.Procedures.{out_where, counted, response_of}
use Rattle.lapd_link_definition.specs.Refusal.{refused}
use Rattle.lapd_link_definition.specs.SentFrames.{AreWellFormed, AreShort}
use Rattle.lapd_link_definition.specs.Table.{row, unless, step}
use Rattle.lapd_link_definition.proofs.EachAction.{IsPut, PreservedByActions, row_preserves, close_preserves}
use Rattle.lapd_link_definition.proofs.ComputedStep.{each_action}

-- ---- Outputs in the grammar that deliver no message to layer 3.

abbrev pub AreQuiet : List Out → Type 0
AreQuiet outs = AreWellFormed outs × (ups outs ≡ 0)

well_formed_both : (xs ys : List Out) → AreWellFormed xs → AreWellFormed ys
    → AreWellFormed (xs ++ ys)
well_formed_both [] ys hx hy = hy
well_formed_both (x ∷ xs) ys hx hy = (hx.0, well_formed_both xs ys hx.1 hy)

pub ups_both : (xs ys : List Out) → ups (xs ++ ys) ≡ ups xs + ups ys
ups_both [] ys = omega arith
ups_both (Up ∷ xs) ys = omega (arith, ups_both xs ys)
ups_both (x ∷ xs) ys = ups_both xs ys

quiet_both : (xs ys : List Out) → AreQuiet xs → AreQuiet ys → AreQuiet (xs ++ ys)
quiet_both xs ys hx hy =
    (well_formed_both xs ys hx.0 hy.0, omega (arith, ups_both xs ys, hx.1, hy.1))

quiet_where : (on : Bool) (out : Out) → AreQuiet (out ∷ []) → AreQuiet (out_where on out)
quiet_where true out h = h
quiet_where false out h = (tt, refl)

put_is_quiet : (out : Out) → IsPut out → AreQuiet (out ∷ [])
put_is_quiet (Send role control) h = ((h.0, tt), refl)
put_is_quiet SendUnit h = ((tt, tt), refl)
put_is_quiet Established h = ((tt, tt), refl)
put_is_quiet Confirmed h = ((tt, tt), refl)
put_is_quiet Released h = ((tt, tt), refl)
put_is_quiet ReleaseConfirm h = ((tt, tt), refl)
put_is_quiet (Report letter) h = ((tt, tt), refl)
put_is_quiet out h = absurd h

status_in : (role : Role) (busy pf : Bool) (n : ℕ)
    → content_fault role (if busy then Rnr n pf else Rr n pf) 0 ≡ None
status_in Command true pf n = refl
status_in Command false pf n = refl
status_in Answer true pf n = refl
status_in Answer false pf n = refl

status_is_well_formed : (role : Role) (pf : Bool) (m : StateVariables)
    → content_fault role (status_frame pf m) 0 ≡ None
unfolding status_frame
status_is_well_formed role pf m = status_in role m.own_busy pf m.vr

rr_is_well_formed : (m : StateVariables) → content_fault Answer (acknowledgement m) 0 ≡ None
unfolding acknowledgement
rr_is_well_formed m = refl

poll_is_quiet : (p : Bool) (m : StateVariables) → AreQuiet (response_of (poll_response p m))
unfolding poll_response
poll_is_quiet true m = ((status_is_well_formed Answer true m, tt), refl)
poll_is_quiet false m = (tt, refl)

response_in : (rejected p : Bool) (n : ℕ) (other : Option Control) → AreQuiet (response_of other)
    → AreQuiet (response_of (if rejected then Some (Rej n p) else other))
response_in true p n other h = ((refl, tt), refl)
response_in false p n other h = h

pub response_is_quiet : (r : Reading) (ns : ℕ) (p : Bool) (m : StateVariables)
    → AreQuiet (response_of (i_frame_response r ns p m))
unfolding i_frame_response
response_is_quiet r ns p m =
    response_in (is_rejected ns m) p m.vr (poll_response p (after_i_frame r ns p m))
    (poll_is_quiet p (after_i_frame r ns p m))

up_is_well_formed : (on : Bool) → AreWellFormed (out_where on Up)
up_is_well_formed true = (tt, tt)
up_is_well_formed false = tt

fits : (len : ℕ) → len ≤ n201 → at_most_n201 len ≡ None
fits len h = let no : nat_lt 260 len ≡ false = grind (arith, nat_tests) in rw no refl

last_i_frame_is_well_formed : (r : Reading) (m : StateVariables) (len : ℕ) → len ≤ n201
    → content_fault Command (last_i_frame r m) len ≡ None
unfolding last_i_frame
last_i_frame_is_well_formed r m len h = fits len h

i_frame_is_well_formed : (m : StateVariables) (len : ℕ) → len ≤ n201
    → content_fault Command (next_i_frame m) len ≡ None
unfolding next_i_frame
i_frame_is_well_formed m len h = fits len h

lost_is_quiet : (same : Bool) (n : ℕ)
    → AreQuiet (if same then [] else counted n Dropped ++ Established ∷ [])
lost_is_quiet true n = (tt, refl)
lost_is_quiet false n =
    quiet_both (counted n Dropped) (Established ∷ [])
    (quiet_where (nat_lt 0 n) (Dropped n) ((tt, tt), refl)) ((tt, tt), refl)

unless_quiet : (on : Bool) (outs : List Out) → AreQuiet outs → AreQuiet (if on then [] else outs)
unless_quiet true outs h = (tt, refl)
unless_quiet false outs h = h

short_both : (xs : List (List ℕ)) (message : List ℕ) → AreShort xs → length message ≤ n201
    → AreShort (xs ++ message ∷ [])
short_both [] message hx h = (h, tt)
short_both (x ∷ xs) message hx h = (hx.0, short_both xs message hx.1 h)

-- ---- Properties that are kept since an end e with n messages delivered to layer 3. The marks say
-- if a message is accepted, an establishment begins, or an I frame is accepted. Fits says that an
-- accepted message has at most N201 octets.

pub record PreservedByStep (e : End) (n : ℕ) (gives begins takes : Bool) (Fits : Type 0)
    (parameters : Parameters) (given : List (List ℕ)) (establishments : ℕ) (outs : List Out) : Type
    0 where
  pub same_parameters : parameters ≡ e.parameters
  pub same_given : gives ≡ false → given ≡ e.given
  pub short : Fits → AreShort e.given → AreShort given
  pub same_establishment : begins ≡ false → establishments ≡ e.establishments
  pub spoken : AreWellFormed outs
  pub same_ups : takes ≡ false → ups outs ≡ n

module _ (r : Reading) (e : End) (n : ℕ) (gives begins takes : Bool) (Fits : Type 0) where
  abbrev pub IsKept : StepState → Type 0
  IsKept s =
      PreservedByStep e n gives begins takes Fits s.end.parameters s.end.given s.end.establishments
      s.outs

  added : {p : Parameters} {given : List (List ℕ)} {count : ℕ} {outs : List Out} (more : List Out)
      → AreQuiet more → PreservedByStep e n gives begins takes Fits p given count outs
      → PreservedByStep e n gives begins takes Fits p given count (outs ++ more)
  added {outs = outs} more quiet h = record {
    same_parameters = h.same_parameters;
    same_given = h.same_given;
    short = h.short;
    same_establishment = h.same_establishment;
    spoken = well_formed_both outs more h.spoken quiet.0;
    same_ups =
        λ not_taken. let before =
        h.same_ups not_taken in omega (arith, ups_both outs more, before, quiet.1);
  }

  timed : (timer : Timer) (on : Bool) (s : StepState) → IsKept s
      → IsKept (record { end = with_timer timer on s.end; outs = s.outs })
  timed T200 on s h = h
  timed T201 on s h = h
  timed T202 on s h = h
  timed T203 on s h = h

  pub preserved : PreservedByActions r (λ timer s. Unit {0}) IsKept IsKept
      (λ message. (gives ≡ true) × (Fits → length message ≤ n201)) (begins ≡ true) (takes ≡ true)
      (Unit {0}) (Unit {0}) (λ nr. Unit {0})
  unfolding each_action
  preserved = record {
    puts = λ out s ok h. added (out ∷ []) (put_is_quiet out ok) h;
    unit_ups = λ s u h. added (UnitUp ∷ []) ((tt, tt), refl) h;
    states = λ state s h. h;
    rcs = λ k s h. h;
    increments = λ s h. h;
    layer3s = λ on s h. h;
    pendings = λ on s h. h;
    starts = λ timer s h. added (Start timer ∷ []) ((tt, tt), refl) (timed timer true s h);
    stops =
        λ timer s h. added (out_where (runs timer s.end) (Stop timer))
        (quiet_where (runs timer s.end) (Stop timer) ((tt, tt), refl)) (timed timer false s h);
    still_expires = λ timer s x. tt;
    expires = λ timer s x h. timed timer false s h;
    clears = λ s h. h;
    zeroes =
        λ s b h. record {
          same_parameters = h.same_parameters;
          same_given = h.same_given;
          short = h.short;
          same_establishment = λ no. cc;
          spoken = h.spoken;
          same_ups = h.same_ups;
        };
    peers = λ on s h. h;
    owns =
        λ on s h. added (Send Answer (status_frame false (with_own_busy on s.end.window)) ∷ [])
        ((status_is_well_formed Answer false (with_own_busy on s.end.window), tt), refl) h;
    responds =
        λ s h. added (Send Answer (status_frame true s.end.window) ∷ [])
        ((status_is_well_formed Answer true s.end.window, tt), refl) h;
    enquires =
        λ s h. added (Send Command (status_frame true s.end.window) ∷ Start T200 ∷ [])
        ((status_is_well_formed Command true s.end.window, (tt, tt)), refl) h;
    repeats =
        λ s g h. added
        (SendMessage (s.end.next - 1 - s.end.first) (last_i_frame r s.end.window) ∷ Start T200 ∷ [])
        ((last_i_frame_is_well_formed r s.end.window, (tt, tt)), refl) h;
    queues = λ message s given h. record {
      same_parameters = h.same_parameters;
      same_given = λ no. let yes = given.0 in cc;
      short = λ fit before. short_both s.end.given message (h.short fit before) (given.1 fit);
      same_establishment = h.same_establishment;
      spoken = h.spoken;
      same_ups = h.same_ups;
    };
    discards =
        λ s h. added (counted (waiting s.end) Dropped)
        (quiet_where (nat_lt 0 (waiting s.end)) (Dropped (waiting s.end)) ((tt, tt), refl)) h;
    loses =
        λ s h. added (if s.end.window.vs == s.end.window.va then []
        else counted (waiting s.end) Dropped ++ Established ∷ [])
        (lost_is_quiet (s.end.window.vs == s.end.window.va) (waiting s.end)) h;
    takes = λ ns p s t h. record {
      same_parameters = h.same_parameters;
      same_given = h.same_given;
      short = h.short;
      same_establishment = h.same_establishment;
      spoken =
          well_formed_both (s.outs ++ out_where (is_accepted ns s.end.window) Up)
          (response_of (i_frame_response r ns p s.end.window))
          (well_formed_both s.outs (out_where (is_accepted ns s.end.window) Up) h.spoken
          (up_is_well_formed (is_accepted ns s.end.window)))
          (response_is_quiet r ns p s.end.window).0;
      same_ups = λ no. cc;
    };
    follows = λ s h. h;
    acknowledges =
        λ nr s number valid h. added (counted (acknowledged_count r nr s.end.window) Acknowledged)
        (quiet_where (nat_lt 0 (acknowledged_count r nr s.end.window))
        (Acknowledged (acknowledged_count r nr s.end.window)) ((tt, tt), refl)) h;
    retransmits = λ nr s number valid h. h;
    rcs_then = λ k s h. h;
    states_then = λ state s h. h;
    starts_then = λ timer s h. added (Start timer ∷ []) ((tt, tt), refl) (timed timer true s h);
    stops_then =
        λ timer s h. added (out_where (runs timer s.end) (Stop timer))
        (quiet_where (runs timer s.end) (Stop timer) ((tt, tt), refl)) (timed timer false s h);
    sends = λ s g go h. added _ ((i_frame_is_well_formed s.end.window, tt), refl) h;
    ensures_t200 =
        λ s h. added (if s.end.t200 then [] else Start T200 ∷ [])
        (unless_quiet s.end.t200 (Start T200 ∷ []) ((tt, tt), refl))
        (added (if s.end.t200 then [] else out_where s.end.t203 (Stop T203))
        (unless_quiet s.end.t200 (out_where s.end.t203 (Stop T203))
        (quiet_where s.end.t203 (Stop T203) ((tt, tt), refl))) h);
    reporting =
        λ s h. added (Send Answer (acknowledgement s.end.window) ∷ [])
        ((rr_is_well_formed s.end.window, tt), refl) h;
  }

-- ---- A row, the end of a step, and a whole step.

abbrev pub is_give : Input → Bool
is_give (Give message) = true
is_give input = false

-- an I command in states 7 and 8
abbrev pub is_taken : State → Input → Bool
is_taken state (Heard (I ns nr p) Command) = is_7_or_8 state
is_taken state input = false

abbrev pub Fits : Input → Type 0
Fits input = (message : List ℕ) → input ≡ Give message → length message ≤ n201

abbrev pub PreservedBy : Reading → Input → End → StepState → Type 0
PreservedBy r input e s =
    IsKept r e 0 (is_give input) (begins e.state e.release_pending input) (is_taken e.state input)
    (Fits input) s

pub preserved_by_row : (r : Reading) (input : Input) (e : End)
    → PreservedBy r input e (row r e.state input (begin e))
unfolding begin
preserved_by_row r input e =
    row_preserves r _ (PreservedBy r input e) (PreservedBy r input e) _ _ _ _ _ _ (preserved r e
    0 (is_give input) (begins e.state e.release_pending input) (is_taken e.state input)
    (Fits input)) e.state input (begin e)
    (λ message same. (rw same refl, λ fit. fit message same)) (λ b. b)
    (λ opened ns nr p same. rw same opened) (λ u. tt) (λ there same. tt) (λ nr same. tt)
    (λ timer same. tt)
    (record {
      same_parameters = refl;
      same_given = λ _. refl;
      short = λ _ before. before;
      same_establishment = λ _. refl;
      spoken = tt;
      same_ups = λ _. refl;
    })

-- the end of a step keeps all of these properties
pub closed : (r : Reading) (s : StepState) → AreWellFormed s.outs
    → IsKept r s.end (ups s.outs) false false false (Unit {0}) (end_step r s)
closed r s spoken =
    close_preserves r _ (IsKept r s.end (ups s.outs) false false false (Unit {0}))
    (IsKept r s.end (ups s.outs) false false false (Unit {0})) _ _ _ _ _ _
    (preserved r s.end (ups s.outs) false false false (Unit {0})) s tt
    (record {
      same_parameters = refl;
      same_given = λ _. refl;
      short = λ _ before. before;
      same_establishment = λ _. refl;
      spoken = spoken;
      same_ups = λ _. refl;
    })

abbrev Done : StepState → Result StepState LinkFault
Done s = Ok s

same_done : (s t : StepState) → Done s ≡ Done t → s ≡ t
same_done s t h = cc

-- a step that is not refused is its row, followed by the end of the step
pub taken : (refusal : Option LinkFault) (s t : StepState) → unless refusal s ≡ Ok t
    → (refusal ≡ None) × (s ≡ t)
taken None s t h = (refl, same_done s t h)
taken (Some fault) s t h = cc

pub preserved_by_close : (r : Reading) (input : Input) (e : End)
    → PreservedBy r input e (end_step r (row r e.state input (begin e)))
preserved_by_close r input e =
    close_preserves r _ (PreservedBy r input e) (PreservedBy r input e) _ _ _ _ _ _ (preserved r e
    0 (is_give input) (begins e.state e.release_pending input) (is_taken e.state input)
    (Fits input))
    (row r e.state input (begin e)) tt (preserved_by_row r input e)

pub preserved_by_step : (r : Reading) (input : Input) (e : End) (s : StepState)
    → step r input e ≡ Ok s → PreservedBy r input e s
unfolding step
preserved_by_step r input e s done =
    subst (PreservedBy r input e)
    (taken (refused input e) (end_step r (row r e.state input (begin e))) s done).1
    (preserved_by_close r input e)

-- ---- The laws.

pub row_preserves_parameters : (r : Reading) (input : Input) (e : End)
    → (row r e.state input (begin e)).end.parameters ≡ e.parameters
row_preserves_parameters r input e = (preserved_by_row r input e).same_parameters

pub step_preserves_parameters : (r : Reading) (input : Input) (e : End) (s : StepState)
    → step r input e ≡ Ok s → s.end.parameters ≡ e.parameters
step_preserves_parameters r input e s done = (preserved_by_step r input e s done).same_parameters

fitting : (long : Bool) (len : ℕ) (other : Option LinkFault) → nat_lt 260 len ≡ long
    → (if long then Some TooLong else other) ≡ None → len ≤ n201
fitting false len other long h = grind (arith, nat_tests)
fitting true len other long h = cc

given_fits : (message : List ℕ) (e : End) → refused (Give message) e ≡ None → length message ≤ n201
given_fits message e h = fitting (nat_lt 260 (length message)) (length message) _ refl h

pub step_is_well_formed : (r : Reading) (input : Input) (e : End) (s : StepState)
    → step r input e ≡ Ok s → AreWellFormed s.outs
step_is_well_formed r input e s done = (preserved_by_step r input e s done).spoken

pub step_is_short : (r : Reading) (input : Input) (e : End) (s : StepState) → AreShort e.given
    → step r input e ≡ Ok s → AreShort s.end.given
unfolding step
step_is_short r input e s before done =
    let allowed = (taken (refused input e) (end_step r (row r e.state input (begin e))) s done).0 in
    (preserved_by_step r input e s done).short
    (λ message same. given_fits message e (rw same at allowed)) before
