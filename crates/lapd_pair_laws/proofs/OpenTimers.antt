-- Timers expire in states 7 and 8, and the own busy condition changes.
use Rattle.std.proofs.Common.{◌≡◌, ℕ, ◌<◌, ◌≤◌, nat_lt, ◌==◌, ◌&&◌, not, Bool, true, false, List, refl, sym, ap, subst, arith}
use Rattle.std.proofs.lemmas.Bool.Decides.{nat_tests}
use Rattle.lapd_timers.specs.declared.timer.Timer.TheVariants.{T200, T203}
use Rattle.lapd_mod128.specs.Counting.{Whole}
use Rattle.lapd_link_definition.specs.declared.recovery.Recovery.{Recovery}
use Rattle.lapd_link_definition.specs.declared.recovery.Recovery.TheVariants.{Enquiry, LastMessage}
use Rattle.lapd_link_definition.specs.declared.state.State.{State}
use Rattle.lapd_link_definition.specs.declared.state.State.TheVariants.{MultipleFrameEstablished, TimerRecovery}
use Rattle.lapd_link_definition.specs.declared.out.Letter.TheVariants as letter
use Rattle.lapd_link_definition.specs.declared.out.Out.TheVariants.{Report}
use Rattle.lapd_link_definition.specs.EndOfStep.{is_7_or_8, end_step}
use Rattle.lapd_link_definition.specs.End.{StepState, ◌▷◌}
use Rattle.lapd_link_definition.specs.Established.{busy_on, busy_off, sends_last, established_t200}
use Rattle.lapd_link_definition.specs.Procedures.{put, state_to, rc_to, increment_rc, expired, transmit_enquiry, retransmit_last_i_frame}
use Rattle.lapd_link_definition.specs.TimerRecovery.{timer_recovery_t200}
use Rattle.lapd_supervision.specs.StateVariables.{StateVariables}
use Rattle.lapd_pair_laws.specs.Move.{story_after}
use Rattle.lapd_pair_laws.specs.Kinds.{Kind}
use Rattle.lapd_pair_laws.specs.Conjuncts.{IsNumbering}
use Rattle.lapd_pair_laws.specs.Invariant.{Both}
use Rattle.lapd_pair_laws.proofs.Closes.{mid_last}
use Rattle.lapd_pair_laws.proofs.ClosedRows.{here, ends_reestablishing}
use Rattle.lapd_pair_laws.proofs.ActionEffects.{Context, seen, line, HoldsMid, mid_rc, mid_increment, mid_expired, mid_own_busy, mid_enquiry}
use Rattle.lapd_pair_laws.proofs.Lists.{by_test}
use Rattle.lapd_pair_laws.proofs.MidSteps.{enter, numbering}
use Rattle.lapd_pair_laws.proofs.Polls.{IsSettled, settled_in_7}
use Rattle.lapd_pair_laws.proofs.ClosedActions.{Ends, seems_put, seems_expired}
use Rattle.lapd_pair_laws.proofs.Steps.{ends_open}

-- ---- Own busy condition.

pub mid_busy_on : (c : Context) (s : StepState) (back : List Kind) → HoldsMid c back s
    → HoldsMid c back (busy_on s)
unfolding busy_on
mid_busy_on c s back m =
    by_test (λ (t : StepState). HoldsMid c back t) s.end.window.own_busy _ _ (λ _. m)
    (λ _. mid_own_busy c true s back m)

pub mid_busy_off : (c : Context) (s : StepState) (back : List Kind) → HoldsMid c back s
    → HoldsMid c back (busy_off s)
unfolding busy_off
mid_busy_off c s back m =
    by_test (λ (t : StepState). HoldsMid c back t) s.end.window.own_busy _ _
    (λ _. mid_own_busy c false s back m) (λ _. m)

-- ---- In state 7.

-- the order of setting RC and the state does not matter
enquiry_in_order : (c : Context) (n : ℕ) (s : StepState) (back : List Kind)
    → HoldsMid c back (state_to TimerRecovery (transmit_enquiry s))
    → HoldsMid c back (s ▷ transmit_enquiry ▷ rc_to n ▷ state_to TimerRecovery)
unfolding rc_to state_to
enquiry_in_order c n s back m = mid_rc c n (state_to TimerRecovery (transmit_enquiry s)) back m

last_in_order : (c : Context) (n : ℕ) (s : StepState) (back : List Kind)
    → HoldsMid c back (state_to TimerRecovery (retransmit_last_i_frame Whole s))
    → HoldsMid c back (s ▷ retransmit_last_i_frame Whole ▷ rc_to n ▷ state_to TimerRecovery)
unfolding rc_to state_to
last_in_order c n s back m =
    mid_rc c n (state_to TimerRecovery (retransmit_last_i_frame Whole s)) back m

some_outstanding : (recovery : Recovery) (w : StateVariables) → sends_last recovery w ≡ true
    → w.va ≤ w.vs → w.va < w.vs
some_outstanding Enquiry w is ordered = cc
some_outstanding LastMessage w is ordered = by_busy w.peer_busy (w.vs == w.va) refl is
  where
    by_busy : (busy none : Bool) → (w.vs == w.va) ≡ none → (not busy && not none) ≡ true
        → w.va < w.vs
    by_busy true none same both = cc
    by_busy false true same both = cc
    by_busy false false same both = grind (arith, same, ordered, nat_tests)

pub mid_t200_in_7 : (c : Context) (s : StepState) (back : List Kind)
    → s.end.state ≡ MultipleFrameEstablished → HoldsMid c back s
    → HoldsMid c back (established_t200 Whole s)
unfolding established_t200 expired
mid_t200_in_7 c s back is m =
    let t = expired T200 s in
    let after : HoldsMid c back t = mid_expired c T200 s back m in
    by_test (λ (t : StepState). HoldsMid c back t)
    (sends_last s.end.parameters.recovery s.end.window) _ _
    (λ last. let n
    : IsNumbering (seen c s).sends =
    numbering m in last_in_order c 1 t back
    (mid_last c t back is
    (some_outstanding s.end.parameters.recovery s.end.window last n.ordered) after))
    (λ _. enquiry_in_order c 1 t back
    (mid_enquiry c t back (settled_in_7 (seen c t) c.peer (line c t) back is after) after))

pub mid_t203_in_7 : (c : Context) (s : StepState) (back : List Kind)
    → s.end.state ≡ MultipleFrameEstablished → HoldsMid c back s
    → HoldsMid c back (s ▷ expired T203 ▷ rc_to 0 ▷ transmit_enquiry ▷ state_to TimerRecovery)
unfolding expired rc_to
mid_t203_in_7 c s back is m =
    let t = s ▷ expired T203 ▷ rc_to 0 in
    let after : HoldsMid c back t =
    mid_rc c 0 (expired T203 s) back (mid_expired c T203 s back m) in
    mid_enquiry c t back (settled_in_7 (seen c t) c.peer (line c t) back is after) after

-- ---- In state 8, with no poll and no final in transit.

-- the state is set to its present value
in_8_still : (c : Context) (s : StepState) (back : List Kind) → s.end.state ≡ TimerRecovery
    → HoldsMid c back (state_to TimerRecovery (transmit_enquiry s))
    → HoldsMid c back (transmit_enquiry s)
unfolding state_to transmit_enquiry
in_8_still c s back is m =
    subst (λ (t : StepState). HoldsMid c back t) (ap (λ st. at st) (sym is)) m
  where
    at : State → StepState
    at st = record {
      end = record ((transmit_enquiry s).end) { state = st };
      outs = (transmit_enquiry s).outs;
    }

repeated : (c : Context) (s : StepState) (back : List Kind) → s.end.state ≡ TimerRecovery
    → IsSettled (seen c s) c.peer (line c s) back → HoldsMid c back s
    → HoldsMid c back (s ▷ increment_rc ▷ expired T200 ▷ transmit_enquiry)
unfolding increment_rc expired story_after
repeated c s back is settled m =
    let t = s ▷ increment_rc ▷ expired T200 in
    let after : HoldsMid c back t =
    mid_expired c T200 (increment_rc s) back (mid_increment c s back m) in
    in_8_still c t back is
    (mid_enquiry c t back (record { polls = settled.polls; finals = settled.finals }) after)

pub ends_t200_in_8 : (c : Context) (s : StepState) (back : List Kind) → s.end.state ≡ TimerRecovery
    → IsSettled (seen c s) c.peer (line c s) back → Both (seen c s) c.peer (line c s) back
    → Ends c back (end_step Whole (timer_recovery_t200 s))
unfolding timer_recovery_t200
ends_t200_in_8 c s back is settled b =
    let opened : is_7_or_8 s.end.state ≡ true = ap (λ st. is_7_or_8 st) is in
    by_test (λ (t : StepState). Ends c back (end_step Whole t))
    (nat_lt s.end.rc s.end.parameters.n200) _ _
    (λ _. ends_open c back (s ▷ increment_rc ▷ expired T200 ▷ transmit_enquiry) (again opened))
    (λ _. ends_reestablishing c back s (s ▷ expired T200 ▷ put (Report letter.I)) opened
    (seems_put c (Report letter.I) (s ▷ expired T200) (seen c s) (line c s) (λ o t. refl)
    (seems_expired c s (seen c s) (line c s) (here c s))) b)
  where
    again : is_7_or_8 s.end.state ≡ true
        → HoldsMid c back (s ▷ increment_rc ▷ expired T200 ▷ transmit_enquiry)
    again opened = repeated c s back is settled (enter (seen c s) c.peer (line c s) back opened b)
