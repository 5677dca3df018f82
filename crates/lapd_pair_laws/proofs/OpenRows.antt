-- Frames with N(R) that arrive in states 7 and 8.
use Rattle.std.proofs.Common.{◌≡◌, ℕ, ◌-◌, ◌≤◌, nat_le, ◌==◌, if◌then◌else◌, Bool, true, false, List, ◌∷◌, refl, ◌∙◌, arith}
use Rattle.std.proofs.lemmas.Bool.Decides.{nat_tests}
use Rattle.lapd_timers.specs.declared.timer.Timer.TheVariants.{T200, T203}
use Rattle.lapd_frame.specs.declared.Role.{Role}
use Rattle.lapd_frame.specs.declared.Role.TheVariants.{Command, Answer}
use Rattle.lapd_frame.specs.declared.Control.{Control}
use Rattle.lapd_frame.specs.declared.Control.TheVariants.{I, Rr, Rnr, Rej}
use Rattle.lapd_mod128.specs.Counting.{Whole, lies_within, steps}
use Rattle.lapd_supervision.specs.StateVariables.{is_valid_nr, acknowledges_all, with_va, with_vs, acknowledged_count, with_peer_busy}
use Rattle.lapd_link_definition.specs.declared.state.State.TheVariants.{MultipleFrameEstablished, TimerRecovery}
use Rattle.lapd_link_definition.specs.declared.out.Out.TheVariants.{Acknowledged}
use Rattle.lapd_link_definition.specs.End.{StepState}
use Rattle.lapd_link_definition.specs.Established.{poll_or_final, acknowledge_with_timers, i_frame_nr, rr_nr, rej_nr, rnr_nr, multiple_frame_established}
use Rattle.lapd_link_definition.specs.Input.{Heard}
use Rattle.lapd_link_definition.specs.Procedures.{counted, state_to, start, stop, set_peer_busy, enquiry_response, acknowledge, invoke_retransmission, i_frame_ns}
use Rattle.lapd_link_definition.specs.TimerRecovery.{poll, i_frame_nr_in_recovery, rr_nr_in_recovery, rnr_nr_in_recovery, timer_recovery}
use Rattle.lapd_pair_laws.specs.Move.{story_after}
use Rattle.lapd_pair_laws.specs.Kinds.{Kind, Numbered, Status, Rejection, Enquiry, Final, Foreign, kind_of, tally, final_of, numbers}
use Rattle.lapd_pair_laws.specs.Parties.{receives, frames_received}
use Rattle.lapd_pair_laws.specs.Conjuncts.{NoneAsked}
use Rattle.lapd_pair_laws.proofs.Acknowledges.{acknowledging}
use Rattle.lapd_pair_laws.proofs.GoingBack.{backing, back_by_rejection, back_by_final, none_asked_in_7}
use Rattle.lapd_pair_laws.proofs.ActionEffects.{Context, story, occasion, seen, line, HoldsMid, after_outputs_append, acked_story, after_acknowledged, moved, mid_peer_busy, mid_start, mid_stop, mid_response, mid_acknowledge}
use Rattle.lapd_pair_laws.proofs.Lists.{by_test}
use Rattle.lapd_pair_laws.proofs.MidSteps.{put_away}
use Rattle.lapd_pair_laws.proofs.Polls.{established}
use Rattle.lapd_pair_laws.proofs.Receives.{current, mid_ns}
use Rattle.lapd_pair_laws.proofs.Runs.{climb_top}
use Rattle.lapd_pair_laws.proofs.FrameOfStep.{turned, rejection_left, final_left}

-- ---- The N(R) is valid.

pub valid_whole : (va nr vs : ℕ) → va ≤ nr → nr ≤ vs → lies_within Whole va nr vs ≡ true
unfolding lies_within
valid_whole va nr vs low high =
    let a : nat_le va nr ≡ true = grind (arith, low, nat_tests) in
    let b : nat_le nr vs ≡ true = grind (arith, high, nat_tests) in rw (a, b) refl

pub valid : (c : Context) (nr : ℕ) (ks : List Kind) (s : StepState) → HoldsMid c (Status nr ∷ ks) s
    → is_valid_nr Whole nr s.end.window ≡ true
unfolding is_valid_nr
valid c nr ks s m =
    let climb = m.its.reception.acks.climb in
    valid_whole s.end.window.va nr s.end.window.vs climb.0
    (climb_top nr s.end.window.vs (numbers ks) climb.1)

abbrev Done : Context → List Kind → StepState → Type 0
Done c ks t = HoldsMid c ks t

when_valid : (c : Context) (nr : ℕ) (ks : List Kind) (s x y : StepState)
    → HoldsMid c (Status nr ∷ ks) s → HoldsMid c ks x
    → HoldsMid c ks (if is_valid_nr Whole nr s.end.window then x else y)
when_valid c nr ks s x y m done =
    by_test (Done c ks) (is_valid_nr Whole nr s.end.window) x y (λ _. done)
    (λ no_. let yes_ : is_valid_nr Whole nr s.end.window ≡ true = valid c nr ks s m in cc)

-- ---- In state 7.

mid_timers : (c : Context) (nr : ℕ) (ks : List Kind) (s : StepState) → HoldsMid c (Status nr ∷ ks) s
    → HoldsMid c ks (acknowledge_with_timers Whole nr s)
unfolding acknowledge_with_timers
mid_timers c nr ks s m =
    let done : HoldsMid c ks (acknowledge Whole nr s) = mid_acknowledge c nr s ks m in
    by_test (Done c ks) (acknowledges_all nr s.end.window) _ _
    (λ _. mid_start c T203 (stop T200 (acknowledge Whole nr s)) ks
    (mid_stop c T200 (acknowledge Whole nr s) ks done))
    (λ _. by_test (Done c ks) (nr == s.end.window.va) _ _
    (λ _. put_away (seen c s) c.peer (line c s) (Status nr) ks m)
    (λ _. mid_start c T200 (acknowledge Whole nr s) ks done))

mid_i_nr : (c : Context) (nr : ℕ) (ks : List Kind) (s : StepState) → HoldsMid c (Status nr ∷ ks) s
    → HoldsMid c ks (i_frame_nr Whole nr s)
unfolding i_frame_nr
mid_i_nr c nr ks s m =
    when_valid c nr ks s _ _ m (by_test (Done c ks) s.end.window.peer_busy _ _
    (λ _. mid_acknowledge c nr s ks m) (λ _. mid_timers c nr ks s m))

mid_rr_nr : (c : Context) (nr : ℕ) (ks : List Kind) (s : StepState) → HoldsMid c (Status nr ∷ ks) s
    → HoldsMid c ks (rr_nr Whole nr s)
unfolding rr_nr
mid_rr_nr c nr ks s m = when_valid c nr ks s _ _ m (mid_timers c nr ks s m)

mid_rnr_nr : (c : Context) (nr : ℕ) (ks : List Kind) (s : StepState) → HoldsMid c (Status nr ∷ ks) s
    → HoldsMid c ks (rnr_nr Whole nr s)
unfolding rnr_nr
mid_rnr_nr c nr ks s m =
    let done : HoldsMid c ks (acknowledge Whole nr s) = mid_acknowledge c nr s ks m in
    when_valid c nr ks s _ _ m (mid_start c T200 (stop T203 (acknowledge Whole nr s)) ks
    (mid_stop c T203 (acknowledge Whole nr s) ks done))

-- V(S) is set back
mid_back : (c : Context) (nr : ℕ) (ks : List Kind) (s : StepState)
    → s.end.state ≡ MultipleFrameEstablished → HoldsMid c (Rejection nr ∷ ks) s
    → HoldsMid c ks (invoke_retransmission nr (acknowledge Whole nr s))
unfolding story_after acknowledge invoke_retransmission with_va with_vs acknowledged_count steps
mid_back c nr ks s is m =
    let n = nr - s.end.window.va in
    moved c (invoke_retransmission nr (acknowledge Whole nr s)) (acked_story n (story c s))
    (backing nr (acknowledging nr (seen c s))) (line c s) ks
    (after_outputs_append _ s.outs (counted n Acknowledged) _ ∙ after_acknowledged n
    (occasion c s) (story c s)) refl refl
    (back_by_rejection (seen c s) c.peer (line c s) nr ks is m)

mid_rej_nr : (c : Context) (nr : ℕ) (ks : List Kind) (s : StepState)
    → s.end.state ≡ MultipleFrameEstablished → HoldsMid c (Rejection nr ∷ ks) s
    → HoldsMid c ks (rej_nr Whole nr s)
unfolding rej_nr
mid_rej_nr c nr ks s is m =
    let back = invoke_retransmission nr (acknowledge Whole nr s) in
    let t : HoldsMid c (Status nr ∷ ks) s =
    turned (seen c s) c.peer (line c s) (Status nr ∷ ks) (Rejection nr ∷ ks)
    (rejection_left nr ks) m in
    when_valid c nr ks s _ _ t
    (mid_start c T203 (stop T200 back) ks (mid_stop c T200 back ks (mid_back c nr ks s is m)))

-- no final arrives in state 7
pub no_final_in_7 : (c : Context) (nr : ℕ) (ks : List Kind) (s : StepState)
    → s.end.state ≡ MultipleFrameEstablished → HoldsMid c (Final nr ∷ ks) s → ⊥
no_final_in_7 c nr ks s is m =
    let none : NoneAsked (frames_received (receives c.peer (line c s))) (Final nr ∷ ks) =
    none_asked_in_7 (seen c s) c.peer (line c s) (Final nr ∷ ks) is m in
    let finals : tally final_of (Final nr ∷ ks) ≡ 0 = none.finals in omega (arith, finals)

-- a frame that no end sends does not arrive
pub no_foreign : (c : Context) (ks : List Kind) (s : StepState) → HoldsMid c (Foreign ∷ ks) s → ⊥
no_foreign c ks s m = let clean = m.its.exchange.clean in omega (arith, clean)

abbrev Arrives : Context → Role → Control → List Kind → StepState → Type 0
Arrives c role control ks s = HoldsMid c (kind_of role control c.octets c.place ∷ ks) s

pub mid_i_in_7 : (c : Context) (ns nr : ℕ) (p : Bool) (ks : List Kind) (s : StepState)
    → HoldsMid c (Numbered (current c ns p) nr ∷ ks) s
    → HoldsMid c ks (multiple_frame_established Whole (Heard (I ns nr p) Command) s)
unfolding multiple_frame_established
mid_i_in_7 c ns nr p ks s m = mid_i_nr c nr ks (i_frame_ns Whole ns p s) (mid_ns c ns p nr ks s m)

pub mid_rr_in_7 : (c : Context) (nr : ℕ) (pf : Bool) (role : Role) (ks : List Kind) (s : StepState)
    → s.end.state ≡ MultipleFrameEstablished → Arrives c role (Rr nr pf) ks s
    → HoldsMid c ks (multiple_frame_established Whole (Heard (Rr nr pf) role) s)
unfolding multiple_frame_established poll_or_final
mid_rr_in_7 c nr true Command ks s is m =
    let b = set_peer_busy false s in
    mid_rr_nr c nr ks (enquiry_response b)
    (mid_response c b nr ks (mid_peer_busy c false s (Enquiry nr ∷ ks) m))
mid_rr_in_7 c nr true Answer ks s is m = absurd (no_final_in_7 c nr ks s is m)
mid_rr_in_7 c nr false Answer ks s is m =
    mid_rr_nr c nr ks (set_peer_busy false s) (mid_peer_busy c false s (Status nr ∷ ks) m)
mid_rr_in_7 c nr false Command ks s is m = absurd (no_foreign c ks s m)

pub mid_rnr_in_7 : (c : Context) (nr : ℕ) (pf : Bool) (role : Role) (ks : List Kind) (s : StepState)
    → s.end.state ≡ MultipleFrameEstablished → Arrives c role (Rnr nr pf) ks s
    → HoldsMid c ks (multiple_frame_established Whole (Heard (Rnr nr pf) role) s)
unfolding multiple_frame_established poll_or_final
mid_rnr_in_7 c nr true Command ks s is m =
    let b = set_peer_busy true s in
    mid_rnr_nr c nr ks (enquiry_response b)
    (mid_response c b nr ks (mid_peer_busy c true s (Enquiry nr ∷ ks) m))
mid_rnr_in_7 c nr true Answer ks s is m = absurd (no_final_in_7 c nr ks s is m)
mid_rnr_in_7 c nr false Answer ks s is m =
    mid_rnr_nr c nr ks (set_peer_busy true s) (mid_peer_busy c true s (Status nr ∷ ks) m)
mid_rnr_in_7 c nr false Command ks s is m = absurd (no_foreign c ks s m)

pub mid_rej_in_7 : (c : Context) (nr : ℕ) (pf : Bool) (role : Role) (ks : List Kind) (s : StepState)
    → s.end.state ≡ MultipleFrameEstablished → Arrives c role (Rej nr pf) ks s
    → HoldsMid c ks (multiple_frame_established Whole (Heard (Rej nr pf) role) s)
unfolding multiple_frame_established poll_or_final set_peer_busy with_peer_busy
mid_rej_in_7 c nr true Command ks s is m = absurd (no_foreign c ks s m)
mid_rej_in_7 c nr true Answer ks s is m = absurd (no_final_in_7 c nr ks s is m)
mid_rej_in_7 c nr false Answer ks s is m =
    mid_rej_nr c nr ks (set_peer_busy false s) is (mid_peer_busy c false s (Rejection nr ∷ ks) m)
mid_rej_in_7 c nr false Command ks s is m = absurd (no_foreign c ks s m)

-- ---- In state 8.

mid_i_nr_in_8 : (c : Context) (nr : ℕ) (ks : List Kind) (s : StepState)
    → HoldsMid c (Status nr ∷ ks) s → HoldsMid c ks (i_frame_nr_in_recovery Whole nr s)
unfolding i_frame_nr_in_recovery
mid_i_nr_in_8 c nr ks s m = when_valid c nr ks s _ _ m (mid_acknowledge c nr s ks m)

mid_rr_nr_in_8 : (c : Context) (nr : ℕ) (ks : List Kind) (s : StepState)
    → HoldsMid c (Status nr ∷ ks) s → HoldsMid c ks (rr_nr_in_recovery Whole false nr s)
unfolding rr_nr_in_recovery
mid_rr_nr_in_8 c nr ks s m = when_valid c nr ks s _ _ m (mid_acknowledge c nr s ks m)

mid_rnr_nr_in_8 : (c : Context) (nr : ℕ) (ks : List Kind) (s : StepState)
    → HoldsMid c (Status nr ∷ ks) s → HoldsMid c ks (rnr_nr_in_recovery Whole false nr s)
unfolding rnr_nr_in_recovery
mid_rnr_nr_in_8 c nr ks s m = when_valid c nr ks s _ _ m (mid_acknowledge c nr s ks m)

-- the answer to the enquiry arrives, and the recovery ends
mid_recovered : (c : Context) (nr : ℕ) (ks : List Kind) (s : StepState)
    → s.end.state ≡ TimerRecovery → HoldsMid c (Final nr ∷ ks) s
    → HoldsMid c ks
    (state_to MultipleFrameEstablished (invoke_retransmission nr (acknowledge Whole nr s)))
unfolding story_after acknowledge invoke_retransmission with_va with_vs acknowledged_count steps
    state_to
mid_recovered c nr ks s is m =
    let n = nr - s.end.window.va in
    moved c (state_to MultipleFrameEstablished (invoke_retransmission nr (acknowledge Whole nr s)))
    (acked_story n (story c s)) (established (backing nr (acknowledging nr (seen c s))))
    (line c s) ks
    (after_outputs_append _ s.outs (counted n Acknowledged) _ ∙ after_acknowledged n
    (occasion c s) (story c s)) refl refl
    (back_by_final (seen c s) c.peer (line c s) nr ks is m)

final_status : (c : Context) (nr : ℕ) (ks : List Kind) (s : StepState)
    → HoldsMid c (Final nr ∷ ks) s → HoldsMid c (Status nr ∷ ks) s
final_status c nr ks s m =
    turned (seen c s) c.peer (line c s) (Status nr ∷ ks) (Final nr ∷ ks) (final_left nr ks) m

-- the order of timer and state changes does not matter
with_timers : (c : Context) (ks : List Kind) (t : StepState)
    → HoldsMid c ks (state_to MultipleFrameEstablished t)
    → HoldsMid c ks (state_to MultipleFrameEstablished (start T203 (stop T200 t)))
unfolding state_to start stop
with_timers c ks t m =
    mid_start c T203 (stop T200 (state_to MultipleFrameEstablished t)) ks
    (mid_stop c T200 (state_to MultipleFrameEstablished t) ks m)

with_t200 : (c : Context) (ks : List Kind) (t : StepState)
    → HoldsMid c ks (state_to MultipleFrameEstablished t)
    → HoldsMid c ks (state_to MultipleFrameEstablished (start T200 t))
unfolding state_to start
with_t200 c ks t m = mid_start c T200 (state_to MultipleFrameEstablished t) ks m

mid_rr_final : (c : Context) (nr : ℕ) (ks : List Kind) (s : StepState) → s.end.state ≡ TimerRecovery
    → HoldsMid c (Final nr ∷ ks) s → HoldsMid c ks (rr_nr_in_recovery Whole true nr s)
unfolding rr_nr_in_recovery
mid_rr_final c nr ks s is m =
    when_valid c nr ks s _ _ (final_status c nr ks s m)
    (with_timers c ks (invoke_retransmission nr (acknowledge Whole nr s))
    (mid_recovered c nr ks s is m))

mid_rnr_final : (c : Context) (nr : ℕ) (ks : List Kind) (s : StepState)
    → s.end.state ≡ TimerRecovery → HoldsMid c (Final nr ∷ ks) s
    → HoldsMid c ks (rnr_nr_in_recovery Whole true nr s)
unfolding rnr_nr_in_recovery
mid_rnr_final c nr ks s is m =
    when_valid c nr ks s _ _ (final_status c nr ks s m)
    (with_t200 c ks (invoke_retransmission nr (acknowledge Whole nr s))
    (mid_recovered c nr ks s is m))

pub mid_i_in_8 : (c : Context) (ns nr : ℕ) (p : Bool) (ks : List Kind) (s : StepState)
    → HoldsMid c (Numbered (current c ns p) nr ∷ ks) s
    → HoldsMid c ks (timer_recovery Whole (Heard (I ns nr p) Command) s)
unfolding timer_recovery
mid_i_in_8 c ns nr p ks s m =
    mid_i_nr_in_8 c nr ks (i_frame_ns Whole ns p s) (mid_ns c ns p nr ks s m)

pub mid_rr_in_8 : (c : Context) (nr : ℕ) (pf : Bool) (role : Role) (ks : List Kind) (s : StepState)
    → s.end.state ≡ TimerRecovery → Arrives c role (Rr nr pf) ks s
    → HoldsMid c ks (timer_recovery Whole (Heard (Rr nr pf) role) s)
unfolding timer_recovery poll set_peer_busy with_peer_busy
mid_rr_in_8 c nr true Command ks s is m =
    let b = set_peer_busy false s in
    mid_rr_nr_in_8 c nr ks (enquiry_response b)
    (mid_response c b nr ks (mid_peer_busy c false s (Enquiry nr ∷ ks) m))
mid_rr_in_8 c nr true Answer ks s is m =
    mid_rr_final c nr ks (set_peer_busy false s) is (mid_peer_busy c false s (Final nr ∷ ks) m)
mid_rr_in_8 c nr false Answer ks s is m =
    mid_rr_nr_in_8 c nr ks (set_peer_busy false s) (mid_peer_busy c false s (Status nr ∷ ks) m)
mid_rr_in_8 c nr false Command ks s is m = absurd (no_foreign c ks s m)

pub mid_rnr_in_8 : (c : Context) (nr : ℕ) (pf : Bool) (role : Role) (ks : List Kind) (s : StepState)
    → s.end.state ≡ TimerRecovery → Arrives c role (Rnr nr pf) ks s
    → HoldsMid c ks (timer_recovery Whole (Heard (Rnr nr pf) role) s)
unfolding timer_recovery poll set_peer_busy with_peer_busy
mid_rnr_in_8 c nr true Command ks s is m =
    let b = set_peer_busy true s in
    mid_rnr_nr_in_8 c nr ks (enquiry_response b)
    (mid_response c b nr ks (mid_peer_busy c true s (Enquiry nr ∷ ks) m))
mid_rnr_in_8 c nr true Answer ks s is m =
    mid_rnr_final c nr ks (set_peer_busy true s) is (mid_peer_busy c true s (Final nr ∷ ks) m)
mid_rnr_in_8 c nr false Answer ks s is m =
    mid_rnr_nr_in_8 c nr ks (set_peer_busy true s) (mid_peer_busy c true s (Status nr ∷ ks) m)
mid_rnr_in_8 c nr false Command ks s is m = absurd (no_foreign c ks s m)

pub mid_rej_in_8 : (c : Context) (nr : ℕ) (pf : Bool) (role : Role) (ks : List Kind) (s : StepState)
    → s.end.state ≡ TimerRecovery → Arrives c role (Rej nr pf) ks s
    → HoldsMid c ks (timer_recovery Whole (Heard (Rej nr pf) role) s)
unfolding timer_recovery poll set_peer_busy with_peer_busy
mid_rej_in_8 c nr true Command ks s is m = absurd (no_foreign c ks s m)
mid_rej_in_8 c nr true Answer ks s is m =
    mid_rr_final c nr ks (set_peer_busy false s) is (mid_peer_busy c false s (Final nr ∷ ks) m)
mid_rej_in_8 c nr false Answer ks s is m = let b = set_peer_busy false s in
    mid_rr_nr_in_8 c nr ks b (turned (seen c b) c.peer (line c b) (Status nr ∷ ks)
    (Rejection nr ∷ ks) (rejection_left nr ks)
    (mid_peer_busy c false s (Rejection nr ∷ ks) m))
mid_rej_in_8 c nr false Command ks s is m = absurd (no_foreign c ks s m)
