-- Facts from the invariant about an open side and its open peer, while a frame is in hand.
use Rattle.std.proofs.Common.{◌≡◌, inl, inr, ℕ, zero, suc, ◌+◌, ◌<◌, ◌≤◌, Bool, true, false, List, [], ◌∷◌, Some, refl, sym, subst, arith}
use Rattle.lapd_link_definition.specs.declared.state.State.{State}
use Rattle.lapd_link_definition.specs.declared.state.State.TheVariants.{MultipleFrameEstablished, TimerRecovery}
use Rattle.lapd_link_definition.specs.EndOfStep.{is_7_or_8}
use Rattle.lapd_pair_laws.specs.Histories.{Receipt}
use Rattle.lapd_pair_laws.specs.Kinds.{Message, Kind, Numbered, Status, Rejection, Final, messages, numbers, rejections, tally, poll_of, final_of}
use Rattle.lapd_pair_laws.specs.Parties.{Party, reception_now, receives, frames_received}
use Rattle.lapd_pair_laws.specs.Conjuncts.{Each, IsRun, IsNext, IsJunkThenRun, IsInOrder, AreAsked, IsAwaiting, IsSentBack, AtMostOne, AreRejected, IsReceivable, IsInStep, high, IsClimb}
use Rattle.lapd_pair_laws.proofs.GoingBack.{none_polls, none_asked_in_7, asked_in_8, sent_back_in_7}
use Rattle.lapd_pair_laws.proofs.Receptions.{open_receives, from_open}
use Rattle.lapd_pair_laws.proofs.MidSteps.{Mid}
use Rattle.lapd_pair_laws.proofs.Runs.{NonePolls, awaited_begins_run, run_below, climb_top}
use Rattle.lapd_pair_laws.proofs.Flow.{IsWhole, IsJunkThenWhole, IsInTransit}

-- the frames of x that the open peer will process
pub received_open : {x y : Party} {out back : List Kind} → is_7_or_8 y.state ≡ true
    → Mid x y out back → IsReceivable x y (Some (reception_now x back)) (reception_now y out)
received_open {x = x} {y = y} {out = out} {back = back} opened m =
    from_open (IsReceivable x y (Some (reception_now x back))) y out opened m.mine.reception

-- V(A) of x is at most V(R) of y, and that at most V(S) of x
pub between_open : {x y : Party} {out back : List Kind} → is_7_or_8 y.state ≡ true
    → Mid x y out back → (x.sends.va ≤ y.takes.vr) × (y.takes.vr ≤ x.sends.vs)
between_open opened m = (received_open opened m).stream.between m.opened

-- the N(R) in hand is valid, and at most V(R) of the peer
pub number_open : {x y : Party} {out : List Kind} (nr : ℕ) (rest : List ℕ) (back : List Kind)
    → numbers back ≡ nr ∷ rest → is_7_or_8 y.state ≡ true → Mid x y out back
    → (x.sends.va ≤ nr) × (nr ≤ y.takes.vr)
number_open {x = x} {y = y} nr rest back is opened m =
    let climb : IsClimb x.sends.va y.takes.vr (nr ∷ rest) =
    subst (λ ns. IsClimb x.sends.va y.takes.vr ns) is (m.its.reception.acks.top opened).0 in
    (climb.0, climb_top nr y.takes.vr rest climb.1)

-- ---- The message in hand.

-- the awaited number is below V(S) of its sender
pub taken_below : {x y : Party} {out : List Kind} (m : Message) (nr : ℕ) (ks : List Kind)
    → m.number ≡ x.takes.vr → Mid x y out (Numbered m nr ∷ ks) → x.takes.vr < y.sends.vs
taken_below {x = x} {y = y} m nr ks is mid =
    subst (λ n. n < y.sends.vs) is (run_below x.takes.vr y.sends.vs m (messages ks)
    (awaited_begins_run x.takes.rejecting x.takes.vr y.sends.vs m (messages ks) is
    mid.its.reception.stream.order))

-- ---- A poll in hand.

polled_so : (state : State) (base : ℕ) (received : List Receipt) (k : Kind) (ks out : List Kind)
    → is_7_or_8 state ≡ true → poll_of k ≡ 1 → AreAsked state base received (k ∷ ks) out
    → (state ≡ TimerRecovery) × (tally final_of out ≡ 0)
polled_so MultipleFrameEstablished base received k ks out opened poll a =
    absurd (omega (arith, a.polls, poll))
polled_so TimerRecovery base received k ks out opened poll a = (refl, omega (arith, a.one, poll))
polled_so state base received k ks out opened poll a = cc

pub polled_by_8 : {x y : Party} {out : List Kind} (k : Kind) (ks : List Kind) → poll_of k ≡ 1
    → is_7_or_8 y.state ≡ true → Mid x y out (k ∷ ks)
    → (y.state ≡ TimerRecovery) × (tally final_of out ≡ 0)
polled_by_8 {x = x} {y = y} {out = out} k ks poll opened m =
    polled_so y.state y.sends.base x.takes.received k ks out opened poll
    (received_open opened m).asked

-- ---- All is acknowledged.

whole_of_run : (low end : ℕ) (ms : List Message) → low ≡ end → NonePolls ms → IsRun low end ms
    → IsWhole low end ms
whole_of_run low end [] same none run = same
whole_of_run low end (m ∷ ms) same none run =
    let next : IsNext false low end m.number ms (IsRun (m.number + 1) end ms) =
    subst (λ b. IsNext b low end m.number ms (IsRun (m.number + 1) end ms)) none.0 run in
    absurd (omega (arith, next.0, next.1, same))

junk_of_order : (low end : ℕ) (ms : List Message) → low ≡ end → NonePolls ms
    → IsJunkThenRun low end ms → IsJunkThenWhole low end ms
junk_of_order low end [] same none order = same
junk_of_order low end (m ∷ ms) same none (inl run) =
    inl (whole_of_run low end (m ∷ ms) same none run)
junk_of_order low end (m ∷ ms) same none (inr junk) =
    inr (junk.0, junk_of_order low end ms same none.1 junk.2)

in_transit_of_order : (rejecting : Bool) (low end : ℕ) (ms : List Message) → low ≡ end
    → NonePolls ms → IsInOrder rejecting low end ms → IsInTransit rejecting low end ms
in_transit_of_order false low end ms same none order = whole_of_run low end ms same none order
in_transit_of_order true low end ms same none order = junk_of_order low end ms same none order

-- no poll of x is in transit in state 7
unpolled_in_7 : {x y : Party} {out back : List Kind} → x.state ≡ MultipleFrameEstablished
    → is_7_or_8 y.state ≡ true → Mid x y out back → tally poll_of out ≡ 0
unpolled_in_7 {x = x} {y = y} {out = out} {back = back} is opened m =
    subst (λ o. tally poll_of (frames_received o) ≡ 0) (open_receives y out opened)
    (none_asked_in_7 x y out back is m).polls

none_below : (vs base : ℕ) (received : List Receipt) (y : Party) (out : List Kind) (ns : List ℕ)
    → is_7_or_8 y.state ≡ true → y.takes.vr ≡ vs
    → AtMostOne (IsSentBack vs base received (receives y out)) ns → ns ≡ []
none_below vs base received y out [] opened same one = refl
none_below vs base received y out (n ∷ []) opened same one =
    let waits : IsAwaiting n (reception_now y out) =
    from_open (IsAwaiting n) y out opened one.waits in
    let at : y.takes.vr ≡ n = waits.at in
    absurd (omega (arith, one.below, at, same))
none_below vs base received y out (n ∷ o ∷ ns) opened same one = absurd one

pub record AllArrive (x y : Party) (out ks : List Kind) (top : ℕ) : Type 0 where
  pub at : y.takes.vr ≡ top
  pub below : top ≤ x.sends.vs
  pub arriving : IsInTransit y.takes.rejecting y.takes.vr top (messages out)
  pub none : rejections ks ≡ []

pub acknowledged_so : {x y : Party} {out : List Kind} (nr : ℕ) (ks : List Kind)
    → x.state ≡ MultipleFrameEstablished → is_7_or_8 y.state ≡ true → nr ≡ x.sends.vs
    → Mid x y out (Status nr ∷ ks) → AllArrive x y out ks x.sends.vs
acknowledged_so {x = x} {y = y} {out = out} nr ks is opened all m =
    let between = between_open opened m in
    let number = number_open nr (numbers ks) (Status nr ∷ ks) refl opened m in
    let same : y.takes.vr ≡ x.sends.vs = omega (arith, between.1, number.1, all) in
    record {
      at = same;
      below = omega arith;
      arriving =
          in_transit_of_order y.takes.rejecting y.takes.vr x.sends.vs (messages out) same
          (none_polls out (unpolled_in_7 is opened m)) (received_open opened m).stream.order;
      none =
          none_below x.sends.vs x.sends.base y.takes.received y out (rejections ks) opened same
          (subst (λ s. AreRejected s x.sends.vs x.sends.base y.takes.received (receives y out)
          (rejections ks)) is m.its.reception.rejected);
    }

-- ---- A REJ in hand, in state 7.

all_junk : (low : ℕ) (ms : List Message) → NonePolls ms
    → Each (λ m. m.polled ≡ false → low < m.number) ms → IsJunkThenWhole low low ms
all_junk low [] none above = refl
all_junk low (m ∷ ms) none above = inr (above.0 none.0, all_junk low ms none.1 above.1)

pub rejected_so : {x y : Party} {out : List Kind} (nr : ℕ) (ks : List Kind)
    → x.state ≡ MultipleFrameEstablished → is_7_or_8 y.state ≡ true
    → Mid x y out (Rejection nr ∷ ks) → AllArrive x y out ks nr
rejected_so {x = x} {y = y} {out = out} nr ks is opened m =
    let facts = sent_back_in_7 x y out nr ks is m in
    let waits : IsAwaiting nr (reception_now y out) =
    from_open (IsAwaiting nr) y out opened facts.0.waits in
    let at : y.takes.vr ≡ nr = waits.at in
    let rejects : y.takes.rejecting ≡ true = waits.rejecting in
    record {
      at = at;
      below = omega (arith, facts.0.below);
      arriving =
          subst (λ b. IsInTransit b y.takes.vr nr (messages out)) (sym rejects)
          (subst (λ v. IsJunkThenWhole v nr (messages out)) (sym at)
          (all_junk nr (messages out) (none_polls out (unpolled_in_7 is opened m))
          waits.above));
      none = facts.1;
    }

-- ---- A final in hand, in state 8.

in_transit_nothing : (rejecting : Bool) (low end : ℕ) (ms : List Message) → ms ≡ [] → low ≡ end
    → IsInTransit rejecting low end ms
in_transit_nothing false low end ms none same = subst (λ l. IsWhole low end l) (sym none) same
in_transit_nothing true low end ms none same =
    subst (λ l. IsJunkThenWhole low end l) (sym none) same

pub final_so : {x y : Party} {out : List Kind} (nr : ℕ) (ks : List Kind) → x.state ≡ TimerRecovery
    → is_7_or_8 y.state ≡ true → Mid x y out (Final nr ∷ ks) → AllArrive x y out ks nr
final_so {x = x} {y = y} {out = out} nr ks is opened m =
    let asked = asked_in_8 x y out (Final nr ∷ ks) is m in
    let gone : messages out ≡ [] =
    subst (λ o. messages (frames_received o) ≡ []) (open_receives y out opened)
    (asked.alone (omega arith)) in
    let between = between_open opened m in
    let number = number_open nr (numbers ks) (Final nr ∷ ks) refl opened m in
    let same : y.takes.vr ≡ nr =
    reached y.takes.vr refl number.1 asked.names.0.0
    ((received_open opened m).stream.step (inl m.opened)) in
    record {
      at = same;
      below = omega (arith, same, between.1);
      arriving = in_transit_nothing y.takes.rejecting y.takes.vr nr (messages out) gone same;
      none = asked.names.0.1;
    }
  where
    reached : (vr : ℕ) → y.takes.vr ≡ vr → nr ≤ y.takes.vr
        → high y.takes.received ≤ x.sends.base + nr
        → IsInStep x.sends.base y.takes.vr y.takes.received → y.takes.vr ≡ nr
    reached zero is le names step = omega (arith, is, le)
    reached (suc vr) is le names step =
        let level : high y.takes.received ≡ x.sends.base + y.takes.vr =
        step.level (omega (arith, is)) in
        omega (arith, level, names, le)
