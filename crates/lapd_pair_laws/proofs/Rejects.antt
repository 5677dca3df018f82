-- An open side rejects the message in hand: it is not the awaited one, and this side is not yet
-- rejecting.
use Rattle.std.proofs.Common.{◌≡◌, inr, ℕ, zero, suc, ◌+◌, ◌<◌, ◌≤◌, Bool, true, false, List, [], ◌∷◌, ◌++◌, Option, Some, refl, sym, subst, arith}
use Rattle.lapd_link_definition.specs.declared.state.State.{State}
use Rattle.lapd_link_definition.specs.declared.state.State.TheVariants.{TeiAssigned, AwaitingEstablishment, AwaitingRelease, MultipleFrameEstablished, TimerRecovery}
use Rattle.lapd_link_definition.specs.EndOfStep.{is_7_or_8}
use Rattle.lapd_pair_laws.specs.Histories.{Receipt}
use Rattle.lapd_pair_laws.specs.Kinds.{Message, Kind, Numbered, Status, Rejection, messages, numbers, rejections, tally, final_of}
use Rattle.lapd_pair_laws.specs.Parties.{Party, Reception, reception_now, receives, OnReception}
use Rattle.lapd_pair_laws.specs.Conjuncts.{IsGot, IsRun, IsNext, IsInOrder, AreAsked, IsAwaiting, IsSentBack, AtMostOne, AreRejected, IsReceivable, high, IsInStep}
use Rattle.lapd_pair_laws.proofs.Receptions.{on_map, on_both, by_open}
use Rattle.lapd_pair_laws.proofs.Lists.{rejections_append, tally_more}
use Rattle.lapd_pair_laws.proofs.Losses.{rejected_map}
use Rattle.lapd_pair_laws.proofs.MidSteps.{Mid, no_answer_out, got_where_received}
use Rattle.lapd_pair_laws.proofs.Runs.{order_is_junk, run_above}
use Rattle.lapd_pair_laws.proofs.SupervisoryFrames.{sends_supervisory, acks_sent, no_finals, asked_received}
use Rattle.lapd_pair_laws.proofs.Takes.{discarding}
use Rattle.lapd_pair_laws.proofs.FrameOfStep.{left_of}

abbrev pub rejecting_now : Party → Party
rejecting_now x = record x { takes = record (x.takes) { rejecting = true } }

awaits_still : (x : Party) (back : List Kind) (nr : ℕ) → IsAwaiting nr (reception_now x back)
    → IsAwaiting nr (reception_now (rejecting_now x) back)
awaits_still x back nr w = record { rejecting = refl; at = w.at; above = w.above }

-- the reject condition may begin at any time
pub begin_rejecting : (x y : Party) (out back : List Kind) → Mid x y out back
    → Mid (rejecting_now x) y out back
begin_rejecting x y out back m =
    let z = rejecting_now x in
    let was = Some (reception_now x back) in
    let now = Some (reception_now z back) in
    record {
      opened = m.opened;
      mine = record {
        preserved = m.mine.preserved;
        passed = m.mine.passed;
        past = m.mine.past;
        lately = m.mine.lately;
        none_yet = m.mine.none_yet;
        below = m.mine.below;
        reception =
            on_map (IsReceivable x y was) (IsReceivable z y now) (receives y out) (λ h i. record {
              stream = i.stream;
              acks = record { climb = i.acks.climb; known = i.acks.known; top = i.acks.top };
              asked = i.asked;
              rejected =
                  rejected_map y.state y.sends.vs y.sends.base x.takes.received now was
                  (rejections h.frames) (λ nr. awaits_still x back nr) i.rejected;
            }) m.mine.reception;
        exchange = m.mine.exchange;
        histories = m.mine.histories;
      };
      its = record {
        preserved = m.its.preserved;
        passed = m.its.passed;
        past = m.its.past;
        lately = m.its.lately;
        none_yet = m.its.none_yet;
        below = m.its.below;
        reception = record {
          stream =
              let s = m.its.reception.stream in
              record {
                placed = s.placed;
                near = s.near;
                order =
                    order_is_junk x.takes.rejecting x.takes.vr y.sends.vs (messages back) s.order;
                step = s.step;
                between = s.between;
              };
          acks = m.its.reception.acks;
          asked = m.its.reception.asked;
          rejected = m.its.reception.rejected;
        };
        exchange = m.its.exchange;
        histories = m.its.histories;
      };
    }

-- ---- The REJ is sent, with F=0.

-- the message in hand belongs to a run, and its number is above the awaited one
first_above : (rejecting polled : Bool) (low end : ℕ) (m : Message) (ms : List Message)
    → rejecting ≡ false → m.polled ≡ polled → polled ≡ false → (m.number ≡ low → ⊥)
    → IsInOrder rejecting low end (m ∷ ms)
    → (low < m.number) × (m.number < end) × IsRun (m.number + 1) end ms
first_above true polled low end m ms fresh is no_poll other order = cc
first_above false true low end m ms fresh is no_poll other order = cc
first_above false false low end m ms fresh is no_poll other order =
    let next : IsNext false low end m.number ms (IsRun (m.number + 1) end ms) =
    subst (λ b. IsNext b low end m.number ms (IsRun (m.number + 1) end ms)) is order in
    (strictly low m.number next.0 other, next.1, next.2)
  where
    strictly : (a b : ℕ) → a ≤ b → (b ≡ a → ⊥) → a < b
    strictly a b le other = grind (arith, le, other)

-- if a message is in hand, no final is in transit
rejected_asked : (state : State) (base vr nr : ℕ) (received : List Receipt) (m : Message) (n : ℕ)
    (ks back : List Kind)
    → AreAsked state base received (Numbered m n ∷ ks) back
    → AreAsked state base received (Status n ∷ ks) back
    → AreAsked state base received (Status n ∷ ks) (back ++ Rejection vr ∷ [])
rejected_asked TeiAssigned base vr nr received m n ks back w t = tt
rejected_asked AwaitingEstablishment base vr nr received m n ks back w t =
    let more = tally_more final_of (Rejection vr) back in
    record { polls = t.polls; finals = omega (arith, t.finals, more) }
rejected_asked AwaitingRelease base vr nr received m n ks back w t = tt
rejected_asked MultipleFrameEstablished base vr nr received m n ks back w t =
    let more = tally_more final_of (Rejection vr) back in
    record { polls = t.polls; finals = omega (arith, t.finals, more) }
rejected_asked TimerRecovery base vr nr received m n ks back w t =
    let more = tally_more final_of (Rejection vr) back in
    let none : tally final_of back ≡ 0 = no_final (tally final_of back) refl in
    let still : tally final_of (back ++ Rejection vr ∷ []) ≡ 0 = omega (arith, more, none) in
    record {
      one = omega (arith, t.one, more);
      behind = t.behind;
      alone = λ final. absurd (omega (arith, final, still));
      names = no_finals base (high received) (back ++ Rejection vr ∷ []) still;
    }
  where
    no_final : (f : ℕ) → tally final_of back ≡ f → tally final_of back ≡ 0
    no_final zero same = same
    no_final (suc f) same = let gone = w.alone (omega (arith, same)) in cc

-- this side was not rejecting, so none of its REJ was in transit; now this one is
first_rejection : (state : State) (vs base vr : ℕ) (received : List Receipt)
    (was now : Option Reception) (ks : List Kind) → is_7_or_8 state ≡ true
    → ((nr : ℕ) → IsSentBack vs base received was nr → ⊥)
    → (state ≡ MultipleFrameEstablished → IsSentBack vs base received now vr)
    → AreRejected state vs base received was (rejections ks)
    → AreRejected state vs base received now (rejections (ks ++ Rejection vr ∷ []))
first_rejection TeiAssigned vs base vr received was now ks opened none new w = tt
first_rejection AwaitingEstablishment vs base vr received was now ks opened none new w = cc
first_rejection AwaitingRelease vs base vr received was now ks opened none new w = tt
first_rejection MultipleFrameEstablished vs base vr received was now ks opened none new w =
    subst (λ ns. AtMostOne (IsSentBack vs base received now) ns)
    (sym (rejections_append ks (Rejection vr ∷ []))) (alone (rejections ks) w)
  where
    alone : (ns : List ℕ) → AtMostOne (IsSentBack vs base received was) ns
        → AtMostOne (IsSentBack vs base received now) (ns ++ vr ∷ [])
    alone [] one = new refl
    alone (n ∷ []) one = absurd (none n one)
    alone (n ∷ o ∷ ns) one = absurd one
first_rejection TimerRecovery vs base vr received was now ks opened none new w = tt

pub rejecting_message : (x y : Party) (out : List Kind) (m : Message) (nr : ℕ) (ks : List Kind)
    → m.polled ≡ false → (m.number ≡ x.takes.vr → ⊥) → x.takes.rejecting ≡ false
    → Mid x y out (Numbered m nr ∷ ks)
    → Mid (rejecting_now x) y (out ++ Rejection x.takes.vr ∷ []) (Status nr ∷ ks)
rejecting_message x y out m nr ks no_poll other fresh w =
    let z = rejecting_now x in
    let t : Mid x y out (Status nr ∷ ks) =
    subst (λ b. Mid x y out (left_of b nr ∷ ks)) no_poll (discarding x y out m nr ks w) in
    let b : Mid z y out (Status nr ∷ ks) = begin_rejecting x y out (Status nr ∷ ks) t in
    let u = Rejection x.takes.vr in
    let was = Some (reception_now x (Numbered m nr ∷ ks)) in
    let now = Some (reception_now z (Status nr ∷ ks)) in
    let Was : Reception → Type 0 = IsReceivable x y was in
    let Now : Reception → Type 0 = IsReceivable z y now in
    let Got : Reception → Type 0 = λ h. IsGot y.sends.base x.takes.vr x.takes.received in
    let Opened : Reception → Type 0 = λ h. is_7_or_8 y.state ≡ true in
    let stream = w.its.reception.stream in
    let step : IsInStep y.sends.base x.takes.vr x.takes.received = stream.step (inr tt) in
    let above =
    first_above x.takes.rejecting false x.takes.vr y.sends.vs m (messages ks) fresh no_poll
    refl other stream.order in
    let sent_back : IsSentBack y.sends.vs y.sends.base x.takes.received now x.takes.vr = record {
      below = omega (arith, above.0, above.1);
      names = step.below;
      waits = record {
        rejecting = refl;
        at = refl;
        above =
            run_above (m.number + 1) x.takes.vr y.sends.vs (messages ks) (omega (arith, above.0))
            above.2;
      };
    } in
    let opened : OnReception Opened (receives y out) =
    by_open Opened y out (no_answer_out nr (numbers ks) refl w) (λ o. o) in
    let Both : Reception → Type 0 = λ h. Opened h × Was h in
    let both : OnReception Both (receives y out) =
    on_both Opened Was Both (receives y out) (λ h p q. (p, q)) opened w.mine.reception in
    sends_supervisory z y out (Status nr ∷ ks) u
    (record {
      no_acceptance = refl;
      no_message = refl;
      no_ask = refl;
      no_answer = refl;
      known = refl;
    })
    (on_both Now Got _ (receives y out) (λ h i got. acks_sent z.takes (is_7_or_8 x.state)
    y.sends.base h.va h.vs u h.frames w.opened refl got i.acks) b.mine.reception
    (got_where_received b))
    (on_both Was Now _ (receives y out) (λ h i j. rejected_asked y.state y.sends.base x.takes.vr 0
    x.takes.received m nr ks h.frames i.asked j.asked) w.mine.reception
    b.mine.reception)
    (on_map Both _ (receives y out) (λ h i. first_rejection y.state y.sends.vs y.sends.base
    x.takes.vr x.takes.received was now h.frames i.0 (λ n s. not_rejecting n s)
    (λ _. sent_back) i.1.rejected) both)
    (asked_received x.state x.sends.base y.takes.received u (receives y out) (Status nr ∷ ks) refl
    refl b.its.reception.asked) b
  where
    not_rejecting : (n : ℕ)
        → IsSentBack y.sends.vs y.sends.base x.takes.received
        (Some (reception_now x (Numbered m nr ∷ ks))) n → ⊥
    not_rejecting n s = let r : x.takes.rejecting ≡ true = s.waits.rejecting in cc
