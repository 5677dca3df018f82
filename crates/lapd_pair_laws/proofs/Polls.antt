-- An open side answers a poll, or polls itself.
use Rattle.std.proofs.Common.{◌≡◌, inl, ℕ, ◌+◌, ◌≤◌, true, List, [], ◌∷◌, ◌++◌, Option, Some, None, option_map, refl, sym, subst, ◌∙◌, arith}
use Rattle.lapd_link_definition.specs.declared.state.State.{State}
use Rattle.lapd_link_definition.specs.declared.state.State.TheVariants.{TeiAssigned, AwaitingEstablishment, AwaitingRelease, MultipleFrameEstablished, TimerRecovery}
use Rattle.lapd_link_definition.specs.EndOfStep.{is_7_or_8}
use Rattle.lapd_pair_laws.specs.Histories.{Receipt}
use Rattle.lapd_pair_laws.specs.Kinds.{Kind, Status, Enquiry, Final, message_of, messages, numbers, rejections, tally, poll_of, final_of}
use Rattle.lapd_pair_laws.specs.Parties.{Party, Reception, reception_now, receives, OnReception, frames_received}
use Rattle.lapd_pair_laws.specs.Conjuncts.{IsConsistentSender, most_asks, IsGot, IsStream, AreAcknowledging, NoneAsked, NoneBehindPoll, OneAsked, AreAsked, AreRejected, IsReceivable, IsExchange, high}
use Rattle.lapd_pair_laws.proofs.Receptions.{on_map, on_both, one_more}
use Rattle.lapd_pair_laws.proofs.Lists.{tally_more}
use Rattle.lapd_pair_laws.proofs.MidSteps.{Mid, numbering, open_holds, open_asks_none, got_where_received}
use Rattle.lapd_pair_laws.proofs.SupervisoryFrames.{sends_supervisory, acks_sent, asked_sent, rejected_sent, asked_received, finals_more, no_finals, behind_more}
use Rattle.lapd_pair_laws.proofs.FrameOfStep.{turned, enquiry_left}

-- ---- A poll is answered.

-- its V(R) acknowledges all that this side received, if the peer processes frames
pub named_where_received : {x y : Party} {out back : List Kind} → Mid x y out back
    → OnReception
    (λ h. is_7_or_8 y.state ≡ true → high x.takes.received ≤ y.sends.base + x.takes.vr)
    (receives y out)
named_where_received {x = x} {y = y} {out = out} {back = back} m =
    on_map (IsReceivable x y (Some (reception_now x back))) _ (receives y out)
    (λ h i opened. (m.its.reception.stream.step (inl opened)).below) m.mine.reception

-- the poll in hand is the only one in transit: a final may answer it
answered : (state : State) (base nr vr : ℕ) (received : List Receipt) (ks back : List Kind)
    → (is_7_or_8 state ≡ true → high received ≤ base + vr)
    → AreAsked state base received (Enquiry nr ∷ ks) back
    → AreAsked state base received (Status nr ∷ ks) (back ++ Final vr ∷ [])
answered TeiAssigned base nr vr received ks back named w = tt
answered AwaitingEstablishment base nr vr received ks back named w = absurd (omega (arith, w.polls))
answered AwaitingRelease base nr vr received ks back named w = tt
answered MultipleFrameEstablished base nr vr received ks back named w =
    absurd (omega (arith, w.polls))
answered TimerRecovery base nr vr received ks back named w =
    let more = tally_more final_of (Final vr) back in
    let no_final : tally final_of back ≡ 0 = omega (arith, w.one) in
    record {
      one = omega (arith, w.one, more);
      behind = ((λ poll. absurd (omega (arith, poll))), w.behind.1);
      alone = λ _. w.behind.0 (omega arith);
      names =
          finals_more base (high received) (Final vr) back refl (named refl, refl)
          (no_finals base (high received) back no_final);
    }

pub answering : (x y : Party) (out : List Kind) (nr : ℕ) (ks : List Kind)
    → Mid x y out (Enquiry nr ∷ ks) → Mid x y (out ++ Final x.takes.vr ∷ []) (Status nr ∷ ks)
answering x y out nr ks w =
    let m : Mid x y out (Status nr ∷ ks) =
    turned x y out (Status nr ∷ ks) (Enquiry nr ∷ ks) (enquiry_left nr ks) w in
    let u = Final x.takes.vr in
    let was = Some (reception_now x (Enquiry nr ∷ ks)) in
    let here = Some (reception_now x (Status nr ∷ ks)) in
    let Got : Reception → Type 0 = λ h. IsGot y.sends.base x.takes.vr x.takes.received in
    let Named : Reception → Type 0 =
    λ h. is_7_or_8 y.state ≡ true → high x.takes.received ≤ y.sends.base + x.takes.vr in
    sends_supervisory x y out (Status nr ∷ ks) u
    (record {
      no_acceptance = refl;
      no_message = refl;
      no_ask = refl;
      no_answer = refl;
      known = refl;
    })
    (on_both (IsReceivable x y here) Got _ (receives y out)
    (λ h i got. acks_sent x.takes (is_7_or_8 x.state) y.sends.base h.va h.vs u h.frames
    m.opened refl got i.acks) m.mine.reception (got_where_received m))
    (on_both (IsReceivable x y was) Named _ (receives y out)
    (λ h i named. answered y.state y.sends.base nr x.takes.vr x.takes.received ks h.frames
    named i.asked) w.mine.reception (named_where_received w))
    (on_map (IsReceivable x y here) _ (receives y out)
    (λ h i. rejected_sent y.state y.sends.vs y.sends.base x.takes.received here u h.frames
    refl i.rejected) m.mine.reception)
    (asked_received x.state x.sends.base y.takes.received u (receives y out) (Status nr ∷ ks) refl
    refl m.its.reception.asked) m

-- ---- This side polls.

-- no poll of its own, and no answer to one, is in transit
pub record IsSettled (x y : Party) (out back : List Kind) : Type 0 where
  pub polls : tally poll_of (frames_received (receives y out)) ≡ 0
  pub finals : tally final_of back ≡ 0

-- in state 7 there is never one
pub settled_in_7 : (x y : Party) (out back : List Kind) → x.state ≡ MultipleFrameEstablished
    → Mid x y out back → IsSettled x y out back
settled_in_7 x y out back is m =
    let none : NoneAsked (frames_received (receives y out)) back =
    subst
    (λ s. AreAsked s x.sends.base y.takes.received (frames_received (receives y out)) back)
    is m.its.reception.asked in
    record { polls = none.polls; finals = none.finals }

no_polls : (ks : List Kind) → tally poll_of ks ≡ 0 → NoneBehindPoll ks
no_polls [] none = tt
no_polls (k ∷ ks) none =
    ((λ poll. absurd (omega (arith, poll, none))), no_polls ks (omega (arith, none)))

settled_asks : (base : ℕ) (received : List Receipt) (out back : List Kind) → tally poll_of out ≡ 0
    → tally final_of back ≡ 0 → OneAsked base received out back
settled_asks base received out back polls finals = record {
  one = omega (arith, polls, finals);
  behind = no_polls out polls;
  alone = λ final. absurd (omega (arith, final, finals));
  names = no_finals base (high received) back finals;
}

abbrev pub recovering : Party → Party
recovering x = record x { state = TimerRecovery }

-- A side in state 7 or 8 enters either of them, without a frame.
entered : (next : State) (x y : Party) (out back : List Kind)
    → IsConsistentSender next x.asked x.leaving x.sends
    → is_7_or_8 next ≡ true → most_asks next ≡ 0
    → AreAsked next x.sends.base y.takes.received (frames_received (receives y out)) back
    → AreRejected next x.sends.vs x.sends.base y.takes.received (receives y out) (rejections back)
    → Mid x y out back → Mid (record x { state = next }) y out back
entered next x y out back consistent opened none asked rejected m =
    let was = Some (reception_now x back) in
    let now : Party = record x { state = next } in
    let same : is_7_or_8 x.state ≡ is_7_or_8 next = m.opened ∙ sym opened in
    record {
      opened = opened;
      mine = record {
        preserved = consistent;
        passed = m.mine.passed;
        past = m.mine.past;
        lately = m.mine.lately;
        none_yet = λ _. m.mine.none_yet m.opened;
        below = λ _. m.mine.below (open_holds x.state x.asked x.leaving m.opened);
        reception = on_map (IsReceivable x y was) (IsReceivable now y was) (receives y out) (λ h i.
            record {
              stream = subst
                  (λ b. IsStream b x.sends y.takes.received h.vr h.rejecting (messages h.frames))
                  same i.stream;
              acks = subst
                  (λ b. AreAcknowledging b x.takes y.sends.base h.va h.vs (numbers h.frames))
                  same i.acks;
              asked = i.asked;
              rejected = i.rejected;
            }) m.mine.reception;
        exchange = subst (λ n. IsExchange n out back)
            (open_asks_none x.state m.opened ∙ sym none) m.mine.exchange;
        histories = m.mine.histories;
      };
      its = record {
        preserved = m.its.preserved;
        passed = m.its.passed;
        past = m.its.past;
        lately = m.its.lately;
        none_yet = m.its.none_yet;
        below = m.its.below;
        reception = record {
          stream = m.its.reception.stream;
          acks = m.its.reception.acks;
          asked = asked;
          rejected = rejected;
        };
        exchange = m.its.exchange;
        histories = m.its.histories;
      };
    }

pub to_recovery : (x y : Party) (out back : List Kind)
    → IsSettled x y out back → Mid x y out back → Mid (recovering x) y out back
to_recovery x y out back settled m =
    let frames = frames_received (receives y out) in
    entered TimerRecovery x y out back (numbering m) refl refl
    (settled_asks x.sends.base y.takes.received frames back settled.polls settled.finals) tt m

-- the poll is sent
asked_once : (base : ℕ) (received : List Receipt) (u : Kind) (there : Option Reception)
    (back : List Kind) → message_of u ≡ [] → poll_of u ≡ 1
    → tally poll_of (frames_received there) ≡ 0 → tally final_of back ≡ 0
    → OneAsked base received (frames_received (option_map (one_more u) there)) back
asked_once base received u None back no_message poll polls finals =
    settled_asks base received [] back refl finals
asked_once base received u (Some h) back no_message poll polls finals =
    let more = tally_more poll_of u h.frames in
    record {
      one = omega (arith, more, poll, polls, finals);
      behind = behind_more u h.frames no_message (no_polls h.frames polls);
      alone = λ final. absurd (omega (arith, final, finals));
      names = no_finals base (high received) back finals;
    }

pub enquiring : (x y : Party) (out back : List Kind) → IsSettled x y out back → Mid x y out back
    → Mid (recovering x) y (out ++ Enquiry x.takes.vr ∷ []) back
enquiring x y out back settled w =
    let z = recovering x in
    let m : Mid z y out back = to_recovery x y out back settled w in
    let u = Enquiry x.takes.vr in
    let Heard : Reception → Type 0 = IsReceivable z y (Some (reception_now z back)) in
    let Got : Reception → Type 0 = λ h. IsGot y.sends.base x.takes.vr x.takes.received in
    sends_supervisory z y out back u (record {
      no_acceptance = refl;
      no_message = refl;
      no_ask = refl;
      no_answer = refl;
      known = refl;
    })
    (on_both Heard Got _ (receives y out)
    (λ h i got. acks_sent x.takes true y.sends.base h.va h.vs u h.frames refl refl got
    i.acks) m.mine.reception (got_where_received m))
    (on_map Heard _ (receives y out) (λ h i. asked_sent y.state y.sends.base x.takes.received back u
    h.frames refl refl i.asked) m.mine.reception)
    (on_map Heard _ (receives y out) (λ h i. rejected_sent y.state y.sends.vs y.sends.base
    x.takes.received (Some (reception_now z back)) u h.frames refl i.rejected)
    m.mine.reception)
    (asked_once x.sends.base y.takes.received u (receives y out) back refl refl settled.polls
    settled.finals) m

-- ---- The answer arrives: to state 7, with no poll outstanding.

abbrev pub established : Party → Party
established x = record x { state = MultipleFrameEstablished }

pub to_established : (x y : Party) (out back : List Kind) → IsSettled x y out back
    → rejections back ≡ [] → Mid x y out back → Mid (established x) y out back
to_established x y out back settled none m =
    let base = x.sends.base in
    entered MultipleFrameEstablished x y out back (numbering m) refl refl
    (record { polls = settled.polls; finals = settled.finals })
    (subst (AreRejected MultipleFrameEstablished x.sends.vs base y.takes.received (receives y out))
    (sym none) tt) m
