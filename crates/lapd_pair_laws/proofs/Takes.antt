-- An open side accepts the message in hand, discards it, or rejects it.
use Rattle.std.proofs.Common.{◌≡◌, inl, inr, ℕ, zero, suc, ◌+◌, ◌-◌, ◌<◌, ◌≤◌, Bool, true, false, List, [], ◌∷◌, ◌++◌, Option, Some, refl, sym, ap, subst, ◌∙◌, arith}
use Rattle.lapd_link_definition.specs.declared.state.State.{State}
use Rattle.lapd_link_definition.specs.declared.state.State.TheVariants.{TeiAssigned, AwaitingEstablishment, AwaitingRelease, MultipleFrameEstablished, TimerRecovery}
use Rattle.lapd_link_definition.specs.EndOfStep.{is_7_or_8}
use Rattle.lapd_pair_laws.specs.Histories.{Receipt}
use Rattle.lapd_pair_laws.specs.Kinds.{Message, Kind, Numbered, messages, numbers, rejections, bit, tally, poll_of, final_of}
use Rattle.lapd_pair_laws.specs.Parties.{Receiver, Party, Reception, reception_now, receives, OnReception}
use Rattle.lapd_pair_laws.specs.Conjuncts.{HasPlace, IsGot, IsPlaced, IsRun, IsStream, AreAsked, IsSentBack, AtMostOne, AreRejected, IsReceivable, high, latest, IsInStep}
use Rattle.lapd_pair_laws.proofs.Receptions.{on_both, by_open}
use Rattle.lapd_pair_laws.proofs.Lists.{nat_cases, each_map}
use Rattle.lapd_pair_laws.proofs.MidSteps.{Mid, no_answer_out}
use Rattle.lapd_pair_laws.proofs.Receipts.{high_more, era_more, place_stays, place_arrives, place_either, row_more, given_more}
use Rattle.lapd_pair_laws.proofs.Runs.{climb_to, awaited_begins_run, run_rest, run_below, near_after}
use Rattle.lapd_pair_laws.proofs.SupervisoryFrames.{no_finals}
use Rattle.lapd_pair_laws.proofs.FrameOfStep.{turned, message_left, left_of, messages_left}

-- ---- The message is processed, without other effects.

pub discarding : (x y : Party) (out : List Kind) (m : Message) (nr : ℕ) (ks : List Kind)
    → Mid x y out (Numbered m nr ∷ ks) → Mid x y out (left_of m.polled nr ∷ ks)
discarding x y out m nr ks w =
    turned x y out (left_of m.polled nr ∷ ks) (Numbered m nr ∷ ks) (message_left m nr ks) w

-- ---- The awaited message: it is received.

abbrev pub receipt_of : ℕ → Message → Receipt
receipt_of era m = record { octets = m.octets; establishment = era; place = m.place }

abbrev pub taking_receiver : ℕ → Message → Receiver → Receiver
taking_receiver era m r =
    record { vr = r.vr + 1; rejecting = false; received = r.received ++ receipt_of era m ∷ [] }

abbrev pub taking : Message → Party → Party
taking m x = record x { takes = taking_receiver x.sends.era m x.takes }

-- while a message is in hand, the peer processes no final and no REJ that acknowledges only what
-- was received before it
with_message_asked : (state : State) (base : ℕ) (received after : List Receipt) (m : Message)
    (nr : ℕ) (ks back : List Kind)
    → AreAsked state base received (Numbered m nr ∷ ks) back
    → AreAsked state base received (left_of m.polled nr ∷ ks) back
    → AreAsked state base after (left_of m.polled nr ∷ ks) back
with_message_asked TeiAssigned base received after m nr ks back w t = tt
with_message_asked AwaitingEstablishment base received after m nr ks back w t = t
with_message_asked AwaitingRelease base received after m nr ks back w t = tt
with_message_asked MultipleFrameEstablished base received after m nr ks back w t = t
with_message_asked TimerRecovery base received after m nr ks back w t =
    record {
      one = t.one;
      behind = t.behind;
      alone = t.alone;
      names = no_finals base (high after) back (no_final (tally final_of back) refl);
    }
  where
    no_final : (n : ℕ) → tally final_of back ≡ n → tally final_of back ≡ 0
    no_final zero same = same
    no_final (suc n) same = let gone = w.alone (omega (arith, same)) in cc

not_sent_back : (vs base : ℕ) (received : List Receipt) (x : Party) (m : Message) (nr : ℕ)
    (ks : List Kind) (n : ℕ) → m.number ≡ x.takes.vr → m.polled ≡ false
    → IsSentBack vs base received (Some (reception_now x (Numbered m nr ∷ ks))) n → ⊥
not_sent_back vs base received x m nr ks n is no_poll w =
    let above : n < m.number = w.waits.above.0 no_poll in
    let at : x.takes.vr ≡ n = w.waits.at in omega (arith, above, at, is)

none_sent_back : (P Q : ℕ → Type 0) (ns : List ℕ) → ((n : ℕ) → P n → ⊥) → AtMostOne P ns
    → AtMostOne Q ns
none_sent_back P Q [] no_one one = tt
none_sent_back P Q (n ∷ []) no_one one = absurd (no_one n one)
none_sent_back P Q (n ∷ o ∷ ns) no_one one = absurd one

unpolled : (m : Message) (nr : ℕ) (ks : List Kind) → tally poll_of (Numbered m nr ∷ ks) ≡ 0
    → m.polled ≡ false
unpolled m nr ks none = by_bit m.polled (omega (arith, none))
  where
    by_bit : (b : Bool) → bit b ≡ 0 → b ≡ false
    by_bit true zero_ = absurd (omega (arith, zero_))
    by_bit false zero_ = refl

with_message_rejected : (state : State) (vs base : ℕ) (received after : List Receipt) (x : Party)
    (m : Message) (nr : ℕ) (ks back : List Kind) (now : Option Reception) (ns : List ℕ)
    → m.number ≡ x.takes.vr
    → AreAsked state base received (Numbered m nr ∷ ks) back
    → AreRejected state vs base received (Some (reception_now x (Numbered m nr ∷ ks))) ns
    → AreRejected state vs base after now ns
with_message_rejected TeiAssigned vs base received after x m nr ks back now ns is asked w = tt
with_message_rejected AwaitingEstablishment vs base received after x m nr ks back now ns is asked
    w =
    w
with_message_rejected AwaitingRelease vs base received after x m nr ks back now ns is asked w = tt
with_message_rejected MultipleFrameEstablished vs base received after x m nr ks back now ns is asked
    w =
    none_sent_back (IsSentBack vs base received (Some (reception_now x (Numbered m nr ∷ ks))))
    (IsSentBack vs base after now) ns
    (λ n. not_sent_back vs base received x m nr ks n is (unpolled m nr ks asked.polls)) w
with_message_rejected TimerRecovery vs base received after x m nr ks back now ns is asked w = tt

pub preserves_taking : (x y : Party) (out : List Kind) (m : Message) (nr : ℕ) (ks : List Kind)
    → m.number ≡ x.takes.vr → Mid x y out (Numbered m nr ∷ ks)
    → Mid (taking m x) y out (left_of m.polled nr ∷ ks)
preserves_taking x y out m nr ks is w =
    let back = Numbered m nr ∷ ks in
    let left = left_of m.polled nr ∷ ks in
    let t : Mid x y out left = discarding x y out m nr ks w in
    let z = taking m x in
    let r = receipt_of x.sends.era m in
    let after = x.takes.received ++ r ∷ [] in
    let stream = w.its.reception.stream in
    let placed : IsPlaced y.sends m = stream.placed.0 in
    let step : IsInStep y.sends.base x.takes.vr x.takes.received = stream.step (inr tt) in
    let run : IsRun x.takes.vr y.sends.vs (m ∷ messages ks) =
    awaited_begins_run x.takes.rejecting x.takes.vr y.sends.vs m (messages ks) is
    stream.order in
    let rest : IsRun (x.takes.vr + 1) y.sends.vs (messages ks) =
    subst (λ n. IsRun (n + 1) y.sends.vs (messages ks)) is
    (run_rest x.takes.vr y.sends.vs m (messages ks) run) in
    let less : x.takes.vr < y.sends.vs =
    subst (λ n. n < y.sends.vs) is (run_below x.takes.vr y.sends.vs m (messages ks) run) in
    let here : m.place ≡ y.sends.base + x.takes.vr = omega (arith, placed.place, is) in
    let high_ : high after ≡ m.place + 1 = high_more 0 x.takes.received r in
    let waits : OnReception (λ h. x.takes.vr + 1 ≤ h.vs) (receives y out) =
    by_open (λ h. x.takes.vr + 1 ≤ h.vs) y out (no_answer_out nr (numbers ks) refl w)
    (λ opened. omega (arith, less)) in
    let Was : Reception → Type 0 = IsReceivable x y (Some (reception_now x back)) in
    let Left : Reception → Type 0 = IsReceivable x y (Some (reception_now x left)) in
    let Both : Reception → Type 0 = λ h. Was h × Left h in
    let both : OnReception Both (receives y out) =
    on_both Was Left Both (receives y out) (λ h a b. (a, b)) w.mine.reception
    t.mine.reception in
    record {
      opened = w.opened;
      mine = record {
        preserved = w.mine.preserved;
        passed = w.mine.passed;
        past = w.mine.past;
        lately =
            let era : latest after ≡ x.sends.era = era_more 0 x.takes.received r in
            omega (arith, era);
        none_yet = λ opened none. absurd (omega (arith, none));
        below = w.mine.below;
        reception =
            on_both (λ h. x.takes.vr + 1 ≤ h.vs) Both
            (IsReceivable z y (Some (reception_now z left))) (receives y out) (λ h up i. record {
              stream = i.0.stream;
              acks = record {
                climb = i.0.acks.climb;
                known =
                    each_map (λ n. IsGot y.sends.base n x.takes.received)
                    (λ n. IsGot y.sends.base n after) (numbers h.frames)
                    (λ n
                    got p below. place_stays (y.sends.base + p) x.takes.received r
                    (got p below))
                    i.0.acks.known;
                top =
                    λ opened. (
                      climb_to h.va x.takes.vr (x.takes.vr + 1) (numbers h.frames)
                          (omega arith) (i.0.acks.top opened).0,
                      up,
                    );
              };
              asked =
                  with_message_asked y.state y.sends.base x.takes.received after m nr ks h.frames
                  i.0.asked i.1.asked;
              rejected =
                  with_message_rejected y.state y.sends.vs y.sends.base x.takes.received after x m
                  nr ks
                  h.frames (Some (reception_now z left)) (rejections h.frames) is i.0.asked
                  i.0.rejected;
            }) waits both;
        exchange = t.mine.exchange;
        histories = w.mine.histories;
      };
      its = record {
        preserved = w.its.preserved;
        passed = w.its.passed;
        past = w.its.past;
        lately = w.its.lately;
        none_yet = w.its.none_yet;
        below = λ holding. omega (arith, high_, here, less);
        reception = record {
          stream =
              subst (λ ms. IsStream (is_7_or_8 y.state) y.sends after (x.takes.vr + 1) false ms)
              (sym (messages_left m.polled nr ks)) (record {
                placed = stream.placed.1;
                near =
                    near_after x.takes.vr y.sends.vs y.sends.k (messages ks) less rest
                    stream.near.1;
                order = rest;
                step = λ _. record {
                  below = omega (arith, high_, here);
                  level = λ _. omega (arith, high_, here);
                  got = λ n below. got_more n (step.got) placed below;
                };
                between =
                    λ opened. let old =
                    stream.between opened in (omega (arith, old.0), omega (arith, less));
              });
          acks = t.its.reception.acks;
          asked = t.its.reception.asked;
          rejected = t.its.reception.rejected;
        };
        exchange = t.its.exchange;
        histories = record {
          as_given =
              given_more y.sends.given x.takes.received r w.its.histories.as_given placed.same;
          row =
              row_more 0 0 x.takes.received r w.its.histories.row (omega (arith, step.below, here))
              (λ same. next_place same);
          prefix = λ place smaller received_ less_ same. prefix place smaller received_ less_ same;
          arrived =
              λ place acked. place_stays place x.takes.received r
              (w.its.histories.arrived place acked);
        };
      };
    }
  where
    got_more : (n : ℕ) → IsGot y.sends.base x.takes.vr x.takes.received → IsPlaced y.sends m
        → n < x.takes.vr + 1
        → HasPlace (y.sends.base + n) (x.takes.received ++ receipt_of x.sends.era m ∷ [])
    got_more n got placed below = elim (nat_cases n x.takes.vr below) [
      | inl less ↦ place_stays (y.sends.base + n) x.takes.received (receipt_of x.sends.era m)
          (got n less)
      | inr same ↦ let at : y.sends.base + n ≡ m.place =
          omega (arith, same, placed.place, is) in subst
          (λ p. HasPlace p (x.takes.received ++ receipt_of x.sends.era m ∷ [])) (sym at)
          (place_arrives x.takes.received (receipt_of x.sends.era m))
    ]

    next_place : x.sends.era ≡ latest x.takes.received → m.place ≡ high x.takes.received
    next_place same = next_by x.takes.vr refl
      where
        next_by : (vr : ℕ) → x.takes.vr ≡ vr → m.place ≡ high x.takes.received
        next_by zero none =
            let late : latest x.takes.received < x.sends.era = w.mine.none_yet w.opened none in
            absurd (omega (arith, same, late))
        next_by (suc vr) some =
            let level : high x.takes.received ≡ y.sends.base + x.takes.vr =
            (w.its.reception.stream.step (inr tt)).level (omega (arith, some)) in
            let place_ : m.place ≡ y.sends.base + m.number =
            w.its.reception.stream.placed.0.place in
            omega (arith, level, place_, is)

    prefix : (place smaller : ℕ)
        → HasPlace place (x.takes.received ++ receipt_of x.sends.era m ∷ []) → smaller < place
        → y.sends.sent_in smaller ≡ y.sends.sent_in place
        → HasPlace smaller (x.takes.received ++ receipt_of x.sends.era m ∷ [])
    prefix place smaller has less_ same =
        elim (place_either place x.takes.received (receipt_of x.sends.era m) has) [
          | inl before ↦ place_stays smaller x.takes.received (receipt_of x.sends.era m)
              (w.its.histories.prefix place smaller before less_ same)
          | inr new ↦
              let placed : IsPlaced y.sends m = w.its.reception.stream.placed.0 in
              let now : y.sends.sent_in smaller ≡ Some y.sends.era =
              same ∙ ap (λ p. y.sends.sent_in p) (sym new) ∙ placed.sent in
              let from : y.sends.base ≤ smaller = (w.its.past smaller y.sends.era now).1 refl in
              let got : HasPlace (y.sends.base + (smaller - y.sends.base)) x.takes.received =
              (w.its.reception.stream.step (inr tt)).got (smaller - y.sends.base)
              (omega (arith, from, less_, new, placed.place, is)) in
              let at : y.sends.base + (smaller - y.sends.base) ≡ smaller = omega (arith, from) in
              place_stays smaller x.takes.received (receipt_of x.sends.era m)
              (subst (λ p. HasPlace p x.takes.received) at got)
        ]
