-- A part of the frame in hand is processed: its rest replaces it on the line, until its N(R) is
-- processed too.
use Rattle.std.proofs.Common.{◌≡◌, ℕ, ◌<◌, ◌≤◌, Bool, true, false, List, ◌∷◌, Some, refl, sym, subst, ◌∙◌, arith}
use Rattle.lapd_link_definition.specs.declared.state.State.{State}
use Rattle.lapd_link_definition.specs.declared.state.State.TheVariants.{TeiAssigned, AwaitingEstablishment, AwaitingRelease, MultipleFrameEstablished, TimerRecovery}
use Rattle.lapd_link_definition.specs.EndOfStep.{is_7_or_8}
use Rattle.lapd_pair_laws.specs.Histories.{Receipt}
use Rattle.lapd_pair_laws.specs.Kinds.{Message, Kind, Numbered, Status, Rejection, Enquiry, Final, messages, numbers, rejections, tally, ask_of, answer_of, poll_of, final_of, foreign_of}
use Rattle.lapd_pair_laws.specs.Parties.{Party, reception_now, receives, frames_received}
use Rattle.lapd_pair_laws.specs.Conjuncts.{AreAcknowledging, NoneBehindPoll, FinalsNameAll, AreAsked, IsAwaiting, IsReceivable, NoneBehindAsk, high}
use Rattle.lapd_pair_laws.proofs.Receptions.{on_map}
use Rattle.lapd_pair_laws.proofs.Losses.{stream_less, rejected_map, rejected_part}
use Rattle.lapd_pair_laws.proofs.MidSteps.{Mid}
use Rattle.lapd_pair_laws.proofs.Parts.{Part, part_whole, part_first, part_nothing, part_each}

-- the same N(R), and no more of anything else
pub record IsStepped (now was : List Kind) : Type 0 where
  pub numbers : numbers now ≡ numbers was
  pub messages : Part (messages now) (messages was)
  pub rejections : Part (rejections now) (rejections was)
  pub asks : tally ask_of now ≡ tally ask_of was
  pub answers : tally answer_of now ≡ tally answer_of was
  pub foreign : tally foreign_of now ≡ tally foreign_of was
  pub polls : tally poll_of now ≤ tally poll_of was
  pub finals : tally final_of now ≤ tally final_of was
  pub behind_ask : NoneBehindAsk was → NoneBehindAsk now
  pub behind_poll : NoneBehindPoll was → NoneBehindPoll now
  pub names : (base top : ℕ) → FinalsNameAll base top was → FinalsNameAll base top now

-- the peer's polls, over the frames that this side processes
asked_out : (state : State) (base : ℕ) (received : List Receipt) (now was back : List Kind)
    → IsStepped now was → AreAsked state base received was back
    → AreAsked state base received now back
asked_out TeiAssigned base received now was back t w = tt
asked_out AwaitingEstablishment base received now was back t w =
    record { polls = omega (arith, t.polls, w.polls); finals = w.finals }
asked_out AwaitingRelease base received now was back t w = tt
asked_out MultipleFrameEstablished base received now was back t w =
    record { polls = omega (arith, t.polls, w.polls); finals = w.finals }
asked_out TimerRecovery base received now was back t w = record {
  one = omega (arith, w.one, t.polls);
  behind = t.behind_poll w.behind;
  alone = λ final. part_nothing t.messages (w.alone final);
  names = w.names;
}

-- this side's own polls
asked_back : (state : State) (base : ℕ) (received : List Receipt) (out now was : List Kind)
    → IsStepped now was → AreAsked state base received out was
    → AreAsked state base received out now
asked_back TeiAssigned base received out now was t w = tt
asked_back AwaitingEstablishment base received out now was t w =
    record { polls = w.polls; finals = omega (arith, t.finals, w.finals) }
asked_back AwaitingRelease base received out now was t w = tt
asked_back MultipleFrameEstablished base received out now was t w =
    record { polls = w.polls; finals = omega (arith, t.finals, w.finals) }
asked_back TimerRecovery base received out now was t w = record {
  one = omega (arith, w.one, t.finals);
  behind = w.behind;
  alone = λ final. w.alone (omega (arith, final, t.finals));
  names = t.names base (high received) w.names;
}

awaiting_turned : (x : Party) (now was : List Kind) (nr : ℕ) → IsStepped now was
    → IsAwaiting nr (reception_now x was) → IsAwaiting nr (reception_now x now)
awaiting_turned x now was nr t w = record {
  rejecting = w.rejecting;
  at = w.at;
  above = part_each (λ m. m.polled ≡ false → nr < m.number) t.messages w.above;
}

pub turned : (x y : Party) (out now was : List Kind) → IsStepped now was → Mid x y out was
    → Mid x y out now
turned x y out now was t m = record {
  opened = m.opened;
  mine = record {
    preserved = m.mine.preserved;
    passed = m.mine.passed;
    past = m.mine.past;
    lately = m.mine.lately;
    none_yet = m.mine.none_yet;
    below = m.mine.below;
    reception =
        on_map (IsReceivable x y (Some (reception_now x was)))
        (IsReceivable x y (Some (reception_now x now))) (receives y out) (λ h i. record {
          stream = i.stream;
          acks = i.acks;
          asked = asked_out y.state y.sends.base x.takes.received now was h.frames t i.asked;
          rejected =
              rejected_map y.state y.sends.vs y.sends.base x.takes.received
              (Some (reception_now x now))
              (Some (reception_now x was)) (rejections h.frames)
              (λ nr. awaiting_turned x now was nr t)
              i.rejected;
        }) m.mine.reception;
    exchange = record {
      one = omega (arith, m.mine.exchange.one, t.answers);
      behind = m.mine.exchange.behind;
      before = λ answer. m.mine.exchange.before (omega (arith, answer, t.answers));
      clean = m.mine.exchange.clean;
    };
    histories = m.mine.histories;
  };
  its = record {
    preserved = m.its.preserved;
    passed = m.its.passed;
    past = m.its.past;
    lately = m.its.lately;
    none_yet = m.its.none_yet;
    below = m.its.below;
    reception = record {
      stream =
          stream_less (is_7_or_8 y.state) y.sends x.takes.received x.takes.vr x.takes.rejecting
          t.messages m.its.reception.stream;
      acks =
          subst
          (λ ns. AreAcknowledging (is_7_or_8 y.state) y.takes x.sends.base x.sends.va x.sends.vs ns)
          (sym t.numbers) m.its.reception.acks;
      asked =
          asked_back x.state x.sends.base y.takes.received (frames_received (receives y out)) now
          was t m.its.reception.asked;
      rejected =
          rejected_part x.state x.sends.vs x.sends.base y.takes.received (receives y out)
          t.rejections m.its.reception.rejected;
    };
    exchange = record {
      one = omega (arith, m.its.exchange.one, t.asks);
      behind = t.behind_ask m.its.exchange.behind;
      before = λ answer. t.numbers ∙ m.its.exchange.before answer;
      clean = omega (arith, m.its.exchange.clean, t.foreign);
    };
    histories = m.its.histories;
  };
}

-- ---- The rest of a frame.

-- after a poll is answered, or a final or REJ processed: the N(R)
pub enquiry_left : (nr : ℕ) (ks : List Kind) → IsStepped (Status nr ∷ ks) (Enquiry nr ∷ ks)
enquiry_left nr ks = record {
  numbers = refl;
  messages = part_whole (messages ks);
  rejections = part_whole (rejections ks);
  asks = refl;
  answers = refl;
  foreign = refl;
  polls = omega arith;
  finals = omega arith;
  behind_ask = λ none. none;
  behind_poll = λ none. ((λ poll. absurd (omega (arith, poll))), none.1);
  names = λ base top names. names;
}

pub final_left : (nr : ℕ) (ks : List Kind) → IsStepped (Status nr ∷ ks) (Final nr ∷ ks)
final_left nr ks = record {
  numbers = refl;
  messages = part_whole (messages ks);
  rejections = part_whole (rejections ks);
  asks = refl;
  answers = refl;
  foreign = refl;
  polls = omega arith;
  finals = omega arith;
  behind_ask = λ none. none;
  behind_poll = λ none. none;
  names = λ base top names. (tt, names.1);
}

pub rejection_left : (nr : ℕ) (ks : List Kind) → IsStepped (Status nr ∷ ks) (Rejection nr ∷ ks)
rejection_left nr ks = record {
  numbers = refl;
  messages = part_whole (messages ks);
  rejections = part_first nr (rejections ks);
  asks = refl;
  answers = refl;
  foreign = refl;
  polls = omega arith;
  finals = omega arith;
  behind_ask = λ none. none;
  behind_poll = λ none. none;
  names = λ base top names. names;
}

-- after the message of an I frame is processed: a poll if it polls, otherwise the N(R)
abbrev pub left_of : Bool → ℕ → Kind
left_of true nr = Enquiry nr
left_of false nr = Status nr

message_left_as : (polled : Bool) (m : Message) (nr : ℕ) (ks : List Kind) → m.polled ≡ polled
    → IsStepped (left_of polled nr ∷ ks) (Numbered m nr ∷ ks)
message_left_as true m nr ks polls = record {
  numbers = refl;
  messages = part_first m (messages ks);
  rejections = part_whole (rejections ks);
  asks = refl;
  answers = refl;
  foreign = refl;
  polls = rw polls (omega arith);
  finals = omega arith;
  behind_ask = λ none. none;
  behind_poll = λ none. ((λ _. none.0 (rw polls (omega arith))), none.1);
  names = λ base top names. names;
}
message_left_as false m nr ks polls = record {
  numbers = refl;
  messages = part_first m (messages ks);
  rejections = part_whole (rejections ks);
  asks = refl;
  answers = refl;
  foreign = refl;
  polls = omega arith;
  finals = omega arith;
  behind_ask = λ none. none;
  behind_poll = λ none. ((λ poll. absurd (omega (arith, poll))), none.1);
  names = λ base top names. names;
}

pub message_left : (m : Message) (nr : ℕ) (ks : List Kind)
    → IsStepped (left_of m.polled nr ∷ ks) (Numbered m nr ∷ ks)
message_left m nr ks = message_left_as m.polled m nr ks refl

pub messages_left : (polled : Bool) (nr : ℕ) (ks : List Kind)
    → messages (left_of polled nr ∷ ks) ≡ messages ks
messages_left true nr ks = refl
messages_left false nr ks = refl
