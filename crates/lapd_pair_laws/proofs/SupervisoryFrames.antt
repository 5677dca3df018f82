-- An open side sends a frame without a message.
use Rattle.std.proofs.Common.{◌≡◌, ℕ, ◌<◌, Bool, true, false, List, [], ◌∷◌, ◌++◌, Option, Some, None, option_map, refl, sym, subst, ◌∙◌, arith}
use Rattle.lapd_link_definition.specs.declared.state.State.{State}
use Rattle.lapd_link_definition.specs.declared.state.State.TheVariants.{TeiAssigned, AwaitingEstablishment, AwaitingRelease, MultipleFrameEstablished, TimerRecovery}
use Rattle.lapd_link_definition.specs.EndOfStep.{is_7_or_8}
use Rattle.lapd_pair_laws.specs.Histories.{Receipt}
use Rattle.lapd_pair_laws.specs.Kinds.{Kind, Status, Final, Unnumbered, message_of, messages, number_of, numbers, rejection_of, rejections, tally, ask_of, answer_of, poll_of, final_of, foreign_of, is_acceptance}
use Rattle.lapd_pair_laws.specs.Parties.{Sender, Receiver, Party, Reception, reception_now, receives, OnReception, frames_received}
use Rattle.lapd_pair_laws.specs.Conjuncts.{Each, IsGot, IsStream, IsClimb, AreAcknowledging, NoneAsked, NoneBehindPoll, NamesAll, FinalsNameAll, OneAsked, AreAsked, IsAwaiting, AreRejected, IsReceivable, NoneBehindAsk, IsExchange, most_asks, high}
use Rattle.lapd_pair_laws.specs.Invariant.{IsSpeaking}
use Rattle.lapd_pair_laws.proofs.Receptions.{on_map, on_both, on_mapped, receives_more, one_more}
use Rattle.lapd_pair_laws.proofs.Lists.{messages_same, numbers_same, numbers_more, rejections_same, tally_more, each_more}
use Rattle.lapd_pair_laws.proofs.Losses.{rejected_map}
use Rattle.lapd_pair_laws.proofs.MidSteps.{Mid, got_where_received, open_asks_none}
use Rattle.lapd_pair_laws.proofs.Runs.{climb_more, climb_to}

-- ---- Each conjunct, with one more frame appended.

pub stream_sent : (speaking : Bool) (s : Sender) (received : List Receipt) (vr : ℕ)
    (rejecting : Bool) (u : Kind) (ks : List Kind) → message_of u ≡ []
    → IsStream speaking s received vr rejecting (messages ks)
    → IsStream speaking s received vr rejecting (messages (ks ++ u ∷ []))
stream_sent speaking s received vr rejecting u ks no_message w =
    subst (λ ms. IsStream speaking s received vr rejecting ms) (sym (messages_same u ks no_message))
    w

pub acks_sent : (r : Receiver) (speaking : Bool) (base va vs : ℕ) (u : Kind) (ks : List Kind)
    → speaking ≡ true → number_of u ≡ r.vr ∷ [] → IsGot base r.vr r.received
    → AreAcknowledging speaking r base va vs (numbers ks)
    → AreAcknowledging speaking r base va vs (numbers (ks ++ u ∷ []))
acks_sent r speaking base va vs u ks speaks is got w =
    let top = w.top speaks in
    let more : IsClimb va r.vr (numbers ks ++ r.vr ∷ []) = climb_more va r.vr (numbers ks) top.0 in
    subst (λ ns. AreAcknowledging speaking r base va vs ns) (sym (numbers_more u ks r.vr is))
    (record {
      climb = climb_to va r.vr vs (numbers ks ++ r.vr ∷ []) top.1 more;
      known = each_more (λ nr. IsGot base nr r.received) (numbers ks) r.vr w.known got;
      top = λ _. (more, top.1);
    })

pub acks_silent : (r : Receiver) (speaking : Bool) (base va vs : ℕ) (u : Kind) (ks : List Kind)
    → number_of u ≡ []
    → AreAcknowledging speaking r base va vs (numbers ks)
    → AreAcknowledging speaking r base va vs (numbers (ks ++ u ∷ []))
acks_silent r speaking base va vs u ks no_number w =
    subst (λ ns. AreAcknowledging speaking r base va vs ns) (sym (numbers_same u ks no_number)) w

names_more : (k : Kind) (base top : ℕ) (u : Kind) (ks : List Kind) → rejection_of u ≡ []
    → NamesAll k base top ks → NamesAll k base top (ks ++ u ∷ [])
names_more (Final nr) base top u ks no_rejection names =
    (names.0, rejections_same u ks no_rejection ∙ names.1)
names_more (Status nr) base top u ks no_rejection names = tt
names_more k base top u ks no_rejection names = tt

pub finals_more : (base top : ℕ) (u : Kind) (ks : List Kind) → rejection_of u ≡ []
    → NamesAll u base top [] → FinalsNameAll base top ks → FinalsNameAll base top (ks ++ u ∷ [])
finals_more base top u [] no_rejection last names = (last, tt)
finals_more base top u (k ∷ ks) no_rejection last names = (
  names_more k base top u ks no_rejection names.0,
  finals_more base top u ks no_rejection last names.1,
)

not_final : (u : Kind) (base top : ℕ) (ks : List Kind) → final_of u ≡ 0 → NamesAll u base top ks
not_final (Final nr) base top ks none = absurd (omega (arith, none))
not_final (Status nr) base top ks none = tt
not_final u base top ks none = tt

-- if no final is in transit, the condition on finals holds
pub no_finals : (base top : ℕ) (ks : List Kind) → tally final_of ks ≡ 0 → FinalsNameAll base top ks
no_finals base top [] none = tt
no_finals base top (k ∷ ks) none =
    (not_final k base top ks (omega (arith, none)), no_finals base top ks (omega (arith, none)))

-- the peer's polls, if this side sends no final
none_sent : (out : List Kind) (u : Kind) (ks : List Kind) → final_of u ≡ 0 → NoneAsked out ks
    → NoneAsked out (ks ++ u ∷ [])
none_sent out u ks no_final w =
    let more = tally_more final_of u ks in
    record { polls = w.polls; finals = omega (arith, w.finals, more, no_final) }

one_sent : (base : ℕ) (received : List Receipt) (out : List Kind) (u : Kind) (ks : List Kind)
    → final_of u ≡ 0 → rejection_of u ≡ [] → OneAsked base received out ks
    → OneAsked base received out (ks ++ u ∷ [])
one_sent base received out u ks no_final no_rejection w =
    let more = tally_more final_of u ks in record {
      one = omega (arith, w.one, more, no_final);
      behind = w.behind;
      alone = λ final. w.alone (omega (arith, final, more, no_final));
      names =
          finals_more base (high received) u ks no_rejection
          (not_final u base (high received) [] no_final) w.names;
    }

pub asked_sent : (state : State) (base : ℕ) (received : List Receipt) (out : List Kind) (u : Kind)
    (ks : List Kind) → final_of u ≡ 0 → rejection_of u ≡ [] → AreAsked state base received out ks
    → AreAsked state base received out (ks ++ u ∷ [])
asked_sent TeiAssigned base received out u ks no_final no_rejection w = tt
asked_sent AwaitingEstablishment base received out u ks no_final no_rejection w =
    none_sent out u ks no_final w
asked_sent AwaitingRelease base received out u ks no_final no_rejection w = tt
asked_sent MultipleFrameEstablished base received out u ks no_final no_rejection w =
    none_sent out u ks no_final w
asked_sent TimerRecovery base received out u ks no_final no_rejection w =
    one_sent base received out u ks no_final no_rejection w

pub rejected_sent : (state : State) (vs base : ℕ) (received : List Receipt)
    (waiting : Option Reception) (u : Kind) (ks : List Kind) → rejection_of u ≡ []
    → AreRejected state vs base received waiting (rejections ks)
    → AreRejected state vs base received waiting (rejections (ks ++ u ∷ []))
rejected_sent state vs base received waiting u ks no_rejection w =
    subst (λ ns. AreRejected state vs base received waiting ns)
    (sym (rejections_same u ks no_rejection)) w

-- this side's own polls, if it sends no poll
pub behind_more : (u : Kind) (ks : List Kind) → message_of u ≡ [] → NoneBehindPoll ks
    → NoneBehindPoll (ks ++ u ∷ [])
behind_more u [] no_message none = ((λ _. refl), tt)
behind_more u (k ∷ ks) no_message none =
    ((λ poll. messages_same u ks no_message ∙ none.0 poll), behind_more u ks no_message none.1)

none_received : (u : Kind) (ks back : List Kind) → poll_of u ≡ 0 → NoneAsked ks back
    → NoneAsked (ks ++ u ∷ []) back
none_received u ks back no_poll w =
    let more = tally_more poll_of u ks in
    record { polls = omega (arith, w.polls, more, no_poll); finals = w.finals }

one_received : (base : ℕ) (received : List Receipt) (u : Kind) (ks back : List Kind) → poll_of u ≡ 0
    → message_of u ≡ [] → OneAsked base received ks back
    → OneAsked base received (ks ++ u ∷ []) back
one_received base received u ks back no_poll no_message w =
    let more = tally_more poll_of u ks in record {
      one = omega (arith, w.one, more, no_poll);
      behind = behind_more u ks no_message w.behind;
      alone = λ final. messages_same u ks no_message ∙ w.alone final;
      names = w.names;
    }

asked_frames : (state : State) (base : ℕ) (received : List Receipt) (u : Kind) (ks back : List Kind)
    → poll_of u ≡ 0 → message_of u ≡ [] → AreAsked state base received ks back
    → AreAsked state base received (ks ++ u ∷ []) back
asked_frames TeiAssigned base received u ks back no_poll no_message w = tt
asked_frames AwaitingEstablishment base received u ks back no_poll no_message w =
    none_received u ks back no_poll w
asked_frames AwaitingRelease base received u ks back no_poll no_message w = tt
asked_frames MultipleFrameEstablished base received u ks back no_poll no_message w =
    none_received u ks back no_poll w
asked_frames TimerRecovery base received u ks back no_poll no_message w =
    one_received base received u ks back no_poll no_message w

pub asked_received : (state : State) (base : ℕ) (received : List Receipt) (u : Kind)
    (there : Option Reception) (back : List Kind) → poll_of u ≡ 0 → message_of u ≡ []
    → AreAsked state base received (frames_received there) back
    → AreAsked state base received (frames_received (option_map (one_more u) there)) back
asked_received state base received u None back no_poll no_message w = w
asked_received state base received u (Some h) back no_poll no_message w =
    asked_frames state base received u h.frames back no_poll no_message w

pub awaiting_sent : (nr : ℕ) (u : Kind) (there : Option Reception) → message_of u ≡ []
    → OnReception (IsAwaiting nr) there
    → OnReception (IsAwaiting nr) (option_map (one_more u) there)
awaiting_sent nr u None no_message w = tt
awaiting_sent nr u (Some h) no_message w = record {
  rejecting = w.rejecting;
  at = w.at;
  above =
      subst (λ ms. Each (λ m. m.polled ≡ false → nr < m.number) ms)
      (sym (messages_same u h.frames no_message)) w.above;
}

-- SABME, DISC and their answers
pub exchange_sent : (most : ℕ) (u : Kind) (out back : List Kind) → most ≡ 0 → ask_of u ≡ 0
    → foreign_of u ≡ 0 → IsExchange most out back → IsExchange most (out ++ u ∷ []) back
exchange_sent most u out back none no_ask known w =
    let asks = tally_more ask_of u out in let foreign = tally_more foreign_of u out in
    let asks_none : tally ask_of (out ++ u ∷ []) ≡ 0 = omega (arith, w.one, none, asks, no_ask) in
    record {
      one = omega (arith, w.one, asks, no_ask);
      behind = no_asks (out ++ u ∷ []) asks_none;
      before = λ answer. absurd (omega (arith, w.one, none, answer));
      clean = omega (arith, w.clean, foreign, known);
    }
  where
    no_asks : (ks : List Kind) → tally ask_of ks ≡ 0 → NoneBehindAsk ks
    no_asks [] no_ask = tt
    no_asks (k ∷ ks) no_ask =
        ((λ ask. absurd (omega (arith, ask, no_ask))), no_asks ks (omega (arith, no_ask)))

pub exchange_received : (most : ℕ) (u : Kind) (out back : List Kind) → answer_of u ≡ 0
    → IsExchange most out back → IsExchange most out (back ++ u ∷ [])
exchange_received most u out back no_answer w =
    let answers = tally_more answer_of u back in record {
      one = omega (arith, w.one, answers, no_answer);
      behind = w.behind;
      before = λ answer. w.before (omega (arith, answer, answers, no_answer));
      clean = w.clean;
    }

-- ---- The frame is sent.

-- no message, SABME, DISC or answer to them
pub record IsSupervisory (u : Kind) : Type 0 where
  pub no_acceptance : is_acceptance u ≡ false
  pub no_message : message_of u ≡ []
  pub no_ask : ask_of u ≡ 0
  pub no_answer : answer_of u ≡ 0
  pub known : foreign_of u ≡ 0

pub sends_supervisory : (x y : Party) (out back : List Kind) (u : Kind) → IsSupervisory u
    → OnReception (λ h. AreAcknowledging (is_7_or_8 x.state) x.takes y.sends.base h.va h.vs
    (numbers (h.frames ++ u ∷ []))) (receives y out)
    → OnReception (λ h. AreAsked y.state y.sends.base x.takes.received back (h.frames ++ u ∷ []))
    (receives y out)
    → OnReception (λ h. AreRejected y.state y.sends.vs y.sends.base x.takes.received
    (Some (reception_now x back)) (rejections (h.frames ++ u ∷ []))) (receives y out)
    → AreAsked x.state x.sends.base y.takes.received
    (frames_received (option_map (one_more u) (receives y out))) back
    → Mid x y out back → Mid x y (out ++ u ∷ []) back
sends_supervisory x y out back u plain acks asked rejected polls m =
    let here = Some (reception_now x back) in
    let Heard : Reception → Type 0 = IsReceivable x y here in
    let A : Reception → Type 0 =
    λ h. AreAcknowledging (is_7_or_8 x.state) x.takes y.sends.base h.va h.vs
    (numbers (h.frames ++ u ∷ [])) in
    let B : Reception → Type 0 =
    λ h. AreAsked y.state y.sends.base x.takes.received back (h.frames ++ u ∷ []) in
    let C : Reception → Type 0 =
    λ h. AreRejected y.state y.sends.vs y.sends.base x.takes.received here
    (rejections (h.frames ++ u ∷ [])) in
    let AB : Reception → Type 0 = λ h. A h × B h in
    let ABC : Reception → Type 0 = λ h. AB h × C h in
    let facts : OnReception ABC (receives y out) =
    on_both AB C ABC (receives y out) (λ h p q. (p, q))
    (on_both A B AB (receives y out) (λ h p q. (p, q)) acks asked) rejected in
    let reception : OnReception (λ h. Heard (one_more u h)) (receives y out) =
    on_both ABC Heard (λ h. Heard (one_more u h)) (receives y out)
    (λ h p i. record {
      stream =
          stream_sent (is_7_or_8 x.state) x.sends y.takes.received h.vr h.rejecting u h.frames
          plain.no_message i.stream;
      acks = p.0.0;
      asked = p.0.1;
      rejected = p.1;
    }) facts m.mine.reception in
    let there = option_map (one_more u) (receives y out) in
    let more : receives y (out ++ u ∷ []) ≡ there = receives_more y out u plain.no_acceptance in
    record {
      opened = m.opened;
      mine = subst (λ o. IsSpeaking x y (out ++ u ∷ []) back here o) (sym more) (record {
        preserved = m.mine.preserved;
        passed = m.mine.passed;
        past = m.mine.past;
        lately = m.mine.lately;
        none_yet = m.mine.none_yet;
        below = m.mine.below;
        reception = on_mapped Heard (one_more u) (receives y out) reception;
        exchange =
            exchange_sent (most_asks x.state) u out back (open_asks_none x.state m.opened)
            plain.no_ask plain.known m.mine.exchange;
        histories = m.mine.histories;
      });
      its = subst (λ o. IsSpeaking y x back (out ++ u ∷ []) o here) (sym more) (record {
        preserved = m.its.preserved;
        passed = m.its.passed;
        past = m.its.past;
        lately = m.its.lately;
        none_yet = m.its.none_yet;
        below = m.its.below;
        reception = record {
          stream = m.its.reception.stream;
          acks = m.its.reception.acks;
          asked = polls;
          rejected =
              rejected_map x.state x.sends.vs x.sends.base y.takes.received there (receives y out)
              (rejections back) (λ nr. awaiting_sent nr u (receives y out) plain.no_message)
              m.its.reception.rejected;
        };
        exchange = exchange_received (most_asks y.state) u back out plain.no_answer m.its.exchange;
        histories = m.its.histories;
      });
    }

-- ---- Frames that only acknowledge, and UI.

pub saying_status : (x y : Party) (out back : List Kind) → Mid x y out back
    → Mid x y (out ++ Status x.takes.vr ∷ []) back
saying_status x y out back m =
    let u = Status x.takes.vr in
    let Heard : Reception → Type 0 = IsReceivable x y (Some (reception_now x back)) in
    let Got : Reception → Type 0 = λ h. IsGot y.sends.base x.takes.vr x.takes.received in
    sends_supervisory x y out back u (record {
      no_acceptance = refl;
      no_message = refl;
      no_ask = refl;
      no_answer = refl;
      known = refl;
    })
    (on_both Heard Got _ (receives y out)
    (λ h i got. acks_sent x.takes (is_7_or_8 x.state) y.sends.base h.va h.vs u h.frames
    m.opened refl got i.acks) m.mine.reception (got_where_received m))
    (on_map Heard _ (receives y out) (λ h i. asked_sent y.state y.sends.base x.takes.received back u
    h.frames refl refl i.asked) m.mine.reception)
    (on_map Heard _ (receives y out) (λ h i. rejected_sent y.state y.sends.vs y.sends.base
    x.takes.received (Some (reception_now x back)) u h.frames refl i.rejected)
    m.mine.reception)
    (asked_received x.state x.sends.base y.takes.received u (receives y out) back refl refl
    m.its.reception.asked) m

pub saying_unit : (x y : Party) (out back : List Kind) → Mid x y out back
    → Mid x y (out ++ Unnumbered ∷ []) back
saying_unit x y out back m =
    let u = Unnumbered in
    let Heard : Reception → Type 0 = IsReceivable x y (Some (reception_now x back)) in
    sends_supervisory x y out back u (record {
      no_acceptance = refl;
      no_message = refl;
      no_ask = refl;
      no_answer = refl;
      known = refl;
    })
    (on_map Heard _ (receives y out) (λ h i. acks_silent x.takes (is_7_or_8 x.state) y.sends.base
    h.va h.vs u h.frames refl i.acks) m.mine.reception)
    (on_map Heard _ (receives y out) (λ h i. asked_sent y.state y.sends.base x.takes.received back u
    h.frames refl refl i.asked) m.mine.reception)
    (on_map Heard _ (receives y out) (λ h i. rejected_sent y.state y.sends.vs y.sends.base
    x.takes.received (Some (reception_now x back)) u h.frames refl i.rejected)
    m.mine.reception)
    (asked_received x.state x.sends.base y.takes.received u (receives y out) back refl refl
    m.its.reception.asked) m
