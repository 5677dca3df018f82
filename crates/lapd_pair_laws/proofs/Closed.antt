-- One lemma for all steps that leave a side closed: rows of states 4, 5 and 6, and leaving states 7
-- and 8.
use Rattle.std.proofs.Common.{◌≡◌, inl, inr, ℕ, ◌+◌, ◌<◌, ◌≤◌, Bool, true, false, List, [], ◌∷◌, ◌++◌, Option, Some, None, option_map, refl, sym, ap, subst, ◌∙◌, arith}
use Rattle.lapd_link_definition.specs.declared.state.State.{State}
use Rattle.lapd_link_definition.specs.declared.state.State.TheVariants.{TeiAssigned, AwaitingEstablishment, AwaitingRelease, MultipleFrameEstablished, TimerRecovery}
use Rattle.lapd_link_definition.specs.EndOfStep.{is_7_or_8}
use Rattle.lapd_pair_laws.specs.Histories.{Receipt}
use Rattle.lapd_pair_laws.specs.Kinds.{Message, Kind, Asks, Accepts, Refuses, Unnumbered, message_of, messages, number_of, numbers, rejection_of, rejections, tally, ask_of, answer_of, poll_of, final_of, foreign_of, is_acceptance}
use Rattle.lapd_pair_laws.specs.Parties.{Sender, Receiver, Party, Reception, behind, behind_acceptance, reception_now, next_reception, received_in, receives, OnReception, frames_received}
use Rattle.lapd_pair_laws.specs.Conjuncts.{IsConsistentSender, is_holding, IsPlaced, IsStream, AreAcknowledging, AreAsked, AreRejected, IsReceivable, NoneBehindAsk, IsExchange, most_asks}
use Rattle.lapd_pair_laws.specs.Invariant.{Both}
use Rattle.lapd_pair_laws.proofs.Receptions.{on_map, on_mapped, receives_more, one_more}
use Rattle.lapd_pair_laws.proofs.Lists.{numbers_same, tally_more, each_map}
use Rattle.lapd_pair_laws.proofs.Losses.{ReceivesLess, IsLess, asked_received_less, rejected_less, stream_less, acks_less}
use Rattle.lapd_pair_laws.proofs.Parts.{Part, part_whole, part_nothing, part_numbers, part_tally, part_rejections, part_behind_ask, part_messages}
use Rattle.lapd_pair_laws.proofs.SupervisoryFrames.{stream_sent, acks_silent, asked_sent, rejected_sent}

-- ---- The side is unchanged, but for its state and its waiting messages.

abbrev pub still_sender : ℕ → ℕ → ℕ → Sender → Sender
still_sender first next passed s = record s { first = first; next = next; passed = passed }

abbrev pub still : State → Bool → Bool → ℕ → ℕ → ℕ → Bool → Party → Party
still state asked leaving first next passed rejecting x = record {
  state = state;
  asked = asked;
  leaving = leaving;
  sends = still_sender first next passed x.sends;
  takes = record (x.takes) { rejecting = rejecting };
}

-- ---- It sends no frame, a frame without N(R) other than UA, or a UA to a closed peer.

pub record IsQuiet (u : Kind) : Type 0 where
  pub no_acceptance : is_acceptance u ≡ false
  pub no_message : message_of u ≡ []
  pub no_number : number_of u ≡ []
  pub no_rejection : rejection_of u ≡ []
  pub no_poll : poll_of u ≡ 0
  pub no_final : final_of u ≡ 0
  pub known : foreign_of u ≡ 0

pub data Answered (state : State) (back out : List Kind) : List Kind → Type 0 where
  unspoken : Answered state back out out
  quietly : (u : Kind) → IsQuiet u → Answered state back out (out ++ u ∷ [])
  accepting : is_7_or_8 state ≡ false → tally answer_of out ≡ 0 → numbers back ≡ []
      → Answered state back out (out ++ Accepts ∷ [])

pub asks_is_quiet : IsQuiet Asks
asks_is_quiet = record {
  no_acceptance = refl;
  no_message = refl;
  no_number = refl;
  no_rejection = refl;
  no_poll = refl;
  no_final = refl;
  known = refl;
}

pub refuses_is_quiet : IsQuiet Refuses
refuses_is_quiet = record {
  no_acceptance = refl;
  no_message = refl;
  no_number = refl;
  no_rejection = refl;
  no_poll = refl;
  no_final = refl;
  known = refl;
}

pub unnumbered_is_quiet : IsQuiet Unnumbered
unnumbered_is_quiet = record {
  no_acceptance = refl;
  no_message = refl;
  no_number = refl;
  no_rejection = refl;
  no_poll = refl;
  no_final = refl;
  known = refl;
}

-- if no N(R) is in transit, no poll, final, message or REJ is
pub unsaid_polls : (ks : List Kind) → numbers ks ≡ [] → tally poll_of ks ≡ 0
unsaid_polls [] none = refl
unsaid_polls (Asks ∷ ks) none = let rest = unsaid_polls ks none in omega (arith, rest)
unsaid_polls (k ∷ ks) none = first_of (cc, grind (arith, unsaid_polls ks))

pub unsaid_finals : (ks : List Kind) → numbers ks ≡ [] → tally final_of ks ≡ 0
unsaid_finals [] none = refl
unsaid_finals (Asks ∷ ks) none = let rest = unsaid_finals ks none in omega (arith, rest)
unsaid_finals (k ∷ ks) none = first_of (cc, grind (arith, unsaid_finals ks))

pub unsaid_messages : (ks : List Kind) → numbers ks ≡ [] → messages ks ≡ []
unsaid_messages [] none = refl
unsaid_messages (Asks ∷ ks) none = unsaid_messages ks none
unsaid_messages (k ∷ ks) none = first_of (cc, search (unsaid_messages ks))

pub unsaid_rejections : (ks : List Kind) → numbers ks ≡ [] → rejections ks ≡ []
unsaid_rejections [] none = refl
unsaid_rejections (Asks ∷ ks) none = unsaid_rejections ks none
unsaid_rejections (k ∷ ks) none = first_of (cc, search (unsaid_rejections ks))

-- if no N(R) is on the line, none is to be processed
received_part_nothing : (state : State) (leaving : Bool) (now : Reception) (ks : List Kind)
    → numbers now.frames ≡ [] → numbers ks ≡ []
    → numbers (frames_received (received_in state leaving now ks)) ≡ []
received_part_nothing TeiAssigned leaving now ks none gone = refl
received_part_nothing AwaitingEstablishment true now ks none gone = refl
received_part_nothing AwaitingEstablishment false now ks none gone = by_behind ks gone
  where
    pick : (test : Bool) (l : List Kind) (o : Option (List Kind)) → numbers l ≡ []
        → numbers (frames_received (option_map next_reception o)) ≡ []
        → numbers (frames_received (option_map next_reception (behind test l o))) ≡ []
    pick true l o here later = here
    pick false l o here later = later

    by_behind : (l : List Kind) → numbers l ≡ []
        → numbers (frames_received (option_map next_reception (behind_acceptance l))) ≡ []
    by_behind [] gone = refl
    by_behind (k ∷ l) gone =
        let rest : numbers l ≡ [] = behind_nothing (number_of k) (numbers l) gone in
        pick (is_acceptance k) l (behind_acceptance l) rest (by_behind l rest)
      where
        behind_nothing : (xs ys : List ℕ) → xs ++ ys ≡ [] → ys ≡ []
        behind_nothing [] ys none = none
        behind_nothing (x ∷ xs) ys none = cc
received_part_nothing AwaitingRelease leaving now ks none gone = refl
received_part_nothing MultipleFrameEstablished leaving now ks none gone = none
received_part_nothing TimerRecovery leaving now ks none gone = none

pub nothing_received : (y : Party) (ks : List Kind) → numbers ks ≡ []
    → numbers (frames_received (receives y ks)) ≡ []
nothing_received y ks none =
    received_part_nothing y.state y.leaving (reception_now y ks) ks none none

-- ---- A UA is appended for a closed side without an answer in transit: no frame follows it.

behind_last : (ks : List Kind) → tally answer_of ks ≡ 0
    → (behind_acceptance (ks ++ Accepts ∷ []) ≡ Some [])
behind_last [] none = refl
behind_last (k ∷ ks) none = by_kind k (omega (arith, none)) (behind_last ks (omega (arith, none)))
  where
    by_kind : (j : Kind) → answer_of j ≡ 0 → behind_acceptance (ks ++ Accepts ∷ []) ≡ Some []
        → behind (is_acceptance j) (ks ++ Accepts ∷ []) (behind_acceptance (ks ++ Accepts ∷ []))
        ≡ Some []
    by_kind Accepts no_answer rest = absurd (omega (arith, no_answer))
    by_kind Asks no_answer rest = rest
    by_kind j no_answer rest = rest

accepted_in : (P : Reception → Type 0) (state : State) (leaving : Bool) (now : Reception)
    (ks : List Kind) → is_7_or_8 state ≡ false → tally answer_of ks ≡ 0 → P (next_reception [])
    → OnReception P (received_in state leaving now (ks ++ Accepts ∷ []))
accepted_in P TeiAssigned leaving now ks closed none p = tt
accepted_in P AwaitingEstablishment true now ks closed none p = tt
accepted_in P AwaitingEstablishment false now ks closed none p =
    subst (λ o. OnReception P (option_map next_reception o)) (sym (behind_last ks none)) p
accepted_in P AwaitingRelease leaving now ks closed none p = tt
accepted_in P MultipleFrameEstablished leaving now ks closed none p = cc
accepted_in P TimerRecovery leaving now ks closed none p = cc

pub nothing_behind_answer : (P : Reception → Type 0) (y : Party) (ks : List Kind)
    → is_7_or_8 y.state ≡ false → tally answer_of ks ≡ 0 → P (next_reception [])
    → OnReception P (receives y (ks ++ Accepts ∷ []))
nothing_behind_answer P y ks closed none p =
    accepted_in P y.state y.leaving (reception_now y (ks ++ Accepts ∷ [])) ks closed none p

-- ---- The frames of the closed side that the peer processes.

closed_stream : (speaking : Bool) (first next passed : ℕ) (s : Sender) (received : List Receipt)
    (vr : ℕ) (rejecting : Bool) (ms : List Message) → IsStream speaking s received vr rejecting ms
    → IsStream false (still_sender first next passed s) received vr rejecting ms
closed_stream speaking first next passed s received vr rejecting ms w = record {
  placed =
      each_map (IsPlaced s) (IsPlaced (still_sender first next passed s)) ms
      (λ m p. record { place = p.place; same = p.same; sent = p.sent }) w.placed;
  near = w.near;
  order = w.order;
  step = λ some. elim some [ inl speaks ↦ cc | inr has ↦ w.step (inr has) ];
  between = λ speaks. cc;
}

closed_acks : (speaking rejecting : Bool) (r : Receiver) (base va vs : ℕ) (ns : List ℕ)
    → AreAcknowledging speaking r base va vs ns
    → AreAcknowledging false (record r { rejecting = rejecting }) base va vs ns
closed_acks speaking rejecting r base va vs ns w =
    record { climb = w.climb; known = w.known; top = λ speaks. cc }

module _ (x y : Party) (state : State) (asked leaving : Bool) (first next passed : ℕ)
    (rejecting : Bool) (closed : is_7_or_8 state ≡ false) where
  received_closed : (here was : Option Reception) (h : Reception) → ReceivesLess here was
      → IsReceivable x y was h
      → IsReceivable (still state asked leaving first next passed rejecting x) y here h
  received_closed here was h less i = record {
    stream =
        subst (λ b. IsStream b (still_sender first next passed x.sends) y.takes.received h.vr
        h.rejecting (messages h.frames)) (sym closed)
        (closed_stream (is_7_or_8 x.state) first next passed x.sends y.takes.received h.vr
        h.rejecting (messages h.frames) i.stream);
    acks =
        subst (λ b. AreAcknowledging b (record (x.takes) { rejecting = rejecting }) y.sends.base
        h.va h.vs (numbers h.frames)) (sym closed)
        (closed_acks (is_7_or_8 x.state) rejecting x.takes y.sends.base h.va h.vs (numbers h.frames)
        i.acks);
    asked =
        asked_received_less y.state y.sends.base x.takes.received here was less
        (part_whole h.frames) i.asked;
    rejected =
        rejected_less y.state y.sends.vs y.sends.base x.takes.received here was less
        (part_whole (rejections h.frames)) i.rejected;
  }

received_quiet : (z y : Party) (here : Option Reception) (u : Kind) (h : Reception) → IsQuiet u
    → IsReceivable z y here h → IsReceivable z y here (one_more u h)
received_quiet z y here u h q i = record {
  stream =
      stream_sent (is_7_or_8 z.state) z.sends y.takes.received h.vr h.rejecting u h.frames
      q.no_message i.stream;
  acks =
      acks_silent z.takes (is_7_or_8 z.state) y.sends.base h.va h.vs u h.frames q.no_number i.acks;
  asked =
      asked_sent y.state y.sends.base z.takes.received (frames_received here) u h.frames q.no_final
      q.no_rejection i.asked;
  rejected =
      rejected_sent y.state y.sends.vs y.sends.base z.takes.received here u h.frames q.no_rejection
      i.rejected;
}

-- no frame of a closed side follows a UA
pub unasked : (state : State) (base : ℕ) (received : List Receipt) (out : List Kind)
    → is_7_or_8 state ≡ false → tally poll_of out ≡ 0 → AreAsked state base received out []
unasked TeiAssigned base received out closed none = tt
unasked AwaitingEstablishment base received out closed none = record { polls = none; finals = refl }
unasked AwaitingRelease base received out closed none = tt
unasked MultipleFrameEstablished base received out closed none = cc
unasked TimerRecovery base received out closed none = cc

pub unrejected : (state : State) (vs base : ℕ) (received : List Receipt)
    (waiting : Option Reception) → is_7_or_8 state ≡ false
    → AreRejected state vs base received waiting []
unrejected TeiAssigned vs base received waiting closed = tt
unrejected AwaitingEstablishment vs base received waiting closed = refl
unrejected AwaitingRelease vs base received waiting closed = tt
unrejected MultipleFrameEstablished vs base received waiting closed = cc
unrejected TimerRecovery vs base received waiting closed = cc

received_nothing : (z y : Party) (here : Option Reception) → is_7_or_8 z.state ≡ false
    → is_7_or_8 y.state ≡ false → tally poll_of (frames_received here) ≡ 0
    → IsReceivable z y here (next_reception [])
received_nothing z y here closed its_closed none = record {
  stream =
      subst (λ b. IsStream b z.sends y.takes.received 0 false []) (sym closed)
      (record {
        placed = tt;
        near = tt;
        order = tt;
        step = λ some. elim some [ inl speaks ↦ cc | inr impossible ↦ absurd impossible ];
        between = λ speaks. cc;
      });
  acks =
      subst (λ b. AreAcknowledging b z.takes y.sends.base 0 0 []) (sym closed)
      (record { climb = omega arith; known = tt; top = λ speaks. cc });
  asked = unasked y.state y.sends.base z.takes.received (frames_received here) its_closed none;
  rejected = unrejected y.state y.sends.vs y.sends.base z.takes.received here its_closed;
}

received_answered : (z y : Party) (back out now : List Kind) → is_7_or_8 z.state ≡ false
    → Answered y.state back out now
    → OnReception (IsReceivable z y (receives z back)) (receives y out)
    → OnReception (IsReceivable z y (receives z back)) (receives y now)
received_answered z y back out now closed unspoken w = w
received_answered z y back out now closed (quietly u q) w =
    subst (λ o. OnReception (IsReceivable z y (receives z back)) o)
    (sym (receives_more y out u q.no_acceptance))
    (on_mapped (IsReceivable z y (receives z back)) (one_more u) (receives y out)
    (on_map (IsReceivable z y (receives z back))
    (λ h. IsReceivable z y (receives z back) (one_more u h)) (receives y out)
    (λ h i. received_quiet z y (receives z back) u h q i) w))
received_answered z y back out now closed (accepting its_closed unanswered gone) w =
    nothing_behind_answer (IsReceivable z y (receives z back)) y out its_closed unanswered
    (received_nothing z y (receives z back) closed its_closed
    (unsaid_polls (frames_received (receives z back)) (nothing_received z back gone)))

-- ---- The frames of the peer that the closed side processes.

polls_more : (u : Kind) (o : Option Reception) → poll_of u ≡ 0
    → tally poll_of (frames_received o) ≡ 0
    → tally poll_of (frames_received (option_map (one_more u) o)) ≡ 0
polls_more u None no_poll none = refl
polls_more u (Some h) no_poll none =
    let more = tally_more poll_of u h.frames in omega (arith, more, no_poll, none)

pub frames_nothing : (o : Option Reception) → OnReception (λ h. h.frames ≡ []) o
    → tally poll_of (frames_received o) ≡ 0
frames_nothing None none = refl
frames_nothing (Some h) none = ap (λ l. tally poll_of l) none

polls_answered : (y : Party) (back out now : List Kind) → Answered y.state back out now
    → tally poll_of (frames_received (receives y out)) ≡ 0
    → tally poll_of (frames_received (receives y now)) ≡ 0
polls_answered y back out now unspoken none = none
polls_answered y back out now (quietly u q) none =
    subst (λ o. tally poll_of (frames_received o) ≡ 0) (sym (receives_more y out u q.no_acceptance))
    (polls_more u (receives y out) q.no_poll none)
polls_answered y back out now (accepting its_closed unanswered gone) none =
    frames_nothing (receives y (out ++ Accepts ∷ []))
    (nothing_behind_answer (λ h. h.frames ≡ []) y out its_closed unanswered refl)

closed_asked : (state : State) (base : ℕ) (received : List Receipt)
    (out was back back_was : List Kind) → is_7_or_8 state ≡ false
    → (tally poll_of was ≡ 0 → tally poll_of out ≡ 0) → Part back back_was
    → AreAsked state base received was back_was → AreAsked state base received out back
closed_asked TeiAssigned base received out was back back_was closed f p w = tt
closed_asked AwaitingEstablishment base received out was back back_was closed f p w =
    let less = part_tally final_of p in
    record { polls = f w.polls; finals = omega (arith, less, w.finals) }
closed_asked AwaitingRelease base received out was back back_was closed f p w = tt
closed_asked MultipleFrameEstablished base received out was back back_was closed f p w = cc
closed_asked TimerRecovery base received out was back back_was closed f p w = cc

closed_rejected : (state : State) (vs base : ℕ) (received : List Receipt)
    (now was : Option Reception) {ns ns_was : List ℕ} → is_7_or_8 state ≡ false → Part ns ns_was
    → AreRejected state vs base received was ns_was → AreRejected state vs base received now ns
closed_rejected TeiAssigned vs base received now was closed p w = tt
closed_rejected AwaitingEstablishment vs base received now was closed p w = part_nothing p w
closed_rejected AwaitingRelease vs base received now was closed p w = tt
closed_rejected MultipleFrameEstablished vs base received now was closed p w = cc
closed_rejected TimerRecovery vs base received now was closed p w = cc

-- ---- SABME, DISC and their answers.

asks_more : (u : Kind) (ks : List Kind) → number_of u ≡ [] → NoneBehindAsk ks
    → NoneBehindAsk (ks ++ u ∷ [])
asks_more u [] no_number none = ((λ _. refl), tt)
asks_more u (k ∷ ks) no_number none =
    ((λ ask. numbers_same u ks no_number ∙ none.0 ask), asks_more u ks no_number none.1)

exchange_closed : (most most_was : ℕ) (state : State) (back back_was out now : List Kind)
    → Part back back_was → Answered state back out now
    → tally ask_of now + tally answer_of back ≤ most → IsExchange most_was out back_was
    → IsExchange most now back
exchange_closed most most_was state back back_was out now p unspoken one w =
    let answers = part_tally answer_of p in record {
      one = one;
      behind = w.behind;
      before = λ answer. w.before (omega (arith, answer, answers));
      clean = w.clean;
    }
exchange_closed most most_was state back back_was out now p (quietly u q) one w =
    let answers = part_tally answer_of p in let foreign = tally_more foreign_of u out in record {
      one = one;
      behind = asks_more u out q.no_number w.behind;
      before = λ answer. numbers_same u out q.no_number ∙ w.before (omega (arith, answer, answers));
      clean = omega (arith, foreign, w.clean, q.known);
    }
exchange_closed most most_was state back back_was out now p (accepting its_closed unanswered gone)
    one w =
    let answers = part_tally answer_of p in
    let foreign = tally_more foreign_of Accepts out in record {
      one = one;
      behind = asks_more Accepts out refl w.behind;
      before = λ answer. numbers_same Accepts out refl ∙ w.before (omega (arith, answer, answers));
      clean = omega (arith, foreign, w.clean);
    }

-- ---- The lemma.

-- the closed side processes at most the earlier frames in the same state, or none
pub data Less (state was_state : State) (now was : Option Reception) : Type 0 where
  same : state ≡ was_state → ReceivesLess now was → Less state was_state now was
  deaf : now ≡ None → Less state was_state now was

less_received : (state was_state : State) (now was : Option Reception)
    → Less state was_state now was → ReceivesLess now was
less_received state was_state now was (same s less) = less
less_received state was_state now was (deaf none) = subst (λ o. ReceivesLess o was) (sym none) tt

module _ (x y : Party) (out now back_was back : List Kind) (state : State) (asked leaving : Bool)
    (first next passed : ℕ) (rejecting : Bool) (closed : is_7_or_8 state ≡ false)
    (part : Part back back_was) (said : Answered y.state back out now) where
  abbrev z : Party
  z = still state asked leaving first next passed rejecting x

  its_received : Less state x.state (receives z back) (receives x back_was)
      → OnReception (IsReceivable y x (receives y out)) (receives x back_was)
      → OnReception (IsReceivable y z (receives y now)) (receives z back)
  its_received (deaf none) w =
      subst (λ o. OnReception (IsReceivable y z (receives y now)) o) (sym none) tt
  its_received (same is less) w = turned (receives z back) (receives x back_was) less w
    where
      one : (n h : Reception) → IsLess n h → IsReceivable y x (receives y out) h
          → IsReceivable y z (receives y now) n
      one n h l i = record {
        stream =
            rw (l.vr, l.rejecting) (stream_less (is_7_or_8 y.state) y.sends x.takes.received h.vr
            h.rejecting (part_messages l.part) i.stream);
        acks =
            rw (l.va, l.vs) (acks_less (is_7_or_8 y.state) y.takes x.sends.base h.va h.vs
            (part_numbers l.part) i.acks);
        asked =
            closed_asked state x.sends.base y.takes.received (frames_received (receives y now))
            (frames_received (receives y out)) n.frames h.frames closed
            (polls_answered y back out now said) l.part
            (subst (λ s. AreAsked s x.sends.base y.takes.received (frames_received (receives y out))
            h.frames) (sym is) i.asked);
        rejected =
            closed_rejected state x.sends.vs x.sends.base y.takes.received (receives y now)
            (receives y out) closed (part_rejections l.part)
            (subst (λ s. AreRejected s x.sends.vs x.sends.base y.takes.received (receives y out)
            (rejections h.frames)) (sym is) i.rejected);
      }

      turned : (n w : Option Reception) → ReceivesLess n w
          → OnReception (IsReceivable y x (receives y out)) w
          → OnReception (IsReceivable y z (receives y now)) n
      turned None w l i = tt
      turned (Some n) None l i = absurd l
      turned (Some n) (Some h) l i = one n h l i

  pub closing : IsConsistentSender state asked leaving z.sends → passed ≡ first
      → (is_holding state asked leaving ≡ true → is_holding x.state x.asked x.leaving ≡ true)
      → Less state x.state (receives z back) (receives x back_was)
      → tally ask_of now + tally answer_of back ≤ most_asks state
      → tally ask_of back + tally answer_of now ≤ most_asks y.state
      → (0 < tally answer_of now → numbers back ≡ [])
      → Both x y out back_was → Both z y now back
  closing preserved passed_ holds less one its_one before b = record {
    mine = record {
      preserved = preserved;
      passed = passed_;
      past = b.mine.past;
      lately = b.mine.lately;
      none_yet = λ opened. cc;
      below = λ holding. b.mine.below (holds holding);
      reception =
          received_answered z y back out now closed said
          (on_map (IsReceivable x y (receives x back_was)) (IsReceivable z y (receives z back))
          (receives y out)
          (λ h i. received_closed x y state asked leaving first next passed rejecting closed
          (receives z back) (receives x back_was) h
          (less_received state x.state (receives z back) (receives x back_was) less) i)
          b.mine.reception);
      exchange =
          exchange_closed (most_asks state) (most_asks x.state) y.state back back_was out now part
          said one b.mine.exchange;
      histories = b.mine.histories;
    };
    its = record {
      preserved = b.its.preserved;
      passed = b.its.passed;
      past = b.its.past;
      lately = b.its.lately;
      none_yet = b.its.none_yet;
      below = b.its.below;
      reception = its_received less b.its.reception;
      exchange =
          let foreign = part_tally foreign_of part in
          record {
            one = its_one;
            behind = part_behind_ask part b.its.exchange.behind;
            before = before;
            clean = omega (arith, foreign, b.its.exchange.clean);
          };
      histories = b.its.histories;
    };
  }
