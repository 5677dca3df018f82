-- An establishment begins, stated over the two sides: by the UA that answers the side's SABME, or
-- by a SABME of the peer.
use Rattle.std.proofs.Common.{◌≡◌, inl, inr, ℕ, ◌+◌, ◌≤◌, Bool, true, false, List, [], ◌∷◌, ◌++◌, length, Option, Some, refl, sym, ap, subst, arith}
use Rattle.lapd_link_definition.specs.declared.state.State.{State}
use Rattle.lapd_link_definition.specs.declared.state.State.TheVariants.{AwaitingEstablishment, MultipleFrameEstablished}
use Rattle.lapd_link_definition.specs.EndOfStep.{is_7_or_8}
use Rattle.lapd_pair_laws.specs.Histories.{Receipt}
use Rattle.lapd_pair_laws.specs.Kinds.{Message, Kind, Asks, Accepts, messages, numbers, rejections, answer_of}
use Rattle.lapd_pair_laws.specs.Parties.{Sender, Receiver, Party, Reception, reception_now, next_reception, received_in, receives, OnReception, frames_received}
use Rattle.lapd_pair_laws.specs.Conjuncts.{Each, IsGot, IsClimb, IsInStep, IsNumbering, IsPast, IsStream, AreAcknowledging, NoneAsked, AreAsked, AreRejected, IsReceivable, IsExchange, most_asks, high}
use Rattle.lapd_pair_laws.specs.Invariant.{IsSpeaking, Both}
use Rattle.lapd_pair_laws.proofs.GoingBack.{no_rejections, order_of_none, polls_received}
use Rattle.lapd_pair_laws.proofs.Closed.{unsaid_polls, unsaid_finals, unsaid_messages, unsaid_rejections, nothing_received, nothing_behind_answer, unasked, unrejected, frames_nothing}
use Rattle.lapd_pair_laws.proofs.Closings.{IsAsked, is_asked}
use Rattle.lapd_pair_laws.proofs.Receptions.{on_both, IsReceivedAs, received_as}
use Rattle.lapd_pair_laws.proofs.Lists.{tally_more}
use Rattle.lapd_pair_laws.proofs.Losses.{exchange_less}
use Rattle.lapd_pair_laws.proofs.MidSteps.{Mid}
use Rattle.lapd_pair_laws.proofs.Parts.{part_whole, part_first}
use Rattle.lapd_pair_laws.proofs.Runs.{run_is_order, climb_top}
use Rattle.lapd_pair_laws.proofs.SupervisoryFrames.{exchange_sent}

-- All numbers are 0, and message number 0 is the first waiting message; none from there on is sent.
abbrev pub beginning_sender : ℕ → ℕ → ℕ → Sender → Sender
beginning_sender first next passed s = record s
    { base = first; era = s.era + 1; vs = 0; va = 0; first = first; next = next; passed = passed }

abbrev pub beginning : ℕ → ℕ → ℕ → Bool → Party → Party
beginning first next passed rejecting x = record {
  state = MultipleFrameEstablished;
  asked = x.asked;
  leaving = x.leaving;
  sends = beginning_sender first next passed x.sends;
  takes = record { vr = 0; rejecting = rejecting; received = x.takes.received };
}

-- the first waiting place is at most the number of messages submitted, and the peer received no
-- message from there on
pub record IsFresh (first next passed : ℕ) (x y : Party) : Type 0 where
  pub unsent : next ≡ first
  pub gone : passed ≡ first
  pub within : first ≤ length x.sends.given
  pub above : high y.takes.received ≤ first

-- ---- The side by itself.

numbering_from : (first next passed : ℕ) (x y : Party) → IsFresh first next passed x y
    → IsNumbering (beginning_sender first next passed x.sends)
numbering_from first next passed x y f = record {
  first = omega arith;
  next = omega (arith, f.unsent);
  ordered = omega arith;
  window = omega arith;
  within = omega (arith, f.unsent, f.within);
  since = λ place from before. absurd (omega (arith, from, before, f.unsent));
}

past_from : (first next passed : ℕ) (s : Sender) → IsPast s
    → IsPast (beginning_sender first next passed s)
past_from first next passed s past place era sent =
    let earlier : era ≤ s.era = (past place era sent).0 in
    (omega (arith, earlier), λ same. absurd (omega (arith, earlier, same)))

step_from : (first : ℕ) (received : List Receipt) → high received ≤ first
    → IsInStep first 0 received
step_from first received above = record {
  below = omega (arith, above);
  level = λ some. absurd (omega (arith, some));
  got = λ m less. absurd (omega (arith, less));
}

-- ---- By a UA: the frames that follow it are processed from now on.

awaits_as : (state : State) (leaving : Bool) (now : Reception) (back : List Kind)
    → state ≡ AwaitingEstablishment → leaving ≡ false
    → received_in state leaving now (Accepts ∷ back) ≡ Some (next_reception back)
awaits_as state leaving now back is stays = rw (is, stays) refl

known_of_none : (base low : ℕ) (received : List Receipt) (ns : List ℕ) → IsClimb low 0 ns
    → Each (λ nr. IsGot base nr received) ns
known_of_none base low received [] climb = tt
known_of_none base low received (n ∷ ns) climb =
    let none : n ≤ 0 = climb_top n 0 ns climb.1 in
    ((λ m less. absurd (omega (arith, less, none))), known_of_none base n received ns climb.1)

-- in state 5 the invariant excludes polls, finals and REJ
none_asked : (state : State) (base : ℕ) (received : List Receipt) (out back : List Kind)
    → state ≡ AwaitingEstablishment → AreAsked state base received out back → NoneAsked out back
none_asked state base received out back is w = subst (λ st. AreAsked st base received out back) is w

none_rejected : (state : State) (vs base : ℕ) (received : List Receipt) (waiting : Option Reception)
    (ns : List ℕ) → state ≡ AwaitingEstablishment → AreRejected state vs base received waiting ns
    → ns ≡ []
none_rejected state vs base received waiting ns is w =
    subst (λ st. AreRejected st vs base received waiting ns) is w

-- the peer will process frames with V(R) = V(A) = 0
pub record AreZero (h : Reception) : Type 0 where
  pub vr : h.vr ≡ 0
  pub va : h.va ≡ 0

received_from_start : (x y : Party) (out : List Kind) (here : Option Reception) (back : List Kind)
    → IsReceivable y x here (next_reception back) → (h : Reception) → IsReceivedAs y out h
    → AreZero h
received_from_start x y out here back come h (inl now) =
    let low : y.sends.va ≤ 0 = (come.stream.between now.0).0 in
    let top : y.takes.vr ≤ 0 = (come.acks.top now.0).1 in
    let vr : h.vr ≡ y.takes.vr = ap (λ (g : Reception). g.vr) now.1 in
    let va : h.va ≡ y.sends.va = ap (λ (g : Reception). g.va) now.1 in
    record { vr = omega (arith, top, vr); va = omega (arith, low, va) }
received_from_start x y out here back come h (inr later) = record { vr = later.vr; va = later.va }

-- no message and no N(R) is to be processed
silent_stream : (z y : Party) (first vr : ℕ) (rejecting : Bool) (ms : List Message) → ms ≡ []
    → vr ≡ 0 → z.sends.base ≡ first → z.sends.va ≡ 0 → high y.takes.received ≤ first
    → IsStream true z.sends y.takes.received vr rejecting ms
silent_stream z y first vr rejecting ms none zero_ base va above = rw (none, zero_) (record {
  placed = tt;
  near = tt;
  order = order_of_none rejecting 0 z.sends.vs [] refl;
  step = λ _. rw base (step_from first y.takes.received above);
  between = λ _. (omega (arith, va), omega arith);
})

silent_acks : (z y : Party) (va vs : ℕ) (ns : List ℕ) → ns ≡ [] → va ≡ 0 → z.takes.vr ≡ 0
    → AreAcknowledging true z.takes y.sends.base va vs ns
silent_acks z y va vs ns none zero_ vr =
    rw none (record {
      climb = omega (arith, zero_);
      known = tt;
      top = λ _. (omega (arith, zero_), omega (arith, vr));
    })

-- no message of a closed side is processed
closed_stream_of_none : (speaking : Bool) (s : Sender) (received : List Receipt) (rejecting : Bool)
    → speaking ≡ false → IsStream speaking s received 0 rejecting []
closed_stream_of_none speaking s received rejecting closed = record {
  placed = tt;
  near = tt;
  order = order_of_none rejecting 0 s.vs [] refl;
  step = λ some. elim some [ inl speaks ↦ cc | inr impossible ↦ absurd impossible ];
  between = λ speaks. cc;
}

closed_acks_of_none : (speaking : Bool) (r : Receiver) (base : ℕ) → speaking ≡ false
    → AreAcknowledging speaking r base 0 0 []
closed_acks_of_none speaking r base closed =
    record { climb = omega arith; known = tt; top = λ speaks. cc }

module _ (x y : Party) (out back : List Kind) (first next passed : ℕ) (rejecting : Bool)
    (fresh : IsFresh first next passed x y) where
  pub by_acceptance : x.state ≡ AwaitingEstablishment → x.leaving ≡ false
      → Both x y out (Accepts ∷ back) → Mid (beginning first next passed rejecting x) y out back
  by_acceptance is stays b =
      let z = beginning first next passed rejecting x in
      let was = Some (next_reception back) in
      let now = Some (reception_now z back) in
      let come : receives x (Accepts ∷ back) ≡ was =
      awaits_as x.state x.leaving (reception_now x (Accepts ∷ back)) back is stays in
      let mine : IsSpeaking x y out (Accepts ∷ back) was (receives y out) =
      subst (λ o. IsSpeaking x y out (Accepts ∷ back) o (receives y out)) come b.mine in
      let its : IsSpeaking y x (Accepts ∷ back) out (receives y out) was =
      subst (λ o. IsSpeaking y x (Accepts ∷ back) out (receives y out) o) come b.its in
      let most : most_asks x.state ≡ 1 = ap (λ st. most_asks st) is in
      let silent : numbers out ≡ [] = mine.exchange.before (omega arith) in
      let reception : IsReceivable y x (receives y out) (next_reception back) = its.reception in
      let None_ : Reception → Type 0 = λ h. numbers h.frames ≡ [] in
      let Facts : Reception → Type 0 = λ h. AreZero h × (numbers h.frames ≡ []) in
      let facts : OnReception Facts (receives y out) =
      on_both (IsReceivedAs y out) None_ Facts (receives y out)
      (λ h as_ none. (received_from_start x y out (receives y out) back reception h as_, none))
      (received_as y out)
      (polls_received (λ l. numbers l ≡ []) (receives y out) (nothing_received y out silent)) in
      record {
        opened = refl;
        mine = record {
          preserved = numbering_from first next passed x y fresh;
          passed = fresh.gone;
          past = past_from first next passed x.sends mine.past;
          lately = omega (arith, mine.lately);
          none_yet = λ _ _. omega (arith, mine.lately);
          below = λ _. omega (arith, fresh.above);
          reception =
              on_both Facts (IsReceivable x y was) (IsReceivable z y now) (receives y out)
              (λ h f i. record {
                stream =
                    silent_stream z y first h.vr h.rejecting (messages h.frames)
                    (unsaid_messages h.frames f.1) f.0.vr refl refl fresh.above;
                acks = silent_acks z y h.va h.vs (numbers h.frames) f.1 f.0.va refl;
                asked = i.asked;
                rejected =
                    no_rejections y.state y.sends.vs y.sends.base x.takes.received now
                    (rejections h.frames) (unsaid_rejections h.frames f.1);
              }) facts mine.reception;
          exchange = record {
            one = omega (arith, mine.exchange.one, most);
            behind = mine.exchange.behind;
            before = λ answer. silent;
            clean = mine.exchange.clean;
          };
          histories = mine.histories;
        };
        its = record {
          preserved = its.preserved;
          passed = its.passed;
          past = its.past;
          lately = its.lately;
          none_yet = its.none_yet;
          below = its.below;
          reception = record {
            stream =
                let w = reception.stream in
                record {
                  placed = w.placed;
                  near = w.near;
                  order = run_is_order rejecting 0 y.sends.vs (messages back) w.order;
                  step = w.step;
                  between = w.between;
                };
            acks =
                let w = reception.acks in
                record {
                  climb = w.climb;
                  known = known_of_none first 0 y.takes.received (numbers back) w.climb;
                  top = w.top;
                };
            asked =
                let w =
                none_asked x.state x.sends.base y.takes.received
                (frames_received (receives y out)) back is reception.asked in
                record { polls = w.polls; finals = w.finals };
            rejected =
                no_rejections MultipleFrameEstablished 0 first y.takes.received (receives y out)
                (rejections back) (none_rejected x.state x.sends.vs x.sends.base y.takes.received
                (receives y out) (rejections back) is reception.rejected);
          };
          exchange =
              exchange_less (most_asks y.state) (part_first Accepts back) (part_whole out)
              its.exchange;
          histories = its.histories;
        };
      }

  -- ---- By a SABME, which the side answers by a UA: no frame follows it yet.

  pub by_asking : most_asks x.state ≡ 0 → Both x y out (Asks ∷ back)
      → Mid (beginning first next passed rejecting x) y (out ++ Accepts ∷ []) back
  by_asking none b =
      let z = beginning first next passed rejecting x in
      let l = out ++ Accepts ∷ [] in
      let now = Some (reception_now z back) in
      let i : IsAsked y out back = is_asked x y out back b in
      let answers = tally_more answer_of Accepts out in
      let Empty : Reception → Type 0 = λ h. h.frames ≡ [] in
      let there : OnReception Empty (receives y l) =
      nothing_behind_answer Empty y out i.closed i.answers refl in
      record {
        opened = refl;
        mine = record {
          preserved = numbering_from first next passed x y fresh;
          passed = fresh.gone;
          past = past_from first next passed x.sends b.mine.past;
          lately = omega (arith, b.mine.lately);
          none_yet = λ _ _. omega (arith, b.mine.lately);
          below = λ _. omega (arith, fresh.above);
          reception =
              nothing_behind_answer (IsReceivable z y now) y out i.closed i.answers (record {
                stream = silent_stream z y first 0 false [] refl refl refl refl fresh.above;
                acks = silent_acks z y 0 0 [] refl refl refl;
                asked =
                    unasked y.state y.sends.base x.takes.received back i.closed
                    (unsaid_polls back i.nothing);
                rejected = unrejected y.state y.sends.vs y.sends.base x.takes.received now i.closed;
              });
          exchange =
              exchange_sent 0 Accepts out back refl refl refl
              (subst (λ n. IsExchange n out back) none
              (exchange_less (most_asks x.state) (part_whole out) (part_first Asks back)
              b.mine.exchange));
          histories = b.mine.histories;
        };
        its = record {
          preserved = b.its.preserved;
          passed = b.its.passed;
          past = b.its.past;
          lately = b.its.lately;
          none_yet = b.its.none_yet;
          below = b.its.below;
          reception = record {
            stream =
                subst (λ ms. IsStream (is_7_or_8 y.state) y.sends x.takes.received 0 rejecting ms)
                (sym (unsaid_messages back i.nothing))
                (closed_stream_of_none (is_7_or_8 y.state) y.sends x.takes.received rejecting
                i.closed);
            acks =
                subst (λ ns. AreAcknowledging (is_7_or_8 y.state) y.takes first 0 0 ns)
                (sym i.nothing) (closed_acks_of_none (is_7_or_8 y.state) y.takes first i.closed);
            asked = record {
              polls = frames_nothing (receives y l) there;
              finals = unsaid_finals back i.nothing;
            };
            rejected =
                no_rejections MultipleFrameEstablished 0 first y.takes.received (receives y l)
                (rejections back) (unsaid_rejections back i.nothing);
          };
          exchange = record {
            one = omega (arith, i.asks, i.answers, answers, i.room);
            behind = b.its.exchange.behind.1;
            before = λ _. i.nothing;
            clean = omega (arith, b.its.exchange.clean);
          };
          histories = b.its.histories;
        };
      }
