-- An open side sends a message: the next one, or the last one again with a poll.
use Rattle.std.proofs.Common.{◌≡◌, ◌⊎◌, inl, inr, ℕ, ◌+◌, ◌-◌, ◌<◌, ◌≤◌, ◌==◌, if◌then◌else◌, true, false, List, [], ◌∷◌, ◌++◌, length, get_or, Option, Some, None, option_map, refl, sym, ap, subst, ◌∙◌, arith}
use Rattle.std.proofs.lemmas.Bool.Decides.{nat_tests}
use Rattle.std.proofs.lemmas.Option.{slice_get-get_or}
use Rattle.std.proofs.Math.Path.{fun_ext}
use Rattle.lapd_link_definition.specs.declared.state.State.TheVariants.{MultipleFrameEstablished, TimerRecovery}
use Rattle.lapd_link_definition.specs.EndOfStep.{is_7_or_8}
use Rattle.lapd_pair_laws.specs.Histories.{Receipt}
use Rattle.lapd_pair_laws.specs.Kinds.{Message, Kind, Numbered, messages, numbers, rejections, bit, tally, poll_of, final_of}
use Rattle.lapd_pair_laws.specs.Parties.{Sender, Party, Reception, reception_now, receives, OnReception, frames_received}
use Rattle.lapd_pair_laws.specs.Conjuncts.{Each, HasPlace, IsGot, IsPlaced, IsNearTo, IsNumbering, IsConsistentSender, IsPast, IsStream, NoneAsked, NoneBehindPoll, OneAsked, AreAsked, IsAwaiting, IsSentBack, AreRejected, IsReceivable, most_asks, high}
use Rattle.lapd_pair_laws.specs.Invariant.{IsSpeaking}
use Rattle.lapd_pair_laws.proofs.GoingBack.{none_polls, none_asked_in_7, polls_received}
use Rattle.lapd_pair_laws.proofs.Receptions.{on_both, on_mapped, receives_more, one_more}
use Rattle.lapd_pair_laws.proofs.Lists.{messages_append, each_more, each_map, tally_more, nat_cases}
use Rattle.lapd_pair_laws.proofs.Losses.{rejected_map, one_map}
use Rattle.lapd_pair_laws.proofs.MidSteps.{Mid, numbering, open_consistent, open_holds, open_asks_none, got_where_received}
use Rattle.lapd_pair_laws.proofs.Polls.{IsSettled, settled_in_7, recovering, to_recovery}
use Rattle.lapd_pair_laws.proofs.Receipts.{place_below}
use Rattle.lapd_pair_laws.proofs.Runs.{order_more, order_again, climb_to}
use Rattle.lapd_pair_laws.proofs.SupervisoryFrames.{acks_sent, asked_sent, rejected_sent, exchange_sent, exchange_received, no_finals}

-- ---- Which establishment a place was sent in.

abbrev pub sent_at : ℕ → ℕ → (ℕ → Option ℕ) → ℕ → Option ℕ
sent_at at era sent place = if place == at then Some era else sent place

sent_here : (at era place : ℕ) (sent : ℕ → Option ℕ) → place ≡ at
    → sent_at at era sent place ≡ Some era
sent_here at era place sent same =
    let test : (place == at) ≡ true = grind (arith, same, nat_tests) in rw test refl

sent_elsewhere : (at era place : ℕ) (sent : ℕ → Option ℕ) → (place ≡ at → ⊥)
    → sent_at at era sent place ≡ sent place
sent_elsewhere at era place sent other =
    let test : (place == at) ≡ false = grind (arith, other, nat_tests) in rw test refl

pub same_or_not : (n m : ℕ) → (n ≡ m) ⊎ (n ≡ m → ⊥)
same_or_not n m = grind arith

sent_still : (at era place : ℕ) (sent : ℕ → Option ℕ) → sent place ≡ Some era
    → sent_at at era sent place ≡ Some era
sent_still at era place sent was =
    elim (same_or_not place at) [
      | inl same ↦ sent_here at era place sent same
      | inr other ↦
          sent_elsewhere at era place sent other ∙ was
    ]

-- ---- The next message.

abbrev pub sending_sender : Sender → Sender
sending_sender s = record s
    { vs = s.vs + 1; next = s.next + 1; sent_in = sent_at s.next s.era s.sent_in }

abbrev pub sending : Party → Party
sending x = record x { sends = sending_sender x.sends }

abbrev pub next_message : Sender → Message
next_message s =
    record { number = s.vs; polled = false; place = s.next; octets = get_or s.given s.next [] }

placed_sending : (s : Sender) (m : Message) → IsPlaced s m → IsPlaced (sending_sender s) m
placed_sending s m p = record {
  place = p.place;
  same = p.same;
  sent = sent_still s.next s.era m.place s.sent_in p.sent;
}

awaits_sending : (x : Party) (back : List Kind) (n : ℕ) → IsAwaiting n (reception_now x back)
    → IsAwaiting n (reception_now (sending x) back)
awaits_sending x back n w = record { rejecting = w.rejecting; at = w.at; above = w.above }

none_polled_more : (u : Kind) (there : Option Reception) (back : List Kind) → poll_of u ≡ 0
    → NoneAsked (frames_received there) back
    → NoneAsked (frames_received (option_map (one_more u) there)) back
none_polled_more u None back no_poll w = w
none_polled_more u (Some h) back no_poll w =
    let more = tally_more poll_of u h.frames in
    record { polls = omega (arith, w.polls, more, no_poll); finals = w.finals }

awaits_more : (nr : ℕ) (m : Message) (vr : ℕ) (there : Option Reception) → nr < m.number
    → OnReception (IsAwaiting nr) there
    → OnReception (IsAwaiting nr) (option_map (one_more (Numbered m vr)) there)
awaits_more nr m vr None above w = tt
awaits_more nr m vr (Some h) above w = record {
  rejecting = w.rejecting;
  at = w.at;
  above =
      subst (λ ms. Each (λ n. n.polled ≡ false → nr < n.number) ms)
      (sym (messages_append h.frames (Numbered m vr ∷ [])))
      (each_more (λ n. n.polled ≡ false → nr < n.number) (messages h.frames) m w.above
      (λ _. above));
}

module _ (x y : Party) (out back : List Kind) (is : x.state ≡ MultipleFrameEstablished)
    (room : x.sends.vs < x.sends.va + x.sends.k) (unsent : x.sends.next < length x.sends.given)
    (m : Mid x y out back) where
  stream_sending : (h : Reception) → tally poll_of h.frames ≡ 0
      → IsReceivable x y (Some (reception_now x back)) h
      → IsStream (is_7_or_8 x.state) (sending_sender x.sends) y.takes.received h.vr h.rejecting
      (messages (h.frames ++ Numbered (next_message x.sends) x.takes.vr ∷ []))
  stream_sending h no_poll i =
      let s = x.sends in
      let n : IsNumbering s = numbering m in
      let between = i.stream.between m.opened in
      let low : s.va ≤ h.vr = between.0 in
      let top : h.vr ≤ s.vs = between.1 in
      let new : IsPlaced (sending_sender s) (next_message s) =
      record {
        place = n.next;
        same = slice_get-get_or s.given s.next [] unsent;
        sent = sent_here s.next s.era s.next s.sent_in refl;
      } in
      subst (λ ms. IsStream (is_7_or_8 x.state) (sending_sender s) y.takes.received h.vr h.rejecting
      ms) (sym (messages_append h.frames (Numbered (next_message s) x.takes.vr ∷ [])))
      (record {
        placed =
            each_more (IsPlaced (sending_sender s)) (messages h.frames) (next_message s)
            (each_map (IsPlaced s) (IsPlaced (sending_sender s)) (messages h.frames)
            (placed_sending s) i.stream.placed) new;
        near =
            each_more (IsNearTo h.vr s.k) (messages h.frames) (next_message s) i.stream.near
            (omega (arith, top), omega (arith, low, room));
        order =
            order_more h.rejecting h.vr s.vs (messages h.frames) (next_message s) top refl refl
            (none_polls h.frames no_poll) i.stream.order;
        step = λ _. i.stream.step (inl m.opened);
        between = λ _. (low, omega (arith, top));
      })

  pub preserves_sending : Mid (sending x) y (out ++ Numbered (next_message x.sends) x.takes.vr ∷ [])
      back
  preserves_sending =
      let z = sending x in
      let s = x.sends in
      let u = Numbered (next_message s) x.takes.vr in
      let was = Some (reception_now x back) in
      let now = Some (reception_now z back) in
      let n : IsNumbering s = numbering m in
      let none : NoneAsked (frames_received (receives y out)) back =
      none_asked_in_7 x y out back is m in
      let Was : Reception → Type 0 = IsReceivable x y was in
      let Now : Reception → Type 0 = IsReceivable z y now in
      let Got : Reception → Type 0 = λ h. IsGot y.sends.base x.takes.vr x.takes.received in
      let Poll : Reception → Type 0 = λ h. tally poll_of h.frames ≡ 0 in
      let GotPoll : Reception → Type 0 = λ h. Got h × Poll h in
      let facts : OnReception GotPoll (receives y out) =
      on_both Got Poll GotPoll (receives y out) (λ h g p. (g, p)) (got_where_received m)
      (polls_received (λ l. tally poll_of l ≡ 0) (receives y out) none.polls) in
      let reception : OnReception (λ h. Now (one_more u h)) (receives y out) =
      on_both GotPoll Was (λ h. Now (one_more u h)) (receives y out) (λ h f i. record {
        stream = stream_sending h f.1 i;
        acks =
            acks_sent x.takes (is_7_or_8 x.state) y.sends.base h.va h.vs u h.frames m.opened refl
            f.0 i.acks;
        asked = asked_sent y.state y.sends.base x.takes.received back u h.frames refl refl i.asked;
        rejected =
            rejected_sent y.state y.sends.vs y.sends.base x.takes.received now u h.frames refl
            (rejected_map y.state y.sends.vs y.sends.base x.takes.received now was
            (rejections h.frames) (awaits_sending x back) i.rejected);
      }) facts m.mine.reception in
      let there = option_map (one_more u) (receives y out) in
      let more : receives y (out ++ u ∷ []) ≡ there = receives_more y out u refl in
      let below : high y.takes.received ≤ s.base + s.vs =
      m.mine.below (open_holds x.state x.asked x.leaving m.opened) in
      record {
        opened = m.opened;
        mine = subst (λ o. IsSpeaking z y (out ++ u ∷ []) back now o) (sym more) (record {
          preserved = preserved n;
          passed = m.mine.passed;
          past = past;
          lately = m.mine.lately;
          none_yet = m.mine.none_yet;
          below = λ _. omega (arith, below);
          reception = on_mapped Now (one_more u) (receives y out) reception;
          exchange =
              exchange_sent (most_asks x.state) u out back (open_asks_none x.state m.opened) refl
              refl m.mine.exchange;
          histories = record {
            as_given = m.mine.histories.as_given;
            row = m.mine.histories.row;
            prefix = prefix below;
            arrived = m.mine.histories.arrived;
          };
        });
        its = subst (λ o. IsSpeaking y z back (out ++ u ∷ []) o now) (sym more) (record {
          preserved = m.its.preserved;
          passed = m.its.passed;
          past = m.its.past;
          lately = m.its.lately;
          none_yet = m.its.none_yet;
          below = m.its.below;
          reception = record {
            stream = m.its.reception.stream;
            acks =
                let a = m.its.reception.acks in
                record {
                  climb = climb_to s.va s.vs (s.vs + 1) (numbers back) (omega arith) a.climb;
                  known = a.known;
                  top = λ opened. ((a.top opened).0, omega (arith, (a.top opened).1));
                };
            asked =
                subst (λ st. AreAsked st s.base y.takes.received (frames_received there) back)
                (sym is) (none_polled_more u (receives y out) back refl none);
            rejected =
                subst
                (λ st. AreRejected st (s.vs + 1) s.base y.takes.received there (rejections back))
                (sym is) (one_map (IsSentBack s.vs s.base y.takes.received (receives y out))
                (IsSentBack (s.vs + 1) s.base y.takes.received there) (rejections back)
                (λ nr w. record {
                  below = omega (arith, w.below);
                  names = w.names;
                  waits =
                      awaits_more nr (next_message s) x.takes.vr (receives y out) w.below
                      w.waits;
                })
                (subst (λ st. AreRejected st s.vs s.base y.takes.received (receives y out)
                (rejections back)) is m.its.reception.rejected));
          };
          exchange = exchange_received (most_asks y.state) u back out refl m.its.exchange;
          histories = m.its.histories;
        });
      }
    where
      numbered : IsNumbering x.sends → IsNumbering (sending_sender x.sends)
      numbered n = record {
        first = n.first;
        next = omega (arith, n.next);
        ordered = omega (arith, n.ordered);
        window = omega (arith, room);
        within = omega (arith, unsent);
        since = λ place from before. elim (nat_cases place x.sends.next before) [
          | inl earlier ↦ sent_still x.sends.next x.sends.era place x.sends.sent_in
              (n.since place from earlier)
          | inr same ↦ sent_here x.sends.next x.sends.era place x.sends.sent_in same
        ];
      }

      preserved : IsNumbering x.sends
          → IsConsistentSender x.state x.asked x.leaving (sending_sender x.sends)
      preserved n =
          open_consistent x.state x.asked x.leaving (sending_sender x.sends) m.opened (numbered n)

      past : IsPast (sending_sender x.sends)
      past place era sent = elim (same_or_not place x.sends.next) [
        | inl same ↦ let now : Some x.sends.era ≡ Some era =
            sym (sent_here x.sends.next x.sends.era place x.sends.sent_in same) ∙ sent in
            let eras : x.sends.era ≡ era = cc in
            let n : IsNumbering x.sends = numbering m in
            (omega (arith, eras), λ _. omega (arith, same, n.next))
        | inr other ↦ m.mine.past place era
            (sym (sent_elsewhere x.sends.next x.sends.era place x.sends.sent_in other) ∙ sent)
      ]

      prefix : high y.takes.received ≤ x.sends.base + x.sends.vs → (place smaller : ℕ)
          → HasPlace place y.takes.received → smaller < place
          → sent_at x.sends.next x.sends.era x.sends.sent_in smaller
          ≡ sent_at x.sends.next x.sends.era x.sends.sent_in place
          → HasPlace smaller y.takes.received
      prefix below place smaller has less same =
          let at : place < high y.takes.received =
          place_below 0 0 place y.takes.received m.mine.histories.row has in
          let n : IsNumbering x.sends = numbering m in
          let under : place < x.sends.next = omega (arith, at, below, n.next) in
          m.mine.histories.prefix place smaller has less
          (sym (sent_elsewhere x.sends.next x.sends.era smaller x.sends.sent_in
          (λ e. omega (arith, e, less, under))) ∙ same
          ∙ sent_elsewhere x.sends.next x.sends.era place x.sends.sent_in
          (λ e. omega (arith, e, under)))

-- ---- The last message again, with a poll: to state 8.

abbrev pub repeating_sender : Sender → Sender
repeating_sender s = record s { sent_in = sent_at (s.next - 1) s.era s.sent_in }

abbrev pub repeating : Party → Party
repeating x = record x { state = TimerRecovery; sends = repeating_sender x.sends }

abbrev pub last_message : Sender → Message
last_message s = record {
  number = s.vs - 1;
  polled = true;
  place = s.next - 1;
  octets = get_or s.given (s.next - 1) [];
}

-- it was already sent in this establishment
same_sender : (s : Sender) → IsNumbering s → s.va < s.vs → repeating_sender s ≡ s
same_sender s n some = ap (λ f. sender f) (fun_ext same)
  where
    sender : (ℕ → Option ℕ) → Sender
    sender f = record s { sent_in = f }

    same : (place : ℕ) → sent_at (s.next - 1) s.era s.sent_in place ≡ s.sent_in place
    same place = elim (same_or_not place (s.next - 1)) [
      | inl here ↦ sent_here (s.next - 1) s.era place s.sent_in here
          ∙ sym (n.since place (omega (arith, here, n.next, some))
          (omega (arith, here, n.next, some)))
      | inr other ↦ sent_elsewhere (s.next - 1) s.era place s.sent_in other
    ]

no_poll_before : (ks : List Kind) (m : Message) (vr : ℕ) → tally poll_of ks ≡ 0
    → NoneBehindPoll (ks ++ Numbered m vr ∷ [])
no_poll_before [] m vr none = ((λ _. refl), tt)
no_poll_before (k ∷ ks) m vr none =
    ((λ poll. absurd (omega (arith, poll, none))), no_poll_before ks m vr (omega (arith, none)))

polled_once : (base : ℕ) (received : List Receipt) (m : Message) (vr : ℕ) (there : Option Reception)
    (back : List Kind) → m.polled ≡ true → tally poll_of (frames_received there) ≡ 0
    → tally final_of back ≡ 0
    → OneAsked base received (frames_received (option_map (one_more (Numbered m vr)) there)) back
polled_once base received m vr None back polls none finals = record {
  one = omega (arith, finals);
  behind = tt;
  alone = λ _. refl;
  names = no_finals base (high received) back finals;
}
polled_once base received m vr (Some h) back polls none finals =
    let more = tally_more poll_of (Numbered m vr) h.frames in
    let once : poll_of (Numbered m vr) ≡ 1 = ap bit polls in
    record {
      one = omega (arith, more, none, finals, once);
      behind = no_poll_before h.frames m vr none;
      alone = λ final. absurd (omega (arith, final, finals));
      names = no_finals base (high received) back finals;
    }

-- in state 8, with no poll and no final in transit
module _ (x y : Party) (out back : List Kind) (is : x.state ≡ TimerRecovery)
    (some : x.sends.va < x.sends.vs) (settled : IsSettled x y out back) (m : Mid x y out back) where
  stream_repeating : (h : Reception) → tally poll_of h.frames ≡ 0
      → IsReceivable x y (Some (reception_now x back)) h
      → IsStream (is_7_or_8 x.state) x.sends y.takes.received h.vr h.rejecting
      (messages (h.frames ++ Numbered (last_message x.sends) x.takes.vr ∷ []))
  stream_repeating h no_poll i =
      let s = x.sends in
      let n : IsNumbering s = numbering m in
      let between = i.stream.between m.opened in
      let low : s.va ≤ h.vr = between.0 in
      let top : h.vr ≤ s.vs = between.1 in
      let last : s.next - 1 < length s.given = omega (arith, n.within, n.next, some) in
      let new : IsPlaced s (last_message s) =
      record {
        place = omega (arith, n.next, some);
        same = slice_get-get_or s.given (s.next - 1) [] last;
        sent =
            n.since (s.next - 1) (omega (arith, n.next, some)) (omega (arith, n.next, some));
      }
      in
      subst (λ ms. IsStream (is_7_or_8 x.state) s y.takes.received h.vr h.rejecting ms)
      (sym (messages_append h.frames (Numbered (last_message s) x.takes.vr ∷ []))) (record {
        placed = each_more (IsPlaced s) (messages h.frames) (last_message s) i.stream.placed new;
        near =
            each_more (IsNearTo h.vr s.k) (messages h.frames) (last_message s) i.stream.near
            (omega (arith, top, some), omega (arith, low, some, n.window));
        order =
            order_again h.rejecting h.vr s.vs (messages h.frames) (last_message s)
            (omega (arith, some)) refl (none_polls h.frames no_poll) i.stream.order;
        step = λ _. i.stream.step (inl m.opened);
        between = λ _. between;
      })

  pub saying_last : Mid x y (out ++ Numbered (last_message x.sends) x.takes.vr ∷ []) back
  saying_last =
      let s = x.sends in
      let u = Numbered (last_message s) x.takes.vr in
      let now = Some (reception_now x back) in
      let Now : Reception → Type 0 = IsReceivable x y now in
      let Got : Reception → Type 0 = λ h. IsGot y.sends.base x.takes.vr x.takes.received in
      let Poll : Reception → Type 0 = λ h. tally poll_of h.frames ≡ 0 in
      let GotPoll : Reception → Type 0 = λ h. Got h × Poll h in
      let facts : OnReception GotPoll (receives y out) =
      on_both Got Poll GotPoll (receives y out) (λ h g p. (g, p)) (got_where_received m)
      (polls_received (λ l. tally poll_of l ≡ 0) (receives y out) settled.polls) in
      let reception : OnReception (λ h. Now (one_more u h)) (receives y out) =
      on_both GotPoll Now (λ h. Now (one_more u h)) (receives y out) (λ h f i. record {
        stream = stream_repeating h f.1 i;
        acks =
            acks_sent x.takes (is_7_or_8 x.state) y.sends.base h.va h.vs u h.frames m.opened refl
            f.0 i.acks;
        asked = asked_sent y.state y.sends.base x.takes.received back u h.frames refl refl i.asked;
        rejected =
            rejected_sent y.state y.sends.vs y.sends.base x.takes.received now u h.frames refl
            i.rejected;
      }) facts m.mine.reception in
      let there = option_map (one_more u) (receives y out) in
      let more : receives y (out ++ u ∷ []) ≡ there = receives_more y out u refl in
      record {
        opened = m.opened;
        mine = subst (λ o. IsSpeaking x y (out ++ u ∷ []) back now o) (sym more) (record {
          preserved = m.mine.preserved;
          passed = m.mine.passed;
          past = m.mine.past;
          lately = m.mine.lately;
          none_yet = m.mine.none_yet;
          below = m.mine.below;
          reception = on_mapped Now (one_more u) (receives y out) reception;
          exchange =
              exchange_sent (most_asks x.state) u out back (open_asks_none x.state m.opened) refl
              refl m.mine.exchange;
          histories = m.mine.histories;
        });
        its = subst (λ o. IsSpeaking y x back (out ++ u ∷ []) o now) (sym more) (record {
          preserved = m.its.preserved;
          passed = m.its.passed;
          past = m.its.past;
          lately = m.its.lately;
          none_yet = m.its.none_yet;
          below = m.its.below;
          reception = record {
            stream = m.its.reception.stream;
            acks = m.its.reception.acks;
            asked =
                subst (λ st. AreAsked st s.base y.takes.received (frames_received there) back)
                (sym is) (polled_once s.base y.takes.received (last_message s) x.takes.vr
                (receives y out) back refl settled.polls settled.finals);
            rejected =
                subst (λ st. AreRejected st s.vs s.base y.takes.received there (rejections back))
                (sym is) tt;
          };
          exchange = exchange_received (most_asks y.state) u back out refl m.its.exchange;
          histories = m.its.histories;
        });
      }

pub preserves_repeating : (x y : Party) (out back : List Kind) → x.state ≡ MultipleFrameEstablished
    → x.sends.va < x.sends.vs → Mid x y out back
    → Mid (repeating x) y (out ++ Numbered (last_message x.sends) x.takes.vr ∷ []) back
preserves_repeating x y out back is some m =
    let settled : IsSettled x y out back = settled_in_7 x y out back is m in
    let z = recovering x in
    let t : Mid z y out back = to_recovery x y out back settled m in
    let still : IsSettled z y out back =
    record { polls = settled.polls; finals = settled.finals } in
    let u = Numbered (last_message x.sends) x.takes.vr in
    subst (λ s. Mid (record z { sends = s }) y (out ++ u ∷ []) back)
    (sym (same_sender x.sends (numbering m) some)) (saying_last z y out back refl some still t)
