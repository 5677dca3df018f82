-- An open side sets V(S) back to V(A), and will retransmit all waiting messages.
use Rattle.std.proofs.Common.{◌≡◌, inl, ℕ, zero, suc, ◌+◌, ◌<◌, ◌≤◌, Bool, true, false, List, [], ◌∷◌, Option, Some, None, refl, sym, subst, arith}
use Rattle.lapd_link_definition.specs.declared.state.State.{State}
use Rattle.lapd_link_definition.specs.declared.state.State.TheVariants.{TeiAssigned, AwaitingEstablishment, AwaitingRelease, MultipleFrameEstablished, TimerRecovery}
use Rattle.lapd_link_definition.specs.EndOfStep.{is_7_or_8}
use Rattle.lapd_pair_laws.specs.Histories.{Receipt}
use Rattle.lapd_pair_laws.specs.Kinds.{Message, Kind, Numbered, Status, Rejection, Enquiry, Final, messages, numbers, rejections, bit, tally, poll_of}
use Rattle.lapd_pair_laws.specs.Parties.{Sender, Party, Reception, reception_now, receives, OnReception, frames_received}
use Rattle.lapd_pair_laws.specs.Conjuncts.{Each, IsGot, IsPlaced, IsNumbering, IsInOrder, IsClimb, NoneAsked, OneAsked, AreAsked, IsAwaiting, IsSentBack, AtMostOne, AreRejected, IsReceivable, high, IsInStep, IsRow}
use Rattle.lapd_pair_laws.proofs.Acknowledges.{acknowledging, preserves_acknowledging}
use Rattle.lapd_pair_laws.proofs.Receptions.{on_map, on_both, from_open}
use Rattle.lapd_pair_laws.proofs.Lists.{each_map}
use Rattle.lapd_pair_laws.proofs.Losses.{rejected_map}
use Rattle.lapd_pair_laws.proofs.MidSteps.{Mid, numbering, open_consistent}
use Rattle.lapd_pair_laws.proofs.Polls.{established, to_established}
use Rattle.lapd_pair_laws.proofs.Receipts.{place_below}
use Rattle.lapd_pair_laws.proofs.Runs.{NonePolls, all_is_junk}
use Rattle.lapd_pair_laws.proofs.FrameOfStep.{turned, final_left, rejection_left}

abbrev pub backing_sender : ℕ → Sender → Sender
backing_sender nr s = record s { vs = nr; next = s.first }

abbrev pub backing : ℕ → Party → Party
backing nr x = record x { sends = backing_sender nr x.sends }

placed_backing : (nr : ℕ) (s : Sender) (m : Message) → IsPlaced s m
    → IsPlaced (backing_sender nr s) m
placed_backing nr s m p = record { place = p.place; same = p.same; sent = p.sent }

awaits_backing : (x : Party) (nr : ℕ) (back : List Kind) (n : ℕ)
    → IsAwaiting n (reception_now x back) → IsAwaiting n (reception_now (backing nr x) back)
awaits_backing x nr back n w = record { rejecting = w.rejecting; at = w.at; above = w.above }

-- if none of the rising numbers exceeds `limit`, they rise from `low` to at most `limit`
climb_within : (low top limit : ℕ) (ns : List ℕ) → low ≤ limit → Each (λ n. n ≤ limit) ns
    → IsClimb low top ns → IsClimb low limit ns
climb_within low top limit [] le each climb = le
climb_within low top limit (n ∷ ns) le each climb =
    (climb.0, climb_within n top limit ns each.0 each.1 climb.1)

known_below : (base limit n : ℕ) (received : List Receipt) → IsRow 0 0 received
    → high received ≤ base + limit → IsGot base n received → n ≤ limit
known_below base limit zero received row names got = omega arith
known_below base limit (suc n) received row names got =
    let last : base + n < high received =
    place_below 0 0 (base + n) received row (got n (omega arith)) in
    omega (arith, last, names)

-- if no REJ is in transit, the condition on REJ holds
pub no_rejections : (state : State) (vs base : ℕ) (received : List Receipt)
    (waiting : Option Reception) (ns : List ℕ) → ns ≡ []
    → AreRejected state vs base received waiting ns
no_rejections TeiAssigned vs base received waiting ns none = tt
no_rejections AwaitingEstablishment vs base received waiting ns none = none
no_rejections AwaitingRelease vs base received waiting ns none = tt
no_rejections MultipleFrameEstablished vs base received waiting ns none =
    subst (λ l. AtMostOne (IsSentBack vs base received waiting) l) (sym none) tt
no_rejections TimerRecovery vs base received waiting ns none = tt

-- The N(R) acknowledges all that the peer received, and the messages it will process are in order
-- up to V(A): then this side may set V(S) back.
pub preserves_backing : (x y : Party) (out back : List Kind) (nr : ℕ) → x.sends.va ≡ nr
    → high y.takes.received ≤ x.sends.base + nr → rejections back ≡ []
    → OnReception (λ h. IsInOrder h.rejecting h.vr nr (messages h.frames)) (receives y out)
    → Mid x y out back → Mid (backing nr x) y out back
preserves_backing x y out back nr at names none order m =
    let z = backing nr x in
    let was = Some (reception_now x back) in
    let now = Some (reception_now z back) in
    let n : IsNumbering x.sends = numbering m in
    let Order : Reception → Type 0 = λ h. IsInOrder h.rejecting h.vr nr (messages h.frames) in
    let acks = m.its.reception.acks in
    let low : x.sends.va ≤ nr = omega (arith, at) in
    let within : Each (λ k. k ≤ nr) (numbers back) =
    each_map (λ k. IsGot x.sends.base k y.takes.received) (λ k. k ≤ nr) (numbers back)
    (λ k. known_below x.sends.base nr k y.takes.received m.mine.histories.row names)
    acks.known in
    record {
      opened = m.opened;
      mine = record {
        preserved = open_consistent x.state x.asked x.leaving z.sends m.opened (record {
          first = n.first;
          next = omega (arith, n.first, at);
          ordered = omega (arith, at);
          window = omega (arith, at);
          within = omega (arith, n.within, n.first, n.next, n.ordered);
          since =
              λ place from before. n.since place from
              (omega (arith, before, n.first, n.next, n.ordered));
        });
        passed = m.mine.passed;
        past = m.mine.past;
        lately = m.mine.lately;
        none_yet = m.mine.none_yet;
        below = λ _. names;
        reception =
            on_both Order (IsReceivable x y was) (IsReceivable z y now) (receives y out)
            (λ h o i. record {
              stream = record {
                placed =
                    each_map (IsPlaced x.sends) (IsPlaced z.sends) (messages h.frames)
                    (placed_backing nr x.sends) i.stream.placed;
                near = i.stream.near;
                order = o;
                step = i.stream.step;
                between =
                    λ opened.
                    ((i.stream.between opened).0, reached h.vr (i.stream.step (inl opened)));
              };
              acks = i.acks;
              asked = i.asked;
              rejected =
                  rejected_map y.state y.sends.vs y.sends.base x.takes.received now was
                  (rejections h.frames) (λ r. awaits_backing x nr back r) i.rejected;
            }) order m.mine.reception;
        exchange = m.mine.exchange;
        histories = m.mine.histories;
      };
      its = record {
        preserved = m.its.preserved;
        passed = m.its.passed;
        past = m.its.past;
        lately = m.its.lately;
        none_yet = m.its.none_yet;
        below = m.its.below;
        reception = record {
          stream = m.its.reception.stream;
          acks = record {
            climb = climb_within x.sends.va x.sends.vs nr (numbers back) low within acks.climb;
            known = acks.known;
            top = λ opened. ((acks.top opened).0, its_reached opened);
          };
          asked = m.its.reception.asked;
          rejected =
              no_rejections x.state nr x.sends.base y.takes.received (receives y out)
              (rejections back) none;
        };
        exchange = m.its.exchange;
        histories = m.its.histories;
      };
    }
  where
    reached : (vr : ℕ) → IsInStep x.sends.base vr y.takes.received → vr ≤ nr
    reached zero step = omega arith
    reached (suc vr) step =
        let level : high y.takes.received ≡ x.sends.base + suc vr = step.level (omega arith) in
        omega (arith, level, names)

    its_reached : is_7_or_8 y.state ≡ true → y.takes.vr ≤ nr
    its_reached opened =
        reached y.takes.vr ((from_open (IsReceivable x y (Some (reception_now x back))) y out opened
        m.mine.reception).stream.step (inl m.opened))

-- ---- By a REJ with F=0, in state 7.

-- no message in transit polls if no poll is
pub none_polls : (ks : List Kind) → tally poll_of ks ≡ 0 → NonePolls (messages ks)
none_polls [] none = tt
none_polls (Numbered m nr ∷ ks) none =
    (by_bit m.polled (omega (arith, none)), none_polls ks (omega (arith, none)))
  where
    by_bit : (b : Bool) → bit b ≡ 0 → b ≡ false
    by_bit true zero_ = absurd (omega (arith, zero_))
    by_bit false zero_ = refl
none_polls (Status nr ∷ ks) none = none_polls ks (omega (arith, none))
none_polls (Enquiry nr ∷ ks) none = absurd (omega (arith, none))
none_polls (k ∷ ks) none = none_polls ks (omega (arith, none))

pub polls_received : (P : List Kind → Type 0) (o : Option Reception) → P (frames_received o)
    → OnReception (λ h. P h.frames) o
polls_received P None p = tt
polls_received P (Some h) p = p

-- the messages that the peer will process are stale, above the number that it awaits, and so in
-- order
all_junk : (nr : ℕ) (h : Reception) → IsAwaiting nr h → tally poll_of h.frames ≡ 0
    → IsInOrder h.rejecting h.vr nr (messages h.frames)
all_junk nr h w none = subst (λ b. IsInOrder b h.vr nr (messages h.frames)) (sym w.rejecting)
    (all_is_junk h.vr nr (messages h.frames) (none_polls h.frames none)
    (subst (λ v. Each (λ m. m.polled ≡ false → v < m.number) (messages h.frames)) (sym w.at)
    w.above))

rest_of_one : (P : ℕ → Type 0) (n : ℕ) (ns : List ℕ) → AtMostOne P (n ∷ ns) → P n × (ns ≡ [])
rest_of_one P n [] one = (one, refl)
rest_of_one P n (o ∷ ns) one = absurd one

pub sent_back_in_7 : (x y : Party) (out : List Kind) (nr : ℕ) (ks : List Kind)
    → x.state ≡ MultipleFrameEstablished → Mid x y out (Rejection nr ∷ ks)
    → IsSentBack x.sends.vs x.sends.base y.takes.received (receives y out) nr × (rejections ks ≡ [])
sent_back_in_7 x y out nr ks is m =
    rest_of_one (IsSentBack x.sends.vs x.sends.base y.takes.received (receives y out)) nr
    (rejections ks)
    (subst (λ s. AreRejected s x.sends.vs x.sends.base y.takes.received (receives y out)
    (nr ∷ rejections ks)) is m.its.reception.rejected)

pub none_asked_in_7 : (x y : Party) (out back : List Kind) → x.state ≡ MultipleFrameEstablished
    → Mid x y out back → NoneAsked (frames_received (receives y out)) back
none_asked_in_7 x y out back is m =
    subst (λ s. AreAsked s x.sends.base y.takes.received (frames_received (receives y out)) back) is
    m.its.reception.asked

pub back_by_rejection : (x y : Party) (out : List Kind) (nr : ℕ) (ks : List Kind)
    → x.state ≡ MultipleFrameEstablished → Mid x y out (Rejection nr ∷ ks)
    → Mid (backing nr (acknowledging nr x)) y out ks
back_by_rejection x y out nr ks is m =
    let t : Mid x y out (Status nr ∷ ks) =
    turned x y out (Status nr ∷ ks) (Rejection nr ∷ ks) (rejection_left nr ks) m in
    let facts = sent_back_in_7 x y out nr ks is m in
    let None_ : Reception → Type 0 = λ h. tally poll_of h.frames ≡ 0 in
    let none : OnReception None_ (receives y out) =
    polls_received (λ l. tally poll_of l ≡ 0) (receives y out)
    (none_asked_in_7 x y out (Rejection nr ∷ ks) is m).polls in
    preserves_backing (acknowledging nr x) y out ks nr refl facts.0.names facts.1
    (on_both (IsAwaiting nr) None_ (λ h. IsInOrder h.rejecting h.vr nr (messages h.frames))
    (receives y out) (λ h w n. all_junk nr h w n) facts.0.waits none)
    (preserves_acknowledging x y out nr ks t)

-- ---- By a final, in state 8.

pub order_of_none : (rejecting : Bool) (low end : ℕ) (ms : List Message) → ms ≡ []
    → IsInOrder rejecting low end ms
order_of_none true low end ms none = subst (λ l. IsInOrder true low end l) (sym none) tt
order_of_none false low end ms none = subst (λ l. IsInOrder false low end l) (sym none) tt

pub asked_in_8 : (x y : Party) (out back : List Kind) → x.state ≡ TimerRecovery → Mid x y out back
    → OneAsked x.sends.base y.takes.received (frames_received (receives y out)) back
asked_in_8 x y out back is m =
    subst (λ s. AreAsked s x.sends.base y.takes.received (frames_received (receives y out)) back) is
    m.its.reception.asked

pub back_by_final : (x y : Party) (out : List Kind) (nr : ℕ) (ks : List Kind)
    → x.state ≡ TimerRecovery → Mid x y out (Final nr ∷ ks)
    → Mid (established (backing nr (acknowledging nr x))) y out ks
back_by_final x y out nr ks is m =
    let t : Mid x y out (Status nr ∷ ks) =
    turned x y out (Status nr ∷ ks) (Final nr ∷ ks) (final_left nr ks) m in
    let asked = asked_in_8 x y out (Final nr ∷ ks) is m in
    let named = asked.names.0 in
    let gone : messages (frames_received (receives y out)) ≡ [] = asked.alone (omega arith) in
    let none : OnReception (λ h. messages h.frames ≡ []) (receives y out) =
    polls_received (λ l. messages l ≡ []) (receives y out) gone in
    to_established (backing nr (acknowledging nr x)) y out ks
    (record { polls = omega (arith, asked.one); finals = omega (arith, asked.one) }) named.1
    (preserves_backing (acknowledging nr x) y out ks nr refl named.0 named.1
    (on_map (λ h. messages h.frames ≡ []) (λ h. IsInOrder h.rejecting h.vr nr (messages h.frames))
    (receives y out) (λ h n. order_of_none h.rejecting h.vr nr (messages h.frames) n) none)
    (preserves_acknowledging x y out nr ks t))
