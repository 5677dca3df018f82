-- A frame is lost, in any state of both sides: the remaining line keeps the invariant.
use Rattle.std.proofs.Common.{◌≡◌, ◌⊎◌, inl, inr, ℕ, ◌<◌, Bool, true, false, List, [], ◌∷◌, Option, Some, None, option_map, refl, arith}
use Rattle.lapd_link_definition.specs.declared.state.State.{State}
use Rattle.lapd_link_definition.specs.declared.state.State.TheVariants.{TeiAssigned, AwaitingEstablishment, AwaitingRelease, MultipleFrameEstablished, TimerRecovery}
use Rattle.lapd_link_definition.specs.EndOfStep.{is_7_or_8}
use Rattle.lapd_pair_laws.specs.Histories.{Receipt}
use Rattle.lapd_pair_laws.specs.Kinds.{Message, Kind, ask_of, answer_of, poll_of, final_of, foreign_of, is_acceptance}
use Rattle.lapd_pair_laws.specs.Parties.{Sender, Receiver, Party, Reception, behind, behind_acceptance, next_reception, received_in, receives, OnReception, frames_received}
use Rattle.lapd_pair_laws.specs.Conjuncts.{IsPlaced, IsNearTo, IsGot, HasSome, IsStream, AreAcknowledging, NoneAsked, OneAsked, AreAsked, IsAwaiting, IsSentBack, AtMostOne, AreRejected, IsReceivable, IsExchange, most_asks}
use Rattle.lapd_pair_laws.specs.Invariant.{IsSpeaking, Both}
use Rattle.lapd_pair_laws.proofs.Parts.{Part, ended, taken, lost, part_messages, part_numbers, part_rejections, part_tally, part_nothing, part_each, part_some, order_part, part_climb, part_behind_poll, part_behind_ask, part_names, part_one}

-- ---- The frames of a part that will be processed.

-- a part of the earlier frames will be processed, with the same state variables, or none
pub record IsLess (now was : Reception) : Type 0 where
  pub vs : now.vs ≡ was.vs
  pub va : now.va ≡ was.va
  pub vr : now.vr ≡ was.vr
  pub rejecting : now.rejecting ≡ was.rejecting
  pub part : Part now.frames was.frames

abbrev pub ReceivesLess : Option Reception → Option Reception → Type 0
ReceivesLess None was = Unit {0}
ReceivesLess (Some now) None = ⊥
ReceivesLess (Some now) (Some was) = IsLess now was

less_next : {xs ys : List Kind} → Part xs ys → IsLess (next_reception xs) (next_reception ys)
less_next p = record { vs = refl; va = refl; vr = refl; rejecting = refl; part = p }

-- the first UA may be lost, and a later one become the first
abbrev BehindLess : Option (List Kind) → List Kind → Type 0
BehindLess None ys = Unit {0}
BehindLess (Some xs) ys = Part xs ys

within_lost : (y : Kind) (ys : List Kind) (o : Option (List Kind)) → BehindLess o ys
    → BehindLess o (y ∷ ys)
within_lost y ys None less = tt
within_lost y ys (Some xs) less = lost less

within_taken : (test : Bool) (k : Kind) {xs ys : List Kind} → Part xs ys → (o : Option (List Kind))
    → BehindLess o ys → BehindLess (behind test xs o) (k ∷ ys)
within_taken true k p o less = lost p
within_taken false k p None less = tt
within_taken false k p (Some xs) less = lost less

behind_within : {xs ys : List Kind} → Part xs ys → BehindLess (behind_acceptance xs) ys
behind_within ended = tt
behind_within (taken {x = k} {xs = xs} p) =
    within_taken (is_acceptance k) k p (behind_acceptance xs) (behind_within p)
behind_within (lost {y = k} {xs = xs} {ys = ys} p) =
    within_lost k ys (behind_acceptance xs) (behind_within p)

taken_less : (test : Bool) {xs ys : List Kind} → Part xs ys → (o u : Option (List Kind))
    → ReceivesLess (option_map next_reception o) (option_map next_reception u)
    → ReceivesLess (option_map next_reception (behind test xs o))
    (option_map next_reception (behind test ys u))
taken_less true p o u less = less_next p
taken_less false p o u less = less

lost_less : (test : Bool) (o : Option (List Kind)) (ys : List Kind) (u : Option (List Kind))
    → BehindLess o ys → ReceivesLess (option_map next_reception o) (option_map next_reception u)
    → ReceivesLess (option_map next_reception o) (option_map next_reception (behind test ys u))
lost_less true None ys u within less = tt
lost_less true (Some xs) ys u within less = less_next within
lost_less false o ys u within less = less

behind_less : {xs ys : List Kind} → Part xs ys
    → ReceivesLess (option_map next_reception (behind_acceptance xs))
    (option_map next_reception (behind_acceptance ys))
behind_less ended = tt
behind_less (taken {x = k} {xs = xs} {ys = ys} p) =
    taken_less (is_acceptance k) p (behind_acceptance xs) (behind_acceptance ys) (behind_less p)
behind_less (lost {y = k} {xs = xs} {ys = ys} p) =
    lost_less (is_acceptance k) (behind_acceptance xs) ys (behind_acceptance ys) (behind_within p)
    (behind_less p)

pub less_in : (state : State) (leaving : Bool) (now was : Reception) {xs ys : List Kind}
    → Part xs ys → IsLess now was
    → ReceivesLess (received_in state leaving now xs) (received_in state leaving was ys)
less_in TeiAssigned leaving now was p less = tt
less_in AwaitingEstablishment true now was p less = tt
less_in AwaitingEstablishment false now was p less = behind_less p
less_in AwaitingRelease leaving now was p less = tt
less_in MultipleFrameEstablished leaving now was p less = less
less_in TimerRecovery leaving now was p less = less

pub receives_less : (y : Party) {xs ys : List Kind} → Part xs ys
    → ReceivesLess (receives y xs) (receives y ys)
receives_less y p =
    less_in y.state y.leaving _ _ p
    (record { vs = refl; va = refl; vr = refl; rejecting = refl; part = p })

pub on_less : (P : Reception → Type 0) (now was : Option Reception) → ReceivesLess now was
    → ((n w : Reception) → IsLess n w → P w → P n) → OnReception P was → OnReception P now
on_less P None was less f p = tt
on_less P (Some n) None less f p = absurd less
on_less P (Some n) (Some w) less f p = f n w less p

-- ---- Each conjunct for a part.

pub stream_less : (speaking : Bool) (s : Sender) (received : List Receipt) (vr : ℕ)
    (rejecting : Bool) {xs ys : List Message} → Part xs ys
    → IsStream speaking s received vr rejecting ys → IsStream speaking s received vr rejecting xs
stream_less speaking s received vr rejecting p w = record {
  placed = part_each (IsPlaced s) p w.placed;
  near = part_each (IsNearTo vr s.k) p w.near;
  order = order_part rejecting vr s.vs p w.order;
  step = λ some. w.step (still p some);
  between = w.between;
}
  where
    still : {xs ys : List Message} → Part xs ys → (speaking ≡ true) ⊎ HasSome xs
        → (speaking ≡ true) ⊎ HasSome ys
    still p (inl speaks) = inl speaks
    still p (inr some) = inr (part_some p some)

pub acks_less : (speaking : Bool) (r : Receiver) (base va vs : ℕ) {xs ys : List ℕ} → Part xs ys
    → AreAcknowledging speaking r base va vs ys → AreAcknowledging speaking r base va vs xs
acks_less speaking r base va vs p w = record {
  climb = part_climb va vs p w.climb;
  known = part_each (λ nr. IsGot base nr r.received) p w.known;
  top = λ speaks. (part_climb va r.vr p (w.top speaks).0, (w.top speaks).1);
}

none_less : {out out_was back back_was : List Kind} → Part out out_was → Part back back_was
    → NoneAsked out_was back_was → NoneAsked out back
none_less p q w =
    let polls = part_tally poll_of p in
    let finals = part_tally final_of q in
    record { polls = omega (arith, w.polls, polls); finals = omega (arith, w.finals, finals) }

one_less : (base : ℕ) (received : List Receipt) {out out_was back back_was : List Kind}
    → Part out out_was → Part back back_was → OneAsked base received out_was back_was
    → OneAsked base received out back
one_less base received p q w =
    let polls = part_tally poll_of p in let finals = part_tally final_of q in record {
      one = omega (arith, w.one, polls, finals);
      behind = part_behind_poll p w.behind;
      alone = λ final. part_nothing (part_messages p) (w.alone (omega (arith, final, finals)));
      names = part_names base _ q w.names;
    }

pub asked_less : (state : State) (base : ℕ) (received : List Receipt)
    {out out_was back back_was : List Kind} → Part out out_was → Part back back_was
    → AreAsked state base received out_was back_was → AreAsked state base received out back
asked_less TeiAssigned base received p q w = tt
asked_less AwaitingEstablishment base received p q w = none_less p q w
asked_less AwaitingRelease base received p q w = tt
asked_less MultipleFrameEstablished base received p q w = none_less p q w
asked_less TimerRecovery base received p q w = one_less base received p q w

-- if none of the sender's frames will be processed
none_at_all : (out : List Kind) {back back_was : List Kind} → Part back back_was
    → NoneAsked out back_was → NoneAsked [] back
none_at_all out q w =
    let finals = part_tally final_of q in
    record { polls = refl; finals = omega (arith, w.finals, finals) }

one_at_all : (base : ℕ) (received : List Receipt) (out : List Kind) {back back_was : List Kind}
    → Part back back_was → OneAsked base received out back_was → OneAsked base received [] back
one_at_all base received out q w =
    let finals = part_tally final_of q in
    record {
      one = omega (arith, w.one, finals);
      behind = tt;
      alone = λ final. refl;
      names = part_names base _ q w.names;
    }

pub asked_unheard : (state : State) (base : ℕ) (received : List Receipt) (out : List Kind)
    {back back_was : List Kind} → Part back back_was → AreAsked state base received out back_was
    → AreAsked state base received [] back
asked_unheard TeiAssigned base received out q w = tt
asked_unheard AwaitingEstablishment base received out q w = none_at_all out q w
asked_unheard AwaitingRelease base received out q w = tt
asked_unheard MultipleFrameEstablished base received out q w = none_at_all out q w
asked_unheard TimerRecovery base received out q w = one_at_all base received out q w

pub asked_received_less : (state : State) (base : ℕ) (received : List Receipt)
    (now was : Option Reception) {back back_was : List Kind} → ReceivesLess now was
    → Part back back_was
    → AreAsked state base received (frames_received was) back_was
    → AreAsked state base received (frames_received now) back
asked_received_less state base received None was less q w =
    asked_unheard state base received (frames_received was) q w
asked_received_less state base received (Some n) None less q w = absurd less
asked_received_less state base received (Some n) (Some h) less q w =
    asked_less state base received less.part q w

-- an end that waits still waits
pub awaiting_less : (nr : ℕ) (n w : Reception) → IsLess n w → IsAwaiting nr w → IsAwaiting nr n
awaiting_less nr n w less h = record {
  rejecting = rw less.rejecting h.rejecting;
  at = rw less.vr h.at;
  above = part_each (λ m. m.polled ≡ false → nr < m.number) (part_messages less.part) h.above;
}

sent_back_map : (vs base : ℕ) (received : List Receipt) (now was : Option Reception) (nr : ℕ)
    → (OnReception (IsAwaiting nr) was → OnReception (IsAwaiting nr) now)
    → IsSentBack vs base received was nr → IsSentBack vs base received now nr
sent_back_map vs base received now was nr f w =
    record { below = w.below; names = w.names; waits = f w.waits }

pub one_map : (P Q : ℕ → Type 0) (ns : List ℕ) → ((n : ℕ) → P n → Q n) → AtMostOne P ns
    → AtMostOne Q ns
one_map P Q [] f one = tt
one_map P Q (n ∷ []) f one = f n one
one_map P Q (n ∷ m ∷ ns) f one = absurd one

pub rejected_map : (state : State) (vs base : ℕ) (received : List Receipt)
    (now was : Option Reception) (ns : List ℕ)
    → ((nr : ℕ) → OnReception (IsAwaiting nr) was → OnReception (IsAwaiting nr) now)
    → AreRejected state vs base received was ns → AreRejected state vs base received now ns
rejected_map TeiAssigned vs base received now was ns f w = tt
rejected_map AwaitingEstablishment vs base received now was ns f w = w
rejected_map AwaitingRelease vs base received now was ns f w = tt
rejected_map MultipleFrameEstablished vs base received now was ns f w =
    one_map (IsSentBack vs base received was) (IsSentBack vs base received now) ns
    (λ nr. sent_back_map vs base received now was nr (f nr)) w
rejected_map TimerRecovery vs base received now was ns f w = tt

pub rejected_part : (state : State) (vs base : ℕ) (received : List Receipt)
    (waiting : Option Reception) {xs ys : List ℕ} → Part xs ys
    → AreRejected state vs base received waiting ys → AreRejected state vs base received waiting xs
rejected_part TeiAssigned vs base received waiting p w = tt
rejected_part AwaitingEstablishment vs base received waiting p w = part_nothing p w
rejected_part AwaitingRelease vs base received waiting p w = tt
rejected_part MultipleFrameEstablished vs base received waiting p w =
    part_one (IsSentBack vs base received waiting) p w
rejected_part TimerRecovery vs base received waiting p w = tt

pub rejected_less : (state : State) (vs base : ℕ) (received : List Receipt)
    (now was : Option Reception) {xs ys : List ℕ} → ReceivesLess now was → Part xs ys
    → AreRejected state vs base received was ys → AreRejected state vs base received now xs
rejected_less state vs base received now was p q w =
    rejected_part state vs base received now q
    (rejected_map state vs base received now was _
    (λ nr. on_less (IsAwaiting nr) now was p (awaiting_less nr)) w)

pub received_less : (x y : Party) (waiting waiting_was : Option Reception) (h w : Reception)
    → ReceivesLess waiting waiting_was → IsLess h w → IsReceivable x y waiting_was w
    → IsReceivable x y waiting h
received_less x y waiting waiting_was h w waits less i = record {
  stream =
      rw (less.vr, less.rejecting) (stream_less (is_7_or_8 x.state) x.sends y.takes.received w.vr
      w.rejecting (part_messages less.part) i.stream);
  acks =
      rw (less.va, less.vs) (acks_less (is_7_or_8 x.state) x.takes y.sends.base w.va w.vs
      (part_numbers less.part) i.acks);
  asked =
      asked_received_less y.state y.sends.base x.takes.received waiting waiting_was waits less.part
      i.asked;
  rejected =
      rejected_less y.state y.sends.vs y.sends.base x.takes.received waiting waiting_was waits
      (part_rejections less.part) i.rejected;
}

pub exchange_less : (most : ℕ) {out out_was back back_was : List Kind} → Part out out_was
    → Part back back_was → IsExchange most out_was back_was → IsExchange most out back
exchange_less most p q w =
    let asks = part_tally ask_of p in
    let answers = part_tally answer_of q in let foreign = part_tally foreign_of p in record {
      one = omega (arith, w.one, asks, answers);
      behind = part_behind_ask p w.behind;
      before = λ answer. part_nothing (part_numbers p) (w.before (omega (arith, answer, answers)));
      clean = omega (arith, w.clean, foreign);
    }

-- ---- One direction, and both.

pub speaking_less : (x y : Party) {out out_was back back_was : List Kind}
    (here here_was there there_was : Option Reception) → Part out out_was → Part back back_was
    → ReceivesLess here here_was → ReceivesLess there there_was
    → IsSpeaking x y out_was back_was here_was there_was → IsSpeaking x y out back here there
speaking_less x y here here_was there there_was p q less_here less_there w = record {
  preserved = w.preserved;
  passed = w.passed;
  past = w.past;
  lately = w.lately;
  none_yet = w.none_yet;
  below = w.below;
  reception =
      on_less_both (IsReceivable x y here_was) (IsReceivable x y here) there there_was less_there
      (λ n h less. received_less x y here here_was n h less_here less) w.reception;
  exchange = exchange_less (most_asks x.state) p q w.exchange;
  histories = w.histories;
}
  where
    on_less_both : (P Q : Reception → Type 0) (now was : Option Reception) → ReceivesLess now was
        → ((n w : Reception) → IsLess n w → P w → Q n) → OnReception P was → OnReception Q now
    on_less_both P Q None was less f p = tt
    on_less_both P Q (Some n) None less f p = absurd less
    on_less_both P Q (Some n) (Some w) less f p = f n w less p

pub both_less : (x y : Party) {out out_was back back_was : List Kind} → Part out out_was
    → Part back back_was → Both x y out_was back_was → Both x y out back
both_less x y p q b = record {
  mine = speaking_less x y _ _ _ _ p q (receives_less x q) (receives_less y p) b.mine;
  its = speaking_less y x _ _ _ _ q p (receives_less y p) (receives_less x q) b.its;
}
