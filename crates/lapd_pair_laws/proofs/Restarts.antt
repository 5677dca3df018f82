-- A side restarts, in any state of both: it is closed, and the line is empty in both directions.
use Rattle.std.proofs.Common.{◌≡◌, inl, inr, ℕ, ◌+◌, ◌-◌, ◌≤◌, Bool, true, false, List, [], length, Option, None, refl, arith}
use Rattle.lapd_supervision.specs.StateVariables.{initial_variables}
use Rattle.lapd_link_definition.specs.declared.state.State.{State}
use Rattle.lapd_link_definition.specs.declared.state.State.TheVariants.{TeiAssigned, AwaitingEstablishment, AwaitingRelease, MultipleFrameEstablished, TimerRecovery}
use Rattle.lapd_pair_laws.specs.Histories.{Receipt}
use Rattle.lapd_pair_laws.specs.Move.{Restart, restarts, acts}
use Rattle.lapd_pair_laws.specs.Kinds.{Kind}
use Rattle.lapd_pair_laws.specs.Parties.{Sender, Party, Reception, reception_now, received_in, OnReception, party}
use Rattle.lapd_pair_laws.specs.Conjuncts.{IsConsistentSender, IsInOrder, AreAsked, AreRejected, IsReceivable, IsExchange, most_asks}
use Rattle.lapd_pair_laws.specs.Invariant.{Both}
use Rattle.lapd_pair_laws.proofs.Closings.{passes_all}
use Rattle.lapd_pair_laws.proofs.Worlds.{Preserves}

-- ---- The line is empty.

nothing_in_order : (rejecting : Bool) (low end : ℕ) → IsInOrder rejecting low end []
nothing_in_order true low end = tt
nothing_in_order false low end = tt

nothing_asked : (state : State) (base : ℕ) (received : List Receipt)
    → AreAsked state base received [] []
nothing_asked TeiAssigned base received = tt
nothing_asked AwaitingEstablishment base received = record { polls = refl; finals = refl }
nothing_asked AwaitingRelease base received = tt
nothing_asked MultipleFrameEstablished base received = record { polls = refl; finals = refl }
nothing_asked TimerRecovery base received =
    record { one = omega arith; behind = tt; alone = λ final. refl; names = tt }

nothing_rejected : (state : State) (vs base : ℕ) (received : List Receipt)
    (waiting : Option Reception) → AreRejected state vs base received waiting []
nothing_rejected AwaitingEstablishment vs base received waiting = refl
nothing_rejected state vs base received waiting = tt

nothing_exchanged : (most : ℕ) → IsExchange most [] []
nothing_exchanged most =
    record { one = omega arith; behind = tt; before = λ answer. refl; clean = refl }

-- ---- If the other side is open, it processes no frame.

module _ (x y : Party) (is : x.state ≡ TeiAssigned) where
  silence : y.sends.va ≤ y.sends.vs → IsReceivable x y None (reception_now y [])
  silence ordered = rw is record {
    stream = record {
      placed = tt;
      near = tt;
      order = nothing_in_order y.takes.rejecting y.takes.vr x.sends.vs;
      step = λ some. elim some [ inl speaks ↦ cc | inr impossible ↦ absurd impossible ];
      between = λ speaks. cc;
    };
    acks = record { climb = ordered; known = tt; top = λ speaks. cc };
    asked = nothing_asked y.state y.sends.base x.takes.received;
    rejected = nothing_rejected y.state y.sends.vs y.sends.base x.takes.received None;
  }

silent_in : (P : Reception → Type 0) (state : State) (asked leaving : Bool) (s : Sender)
    (now : Reception) → IsConsistentSender state asked leaving s → (s.va ≤ s.vs → P now)
    → OnReception P (received_in state leaving now [])
silent_in P TeiAssigned asked leaving s now preserved p = tt
silent_in P AwaitingEstablishment asked true s now preserved p = tt
silent_in P AwaitingEstablishment asked false s now preserved p = tt
silent_in P AwaitingRelease asked leaving s now preserved p = tt
silent_in P MultipleFrameEstablished asked leaving s now preserved p = p preserved.ordered
silent_in P TimerRecovery asked leaving s now preserved p = p preserved.ordered

-- ---- The side that restarts.

abbrev pub restarting_sender : Sender → Sender
restarting_sender s = record s {
  vs = 0;
  va = 0;
  first = length s.given;
  next = length s.given;
  passed = s.passed + (length s.given - s.passed);
}

abbrev pub restarting : Party → Party
restarting x = record x {
  state = TeiAssigned;
  asked = false;
  leaving = false;
  sends = restarting_sender x.sends;
  takes = record (x.takes) { vr = 0; rejecting = false };
}

pub restarts_both : (x y : Party) (out back : List Kind) → Both x y out back
    → Both (restarting x) y [] []
restarts_both x y out back b = let z = restarting x in record {
  mine = record {
    preserved = record { first = refl; next = refl };
    passed = let passes = passes_all x y out back b in omega (arith, passes, b.mine.passed);
    past = b.mine.past;
    lately = b.mine.lately;
    none_yet = λ opened. cc;
    below = λ holding. cc;
    reception =
        silent_in (IsReceivable z y None) y.state y.asked y.leaving y.sends (reception_now y [])
        b.its.preserved (silence z y refl);
    exchange = nothing_exchanged (most_asks TeiAssigned);
    histories = b.mine.histories;
  };
  its = record {
    preserved = b.its.preserved;
    passed = b.its.passed;
    past = b.its.past;
    lately = b.its.lately;
    none_yet = b.its.none_yet;
    below = b.its.below;
    reception = tt;
    exchange = nothing_exchanged (most_asks y.state);
    histories = b.its.histories;
  };
}

pub preserves_restart : Preserves Restart
unfolding acts restarts initial_variables
preserves_restart v peer small h =
    let b = restarts_both (party h.base v.station) (party h.its_base peer) _ _ h.both in
    record { base = h.base; its_base = h.its_base; both = b }
