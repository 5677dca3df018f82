-- Layer 3 submits a message: it is refused, it waits for an establishment, or it is sent while the
-- window is open.
use Rattle.std.proofs.Common.{◌≡◌, ℕ, ◌+◌, ◌≤◌, ◌==◌, nat_lt, if◌then◌else◌, Bool, true, false, List, [], ◌∷◌, ◌++◌, length, Option, Some, None, refl, sym, subst, length-append, arith}
use Rattle.lapd_frame.specs.Frame.{n201}
use Rattle.lapd_mod128.specs.Counting.{Whole}
use Rattle.lapd_link_definition.specs.declared.event.LinkFault.{LinkFault}
use Rattle.lapd_link_definition.specs.declared.event.LinkFault.TheVariants.{TooLong}
use Rattle.lapd_link_definition.specs.declared.state.State.{State}
use Rattle.lapd_link_definition.specs.declared.state.State.TheVariants.{TeiAssigned, AwaitingEstablishment, AwaitingRelease, MultipleFrameEstablished, TimerRecovery}
use Rattle.lapd_link_definition.specs.AwaitingEstablishment.{awaiting_establishment}
use Rattle.lapd_link_definition.specs.EndOfStep.{end_step}
use Rattle.lapd_link_definition.specs.End.{End, StepState, begin, waiting}
use Rattle.lapd_link_definition.specs.Established.{in_7_and_8, multiple_frame_established}
use Rattle.lapd_link_definition.specs.Input as input
use Rattle.lapd_link_definition.specs.Procedures.{queue_up}
use Rattle.lapd_link_definition.specs.Refusal.{give_refused, refused}
use Rattle.lapd_link_definition.specs.Table.{by_state, row}
use Rattle.lapd_link_definition.specs.TimerRecovery.{timer_recovery}
use Rattle.lapd_pair_laws.specs.Histories.{Receipt}
use Rattle.lapd_pair_laws.specs.Move.{Give, acts, takes, story_after}
use Rattle.lapd_pair_laws.specs.Kinds.{Message, Kind, kinds, messages}
use Rattle.lapd_pair_laws.specs.Parties.{Sender, Party, Reception, receives}
use Rattle.lapd_pair_laws.specs.Conjuncts.{IsConsistentSender, IsPlaced, IsReceivable, AreGiven}
use Rattle.lapd_pair_laws.specs.Invariant.{Both}
use Rattle.lapd_pair_laws.proofs.ActionEffects.{Context, seen, line}
use Rattle.lapd_pair_laws.proofs.Receptions.{on_map}
use Rattle.lapd_pair_laws.proofs.Lists.{each_map, get_more}
use Rattle.lapd_pair_laws.proofs.ClosedActions.{Seems, Ends}
use Rattle.lapd_pair_laws.proofs.Steps.{context, begun, by_refusal}
use Rattle.lapd_pair_laws.proofs.Units.{ends_as_seen}
use Rattle.lapd_pair_laws.proofs.Worlds.{Preserves}

-- ---- The states in which a message is accepted.

pub data Takes : State → Bool → Bool → Type 0 where
  in_5 : Takes AwaitingEstablishment false false
  in_7 : {asked leaving : Bool} → Takes MultipleFrameEstablished asked leaving
  in_8 : {asked leaving : Bool} → Takes TimerRecovery asked leaving

takes_where : (state : State) (asked leaving full : Bool)
    → give_refused state leaving asked full ≡ None → Takes state asked leaving
takes_where TeiAssigned asked leaving full none = cc
takes_where AwaitingEstablishment asked true full none = cc
takes_where AwaitingEstablishment true false full none = cc
takes_where AwaitingEstablishment false false full none = in_5
takes_where AwaitingRelease asked leaving full none = cc
takes_where MultipleFrameEstablished asked leaving full none = in_7
takes_where TimerRecovery asked leaving full none = in_8

not_too_long : (long : Bool) (other : Option LinkFault)
    → (if long then Some TooLong else other) ≡ None → other ≡ None
not_too_long true other none = cc
not_too_long false other none = none

-- ---- One more message is appended to those submitted.

abbrev pub giving_sender : List ℕ → Sender → Sender
giving_sender message s = record s { given = s.given ++ message ∷ [] }

abbrev pub giving : List ℕ → Party → Party
giving message x = record x { sends = giving_sender message x.sends }

module _ (message : List ℕ) where
  more_given : (s : Sender) → length s.given ≤ length (giving_sender message s).given
  more_given s =
      let more : length (s.given ++ message ∷ []) ≡ length s.given + length (message ∷ []) =
      length-append s.given (message ∷ []) in
      omega (arith, more)

  giving_consistent : (state : State) (asked leaving : Bool) (s : Sender)
      → Takes state asked leaving → IsConsistentSender state asked leaving s
      → IsConsistentSender state asked leaving (giving_sender message s)
  giving_consistent AwaitingEstablishment false false s in_5 k =
      let more = more_given s in
      record {
        first = k.first;
        next = k.next;
        ordered = k.ordered;
        within = omega (arith, k.within, more);
      }
  giving_consistent MultipleFrameEstablished asked leaving s in_7 k =
      let more = more_given s in
      record {
        first = k.first;
        next = k.next;
        ordered = k.ordered;
        window = k.window;
        within = omega (arith, k.within, more);
        since = k.since;
      }
  giving_consistent TimerRecovery asked leaving s in_8 k =
      let more = more_given s in
      record {
        first = k.first;
        next = k.next;
        ordered = k.ordered;
        window = k.window;
        within = omega (arith, k.within, more);
        since = k.since;
      }
  giving_consistent state asked leaving s none k = elim none [ ]

  given_still : (given : List (List ℕ)) (received : List Receipt) → AreGiven given received
      → AreGiven (given ++ message ∷ []) received
  given_still given [] are = tt
  given_still given (r ∷ rs) are =
      (get_more given (message ∷ []) r.place r.octets are.0, given_still given rs are.1)

  placed_giving : (s : Sender) (m : Message) → IsPlaced s m → IsPlaced (giving_sender message s) m
  placed_giving s m p = record {
    place = p.place;
    same = get_more s.given (message ∷ []) m.place m.octets p.same;
    sent = p.sent;
  }

  module _ (x y : Party) where
    received_giving : (here : Option Reception) (h : Reception) → IsReceivable x y here h
        → IsReceivable (giving message x) y here h
    received_giving here h i = record {
      stream = record {
        placed =
            each_map (IsPlaced x.sends) (IsPlaced (giving_sender message x.sends))
            (messages h.frames) (placed_giving x.sends) i.stream.placed;
        near = i.stream.near;
        order = i.stream.order;
        step = i.stream.step;
        between = i.stream.between;
      };
      acks = i.acks;
      asked = i.asked;
      rejected = i.rejected;
    }

    -- and the frames that the side itself processes
    receives_giving : (there : Option Reception) (h : Reception) → IsReceivable y x there h
        → IsReceivable y (giving message x) there h
    receives_giving there h i =
        record { stream = i.stream; acks = i.acks; asked = i.asked; rejected = i.rejected }

    pub gives_both : (out back : List Kind) → Takes x.state x.asked x.leaving → Both x y out back
        → Both (giving message x) y out back
    gives_both out back takes b = let z = giving message x in record {
      mine = record {
        preserved = giving_consistent x.state x.asked x.leaving x.sends takes b.mine.preserved;
        passed = b.mine.passed;
        past = b.mine.past;
        lately = b.mine.lately;
        none_yet = b.mine.none_yet;
        below = b.mine.below;
        reception =
            on_map (IsReceivable x y (receives x back)) (IsReceivable z y (receives x back))
            (receives y out) (received_giving (receives x back)) b.mine.reception;
        exchange = b.mine.exchange;
        histories =
            let h = b.mine.histories in
            record {
              as_given = given_still x.sends.given y.takes.received h.as_given;
              row = h.row;
              prefix = h.prefix;
              arrived = h.arrived;
            };
      };
      its = record {
        preserved = b.its.preserved;
        passed = b.its.passed;
        past = b.its.past;
        lately = b.its.lately;
        none_yet = b.its.none_yet;
        below = b.its.below;
        reception =
            on_map (IsReceivable y x (receives y out)) (IsReceivable y z (receives y out))
            (receives x back) (receives_giving (receives y out)) b.its.reception;
        exchange = b.its.exchange;
        histories = b.its.histories;
      };
    }

-- ---- The row.

queues : (state : State) (asked leaving : Bool) (message : List ℕ) (s : StepState)
    → Takes state asked leaving → by_state Whole state (input.Give message) s ≡ queue_up message s
unfolding by_state awaiting_establishment multiple_frame_established timer_recovery in_7_and_8
queues AwaitingEstablishment false false message s in_5 = refl
queues MultipleFrameEstablished asked leaving message s in_7 = refl
queues TimerRecovery asked leaving message s in_8 = refl
queues state asked leaving message s none = elim none [ ]

-- queueing it is the first action
seems_queued : (c : Context) (message : List ℕ) (e : End)
    → Seems c (queue_up message (begin e)) (giving message (seen c (begin e))) (line c (begin e))
unfolding story_after queue_up begin
seems_queued c message e = record { party = refl; line = refl }

pub ends_given : (c : Context) (ks : List Kind) (message : List ℕ) (e : End)
    → Takes e.state e.layer3_initiated e.release_pending
    → Both (seen c (begin e)) c.peer (line c (begin e)) ks
    → Ends c ks (end_step Whole (row Whole e.state (input.Give message) (begin e)))
unfolding row begin
ends_given c ks message e takes b =
    subst (λ (t : StepState). Ends c ks (end_step Whole t))
    (sym (queues e.state e.layer3_initiated e.release_pending message (begin e) takes))
    (ends_as_seen c ks (queue_up message (begin e)) (giving message (seen c (begin e)))
    (line c (begin e)) (seems_queued c message e)
    (gives_both message (seen c (begin e)) c.peer (line c (begin e)) ks takes b))

pub taken_where : (message : List ℕ) (e : End) → refused (input.Give message) e ≡ None
    → Takes e.state e.layer3_initiated e.release_pending
taken_where message e none =
    takes_where e.state e.layer3_initiated e.release_pending (waiting e == e.parameters.room)
    (not_too_long (nat_lt n201 (length message)) _ none)

-- the move, accepted or refused
pub preserves_give : (message : List ℕ) → Preserves (Give message)
unfolding acts takes
preserves_give message v peer small h =
    let c = context h.base [] 0 v v.incoming peer h.its_base in
    by_refusal [] 0 v h.base h.its_base peer (input.Give message) h
    (λ none. ends_given c (kinds v.incoming) message v.station.end
    (taken_where message v.station.end none) (begun c (kinds v.incoming) h.both))
