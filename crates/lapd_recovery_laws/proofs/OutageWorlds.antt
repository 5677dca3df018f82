-- The worlds of an outage keep the invariant and the timers of their states.
use Rattle.std.proofs.Common.{◌≡◌, ◌⊎◌, inl, inr, ℕ, ◌*◌, ◌≤◌, not, ◌&&◌, ◌||◌, Bool, true, false, List, length, is_ok, refl, sym, subst, arith, ◌∙◌}
use Rattle.lapd_frame.specs.declared.Side.TheVariants as side
use Rattle.lapd_mod128.specs.Counting.{Whole}
use Rattle.lapd_link_definition.specs.declared.state.State.{State}
use Rattle.lapd_link_definition.specs.declared.state.State.TheVariants.{TeiAssigned, AwaitingEstablishment, AwaitingRelease, MultipleFrameEstablished, TimerRecovery}
use Rattle.lapd_link_definition.specs.EndOfStep.{is_7_or_8}
use Rattle.lapd_link_definition.specs.End.{End, unsent}
use Rattle.lapd_link_definition.specs.RunningTimers.{HasTimersOfState}
use Rattle.lapd_pair_laws.specs.Conjuncts.{IsEmpty, IsConsistentSender}
use Rattle.lapd_pair_laws.specs.Invariant.{IsInvariant}
use Rattle.lapd_pair_laws.specs.Move.{PairEvent, acts}
use Rattle.lapd_pair_laws.specs.Parties.{party}
use Rattle.lapd_pair_laws.specs.Timed.{AreSettledEnds}
use Rattle.lapd_pair_laws.specs.World.{World, swapped, view_of, happens}
use Rattle.lapd_pair_laws.specs.Kinds.{Kind}
use Rattle.lapd_pair_laws.proofs.Flow.{Source, Sink, Stage, Clean, Waiting, Polling, Answered, IsAt, weight, Stream}
use Rattle.lapd_pair_laws.proofs.Stepping.{user_move}
use Rattle.lapd_pair_laws.proofs.Worlds.{exchanged}
use Rattle.lapd_recovery_laws.specs.WantedLine.{IsKept}
use Rattle.lapd_recovery_laws.specs.Timers.{HaveTimersOfStates}
use Rattle.lapd_recovery_laws.proofs.AnyOrder.{ok_in_world}
use Rattle.lapd_recovery_laws.proofs.Cleared.{AreClearIn5}
use Rattle.lapd_recovery_laws.proofs.Transitions.{timers_in}

-- ---- Properties that every world keeps.

pub record Facts (N : ℕ) (w : World) : Type 0 where
  pub holds : IsInvariant w
  pub settled : AreSettledEnds w
  pub have : HaveTimersOfStates w
  pub clear : AreClearIn5 w
  pub few_user : w.user.end.parameters.n200 ≤ N
  pub few_network : w.network.end.parameters.n200 ≤ N

pub facts_swapped : (N : ℕ) (w : World) → Facts N w → Facts N (swapped w)
facts_swapped N w f = record {
  holds = exchanged w f.holds;
  settled = record { user = f.settled.network; network = f.settled.user };
  have = record { user = f.have.network; network = f.have.user };
  clear = record { user = f.clear.network; network = f.clear.user };
  few_user = f.few_network;
  few_network = f.few_user;
}

-- a message in state 5, if layer 3 initiated the establishment: there is none
pub empty_5 : (w : World) → IsInvariant w → w.user.end.state ≡ AwaitingEstablishment
    → w.user.end.layer3_initiated ≡ true → unsent w.user.end ≡ 0
empty_5 w i is asked =
    let x = party i.user_base w.user in
    let preserved : IsConsistentSender AwaitingEstablishment true x.leaving x.sends =
    subst (λ b. IsConsistentSender AwaitingEstablishment b x.leaving x.sends) asked
    (subst (λ st. IsConsistentSender st x.asked x.leaving x.sends) is i.both.mine.preserved)
    in
    let none : IsEmpty x.sends = preserved in
    let all : w.user.end.next ≡ length w.user.end.given = none.next in
    omega (arith, all)

-- an end in state 6 has none
pub empty_6 : (w : World) → IsInvariant w → w.user.end.state ≡ AwaitingRelease
    → length w.user.end.given ≡ w.user.end.next
empty_6 w i is =
    let x = party i.user_base w.user in
    let none : IsEmpty x.sends =
    subst (λ st. IsConsistentSender st x.asked x.leaving x.sends) is
    i.both.mine.preserved in
    sym none.next

pub empty_6_too : (w : World) → IsInvariant w → w.network.end.state ≡ AwaitingRelease
    → length w.network.end.given ≡ w.network.end.next
empty_6_too w i is = empty_6 (swapped w) (exchanged w i) is

pub first_of : (a b c : Bool) → (a && b && c) ≡ true → a ≡ true
first_of true b c all = refl
first_of false b c all = cc

pub second_of : (a b c : Bool) → (a && b && c) ≡ true → b ≡ true
second_of true true c all = refl
second_of true false c all = cc
second_of false b c all = cc

pub neither_on : (a b : Bool) → not (a || b) ≡ true → b ≡ true → ⊥
neither_on false true is on = cc
neither_on true b is on = cc
neither_on false false is on = cc

pub stream_unsent : (x : Source) (y : Sink) (out back : List Kind) (n : ℕ) → Stream x y out back n
    → 2 * x.unsent ≤ n
stream_unsent x y out back n s = by_stage s.stage s.so s.most
  where
    by_stage : (stage : Stage) → IsAt stage x y out back → weight stage x y ≤ n → 2 * x.unsent ≤ n
    by_stage Clean c most = omega (arith, most)
    by_stage Waiting w most = omega (arith, most)
    by_stage Polling w most = omega (arith, most)
    by_stage Answered w most = omega (arith, most)

pub no_t203_if_closed : (e : End) → HasTimersOfState e → is_7_or_8 e.state ≡ false → e.t203 ≡ false
no_t203_if_closed e has c = by_state e.state refl c
  where
    by_state : (state : State) → e.state ≡ state → is_7_or_8 state ≡ false → e.t203 ≡ false
    by_state TeiAssigned is c = (timers_in TeiAssigned e has is).1
    by_state AwaitingEstablishment is c = (timers_in AwaitingEstablishment e has is).1
    by_state AwaitingRelease is c = (timers_in AwaitingRelease e has is).1
    by_state MultipleFrameEstablished is c = cc
    by_state TimerRecovery is c = cc

pub user_ok : (event : PairEvent) (w : World)
    → is_ok (happens Whole (user_move event) w)
    ≡ is_ok (acts Whole side.User event (view_of side.User w))
unfolding happens
user_ok event w = ok_in_world side.User w (acts Whole side.User event (view_of side.User w))

pub released_is_kept : (e : End) → e.state ≡ TeiAssigned → IsKept e
released_is_kept e is = record {
  not_releasing =
      λ in_6. let impossible : TeiAssigned ≡ AwaitingRelease = sym is ∙ in_6 in cc;
  none_pending =
      λ in_5. let impossible : TeiAssigned ≡ AwaitingEstablishment = sym is ∙ in_5 in cc;
}

pub turned : {A B : Type 0} → A ⊎ B → B ⊎ A
turned (inl a) = inr a
turned (inr b) = inl b
