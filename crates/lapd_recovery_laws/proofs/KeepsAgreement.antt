-- Deliveries and expired timers lead to agreement and keep it.
use Rattle.std.proofs.Common.{◌≡◌, ◌⊎◌, inl, inr, ℕ, zero, suc, ◌*◌, not, ◌+◌, ◌-◌, ◌≤◌, ◌==◌, nat_lt, ◌&&◌, Bool, true, false, List, ◌∷◌, ◌++◌, length, is_ok, refl, sym, ap, subst, ◌∙◌, arith, []}
use Rattle.std.proofs.lemmas.Bool.{eqb-true}
use Rattle.std.proofs.lemmas.Bool.Decides.{nat_tests}
use Rattle.lapd_frame.specs.declared.Side.{Side}
use Rattle.lapd_frame.specs.declared.Side.TheVariants as side
use Rattle.lapd_mod128.specs.Counting.{Whole}
use Rattle.lapd_link_definition.specs.declared.state.State.{State}
use Rattle.lapd_link_definition.specs.declared.state.State.TheVariants.{TeiAssigned, MultipleFrameEstablished, TimerRecovery}
use Rattle.lapd_link_definition.specs.EndOfStep.{is_7_or_8}
use Rattle.lapd_link_definition.specs.End.{End, begin, unsent, waiting}
use Rattle.lapd_link_definition.specs.Table.{step}
use Rattle.lapd_link_definition.specs.Tagging.{tag_end}
use Rattle.lapd_pair_laws.specs.Conjuncts.{IsNumbering}
use Rattle.lapd_pair_laws.specs.Consistent.{IsConsistentWorld}
use Rattle.lapd_pair_laws.specs.Invariant.{Both, IsInvariant}
use Rattle.lapd_pair_laws.specs.Kinds.{Kind, kind, kinds, tally, poll_of, final_of}
use Rattle.lapd_pair_laws.specs.Line.{Flight}
use Rattle.lapd_pair_laws.specs.Move.{PairEvent, Deliver, Lose, Expire200, Expire203, Move, Station, View, acts}
use Rattle.lapd_pair_laws.specs.Parties.{party}
use Rattle.lapd_pair_laws.specs.Tagged.{tag_world}
use Rattle.lapd_pair_laws.specs.Timed.{IsSettledEnd, AreSettledEnds}
use Rattle.lapd_pair_laws.specs.World.{World, swapped, with_view, view_of, world_after, happens, run, left}
use Rattle.lapd_link_definition.specs.RunningTimers.{HasTimersOfState}
use Rattle.lapd_pair_laws.proofs.Consistency.{run_consistent}
use Rattle.lapd_pair_laws.proofs.DrainsAfterRuns.{unmapped}
use Rattle.lapd_pair_laws.proofs.Facts.{between_open}
use Rattle.lapd_pair_laws.proofs.Lists.{tally_append}
use Rattle.lapd_pair_laws.proofs.MidSteps.{Mid, enter, numbering}
use Rattle.lapd_pair_laws.proofs.Settles.{in_7}
use Rattle.lapd_pair_laws.proofs.Stepping.{user_move}
use Rattle.lapd_pair_laws.proofs.Swaps.{network_alike}
use Rattle.lapd_pair_laws.proofs.TaggedMoves.{left_on_tags}
use Rattle.lapd_pair_laws.proofs.Worlds.{left_by}
use Rattle.lapd_recovery_laws.specs.Agreed.{AreReleased, AreLevel, AreAgreed}
use Rattle.lapd_recovery_laws.specs.Deliveries.{most_deliveries}
use Rattle.lapd_recovery_laws.specs.EarlyTimers.{IsLineMove, AreLineMoves, is_early, earlies, messages_in, if_in_8, overtaken_by, overtaken, most_line_moves, ComesBackDespiteTimers}
use Rattle.lapd_recovery_laws.specs.EveryWorld.{most_moves_from}
use Rattle.lapd_recovery_laws.specs.Losses.{is_loss, one_if, losses}
use Rattle.lapd_recovery_laws.specs.KeptAgreement.{is_answered, polls_in_transit, are_in_step, is_out_of_step, earlies_out_of_step, IsEqual, AreInAgreement}
use Rattle.lapd_recovery_laws.specs.Own.{is_empty, IsOwn, Rests}
use Rattle.lapd_recovery_laws.specs.Timers.{HaveTimersOfStates}
use Rattle.lapd_recovery_laws.proofs.AfterOutage.{facts_after}
use Rattle.lapd_recovery_laws.proofs.AnyOrder.{none_there, none_there_too}
use Rattle.lapd_recovery_laws.proofs.OneMoreFrame.{seeing}
use Rattle.lapd_recovery_laws.proofs.CountedMoves.{after}
use Rattle.lapd_recovery_laws.proofs.EndSends.{kinds_append, stops_full}
use Rattle.lapd_recovery_laws.proofs.StaysOpen.{IsOpen, stays_open, awaits_none}
use Rattle.lapd_recovery_laws.proofs.OwnBySide.{t200_runs, t203_runs, ok_of_side}
use Rattle.lapd_recovery_laws.proofs.LoneSteps.{Polls, polls_by_t200, polls_by_t203}
use Rattle.lapd_recovery_laws.proofs.Lost.{at}
use Rattle.lapd_recovery_laws.proofs.LostMoves.{moved_user}
use Rattle.lapd_recovery_laws.proofs.OutageWorlds.{Facts, facts_swapped, no_t203_if_closed}
use Rattle.lapd_recovery_laws.proofs.RunsEmpty as runs
use Rattle.lapd_recovery_laws.proofs.TimersBeside.{IsBeside, t200_beside, t203_beside}
use Rattle.lapd_recovery_laws.proofs.Transitions.{timers_in, in_7_if_t203}

-- ---- Ends in step.

-- an end that is open, has no message, and awaits the response to a poll in state 8
pub record IsCalm (x : End) (outgoing incoming : List Flight) : Type 0 where
  pub open_state : is_7_or_8 x.state ≡ true
  pub none : waiting x ≡ 0
  pub polled : x.state ≡ TimerRecovery → 1 ≤ polls_in_transit outgoing incoming

pub record Calm (w : World) : Type 0 where
  pub user : IsCalm w.user.end w.to_network w.to_user
  pub network : IsCalm w.network.end w.to_user w.to_network

calm_swapped : (w : World) → Calm w → Calm (swapped w)
calm_swapped w c = record { user = c.network; network = c.user }

answered_open : (state : State) (n : ℕ) → is_answered state n ≡ true → is_7_or_8 state ≡ true
answered_open MultipleFrameEstablished n is = refl
answered_open TimerRecovery n is = refl
answered_open state n is = cc

some_polls : (n : ℕ) → nat_lt 0 n ≡ true → 1 ≤ n
some_polls n less = grind (arith, nat_tests, less)

answered_polled : (state : State) (n : ℕ) → is_answered state n ≡ true → state ≡ TimerRecovery
    → 1 ≤ n
answered_polled MultipleFrameEstablished n is in_8 = cc
answered_polled TimerRecovery n is in_8 = some_polls n is
answered_polled state n is in_8 = cc

all_three : (a b c : Bool) → (a && (b && c)) ≡ true → (a ≡ true) × (b ≡ true) × (c ≡ true)
all_three true true true all = (refl, refl, refl)
all_three true true false all = cc
all_three true false c all = cc
all_three false b c all = cc

pub in_step_is_calm : (w : World) → IsConsistentWorld Whole w → are_in_step w ≡ true → Calm w
in_step_is_calm w k all =
    let three =
    all_three (left w == 0)
    (is_answered w.user.end.state (polls_in_transit w.to_network w.to_user))
    (is_answered w.network.end.state (polls_in_transit w.to_user w.to_network)) all in
    let none : left w ≡ 0 = eqb-true (left w) 0 three.0 in
    let waits = runs.left_waits w k in
    record {
      user = record {
        open_state =
            answered_open w.user.end.state (polls_in_transit w.to_network w.to_user) three.1;
        none = omega (arith, none, waits);
        polled =
            answered_polled w.user.end.state (polls_in_transit w.to_network w.to_user) three.1;
      };
      network = record {
        open_state =
            answered_open w.network.end.state (polls_in_transit w.to_user w.to_network) three.2;
        none = omega (arith, none, waits);
        polled =
            answered_polled w.network.end.state (polls_in_transit w.to_user w.to_network) three.2;
      };
    }

-- their numbers are equal
equal : (x y : Station) (base its_base : ℕ) (out back : List Kind)
    → Both (party base x) (party its_base y) out back → is_7_or_8 x.end.state ≡ true
    → is_7_or_8 y.end.state ≡ true → waiting x.end ≡ 0 → IsEqual x.end y.end
equal x y base its_base out back both o p none =
    let m : Mid (party base x) (party its_base y) out back =
    enter (party base x) (party its_base y) out back o both in
    let between : (x.end.window.va ≤ y.end.window.vr) × (y.end.window.vr ≤ x.end.window.vs) =
    between_open {x = party base x} {y = party its_base y} {out = out} {back = back} p m in
    let low = between.0 in
    let high = between.1 in
    let n : IsNumbering (party base x).sends = numbering m in
    let first : x.end.first ≡ base + x.end.window.va = n.first in
    let next : x.end.next ≡ base + x.end.window.vs = n.next in
    let within : x.end.next ≤ length x.end.given = n.within in
    record {
      open_state = o;
      acknowledged = omega (arith, low, high, first, next, within, none);
      received = omega (arith, low, high, first, next, within, none);
    }

calm_agrees : (w : World) → IsInvariant w → IsConsistentWorld Whole w → Calm w → AreInAgreement w
calm_agrees w i k c =
    let waits = runs.left_waits w k in
    let mine = c.user.none in
    let its = c.network.none in
    record {
      empty = omega (arith, waits, mine, its);
      ends = inr (record {
        mine =
            equal w.user w.network i.user_base i.network_base (kinds w.to_network) (kinds w.to_user)
            i.both c.user.open_state c.network.open_state mine;
        its =
            equal w.network w.user i.network_base i.user_base (kinds w.to_user) (kinds w.to_network)
            (record { mine = i.both.its; its = i.both.mine }) c.network.open_state c.user.open_state
            its;
      });
    }

-- in state 7 without T200 an end has no message
idle : (x y : Station) (base its_base : ℕ) (out back : List Kind)
    → Both (party base x) (party its_base y) out back → IsSettledEnd x.end
    → x.end.state ≡ MultipleFrameEstablished → x.end.t200 ≡ false → waiting x.end ≡ 0
unfolding begin
idle x y base its_base out back both settled is off =
    let t = in_7 x.end is settled.timed off in
    let m : Mid (party base x) (party its_base y) out back =
    enter (party base x) (party its_base y) out back (ap is_7_or_8 is) both in
    let n : IsNumbering (party base x).sends = numbering m in
    let first : x.end.first ≡ base + x.end.window.va = n.first in
    let next : x.end.next ≡ base + x.end.window.vs = n.next in
    by_full t.0 first next (stops_full (begin x.end) is t.1 settled.closed.sent)
  where
    by_full : x.end.window.vs ≡ x.end.window.va → x.end.first ≡ base + x.end.window.va
        → x.end.next ≡ base + x.end.window.vs
        → (unsent x.end ≡ 0) ⊎ (x.end.parameters.k ≤ x.end.window.vs - x.end.window.va)
        → waiting x.end ≡ 0
    by_full same first next (inl none) = omega (arith, same, first, next, none)
    by_full same first next (inr full) =
        let some = settled.some in absurd (omega (arith, same, full, some))

idle_in_step : (w : World) → IsInvariant w → IsConsistentWorld Whole w → AreSettledEnds w
    → w.user.end.state ≡ MultipleFrameEstablished → w.network.end.state ≡ MultipleFrameEstablished
    → w.user.end.t200 ≡ false → w.network.end.t200 ≡ false → are_in_step w ≡ true
idle_in_step w i k settled is its_is off its_off =
    let mine =
    idle w.user w.network i.user_base i.network_base (kinds w.to_network) (kinds w.to_user)
    i.both settled.user is off in
    let its =
    idle w.network w.user i.network_base i.user_base (kinds w.to_user) (kinds w.to_network)
    (record { mine = i.both.its; its = i.both.mine }) settled.network its_is its_off in
    let waits = runs.left_waits w k in
    let none : left w ≡ 0 = omega (arith, waits, mine, its) in
    ap (λ n. (n == 0) && (is_answered w.user.end.state (polls_in_transit w.to_network w.to_user)
    && is_answered w.network.end.state (polls_in_transit w.to_user w.to_network))) none
    ∙ ap (λ st. is_answered st (polls_in_transit w.to_network w.to_user) && is_answered
    w.network.end.state (polls_in_transit w.to_user w.to_network)) is
    ∙ ap (λ st. is_answered st (polls_in_transit w.to_user w.to_network)) its_is

-- ---- A frame is delivered.

module _ (N : ℕ) (x y : Station) (frame : Flight) (rest outgoing : List Flight)
    (f : Facts N (at x y (frame ∷ rest) outgoing))
    (k : IsConsistentWorld Whole (at x y (frame ∷ rest) outgoing))
    (c : Calm (at x y (frame ∷ rest) outgoing)) where
  abbrev w : World
  w = at x y (frame ∷ rest) outgoing

  goes_on : (u : View) → waiting u.station.end ≤ waiting x.end
      → IsOpen x y frame rest outgoing f.holds f.settled.user c.user.open_state c.network.open_state
      u → Calm (with_view side.User u w)
  goes_on u fewer o =
      let s = o.0 in
      let finals = s.finals in
      let polls = s.polls in
      let arriving = ap kinds o.1 in
      let none = c.user.none in
      let final_now : tally final_of (kinds u.incoming) ≡ tally final_of (kinds rest) =
      ap (λ ks. tally final_of ks) arriving in
      let poll_now : tally poll_of (kinds u.incoming) ≡ tally poll_of (kinds rest) =
      ap (λ ks. tally poll_of ks) arriving in
      record {
        user = record {
          open_state = s.open_state;
          none = omega (arith, fewer, none);
          polled =
              λ is. let was =
              s.in_8 is in let some =
              c.user.polled was.0 in let nothing =
              was.2 in omega (arith, some, nothing, polls, final_now);
        };
        network = record {
          open_state = c.network.open_state;
          none = c.network.none;
          polled = λ is. let some = c.network.polled is in omega (arith, some, finals, poll_now);
        };
      }

  user_delivers : Calm (world_after w (happens Whole (user_move Deliver) w))
  user_delivers =
      let moved = moved_user Deliver w in
      let v = seeing x (frame ∷ rest) outgoing in
      let u = left_by v (acts Whole side.User Deliver v) in
      let d =
      runs.delivery_flows N (most_deliveries w) side.User w f (runs.flow_begins w f.holds k)
      (runs.arrives_at_user Whole x y frame rest outgoing) in
      let fewer : waiting u.station.end ≤ waiting x.end =
      subst (λ (n : World). waiting n.user.end ≤ waiting x.end) moved d.user_fewer in
      subst Calm (sym moved) (goes_on u fewer
      (stays_open x y frame rest outgoing f.holds f.settled.user c.user.open_state
      c.network.open_state))

by_swap : (event : PairEvent) (w : World) → Calm (after side.User event (swapped w))
    → Calm (after side.Network event w)
by_swap event w c =
    subst Calm (sym (network_alike Whole event w))
    (calm_swapped (after side.User event (swapped w)) c)

consistent_swapped : (w : World) → IsConsistentWorld Whole w → IsConsistentWorld Whole (swapped w)
consistent_swapped w k = record {
  user = k.network;
  network = k.user;
  to_user = k.to_network;
  to_network = k.to_user;
  numbers_to_user = k.numbers_to_network;
  numbers_to_network = k.numbers_to_user;
}

deliver : (N : ℕ) (s : Side) (x y : Station) (to_user to_network : List Flight)
    → Facts N (at x y to_user to_network) → IsConsistentWorld Whole (at x y to_user to_network)
    → Calm (at x y to_user to_network)
    → is_ok (happens Whole (record { side = s; event = Deliver }) (at x y to_user to_network))
    ≡ true
    → Calm (after s Deliver (at x y to_user to_network))
deliver N side.User x y [] to_network f k c ok = let none = none_there x y to_network in cc
deliver N side.User x y (frame ∷ rest) to_network f k c ok =
    user_delivers N x y frame rest to_network f k c
deliver N side.Network x y to_user [] f k c ok = let none = none_there_too x y to_user in cc
deliver N side.Network x y to_user (frame ∷ rest) f k c ok =
    let w = at x y to_user (frame ∷ rest) in
    by_swap Deliver w (user_delivers N y x frame rest to_user (facts_swapped N w f)
    (consistent_swapped w k) (calm_swapped w c))

-- ---- A timer expires in state 7, with frames in transit or not.

polled : (event : PairEvent) (rc : ℕ) (w : World) (alone : View) → Polls w.user rc alone
    → IsBeside w.to_user w.to_network alone
    (left_by (view_of side.User w) (acts Whole side.User event (view_of side.User w)))
    → Calm w → Calm (after side.User event w)
polled event rc w alone p b c =
    let v = left_by (view_of side.User w) (acts Whole side.User event (view_of side.User w)) in
    let sent : kinds v.outgoing ≡ kinds w.to_network ++ kinds alone.outgoing =
    ap kinds b.outgoing_is ∙ kinds_append w.to_network alone.outgoing in
    let polls =
    ap (λ ks. tally poll_of ks) sent
    ∙ tally_append poll_of (kinds w.to_network) (kinds alone.outgoing) in
    let finals =
    ap (λ ks. tally final_of ks) sent
    ∙ tally_append final_of (kinds w.to_network) (kinds alone.outgoing) in
    let poll : tally poll_of (kinds alone.outgoing) ≡ poll_of (kind p.frame) + 0 =
    ap (λ fs. tally poll_of (kinds fs)) p.outgoing in
    let arriving : tally poll_of (kinds v.incoming) ≡ tally poll_of (kinds w.to_user) =
    ap (λ fs. tally poll_of (kinds fs)) b.incoming_is in
    let one = p.polls in
    subst Calm (sym (moved_user event w)) (record {
      user = subst (λ e. IsCalm e v.outgoing v.incoming) (sym b.end) (record {
        open_state = ap is_7_or_8 p.polled.in_8;
        none = p.polled.waiting_is ∙ c.user.none;
        polled = λ is. omega (arith, polls, poll, one);
      });
      network = record {
        open_state = c.network.open_state;
        none = c.network.none;
        polled = λ is. let some = c.network.polled is in omega (arith, some, finals, arriving);
      };
    })

user_200 : (w : World) → Calm w
    → is_ok (acts Whole side.User Expire200 (view_of side.User w)) ≡ true
    → Calm (after side.User Expire200 w)
user_200 w c ok = by_state w.user.end.state refl c.user.open_state
  where
    by_state : (state : State) → w.user.end.state ≡ state → is_7_or_8 state ≡ true
        → Calm (after side.User Expire200 w)
    by_state MultipleFrameEstablished is o =
        polled Expire200 1 w
        (left_by (seeing w.user [] []) (acts Whole side.User Expire200 (seeing w.user [] [])))
        (polls_by_t200 w.user is (t200_runs (view_of side.User w) ok))
        (t200_beside w.user w.to_user w.to_network ok) c
    by_state TimerRecovery is o =
        let some = c.user.polled is in
        let none = awaits_none (view_of side.User w) ok in
        let no_poll = none.0 in
        let no_final = none.1 in
        absurd (omega (arith, some, no_poll, no_final))
    by_state state is o = cc

user_203 : (w : World) → HasTimersOfState w.user.end → Calm w
    → is_ok (acts Whole side.User Expire203 (view_of side.User w)) ≡ true
    → Calm (after side.User Expire203 w)
user_203 w has c ok =
    let on = t203_runs (view_of side.User w) ok in
    polled Expire203 0 w
    (left_by (seeing w.user [] []) (acts Whole side.User Expire203 (seeing w.user [] [])))
    (polls_by_t203 w.user (in_7_if_t203 w.user.end has on) on)
    (t203_beside w.user w.to_user w.to_network ok) c

expire_200 : (s : Side) (w : World) → Calm w
    → is_ok (happens Whole (record { side = s; event = Expire200 }) w) ≡ true
    → Calm (after s Expire200 w)
expire_200 side.User w c ok = user_200 w c (ok_of_side side.User Expire200 w ok)
expire_200 side.Network w c ok =
    by_swap Expire200 w (user_200 (swapped w) (calm_swapped w c)
    (ok_of_side side.Network Expire200 w ok))

expire_203 : (s : Side) (w : World) → HaveTimersOfStates w → Calm w
    → is_ok (happens Whole (record { side = s; event = Expire203 }) w) ≡ true
    → Calm (after s Expire203 w)
expire_203 side.User w have c ok = user_203 w have.user c (ok_of_side side.User Expire203 w ok)
expire_203 side.Network w have c ok =
    by_swap Expire203 w (user_203 (swapped w) have.network (calm_swapped w c)
    (ok_of_side side.Network Expire203 w ok))

-- ---- All these moves.

module _ (N : ℕ) where
  -- the facts of a world and of its histories
  pub record Knows (w : World) : Type 0 where
    pub facts : Facts N w
    pub preserved : IsConsistentWorld Whole w

  pub knows_after : (move : Move) (w : World) → Knows w → Knows (world_after w (happens Whole move w))
  knows_after move w k = record {
    facts = facts_after N move w k.facts;
    preserved = run_consistent Whole (move ∷ []) w k.preserved;
  }

  calm_move : (s : Side) (event : PairEvent) (w : World) → Knows w → Calm w
      → IsLineMove Whole (record { side = s; event = event }) w → one_if (is_loss event) ≡ 0
      → Calm (after s event w)
  calm_move s Deliver w k c one none =
      deliver N s w.user w.network w.to_user w.to_network k.facts k.preserved c one.admitted
  calm_move s Expire200 w k c one none = expire_200 s w c one.admitted
  calm_move s Expire203 w k c one none = expire_203 s w k.facts.have c one.admitted
  calm_move s (Lose i) w k c one none = absurd (omega (arith, none))
  calm_move s event w k c one none = let impossible = one.of_line in cc

  pub calm_stays : (moves : List Move) (w : World) → Knows w → Calm w → AreLineMoves Whole moves w
      → losses moves ≡ 0 → AreInAgreement (run Whole moves w)
  calm_stays [] w k c own none = calm_agrees w k.facts.holds k.preserved c
  calm_stays (move ∷ moves) w k c own none =
      calm_stays moves (world_after w (happens Whole move w)) (knows_after move w k)
      (calm_move move.side move.event w k c own.0 (omega (arith, none))) own.1
      (omega (arith, none))

  -- both ends are in state 4: no move is possible
  shut : (s : Side) (event : PairEvent) (x y : Station) (to_user to_network : List Flight)
      → to_user ≡ [] → to_network ≡ [] → HaveTimersOfStates (at x y to_user to_network)
      → AreReleased x.end y.end
      → IsLineMove Whole (record { side = s; event = event }) (at x y to_user to_network)
      → one_if (is_loss event) ≡ 0 → ⊥
  shut side.User Deliver x y [] to_network none nothing have r own lossless =
      let ok = own.admitted in let not_there = none_there x y to_network in cc
  shut side.Network Deliver x y to_user [] none nothing have r own lossless =
      let ok = own.admitted in let not_there = none_there_too x y to_user in cc
  shut side.User Deliver x y (f ∷ fs) to_network none nothing have r own lossless = cc
  shut side.Network Deliver x y to_user (f ∷ fs) none nothing have r own lossless = cc
  shut side.User Expire200 x y to_user to_network none nothing have r own lossless =
      let on =
      t200_runs (seeing x to_user to_network)
      (ok_of_side side.User Expire200 (at x y to_user to_network) own.admitted) in
      let off = (timers_in TeiAssigned x.end have.user r.mine).0 in cc
  shut side.Network Expire200 x y to_user to_network none nothing have r own lossless =
      let on =
      t200_runs (seeing y to_network to_user)
      (ok_of_side side.Network Expire200 (at x y to_user to_network) own.admitted) in
      let off = (timers_in TeiAssigned y.end have.network r.its).0 in cc
  shut side.User Expire203 x y to_user to_network none nothing have r own lossless =
      let on =
      t203_runs (seeing x to_user to_network)
      (ok_of_side side.User Expire203 (at x y to_user to_network) own.admitted) in
      let off = no_t203_if_closed x.end have.user (ap is_7_or_8 r.mine) in cc
  shut side.Network Expire203 x y to_user to_network none nothing have r own lossless =
      let on =
      t203_runs (seeing y to_network to_user)
      (ok_of_side side.Network Expire203 (at x y to_user to_network) own.admitted) in
      let off = no_t203_if_closed y.end have.network (ap is_7_or_8 r.its) in cc
  shut s (Lose i) x y to_user to_network none nothing have r own lossless =
      omega (arith, lossless)
  shut s event x y to_user to_network none nothing have r own lossless =
      let impossible = own.of_line in cc

  -- ends that agree, as far as tags show it
  pub record AreSettled (w : World) : Type 0 where
    pub to_user : w.to_user ≡ []
    pub to_network : w.to_network ≡ []
    pub empty : left w ≡ 0
    pub ends : AreReleased w.user.end w.network.end
        ⊎ ((w.user.end.state ≡ MultipleFrameEstablished)
        × (w.network.end.state ≡ MultipleFrameEstablished))

  pub settled : (w : World) → AreAgreed w → AreSettled w
  settled w a = record {
    to_user = a.to_user;
    to_network = a.to_network;
    empty = a.empty;
    ends = by_ends a.ends;
  }
    where
      by_ends : AreReleased w.user.end w.network.end ⊎ AreLevel w.user.end w.network.end
          → AreReleased w.user.end w.network.end
          ⊎ ((w.user.end.state ≡ MultipleFrameEstablished)
          × (w.network.end.state ≡ MultipleFrameEstablished))
      by_ends (inl r) = inl r
      by_ends (inr level) = inr (level.mine.established, level.its.established)

  pub settled_by_tags : (w : World) → AreSettled (tag_world w) → AreSettled w
  settled_by_tags w a = record {
    to_user = unmapped w.to_user a.to_user;
    to_network = unmapped w.to_network a.to_network;
    empty = sym (left_on_tags w) ∙ a.empty;
    ends = by_ends a.ends;
  }
    where
      by_ends : AreReleased (tag_end w.user.end) (tag_end w.network.end)
          ⊎ ((w.user.end.state ≡ MultipleFrameEstablished)
          × (w.network.end.state ≡ MultipleFrameEstablished))
          → AreReleased w.user.end w.network.end
          ⊎ ((w.user.end.state ≡ MultipleFrameEstablished)
          × (w.network.end.state ≡ MultipleFrameEstablished))
      by_ends (inl r) = inl (record { mine = r.mine; its = r.its })
      by_ends (inr in_7) = inr in_7

  settled_is_calm : (w : World) → Knows w → left w ≡ 0 → w.user.end.state ≡ MultipleFrameEstablished
      → w.network.end.state ≡ MultipleFrameEstablished → Calm w
  settled_is_calm w k none in_7 its_in_7 =
      let waits = runs.left_waits w k.preserved in
      record {
        user = record {
          open_state = ap is_7_or_8 in_7;
          none = omega (arith, none, waits);
          polled =
              λ in_8. let impossible : MultipleFrameEstablished ≡ TimerRecovery =
              sym in_7 ∙ in_8 in cc;
        };
        network = record {
          open_state = ap is_7_or_8 its_in_7;
          none = omega (arith, none, waits);
          polled =
              λ in_8. let impossible : MultipleFrameEstablished ≡ TimerRecovery =
              sym its_in_7 ∙ in_8 in cc;
        };
      }

  -- from ends that agree
  pub stays_agreed : (moves : List Move) (w : World) → Knows w → AreSettled w
      → AreLineMoves Whole moves w → losses moves ≡ 0 → AreInAgreement (run Whole moves w)
  stays_agreed moves w k a own none = by_ends a.ends
    where
      by_moves : (moves : List Move) → AreReleased w.user.end w.network.end
          → AreLineMoves Whole moves w → losses moves ≡ 0 → AreInAgreement (run Whole moves w)
      by_moves [] r own none = record { empty = a.empty; ends = inl r }
      by_moves (move ∷ moves) r own none =
          absurd (shut move.side move.event w.user w.network w.to_user w.to_network a.to_user
          a.to_network k.facts.have r own.0 (omega (arith, none)))

      by_ends : AreReleased w.user.end w.network.end
          ⊎ ((w.user.end.state ≡ MultipleFrameEstablished)
          × (w.network.end.state ≡ MultipleFrameEstablished))
          → AreInAgreement (run Whole moves w)
      by_ends (inl r) = by_moves moves r own none
      by_ends (inr in_7) =
          calm_stays moves w k (settled_is_calm w k a.empty in_7.0 in_7.1) own none

  -- an own move is a line move, not early, and overtakes nothing
  pub record IsPlain (s : Side) (event : PairEvent) (w : World) : Type 0 where
    pub line_move : IsLineMove Whole (record { side = s; event = event }) w
    pub lossless : one_if (is_loss event) ≡ 0
    pub timely : one_if (is_early event w) ≡ 0
    pub first : overtaken_by event (view_of s w) ≡ 0

  none_in_8 : (state : State) (l : List Flight) → l ≡ [] → if_in_8 state (messages_in l) ≡ 0
  none_in_8 TimerRecovery l none = ap messages_in none
  none_in_8 state l none = refl

  empty_line : (a b : List Flight) → (is_empty a && is_empty b) ≡ true → (a ≡ []) × (b ≡ [])
  empty_line [] [] all = (refl, refl)
  empty_line [] (f ∷ fs) all = cc
  empty_line (f ∷ fs) b all = cc

  pub own_is_plain : (s : Side) (event : PairEvent) (w : World)
      → IsOwn Whole (record { side = s; event = event }) w → IsPlain s event w
  own_is_plain s Deliver w own = record {
    line_move = record { of_line = refl; admitted = own.admitted };
    lossless = refl;
    timely = refl;
    first = refl;
  }
  own_is_plain s Expire200 w own = record {
    line_move = record { of_line = refl; admitted = own.admitted };
    lossless = refl;
    timely = ap (λ b. one_if (not b)) own.due;
    first = by_side s (empty_line w.to_user w.to_network own.due);
  }
    where
      by_side : (side : Side) → (w.to_user ≡ []) × (w.to_network ≡ [])
          → overtaken_by Expire200 (view_of side w) ≡ 0
      by_side side.User none = none_in_8 w.user.end.state w.to_network none.1
      by_side side.Network none = none_in_8 w.network.end.state w.to_user none.0
  own_is_plain s Expire203 w own = record {
    line_move = record { of_line = refl; admitted = own.admitted };
    lossless = refl;
    timely = ap (λ b. one_if (not b)) own.due;
    first = refl;
  }
  own_is_plain s event w own = let due = own.due in cc

  module _ (c : ℕ) where
    -- n moves, c for each early timer, and one for each overtaken message
    record Bounds (n : ℕ) (w : World) : Type 0 where
      few : (moves : List Move) → AreLineMoves Whole moves w → losses moves ≡ 0
          → length moves ≤ n + earlies Whole moves w * c + overtaken Whole moves w
      agreed : (moves : List Move) → AreLineMoves Whole moves w → Rests Whole (run Whole moves w)
          → AreAgreed (run Whole moves w)

    abbrev after_one : ℕ → Move → World → ℕ
    after_one n move w =
        n + one_if (is_early move.event w) * c + overtaken_by move.event (view_of move.side w)

    bounds_after : (n : ℕ) (move : Move) (w : World) → Bounds n w → IsLineMove Whole move w
        → one_if (is_loss move.event) ≡ 0
        → (1 ≤ after_one n move w)
        × Bounds (after_one n move w - 1) (world_after w (happens Whole move w))
    bounds_after n move w b one lossless = (
      (let few = b.few (move ∷ []) (one, tt) (omega (arith, lossless)) in omega (arith, few)),
      record {
        few = λ moves own none.
            let few = b.few (move ∷ moves) (one, own) (omega (arith, lossless, none)) in
            omega (arith, few);
        agreed = λ moves own rests. b.agreed (move ∷ moves) (one, own) rests;
      },
    )

    not_in_step : (early step : Bool) → step ≡ false → (early && not step) ≡ early
    not_in_step true false off = refl
    not_in_step false step off = refl
    not_in_step true true off = cc

    reaches : (moves : List Move) (n : ℕ) (w : World) → Bounds n w → Knows w
        → AreLineMoves Whole moves w → losses moves ≡ 0
        → n + earlies_out_of_step Whole moves w * c + overtaken Whole moves w ≤ length moves
        → AreInAgreement (run Whole moves w)
    reaches [] n w b k own none le =
        stays_agreed [] w k (settled w (b.agreed [] tt (λ move one.
        let p = own_is_plain move.side move.event w one in
        let few = b.few (move ∷ []) (p.line_move, tt) (let lossless = p.lossless in
        omega (arith, lossless)) in
        let timely = p.timely in
        let first = p.first in
        absurd (none_left (one_if (is_early move.event w))
        (overtaken_by move.event (view_of move.side w)) n timely first
        (omega (arith, few)) (omega (arith, le)))))) tt none
      where
        none_left : (early late n : ℕ) → early ≡ 0 → late ≡ 0 → 1 ≤ n + early * c + late
            → n ≤ 0 → ⊥
        none_left zero late n timely first few le = omega (arith, first, few, le)
        none_left (suc early) late n timely first few le = omega (arith, timely)
    reaches (move ∷ moves) n w b k own none le =
        by_step (are_in_step w) refl (λ left few.
        reaches moves (after_one n move w - 1) (world_after w (happens Whole move w)) left
        (knows_after move w k) own.1 (omega (arith, none)) few)
      where
        by_step : (b : Bool) → are_in_step w ≡ b
            → (Bounds (after_one n move w - 1) (world_after w (happens Whole move w))
            → (after_one n move w - 1)
            + earlies_out_of_step Whole moves (world_after w (happens Whole move w)) * c
            + overtaken Whole moves (world_after w (happens Whole move w)) ≤ length moves
            → AreInAgreement (run Whole (move ∷ moves) w))
            → AreInAgreement (run Whole (move ∷ moves) w)
        by_step true step rest =
            calm_stays (move ∷ moves) w k (in_step_is_calm w k.preserved step) own none
        by_step false step rest =
            let left = bounds_after n move w b own.0 (omega (arith, none)) in
            let some = left.0 in
            let same : one_if (is_out_of_step move.event w) ≡ one_if (is_early move.event w) =
            ap one_if (not_in_step (is_early move.event w) (are_in_step w) step) in
            let counted : n + (one_if (is_early move.event w)
            + earlies_out_of_step Whole moves (world_after w (happens Whole move w))) * c
            + overtaken Whole (move ∷ moves) w ≤ length (move ∷ moves) =
            subst (λ j. n + (j
            + earlies_out_of_step Whole moves (world_after w (happens Whole move w))) * c
            + overtaken Whole (move ∷ moves) w ≤ length (move ∷ moves)) same le in
            rest left.1 (omega (arith, some, counted))

  -- both claims, on whole numbers
  pub record Kept (w : World) : Type 0 where
    pub reached : (moves : List Move) → AreLineMoves Whole moves w → losses moves ≡ 0
        → most_line_moves 0 (earlies_out_of_step Whole moves w) (overtaken Whole moves w) N w
        ≤ length moves
        → AreInAgreement (run Whole moves w)
    pub kept : AreSettled w → (moves : List Move) → AreLineMoves Whole moves w → losses moves ≡ 0
        → AreInAgreement (run Whole moves w)
    pub in_step : w.user.end.state ≡ MultipleFrameEstablished
        → w.network.end.state ≡ MultipleFrameEstablished → w.user.end.t200 ≡ false
        → w.network.end.t200 ≡ false → are_in_step w ≡ true

  pub world_keeps : (w : World) → Knows w → ComesBackDespiteTimers Whole N w → Kept w
  world_keeps w k back = record {
    reached = λ moves own none le.
        reaches (6 * left w + 6 * N + 24) moves (most_moves_from N w) w
        (record {
          few = λ moves own none.
              let few = back.few moves own in
              let lossless : length moves
              ≤ most_line_moves 0 (earlies Whole moves w) (overtaken Whole moves w) N w =
              subst (λ j. length moves
              ≤ most_line_moves j (earlies Whole moves w) (overtaken Whole moves w) N w) none few in
              omega (arith, lossless);
          agreed = back.agreed;
        }) k own none (omega (arith, le));
    kept = λ a moves own none. stays_agreed moves w k a own none;
    in_step = idle_in_step w k.facts.holds k.preserved k.facts.settled;
  }
