-- The moves of a line with a lost end: each reduces the remaining work.
use Rattle.std.proofs.Common.{◌≡◌, ℕ, ◌+◌, ◌-◌, ◌≤◌, true, List, [], ◌∷◌, ◌++◌, length, refl, sym, ap, subst, ◌∙◌, arith}
use Rattle.lapd_frame.specs.declared.Side.TheVariants as side
use Rattle.lapd_mod128.specs.Counting.{Whole}
use Rattle.lapd_link_definition.specs.declared.state.State.{State}
use Rattle.lapd_link_definition.specs.declared.state.State.TheVariants.{MultipleFrameEstablished, TimerRecovery}
use Rattle.lapd_link_definition.specs.EndOfStep.{is_7_or_8}
use Rattle.lapd_link_definition.specs.Table.{step}
use Rattle.lapd_pair_laws.specs.Line.{Flight}
use Rattle.lapd_pair_laws.specs.Move.{PairEvent, Deliver, Station, View, acts, receives, delivers, view_after, story_after}
use Rattle.lapd_pair_laws.specs.World.{World, swapped, view_of, with_view, world_after, happens}
use Rattle.lapd_pair_laws.specs.Kinds.{Kind, Final, kinds, messages, tally, poll_of, final_of}
use Rattle.lapd_pair_laws.specs.Parties.{party, frames_received}
use Rattle.lapd_pair_laws.specs.Conjuncts.{OneAsked}
use Rattle.lapd_pair_laws.specs.Invariant.{IsInvariant}
use Rattle.lapd_pair_laws.specs.Timed.{AreSettledEnds}
use Rattle.lapd_pair_laws.proofs.WorkOfActions.{AreReady}
use Rattle.lapd_pair_laws.proofs.Drains.{Seen, Drains, drains_swapped, seen_delivered, mine_open}
use Rattle.lapd_pair_laws.proofs.Flow.{Source, Sink, source, sink, Stage, Clean, Waiting, Polling, Answered, IsAt, burden, weight, Stream}
use Rattle.lapd_pair_laws.proofs.GoingBack.{none_asked_in_7, asked_in_8}
use Rattle.lapd_pair_laws.proofs.Lists.{tally_more}
use Rattle.lapd_pair_laws.proofs.MidSteps.{Mid, enter}
use Rattle.lapd_pair_laws.proofs.Moves.{after_by_user}
use Rattle.lapd_pair_laws.proofs.Receptions.{open_receives}
use Rattle.lapd_pair_laws.proofs.SettledEnds.{move_settles}
use Rattle.lapd_pair_laws.proofs.SenderStream as speaks
use Rattle.lapd_pair_laws.proofs.Stepping.{user_move, network_move}
use Rattle.lapd_pair_laws.proofs.Swaps.{network_alike}
use Rattle.lapd_pair_laws.proofs.Whole.{each_move_preserves}
use Rattle.lapd_pair_laws.proofs.Worlds.{left_by}
use Rattle.lapd_recovery_laws.proofs.OneMoreFrame.{messages_beside, tally_beside, ready_beside, length_beside, ViewsBeside, seeing, delivered_beside}
use Rattle.lapd_recovery_laws.proofs.Lost.{final_of_peer, at, with_final, UserLost, LostParts, final_kinds, kinds_length, lost_so}

-- ---- A world after a move.

pub moved_user : (event : PairEvent) (w : World)
    → world_after w (happens Whole (user_move event) w)
    ≡ with_view side.User
    (left_by (view_of side.User w) (acts Whole side.User event (view_of side.User w))) w
unfolding happens
moved_user event w = after_by_user w (acts Whole side.User event (view_of side.User w))

abbrev pub seen_by_network : View → World → World
seen_by_network v w = swapped (with_view side.User v (swapped w))

pub moved_network : (event : PairEvent) (w : World)
    → world_after w (happens Whole (network_move event) w)
    ≡ seen_by_network (left_by (view_of side.User (swapped w))
    (acts Whole side.User event (view_of side.User (swapped w)))) w
moved_network event w = network_alike Whole event w ∙ ap swapped (moved_user event (swapped w))

-- ---- A side in state 8, from the invariant.

pub asked_of : (w : World) (i : IsInvariant w) → w.user.end.state ≡ TimerRecovery
    → is_7_or_8 w.network.end.state ≡ true
    → OneAsked i.user_base w.network.history.received (kinds w.to_network) (kinds w.to_user)
asked_of w i is open_peer =
    let x = party i.user_base w.user in
    let y = party i.network_base w.network in
    let out = kinds w.to_network in
    let back = kinds w.to_user in
    let m : Mid x y out back = enter x y out back (rw is refl) i.both in
    subst (λ o. OneAsked i.user_base w.network.history.received (frames_received o) back)
    (open_receives y out open_peer) (asked_in_8 x y out back is m)

-- with the final in transit it is in state 8
still_in_8 : (n : ℕ) (w : World) → Drains n (with_final w) → w.user.end.state ≡ TimerRecovery
still_in_8 n w d = by_state w.user.end.state refl (mine_open d.sees.flow)
  where
    more : tally final_of (kinds (w.to_user ++ final_of_peer w.network ∷ []))
        ≡ tally final_of (kinds w.to_user) + 1
    more =
        ap (λ ks. tally final_of ks) (final_kinds w.to_user w.network)
        ∙ tally_more final_of (Final w.network.end.window.vr) (kinds w.to_user)

    by_state : (state : State) → w.user.end.state ≡ state → is_7_or_8 state ≡ true
        → w.user.end.state ≡ TimerRecovery
    by_state TimerRecovery is opened = is
    by_state MultipleFrameEstablished is opened =
        let i = d.holds in
        let x = party i.user_base w.user in
        let y = party i.network_base w.network in
        let out = kinds w.to_network in
        let back = kinds (w.to_user ++ final_of_peer w.network ∷ []) in
        let m : Mid x y out back = enter x y out back (rw is refl) i.both in
        let none : tally final_of back ≡ 0 = (none_asked_in_7 x y out back is m).finals in
        absurd (omega (arith, none, more))
    by_state state is opened = cc

-- its weight is at least this
pub weight_in_8 : (x : Source) (y : Sink) (out back : List Kind) (n : ℕ) → x.state ≡ TimerRecovery
    → tally poll_of out ≡ 0 → Stream x y out back n → burden 0 x y ≤ n
weight_in_8 x y out back n is none s = by_stage s.stage s.so s.most
  where
    by_stage : (stage : Stage) → IsAt stage x y out back → weight stage x y ≤ n → burden 0 x y ≤ n
    by_stage Clean c most = let in_7 = c.in_7 in cc
    by_stage Waiting w most = let in_7 = w.0 in cc
    by_stage Polling w most = absurd (omega (arith, w.1, none))
    by_stage Answered w most = most

-- ---- A frame is delivered to the lost end.

beside : (x y : Station) (frame : Flight) (rest to_network : List Flight)
    → world_after (with_final (at x y (frame ∷ rest) to_network))
    (happens Whole (user_move Deliver) (with_final (at x y (frame ∷ rest) to_network)))
    ≡ with_final (world_after (at x y (frame ∷ rest) to_network)
    (happens Whole (user_move Deliver) (at x y (frame ∷ rest) to_network)))
unfolding happens acts delivers receives step view_after story_after
beside x y frame rest to_network = refl

pub lost_user_receives : (n : ℕ) (x y : Station) (frame : Flight)
    (rest to_network : List Flight) → UserLost n (at x y (frame ∷ rest) to_network)
    → UserLost (n - 1) (world_after (at x y (frame ∷ rest) to_network)
    (happens Whole (user_move Deliver) (at x y (frame ∷ rest) to_network)))
unfolding happens
lost_user_receives n x y frame rest to_network l =
    let w = at x y (frame ∷ rest) to_network in
    let more = rest ++ final_of_peer y ∷ [] in
    let now = world_after w (happens Whole (user_move Deliver) w) in
    let d = l.drains in
    let i = d.holds in
    let seen : Seen (n - 2 - 1) (left_by (view_of side.User (with_final w))
    (acts Whole side.User Deliver (view_of side.User (with_final w)))) y =
    seen_delivered x y frame more to_network (n - 2) i.user_base i.network_base i.both
    d.ends_settled.user d.sees in
    let there : Drains (n - 2 - 1)
    (world_after (with_final w) (happens Whole (user_move Deliver) (with_final w))) =
    record {
      holds = each_move_preserves (user_move Deliver) (with_final w) i;
      ends_settled = move_settles (user_move Deliver) (with_final w) d.ends_settled;
      sees =
          rw (after_by_user (with_final w)
          (acts Whole side.User Deliver (view_of side.User (with_final w)))) seen;
    } in
    let here : Drains (n - 2 - 1) (with_final now) =
    subst (λ v. Drains (n - 2 - 1) v) (beside x y frame rest to_network) there in
    let in_8 = still_in_8 (n - 2 - 1) now here in
    let fewer : n - 2 - 1 ≡ n - 1 - 2 = omega arith in
    record {
      holds = each_move_preserves (user_move Deliver) w l.holds;
      in_8 = in_8;
      two = let le = d.sees.flow.most in omega (arith, le);
      drains = subst (λ m. Drains m (with_final now)) fewer here;
    }

-- ---- A frame is delivered to its peer.

module _ (n : ℕ) (x y : Station) (back : List Flight) (frame : Flight)
    (rest : List Flight) (l : UserLost n (at x y back (frame ∷ rest))) where
  abbrev w : World
  w = at x y back (frame ∷ rest)

  abbrev f : Flight
  f = final_of_peer y

  abbrev with : View
  with =
      left_by (seeing y (frame ∷ rest) (back ++ f ∷ []))
      (acts Whole side.User Deliver (seeing y (frame ∷ rest) (back ++ f ∷ [])))

  abbrev without : View
  without =
      left_by (seeing y (frame ∷ rest) back)
      (acts Whole side.User Deliver (seeing y (frame ∷ rest) back))

  are : ViewsBeside f rest with without
  are = delivered_beside f y frame rest back

  d : Drains (n - 2) (swapped (with_final w))
  d = drains_swapped (n - 2) (with_final w) l.drains

  seen : Seen (n - 2 - 1) with x
  seen =
      seen_delivered y x frame rest (back ++ f ∷ []) (n - 2) d.holds.user_base d.holds.network_base
      d.holds.both d.ends_settled.user d.sees

  -- the world after it, without the final
  abbrev now : World
  now = at x with.station without.outgoing rest

  same : world_after w (happens Whole (network_move Deliver) w) ≡ now
  same =
      moved_network Deliver w ∙ ap (λ s. at x s without.outgoing without.incoming) are.station
      ∙ ap (λ r. at x with.station without.outgoing r) are.without_rest

  abbrev with_it : World
  with_it = at x with.station with.outgoing rest

  same_with_it : world_after (with_final w) (happens Whole (network_move Deliver) (with_final w))
      ≡ with_it
  same_with_it =
      moved_network Deliver (with_final w)
      ∙ ap (λ r. at x with.station with.outgoing r) are.with_rest

  holds_with_it : IsInvariant with_it
  holds_with_it =
      subst IsInvariant same_with_it
      (each_move_preserves (network_move Deliver) (with_final w) l.drains.holds)

  asked : OneAsked holds_with_it.user_base with.station.history.received (kinds rest)
      (kinds with.outgoing)
  asked = asked_of with_it holds_with_it l.in_8 (mine_open seen.flow)

  finals : tally final_of (kinds with.outgoing) ≡ tally final_of (kinds without.outgoing) + 1
  finals =
      let b = are.outgoing in
      ap (λ fs. tally final_of (kinds fs)) b.has ∙ tally_beside final_of f b.front b.back
      ∙ ap (λ fs. tally final_of (kinds fs) + 1) (sym b.lacks)

  polls : tally poll_of (kinds with.outgoing) ≡ tally poll_of (kinds without.outgoing)
  polls =
      let b = are.outgoing in
      let same_polls = tally_beside poll_of f b.front b.back in
      ap (λ fs. tally poll_of (kinds fs)) b.has ∙ omega (arith, same_polls)
      ∙ ap (λ fs. tally poll_of (kinds fs)) (sym b.lacks)

  same_messages : messages (kinds with.outgoing) ≡ messages (kinds without.outgoing)
  same_messages =
      let b = are.outgoing in
      ap (λ fs. messages (kinds fs)) b.has ∙ messages_beside f b.front b.back refl
      ∙ ap (λ fs. messages (kinds fs)) (sym b.lacks)

  one_less : length (kinds with.outgoing) ≡ length without.outgoing + 1
  one_less =
      let b = are.outgoing in
      let len = length_beside f b.front b.back in
      let k = kinds_length (b.front ++ b.back) in
      ap (λ fs. length (kinds fs)) b.has ∙ omega (arith, len, k)
      ∙ ap (λ fs. length fs + 1) (sym b.lacks)

  its : Stream (source with.station.end) (sink x.end) (kinds without.outgoing) (kinds rest)
      seen.flow.a
  its =
      speaks.as_sent (source with.station.end) (sink x.end) (kinds with.outgoing) (kinds rest)
      (kinds without.outgoing) (kinds rest) seen.flow.a (sym same_messages) (sym polls) refl refl
      refl
      (subst (λ r. Stream (source with.station.end) (sink x.end) (kinds with.outgoing) (kinds r)
      seen.flow.a) are.with_rest seen.flow.mine)

  theirs : Stream (source x.end) (sink with.station.end) (kinds rest) (kinds with.outgoing)
      seen.flow.b
  theirs =
      subst (λ r. Stream (source x.end) (sink with.station.end) (kinds r) (kinds with.outgoing)
      seen.flow.b) are.with_rest seen.flow.its

  parts : LostParts (n - 1) now
  parts = record {
    holds = subst IsInvariant same (each_move_preserves (network_move Deliver) w l.holds);
    ends_settled =
        subst AreSettledEnds same (move_settles (network_move Deliver) w
        (record {
          user = l.drains.ends_settled.user;
          network = l.drains.ends_settled.network;
        }));
    in_8 = l.in_8;
    peer_open = mine_open seen.flow;
    lost = record {
      polls = let one = asked.one in omega (arith, one, finals);
      finals = let one = asked.one in omega (arith, one, finals);
      no_message = asked.alone (omega (arith, finals));
    };
    b = seen.flow.a;
    its = its;
    idle = seen.its_idle;
    its_idle = seen.idle;
    proceeding = subst AreReady are.with_rest seen.arriving;
    arriving =
        let b = are.outgoing in
        subst AreReady (sym b.lacks)
        (ready_beside f b.front b.back (subst AreReady b.has seen.proceeding));
    most =
        let le = seen.flow.most in
        let one = asked.one in
        let heavy =
        weight_in_8 (source x.end) (sink with.station.end) (kinds rest)
        (kinds with.outgoing) seen.flow.b l.in_8 (omega (arith, one, finals)) theirs in
        let len = ap (λ r. length (kinds r)) are.with_rest in
        let k = kinds_length rest in
        omega (arith, le, heavy, one_less, len, k);
  }

  pub lost_peer_receives : UserLost (n - 1)
      (world_after w (happens Whole (network_move Deliver) w))
  lost_peer_receives =
      subst (λ v. UserLost (n - 1) v) (sym same) (lost_so (n - 1) now parts)
