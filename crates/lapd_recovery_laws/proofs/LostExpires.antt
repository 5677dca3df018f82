-- T200 expires on an empty line, at a lost end or at its peer.
use Rattle.std.proofs.Common.{◌≡◌, ◌⊎◌, inl, inr, ℕ, ◌+◌, ◌-◌, ◌≤◌, nat_lt, true, false, List, [], ◌∷◌, Result, refl, sym, ap, subst, arith}
use Rattle.lapd_frame.specs.declared.Side.TheVariants as side
use Rattle.lapd_mod128.specs.Counting.{Whole}
use Rattle.lapd_link_definition.specs.declared.state.State.TheVariants.{MultipleFrameEstablished, TimerRecovery}
use Rattle.lapd_link_definition.specs.Table.{step}
use Rattle.lapd_pair_laws.specs.Move.{Expire200, Station, View, ViewStep, Refusal, acts, takes, expires_200, view_after}
use Rattle.lapd_pair_laws.specs.World.{World, swapped, view_of, with_view, world_after, happens}
use Rattle.lapd_pair_laws.specs.Kinds.{Kind, Final, kinds, messages, tally, poll_of, final_of}
use Rattle.lapd_pair_laws.specs.Conjuncts.{OneAsked}
use Rattle.lapd_pair_laws.specs.Invariant.{IsInvariant}
use Rattle.lapd_pair_laws.specs.Timed.{AreSettledEnds}
use Rattle.lapd_pair_laws.proofs.Drains.{Seen, Drains, mine_open}
use Rattle.lapd_pair_laws.proofs.DrainsByT200.{seen_expired}
use Rattle.lapd_pair_laws.proofs.Flow.{Sink, source, sink, Stage, Clean, Waiting, Polling, Answered, IsAt, burden, weight, Stream}
use Rattle.lapd_pair_laws.proofs.Lists.{by_test}
use Rattle.lapd_pair_laws.proofs.SettledEnds.{move_settles}
use Rattle.lapd_pair_laws.proofs.SenderStream as speaks
use Rattle.lapd_pair_laws.proofs.Stepping.{user_move, network_move}
use Rattle.lapd_pair_laws.proofs.Whole.{each_move_preserves}
use Rattle.lapd_pair_laws.proofs.Worlds.{left_by, exchanged}
use Rattle.lapd_recovery_laws.proofs.OneMoreFrame.{seeing}
use Rattle.lapd_recovery_laws.proofs.Lost.{at, UserLost, kinds_length, lost_so}
use Rattle.lapd_recovery_laws.proofs.LostMoves.{moved_user, moved_network, seen_by_network, asked_of, weight_in_8}
use Rattle.lapd_recovery_laws.proofs.Retry.{Retries, seen_retried}

-- ---- A lost end, as its peer's stream sees it: it waits for T200.

abbrev pub stand_in : Station → Station
stand_in x = record x {
  end
      = record (x.end) {
        state = MultipleFrameEstablished;
        t200 = true;
        window = record (x.end.window) { peer_busy = true };
      };
}

waits : (x : Station) (y : Sink) (out back : List Kind)
    → Stream (source (stand_in x).end) y out back (burden 3 (source x.end) y)
waits x y out back = record { stage = Waiting; so = (refl, refl); most = omega arith }

still_waits : (x : Station) (y : Sink) (out back : List Kind) (n : ℕ)
    → Stream (source (stand_in x).end) y out back n → burden 3 (source x.end) y ≤ n
still_waits x y out back n s = by_stage s.stage s.so s.most
  where
    by_stage : (stage : Stage) → IsAt stage (source (stand_in x).end) y out back
        → weight stage (source (stand_in x).end) y ≤ n → burden 3 (source x.end) y ≤ n
    by_stage Clean c most = let free = c.free in cc
    by_stage Waiting w most = most
    by_stage Polling w most = let in_8 = w.0 in cc
    by_stage Answered w most = let in_8 = w.0 in cc

none_or_one : (n : ℕ) → n ≤ 1 → (n ≡ 0) ⊎ (n ≡ 1)
none_or_one n few = grind (arith, few)

-- The peer of the lost user has moved. The frames in transit to the user may have a final.
pub peer_moved : (n : ℕ) (w : World) → IsInvariant w → AreSettledEnds w
    → w.user.end.state ≡ TimerRecovery
    → w.to_network ≡ []
    → Seen n (view_of side.Network w) (stand_in w.user) → UserLost n w ⊎ Drains n w
peer_moved n w i ends_settled in_8 none s =
    by_finals
    (none_or_one (tally final_of (kinds w.to_user)) (let one = asked.one in omega (arith, one)))
  where
    x : Station
    x = w.user

    y : Station
    y = w.network

    asked : OneAsked i.user_base w.network.history.received (kinds w.to_network) (kinds w.to_user)
    asked = asked_of w i in_8 (mine_open s.flow)

    heavy : burden 3 (source x.end) (sink y.end) ≤ s.flow.b
    heavy = still_waits x (sink y.end) (kinds w.to_network) (kinds w.to_user) s.flow.b s.flow.its

    by_finals : (tally final_of (kinds w.to_user) ≡ 0) ⊎ (tally final_of (kinds w.to_user) ≡ 1)
        → UserLost n w ⊎ Drains n w
    by_finals (inl lost) = inl (lost_so n w (record {
      holds = i;
      ends_settled = ends_settled;
      in_8 = in_8;
      peer_open = mine_open s.flow;
      lost = record {
        polls = ap (λ fs. tally poll_of (kinds fs)) none;
        finals = lost;
        no_message = ap (λ fs. messages (kinds fs)) none;
      };
      b = s.flow.a;
      its = s.flow.mine;
      idle = s.its_idle;
      its_idle = s.idle;
      proceeding = s.arriving;
      arriving = s.proceeding;
      most =
          let le = s.flow.most in
          let l = kinds_length w.to_user in
          let k = kinds_length w.to_network in omega (arith, le, heavy, l, k);
    }))
    by_finals (inr one) = inr (record {
      holds = i;
      ends_settled = ends_settled;
      sees = record {
        flow = record {
          a = burden 0 (source x.end) (sink y.end);
          b = s.flow.a;
          mine = record { stage = Answered; so = (in_8, one); most = omega arith };
          its = s.flow.mine;
          most = let le = s.flow.most in omega (arith, le, heavy);
        };
        idle = s.its_idle;
        its_idle = s.idle;
        proceeding = s.arriving;
        arriving = s.proceeding;
      };
    })

-- T200 alone brings nothing to the side
nothing_comes : (x : Station)
    → (left_by (seeing x [] []) (acts Whole side.User Expire200 (seeing x [] []))).incoming ≡ []
unfolding acts expires_200 takes step view_after
nothing_comes x =
    by_test (λ (o : Result ViewStep Refusal). (left_by (seeing x [] []) o).incoming ≡ []) x.end.t200
    _ _ (λ _. refl) (λ _. refl)

abbrev expired_at : Station → View
expired_at x = left_by (seeing x [] []) (acts Whole side.User Expire200 (seeing x [] []))

-- ---- One end is lost.

module _ (n : ℕ) (x y : Station) (l : UserLost n (at x y [] [])) where
  abbrev w : World
  w = at x y [] []

  pub stream : Stream (source y.end) (sink x.end) [] [] l.drains.sees.flow.b
  stream =
      speaks.as_sent (source y.end) (sink x.end) (Final y.end.window.vr ∷ []) [] [] []
      l.drains.sees.flow.b refl refl refl refl refl l.drains.sees.flow.its

  heavy : burden 0 (source x.end) (sink y.end) ≤ l.drains.sees.flow.a
  heavy =
      weight_in_8 (source x.end) (sink y.end) [] (Final y.end.window.vr ∷ []) l.drains.sees.flow.a
      l.in_8 refl l.drains.sees.flow.mine

  ends : AreSettledEnds w
  ends = record { user = l.drains.ends_settled.user; network = l.drains.ends_settled.network }

  -- T200 of the lost user expires: it polls
  retries : nat_lt x.end.rc x.end.parameters.n200 ≡ true → Retries x.end y.end (n - 1)
  retries tries = record {
    in_8 = l.in_8;
    tries = tries;
    idle = l.drains.sees.idle;
    b = l.drains.sees.flow.b;
    its = stream;
    most =
        let le = l.drains.sees.flow.most in let two = l.two in omega (arith, le, two, heavy);
  }

  pub lost_user_expires : x.end.t200 ≡ true → nat_lt x.end.rc x.end.parameters.n200 ≡ true
      → Drains (n - 1) (world_after w (happens Whole (user_move Expire200) w))
  lost_user_expires on tries =
      let same = moved_user Expire200 w in
      subst (λ v. Drains (n - 1) v) (sym same) (record {
        holds = subst IsInvariant same (each_move_preserves (user_move Expire200) w l.holds);
        ends_settled = subst AreSettledEnds same (move_settles (user_move Expire200) w ends);
        sees = seen_retried x y (n - 1) on l.drains.sees.its_idle (retries tries);
      })

  -- T200 of its peer expires
  stands_in : Seen n (seeing y [] []) (stand_in x)
  stands_in = record {
    flow = record {
      a = l.drains.sees.flow.b;
      b = burden 3 (source x.end) (sink y.end);
      mine = stream;
      its = waits x (sink y.end) [] [];
      most = let le = l.drains.sees.flow.most in let two = l.two in omega (arith, le, two, heavy);
    };
    idle = l.drains.sees.its_idle;
    its_idle = l.drains.sees.idle;
    proceeding = tt;
    arriving = tt;
  }

  pub lost_peer_expires : y.end.t200 ≡ true
      → UserLost (n - 1) (world_after w (happens Whole (network_move Expire200) w))
      ⊎ Drains (n - 1) (world_after w (happens Whole (network_move Expire200) w))
  lost_peer_expires on =
      let same = moved_network Expire200 w in
      subst (λ v. UserLost (n - 1) v ⊎ Drains (n - 1) v) (sym same)
      (peer_moved (n - 1) (seen_by_network (expired_at y) w)
      (subst IsInvariant same (each_move_preserves (network_move Expire200) w l.holds))
      (subst AreSettledEnds same (move_settles (network_move Expire200) w ends)) l.in_8
      (nothing_comes y)
      (seen_expired y (stand_in x) n on stands_in))

-- ---- Both ends are lost.

pub record BothLost (n : ℕ) (w : World) : Type 0 where
  pub to_user : w.to_user ≡ []
  pub to_network : w.to_network ≡ []
  pub holds : IsInvariant w
  pub ends_settled : AreSettledEnds w
  pub user_in_8 : w.user.end.state ≡ TimerRecovery
  pub network_in_8 : w.network.end.state ≡ TimerRecovery
  pub user_idle : w.user.end.window.own_busy ≡ false
  pub network_idle : w.network.end.window.own_busy ≡ false
  pub most : burden 3 (source w.user.end) (sink w.network.end)
      + burden 3 (source w.network.end) (sink w.user.end) ≤ n

pub both_swapped : (n : ℕ) (w : World) → BothLost n w
    → BothLost n (swapped w)
both_swapped n w l = record {
  to_user = l.to_network;
  to_network = l.to_user;
  holds = exchanged w l.holds;
  ends_settled = record { user = l.ends_settled.network; network = l.ends_settled.user };
  user_in_8 = l.network_in_8;
  network_in_8 = l.user_in_8;
  user_idle = l.network_idle;
  network_idle = l.user_idle;
  most = let le = l.most in omega (arith, le);
}

module _ (n : ℕ) (x y : Station) (l : BothLost n (at x y [] []))
    (on : x.end.t200 ≡ true) (tries : nat_lt x.end.rc x.end.parameters.n200 ≡ true) where
  abbrev both : World
  both = at x y [] []

  both_retries : Retries x.end (stand_in y).end (n - 1)
  both_retries = record {
    in_8 = l.user_in_8;
    tries = tries;
    idle = l.user_idle;
    b = burden 3 (source y.end) (sink x.end);
    its = waits y (sink x.end) [] [];
    most = let le = l.most in omega (arith, le);
  }

  -- T200 of the user expires: the other stays lost, unless an answer to it is in transit
  pub both_lost_expires : UserLost (n - 1)
      (swapped (world_after both (happens Whole (user_move Expire200) both)))
      ⊎ Drains (n - 1) (swapped (world_after both (happens Whole (user_move Expire200) both)))
  both_lost_expires =
      let same = moved_user Expire200 both in
      let now = with_view side.User (expired_at x) both in
      let ends =
      subst AreSettledEnds same (move_settles (user_move Expire200) both l.ends_settled) in
      subst (λ v. UserLost (n - 1) (swapped v) ⊎ Drains (n - 1) (swapped v)) (sym same)
      (peer_moved (n - 1) (swapped now)
      (exchanged now
      (subst IsInvariant same (each_move_preserves (user_move Expire200) both l.holds)))
      (record { user = ends.network; network = ends.user }) l.network_in_8
      (nothing_comes x)
      (seen_retried x (stand_in y) (n - 1) on l.network_idle both_retries))
