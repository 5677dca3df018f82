-- An open line with no frame in transit drains from its start, and where it rests its ends agree.
use Rattle.std.proofs.Common.{◌≡◌, inl, inr, ℕ, ◌+◌, ◌≤◌, Bool, true, false, List, [], ◌∷◌, refl, sym, arith}
use Rattle.lapd_mod128.specs.Counting.{Whole}
use Rattle.lapd_link_definition.specs.declared.state.State.{State}
use Rattle.lapd_link_definition.specs.declared.state.State.TheVariants.{MultipleFrameEstablished, TimerRecovery}
use Rattle.lapd_link_definition.specs.EndOfStep.{is_7_or_8}
use Rattle.lapd_link_definition.specs.End.{End}
use Rattle.lapd_pair_laws.specs.Consistent.{IsConsistentWorld}
use Rattle.lapd_pair_laws.specs.Line.{Flight}
use Rattle.lapd_pair_laws.specs.Move.{Station}
use Rattle.lapd_pair_laws.specs.World.{World, swapped}
use Rattle.lapd_pair_laws.specs.Invariant.{IsInvariant}
use Rattle.lapd_pair_laws.specs.Timed.{AreSettledEnds}
use Rattle.lapd_pair_laws.proofs.Drains.{Drains}
use Rattle.lapd_pair_laws.proofs.Flow.{source, sink, Stage, Clean, Waiting, Polling, Answered, IsAt, IsInTransit, burden, Stream}
use Rattle.lapd_pair_laws.proofs.Settles.{IsStill, Ends, nothing_left}
use Rattle.lapd_pair_laws.proofs.Stepping.{next_none}
use Rattle.lapd_pair_laws.proofs.Worlds.{exchanged}
use Rattle.lapd_pair_laws.proofs.SenderStream.{in_transit_none}
use Rattle.lapd_recovery_laws.specs.Agreed.{IsLevel, AreAgreed}
use Rattle.lapd_recovery_laws.proofs.AnyOrder.{Draining}
use Rattle.lapd_recovery_laws.proofs.Lost.{at, UserLost, lost_so}
use Rattle.lapd_recovery_laws.proofs.LostExpires.{BothLost}

-- ---- The remaining work at the start.

pub same_in_transit : (rejecting : Bool) (low end : ℕ) → low ≡ end
    → IsInTransit rejecting low end []
same_in_transit false low end same = same
same_in_transit true low end same = same

module _ (x y : Station) (i : IsInvariant (at x y [] []))
    (ends_settled : AreSettledEnds (at x y [] []))
    (x_opened : is_7_or_8 x.end.state ≡ true) (y_opened : is_7_or_8 y.end.state ≡ true)
    (x_free : x.end.window.own_busy ≡ false) (y_free : y.end.window.own_busy ≡ false)
    (a b n : ℕ)
    (stream_x : x.end.state ≡ MultipleFrameEstablished → Stream (source x.end) (sink y.end) [] [] a)
    (stream_y : y.end.state ≡ MultipleFrameEstablished → Stream (source y.end) (sink x.end) [] [] b)
    (burden_x : burden 3 (source x.end) (sink y.end) ≤ a)
    (burden_y : burden 3 (source y.end) (sink x.end) ≤ b) (all : a + b ≤ n) where
  abbrev begun : World
  begun = at x y [] []

  both_in_7 : x.end.state ≡ MultipleFrameEstablished → y.end.state ≡ MultipleFrameEstablished
      → Drains n begun
  both_in_7 is its_is = record {
    holds = i;
    ends_settled = ends_settled;
    sees = record {
      flow = record {
        a = a;
        b = b;
        mine = stream_x is;
        its = stream_y its_is;
        most = let le = all in omega (arith, le);
      };
      idle = x_free;
      its_idle = y_free;
      proceeding = tt;
      arriving = tt;
    };
  }

  user_in_8 : x.end.state ≡ TimerRecovery → y.end.state ≡ MultipleFrameEstablished
      → UserLost n begun
  user_in_8 is its_is = lost_so n begun (record {
    holds = i;
    ends_settled = ends_settled;
    in_8 = is;
    peer_open = y_opened;
    lost = record { polls = refl; finals = refl; no_message = refl };
    b = b;
    its = stream_y its_is;
    idle = x_free;
    its_idle = y_free;
    proceeding = tt;
    arriving = tt;
    most = let le = all in let heavy = burden_x in omega (arith, le, heavy);
  })

  network_in_8 : x.end.state ≡ MultipleFrameEstablished → y.end.state ≡ TimerRecovery
      → UserLost n (swapped begun)
  network_in_8 is its_is = lost_so n (swapped begun) (record {
    holds = exchanged begun i;
    ends_settled = record { user = ends_settled.network; network = ends_settled.user };
    in_8 = its_is;
    peer_open = x_opened;
    lost = record { polls = refl; finals = refl; no_message = refl };
    b = a;
    its = stream_x is;
    idle = y_free;
    its_idle = x_free;
    proceeding = tt;
    arriving = tt;
    most = let le = all in let heavy = burden_y in omega (arith, le, heavy);
  })

  both_in_8 : x.end.state ≡ TimerRecovery → y.end.state ≡ TimerRecovery → BothLost n begun
  both_in_8 is its_is = record {
    to_user = refl;
    to_network = refl;
    holds = i;
    ends_settled = ends_settled;
    user_in_8 = is;
    network_in_8 = its_is;
    user_idle = x_free;
    network_idle = y_free;
    most =
        let le = all in
        let heavy = burden_x in let heavy_too = burden_y in omega (arith, le, heavy, heavy_too);
  }

  pub draining_from : Draining n begun
  draining_from = by_states x.end.state y.end.state refl refl x_opened y_opened
    where
      by_states : (one other : State) → x.end.state ≡ one → y.end.state ≡ other
          → is_7_or_8 one ≡ true → is_7_or_8 other ≡ true → Draining n begun
      by_states MultipleFrameEstablished MultipleFrameEstablished is its_is o p =
          inl (both_in_7 is its_is)
      by_states TimerRecovery MultipleFrameEstablished is its_is o p =
          inr (inl (user_in_8 is its_is))
      by_states MultipleFrameEstablished TimerRecovery is its_is o p =
          inr (inr (inl (network_in_8 is its_is)))
      by_states TimerRecovery TimerRecovery is its_is o p = inr (inr (inr (both_in_8 is its_is)))
      by_states one other is its_is o p = cc

-- ---- The world at the end.

level_so : (x y : End) (a : ℕ) → Stream (source x) (sink y) [] [] a → x.t200 ≡ false → IsLevel x y
level_so x y a s off = by_stage s.stage s.so
  where
    by_stage : (stage : Stage) → IsAt stage (source x) (sink y) [] [] → IsLevel x y
    by_stage Clean c = record {
      established = c.in_7;
      acknowledged = sym (c.timed off);
      received = in_transit_none y.window.rejecting y.window.vr x.window.vs c.arriving;
    }
    by_stage Waiting w = let on = w.1 in cc
    by_stage Polling w = absurd (omega (arith, w.1))
    by_stage Answered w = absurd (omega (arith, w.1))

agreed_at : (n : ℕ) (x y : Station) → IsConsistentWorld Whole (at x y [] []) → Drains n (at x y [] [])
    → x.end.t200 ≡ false → y.end.t200 ≡ false → AreAgreed (at x y [] [])
agreed_at n x y preserved d off none =
    let w = at x y [] [] in
    let still : IsStill w =
    record { to_user = refl; to_network = refl; user = off; network = none } in
    let ends : Ends w w =
    record {
      n = n;
      drains = d;
      runs_at_place = record { is = next_none Whole x y off none; still = still };
      preserved = record { user = refl; network = refl };
    } in
    record {
      to_user = refl;
      to_network = refl;
      empty = nothing_left w w preserved ends;
      user_stopped = off;
      network_stopped = none;
      ends = inr (record {
        mine = level_so x.end y.end d.sees.flow.a d.sees.flow.mine off;
        its = level_so y.end x.end d.sees.flow.b d.sees.flow.its none;
      });
    }

pub drained_agree : (n : ℕ) (x y : Station) (to_user to_network : List Flight)
    → IsConsistentWorld Whole (at x y to_user to_network) → Drains n (at x y to_user to_network)
    → IsStill (at x y to_user to_network) → AreAgreed (at x y to_user to_network)
drained_agree n x y [] [] preserved d still =
    agreed_at n x y preserved d still.user still.network
drained_agree n x y (frame ∷ rest) to_network preserved d still = let none = still.to_user in cc
drained_agree n x y [] (frame ∷ rest) preserved d still = let none = still.to_network in cc
