-- From one side's view to the whole world: a move of one side, a move of either, and a run of
-- moves.
use Rattle.std.proofs.Common.{ℕ, ◌+◌, ◌≤◌, List, ◌∷◌, [], Result, Ok, Err, refl, arith}
use Rattle.lapd_frame.specs.declared.Side.TheVariants as side
use Rattle.lapd_mod128.specs.Counting.{Whole}
use Rattle.lapd_link_definition.specs.Parameters.{Parameters}
use Rattle.lapd_link_definition.proofs.Soundness.{sound_new}
use Rattle.lapd_pair_laws.specs.Histories.{Receipt}
use Rattle.lapd_pair_laws.specs.Move.{PairEvent, Station, View, ViewStep, Refusal, acts}
use Rattle.lapd_pair_laws.specs.Safe.{AreSafe, IsSafeFrom}
use Rattle.lapd_pair_laws.specs.World.{World, swapped, new_station, new_world}
use Rattle.lapd_pair_laws.proofs.Places as places
use Rattle.lapd_pair_laws.proofs.Places.{safe_by_places}
use Rattle.lapd_pair_laws.specs.Kinds.{kinds}
use Rattle.lapd_pair_laws.specs.Parties.{party}
use Rattle.lapd_pair_laws.specs.Conjuncts.{AreGiven, IsRow, AreHistories}
use Rattle.lapd_pair_laws.specs.Invariant.{Half, Both, IsInvariant}

-- ---- The view of a side.

-- the invariant of one side's view, and of the other side
pub record Holds (v : View) (peer : Station) : Type 0 where
  pub base : ℕ
  pub its_base : ℕ
  pub both : Both (party base v.station) (party its_base peer) (kinds v.outgoing) (kinds v.incoming)

-- the view after a move
abbrev pub left_by : View → Result ViewStep Refusal → View
left_by v (Ok acted) = acted.view
left_by v (Err refusal) = v

-- a move keeps the invariant
abbrev pub Preserves : PairEvent → Type 0
Preserves event =
    (v : View) (peer : Station) → v.station.end.parameters.k ≤ 127 → Holds v peer
    → Holds (left_by v (acts Whole side.User event v)) peer

-- ---- The two sides exchanged.

pub exchanged : (w : World) → IsInvariant w → IsInvariant (swapped w)
exchanged w i = record {
  user_base = i.network_base;
  network_base = i.user_base;
  both = record { mine = i.both.its; its = i.both.mine };
  user_sound = i.network_sound;
  network_sound = i.user_sound;
  user_window = i.network_window;
  network_window = i.user_window;
}

-- ---- Safe.

given_so : (given : List (List ℕ)) (received : List Receipt) → AreGiven given received
    → places.AreGiven given received
given_so given [] are = tt
given_so given (message ∷ received) are = (are.0, given_so given received are.1)

row_so : (next establishment : ℕ) (received : List Receipt) → IsRow next establishment received
    → places.IsRow next establishment received
row_so next establishment [] row = tt
row_so next establishment (message ∷ received) row =
    (row.0, row.1, row_so (message.place + 1) message.establishment received row.2)

safe_so : (sender receiver : Station)
    → AreHistories sender.end.given sender.history.sent_in sender.history.acked
    receiver.history.received → IsSafeFrom sender receiver
safe_so sender receiver h =
    safe_by_places sender.end.given sender.history.sent_in sender.history.acked
    receiver.history.received (given_so sender.end.given receiver.history.received h.as_given)
    (row_so 0 0 receiver.history.received h.row) h.prefix h.arrived

pub safe_by_invariant : (w : World) → IsInvariant w → AreSafe w
safe_by_invariant w i =
    (safe_so w.user w.network i.both.mine.histories, safe_so w.network w.user i.both.its.histories)

-- ---- A new world.

pub new_holds : (user network : Parameters) → user.k ≤ 127 → network.k ≤ 127
    → IsInvariant (new_world user network)
new_holds user network u n = record {
  user_base = 0;
  network_base = 0;
  both = record { mine = new_side user network; its = new_side network user };
  user_sound = sound_new Whole user;
  network_sound = sound_new Whole network;
  user_window = u;
  network_window = n;
}
  where
    new_side : (x y : Parameters) → Half (party 0 (new_station x)) (party 0 (new_station y)) [] []
    new_side x y = record {
      preserved = record { first = refl; next = refl };
      passed = refl;
      past = λ place era sent. cc;
      lately = omega arith;
      none_yet = λ opened. cc;
      below = λ holding. cc;
      reception = tt;
      exchange = record { one = omega arith; behind = tt; before = λ answer. refl; clean = refl };
      histories = record {
        as_given = tt;
        row = tt;
        prefix = λ place smaller has less same. has;
        arrived = λ place among. among;
      };
    }
