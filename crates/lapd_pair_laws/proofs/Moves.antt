-- A move of either side, and a run of moves.
use Rattle.std.proofs.Common.{◌≡◌, ℕ, nat_lt, List, [], ◌∷◌, length, Result, Ok, Err, refl}
use Rattle.lapd_frame.specs.declared.Side.{Side}
use Rattle.lapd_frame.specs.declared.Side.TheVariants as side
use Rattle.lapd_mod128.specs.Counting.{Whole}
use Rattle.lapd_pair_laws.specs.Move.{PairEvent, Lose, Move, Station, ViewStep, Refusal, acts, loses}
use Rattle.lapd_pair_laws.specs.World.{World, swapped, view_of, with_view, in_world, world_after, happens, run}
use Rattle.lapd_pair_laws.proofs.Swaps.{network_alike}
use Rattle.lapd_pair_laws.specs.Kinds.{kinds}
use Rattle.lapd_pair_laws.specs.Parties.{party}
use Rattle.lapd_pair_laws.specs.Invariant.{IsInvariant}
use Rattle.lapd_pair_laws.proofs.Lists.{by_test}
use Rattle.lapd_pair_laws.proofs.Losses.{both_less}
use Rattle.lapd_pair_laws.proofs.Parts.{part_whole, part_lost}
use Rattle.lapd_pair_laws.proofs.EndsPreserved.{Left, stays_sound}
use Rattle.lapd_pair_laws.proofs.Worlds.{Holds, Preserves, left_by, exchanged}

-- a frame is lost
pub preserves_lose : (at : ℕ) → Preserves (Lose at)
unfolding acts loses
preserves_lose at v peer small h =
    by_test (λ (r : Result ViewStep Refusal). Holds (left_by v r) peer)
    (nat_lt at (length v.incoming)) _ _
    (λ _. record {
      base = h.base;
      its_base = h.its_base;
      both =
          both_less (party h.base v.station) (party h.its_base peer)
          (part_whole (kinds v.outgoing)) (part_lost at v.incoming) h.both;
    }) (λ _. h)

-- ---- Moves.

pub after_by_user : (w : World) (r : Result ViewStep Refusal)
    → world_after w (in_world side.User w r)
    ≡ with_view side.User (left_by (view_of side.User w) r) w
after_by_user w (Ok acted) = refl
after_by_user w (Err refusal) = refl

after_by_network : (w : World) (r : Result ViewStep Refusal)
    → world_after w (in_world side.Network w r)
    ≡ swapped (world_after (swapped w) (in_world side.User (swapped w) r))
after_by_network w (Ok acted) = refl
after_by_network w (Err refusal) = refl

-- a move of a side keeps the invariant of its view
abbrev pub PreservesSeen : Side → World → Result ViewStep Refusal → Type 0
PreservesSeen who w r =
    (peer : Station) → Holds (view_of who w) peer → Holds (left_by (view_of who w) r) peer

pub user_preserves : (w : World) (r : Result ViewStep Refusal) → IsInvariant w
    → PreservesSeen side.User w r → Left (view_of side.User w) r
    → IsInvariant (world_after w (in_world side.User w r))
user_preserves w r i preserves sound =
    let after : Holds (left_by (view_of side.User w) r) w.network =
    preserves w.network
    (record { base = i.user_base; its_base = i.network_base; both = i.both }) in
    rw (after_by_user w r) (record {
      user_base = after.base;
      network_base = after.its_base;
      both = after.both;
      user_sound = sound.sound;
      network_sound = i.network_sound;
      user_window = rw sound.parameters i.user_window;
      network_window = i.network_window;
    })

pub side_preserves : (who : Side) (w : World) (r : Result ViewStep Refusal) → IsInvariant w
    → PreservesSeen who w r → Left (view_of who w) r
    → IsInvariant (world_after w (in_world who w r))
side_preserves side.User w r i preserves sound = user_preserves w r i preserves sound
side_preserves side.Network w r i preserves sound =
    rw (after_by_network w r) (exchanged
    (world_after (swapped w) (in_world side.User (swapped w) r))
    (user_preserves (swapped w) r (exchanged w i) preserves sound))

-- a move of the user, and one of the network
user_event_preserves : (event : PairEvent) → Preserves event → (w : World) → IsInvariant w
    → IsInvariant (world_after w (happens Whole (record { side = side.User; event = event }) w))
unfolding happens
user_event_preserves event preserves w i =
    let v = view_of side.User w in
    user_preserves w (acts Whole side.User event v) i (λ peer h. preserves v peer i.user_window h)
    (stays_sound v i.user_window i.user_sound event)

network_event_preserves : (event : PairEvent) → Preserves event → (w : World) → IsInvariant w
    → IsInvariant (world_after w (happens Whole (record { side = side.Network; event = event }) w))
network_event_preserves event preserves w i =
    rw (network_alike Whole event w) (exchanged
    (world_after (swapped w)
    (happens Whole (record { side = side.User; event = event }) (swapped w)))
    (user_event_preserves event preserves (swapped w) (exchanged w i)))

pub move_preserves : (who : Side) (event : PairEvent) → Preserves event → (w : World)
    → IsInvariant w
    → IsInvariant (world_after w (happens Whole (record { side = who; event = event }) w))
move_preserves side.User event preserves w i = user_event_preserves event preserves w i
move_preserves side.Network event preserves w i = network_event_preserves event preserves w i

pub run_preserves : ((event : PairEvent) → Preserves event) → (moves : List Move) (w : World)
    → IsInvariant w → IsInvariant (run Whole moves w)
run_preserves preserves [] w i = i
run_preserves preserves (move ∷ moves) w i =
    run_preserves preserves moves (world_after w (happens Whole move w))
    (move_preserves move.side move.event (preserves move.event) w i)
