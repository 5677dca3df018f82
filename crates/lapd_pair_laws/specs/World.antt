-- The world: the two ends of a data link with their histories, the line between them in both
-- directions, and the runs of moves over them.
use Rattle.std.specs.Prelude.{ℕ, ◌+◌, ◌==◌, not, ◌&&◌, List, [], ◌∷◌, length, Result, Ok, Err}
use Rattle.std.specs.List.{filter, list_any, range_with_len}
use Rattle.lapd_frame.specs.declared.Side.{Side}
use Rattle.lapd_frame.specs.declared.Side.TheVariants as side
use Rattle.lapd_mod128.specs.Counting.{Reading}
use Rattle.lapd_link_definition.specs.declared.out.Out.{Out}
use Rattle.lapd_link_definition.specs.End.{new_end}
use Rattle.lapd_link_definition.specs.Parameters.{Parameters}
use Rattle.lapd_pair_laws.specs.Histories.{new_history}
use Rattle.lapd_pair_laws.specs.Line.{Flight}
use Rattle.lapd_pair_laws.specs.Move.{Move, Refusal, Station, View, ViewStep, acts}

pub record World : Type 0 where
  pub user : Station
  pub network : Station
  pub to_user : List Flight
  pub to_network : List Flight

-- new ends, and an empty line
abbrev pub new_station : Parameters → Station
new_station parameters = record { end = new_end parameters; history = new_history }

abbrev pub new_world : Parameters → Parameters → World
new_world user_parameters network_parameters = record {
  user = new_station user_parameters;
  network = new_station network_parameters;
  to_user = [];
  to_network = [];
}

-- the two sides exchanged
abbrev pub swapped : World → World
swapped w = record {
  user = w.network;
  network = w.user;
  to_user = w.to_network;
  to_network = w.to_user;
}

-- what a side sees of the world
abbrev pub view_of : Side → World → View
view_of side.User w = record { station = w.user; incoming = w.to_user; outgoing = w.to_network }
view_of side.Network w = record {
  station = w.network;
  incoming = w.to_network;
  outgoing = w.to_user;
}

-- replaces what a side sees of the world
abbrev pub with_view : Side → View → World → World
with_view side.User v w = record {
  user = v.station;
  network = w.network;
  to_user = v.incoming;
  to_network = v.outgoing;
}
with_view side.Network v w = record {
  user = w.user;
  network = v.station;
  to_user = v.outgoing;
  to_network = v.incoming;
}

-- the world after an admitted move, and its outputs
pub record Happened : Type 0 where
  pub world : World
  pub outs : List Out

abbrev pub in_world : Side → World → Result ViewStep Refusal → Result Happened Refusal
in_world who w (Ok acted) = Ok (record { world = with_view who acted.view w; outs = acted.outs })
in_world who w (Err refusal) = Err refusal

-- makes one move, or refuses it
unfoldable pub happens : Reading → Move → World → Result Happened Refusal
happens r move w = in_world move.side w (acts r move.side move.event (view_of move.side w))

-- a move that is not admitted changes nothing
abbrev pub world_after : World → Result Happened Refusal → World
world_after w (Ok happened) = happened.world
world_after w (Err refusal) = w

-- a list of moves, one after another
abbrev pub run : Reading → List Move → World → World
run r [] w = w
run r (move ∷ moves) w = run r moves (world_after w (happens r move w))

-- the outcome of each move
abbrev pub outcomes : Reading → List Move → World → List (Result Happened Refusal)
outcomes r [] w = []
outcomes r (move ∷ moves) w = happens r move w ∷ outcomes r moves (world_after w (happens r move w))

-- how many of a side's messages are neither acknowledged nor dropped
abbrev pub left_of : Station → ℕ
left_of s = length (filter (λ place. not (list_any (λ p. p == place) s.history.acked)
    && not (list_any (λ p. p == place) s.history.dropped)) (range_with_len 0 (length s.end.given)))

abbrev pub left : World → ℕ
left w = left_of w.user + left_of w.network
