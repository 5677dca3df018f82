-- The world on tags that represents a world on whole numbers. Each number that a frame carries, and
-- each state variable, becomes its tag (Q.921 3.5.2.1). Histories and places do not change.
use Rattle.std.specs.Prelude.{◌≡◌, ℕ, true, List, [], ◌∷◌, map, Result, Ok, Err}
use Rattle.lapd_mod128.specs.Counting.{Whole}
use Rattle.lapd_supervision.specs.Tags.{tag_control}
use Rattle.lapd_link_definition.specs.EndOfStep.{is_7_or_8}
use Rattle.lapd_link_definition.specs.End.{End}
use Rattle.lapd_link_definition.specs.Tagging.{tag_out, tag_end, HasNearNumbers, HasNumbersWithin}
use Rattle.lapd_pair_laws.specs.Line.{Flight}
use Rattle.lapd_pair_laws.specs.Move.{PairEvent, Deliver, Move, Refusal, Station, View}
use Rattle.lapd_pair_laws.specs.World.{World, view_of, Happened, happens, world_after}

abbrev pub tag_flight : Flight → Flight
tag_flight frame = record frame { control = tag_control frame.control }

abbrev pub tag_station : Station → Station
tag_station s = record s { end = tag_end s.end }

abbrev pub tag_world : World → World
tag_world w = record {
  user = tag_station w.user;
  network = tag_station w.network;
  to_user = map tag_flight w.to_user;
  to_network = map tag_flight w.to_network;
}

-- the world and outputs of an admitted move; a refusal contains no numbers to tag
abbrev pub tag_outcome : Result Happened Refusal → Result Happened Refusal
tag_outcome (Ok happened) = Ok (record {
  world = tag_world happened.world;
  outs = map tag_out happened.outs;
})
tag_outcome (Err refusal) = Err refusal

-- ---- When a move on tags has the same effect as on whole numbers.

-- in states 7 and 8, the first of these frames carries numbers near those of the end
abbrev pub IsFirstNear : List Flight → End → Type 0
IsFirstNear [] e = Unit {0}
IsFirstNear (frame ∷ rest) e = is_7_or_8 e.state ≡ true → HasNearNumbers frame.control e.window

-- only delivery of a frame introduces numbers
abbrev pub IsNearEvent : PairEvent → View → Type 0
IsNearEvent Deliver v = IsFirstNear v.incoming v.station.end
IsNearEvent event v = Unit {0}

abbrev pub IsNearMove : Move → World → Type 0
IsNearMove move w = IsNearEvent move.event (view_of move.side w)

abbrev pub AreNearMoves : List Move → World → Type 0
AreNearMoves [] w = Unit {0}
AreNearMoves (move ∷ moves) w = IsNearMove move w
    × AreNearMoves moves (world_after w (happens Whole move w))

-- ---- Bounds from which each move is near.

-- in states 7 and 8, the numbers of the first of these frames are within the bounds of the end's; k
-- is the window of the sender
abbrev pub IsFirstWithin : ℕ → List Flight → End → Type 0
IsFirstWithin k [] e = Unit {0}
IsFirstWithin k (frame ∷ rest) e = is_7_or_8 e.state ≡ true
    → HasNumbersWithin k frame.control e.window

-- in both directions
pub record AreFirstWithin (w : World) : Type 0 where
  pub to_user : IsFirstWithin w.network.end.parameters.k w.to_user w.user.end
  pub to_network : IsFirstWithin w.user.end.parameters.k w.to_network w.network.end
