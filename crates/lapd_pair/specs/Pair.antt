-- How a pair represents a world (the model of both ends and the line in lapd_pair_laws), and which
-- pairs moves can reach.
use Rattle.std.specs.Prelude.{◌≤◌, List}
use Rattle.lapd_frame.specs.declared.Side.TheVariants.{User, Network}
use Rattle.lapd_mod128.specs.Counting.{Tagged}
use Rattle.lapd_link_definition.specs.Parameters.{Parameters}
use Rattle.lapd_pair_laws.specs.Consistent.{IsConsistentWorld}
use Rattle.lapd_pair_laws.specs.Move.{Move}
use Rattle.lapd_pair_laws.specs.World.{World, new_world, run}
use Rattle.lapd_pair.specs.Line.{IsOn}
use Rattle.lapd_pair.specs.Station.{IsStation}
use Rattle.lapd_pair.specs.declared.line.Line.{Line}
use Rattle.lapd_pair.specs.declared.recorded_link.RecordedLink.{RecordedLink}

-- Both sides represent those of the world, and both lines its frames in transit. The world has the
-- properties that every move keeps.
pub record RepresentWorld (user_side network_side : RecordedLink)
    (line_to_user line_to_network : Line) (w : World) : Type 0 where
  pub user : IsStation User user_side w.user
  pub network : IsStation Network network_side w.network
  pub to_user : IsOn Network line_to_user w.to_user
  pub to_network : IsOn User line_to_network w.to_network
  pub preserved : IsConsistentWorld Tagged w

-- The pair represents the world that some moves lead to from a new one, with windows of 1 to 127.
pub record IsReached (user_side network_side : RecordedLink) (line_to_user line_to_network : Line) :
    Type 0 where
  pub user : Parameters
  pub network : Parameters
  pub few_of_user : user.k ≤ 127
  pub few_of_network : network.k ≤ 127
  pub some_of_user : 1 ≤ user.k
  pub some_of_network : 1 ≤ network.k
  pub moves : List Move
  pub represent : RepresentWorld user_side network_side line_to_user line_to_network
      (run Tagged moves (new_world user network))
