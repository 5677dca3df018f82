-- How a line settles: the first possible one of four moves is made, again and again, until none is
-- possible.
use Rattle.std.specs.Prelude.{◌≡◌, ℕ, zero, suc, ◌+◌, ◌*◌, if◌then◌else◌, false, List, [], ◌∷◌, Option, Some, None, is_ok}
use Rattle.lapd_frame.specs.declared.Side.TheVariants.{User, Network}
use Rattle.lapd_mod128.specs.Counting.{Reading}
use Rattle.lapd_link_definition.specs.declared.state.State.TheVariants.{MultipleFrameEstablished}
use Rattle.lapd_pair_laws.specs.Move.{Move, Deliver, Expire200}
use Rattle.lapd_pair_laws.specs.World.{World, happens, world_after, left}

-- Quiet: both ends are in state 7, neither receiver is busy (Q.921 5.6.6), and the line is empty.
pub record IsQuiet (w : World) : Type 0 where
  pub user : w.user.end.state ≡ MultipleFrameEstablished
  pub network : w.network.end.state ≡ MultipleFrameEstablished
  pub user_free : w.user.end.window.own_busy ≡ false
  pub network_free : w.network.end.window.own_busy ≡ false
  pub to_user : w.to_user ≡ []
  pub to_network : w.to_network ≡ []

abbrev pub tried : List Move
tried = record { side = Network; event = Deliver }
    ∷ record { side = User; event = Deliver }
    ∷ record { side = User; event = Expire200 }
    ∷ record { side = Network; event = Expire200 } ∷ []

abbrev pub first_admitted : Reading → List Move → World → Option Move
first_admitted r [] w = None
first_admitted r (move ∷ moves) w =
    if is_ok (happens r move w) then Some move else first_admitted r moves w

-- the next move: the first one that is admitted
abbrev pub next_move : Reading → World → Option Move
next_move r w = first_admitted r tried w

abbrev pub then_on : Option Move → (Move → List Move) → List Move
then_on None rest = []
then_on (Some move) rest = move ∷ rest move

-- the settling moves, at most n
abbrev pub settling : Reading → ℕ → World → List Move
settling r zero w = []
settling r (suc n) w =
    then_on (next_move r w) (λ move. settling r n (world_after w (happens r move w)))

-- the fuel of a settling: 8 for each message that is left, and 32
abbrev pub bound : World → ℕ
bound w = 8 * (left w + 4)

-- the number of moves that suffices for a quiet line
abbrev pub most_moves : World → ℕ
most_moves w = 3 * left w + 8
