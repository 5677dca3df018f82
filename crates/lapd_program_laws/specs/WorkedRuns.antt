-- A worked run of `net` and `user`: the user side establishes a link and submits a message, which
-- the network side receives and acknowledges. It shows that the premises of joined runs can be met.
use Rattle.std.specs.Prelude.{◌≡◌, ℕ, List, [], ◌∷◌, Some}
use Rattle.lapd_frame.specs.declared.Side.{Side}
use Rattle.lapd_frame.specs.declared.Side.TheVariants as side
use Rattle.lapd_port.specs.SocketText.{socket_text}
use Rattle.lapd_sides.specs.declared.either_side.EitherSide.TheVariants as either
use Rattle.lapd_side_events.specs.Interface.{Move}
use Rattle.lapd_two_side_laws.specs.Premises.{SatisfyPremisesAsMade}
use Rattle.lapd_two_side_laws.specs.Schedule.{call, configs}
use Rattle.lapd_cli_side_commands.specs.Served.{Devices, NetHasServed, UserHasServed}
use Rattle.lapd_cli_side_lines.specs.LineRequests.{LineRequest, Read, Establish, Give}
use Rattle.lapd_program_laws.specs.Joined.{AreMovesFor}
use Rattle.lapd_program_laws.specs.JoinedRuns.{AreJoined, AreServedInOrder, lines_in, sides_at_first}

-- ---- The scripts, and the order of their lines.

abbrev pub network_script : List LineRequest
network_script = Read ∷ Read ∷ []

abbrev pub user_script : List LineRequest
user_script = Establish call ∷ Read ∷ Give call (1 ∷ []) ∷ Read ∷ []

abbrev pub in_turn : List Side
in_turn = side.User ∷ side.Network ∷ side.User ∷ side.User ∷ side.Network ∷ side.User ∷ []

-- ---- The frames of each side.

-- a SABME, and an I frame with the message
abbrev pub sabme : List ℕ
sabme = 0x00 ∷ 0x81 ∷ 0x7F ∷ []

abbrev pub i_frame : List ℕ
i_frame = 0x00 ∷ 0x81 ∷ 0x00 ∷ 0x00 ∷ 0x01 ∷ []

-- a UA, and an RR with N(R)=1
abbrev pub ua : List ℕ
ua = 0x00 ∷ 0x81 ∷ 0x73 ∷ []

abbrev pub rr : List ℕ
rr = 0x00 ∷ 0x81 ∷ 0x01 ∷ 0x02 ∷ []

abbrev pub from_user : List (List ℕ)
from_user = sabme ∷ i_frame ∷ []

abbrev pub from_network : List (List ℕ)
from_network = ua ∷ rr ∷ []

-- ---- Over these sources and empty sinks.

pub record AreOverWorkedOctets (network user : Devices) : Type 0 where
  pub network_rest : network.rest ≡ Some (socket_text from_user)
  pub network_written : network.written ≡ Some []
  pub user_rest : user.rest ≡ Some (socket_text from_network)
  pub user_written : user.written ≡ Some []

-- All premises hold: what each program writes is what the other's source has, nothing is read
-- before it is written, and all moves that the lines request keep the premises of the link.
pub record MeetPremises (network_before network_after user_before user_after : Devices)
    (network : NetHasServed configs.network (64 ∷ []) network_script network_before network_after)
    (user : UserHasServed configs.user (Some 64) user_script user_before user_after) : Type 0 where
  pub joined : AreJoined network_before network_after user_before user_after
  pub in_order : AreServedInOrder in_turn (either.Network network.began) (either.User user.began)
      network_script user_script network_before network_after user_before user_after
      network.served user.served
  pub preserved : (moves : List Move)
      → AreMovesFor (lines_in in_turn network_script user_script) 0 0 moves
      → SatisfyPremisesAsMade configs call moves (sides_at_first configs (Some 64) (64 ∷ []))
