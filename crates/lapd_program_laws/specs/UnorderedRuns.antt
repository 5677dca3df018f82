-- A worked run of `net` and `user` in which `net` reads what was not yet written. Each source has
-- the octets that the other's sink gets, but no order of the lines exists. So `net` prints an
-- error.
use Rattle.std.specs.Prelude.{◌≡◌, ℕ, List, [], ◌∷◌, Some}
use Rattle.lapd_frame.specs.declared.Side.{Side}
use Rattle.lapd_port.specs.SocketText.{socket_text}
use Rattle.lapd_sides.specs.declared.either_side.EitherSide.TheVariants as either
use Rattle.lapd_two_side_laws.specs.Primitives.{AreExpectedOfLink, link_primitives}
use Rattle.lapd_two_side_laws.specs.Schedule.{call, configs}
use Rattle.lapd_cli_side_commands.specs.Served.{Devices, NetHasServed, UserHasServed}
use Rattle.lapd_cli_side_lines.specs.LineRequests.{LineRequest, Read, Establish}
use Rattle.lapd_program_laws.specs.JoinedRuns.{AreJoined, AreServedInOrder}
use Rattle.lapd_program_laws.specs.Transcripts.{ExecutedLine, IsTranscript, primitives_of}

-- `net` reads the answer to its SABME, and then sends the SABME; `user` only answers it
abbrev pub early_script : List LineRequest
early_script = Read ∷ Establish call ∷ []

abbrev pub answering_script : List LineRequest
answering_script = Read ∷ []

-- the SABME of the network side, and the UA of the user side
abbrev pub network_sabme : List ℕ
network_sabme = 0x02 ∷ 0x81 ∷ 0x7F ∷ []

abbrev pub user_ua : List ℕ
user_ua = 0x02 ∷ 0x81 ∷ 0x73 ∷ []

pub record AreOverUnorderedOctets (network user : Devices) : Type 0 where
  pub network_rest : network.rest ≡ Some (socket_text (user_ua ∷ []))
  pub network_written : network.written ≡ Some []
  pub user_rest : user.rest ≡ Some (socket_text (network_sabme ∷ []))
  pub user_written : user.written ≡ Some []

-- what was printed reports an error of the link other than F, G, H and I
pub record PrintsUnexpected (lines : List LineRequest) (before after : Devices) : Type 0 where
  pub transcript : List ExecutedLine
  pub printed : IsTranscript transcript lines before after
  pub wrong : AreExpectedOfLink (link_primitives call (primitives_of transcript)) → ⊥

-- the ports are joined, no order of the lines exists, and what `net` prints is wrong
pub record AreWrong (network_before network_after user_before user_after : Devices)
    (network : NetHasServed configs.network (64 ∷ []) early_script network_before network_after)
    (user : UserHasServed configs.user (Some 64) answering_script user_before user_after) : Type 0
  where
    pub joined : AreJoined network_before network_after user_before user_after
    pub unordered : (order : List Side)
        → AreServedInOrder order (either.Network network.began) (either.User user.began)
        early_script answering_script network_before network_after user_before user_after
        network.served user.served → ⊥
    pub wrong : PrintsUnexpected early_script network_before network_after
