-- `net` and `user` over a lossless line: each source delivers the octets that the other program
-- writes, and each program reads only what was written. Together they perform moves of an
-- interface.
use Rattle.std.specs.Prelude.{◌≡◌, ℕ, ◌<◌, ◌≤◌, List, [], ◌∷◌, ◌++◌, Some, IsSome}
use Rattle.std.specs.Io.KnownBytes.{Appends}
use Rattle.lapd_frame.specs.declared.Side.{Side}
use Rattle.lapd_frame.specs.declared.Side.TheVariants as side
use Rattle.lapd_port.specs.SocketText.{socket_text}
use Rattle.lapd_table.specs.declared.link_id.LinkId.{LinkId}
use Rattle.lapd_sides_links.specs.Links.{parameters_for}
use Rattle.lapd_side_events.specs.Interface.{Configs, Interface, Move, run}
use Rattle.lapd_two_side_laws.specs.Premises.{SatisfyPremisesAsMade}
use Rattle.lapd_two_side_laws.specs.Projects.{IsSafeAt}
use Rattle.lapd_side_events.specs.SideView.{SideEvent}
use Rattle.lapd_cli_side_commands.specs.Served.{AtWork, LineDoes}
use Rattle.lapd_cli_side_lines.specs.LineRequests.{LineRequest}
use Rattle.lapd_program_laws.specs.SideEvents.{AreFor, ShowsNetwork, ShowsUser, moment_behind, moves_of}

-- ---- Two programs.

-- A program, and `later`: the octets that the other program has not written yet. The program's
-- source holds them after the octets on their way.
pub record Program : Type 0 where
  pub at : AtWork
  pub later : List ℕ

pub record Programs : Type 0 where
  pub network : Program
  pub user : Program

-- A program executes a line and reads no more than was written; the octets it writes are the next
-- ones that the other's source delivers.
pub record WritesTo (line_request : LineRequest) (a b other after : Program) : Type 0 where
  pub does : LineDoes line_request a.at b.at
  pub later : b.later ≡ a.later
  pub left : List ℕ
  pub reads : b.at.around.rest ≡ Some (left ++ a.later)
  pub octets : List ℕ
  pub wrote : Appends a.at.around.written b.at.around.written octets
  pub stays : after.at ≡ other.at
  pub arrives : other.later ≡ octets ++ after.later

abbrev pub ProgramDoes : Side → LineRequest → Programs → Programs → Type 0
ProgramDoes side.Network line_request a b = WritesTo line_request a.network b.network a.user b.user
ProgramDoes side.User line_request a b = WritesTo line_request a.user b.user a.network b.network

-- a line of one of the programs; the lines of both run in any order
pub record ProgramLine : Type 0 where
  pub side : Side
  pub line_request : LineRequest

abbrev pub ProgramsDo : List ProgramLine → Programs → Programs → Type 0
ProgramsDo [] a b = b ≡ a
ProgramsDo (line ∷ lines) a b =
    (mid : Programs) × ProgramDoes line.side line.line_request a mid × ProgramsDo lines mid b

-- the lines of one side
abbrev pub requests_behind : Side → Side → LineRequest → List LineRequest → List LineRequest
requests_behind side.Network side.Network line_request line_requests = line_request ∷ line_requests
requests_behind side.User side.User line_request line_requests = line_request ∷ line_requests
requests_behind of other line_request line_requests = line_requests

abbrev pub requests_of_side : Side → List ProgramLine → List LineRequest
requests_of_side of [] = []
requests_of_side of (line ∷ lines) = requests_behind of line.side line.line_request
    (requests_of_side of lines)

-- ---- The interface that the programs represent.

-- The programs' sides show the sides of the interface. Each source holds the octets of the frames
-- on their way to its side, and then those yet to be written. The octets that each sink received
-- are known.
pub record AreAt (c : Configs) (p : Programs) (i : Interface) : Type 0 where
  pub network : ShowsNetwork c.network p.network.at.side i.network
  pub user : ShowsUser c.user p.user.at.side i.user
  pub to_network : p.network.at.around.rest
      ≡ Some (socket_text i.to_network ++ p.network.later)
  pub to_user : p.user.at.around.rest ≡ Some (socket_text i.to_user ++ p.user.later)
  pub by_network : IsSome p.network.at.around.written
  pub by_user : IsSome p.user.at.around.written

-- ---- The moves that the lines request.

-- of the network's and the user's clock, the one of this side
abbrev pub clock_of : Side → ℕ → ℕ → ℕ
clock_of side.Network network user = network
clock_of side.User network user = user

-- the network's clock after a line of this side; likewise the user's
abbrev pub network_clock : Side → LineRequest → ℕ → ℕ
network_clock side.Network line_request now = moment_behind line_request now
network_clock side.User line_request now = now

abbrev pub user_clock : Side → LineRequest → ℕ → ℕ
user_clock side.Network line_request now = now
user_clock side.User line_request now = moment_behind line_request now

-- the events of the first line, followed by the moves of the other lines
pub record ArePartedAs (side : Side) (line_request : LineRequest) (now : ℕ)
    (AreForOthers : List Move → Type 0)
    (moves : List Move) : Type 0 where
  pub first : List SideEvent
  pub others : List Move
  pub both : moves ≡ moves_of side first ++ others
  pub for_first : AreFor line_request now first
  pub for_others : AreForOthers others

abbrev pub AreMovesFor : List ProgramLine → ℕ → ℕ → List Move → Type 0
AreMovesFor [] network user moves = moves ≡ []
AreMovesFor (line ∷ lines) network user moves =
    ArePartedAs line.side line.line_request (clock_of line.side network user)
    (AreMovesFor lines (network_clock line.side line.line_request network)
    (user_clock line.side line.line_request user)) moves

-- Both programs performed exactly the moves that their lines requested. In `AreRunSafely`, every
-- link is safe whose premises these moves keep.
pub record AreRun (c : Configs) (lines : List ProgramLine) (a b : Programs) (i : Interface)
    : Type 0 where
  pub moves : List Move
  pub asked : AreMovesFor lines a.network.at.now a.user.at.now moves
  pub are : AreAt c b (run c moves i)

pub record AreRunSafely (c : Configs) (lines : List ProgramLine) (a b : Programs)
    (i : Interface) : Type 0 where
  pub run_together : AreRun c lines a b i
  pub safe : (id : LinkId) → id.tei < 127 → (parameters_for c.user id.sapi).k ≤ 127
      → (parameters_for c.network id.sapi).k ≤ 127 → SatisfyPremisesAsMade c id run_together.moves i
      → IsSafeAt c id run_together.moves i
