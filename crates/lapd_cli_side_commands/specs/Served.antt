-- The behaviour of `net` and `user`, line by line: what they read from the port, how they call the
-- side, what they write to the port, and what they print.
use Rattle.std.specs.Prelude.{◌≡◌, ◌⊎◌, ℕ, ◌+◌, List, [], ◌∷◌, ◌++◌, flat_map, if◌then◌else◌, true, Option, Some, None, option_map, Result, Ok, Err, ⊤}
use Rattle.std.specs.Io.KnownBytes.{Appends, Consumes}
use Rattle.lapd_timers.specs.Durations.{standard_lengths}
use Rattle.lapd_frame.specs.declared.Side.{Side}
use Rattle.lapd_frame.specs.declared.Sapi.TheVariants.{Call, Packet}
use Rattle.lapd_frame.specs.Address.{other_side}
use Rattle.lapd_link_definition.specs.Parameters.{basic_parameters}
use Rattle.lapd_port.specs.declared.port_fault.PortFault.TheVariants.{End}
use Rattle.lapd_port.specs.SocketText.{frame_text, socket_text}
use Rattle.lapd_port.specs.Port.{Shows}
use Rattle.lapd_cli_script.specs.Script.{Step, is_passed_over}
use Rattle.lapd_sides_links.specs.declared.config.Config.{Config}
use Rattle.lapd_sides_links.specs.declared.side_fault.SideFault.{SideFault}
use Rattle.lapd_sides_links.specs.Effects.{Effects}
use Rattle.lapd_sides.specs.declared.request.Request.{Request}
use Rattle.lapd_sides.specs.declared.either_side.EitherSide.{EitherSide}
use Rattle.lapd_sides.specs.declared.either_side.EitherSide.TheVariants as either
use Rattle.lapd_sides.specs.ShowsNetwork.{NetSide}
use Rattle.lapd_sides.specs.ShowsUser.{UserSide}
use Rattle.lapd_sides.specs.Network.{new_network}
use Rattle.lapd_sides.specs.User.{new_user, seeded}
use Rattle.lapd_sides.specs.ShowsNetwork.{ShowNetwork}
use Rattle.lapd_sides.specs.ShowsUser.{ShowUser}
use Rattle.lapd_sides.specs.Either.{side_of, Takes, Answers}
use Rattle.lapd_cli_side_lines.specs.declared.line_style.LineStyle.{LineStyle}
use Rattle.lapd_cli_side_lines.specs.Calls.{ExpireInOrder, frames_given, primitives_given}
use Rattle.lapd_cli_side_lines.specs.SideTexts.{acts_text, answer_text, end_line, frame_text_line}
use Rattle.lapd_cli_side_lines.specs.LineRequests.{LineRequest, Read, Tick, request_of_line, line_request_of}
use Rattle.lapd_cli_side_commands.specs.Clocks.{Clocked, clock_step, new_clock}

-- The surroundings of a side: the style of its lines, the octets that its port's source has left,
-- and the octets that its port's sink and the writer have received. Each is `None` if unknown, as
-- for a socket.
pub record Devices : Type 0 where
  pub style : LineStyle
  pub rest : Option (List ℕ)
  pub written : Option (List ℕ)
  pub printed : Option (List ℕ)

abbrev pub devices : LineStyle → Option (List ℕ) → Option (List ℕ) → Option (List ℕ) → Devices
devices style rest written printed = record {
  style = style;
  rest = rest;
  written = written;
  printed = printed;
}

-- A running side: its clock, and its surroundings.
pub record AtWork : Type 0 where
  pub side : EitherSide
  pub now : ℕ
  pub around : Devices

abbrev pub at_work : EitherSide → ℕ → Devices → AtWork
at_work side now around = record { side = side; now = now; around = around }

-- these frames are sent, this text is printed, and the style of lines is unchanged
pub record Puts (frames : List (List ℕ)) (text : List ℕ) (a b : Devices) : Type 0 where
  pub style : b.style ≡ a.style
  pub sent : Appends a.written b.written (socket_text frames)
  pub printed : Appends a.printed b.printed text

-- ---- Lines.

-- a frame of the other side is printed and processed once; the output is sent and printed
pub record TakesNow (frame : List ℕ) (now : ℕ) (old new : EitherSide) (a b : Devices) : Type 0 where
  pub acts : Effects
  pub takes : Takes frame now (Ok tt) old new acts
  pub puts : Puts acts.frames (frame_text_line a.style (other_side (side_of old)) frame
      ++ acts_text a.style (side_of old) acts.frames acts.primitives) a b

-- `read`: the frame is the source's next one
pub record TakesNext (a b : AtWork) : Type 0 where
  pub frame : List ℕ
  pub read : Consumes a.around.rest b.around.rest (frame_text frame)
  pub takes : TakesNow frame a.now a.side b.side a.around b.around
  pub clock : b.now ≡ a.now

-- `read` at the end of the source: the side is not called
pub record FindsNone (a b : AtWork) : Type 0 where
  pub ended : Shows a.around.rest (Err End)
  pub read : Consumes a.around.rest b.around.rest []
  pub side : b.side ≡ a.side
  pub clock : b.now ≡ a.now
  pub puts : Puts [] (end_line a.around.style) a.around b.around

-- all timers due at a moment expire; the output is sent and printed
pub record ExpiresAll (now : ℕ) (old new : EitherSide) (a b : Devices) : Type 0 where
  pub calls : List Effects
  pub in_order : ExpireInOrder now calls old new
  pub puts : Puts (frames_given calls)
      (acts_text a.style (side_of old) (frames_given calls) (primitives_given calls)) a b

-- `tick`: the clock advances and all timers then due expire, one after another; nothing else
-- happens
pub record Ticks (ms : ℕ) (a b : AtWork) : Type 0 where
  pub due : ExpiresAll (a.now + ms) a.side b.side a.around b.around
  pub clock : b.now ≡ a.now + ms
  pub read : Consumes a.around.rest b.around.rest []

-- any other word is one request; the output is sent and printed, or the reason if it is refused
pub record Asks (line_request : LineRequest) (a b : AtWork) : Type 0 where
  pub request : Request
  pub is : line_request_of request ≡ line_request
  pub result : Result ⊤ SideFault
  pub acts : Effects
  pub answers : Answers request a.now result a.side b.side acts
  pub clock : b.now ≡ a.now
  pub read : Consumes a.around.rest b.around.rest []
  pub puts : Puts acts.frames (answer_text a.around.style (side_of a.side) result acts) a.around
      b.around

abbrev pub LineDoes : LineRequest → AtWork → AtWork → Type 0
LineDoes Read a b = TakesNext a b ⊎ FindsNone a b
LineDoes (Tick ms) a b = Ticks ms a b
LineDoes line_request a b = Asks line_request a b

-- all lines, one after another
abbrev pub LinesDo : List LineRequest → AtWork → AtWork → Type 0
LinesDo [] a b = b ≡ a
LinesDo (line_request ∷ line_requests) a b = (mid : AtWork) × LineDoes line_request a mid
    × LinesDo line_requests mid b

-- ---- A script.

-- the requests of a script's lines
abbrev pub request_list : Option LineRequest → List LineRequest
request_list None = []
request_list (Some line_request) = line_request ∷ []

abbrev pub requests_in_line : Side → List ℕ → List LineRequest
requests_in_line side line = if is_passed_over line then [] else request_list
    (request_of_line side line)

abbrev pub requests_of : Side → List (List ℕ) → List LineRequest
requests_of side lines = flat_map (requests_in_line side) lines

-- A side has executed all lines of a script from time 0 on, with these surroundings before and
-- after.
pub record HasServed (side : EitherSide) (line_requests : List LineRequest)
    (before after : Devices) : Type 0
  where
    pub ended : EitherSide
    pub moment : ℕ
    pub did : LinesDo line_requests (at_work side 0 before) (at_work ended moment after)

-- ---- The commands. By default: an interface at basic access (Q.921 5.9), no known TEI.

abbrev pub basic_access : Config
basic_access = record {
  sapi16 = true;
  params0 = basic_parameters Call;
  params16 = basic_parameters Packet;
  durations = standard_lengths;
  seed = 921;
}

-- `net`: a new network side with this configuration, which knows these TEIs, has executed the lines
pub record NetHasServed (config : Config) (known : List ℕ) (line_requests : List LineRequest)
    (before after : Devices) : Type 0 where
  pub began : NetSide
  pub new : ShowNetwork began config (new_network config known)
  pub served : HasServed (either.Network began) line_requests before after

-- `user`: a new user side with this configuration, with this fixed TEI or none, has executed the
-- lines
pub record UserHasServed (config : Config) (fixed : Option ℕ) (line_requests : List LineRequest)
    (before after : Devices) : Type 0 where
  pub began : UserSide
  pub new : ShowUser began config (new_user config fixed (seeded config.seed))
  pub served : HasServed (either.User began) line_requests before after

-- ---- The run of a script.

-- the clock of the running side, the requests so far, and the state it began in
pub record Progress : Type 0 where
  pub clock : Clocked
  pub line_requests : List LineRequest
  pub begun : AtWork

abbrev pub after_line : Progress → List ℕ → List ℕ × Clocked → List ℕ × Progress
after_line s line (text, clock) = (
  text,
  record {
    clock = clock;
    line_requests = s.line_requests ++ request_list (request_of_line s.clock.side line);
    begun = s.begun;
  },
)

abbrev pub side_step : Step Progress
side_step s line = option_map (after_line s line) (clock_step s.clock line)

abbrev pub new_progress : EitherSide → Devices → Progress
new_progress side before = record {
  clock = new_clock (side_of side);
  line_requests = [];
  begun = at_work side 0 before;
}

-- this running side, with its clock, has executed the requests so far
pub record HasReached (s : Progress) (at : AtWork) : Type 0 where
  pub of_side : side_of at.side ≡ s.clock.side
  pub moment : at.now ≡ s.clock.now
  pub did : LinesDo s.line_requests s.begun at
