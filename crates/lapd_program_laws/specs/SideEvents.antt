-- The events (`SideEvent`) that `net` and `user` perform on a side: the side receives the frames
-- that they read from the source, and they write the frames that it sends to the sink.
use Rattle.std.specs.Prelude.{◌≡◌, ◌⊎◌, ℕ, ◌+◌, List, [], ◌∷◌, ◌++◌, map, Option}
use Rattle.std.specs.List.{AllByRecursion}
use Rattle.std.specs.Io.KnownBytes.{Appends, Consumes}
use Rattle.lapd_timers.specs.declared.timer.Timer.{Timer}
use Rattle.lapd_frame.specs.declared.Side.{Side}
use Rattle.lapd_port.specs.SocketText.{socket_text}
use Rattle.lapd_table.specs.declared.link_id.LinkId.{LinkId}
use Rattle.lapd_sides_links.specs.declared.config.Config.{Config}
use Rattle.lapd_sides.specs.declared.request.Request.{Request}
use Rattle.lapd_sides.specs.declared.either_side.EitherSide.{EitherSide}
use Rattle.lapd_sides.specs.declared.either_side.EitherSide.TheVariants as either
use Rattle.lapd_sides.specs.Network.{Network}
use Rattle.lapd_sides.specs.ShowsNetwork.{ShowNetwork}
use Rattle.lapd_sides.specs.ShowsUser.{ShowUser}
use Rattle.lapd_sides.specs.User.{User}
use Rattle.lapd_side_events.specs.Interface.{Move}
use Rattle.lapd_side_events.specs.SideView.{Behaviour, SideView, SideEvent, Take, Expire, Ask, does}
use Rattle.lapd_cli_side_commands.specs.Served.{AtWork}
use Rattle.lapd_cli_side_lines.specs.LineRequests.{LineRequest, Read, Tick, line_request_of}

-- ---- The events that a line requests.

-- a timer expires at this moment
abbrev pub IsExpiryAt : ℕ → SideEvent → Type 0
IsExpiryAt now event = (timer : Timer) × (of : Option LinkId) × (event ≡ Expire timer of now)

-- The events of a line at this moment. `read` takes the next frame once, or does nothing if the
-- source has ended. `tick` consists only of expiries, at the moment to which it advances the clock.
-- Any other line is exactly the request it names.
abbrev pub AreFor : LineRequest → ℕ → List SideEvent → Type 0
AreFor Read now events = (events ≡ []) ⊎ (events ≡ Take now ∷ [])
AreFor (Tick ms) now events = AllByRecursion (IsExpiryAt (now + ms)) events
AreFor line_request now events = (request : Request) × (line_request_of request ≡ line_request)
    × (events ≡ Ask request now ∷ [])

-- the moment after a line
abbrev pub moment_behind : LineRequest → ℕ → ℕ
moment_behind (Tick ms) now = now + ms
moment_behind line_request now = now

-- the events of the first line, followed by those of the other lines
pub record ArePartedFor (line_request : LineRequest) (now : ℕ)
    (AreForOthers : List SideEvent → Type 0)
    (events : List SideEvent) : Type 0 where
  pub first : List SideEvent
  pub others : List SideEvent
  pub both : events ≡ first ++ others
  pub for_first : AreFor line_request now first
  pub for_others : AreForOthers others

-- the events of all lines, from this moment on
abbrev pub AreForAll : List LineRequest → ℕ → List SideEvent → Type 0
AreForAll [] now events = events ≡ []
AreForAll (line_request ∷ line_requests) now events =
    ArePartedFor line_request now (AreForAll line_requests (moment_behind line_request now)) events

-- ---- The result of the events.

-- these events, one after another
abbrev pub does_all : {S : Type 0} → Behaviour S → List SideEvent → SideView S → SideView S
does_all w [] v = v
does_all w (event ∷ events) v = does_all w events (does w event v)

-- After these events the side satisfies `IsSo`, has sent the frames `sent`, and the frames `left`
-- are still on their way to it.
pub record LeadTo {S : Type 0} (w : Behaviour S) (IsSo : S → Type 0) (left sent : List (List ℕ))
    (events : List SideEvent) (v : SideView S) : Type 0 where
  pub is_so : IsSo (does_all w events v).now
  pub incoming : (does_all w events v).incoming ≡ left
  pub outgoing : (does_all w events v).outgoing ≡ v.outgoing ++ sent

-- A program gets from a to b by requested events. The source lost the octets of the frames in
-- `heard`, and the sink received those of the frames in `sent`. Take any side that the code showed
-- before, with the frames of `heard` first on their way to it: some requested events lead it to a
-- side that the code shows now. They consume exactly the frames of `heard`, and put exactly the
-- frames of `sent` on the line.
pub record IsByEvents {S : Type 0} (w : Behaviour S) (Shows : EitherSide → S → Type 0)
    (AreAskedFor : List SideEvent → Type 0) (a b : AtWork) : Type 0 where
  pub reception : List (List ℕ)
  pub sent : List (List ℕ)
  pub read : Consumes a.around.rest b.around.rest (socket_text reception)
  pub written : Appends a.around.written b.around.written (socket_text sent)
  pub are : (v : SideView S) (left : List (List ℕ)) → Shows a.side v.now
      → v.incoming ≡ reception ++ left
      → (events : List SideEvent) × AreAskedFor events × LeadTo w (Shows b.side) left sent events v

-- ---- For either side.

abbrev pub ShowsNetwork : Config → EitherSide → Network → Type 0
ShowsNetwork config (either.Network code) s = ShowNetwork code config s
ShowsNetwork config (either.User code) s = ⊥

abbrev pub ShowsUser : Config → EitherSide → User → Type 0
ShowsUser config (either.User code) s = ShowUser code config s
ShowsUser config (either.Network code) s = ⊥

-- the events of one side, as moves of an interface
abbrev pub moves_of : Side → List SideEvent → List Move
moves_of side events = map (λ (event : SideEvent). record { side = side; event = event }) events
