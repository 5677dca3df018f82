-- A side of either kind. Its calls do the same as those of a network side or a user side.
use Rattle.std.specs.Prelude.{◌≡◌, ◌⊎◌, ℕ, false, List, Option, Some, Result, ⊤}
use Rattle.std.specs.Borrow.{Fml, Lends, MutBor}
use Rattle.lapd_timers.specs.Due.{Timers}
use Rattle.lapd_timers.specs.Durations.{Lengths}
use Rattle.lapd_frame.specs.Reading.{frame_at}
use Rattle.lapd_frame.specs.declared.Side.{Side}
use Rattle.lapd_frame.specs.declared.Side.TheVariants as side
use Rattle.lapd_table.specs.declared.link_id.LinkId.{LinkId}
use Rattle.lapd_table.specs.declared.link_table.LinkTable.{LinkTable}
use Rattle.lapd_sides_links.specs.declared.side_fault.SideFault.{SideFault}
use Rattle.lapd_sides_links.specs.Effects.{Effects}
use Rattle.lapd_sides_links.specs.Expiries.{IsNextDeadline, of_served}
use Rattle.lapd_sides.specs.contracts.either_side.EitherSide as either_side
use Rattle.lapd_sides.specs.contracts.links_and_timer.LinksAndTimer as links_and_timer
use Rattle.lapd_sides.specs.declared.links_and_timer.LinksAndTimer.{LinksAndTimer}
use Rattle.lapd_sides.specs.declared.request.Request.{Request}
use Rattle.lapd_sides.specs.declared.either_side.EitherSide.{EitherSide}
use Rattle.lapd_sides.specs.declared.either_side.EitherSide.TheVariants as either
use Rattle.lapd_sides.specs.Network.{network_requested, network_rules}
use Rattle.lapd_sides.specs.SideState.{sends_at_once, expires, given_for, takes}
use Rattle.lapd_sides.specs.User.{user_requested, own_link, user_rules}
use Rattle.lapd_sides.specs.declared.request.Request.TheVariants as request
use Rattle.lapd_sides_links.specs.Messages.{WithMessage}
use Rattle.lapd_sides.specs.Requests.{LacksMessage, message_of}
use Rattle.lapd_sides.specs.Shows.{ShowEnds, are_predicted}
use Rattle.lapd_sides.specs.Calls as calls
use Rattle.lapd_sides.specs.Calls.{EachShown, Receives, SideStaysIdle}
use Rattle.lapd_sides.specs.ShowsNetwork.{ShowNetwork}
use Rattle.lapd_sides.specs.ShowsUser.{ShowUser}

-- the kind of the side
abbrev pub side_of : EitherSide → Side
side_of (either.Network s) = side.Network
side_of (either.User s) = side.User

-- its links, the timer of TEI management, and the number of discarded frames
abbrev pub served_of : EitherSide → LinksAndTimer
served_of (either.Network code) = code.served
served_of (either.User code) = code.served

abbrev pub with_served : EitherSide → LinksAndTimer → EitherSide
with_served (either.Network code) served = either.Network (record code { served = served })
with_served (either.User code) served = either.User (record code { served = served })

-- the side ends with what the call left of them
abbrev pub LendsServed : MutBor EitherSide → MutBor LinksAndTimer → Fml
LendsServed side served =
    Lends either_side.the_row links_and_timer.the_row side served (with_served side.now)

-- the link that a caller means who names this one
abbrev pub meant_by : EitherSide → LinkId → Option LinkId
meant_by (either.Network code) id = Some id
meant_by (either.User code) id = own_link code.management.terminal id

-- ---- The effect of a call.

-- processes received octets, or an allocation fails
abbrev pub Takes : List ℕ → ℕ → Result ⊤ SideFault → EitherSide → EitherSide → Effects → Type 0
Takes octets now result (either.Network old) (either.Network new) acts = Receives ShowNetwork
    result old new acts (λ s. given_for network_rules s.management octets)
    (λ config. takes network_rules config octets now)
Takes octets now result (either.User old) (either.User new) acts = Receives ShowUser
    result old new acts (λ s. given_for user_rules s.management octets)
    (λ config. takes user_rules config octets now)
Takes octets now result old new acts = ⊥

-- executes or refuses a request
abbrev pub Answers : Request → ℕ → Result ⊤ SideFault → EitherSide → EitherSide → Effects → Type 0
Answers request now result (either.Network old) (either.Network new) acts =
    calls.Answers ShowNetwork result old new acts (message_of request)
    (λ config. network_requested config request now)
Answers request now result (either.User old) (either.User new) acts =
    calls.Answers ShowUser result old new acts (message_of request)
    (λ config. user_requested config request now)
Answers request now result old new acts = ⊥

-- submits a message with these octets, which may fail to be allocated
abbrev pub Gives : LinkId → List ℕ → ℕ → Result ⊤ SideFault → EitherSide → EitherSide → Effects
    → Type 0
Gives id octets now result old new acts = LacksMessage result old new acts
    ⊎ WithMessage octets (λ message. Answers (request.Give id message) now result old new acts)

-- the link does not send a message with these octets at once
abbrev pub SendsNone : LinkId → List ℕ → EitherSide → Type 0
SendsNone id octets (either.Network code) =
    EachShown ShowNetwork code (λ s. sends_at_once (Some id) octets s.served.links ≡ false)
SendsNone id octets (either.User code) =
    EachShown ShowUser code
    (λ s. sends_at_once (own_link s.management.terminal id) octets s.served.links ≡ false)

-- the octets are not those of a frame that its link predicts
abbrev pub PredictsNone : List ℕ → EitherSide → Type 0
PredictsNone octets (either.Network code) =
    EachShown ShowNetwork code
    (λ s. are_predicted (frame_at side.User octets) s.served.links ≡ false)
PredictsNone octets (either.User code) =
    EachShown ShowUser code
    (λ s. are_predicted (frame_at side.Network octets) s.served.links ≡ false)

-- the first due timer has expired
abbrev pub Expires : ℕ → EitherSide → EitherSide → Effects → Type 0
Expires now (either.Network old) (either.Network new) acts =
    calls.Expires ShowNetwork (expires network_rules) old new acts now
Expires now (either.User old) (either.User new) acts =
    calls.Expires ShowUser (expires user_rules) old new acts now
Expires now old new acts = ⊥

-- nothing is due, and the side represents what it represented before
abbrev pub StaysIdle : ℕ → EitherSide → EitherSide → Type 0
StaysIdle now (either.Network old) (either.Network new) = SideStaysIdle ShowNetwork old new now
StaysIdle now (either.User old) (either.User new) = SideStaysIdle ShowUser old new now
StaysIdle now old new = ⊥

-- sets the durations, for timers that are started from then on
abbrev pub SetsDurations : Lengths → EitherSide → EitherSide → Type 0
SetsDurations durations (either.Network old) (either.Network new) =
    calls.SetsDurations ShowNetwork old new durations
SetsDurations durations (either.User old) (either.User new) =
    calls.SetsDurations ShowUser old new durations
SetsDurations durations old new = ⊥

-- ---- Queries.

-- the next moment at which something is due
abbrev pub HasNextDeadline : EitherSide → Option ℕ → Type 0
HasNextDeadline (either.Network code) deadline =
    EachShown ShowNetwork code (λ s. IsNextDeadline s.served deadline)
HasNextDeadline (either.User code) deadline =
    EachShown ShowUser code (λ s. IsNextDeadline s.served deadline)

-- the links
abbrev pub HasTable : EitherSide → LinkTable → Type 0
HasTable (either.Network code) table =
    EachShown ShowNetwork code (λ s. ShowEnds side.Network table s.served.links)
HasTable (either.User code) table =
    EachShown ShowUser code (λ s. ShowEnds side.User table s.served.links)

-- the timers of a link or of TEI management
abbrev pub HasTimers : EitherSide → Option LinkId → Option Timers → Type 0
HasTimers (either.Network code) of timers =
    EachShown ShowNetwork code (λ s. timers ≡ of_served s.served of)
HasTimers (either.User code) of timers = EachShown ShowUser code (λ s. timers ≡ of_served s.served of)

-- the number of discarded frames
abbrev pub HasDiscarded : EitherSide → ℕ → Type 0
HasDiscarded (either.Network code) count = EachShown ShowNetwork code (λ s. count ≡ s.discarded)
HasDiscarded (either.User code) count = EachShown ShowUser code (λ s. count ≡ s.discarded)
