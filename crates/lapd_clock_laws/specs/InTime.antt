-- The premises on the clock of one link. Each of its frames is in transit for at most `longest`
-- milliseconds, and T200 is at least twice as long: it exceeds the time in which a frame is sent
-- and its acknowledgement arrives (Q.921 5.9.1).
use Rattle.std.specs.Prelude.{◌≡◌, ℕ, ◌+◌, ◌*◌, ◌<◌, ◌≤◌, true, false, List, [], ◌∷◌, Option, Some}
use Rattle.std.specs.List.{All}
use Rattle.lapd_timers.specs.Due.{last_moment}
use Rattle.lapd_timers.specs.Durations.{Lengths}
use Rattle.lapd_frame.specs.declared.Side.{Side}
use Rattle.lapd_frame.specs.declared.Side.TheVariants as side
use Rattle.lapd_frame.specs.Address.{other_side}
use Rattle.lapd_table.specs.declared.link_id.LinkId.{LinkId}
use Rattle.lapd_sides_links.specs.Expiries.{IsPast, of_served}
use Rattle.lapd_sides_links.specs.Links.{Linked, Served}
use Rattle.lapd_side_events.specs.Interface.{Configs, Interface, Move, happens}
use Rattle.lapd_side_events.specs.SideView.{SideEvent, Expire, Overhear}
use Rattle.lapd_two_side_laws.specs.Addressed.{is_for, those_for}
use Rattle.lapd_clock_laws.specs.Clock.{Sent, Clock, SideClock, moment_of, user_clock, network_clock, clock_after}

-- ---- Of one event of a side, with the clock before it.

-- all octets of the link that this side sent have this property of the moment at which they were
-- sent
abbrev pub AreSent : Side → LinkId → (ℕ → Type 0) → List Sent → Type 0
AreSent from id P line = All (λ (sent : Sent). is_for from id sent.octets ≡ true → P sent.at) line

-- the event is not before the latest one
abbrev pub IsInOrder : SideEvent → SideClock → Type 0
IsInOrder event k = k.now ≤ moment_of event k.now

-- a deadline twice `longest` away is not beyond the greatest moment, at which deadlines stop
abbrev pub IsInRange : ℕ → SideEvent → SideClock → Type 0
IsInRange longest event k = moment_of event k.now + 2 * longest ≤ last_moment

-- The link's octets are in transit for at most `longest` milliseconds: by then they were received
-- or lost.
pub record IsPrompt (longest : ℕ) (side : Side) (id : LinkId) (event : SideEvent)
    (k : SideClock) : Type 0 where
  pub to_side : AreSent (other_side side) id (λ at. moment_of event k.now ≤ at + longest)
      k.incoming
  pub from_side : AreSent side id (λ at. moment_of event k.now ≤ at + longest) k.outgoing

-- The side takes the link's octets that have arrived, if need be at this very moment, before it
-- expires a timer.
abbrev pub TakesFirst : ℕ → Side → LinkId → SideEvent → SideClock → Type 0
TakesFirst longest side id (Expire timer of now) k =
    AreSent (other_side side) id (λ at. now < at + longest) k.incoming
TakesFirst longest side id event k = Unit {0}

-- A timer of the link expires only when it is due.
abbrev pub IsWhenDue : LinkId → SideEvent → Served → Type 0
IsWhenDue id (Expire timer of now) s = of ≡ Some id
    → (deadline : ℕ)
    × IsPast now (of_served s) (record { deadline = deadline; timer = timer; of = of })
IsWhenDue id event s = Unit {0}

pub record IsInTime (longest : ℕ) (id : LinkId) (side : Side) (event : SideEvent) (s : Served)
    (k : SideClock) : Type 0 where
  pub in_order : IsInOrder event k
  pub in_range : IsInRange longest event k
  pub prompt : IsPrompt longest side id event k
  pub takes_first : TakesFirst longest side id event k
  pub when_due : IsWhenDue id event s

-- ---- Of all moves of a run.

-- a property of one event of a side, with the side's links and timers and its clock before it
abbrev pub Premise : Type 1
Premise = Side → SideEvent → Served → SideClock → Type 0

abbrev pub OfMove : Premise → Side → SideEvent → Interface → Clock → Type 0
OfMove P side.User event i k = P side.User event i.user.served (user_clock k)
OfMove P side.Network event i k = P side.Network event i.network.served (network_clock k)

abbrev pub Throughout : Configs → Premise → List Move → Interface → Clock → Type 0
Throughout c P [] i k = Unit {0}
Throughout c P (move ∷ moves) i k = OfMove P move.side move.event i k
    × Throughout c P moves (happens c move i) (clock_after c move.side move.event i k)

abbrev pub AreInTime : ℕ → Configs → LinkId → List Move → Interface → Clock → Type 0
AreInTime longest c id moves i k = Throughout c (IsInTime longest id) moves i k

-- ---- T200, and octets of someone else.

-- T200 runs at least twice as long as a frame of the link is in transit
abbrev pub IsLongEnough : ℕ → Lengths → Type 0
IsLongEnough longest lengths = 2 * longest ≤ lengths.t200

-- octets that a side overhears do not belong to the link
abbrev pub OverhearsOthers : LinkId → Side → SideEvent → Type 0
OverhearsOthers id side (Overhear octets now) = is_for (other_side side) id octets ≡ false
OverhearsOthers id side event = Unit {0}

abbrev pub OverhearOthers : LinkId → List Move → Type 0
OverhearOthers id [] = Unit {0}
OverhearOthers id (move ∷ moves) = OverhearsOthers id move.side move.event
    × OverhearOthers id moves

-- so does the T200 of the link, if the link exists
abbrev pub HasLongT200 : ℕ → Option Linked → Type 0
HasLongT200 longest link = (l : Linked) → link ≡ Some l → IsLongEnough longest l.timers.durations

-- no octets of the link are in transit
pub record IsClear (id : LinkId) (i : Interface) : Type 0 where
  pub to_user : those_for side.Network id i.to_user ≡ []
  pub to_network : those_for side.User id i.to_network ≡ []
