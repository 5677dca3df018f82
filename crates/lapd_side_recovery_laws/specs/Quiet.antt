-- The premises on the moves while a link recovers. Nothing disturbs the link: no octets of it are
-- lost, layer 3 requests nothing of it, and its TEI stays. Its timers are expired in time.
use Rattle.std.specs.Prelude.{◌≡◌, ℕ, ◌+◌, ◌≤◌, true, List, [], ◌∷◌, Option, Some, None, is_some}
use Rattle.std.specs.List.{remove}
use Rattle.lapd_timers.specs.declared.timer.Timer.{Timer}
use Rattle.lapd_timers.specs.Due.{deadline_of}
use Rattle.lapd_frame.specs.declared.Side.{Side}
use Rattle.lapd_frame.specs.declared.Side.TheVariants as side
use Rattle.lapd_frame.specs.Address.{other_side}
use Rattle.lapd_table.specs.declared.link_id.LinkId.{LinkId}
use Rattle.lapd_sides_links.specs.Links.{Linked, Served}
use Rattle.lapd_sides.specs.declared.request.Request.{Request}
use Rattle.lapd_sides.specs.declared.request.Request.TheVariants as request
use Rattle.lapd_side_events.specs.Interface.{Configs, Interface, Move, user_behaviour, network_behaviour, by_user, by_network, happens, side_does}
use Rattle.lapd_side_events.specs.SideView.{Behaviour, SideEvent, SideView, Lose, Ask, accepted, reaction}
use Rattle.lapd_two_side_laws.specs.Addressed.{those_for}
use Rattle.lapd_two_side_laws.specs.Owed.{PassesBy}
use Rattle.lapd_two_side_laws.specs.Primitives.{given_to}
use Rattle.lapd_clock_laws.specs.Clock.{Clock, clock_after, moment_of}
use Rattle.lapd_clock_laws.specs.InTime.{AreSent}

-- ---- Of one event of a side.

-- The request is for another link or for TEI management: it leaves the link unchanged, sends no
-- frame for it, delivers no primitive about it, and submits no message to it.
pub record AsksOther {S : Type 0} (w : Behaviour S) (side : Side) (id : LinkId) (event : SideEvent)
    (v : SideView S) : Type 0 where
  pub passes : PassesBy side id (w.served v.now).links
      (w.served (reaction w event v).after).links (reaction w event v).effects
  pub none_given : given_to id (accepted w event v) ≡ []

-- the link that a request names, if it names one
abbrev pub named_by : Request → Option LinkId
named_by (request.Establish id) = Some id
named_by (request.Release id) = Some id
named_by (request.Unit id octets) = Some id
named_by (request.Give id message) = Some id
named_by (request.Busy id on) = Some id
named_by other = None

-- no octets of the link are lost, and layer 3 requests nothing of it
abbrev pub LeavesLink : {S : Type 0} → Behaviour S → Side → LinkId → SideEvent → SideView S
    → Type 0
LeavesLink w side id (Lose at) v =
    those_for (other_side side) id (remove v.incoming at)
    ≡ those_for (other_side side) id v.incoming
LeavesLink w side id (Ask request now) v = AsksOther w side id (Ask request now) v
LeavesLink w side id event v = Unit {0}

-- At this moment no timer of the link has been due for more than `late` milliseconds at this side.
abbrev pub IsAtMostLate : ℕ → LinkId → ℕ → Served → Type 0
IsAtMostLate late id now s = (l : Linked) (timer : Timer) (deadline : ℕ) → s.links id ≡ Some l
    → deadline_of timer l.timers ≡ Some deadline → now ≤ deadline + late

-- ---- Of both sides.

-- the link exists on both sides
pub record HaveLink (id : LinkId) (i : Interface) : Type 0 where
  pub user : is_some (i.user.served.links id) ≡ true
  pub network : is_some (i.network.served.links id) ≡ true

-- and none of its timers is late
pub record ArePunctual (late : ℕ) (id : LinkId) (now : ℕ) (i : Interface) : Type 0 where
  pub user : IsAtMostLate late id now i.user.served
  pub network : IsAtMostLate late id now i.network.served

abbrev pub LeavesLinkThere : Configs → LinkId → Side → SideEvent → Interface → Type 0
LeavesLinkThere c id side.User event i =
    LeavesLink (user_behaviour c.user) side.User id event (by_user i)
LeavesLinkThere c id side.Network event i =
    LeavesLink (network_behaviour c.network) side.Network id event (by_network i)

-- One event of a side: it leaves the link alone, the link exists on both sides after it, and at its
-- moment no timer of the link is late.
pub record IsQuiet (late : ℕ) (c : Configs) (id : LinkId) (side : Side) (event : SideEvent)
    (i : Interface) (k : Clock) : Type 0 where
  pub leaves : LeavesLinkThere c id side event i
  pub stays : HaveLink id (side_does c side event i)
  pub punctual : ArePunctual late id (moment_of event k.now) i

-- a property of one event of a side, with the interface and the clock before it; and of each event
-- of these moves
abbrev pub OfEvent : Type 1
OfEvent = Side → SideEvent → Interface → Clock → Type 0

abbrev pub Throughout : Configs → OfEvent → List Move → Interface → Clock → Type 0
Throughout c P [] i k = Unit {0}
Throughout c P (move ∷ moves) i k = P move.side move.event i k
    × Throughout c P moves (happens c move i) (clock_after c move.side move.event i k)

abbrev pub AreQuiet : ℕ → Configs → LinkId → List Move → Interface → Clock → Type 0
AreQuiet late c id moves i k = Throughout c (IsQuiet late c id) moves i k

-- At this moment no octets of the link have been in transit for more than `longest` milliseconds,
-- and no timer of the link is late.
pub record IsServed (longest late now : ℕ) (id : LinkId) (i : Interface) (k : Clock) : Type 0 where
  pub to_user : AreSent side.Network id (λ at. now ≤ at + longest) k.to_user
  pub to_network : AreSent side.User id (λ at. now ≤ at + longest) k.to_network
  pub punctual : ArePunctual late id now i
