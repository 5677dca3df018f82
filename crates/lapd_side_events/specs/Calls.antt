-- The calls of a side in code are events of the side.
use Rattle.std.specs.Prelude.{◌≡◌, ℕ, ◌++◌, Result, Ok, Err, ⊤}
use Rattle.lapd_sides_links.specs.declared.config.Config.{Config}
use Rattle.lapd_sides_links.specs.Effects.{Effects}
use Rattle.lapd_sides.specs.ShowsNetwork.{NetSide}
use Rattle.lapd_sides.specs.ShowsUser.{UserSide}
use Rattle.lapd_sides.specs.Network.{Network}
use Rattle.lapd_sides.specs.ShowsNetwork.{ShowNetwork}
use Rattle.lapd_sides.specs.ShowsUser.{ShowUser}
use Rattle.lapd_sides.specs.User.{User}
use Rattle.lapd_side_events.specs.Interface.{network_behaviour, user_behaviour}
use Rattle.lapd_side_events.specs.SideView.{Behaviour, SideEvent, SideView, Take, Lose, does}

-- The call adds exactly the frames and the primitives that the event adds.
pub record Puts {S : Type 0} (w : Behaviour S) (acts : Effects) (event : SideEvent)
    (v : SideView S) :
    Type 0 where
  pub sent : (does w event v).outgoing ≡ v.outgoing ++ acts.frames
  pub delivered : (does w event v).delivered ≡ v.delivered ++ acts.primitives

-- The code represents the side after the event, and the call adds the event's frames and
-- primitives.
pub record SideDoes {C S : Type 0} (Show : C → Config → S → Type 0) (w : Config → Behaviour S)
    (code : C) (config : Config) (acts : Effects) (event : SideEvent)
    (v : SideView S) : Type 0 where
  pub shown : Show code config (does (w config) event v).now
  pub puts : Puts (w config) acts event v

abbrev pub NetworkDoes : NetSide → Config → Effects → SideEvent → SideView Network → Type 0
NetworkDoes = SideDoes ShowNetwork network_behaviour

abbrev pub UserDoes : UserSide → Config → Effects → SideEvent → SideView User → Type 0
UserDoes = SideDoes ShowUser user_behaviour

-- a successful take; octets for which an allocation failed, and that are not taken again, are lost
abbrev pub take_of : {E : Type 0} → Result ⊤ E → ℕ → SideEvent
take_of (Ok done) now = Take now
take_of (Err fault) now = Lose 0
