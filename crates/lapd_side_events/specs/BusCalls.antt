-- The calls of n + 1 sides in code are events of a bus.
use Rattle.std.specs.Prelude.{◌≡◌, ℕ, List, ◌++◌, slice_get, Some}
use Rattle.lapd_sides_links.specs.Effects.{Effects}
use Rattle.lapd_sides.specs.ShowsNetwork.{NetSide}
use Rattle.lapd_sides.specs.ShowsUser.{UserSide}
use Rattle.lapd_sides.specs.ShowsNetwork.{ShowNetwork}
use Rattle.lapd_sides.specs.ShowsUser.{ShowUser}
use Rattle.lapd_sides.specs.User.{User}
use Rattle.lapd_side_events.specs.Interface.{Configs}
use Rattle.lapd_side_events.specs.SideView.{SideView}
use Rattle.lapd_side_events.specs.Bus.{Bus, BusEvent, bus_step}

-- The code of the terminal at this index represents it after the event. The frames of the call are
-- now in transit to the network, and the call added the primitives that the terminal delivered.
pub record IsOfTerminal (c : Configs) (i : ℕ) (code : UserSide) (acts : Effects) (e : BusEvent)
    (t : SideView User) (b : Bus) : Type 0 where
  pub terminal : SideView User
  pub there : slice_get (bus_step c e b).terminals i ≡ Some terminal
  pub shown : ShowUser code c.user terminal.now
  pub sent : terminal.outgoing ≡ t.outgoing ++ acts.frames
  pub delivered : terminal.delivered ≡ t.delivered ++ acts.primitives

-- The frames are now in transit to a terminal.
pub record Reaches (frames : List (List ℕ)) (i : ℕ) (t : SideView User) (b : Bus) : Type 0 where
  pub terminal : SideView User
  pub there : slice_get b.terminals i ≡ Some terminal
  pub received : terminal.incoming ≡ t.incoming ++ frames

-- The code of the network side represents it after the event. The frames of the call are now in
-- transit to each terminal, and the call added the primitives that the network delivered.
pub record IsOfNetwork (c : Configs) (code : NetSide) (acts : Effects) (e : BusEvent) (b : Bus)
    : Type 0 where
  pub shown : ShowNetwork code c.network (bus_step c e b).network
  pub delivered : (bus_step c e b).delivered ≡ b.delivered ++ acts.primitives
  pub sent : (i : ℕ) (t : SideView User) → slice_get b.terminals i ≡ Some t
      → Reaches acts.frames i t (bus_step c e b)
