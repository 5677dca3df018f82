-- A bus whose sides also restart. The events are those of `lapd_side_events`. A side that restarts
-- counts on from the one before it, as in `lapd_restart_laws`.
use Rattle.std.specs.Prelude.{◌≡◌, ℕ, ◌==◌, Bool, true, false, List, [], ◌∷◌, ◌++◌, slice_get, Option, Some, None}
use Rattle.lapd_sides.specs.Network.{new_network}
use Rattle.lapd_sides.specs.ShowsUser.{UserSide, ShowUser}
use Rattle.lapd_sides.specs.User.{User, new_user}
use Rattle.lapd_side_events.specs.Interface.{Configs}
use Rattle.lapd_side_events.specs.SideView.{SideView}
use Rattle.lapd_side_events.specs.Bus.{Bus, BusEvent, Join, Restart, NewTerminal, with_terminal, bus_step, interface_of, moves_of}
use Rattle.lapd_bus_laws.specs.Links.{ThroughoutBy}
use Rattle.lapd_restart_laws.specs.Restarts.{Change, NetworkRestarts, UserRestarts, network_after, user_after, losses, run_across}
use Rattle.lapd_restart_laws.specs.RestartRuns.{moved}

-- ---- Restarts.

-- The terminal restarts, with the fixed TEI and the references of the new one. Octets stay in
-- transit, and layer 3 counts what is lost.
abbrev pub restarted_as : Configs → NewTerminal → SideView User → SideView User
restarted_as c new t = record t {
  now = user_after c.user new.fixed new.random t.now;
  delivered = t.delivered
      ++ losses t.now.served.links (new_user c.user new.fixed new.random).served.links;
}

abbrev pub terminal_restarts : Configs → ℕ → NewTerminal → Option (SideView User) → Bus → Bus
terminal_restarts c i new None b = b
terminal_restarts c i new (Some t) b = with_terminal i (restarted_as c new t) b

-- the same of the network, with these TEIs
abbrev pub network_restarts : Configs → List ℕ → Bus → Bus
network_restarts c known b = record b {
  network = network_after c.network known b.network;
  delivered = b.delivered
      ++ losses b.network.served.links (new_network c.network known).served.links;
}

-- An event of a bus. One that is no restart is the same as in `lapd_side_events`.
abbrev pub step_across : Configs → BusEvent → Bus → Bus
step_across c (Join i new) b = terminal_restarts c i new (slice_get b.terminals i) b
step_across c (Restart known) b = network_restarts c known b
step_across c event b = bus_step c event b

abbrev pub after_across : Configs → List BusEvent → Bus → Bus
after_across c [] b = b
after_across c (e ∷ es) b = after_across c es (step_across c e b)

-- no side restarts in this event
abbrev pub RestartsNone : BusEvent → Type 0
RestartsNone (Join i new) = ⊥
RestartsNone (Restart known) = ⊥
RestartsNone event = Unit {0}

-- Each of these events has this property, in the bus that it happens on.
abbrev pub ThroughoutAcross : Configs → (BusEvent → Bus → Type 0) → List BusEvent → Bus → Type 0
ThroughoutAcross c P events b = ThroughoutBy (step_across c) P events b

-- ---- The changes of a terminal's interface that an event of the bus is.

-- of a restart of a terminal, this one or another
abbrev pub terminal_changes : Bool → NewTerminal → List Change
terminal_changes true new = UserRestarts new.fixed new.random ∷ []
terminal_changes false new = []

abbrev pub changes_of : ℕ → BusEvent → Bus → List Change
changes_of i (Join j new) b = terminal_changes (j == i) new
changes_of i (Restart known) b = NetworkRestarts known ∷ []
changes_of i event b = moved (moves_of i event b)

abbrev pub changes_along : Configs → ℕ → List BusEvent → Bus → List Change
changes_along c i [] b = []
changes_along c i (e ∷ es) b = changes_of i e b ++ changes_along c i es (step_across c e b)

-- After these events a terminal still exists at this index, and its interface is the one that the
-- changes lead to.
pub record FollowsAcross (c : Configs) (i : ℕ) (events : List BusEvent) (t : SideView User)
    (b : Bus) : Type 0 where
  pub terminal : SideView User
  pub there : slice_get (after_across c events b).terminals i ≡ Some terminal
  pub moved : interface_of terminal (after_across c events b)
      ≡ run_across c (changes_along c i events b) (interface_of t b)

-- ---- Code.

-- The terminal at this index restarts, and this code represents it after that.
pub record IsRestartedBy (c : Configs) (i : ℕ) (code : UserSide) (new : NewTerminal) (b : Bus) :
    Type 0 where
  pub terminal : SideView User
  pub there : slice_get (step_across c (Join i new) b).terminals i ≡ Some terminal
  pub shown : ShowUser code c.user terminal.now
