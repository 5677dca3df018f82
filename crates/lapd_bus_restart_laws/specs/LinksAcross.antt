-- The premises on one link between the network and one terminal of a bus whose sides also restart.
use Rattle.std.specs.Prelude.{◌≡◌, ℕ, slice_get, Some}
use Rattle.lapd_frame.specs.declared.Side.TheVariants as side
use Rattle.lapd_table.specs.declared.link_id.LinkId.{LinkId}
use Rattle.lapd_sides.specs.Network.{new_network}
use Rattle.lapd_sides.specs.User.{User, new_user}
use Rattle.lapd_side_events.specs.Interface.{Configs}
use Rattle.lapd_side_events.specs.SideView.{SideView}
use Rattle.lapd_side_events.specs.Bus.{Bus, BusEvent, Join, Restart, on_line_of}
use Rattle.lapd_bus_laws.specs.Holdings.{IsOfBus}
use Rattle.lapd_bus_laws.specs.Links.{IsTimelyFor, AssignsOnce, ObtainsOnce}
use Rattle.lapd_restart_laws.specs.RestartPremises.{IsQuick}

-- The terminal at this index does not obtain the TEI while it has the link, nor after it lost the
-- TEI. No other terminal obtains it or restarts with it.
abbrev pub ObtainsOnceAcross : Configs → LinkId → ℕ → BusEvent → Bus → Type 0
ObtainsOnceAcross c id i (Join j new) b = (j ≡ i → ⊥) → new.fixed ≡ Some id.tei → ⊥
ObtainsOnceAcross c id i event b = ObtainsOnce c id i event b

-- If the network or the terminal at this index has the link before and after a restart, no exchange
-- of the link is in transit. It does not have the link again after its TEI was removed.
abbrev pub RestartsQuickly : Configs → LinkId → ℕ → BusEvent → Bus → Type 0
RestartsQuickly c id i (Join j new) b = j ≡ i → (t : SideView User)
    → slice_get b.terminals i ≡ Some t
    → IsQuick side.User id t.now.served.links
    (new_user c.user new.fixed new.random).served.links t
RestartsQuickly c id i (Restart known) b = (t : SideView User) → slice_get b.terminals i ≡ Some t
    → IsQuick side.Network id b.network.served.links
    (new_network c.network known).served.links (on_line_of t b)
RestartsQuickly c id i other b = Unit {0}

-- The premises of one event on the link of the terminal at this index. Besides, T200 of the link
-- waits for its answer.
pub record KeepsLink (c : Configs) (id : LinkId) (i : ℕ) (e : BusEvent) (b : Bus) : Type 0 where
  pub of_bus : IsOfBus e
  pub timely : IsTimelyFor id i e b
  pub assigns : AssignsOnce c id e b
  pub obtains : ObtainsOnceAcross c id i e b
  pub quick : RestartsQuickly c id i e b
