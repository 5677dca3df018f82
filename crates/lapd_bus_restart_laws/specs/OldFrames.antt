-- The premise on restarts of a terminal while old frames of a link are in transit to it, and a run
-- that shows that it is needed.
use Rattle.std.specs.Prelude.{◌≡◌, ℕ, List, [], ◌∷◌, slice_get, Some, None}
use Rattle.lapd_frame.specs.declared.Side.TheVariants as side
use Rattle.lapd_table.specs.declared.link_id.LinkId.{LinkId}
use Rattle.lapd_sides.specs.declared.request.Request.TheVariants as request
use Rattle.lapd_sides.specs.User.{User}
use Rattle.lapd_sides.specs.Worked as sides
use Rattle.lapd_side_events.specs.Bus.{Bus, BusEvent, OfTerminal, OfNetwork, Join, new_bus, from_now, bus_step, after_events}
use Rattle.lapd_side_events.specs.SideView.{SideView, Take, Ask}
use Rattle.lapd_two_side_laws.specs.Addressed.{those_for}
use Rattle.lapd_two_side_laws.specs.Schedule.{configs, call}
use Rattle.lapd_bus_laws.specs.Runs.{assigns_first, waiting_terminal, with_fixed_tei}

-- If the terminal at this index restarts with the link's TEI as its fixed one, and did not have the
-- link, no octets of the link are in transit to it.
abbrev pub RestartsClear : LinkId → ℕ → BusEvent → Bus → Type 0
RestartsClear id i (Join j new) b = j ≡ i → new.fixed ≡ Some id.tei → (t : SideView User)
    → slice_get b.terminals i ≡ Some t → t.now.served.links id ≡ None
    → those_for side.Network id t.incoming ≡ []
RestartsClear id i other b = Unit {0}

-- ---- The premise is needed.

-- The terminal obtains TEI 64, and gives it up while the network's SABME is in transit to it. The
-- network removes the TEI, and the terminal requests one again.
abbrev pub leaves_old_frame : List BusEvent
leaves_old_frame = OfTerminal 0 (Ask request.AskTei 0) ∷ OfNetwork 0 (Take 0)
    ∷ OfTerminal 0 (Take 0) ∷ OfNetwork 0 (Ask (request.Establish call) 0)
    ∷ OfTerminal 0 (Ask (request.Remove 64) 0) ∷ OfNetwork 0 (Ask (request.Remove 64) 0)
    ∷ OfTerminal 0 (Ask request.AskTei 0) ∷ []

abbrev pub with_old_frame : Bus
with_old_frame = after_events configs leaves_old_frame
    (new_bus configs [] (waiting_terminal sides.random ∷ []))

-- the network assigns TEI 64 again
abbrev pub from_old_frame : Bus
from_old_frame = from_now (bus_step configs assigns_first with_old_frame)

-- The terminal restarts with TEI 64, and answers the old SABME. The network receives a UA that it
-- did not request.
abbrev pub answers_old_frame : List BusEvent
answers_old_frame = Join 0 (with_fixed_tei 64 sides.random) ∷ OfTerminal 0 (Take 0)
    ∷ OfNetwork 0 (Take 0) ∷ []
