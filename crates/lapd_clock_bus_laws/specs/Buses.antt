-- The premises of a bus that are not about the clock. T200 of a link is timely by the clock of its
-- terminal's interface.
use Rattle.std.specs.Prelude.{◌≡◌, ℕ, true, List, [], ◌∷◌, slice_get, is_some, Vec}
use Rattle.std.specs.declared.alloc.Global.{Global}
use Rattle.lapd_sides.specs.declared.request.Request.TheVariants as request
use Rattle.lapd_sides.specs.User.{User}
use Rattle.lapd_sides.specs.Worked as sides
use Rattle.lapd_side_events.specs.Bus.{Bus, BusEvent, OfTerminal, OfNetwork, connected}
use Rattle.lapd_side_events.specs.Interface.{Configs}
use Rattle.lapd_side_events.specs.SideView.{SideView, Take, Ask}
use Rattle.lapd_two_side_laws.specs.Schedule.{configs}
use Rattle.lapd_table.specs.declared.link_id.LinkId.{LinkId}
use Rattle.lapd_bus_laws.specs.Holdings.{LeavesAlone, RequestsUnanswered}
use Rattle.lapd_bus_laws.specs.Links.{AssignsOthers}
use Rattle.lapd_bus_laws.specs.Runs.{fixed_call, with_fixed_tei}

-- an event of the network names the line of a terminal that exists
abbrev pub HasLine : BusEvent → Bus → Type 0
HasLine (OfNetwork j event) b = is_some (slice_get b.terminals j) ≡ true
HasLine event b = Unit {0}

-- the premises of one event in a holding of the TEI (`KeepsHolding`), but that T200 waits
pub record KeepsTei (c : Configs) (id : LinkId) (i : ℕ) (e : BusEvent) (b : Bus) : Type 0 where
  pub leaves : LeavesAlone id.tei i e
  pub assigns : AssignsOthers c id.tei e b
  pub requests : RequestsUnanswered c e b
  pub line : HasLine e b

-- ---- A worked run.

-- the first of two terminals with the fixed TEIs 0 and 1
abbrev pub first_terminal : SideView User
first_terminal = connected configs (with_fixed_tei 0 sides.random)

-- Each frame of the first terminal's link is in transit for 500 ms. The network overhears the SABME
-- of the second terminal, and its answer goes to both. A message is received and acknowledged.
abbrev pub bus_at_half : Vec ℕ Global → List BusEvent
bus_at_half message = OfTerminal 0 (Ask (request.Establish fixed_call) 0)
    ∷ OfNetwork 0 (Take 500) ∷ OfTerminal 1 (Ask (request.Establish fixed_call) 600)
    ∷ OfTerminal 0 (Take 1000) ∷ OfNetwork 1 (Take 1000)
    ∷ OfTerminal 0 (Ask (request.Give fixed_call message) 1000) ∷ OfNetwork 0 (Take 1500)
    ∷ OfTerminal 0 (Take 1500) ∷ OfTerminal 0 (Take 2000) ∷ []
