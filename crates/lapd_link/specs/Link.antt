-- The end that a link represents, and the terms in which its calls are stated.
use Rattle.std.specs.Prelude.{◌≡◌, ◌==◌, ◌&&◌, List, [], Bool, true, Ok, Err, ⊤}
use Rattle.lapd_mod128.specs.Counting.{Tagged}
use Rattle.lapd_frame.specs.declared.Side.{Side}
use Rattle.lapd_frame.specs.declared.Sapi.{Sapi}
use Rattle.lapd_frame.specs.declared.Tei.{Tei}
use Rattle.lapd_frame.specs.declared.Address.{Address}
use Rattle.lapd_frame.specs.Address.{sapi_value}
use Rattle.lapd_frame.specs.Fault.{is_for_link}
use Rattle.lapd_link_definition.specs.declared.event.Event.{Event}
use Rattle.lapd_link_definition.specs.declared.event.Event.TheVariants as event
use Rattle.lapd_link_definition.specs.declared.event.LinkFault.{LinkFault}
use Rattle.lapd_link_definition.specs.declared.out.Out.{Out}
use Rattle.lapd_link_definition.specs.End.{End, StepState, begin}
use Rattle.lapd_link_definition.specs.Input.{Input}
use Rattle.lapd_link_definition.specs.Table.{step}
use Rattle.lapd_link.specs.declared.link.Link.{Link}
use Rattle.lapd_link_machine.specs.Represents.{Represents}

-- A link represents an end between two steps. Messages before those in its queue do not matter.
abbrev pub LinkRepresents : Link → End → Type 0
LinkRepresents link e = Represents link.machine [] (begin e)

-- the link's side, SAPI and TEI, which no step changes
pub record Setup : Type 0 where
  pub side : Side
  pub sapi : Sapi
  pub tei : Tei

abbrev pub setup_of : Link → Setup
setup_of link = record { side = link.side; sapi = link.sapi; tei = link.tei }

-- the address is the link's
abbrev pub is_address_of : Setup → Address → Bool
is_address_of setup a = (sapi_value setup.sapi == sapi_value a.sapi) && (setup.tei == a.tei)

-- an event for the link: a frame with its address, or a fault for a link (F4 to F7)
abbrev pub IsForLink : Link → Event → Type 0
IsForLink link (event.Heard frame) = is_address_of (setup_of link) frame.now.address ≡ true
IsForLink link (event.Fault kind) = is_for_link kind ≡ true
IsForLink link other = ⊤

-- a step of the table: its outputs, in order, and a link that represents the end after it
abbrev pub Steps : Link → Link → Input → List Out → Type 0
Steps old new input outs = (e : End) → LinkRepresents old e
    → (s : StepState) × (step Tagged input e ≡ Ok s) × (s.outs ≡ outs) × LinkRepresents new s.end

-- the table refuses the input
abbrev pub Refuses : Link → Input → LinkFault → Type 0
Refuses link input fault = (e : End) → LinkRepresents link e → step Tagged input e ≡ Err fault
