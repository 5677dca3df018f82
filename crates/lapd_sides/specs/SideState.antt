-- A side of an interface, network or user: its links and its TEI management, and the effects of
-- octets, a timer or a request. What differs between the two sides is a record of rules.
use Rattle.std.specs.Prelude.{ℕ, if◌then◌else◌, Bool, false, List, [], ◌∷◌, Option, Some, None, Result, Ok, Err}
use Rattle.lapd_timers.specs.declared.timer.Timer.{Timer}
use Rattle.lapd_frame.specs.declared.Sapi.{Sapi}
use Rattle.lapd_frame.specs.declared.Side.{Side}
use Rattle.lapd_frame.specs.declared.Address.{Address}
use Rattle.lapd_frame.specs.declared.frame_fault.FrameFault.{FrameFault}
use Rattle.lapd_frame.specs.declared.fault_kind.FaultKind.{FaultKind}
use Rattle.lapd_frame.specs.Address.{other_side}
use Rattle.lapd_frame.specs.Frame.{Fields}
use Rattle.lapd_frame.specs.Reading.{frame_at}
use Rattle.lapd_link_definition.specs.Input.{Input, Heard, Faulty}
use Rattle.lapd_tei.specs.declared.message.TeiMessage.{TeiMessage}
use Rattle.lapd_tei.specs.declared.fault.TeiFault.{TeiFault}
use Rattle.lapd_tei.specs.Message.{group_tei, message_at}
use Rattle.lapd_table.specs.declared.link_id.LinkId.{LinkId}
use Rattle.lapd_table.specs.LinkId.{id_of_address}
use Rattle.lapd_sides_links.specs.declared.config.Config.{Config}
use Rattle.lapd_sides_links.specs.declared.primitive.Primitive.{Primitive}
use Rattle.lapd_sides_links.specs.declared.primitive.Primitive.TheVariants.{Of}
use Rattle.lapd_sides_links.specs.declared.primitive.What.{What}
use Rattle.lapd_sides_links.specs.declared.primitive.What.TheVariants as what
use Rattle.lapd_sides_links.specs.declared.side_fault.SideKind.{SideKind}
use Rattle.lapd_sides_links.specs.Effects.{no_effects, stopped}
use Rattle.lapd_sides_links.specs.Links.{Links, Reaction, Served, gives_at_once, of_sapi, in_links, link_acts, link_expires}
use Rattle.lapd_sides.specs.declared.request.Request.{Request}
use Rattle.lapd_sides.specs.Management.{carries_message, one_more}

-- the state of a side whose TEI management has the state M, with the number of frames that it has
-- discarded
pub record SideState (M : Type 0) : Type 0 where
  pub served : Served
  pub management : M
  pub discarded : ℕ

-- what differs between the network side and a user side
pub record Rules (M : Type 0) : Type 0 where
  pub side : Side
  -- TEI management receives a message, and assigns or obtains this TEI by it; its timer expires
  pub hears : Config → ℕ → TeiMessage → SideState M → Reaction (SideState M)
  pub given : M → TeiMessage → Option ℕ
  pub times_out : Config → ℕ → SideState M → Reaction (SideState M)
  -- whether a frame is unit data to all terminals, which no link receives
  pub is_for_layer_3 : Config → Fields → Bool
  -- executes or refuses a request
  pub requested : Config → Request → ℕ → SideState M → Result (Reaction (SideState M)) SideKind
  -- the link that a caller means who names this one, if any
  pub link_of_call : M → LinkId → Option LinkId

-- nothing happens
abbrev pub unmoved : {M : Type 0} → SideState M → Reaction (SideState M)
unmoved s = record { after = s; effects = no_effects }

-- discards a frame, and counts it
abbrev pub discards : {M : Type 0} → SideState M → Reaction (SideState M)
discards s = record { after = record s { discarded = one_more s.discarded }; effects = no_effects }

-- ---- A link.

abbrev pub with_links : {M : Type 0} → SideState M → Reaction Links → Reaction (SideState M)
with_links s a = record {
  after = record s { served = record { links = a.after; timers = s.served.timers } };
  effects = a.effects;
}

abbrev pub among_links : {M : Type 0} → SideState M → Result (Reaction Links) SideKind
    → Result (Reaction (SideState M)) SideKind
among_links s (Ok a) = Ok (with_links s a)
among_links s (Err kind) = Err kind

unfoldable pub link_of : {M : Type 0} → Side → ℕ → LinkId → Input → List ℕ → SideState M
    → Result (Reaction (SideState M)) SideKind
link_of side now id input octets s =
    among_links s (in_links id (link_acts side id now input octets) s.served.links)

-- a frame for no link is discarded
abbrev pub or_discarded : {M : Type 0} → SideState M → Result (Reaction (SideState M)) SideKind
    → Reaction (SideState M)
or_discarded s (Ok a) = a
or_discarded s (Err kind) = discards s

-- a link that does not exist has no timer to expire, and cannot be established
abbrev pub or_unmoved : {M : Type 0} → SideState M → Result (Reaction (SideState M)) SideKind
    → Reaction (SideState M)
or_unmoved s (Ok a) = a
or_unmoved s (Err kind) = unmoved s

-- ---- Octets from the line.

-- octets that do not form a TEI message are ignored
abbrev pub message_received : {M : Type 0} → Rules M → Config → ℕ → Result TeiMessage TeiFault
    → SideState M → Reaction (SideState M)
message_received rules config now (Ok message) s = rules.hears config now message s
message_received rules config now (Err fault) s = unmoved s

-- a primitive of a SAPI without a TEI names the group TEI
abbrev pub primitive_of_group : Sapi → What → List Primitive
primitive_of_group sapi w = Of (of_sapi sapi group_tei) w ∷ []

-- unit data to all terminals, of a SAPI that is served (Q.921 5.2)
abbrev pub unit_from_group : {M : Type 0} → Sapi → List ℕ → SideState M → Reaction (SideState M)
unit_from_group sapi octets s = record {
  after = s;
  effects = record no_effects { primitives = primitive_of_group sapi (what.UnitUp octets) };
}

-- a frame that is not a TEI message: unit data to all terminals, or a frame for the link that it is
-- addressed to
abbrev pub data_received : {M : Type 0} → Rules M → Config → ℕ → Fields → SideState M
    → Reaction (SideState M)
data_received rules config now frame s =
    if rules.is_for_layer_3 config frame then unit_from_group frame.address.sapi frame.info s
    else or_discarded s (link_of rules.side now (id_of_address frame.address)
    (Heard frame.control frame.address.role) frame.info s)

abbrev pub frame_received : {M : Type 0} → Rules M → Config → ℕ → Fields → SideState M
    → Reaction (SideState M)
frame_received rules config now frame s =
    if carries_message frame then message_received rules config now (message_at frame.info) s
    else data_received rules config now frame s

-- a fault of a frame for a link (F4 to F7), or of octets for none (F1 to F3)
abbrev pub fault_received : {M : Type 0} → Side → ℕ → FaultKind → Option Address → SideState M
    → Reaction (SideState M)
fault_received side now kind None s = discards s
fault_received side now kind (Some address) s =
    or_discarded s (link_of side now (id_of_address address) (Faulty kind) [] s)

abbrev pub received : {M : Type 0} → Rules M → Config → ℕ → Result Fields FrameFault
    → SideState M → Reaction (SideState M)
received rules config now (Ok frame) s = frame_received rules config now frame s
received rules config now (Err fault) s = fault_received rules.side now fault.kind fault.address s

unfoldable pub takes : {M : Type 0} → Rules M → Config → List ℕ → ℕ → SideState M
    → Reaction (SideState M)
takes rules config octets now s =
    received rules config now (frame_at (other_side rules.side) octets) s

-- The TEI that is assigned or obtained because of these octets, if any: its links are added, which
-- is the only allocation.
abbrev pub given_for_message : {M : Type 0} → Rules M → M → Result TeiMessage TeiFault → Option ℕ
given_for_message rules m (Ok message) = rules.given m message
given_for_message rules m (Err fault) = None

abbrev pub given_for_frame : {M : Type 0} → Rules M → M → Result Fields FrameFault → Option ℕ
given_for_frame rules m (Ok frame) =
    if carries_message frame then given_for_message rules m (message_at frame.info) else None
given_for_frame rules m (Err fault) = None

unfoldable pub given_for : {M : Type 0} → Rules M → M → List ℕ → Option ℕ
given_for rules m octets = given_for_frame rules m (frame_at (other_side rules.side) octets)

-- ---- Expiry of a timer.

-- the state in which the timer of TEI management is stopped
abbrev pub with_stopped : {M : Type 0} → Timer → SideState M → SideState M
with_stopped timer s = record s {
  served = record { links = s.served.links; timers = stopped timer s.served.timers };
}

unfoldable pub expires : {M : Type 0} → Rules M → Config → ℕ → Timer → Option LinkId → SideState M
    → Reaction (SideState M)
expires rules config now timer None s = rules.times_out config now (with_stopped timer s)
expires rules config now timer (Some id) s = or_unmoved s
    (among_links s (in_links id (link_expires rules.side id now timer) s.served.links))

-- ---- Messages.

-- the link that is meant, if any, sends a message with these octets at once
abbrev pub sends_at_once : Option LinkId → List ℕ → Links → Bool
sends_at_once None octets links = false
sends_at_once (Some id) octets links = gives_at_once octets (links id)
