-- A table as a map from SAPI and TEI to a link, by which its calls are specified.
use Rattle.std.specs.Prelude.{◌≡◌, ◌≢◌, ℕ, List, Option, Some, None, Result, Ok, Err, IsSome, IsSomeAnd, option_and_then, true, false, ⊤}
use Rattle.slab.specs.Slab as slab
use Rattle.lapd_frame.specs.declared.Side.{Side}
use Rattle.lapd_frame.specs.Address.{other_side}
use Rattle.lapd_frame.specs.declared.fault_kind.FaultKind.{FaultKind}
use Rattle.lapd_frame.specs.declared.Control.{Control}
use Rattle.lapd_frame.specs.declared.Role.{Role}
use Rattle.lapd_link.specs.Link.{LinkRepresents, Steps, Refuses}
use Rattle.lapd_link.specs.declared.link.Link.{Link}
use Rattle.lapd_frame.specs.Fault.{is_for_link}
use Rattle.lapd_link_definition.specs.declared.event.Event.{Event}
use Rattle.lapd_link_definition.specs.declared.event.Event.TheVariants as event
use Rattle.lapd_link_definition.specs.declared.event.LinkFault.{LinkFault}
use Rattle.lapd_link_definition.specs.declared.out.Out.{Out}
use Rattle.lapd_link_definition.specs.End.{End}
use Rattle.lapd_link_definition.specs.Input.{Input}
use Rattle.lapd_link_machine.specs.Given.{is_sent_at_once}
use Rattle.lapd_link_machine.specs.Predicted.{is_predicted}
use Rattle.lapd_table.specs.declared.link_id.LinkId.{LinkId}
use Rattle.lapd_table.specs.declared.link_key.LinkKey.{LinkKey}
use Rattle.lapd_table.specs.declared.link_table.LinkTable.{LinkTable}
use Rattle.lapd_table.specs.declared.table_fault.TableFault.{TableFault}
use Rattle.lapd_table.specs.declared.table_fault.TableFault.TheVariants.{NoLink, AlreadyThere, Memory, Discarded}
use Rattle.lapd_table.specs.LinkId.{id_of_address}
use Rattle.lapd_table.specs.Index.{key_of}
use Rattle.lapd_table.specs.Octets.{addressed}

-- the side that the links belong to
unfoldable pub side_of : LinkTable → Side
side_of table = table.side

-- the link with this SAPI and TEI, if it exists
unfoldable pub link_at : LinkTable → LinkId → Option Link
link_at table id = option_and_then (slab.get table.links) (key_of table.keys id)

-- the key names an existing link
unfoldable pub IsKey : LinkTable → LinkKey → Type 0
IsKey table key = key_of table.keys key.id ≡ Some key.place

-- ---- How the table changes.

-- One SAPI and TEI now has this link or none, and every other is unchanged.
pub record Changes (old new : LinkTable) (id : LinkId) (slot : Option Link) : Type 0 where
  pub side : side_of new ≡ side_of old
  pub there : link_at new id ≡ slot
  pub others : (other : LinkId) → other ≢ id → link_at new other ≡ link_at old other

pub record IsUnchanged (old new : LinkTable) : Type 0 where
  pub side : side_of new ≡ side_of old
  pub links : (id : LinkId) → link_at new id ≡ link_at old id

-- ---- The step of one link.

-- The existing link takes its own step, with these outputs in order, and no other link changes.
pub record StepsAt (old new : LinkTable) (id : LinkId) (input : Input) (outs : List Out) :
    Type 0 where
  pub before : Link
  pub after : Link
  pub was : link_at old id ≡ Some before
  pub steps : Steps before after input outs
  pub changes : Changes old new id (Some after)

-- the existing link refuses
abbrev pub RefusesAt : LinkTable → LinkId → Input → LinkFault → Type 0
RefusesAt table id input fault = IsSomeAnd (link_at table id) (λ link. Refuses link input fault)

-- ---- A step that is not made, because the general one is to be.

-- this frame makes no predicted step of the existing link
abbrev pub NotPredictedAt : LinkTable → LinkId → Control → Role → Type 0
NotPredictedAt table id control role = IsSomeAnd (link_at table id)
    (λ link. (e : End) → LinkRepresents link e → is_predicted control role e ≡ false)

-- the existing link does not send this message at once
abbrev pub NotAtOnceAt : LinkTable → LinkId → List ℕ → Type 0
NotAtOnceAt table id message = IsSomeAnd (link_at table id)
    (λ link. (e : End) → LinkRepresents link e → is_sent_at_once message e ≡ false)

-- ---- Events.

-- the event is for the link with this SAPI and TEI: a frame with its address, or a fault that
-- concerns a link (F4 to F7)
abbrev pub IsFor : LinkId → Event → Type 0
IsFor id (event.Heard frame) = id_of_address frame.now.address ≡ id
IsFor id (event.Fault kind) = is_for_link kind ≡ true
IsFor id other = ⊤

-- ---- Octets from the line.

-- what octets from the other side mean for a table: the link that they are for, with its input, or
-- why they are for none
abbrev pub arrives : LinkTable → List ℕ → Result (LinkId × Input) FaultKind
arrives table octets = addressed (other_side (side_of table)) octets

-- the octets are for this link, which takes its step
pub record HasDispatched (old new : LinkTable) (octets : List ℕ) (id : LinkId) (outs : List Out) :
    Type 0 where
  pub input : Input
  pub arrived : arrives old octets ≡ Ok (id, input)
  pub steps : StepsAt old new id input outs

-- the octets are for a link that does not exist, or for none
abbrev pub IsForNoLink : LinkTable → List ℕ → TableFault → Type 0
IsForNoLink table octets NoLink = (id : LinkId) × (input : Input)
    × (arrives table octets ≡ Ok (id, input)) × (link_at table id ≡ None)
IsForNoLink table octets (Discarded kind) = arrives table octets ≡ Err kind
IsForNoLink table octets AlreadyThere = ⊥
IsForNoLink table octets Memory = ⊥

-- ---- Adding a link.

-- why a link with this SAPI and TEI is not added: one already exists; or none did, and an
-- allocation failed
abbrev pub IsNotAdded : LinkTable → LinkId → TableFault → Type 0
IsNotAdded table id AlreadyThere = IsSome (link_at table id)
IsNotAdded table id Memory = link_at table id ≡ None
IsNotAdded table id NoLink = ⊥
IsNotAdded table id (Discarded kind) = ⊥
