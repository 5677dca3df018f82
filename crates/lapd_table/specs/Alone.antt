-- Compares a table, as the ends of its links, with a link alone. After any list of inputs, a link
-- in the table is the same as a link alone after its part of them, and sends the same.
use Rattle.std.specs.Prelude.{◌≡◌, ℕ, List, [], ◌∷◌, ◌++◌, if◌then◌else◌, Option, Some, None, option_map, Result, Ok, Err}
use Rattle.lapd_mod128.specs.Counting.{Tagged}
use Rattle.lapd_frame.specs.declared.Side.{Side}
use Rattle.lapd_frame.specs.Address.{other_side}
use Rattle.lapd_frame.specs.declared.fault_kind.FaultKind.{FaultKind}
use Rattle.lapd_link.specs.Link.{LinkRepresents}
use Rattle.lapd_link.specs.declared.link.Link.{Link}
use Rattle.lapd_link_definition.specs.declared.event.LinkFault.{LinkFault}
use Rattle.lapd_link_definition.specs.declared.out.Out.{Out}
use Rattle.lapd_link_definition.specs.End.{End, StepState}
use Rattle.lapd_link_definition.specs.Input.{Input}
use Rattle.lapd_link_definition.specs.Table.{step}
use Rattle.lapd_table.specs.declared.link_id.LinkId.{LinkId}
use Rattle.lapd_table.specs.declared.link_table.LinkTable.{LinkTable}
use Rattle.lapd_table.specs.LinkId.{id_eq}
use Rattle.lapd_table.specs.LinkTable.{side_of, link_at}
use Rattle.lapd_table.specs.Octets.{addressed}

-- ---- Inputs.

-- an arrival at a table: octets from the line, or a request or an expired timer of one link
pub data Arrival : Type 0 where
  Octets : (octets : List ℕ) → Arrival
  Asked : (id : LinkId) → (input : Input) → Arrival

-- the link that received octets are for, with its input; `None` if they are discarded
abbrev pub event_for : Result (LinkId × Input) FaultKind → Option (LinkId × Input)
event_for (Ok named) = Some named
event_for (Err kind) = None

-- the link that an arrival is for, with its input
abbrev pub named : Side → Arrival → Option (LinkId × Input)
named side (Octets octets) = event_for (addressed (other_side side) octets)
named side (Asked id input) = Some (id, input)

-- prepends an input if it is for this link
abbrev pub if_for : LinkId → Option (LinkId × Input) → List Input → List Input
if_for id None inputs = inputs
if_for id (Some (other, input)) inputs = if id_eq id other then input ∷ inputs else inputs

-- the inputs of a list that are for this link
abbrev pub part_of : Side → LinkId → List Arrival → List Input
part_of side id [] = []
part_of side id (arrival ∷ arrivals) = if_for id (named side arrival) (part_of side id arrivals)

-- ---- A link alone.

-- the end after a step, and its outputs; a refused input changes nothing
abbrev pub end_by : End → Result StepState LinkFault → End
end_by e (Ok s) = s.end
end_by e (Err fault) = e

abbrev pub outs_by : Result StepState LinkFault → List Out
outs_by (Ok s) = s.outs
outs_by (Err fault) = []

abbrev pub after : Input → End → End
after input e = end_by e (step Tagged input e)

abbrev pub sent : Input → End → List Out
sent input e = outs_by (step Tagged input e)

abbrev pub after_all : List Input → End → End
after_all [] e = e
after_all (input ∷ inputs) e = after_all inputs (after input e)

abbrev pub sent_by_all : List Input → End → List Out
sent_by_all [] e = []
sent_by_all (input ∷ inputs) e = sent input e ++ sent_by_all inputs (after input e)

-- ---- A table.

-- the end of each link
abbrev pub Ends : Type 0
Ends = LinkId → Option End

-- the addressed end takes a step, and all others are unchanged
abbrev pub ends_after : Option (LinkId × Input) → Ends → Ends
ends_after None ends other = ends other
ends_after (Some (id, input)) ends other = if id_eq other id
    then option_map (after input) (ends other) else ends other

-- the outputs of a link with this end, for an input of its own
abbrev pub sent_at : Option End → Input → List Out
sent_at None input = []
sent_at (Some e) input = sent input e

abbrev pub sent_for : LinkId → Option (LinkId × Input) → Ends → List Out
sent_for id None ends = []
sent_for id (Some (other, input)) ends = if id_eq id other then sent_at (ends other) input else []

abbrev pub table_step : Side → Arrival → Ends → Ends
table_step side arrival ends = ends_after (named side arrival) ends

abbrev pub table_run : Side → List Arrival → Ends → Ends
table_run side [] ends = ends
table_run side (arrival ∷ arrivals) ends = table_run side arrivals (table_step side arrival ends)

-- all outputs of a run for one link
abbrev pub run_sends : LinkId → Side → List Arrival → Ends → List Out
run_sends id side [] ends = []
run_sends id side (arrival ∷ arrivals) ends = sent_for id (named side arrival) ends
    ++ run_sends id side arrivals (table_step side arrival ends)

-- ---- The law.

-- for a link that is in the table at the start
pub record IsAsAlone (side : Side) (arrivals : List Arrival) (ends : Ends) (id : LinkId) (e : End) :
    Type 0 where
  pub end : table_run side arrivals ends id ≡ Some (after_all (part_of side id arrivals) e)
  pub sent : run_sends id side arrivals ends ≡ sent_by_all (part_of side id arrivals) e

-- ---- The ends that a table in code represents, and its calls as steps.

-- this link represents this end, or neither exists
abbrev pub IsEndOf : Option Link → Option End → Type 0
IsEndOf None None = Unit {0}
IsEndOf (Some link) (Some e) = LinkRepresents link e
IsEndOf link e = ⊥

abbrev pub ShowsEnds : LinkTable → Ends → Type 0
ShowsEnds table ends = (id : LinkId) → IsEndOf (link_at table id) (ends id)

-- Whatever ends the table represented before, it now represents those after one step, and these
-- outputs are sent for the link with this SAPI and TEI.
pub record Follows (old new : LinkTable) (arrival : Arrival) (id : LinkId) (outs : List Out) :
    Type 0 where
  pub ends : (ends : Ends) → ShowsEnds old ends
      → ShowsEnds new (table_step (side_of old) arrival ends)
  pub sent : (ends : Ends) → ShowsEnds old ends
      → sent_for id (named (side_of old) arrival) ends ≡ outs
