-- The links of a side, each with its timers, and the effect of one step of a link. The step itself
-- is that of the state table.
use Rattle.std.specs.Prelude.{ℕ, ◌==◌, ◌&&◌, nat_lt, if◌then◌else◌, Bool, true, false, List, [], ◌∷◌, ◌++◌, Option, Some, None, option_map, Result, Ok, Err, ⊤}
use Rattle.lapd_timers.specs.declared.timer.Timer.{Timer}
use Rattle.lapd_timers.specs.declared.timer.Timer.TheVariants.{T200, T201, T202, T203}
use Rattle.lapd_timers.specs.Due.{Timers, all_stopped, with_durations}
use Rattle.lapd_timers.specs.Durations.{Lengths}
use Rattle.lapd_frame.specs.declared.Control.{Control}
use Rattle.lapd_frame.specs.declared.Role.{Role}
use Rattle.lapd_frame.specs.declared.Sapi.{Sapi}
use Rattle.lapd_frame.specs.declared.Sapi.TheVariants.{Call, Packet, Management}
use Rattle.lapd_frame.specs.declared.Side.{Side}
use Rattle.lapd_mod128.specs.Counting.{Tagged}
use Rattle.lapd_link_definition.specs.declared.event.LinkFault.{LinkFault}
use Rattle.lapd_link_definition.specs.declared.state.State.{State}
use Rattle.lapd_link_definition.specs.declared.state.State.TheVariants as state
use Rattle.lapd_link_definition.specs.End.{End, StepState, new_end}
use Rattle.lapd_link_definition.specs.Input.{Input, Expiry}
use Rattle.lapd_link_definition.specs.Parameters.{Parameters}
use Rattle.lapd_link_definition.specs.Table.{step}
use Rattle.lapd_link_machine.specs.Given.{is_sent_at_once}
use Rattle.lapd_link_machine.specs.Predicted.{is_predicted}
use Rattle.lapd_tei.specs.Assigner.{is_held}
use Rattle.lapd_tei.specs.Message.{group_tei}
use Rattle.lapd_table.specs.declared.link_id.LinkId.{LinkId}
use Rattle.lapd_table.specs.LinkId.{id_eq}
use Rattle.lapd_sides_links.specs.declared.config.Config.{Config}
use Rattle.lapd_sides_links.specs.declared.primitive.Primitive.{Primitive}
use Rattle.lapd_sides_links.specs.declared.primitive.Primitive.TheVariants.{Of}
use Rattle.lapd_sides_links.specs.declared.primitive.What.{What}
use Rattle.lapd_sides_links.specs.declared.primitive.What.TheVariants as what
use Rattle.lapd_sides_links.specs.declared.side_fault.SideKind.{SideKind}
use Rattle.lapd_sides_links.specs.declared.side_fault.SideKind.TheVariants.{NoLink, Link}
use Rattle.lapd_sides_links.specs.Effects.{Effects, effects_of_link, timed, stopped}

-- a link: its end of the state table, and its timers
pub record Linked : Type 0 where
  pub end : End
  pub timers : Timers

-- the existing links, by their ids
abbrev pub Links : Type 0
Links = LinkId → Option Linked

-- the common part of both sides: their links, and the timers of TEI management
pub record Served : Type 0 where
  pub links : Links
  pub timers : Timers

-- the state after a step, and its effects
pub record Reaction (S : Type 0) : Type 0 where
  pub after : S
  pub effects : Effects

-- ---- Ids.

abbrev pub of_sapi : Sapi → ℕ → LinkId
of_sapi sapi tei = record { sapi = sapi; tei = tei }

-- call control is served, and packet communication if it is enabled; management has no links (Q.921
-- Table 2)
abbrev pub is_served : Config → Sapi → Bool
is_served config Call = true
is_served config Packet = config.sapi16
is_served config Management = false

abbrev pub parameters_for : Config → Sapi → Parameters
parameters_for config Packet = config.params16
parameters_for config sapi = config.params0

-- ---- One step of one link.

-- The result of the state table for an input, with its effects. `octets` are the information of the
-- received frame, or the unit data to send.
abbrev pub acted : Side → LinkId → ℕ → List ℕ → Timers → Result StepState LinkFault
    → Result (Reaction Linked) LinkFault
acted side id now octets timers (Ok s) =
    Ok (record {
      after = record { end = s.end; timers = timed now s.outs timers };
      effects = effects_of_link side id s.end octets s.outs;
    })
acted side id now octets timers (Err fault) = Err fault

unfoldable pub link_acts : Side → LinkId → ℕ → Input → List ℕ → Linked
    → Result (Reaction Linked) LinkFault
link_acts side id now input octets l = acted side id now octets l.timers (step Tagged input l.end)

-- a link has T200 and T203
abbrev pub IsOfLink : Timer → Type 0
IsOfLink T200 = ⊤
IsOfLink T201 = ⊥
IsOfLink T202 = ⊥
IsOfLink T203 = ⊤

-- a timer that has expired no longer runs
abbrev pub expired : Timer → Linked → Linked
expired timer l = record l { timers = stopped timer l.timers }

unfoldable pub link_expires : Side → LinkId → ℕ → Timer → Linked
    → Result (Reaction Linked) LinkFault
link_expires side id now timer l = link_acts side id now (Expiry timer) [] (expired timer l)

-- ---- One link among the others.

-- sets one link, and leaves all others unchanged
abbrev pub with_link : LinkId → Option Linked → Links → Links
with_link id l links = λ other. if id_eq other id then l else links other

abbrev pub in_place : LinkId → Links → Result (Reaction Linked) LinkFault
    → Result (Reaction Links) SideKind
in_place id links (Ok a) = Ok (record {
  after = with_link id (Some a.after) links;
  effects = a.effects;
})
in_place id links (Err fault) = Err (Link fault)

-- a step of a link, if the link exists
abbrev pub where_there : LinkId → Links → Option Linked
    → (Linked → Result (Reaction Linked) LinkFault) → Result (Reaction Links) SideKind
where_there id links None does = Err NoLink
where_there id links (Some l) does = in_place id links (does l)

unfoldable pub in_links : LinkId → (Linked → Result (Reaction Linked) LinkFault) → Links
    → Result (Reaction Links) SideKind
in_links id does links = where_there id links (links id) does

-- ---- Predicted steps, and messages that are sent at once.

-- the link exists, and this frame makes a predicted step of it
abbrev pub predicts : Control → Role → Option Linked → Bool
predicts control role None = false
predicts control role (Some l) = is_predicted control role l.end

-- the link exists, and sends this message at once
abbrev pub gives_at_once : List ℕ → Option Linked → Bool
gives_at_once message None = false
gives_at_once message (Some l) = is_sent_at_once message l.end

-- ---- Durations.

-- the timers of the links run this long when they are started from then on
abbrev pub linked_with_durations : Lengths → Linked → Linked
linked_with_durations durations l = record l { timers = with_durations durations l.timers }

abbrev pub links_with_durations : Lengths → Links → Links
links_with_durations durations links = λ id. option_map (linked_with_durations durations) (links id)

-- and that of TEI management
abbrev pub served_with_durations : Lengths → Served → Served
served_with_durations durations s = record {
  links = links_with_durations durations s.links;
  timers = with_durations durations s.timers;
}

-- ---- Links are added and removed with their TEI (Q.921 5.3).

-- a new link, in state 4, with no timer running
abbrev pub new_linked : Parameters → Lengths → Linked
new_linked parameters lengths = record { end = new_end parameters; timers = all_stopped lengths }

-- the existing link, or else the new one
abbrev pub or_new : Linked → Option Linked → Option Linked
or_new new None = Some new
or_new new (Some l) = Some l

-- adds a link, unless one with this id exists
abbrev pub with_new_link : LinkId → Linked → Links → Links
with_new_link id new links = λ other. if id_eq other id then or_new new (links other)
    else links other

-- the links of a TEI: of SAPI 0, and of SAPI 16 if it is served
abbrev pub is_link_of : Config → ℕ → LinkId → Bool
is_link_of config tei id = is_served config id.sapi && (id.tei == tei)

unfoldable pub with_tei : Config → ℕ → Links → Links
with_tei config tei links = λ id. if is_link_of config tei id
    then or_new (new_linked (parameters_for config id.sapi) config.durations) (links id)
    else links id

unfoldable pub without_tei : ℕ → Links → Links
without_tei tei links = λ id. if id.tei == tei then None else links id

-- The release that is reported to layer 3 when a link is removed: a confirm if a release was
-- requested; nothing if the link was released before.
abbrev pub release_at_removal : State → Bool → Option What
release_at_removal state.TeiAssigned release_pending = None
release_at_removal state.AwaitingEstablishment true = Some what.ReleaseConfirm
release_at_removal state.AwaitingEstablishment false = Some what.Released
release_at_removal state.AwaitingRelease release_pending = Some what.ReleaseConfirm
release_at_removal state.MultipleFrameEstablished release_pending = Some what.Released
release_at_removal state.TimerRecovery release_pending = Some what.Released

abbrev pub primitives_of : LinkId → Option What → List Primitive
primitives_of id None = []
primitives_of id (Some w) = Of id w ∷ []

abbrev pub primitives_at_removal : LinkId → Option Linked → List Primitive
primitives_at_removal id None = []
primitives_at_removal id (Some l) = primitives_of id
    (release_at_removal l.end.state l.end.release_pending)

-- the releases of both links of a TEI, by ascending SAPI
unfoldable pub primitive_of_tei : ℕ → Links → List Primitive
primitive_of_tei tei links = primitives_at_removal (of_sapi Call tei) (links (of_sapi Call tei))
    ++ primitives_at_removal (of_sapi Packet tei) (links (of_sapi Packet tei))

-- no links
abbrev pub no_links : Links
no_links = λ id. None

-- the TEIs below n that are held
abbrev pub is_held_below : List Bool → ℕ → ℕ → Bool
is_held_below held n tei = nat_lt tei n && is_held held tei

unfoldable pub links_below : Config → List Bool → ℕ → Links
links_below config held n = λ id. if is_served config id.sapi && is_held_below held n id.tei
    then Some (new_linked (parameters_for config id.sapi) config.durations) else None

-- the links of all held TEIs; the group TEI has none
abbrev pub links_of_held : Config → List Bool → Links
links_of_held config held = links_below config held group_tei
