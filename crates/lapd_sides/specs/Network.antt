-- The network side: its links and the assigner of TEIs, and the effects of a frame, a timer or a
-- request.
use Rattle.std.specs.Prelude.{ℕ, ◌==◌, ◌&&◌, nat_lt, if◌then◌else◌, false, List, [], ◌∷◌, length, Some, Result, Ok, Err}
use Rattle.lapd_timers.specs.Due.{all_stopped}
use Rattle.lapd_frame.specs.declared.Role.TheVariants.{Command}
use Rattle.lapd_frame.specs.declared.Sapi.{Sapi}
use Rattle.lapd_frame.specs.declared.Side.TheVariants as side
use Rattle.lapd_frame.specs.declared.Control.TheVariants.{Ui}
use Rattle.lapd_frame.specs.Frame.{Fields, n201, spelling}
use Rattle.lapd_link_definition.specs.declared.event.LinkFault.TheVariants.{TooLong}
use Rattle.lapd_link_definition.specs.Input.{Establish, Release, UnitData, Give}
use Rattle.lapd_tei.specs.declared.out.TeiOut.{TeiOut}
use Rattle.lapd_tei.specs.declared.assigner.AssignerEvent.{AssignerEvent}
use Rattle.lapd_tei.specs.declared.assigner.AssignerEvent.TheVariants as event
use Rattle.lapd_tei.specs.Assigner.{AssignerState, AssignerStep, assigner_step, known_held}
use Rattle.lapd_tei.specs.Message.{group_tei}
use Rattle.lapd_tei.specs.Out.{tei_given}
use Rattle.lapd_table.specs.declared.link_id.LinkId.{LinkId}
use Rattle.lapd_sides_links.specs.declared.config.Config.{Config}
use Rattle.lapd_sides.specs.declared.request.Request.{Request}
use Rattle.lapd_sides.specs.declared.request.Request.TheVariants as request
use Rattle.lapd_sides_links.specs.declared.side_fault.SideKind.{SideKind}
use Rattle.lapd_sides_links.specs.declared.side_fault.SideKind.TheVariants.{Link}
use Rattle.lapd_sides_links.specs.Effects.{no_effects}
use Rattle.lapd_sides_links.specs.Links.{Reaction, is_served, links_of_held}
use Rattle.lapd_sides.specs.AllTeis.{check_of_all, removal_of_all, sending}
use Rattle.lapd_sides.specs.Management.{manages, busy_input}
use Rattle.lapd_sides.specs.SideState.{SideState, Rules, link_of, unmoved}

-- the state of a network side
abbrev pub Network : Type 0
Network = SideState AssignerState

-- a new network side: the known TEIs are held, and have their links
abbrev pub new_network : Config → List ℕ → Network
new_network config known = record {
  served = record {
    links = links_of_held config (known_held known).held;
    timers = all_stopped config.durations;
  };
  management = known_held known;
  discarded = 0;
}

-- ---- TEI management.

abbrev pub assigned : Config → ℕ → AssignerStep → Network → Reaction Network
assigned config now step s = record {
  after = record s {
    served = (manages side.Network config now step.outs s.served).after;
    management = step.now;
  };
  effects = (manages side.Network config now step.outs s.served).effects;
}

unfoldable pub assigner_acts : Config → ℕ → AssignerEvent → Network → Reaction Network
assigner_acts config now event s = assigned config now (assigner_step s.management event) s

-- ---- Requests.

-- unit data to all terminals of a SAPI that is served (Q.921 5.2)
abbrev pub group_frame : Sapi → List ℕ → Fields
group_frame sapi octets = record {
  address = record { sapi = sapi; tei = group_tei; role = Command };
  control = Ui false;
  info = octets;
}

abbrev pub unit_to_group : Sapi → List ℕ → Network → Result (Reaction Network) SideKind
unit_to_group sapi octets s =
    if nat_lt n201 (length octets) then Err (Link TooLong)
    else Ok (record {
      after = s;
      effects = record no_effects { frames = spelling side.Network (group_frame sapi octets) ∷ [] };
    })

abbrev pub unit_requested : Config → ℕ → LinkId → List ℕ → Network
    → Result (Reaction Network) SideKind
unit_requested config now id octets s =
    if is_served config id.sapi && (id.tei == group_tei) then unit_to_group id.sapi octets s
    else link_of side.Network now id (UnitData (length octets)) octets s

-- TEI messages to all terminals; the side is unchanged
abbrev pub sends_to_all : List TeiOut → Network → Reaction Network
sends_to_all messages s = record { after = s; effects = sending messages }

unfoldable pub network_requested : Config → Request → ℕ → Network
    → Result (Reaction Network) SideKind
network_requested config (request.Establish id) now s = link_of side.Network now id Establish [] s
network_requested config (request.Release id) now s = link_of side.Network now id Release [] s
network_requested config (request.Unit id octets) now s =
    unit_requested config now id octets.items s
network_requested config (request.Give id message) now s =
    link_of side.Network now id (Give message.items) [] s
network_requested config (request.Busy id on) now s =
    link_of side.Network now id (busy_input on) [] s
network_requested config request.AskTei now s = Ok (unmoved s)
network_requested config (request.Check tei) now s =
    Ok (assigner_acts config now (event.Check tei) s)
network_requested config (request.Remove tei) now s =
    Ok (assigner_acts config now (event.Remove tei) s)
network_requested config request.CheckAll now s =
    Ok (sends_to_all (check_of_all s.management.check) s)
network_requested config request.RemoveAll now s =
    Ok (sends_to_all (removal_of_all s.management.held) s)

-- ---- The rules of this side.

abbrev pub network_rules : Rules AssignerState
network_rules = record {
  side = side.Network;
  hears = λ config now message s. assigner_acts config now (event.Heard message) s;
  given = λ a message. tei_given (assigner_step a (event.Heard message)).outs;
  times_out = λ config now s. assigner_acts config now event.T201 s;
  is_for_layer_3 = λ config frame. false;
  requested = λ config request now s. network_requested config request now s;
  link_of_call = λ a id. Some id;
}
