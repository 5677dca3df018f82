-- The network sends no frames of a link that does not exist.
use Rattle.std.proofs.Common.{◌≡◌, ℕ, ◌<◌, List, [], ◌∷◌, None, refl, ap, ◌∙◌, Bool, if◌then◌else◌}
use Rattle.std.specs.List.{filter_map}
use Rattle.lapd_frame.specs.declared.Side.TheVariants as side
use Rattle.lapd_frame.specs.Frame.{spelling}
use Rattle.lapd_tei.specs.declared.assigner.AssignerEvent.{AssignerEvent}
use Rattle.lapd_tei.specs.declared.assigner.AssignerEvent.TheVariants as event
use Rattle.lapd_tei.specs.declared.out.TeiOut.{TeiOut}
use Rattle.lapd_tei.specs.Assigner.{AssignerState, assigner_step}
use Rattle.lapd_table.specs.declared.link_id.LinkId.{LinkId}
use Rattle.lapd_sides_links.specs.declared.config.Config.{Config}
use Rattle.lapd_sides_links.specs.Effects.{message_sent}
use Rattle.lapd_sides.specs.AllTeis.{check_of_all, removal_of_all}
use Rattle.lapd_sides.specs.Management.{manages}
use Rattle.lapd_sides.specs.Network.{Network, assigner_acts, group_frame, network_rules}
use Rattle.lapd_sides.specs.SideState.{with_stopped}
use Rattle.lapd_side_events.specs.Interface.{network_behaviour}
use Rattle.lapd_side_events.specs.SideView.{SideView, SideEvent, reaction}
use Rattle.lapd_two_side_laws.specs.Addressed.{is_for, those_for}
use Rattle.lapd_two_side_laws.proofs.LinkParts.{absent_acts, expiry_passes, none_pass, spelled_is_for}
use Rattle.lapd_two_side_laws.proofs.Managed.{message_is_other, not_of_group}
use Rattle.lapd_two_side_laws.proofs.Reactions.{AnyInput, AnyRequest, HoldsOfEvents, HoldsOfLinks, Law, each_event, each_request, reacts}
use Rattle.lapd_two_side_laws.proofs.Requests.{network_asked}

module _ (config : Config) (id : LinkId) (low : id.tei < 127) where
  abbrev SendsNone : Law AssignerState
  SendsNone s a = s.served.links id ≡ None → those_for side.Network id a.effects.frames ≡ []

  messages : (outs : List TeiOut)
      → those_for side.Network id (filter_map (message_sent side.Network) outs) ≡ []
  messages outs = none_pass (is_for side.Network id) (message_sent side.Network) outs
      (λ out. message_is_other side.Network id out low)

  acting : (now : ℕ) (e : AssignerEvent) (s : Network) → SendsNone s (assigner_acts config now e s)
  unfolding assigner_acts manages
  acting now e s none = messages (assigner_step s.management e).outs

  of_links : (now : ℕ) → HoldsOfLinks network_rules now SendsNone AnyInput
  of_links now = record {
    still = λ s none. refl;
    counts = λ s none. refl;
    reports = λ at octets s none. refl;
    steps = λ other input octets s b plain permits done none.
        (absent_acts side.Network id other s.served.links now input octets b none done).frames;
  }

  law : (now : ℕ) → HoldsOfEvents network_rules config now SendsNone AnyInput AnyRequest
  law now = record {
    links = of_links now;
    expires = λ other timer s b done none.
        (expiry_passes side.Network id other s.served.links now timer b none done).frames;
    by_rules = record {
      hears = λ m. acting now (event.Heard m);
      times_out = λ timer s may. acting now event.T201 (with_stopped timer s);
      requested = λ asked s any.
          network_asked (of_links now) config (λ tei. acting now (event.Check tei))
          (λ tei. acting now (event.Remove tei))
          (λ at octets s served none. ap (λ (b : Bool).
          if b then spelling side.Network (group_frame at octets) ∷ [] else [])
          (spelled_is_for side.Network id (group_frame at octets) ∙ not_of_group at id low))
          (λ s none. messages (check_of_all s.management.check))
          (λ s none. messages (removal_of_all s.management.held)) asked s
          (each_request network_rules s.management asked);
    };
  }

  pub sends_none : (event : SideEvent) (v : SideView Network) → v.now.served.links id ≡ None
      → those_for side.Network id (reaction (network_behaviour config) event v).effects.frames ≡ []
  sends_none event v =
      reacts {R = λ now. SendsNone} law 0 event v (each_event network_rules event v)
