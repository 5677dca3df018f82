-- A network side serves each of its links.
use Rattle.std.proofs.Common.{inl, inr, ℕ, ◌<◌, List, [], ◌∷◌, Bool, true, refl, ap, ◌∙◌, if◌then◌else◌, ◌≡◌}
use Rattle.lapd_frame.specs.declared.Sapi.{Sapi}
use Rattle.lapd_frame.specs.declared.Side.TheVariants as side
use Rattle.lapd_frame.specs.Frame.{spelling}
use Rattle.lapd_tei.specs.declared.assigner.AssignerEvent.{AssignerEvent}
use Rattle.lapd_tei.specs.declared.assigner.AssignerEvent.TheVariants as event
use Rattle.lapd_tei.specs.Assigner.{assigner_step}
use Rattle.lapd_table.specs.declared.link_id.LinkId.{LinkId}
use Rattle.lapd_sides_links.specs.declared.config.Config.{Config}
use Rattle.lapd_sides_links.specs.Links.{is_served}
use Rattle.lapd_sides.specs.Meant.{gives_to_link}
use Rattle.lapd_sides.specs.Network.{Network, network_rules, assigner_acts, group_frame, sends_to_all}
use Rattle.lapd_sides.specs.SideState.{with_stopped}
use Rattle.lapd_side_events.specs.Interface.{network_behaviour}
use Rattle.lapd_two_side_laws.specs.Owed.{ServesLink}
use Rattle.lapd_two_side_laws.proofs.LinkParts.{spelled_is_for, none_pass}
use Rattle.lapd_two_side_laws.proofs.Managed.{managing, not_of_group, message_is_other}
use Rattle.lapd_two_side_laws.proofs.Requests.{network_asked, sent_to_group}
use Rattle.lapd_two_side_laws.proofs.EventOnLink.{Asks, ServesMeant, Spares, SparesLink, asked_links, moves, no_request, serves}
use Rattle.lapd_sides.specs.AllTeis.{check_of_all, removal_of_all}
use Rattle.lapd_tei.specs.declared.out.TeiOut.{TeiOut}
use Rattle.lapd_sides_links.specs.Effects.{message_sent}
use Rattle.lapd_two_side_laws.specs.Addressed.{is_for}

pub network_meant : (config : Config) → ServesMeant network_rules config
network_meant config = record {
  spares = λ frame none. refl;
  gives = gives_to_link config;
  refuses = λ id message now s a none is. cc;
}

module _ (config : Config) (id : LinkId) (low : id.tei < 127) (removed : Bool) where
  abbrev Spared : ℕ → Network → AssignerEvent → Type 0
  Spared now s e = Spares network_rules config id low removed now s (assigner_acts config now e s)

  assigning : (now : ℕ) (e : AssignerEvent) (s : Network) → Spared now s e
  unfolding assigner_acts
  assigning now e s once = elim (managing side.Network config now
      (assigner_step s.management e).outs s.served id low removed once) [
        | inl passes ↦ inl passes
        | inr (inl arrives) ↦ inr (inl (record {
          absent = arrives.absent;
          not_removed = arrives.not_removed;
          arrives = inl arrives.passes;
        }))
        | inr (inr proceeds) ↦ inr (inr proceeds)
      ]

  to_group : (now : ℕ) (at : Sapi) (octets : List ℕ) (s : Network)
      → is_served config at ≡ true
      → Asks network_rules config id low removed now s (sent_to_group at octets s)
  to_group now at octets s served = no_request network_rules config id low removed now s
      (sent_to_group at octets s) (λ once. inl (record {
        links = refl;
        frames = ap (λ (b : Bool).
            if b then spelling side.Network (group_frame at octets) ∷ [] else [])
            (spelled_is_for side.Network id (group_frame at octets) ∙ not_of_group at id low);
        delivered = refl;
      }))

  to_all : (now : ℕ) (messages : List TeiOut) (s : Network)
      → Asks network_rules config id low removed now s (sends_to_all messages s)
  to_all now messages s = no_request network_rules config id low removed now s
      (sends_to_all messages s) (λ once. inl (record {
        links = refl;
        frames = none_pass (is_for side.Network id) (message_sent side.Network) messages
            (λ out. message_is_other side.Network id out low);
        delivered = refl;
      }))

  of_tei : (now : ℕ) (e : AssignerEvent) (s : Network)
      → Asks network_rules config id low removed now s (assigner_acts config now e s)
  of_tei now e s =
      no_request network_rules config id low removed now s (assigner_acts config now e s)
      (assigning now e s)

  spared : SparesLink network_rules config id low removed
  spared = record {
    meant = network_meant config;
    hears = λ now m s. assigning now (event.Heard m) s;
    times_out = λ now timer s. assigning now event.T201 (with_stopped timer s);
    requested = λ now asked s none.
        network_asked (asked_links network_rules config id low removed now) config
        (λ tei. of_tei now (event.Check tei)) (λ tei. of_tei now (event.Remove tei))
        (to_group now) (λ s. to_all now (check_of_all s.management.check) s)
        (λ s. to_all now (removal_of_all s.management.held) s) asked s
        (moves network_rules config id low removed s.management asked none);
  }

  pub of_network : ServesLink (network_behaviour config) side.Network id removed
  of_network = serves network_rules config id low removed spared
