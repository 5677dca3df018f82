-- The other terminals stay without a TEI and its link, if sides restart too.
use Rattle.std.proofs.Common.{◌≡◌, ℕ, ◌<◌, List, [], ◌∷◌, ◌++◌, Option, Some, None, refl, ap, ◌∙◌}
use Rattle.std.specs.Prelude.{slice_get}
use Rattle.std.proofs.lemmas.List.Elements.{filter_map-append}
use Rattle.lapd_table.specs.declared.link_id.LinkId.{LinkId}
use Rattle.lapd_sides_links.specs.Links.{Links}
use Rattle.lapd_sides.specs.User.{User, new_user}
use Rattle.lapd_side_events.specs.Bus.{Bus, BusEvent, OfTerminal, OfNetwork, Join, Restart, NewTerminal, from_now}
use Rattle.lapd_side_events.specs.Interface.{Configs}
use Rattle.lapd_side_events.specs.SideView.{SideView}
use Rattle.lapd_two_side_laws.specs.Primitives.{what_for, link_primitives}
use Rattle.lapd_bus_laws.specs.Holdings.{IsOfBus}
use Rattle.lapd_bus_laws.specs.Links.{IsSole, IsNobodyElses}
use Rattle.lapd_bus_laws.proofs.Lists.{others_set}
use Rattle.lapd_bus_laws.proofs.PremisesOfInterface.{StaysAside, OthersAside, aside_after, aside_now, no_link, not_fixed}
use Rattle.lapd_restart_laws.specs.Restarts.{link_after, losses}
use Rattle.lapd_restart_laws.proofs.Losses.{loss_of, losses_are}
use Rattle.lapd_bus_restart_laws.specs.BusAcross.{restarted_as, terminal_restarts, step_across, after_across, ThroughoutAcross}
use Rattle.lapd_bus_restart_laws.specs.LinksAcross.{ObtainsOnceAcross, KeepsLink}

module _ (c : Configs) (id : LinkId) (low : id.tei < 127) (i : ℕ) where
  -- ---- A terminal restarts without the TEI.

  -- nothing is lost of a link that did not exist
  nothing_lost : (before new : Links) → before id ≡ None → link_primitives id (losses before new)
      ≡ []
  nothing_lost before new none =
      losses_are before new id low ∙ ap (λ o. loss_of o (new id)) none

  pub aside_restarts : (new : NewTerminal) (t : SideView User) → (new.fixed ≡ Some id.tei → ⊥)
      → StaysAside c id low i t → StaysAside c id low i (restarted_as c new t)
  aside_restarts new t apart h =
      let made : Links = (new_user c.user new.fixed new.random).served.links in
      record {
        unheld = not_fixed c id low i new.fixed apart;
        silent = record {
          links = ap (λ o. link_after o (t.now.served.links id)) (no_link c id low i new.fixed apart);
          line = h.silent.line;
          delivered =
              filter_map-append (what_for id) t.delivered (losses t.now.served.links made)
              ∙ ap (λ l. l ++ link_primitives id (losses t.now.served.links made))
              h.silent.delivered
              ∙ nothing_lost t.now.served.links made h.silent.links;
        };
      }

  restart_aside : (b : Bus) (j : ℕ) (new : NewTerminal) (o : Option (SideView User))
      → slice_get b.terminals j ≡ o → OthersAside c id low i b
      → ((j ≡ i → ⊥) → new.fixed ≡ Some id.tei → ⊥)
      → OthersAside c id low i (terminal_restarts c j new o b)
  restart_aside b j new None at h other = h
  restart_aside b j new (Some t) at h other =
      others_set (StaysAside c id low i) i b.terminals j (restarted_as c new t) h
      (λ apart. aside_restarts new t (other apart) (h j t at apart))

  -- ---- Every run.

  pub aside_across : (e : BusEvent) (b : Bus) → IsOfBus e → OthersAside c id low i b
      → ObtainsOnceAcross c id i e b → OthersAside c id low i (step_across c e b)
  aside_across (OfTerminal j event) b ok h once =
      aside_after c id low i (OfTerminal j event) b ok h once
  aside_across (OfNetwork j event) b ok h once =
      aside_after c id low i (OfNetwork j event) b ok h once
  aside_across (Join j new) b ok h once =
      restart_aside b j new (slice_get b.terminals j) refl h once
  aside_across (Restart known) b ok h once = h

  all_aside : (events : List BusEvent) (b : Bus) → OthersAside c id low i b
      → ThroughoutAcross c (KeepsLink c id i) events b
      → OthersAside c id low i (after_across c events b)
  all_aside [] b h is = h
  all_aside (e ∷ es) b h is = all_aside es (step_across c e b)
      (aside_across e b is.0.of_bus h is.0.obtains) is.1

  pub nobody_elses_across : (events : List BusEvent) (b : Bus) → IsSole id i b
      → ThroughoutAcross c (KeepsLink c id i) events (from_now b)
      → IsNobodyElses id i (after_across c events (from_now b))
  nobody_elses_across events b sole is = λ j t there apart.
      (all_aside events (from_now b) (aside_now c id low i b sole) is j t there
      apart).silent.delivered
