-- A bus that is reached with restarts has what the laws of holdings need: its terminals are apart.
use Rattle.std.proofs.Common.{◌≡◌, ℕ, List, [], ◌∷◌, true, Option, Some, None, refl, sym, ap, subst}
use Rattle.std.specs.Prelude.{slice_get, is_some}
use Rattle.rand_pcg.specs.Lcg.{Lcg}
use Rattle.lapd_sides_links.specs.Links.{Linked}
use Rattle.lapd_sides_links.specs.declared.config.Config.{Config}
use Rattle.lapd_sides.specs.Network.{Network, new_network}
use Rattle.lapd_sides.specs.User.{User, new_user}
use Rattle.lapd_side_events.specs.Interface.{Configs}
use Rattle.lapd_side_events.specs.SideView.{SideView}
use Rattle.lapd_two_side_laws.proofs.AsMade.{new_are_own, new_are_held}
use Rattle.lapd_two_side_laws.proofs.OwnSides.{AreHeld, AreOwn}
use Rattle.lapd_bus_laws.specs.Assignments.{IsSingle}
use Rattle.lapd_side_events.specs.Bus.{Bus, BusEvent, OfTerminal, OfNetwork, Join, Restart, NewTerminal}
use Rattle.lapd_bus_laws.specs.Holdings.{JoinsWithFree, KeepsTeisApart}
use Rattle.lapd_bus_laws.proofs.TerminalsApart.{kept_apart}
use Rattle.lapd_bus_laws.proofs.Assigns.{HasNoManagementLink}
use Rattle.lapd_bus_laws.proofs.Messages.{management_id}
use Rattle.lapd_bus_laws.proofs.Single.{fixed_of, requests_none, KeepsApart, start_keeps, no_management, event_keeps, single_from}
use Rattle.lapd_restart_laws.specs.Restarts.{link_after, network_after, user_after}
use Rattle.lapd_bus_restart_laws.specs.BusAcross.{restarted_as, terminal_restarts, step_across, after_across, ThroughoutAcross}
use Rattle.lapd_bus_restart_laws.specs.HoldingsAcross.{IsReachedAcross}

-- ---- A side that restarts has the links of a newly created one.

only_new : (new before : Option Linked) → is_some (link_after new before) ≡ true
    → is_some new ≡ true
only_new None before there = there
only_new (Some new) before there = refl

pub restarted_own : (config : Config) (fixed : Option ℕ) (random : Lcg) (before : User)
    → AreOwn (user_after config fixed random before)
restarted_own config fixed random before = λ k there. new_are_own config fixed random k
    (only_new ((new_user config fixed random).served.links k) (before.served.links k) there)

pub restarted_held : (config : Config) (known : List ℕ) (before : Network)
    → AreHeld (network_after config known before)
restarted_held config known before = λ k there. new_are_held config known k
    (only_new ((new_network config known).served.links k) (before.served.links k) there)

pub restarted_management : (c : Configs) (known : List ℕ) (before : Network)
    → HasNoManagementLink (network_after c.network known before)
restarted_management c known before =
    ap (λ o. link_after o (before.served.links management_id)) (no_management c known)

module _ (c : Configs) where
  join_keeps : (b : Bus) (j : ℕ) (new : NewTerminal) (o : Option (SideView User))
      → slice_get b.terminals j ≡ o → JoinsWithFree (Join j new) b → KeepsApart c b
      → KeepsApart c (terminal_restarts c j new o b)
  join_keeps b j new None at joins h = h
  join_keeps b j new (Some t) at joins h = start_keeps c b j new t (restarted_as c new t) at joins
      (λ tei claim. fixed_of tei new.fixed _ claim) (λ ri is. requests_none ri new.fixed is)
      (restarted_own c.user new.fixed new.random t.now) h

  pub event_keeps_across : (e : BusEvent) (b : Bus) → KeepsTeisApart c e b → KeepsApart c b
      → KeepsApart c (step_across c e b)
  event_keeps_across (OfTerminal j event) b is h = event_keeps c (OfTerminal j event) b is h
  event_keeps_across (OfNetwork j event) b is h = event_keeps c (OfNetwork j event) b is h
  event_keeps_across (Join j new) b is h =
      join_keeps b j new (slice_get b.terminals j) refl is.joins h
  event_keeps_across (Restart known) b is h = record {
    claims = h.claims;
    references = h.references;
    management = restarted_management c known b.network;
    own = h.own;
    held = restarted_held c.network known b.network;
  }

  all_keep : (events : List BusEvent) (b : Bus) → ThroughoutAcross c (KeepsTeisApart c) events b
      → KeepsApart c b → KeepsApart c (after_across c events b)
  all_keep [] b is h = h
  all_keep (e ∷ es) b is h =
      all_keep es (step_across c e b) is.1 (event_keeps_across e b is.0 h)

  pub kept_apart_across : (b : Bus) → IsReachedAcross c b → KeepsApart c b
  kept_apart_across b r = subst (KeepsApart c) (sym r.reached)
      (all_keep r.events r.start r.apart (kept_apart c r.start r.first))

  pub reached_across_is_single : (b : Bus) → IsReachedAcross c b → IsSingle b
  reached_across_is_single b r = single_from c b (kept_apart_across b r)
