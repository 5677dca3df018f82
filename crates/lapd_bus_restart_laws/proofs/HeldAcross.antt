-- The holding of a TEI, if sides restart too: the one terminal that claims the TEI obtains it at
-- most once, and no other terminal obtains it.
use Rattle.std.proofs.Common.{ℕ, List, [], ◌∷◌, Option, Some, None}
use Rattle.std.specs.Prelude.{slice_get}
use Rattle.lapd_table.specs.declared.link_id.LinkId.{LinkId}
use Rattle.lapd_sides.specs.User.{User}
use Rattle.lapd_side_events.specs.Interface.{Configs}
use Rattle.lapd_side_events.specs.SideView.{SideView}
use Rattle.lapd_side_events.specs.Bus.{Bus, BusEvent, OfTerminal, OfNetwork, Join, Restart, NewTerminal}
use Rattle.lapd_bus_laws.specs.Assignments.{assignments}
use Rattle.lapd_bus_laws.proofs.Held.{IsHeld, set_holds, event_holds, obtains_here}
use Rattle.lapd_bus_laws.proofs.Lists.{false_by}
use Rattle.lapd_bus_laws.proofs.PremisesOfInterface.{assigns_once}
use Rattle.lapd_bus_laws.proofs.Single.{fixed_of, none_offered}
use Rattle.lapd_bus_restart_laws.specs.BusAcross.{restarted_as, terminal_restarts, step_across, ThroughoutAcross}
use Rattle.lapd_bus_restart_laws.specs.HoldingsAcross.{OthersJoinWithout, KeepsHoldingAcross}
use Rattle.lapd_bus_restart_laws.specs.LinksAcross.{ObtainsOnceAcross, KeepsLink}
use Rattle.lapd_bus_restart_laws.proofs.ApartAcross.{restarted_own, restarted_management}

module _ (c : Configs) (id : LinkId) (i : ℕ) where
  -- ---- A terminal restarts.

  restart_holds : (b : Bus) (j : ℕ) (new : NewTerminal) (o : Option (SideView User))
      → OthersJoinWithout id.tei i (Join j new) → IsHeld c id i b
      → IsHeld c id i (terminal_restarts c j new o b)
  restart_holds b j new None joins h = h
  restart_holds b j new (Some t) joins h = set_holds c id i b j (restarted_as c new t)
      (λ apart. false_by _ (λ claim. joins apart (fixed_of id.tei new.fixed _ claim)))
      (λ same. record {
        own = restarted_own c.user new.fixed new.random t.now;
        spent = λ past. none_offered id.tei new.fixed (assignments t);
      }) h

  -- ---- Every event of a holding.

  holds_across : (e : BusEvent) (b : Bus) → KeepsHoldingAcross c id i e b → IsHeld c id i b
      → IsHeld c id i (step_across c e b)
  holds_across (OfTerminal j event) b is h =
      event_holds c id i (OfTerminal j event) b is.of_bus is.assigns is.requests h
  holds_across (OfNetwork j event) b is h =
      event_holds c id i (OfNetwork j event) b is.of_bus is.assigns is.requests h
  holds_across (Join j new) b is h = restart_holds b j new (slice_get b.terminals j) is.joins h
  holds_across (Restart known) b is h = record {
    others = h.others;
    mine = h.mine;
    management = restarted_management c known b.network;
  }

  -- ---- The premises of the link.

  obtains_across : (e : BusEvent) (b : Bus) → KeepsHoldingAcross c id i e b → IsHeld c id i b
      → ObtainsOnceAcross c id i e b
  obtains_across (OfTerminal j event) b is h =
      obtains_here c id i (OfTerminal j event) b is.of_bus h
  obtains_across (OfNetwork j event) b is h = tt
  obtains_across (Join j new) b is h = is.joins
  obtains_across (Restart known) b is h = tt

  pub keeps_link : (events : List BusEvent) (b : Bus)
      → ThroughoutAcross c (KeepsHoldingAcross c id i) events b → IsHeld c id i b
      → ThroughoutAcross c (KeepsLink c id i) events b
  keeps_link [] b is h = tt
  keeps_link (e ∷ es) b is h = (
    record {
      of_bus = is.0.of_bus;
      timely = is.0.timely;
      assigns = assigns_once c id e b is.0.assigns;
      obtains = obtains_across e b is.0 h;
      quick = is.0.quick;
    },
    keeps_link es (step_across c e b) is.1 (holds_across e b is.0 h),
  )
