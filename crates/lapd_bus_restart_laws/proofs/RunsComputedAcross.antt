-- The worked runs of a bus with restarts, computed.
use Rattle.std.proofs.Common.{◌≡◌, ℕ, [], ◌∷◌, refl}
use Rattle.std.specs.Prelude.{Vec, slice_get, map}
use Rattle.std.specs.declared.alloc.Global.{Global}
use Rattle.lapd_sides.specs.User.{User}
use Rattle.lapd_link_definition.specs.declared.out.Letter.TheVariants as letter
use Rattle.lapd_pair_laws.specs.Schedule.{two_messages}
use Rattle.lapd_sides_links.specs.declared.primitive.What.TheVariants as what
use Rattle.lapd_two_side_laws.specs.Primitives.{link_primitives, known_of, AreExpectedOfLink}
use Rattle.lapd_two_side_laws.specs.Schedule.{configs, IsMessage}
use Rattle.lapd_side_events.specs.SideView.{SideView}
use Rattle.lapd_two_side_laws.proofs.Computed.{Fits, holding, with_both, with_four}
use Rattle.lapd_side_events.specs.Bus.{from_now}
use Rattle.lapd_bus_laws.specs.HoldingRuns.{IsReceivedByNetwork}
use Rattle.lapd_bus_laws.specs.Holdings.{IsOfBus, RequestsByItsOwn, IsOnlyClaimant}
use Rattle.lapd_bus_laws.specs.Links.{IsTimelyFor, AssignsOthers}
use Rattle.lapd_bus_laws.specs.Runs.{two_fixed, fixed_call}
use Rattle.lapd_bus_laws.proofs.HoldingRunsComputed.{given_at, acked_at, not_by_network}
use Rattle.lapd_bus_laws.proofs.Checks.{of_bus, of_bus_so, timely_for, timely_for_so, assigns_others, assigns_others_so, requests_by_its_own, requests_by_its_own_so, only_claimant_so}
use Rattle.lapd_restart_laws.specs.Restarts.{losses}
use Rattle.lapd_bus_restart_laws.specs.BusAcross.{after_across, ThroughoutAcross}
use Rattle.lapd_bus_restart_laws.specs.HoldingsAcross.{OthersJoinWithout, KeepsHoldingAcross}
use Rattle.lapd_bus_restart_laws.specs.RunsAcross.{across_both, alone, KeepsAllButRestarting, command_outlasts, comes_back}
use Rattle.lapd_bus_restart_laws.proofs.ChecksAcross.{throughout_by, others_join_without, others_join_without_so, keeps_holding, keeps_holding_so}
use Rattle.lapd_two_side_laws.proofs.ComputedEvents.{computed_events}

-- ---- Both sides restart.

pub record AcrossBoth (first answer second third : Vec ℕ Global) : Type 0 where
  pub keeps : ThroughoutAcross configs (KeepsHoldingAcross configs fixed_call 0)
      (across_both first answer second third) (from_now two_fixed)
  pub to_network : link_primitives fixed_call (after_across configs
      (across_both first answer second third) (from_now two_fixed)).delivered
      ≡ what.Established ∷ what.Up (1 ∷ []) ∷ what.Report letter.F ∷ what.Dropped 1
      ∷ what.Established ∷ what.Up (3 ∷ []) ∷ what.Established ∷ []
  pub to_terminals : map (λ (t : SideView User). link_primitives fixed_call t.delivered)
      (after_across configs (across_both first answer second third)
      (from_now two_fixed)).terminals
      ≡ (what.Confirmed ∷ what.Dropped 1 ∷ what.Confirmed ∷ what.Acknowledged 1
      ∷ what.Dropped 1 ∷ what.Confirmed ∷ []) ∷ [] ∷ []

across_both_holds : (s t u v : Vec ℕ Global) (w : Fits s (1 ∷ [])) (x : Fits t (2 ∷ []))
    (y : Fits u (3 ∷ [])) (z : Fits v (4 ∷ []))
    → AcrossBoth (holding s (1 ∷ []) w) (holding t (2 ∷ []) x) (holding u (3 ∷ []) y)
    (holding v (4 ∷ []) z)
unfolding computed_events losses
across_both_holds s t u v w x y z = record {
  keeps = throughout_by configs (KeepsHoldingAcross configs fixed_call 0)
      (keeps_holding configs fixed_call 0) (keeps_holding_so configs fixed_call 0)
      (across_both (holding s (1 ∷ []) w) (holding t (2 ∷ []) x) (holding u (3 ∷ []) y)
      (holding v (4 ∷ []) z)) (from_now two_fixed) refl;
  to_network = refl;
  to_terminals = refl;
}

pub across_both_so : (first answer second third : Vec ℕ Global) → IsMessage 1 first
    → IsMessage 2 answer → IsMessage 3 second → IsMessage 4 third
    → AcrossBoth first answer second third
across_both_so = with_four AcrossBoth (1 ∷ []) (2 ∷ []) (3 ∷ []) (4 ∷ []) across_both_holds

pub fixed_only : IsOnlyClaimant 0 0 two_fixed
unfolding computed_events losses
fixed_only = only_claimant_so 0 0 two_fixed refl

-- ---- A frame of an exchange is in transit.

pub command_keeps : KeepsAllButRestarting fixed_call 0 command_outlasts alone
unfolding computed_events losses
command_keeps = (
  throughout_by configs (λ e b. IsOfBus e) of_bus of_bus_so command_outlasts alone refl,
  throughout_by configs (λ e b. OthersJoinWithout 0 0 e) (others_join_without 0 0)
      (others_join_without_so 0 0) command_outlasts alone refl,
  throughout_by configs (IsTimelyFor fixed_call 0) (timely_for configs fixed_call 0)
      (timely_for_so configs fixed_call 0) command_outlasts alone refl,
  throughout_by configs (AssignsOthers configs 0) (assigns_others configs 0)
      (assigns_others_so configs 0) command_outlasts alone refl,
  throughout_by configs (RequestsByItsOwn configs) (requests_by_its_own configs)
      (requests_by_its_own_so configs) command_outlasts alone refl,
)

pub command_is_not_expected : AreExpectedOfLink
    (link_primitives fixed_call (after_across configs command_outlasts alone).delivered) → ⊥
unfolding computed_events losses
command_is_not_expected h = h.0

-- ---- The link exists again.

pub record ComesBack (first second : Vec ℕ Global) : Type 0 where
  pub keeps : KeepsAllButRestarting fixed_call 0 (comes_back first second) alone
  pub given : given_at fixed_call (slice_get (after_across configs (comes_back first second)
      alone).terminals 0) ≡ two_messages
  pub acked : acked_at fixed_call (slice_get (after_across configs (comes_back first second)
      alone).terminals 0) ≡ 0 ∷ []
  pub received : (known_of fixed_call (after_across configs (comes_back first second)
      alone).delivered).received ≡ (2 ∷ []) ∷ []

comes_back_holds : (v w : Vec ℕ Global) (x : Fits v (1 ∷ [])) (y : Fits w (2 ∷ []))
    → ComesBack (holding v (1 ∷ []) x) (holding w (2 ∷ []) y)
unfolding computed_events losses
comes_back_holds v w x y =
    let run = comes_back (holding v (1 ∷ []) x) (holding w (2 ∷ []) y) in
    record {
      keeps = (
        throughout_by configs (λ e b. IsOfBus e) of_bus of_bus_so run alone refl,
        throughout_by configs (λ e b. OthersJoinWithout 0 0 e) (others_join_without 0 0)
            (others_join_without_so 0 0) run alone refl,
        throughout_by configs (IsTimelyFor fixed_call 0) (timely_for configs fixed_call 0)
            (timely_for_so configs fixed_call 0) run alone refl,
        throughout_by configs (AssignsOthers configs 0) (assigns_others configs 0)
            (assigns_others_so configs 0) run alone refl,
        throughout_by configs (RequestsByItsOwn configs) (requests_by_its_own configs)
            (requests_by_its_own_so configs) run alone refl,
      );
      given = refl;
      acked = refl;
      received = refl;
    }

pub comes_back_so : (first second : Vec ℕ Global) → IsMessage 1 first → IsMessage 2 second
    → ComesBack first second
comes_back_so = with_both ComesBack (1 ∷ []) (2 ∷ []) comes_back_holds

pub comes_back_is_not_right : (first second : Vec ℕ Global) → IsMessage 1 first → IsMessage 2 second
    → IsReceivedByNetwork fixed_call 0 (after_across configs (comes_back first second) alone) → ⊥
comes_back_is_not_right first second one two =
    let h = comes_back_so first second one two in
    not_by_network fixed_call (after_across configs (comes_back first second) alone) h.given h.acked
    h.received
