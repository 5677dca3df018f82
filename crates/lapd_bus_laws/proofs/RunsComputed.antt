-- The worked runs of a bus, computed.
use Rattle.std.proofs.Common.{◌≡◌, ℕ, [], ◌∷◌, map, true, false, refl}
use Rattle.std.specs.Prelude.{Vec}
use Rattle.std.specs.declared.alloc.Global.{Global}
use Rattle.lapd_sides_links.specs.declared.primitive.What.TheVariants as what
use Rattle.lapd_sides.specs.User.{User}
use Rattle.lapd_two_side_laws.specs.Primitives.{link_primitives}
use Rattle.lapd_two_side_laws.specs.Schedule.{configs, call, IsMessage}
use Rattle.lapd_side_events.specs.SideView.{SideView}
use Rattle.lapd_two_side_laws.proofs.Computed.{Fits, holding, with_octets, with_both}
use Rattle.lapd_bus_laws.specs.Assignments.{holds, IsSingle}
use Rattle.lapd_side_events.specs.Bus.{bus_step, from_now, after_events}
use Rattle.lapd_bus_laws.specs.Holdings.{AssignsFree, RequestsByItsOwn, JoinsWithFree, IsOfBus, KeepsTeisApart, IsReached, Assigns, IsOnlyClaimant, IsClear, KeepsHolding}
use Rattle.lapd_bus_laws.specs.Links.{Throughout}
use Rattle.lapd_bus_laws.specs.Runs.{two_fixed, fixed_call, fixed_talks, requested_bus, from_assignment, KeepsAllButAssignment, KeepsAllButReference, KeepsAllButJoining, second_call, two_terminals, both_request, assigns_first, talking, moved, assigned_while_held, assigned_in_transit, twins, same_reference, answered_before, joins_with_held, same_fixed, waiting_terminal, other_random}
use Rattle.lapd_bus_laws.proofs.Checks.{throughout_by, of_bus, of_bus_so, assigns_free, assigns_free_so, requests_by_its_own, requests_by_its_own_so, joins_with_free, joins_with_free_so, keeps_teis_apart, keeps_teis_apart_so, keeps_holding, keeps_holding_so, reached_from_none, both_hold_so, assigns_now_so, only_claimant_so, is_clear_so}
use Rattle.lapd_sides.specs.Worked as sides
use Rattle.lapd_two_side_laws.proofs.ComputedEvents.{computed_events}

-- ---- Two telephones come up and talk.

pub requested_is_reached : IsReached configs requested_bus
unfolding computed_events
requested_is_reached = reached_from_none configs []
    (waiting_terminal sides.random ∷ waiting_terminal other_random ∷ []) refl both_request refl

pub assigns_apart : KeepsTeisApart configs assigns_first requested_bus
unfolding computed_events
assigns_apart = keeps_teis_apart_so configs assigns_first requested_bus refl

pub assigns_its_tei : Assigns configs 64 assigns_first requested_bus
unfolding computed_events
assigns_its_tei = assigns_now_so configs 64 assigns_first requested_bus refl

pub one_claims : IsOnlyClaimant 64 0 (bus_step configs assigns_first requested_bus)
unfolding computed_events
one_claims = only_claimant_so 64 0 (bus_step configs assigns_first requested_bus) refl

pub lines_are_clear : IsClear call 0 (bus_step configs assigns_first requested_bus)
unfolding computed_events
lines_are_clear = is_clear_so call 0 (bus_step configs assigns_first requested_bus) refl

pub record Talking (message other : Vec ℕ Global) : Type 0 where
  pub keeps : Throughout configs (KeepsHolding configs call 0) (talking message other)
      from_assignment
  pub to_network : link_primitives call (after_events configs (talking message other)
      from_assignment).delivered ≡ what.Established ∷ what.Up (1 ∷ []) ∷ []
  pub second_to_network : link_primitives second_call (after_events configs (talking message other)
      from_assignment).delivered ≡ what.Established ∷ what.Up (2 ∷ []) ∷ []
  pub to_terminals : map (λ (t : SideView User).
      link_primitives call t.delivered) (after_events configs (talking message other)
      from_assignment).terminals ≡ (what.Confirmed ∷ what.Acknowledged 1 ∷ []) ∷ [] ∷ []

talking_holds : (v w : Vec ℕ Global) (x : Fits v (1 ∷ [])) (y : Fits w (2 ∷ []))
    → Talking (holding v (1 ∷ []) x) (holding w (2 ∷ []) y)
unfolding computed_events
talking_holds v w x y = record {
  keeps = throughout_by configs (KeepsHolding configs call 0) (keeps_holding configs call 0)
      (keeps_holding_so configs call 0) (talking (holding v (1 ∷ []) x) (holding w (2 ∷ []) y))
      from_assignment refl;
  to_network = refl;
  second_to_network = refl;
  to_terminals = refl;
}

pub talking_so : (message other : Vec ℕ Global) → IsMessage 1 message → IsMessage 2 other
    → Talking message other
talking_so = with_both Talking (1 ∷ []) (2 ∷ []) talking_holds

-- ---- One is removed, and another has its TEI.

pub moved_apart : Throughout configs (KeepsTeisApart configs) moved two_terminals
unfolding computed_events
moved_apart = throughout_by configs (KeepsTeisApart configs) (keeps_teis_apart configs)
    (keeps_teis_apart_so configs) moved two_terminals refl

pub moved_holders : map (holds 64) (after_events configs moved two_terminals).terminals
    ≡ false ∷ true ∷ []
unfolding computed_events
moved_holders = refl

-- ---- Fixed TEIs.

pub fixed_claims : IsOnlyClaimant 0 0 two_fixed
unfolding computed_events
fixed_claims = only_claimant_so 0 0 two_fixed refl

pub record FixedTalks (message : Vec ℕ Global) : Type 0 where
  pub keeps : Throughout configs (KeepsHolding configs fixed_call 0) (fixed_talks message)
      (from_now two_fixed)
  pub to_network : link_primitives fixed_call
      (after_events configs (fixed_talks message) (from_now two_fixed)).delivered
      ≡ what.Established ∷ what.Up (1 ∷ []) ∷ []

fixed_talks_hold : (v : Vec ℕ Global) (x : Fits v (1 ∷ [])) → FixedTalks (holding v (1 ∷ []) x)
unfolding computed_events
fixed_talks_hold v x = record {
  keeps = throughout_by configs (KeepsHolding configs fixed_call 0)
      (keeps_holding configs fixed_call 0) (keeps_holding_so configs fixed_call 0)
      (fixed_talks (holding v (1 ∷ []) x)) (from_now two_fixed) refl;
  to_network = refl;
}

pub fixed_talks_so : (message : Vec ℕ Global) → IsMessage 1 message → FixedTalks message
fixed_talks_so = with_octets FixedTalks (1 ∷ []) fixed_talks_hold

-- ---- Each premise is needed.

pub while_held : KeepsAllButAssignment assigned_while_held two_terminals
    × (IsSingle (after_events configs assigned_while_held two_terminals) → ⊥)
unfolding computed_events
while_held = (
  (
    throughout_by configs (λ e b.
        IsOfBus e) of_bus of_bus_so assigned_while_held two_terminals refl,
    throughout_by configs (RequestsByItsOwn configs) (requests_by_its_own configs)
        (requests_by_its_own_so configs) assigned_while_held two_terminals refl,
    throughout_by configs JoinsWithFree (joins_with_free configs) (joins_with_free_so configs)
        assigned_while_held two_terminals refl,
  ),
  both_hold_so 64 (after_events configs assigned_while_held two_terminals) refl,
)

pub in_transit : KeepsAllButAssignment assigned_in_transit two_terminals
    × (IsSingle (after_events configs assigned_in_transit two_terminals) → ⊥)
unfolding computed_events
in_transit = (
  (
    throughout_by configs (λ e b.
        IsOfBus e) of_bus of_bus_so assigned_in_transit two_terminals refl,
    throughout_by configs (RequestsByItsOwn configs) (requests_by_its_own configs)
        (requests_by_its_own_so configs) assigned_in_transit two_terminals refl,
    throughout_by configs JoinsWithFree (joins_with_free configs) (joins_with_free_so configs)
        assigned_in_transit two_terminals refl,
  ),
  both_hold_so 64 (after_events configs assigned_in_transit two_terminals) refl,
)

pub shared : KeepsAllButReference same_reference twins ×
    (IsSingle (after_events configs same_reference twins) → ⊥)
unfolding computed_events
shared = (
  (
    throughout_by configs (λ e b. IsOfBus e) of_bus of_bus_so same_reference twins refl,
    throughout_by configs (AssignsFree configs) (assigns_free configs) (assigns_free_so configs)
        same_reference twins refl,
    throughout_by configs JoinsWithFree (joins_with_free configs) (joins_with_free_so configs)
        same_reference twins refl,
  ),
  both_hold_so 64 (after_events configs same_reference twins) refl,
)

pub answered : KeepsAllButReference answered_before twins
    × (IsSingle (after_events configs answered_before twins) → ⊥)
unfolding computed_events
answered = (
  (
    throughout_by configs (λ e b. IsOfBus e) of_bus of_bus_so answered_before twins refl,
    throughout_by configs (AssignsFree configs) (assigns_free configs) (assigns_free_so configs)
        answered_before twins refl,
    throughout_by configs JoinsWithFree (joins_with_free configs) (joins_with_free_so configs)
        answered_before twins refl,
  ),
  both_hold_so 64 (after_events configs answered_before twins) refl,
)

pub joins_held : KeepsAllButJoining joins_with_held two_terminals
    × (IsSingle (after_events configs joins_with_held two_terminals) → ⊥)
unfolding computed_events
joins_held = (
  (
    throughout_by configs (λ e b. IsOfBus e) of_bus of_bus_so joins_with_held two_terminals refl,
    throughout_by configs (AssignsFree configs) (assigns_free configs) (assigns_free_so configs)
        joins_with_held two_terminals refl,
    throughout_by configs (RequestsByItsOwn configs) (requests_by_its_own configs)
        (requests_by_its_own_so configs) joins_with_held two_terminals refl,
  ),
  both_hold_so 64 (after_events configs joins_with_held two_terminals) refl,
)

pub fixed_twice : IsSingle same_fixed → ⊥
unfolding computed_events
fixed_twice = both_hold_so 5 same_fixed refl
