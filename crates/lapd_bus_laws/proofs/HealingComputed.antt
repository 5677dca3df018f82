-- The worked runs of a check, computed.
use Rattle.std.proofs.Common.{◌≡◌, List, [], ◌∷◌, ◌++◌, Bool, map, true, false, refl}
use Rattle.lapd_sides.specs.Worked as sides
use Rattle.lapd_two_side_laws.specs.Schedule.{configs}
use Rattle.lapd_two_side_laws.proofs.ComputedEvents.{computed_events}
use Rattle.lapd_side_events.specs.Bus.{Bus, BusEvent, OfTerminal, OfNetwork, Join, Restart, after_events}
use Rattle.lapd_side_events.specs.SideView.{Take, Lose}
use Rattle.lapd_bus_laws.specs.Assignments.{holds, IsHeldOnce}
use Rattle.lapd_bus_laws.specs.Healing.{BeginsCheck, DeliversMessages, CarriesCheckOn, Heals, IsChecked, IsAtRest, ReferencesDiffer}
use Rattle.lapd_bus_laws.specs.HealingRuns.{doubled, unknown, begins, times_out, both_take, both_leave, one_obtains, healed, one_responds, other_obtains, assigned_anew, IsNotHealed, HealsBut, HealsButDelivery, HealsButCheck, HealsButJoining, request_lost, too_early, given_up, joins_during, same_then, begun, before_removals, before_rest}
use Rattle.lapd_bus_laws.specs.Holdings.{JoinsWithFree, IsOfBus, IsReached}
use Rattle.lapd_bus_laws.specs.Links.{Throughout}
use Rattle.lapd_bus_laws.specs.Runs.{other_random, with_fixed_tei, twins, same_reference}
use Rattle.lapd_bus_laws.proofs.Checks.{passes, throughout_by, of_bus, of_bus_so, joins_with_free, joins_with_free_so, both_hold, both_hold_it}
use Rattle.lapd_bus_laws.proofs.HealingChecks.{delivers, delivers_so, carries_on, carries_on_so, heals, heals_so, is_over, is_over_so, references_differ, references_differ_so, apart_by}

-- ---- The tests of a run.

module _ (events : List BusEvent) (b : Bus) where
  all_heal : passes configs (heals configs 64) events b ≡ true
      → Throughout configs (Heals 64) events b
  all_heal = throughout_by configs (Heals 64) (heals configs 64) (heals_so configs 64) events b

  -- all premises but one
  all_heal_but : (P Q : BusEvent → Bus → Type 0) (p q : BusEvent → Bus → Bool)
      → ((e : BusEvent) (now : Bus) → p e now ≡ true → P e now)
      → ((e : BusEvent) (now : Bus) → q e now ≡ true → Q e now)
      → passes configs of_bus events b ≡ true → passes configs p events b ≡ true
      → passes configs q events b ≡ true → HealsBut P Q events b
  all_heal_but P Q p q p_so q_so of p_passes q_passes = (
    throughout_by configs (λ e b. IsOfBus e) of_bus of_bus_so events b of,
    throughout_by configs P p p_so events b p_passes,
    throughout_by configs Q q q_so events b q_passes,
  )

  -- a check begins the run, and is over after these events
  checked_first : (during later : List BusEvent) → events ≡ begins ∷ (during ++ later)
      → BeginsCheck configs 64 begins b
      → is_over 64 (after_events configs (begins ∷ during) b) ≡ true → IsChecked configs 64 events b
  checked_first during later parts starts over = record {
    before = [];
    start = begins;
    during = during;
    later = later;
    parts = parts;
    begins = starts;
    over = is_over_so 64 (after_events configs (begins ∷ during) b) over;
  }

  not_healed : (during : List BusEvent) → events ≡ begins ∷ (during ++ [])
      → BeginsCheck configs 64 begins b
      → is_over 64 (after_events configs (begins ∷ during) b) ≡ true
      → IsAtRest 64 (after_events configs events b)
      → references_differ (after_events configs events b) ≡ true
      → both_hold 64 (after_events configs events b) ≡ true → IsNotHealed events b
  not_healed during parts starts over rest differ twice = record {
    checked = checked_first during [] parts starts over;
    rest = rest;
    references = references_differ_so (after_events configs events b) differ;
    twice = both_hold_it 64 (after_events configs events b) twice;
  }

-- ---- A check heals the TEI.

pub doubled_so : map (holds 64) doubled.terminals ≡ true ∷ true ∷ []
unfolding computed_events
doubled_so = refl

pub healed_so : Throughout configs (Heals 64) healed doubled × IsChecked configs 64 healed doubled
    × IsAtRest 64 (after_events configs healed doubled)
    × ReferencesDiffer (after_events configs healed doubled)
    × (map (holds 64) (after_events configs healed doubled).terminals
    ≡ true ∷ false ∷ [])
unfolding computed_events
healed_so = (
  all_heal healed doubled refl,
  checked_first healed doubled both_leave one_obtains refl (refl, refl) refl,
  refl,
  references_differ_so (after_events configs healed doubled) refl,
  refl,
)

pub assigned_anew_so : Throughout configs (Heals 64) assigned_anew unknown
    × IsChecked configs 64 assigned_anew unknown
    × IsAtRest 64 (after_events configs assigned_anew unknown)
    × ReferencesDiffer (after_events configs assigned_anew unknown)
    × (map (holds 64) (after_events configs assigned_anew unknown).terminals
    ≡ false ∷ true ∷ [])
unfolding computed_events
assigned_anew_so = (
  all_heal assigned_anew unknown refl,
  checked_first assigned_anew unknown one_responds (other_obtains ++ OfTerminal 0 (Take 1000) ∷ [])
      refl (refl, refl) refl,
  refl,
  references_differ_so (after_events configs assigned_anew unknown) refl,
  refl,
)

-- after the first run all that is proved of a bus holds again
pub again_so : IsReached configs (after_events configs healed doubled)
unfolding computed_events
again_so = record {
  known = [];
  terminals = with_fixed_tei 64 sides.random ∷ with_fixed_tei 64 other_random ∷ [];
  before = healed;
  of_bus = throughout_by configs (λ e b. IsOfBus e) of_bus of_bus_so healed doubled refl;
  start = apart_by 0 (after_events configs healed doubled) (λ tei. refl) (λ ri. refl);
  events = [];
  apart = tt;
  reached = refl;
}

-- ---- Each premise is needed.

pub request_lost_so : HealsButDelivery request_lost doubled × IsNotHealed request_lost doubled
unfolding computed_events
request_lost_so = (
  all_heal_but request_lost doubled (CarriesCheckOn 64) JoinsWithFree (carries_on 64)
      (joins_with_free configs) (carries_on_so 64) (joins_with_free_so configs) refl refl refl,
  not_healed request_lost doubled (OfTerminal 0 (Take 0) ∷ OfTerminal 1 (Lose 0)
      ∷ OfNetwork 0 (Take 0) ∷ times_out ∷ []) refl (refl, refl) refl refl refl refl,
)

pub too_early_so : HealsButCheck too_early doubled × IsNotHealed too_early doubled
unfolding computed_events
too_early_so = (
  all_heal_but too_early doubled (DeliversMessages 64) JoinsWithFree (delivers 64)
      (joins_with_free configs) (delivers_so 64) (joins_with_free_so configs) refl refl refl,
  not_healed too_early doubled (both_take ++ OfNetwork 0 (Take 0) ∷ times_out ∷ []) refl
      (refl, refl) refl refl refl refl,
)

pub given_up_so : HealsButCheck given_up doubled × IsNotHealed given_up doubled
unfolding computed_events
given_up_so = (
  all_heal_but given_up doubled (DeliversMessages 64) JoinsWithFree (delivers 64)
      (joins_with_free configs) (delivers_so 64) (joins_with_free_so configs) refl refl refl,
  not_healed given_up doubled (Restart [] ∷ both_take) refl (refl, refl) refl refl refl refl,
)

pub joins_during_so : HealsButJoining joins_during unknown × IsNotHealed joins_during unknown
unfolding computed_events
joins_during_so = (
  all_heal_but joins_during unknown (DeliversMessages 64) (CarriesCheckOn 64) (delivers 64)
      (carries_on 64) (delivers_so 64) (carries_on_so 64) refl refl refl,
  not_healed joins_during unknown (both_take ++ Join 1 (with_fixed_tei 64 other_random)
      ∷ OfNetwork 0 (Take 0) ∷ times_out ∷ []) refl (refl, refl) refl refl refl refl,
)

pub same_then_so : Throughout configs (Heals 64) same_then twins
    × IsChecked configs 64 same_then twins
    × IsAtRest 64 (after_events configs same_then twins)
    × (IsHeldOnce 64 (after_events configs same_then twins) → ⊥)
unfolding computed_events
same_then_so = (
  all_heal same_then twins refl,
  checked_first same_then twins (both_take ++ times_out ∷ both_take ++ times_out ∷ [])
      same_reference refl (refl, refl) refl,
  refl,
  both_hold_it 64 (after_events configs same_then twins) refl,
)

pub begun_so : Throughout configs (Heals 64) begun doubled
    × IsAtRest 64 (after_events configs begun doubled)
    × ReferencesDiffer (after_events configs begun doubled)
    × (IsHeldOnce 64 (after_events configs begun doubled) → ⊥)
unfolding computed_events
begun_so = (
  all_heal begun doubled refl,
  refl,
  references_differ_so (after_events configs begun doubled) refl,
  both_hold_it 64 (after_events configs begun doubled) refl,
)

pub before_removals_so : Throughout configs (Heals 64) before_removals doubled
    × IsAtRest 64 (after_events configs before_removals doubled)
    × ReferencesDiffer (after_events configs before_removals doubled)
    × (IsHeldOnce 64 (after_events configs before_removals doubled) → ⊥)
unfolding computed_events
before_removals_so = (
  all_heal before_removals doubled refl,
  refl,
  references_differ_so (after_events configs before_removals doubled) refl,
  both_hold_it 64 (after_events configs before_removals doubled) refl,
)

pub before_rest_so : Throughout configs (Heals 64) before_rest unknown
    × IsChecked configs 64 before_rest unknown
    × ReferencesDiffer (after_events configs before_rest unknown)
    × (IsHeldOnce 64 (after_events configs before_rest unknown) → ⊥)
unfolding computed_events
before_rest_so = (
  all_heal before_rest unknown refl,
  checked_first before_rest unknown one_responds other_obtains refl (refl, refl) refl,
  references_differ_so (after_events configs before_rest unknown) refl,
  both_hold_it 64 (after_events configs before_rest unknown) refl,
)
