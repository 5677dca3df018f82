-- The worked run of a bus, computed.
use Rattle.std.proofs.Common.{Bool, ◌≡◌, ℕ, ◌&&◌, List, [], ◌∷◌, true, Some, refl}
use Rattle.std.specs.Prelude.{Vec, is_some, slice_get}
use Rattle.std.specs.declared.alloc.Global.{Global}
use Rattle.lapd_sides_links.specs.declared.primitive.What.TheVariants as what
use Rattle.lapd_side_events.specs.Bus.{Bus, BusEvent, OfTerminal, OfNetwork, Join, Restart, after_events, from_now, interface_of, moves_along}
use Rattle.lapd_side_events.specs.Interface.{from_here, Move}
use Rattle.lapd_two_side_laws.specs.Primitives.{link_primitives}
use Rattle.lapd_two_side_laws.specs.Schedule.{configs, IsMessage}
use Rattle.lapd_two_side_laws.proofs.Computed.{Fits, holding, with_octets}
use Rattle.lapd_two_side_laws.proofs.ComputedEvents.{computed_events}
use Rattle.lapd_link_definition.proofs.Sending.{both_true}
use Rattle.lapd_bus_laws.specs.Links.{Throughout as bus_throughout}
use Rattle.lapd_bus_laws.specs.Runs.{fixed_call, two_fixed}
use Rattle.lapd_bus_laws.proofs.Checks.{keeps_holding, keeps_holding_so, passes as bus_passes, throughout_by}
use Rattle.lapd_clock_laws.specs.Clock.{new_clock}
use Rattle.lapd_clock_laws.specs.InTime.{AreInTime, OverhearOthers}
use Rattle.lapd_clock_laws.specs.Runs.{half_of_t200}
use Rattle.lapd_clock_laws.proofs.Tests.{in_time, in_time_so, passes, throughout_so}
use Rattle.lapd_clock_bus_laws.specs.Buses.{HasLine, KeepsTei, bus_at_half, first_terminal}

abbrev has_line : BusEvent → Bus → Bool
has_line (OfNetwork j event) b = is_some (slice_get b.terminals j)
has_line event b = true

has_line_so : (e : BusEvent) (b : Bus) → has_line e b ≡ true → HasLine e b
has_line_so (OfTerminal j event) b h = tt
has_line_so (OfNetwork j event) b h = h
has_line_so (Join j new) b h = tt
has_line_so (Restart known) b h = tt

abbrev keeps_tei : BusEvent → Bus → Bool
keeps_tei e b = keeps_holding configs fixed_call 0 e b && has_line e b

keeps_tei_so : (e : BusEvent) (b : Bus) → keeps_tei e b ≡ true → KeepsTei configs fixed_call 0 e b
keeps_tei_so e b h =
    let two = both_true (keeps_holding configs fixed_call 0 e b) (has_line e b) h in
    let kept = keeps_holding_so configs fixed_call 0 e b two.0 in
    record {
      leaves = kept.leaves;
      assigns = kept.assigns;
      requests = kept.requests;
      line = has_line_so e b two.1;
    }

abbrev Along : Vec ℕ Global → List Move
Along message = moves_along configs 0 (bus_at_half message) (from_now two_fixed)

pub record BusAtHalf (message : Vec ℕ Global) : Type 0 where
  pub keeps : bus_passes configs keeps_tei (bus_at_half message) (from_now two_fixed) ≡ true
  pub others : OverhearOthers fixed_call (Along message)
  pub in_time : passes configs (in_time half_of_t200 fixed_call) (Along message)
      (from_here (interface_of first_terminal two_fixed)) (new_clock 0) ≡ true
  pub to_network : link_primitives fixed_call
      (after_events configs (bus_at_half message) (from_now two_fixed)).delivered
      ≡ what.Established ∷ what.Up (1 ∷ []) ∷ []

bus_at_half_holds : (v : Vec ℕ Global) (x : Fits v (1 ∷ [])) → BusAtHalf (holding v (1 ∷ []) x)
unfolding computed_events
bus_at_half_holds v x = record {
  keeps = refl;
  others = (tt, (tt, (tt, (refl, (tt, (tt, (tt, (tt, tt))))))));
  in_time = refl;
  to_network = refl;
}

pub bus_at_half_so : (message : Vec ℕ Global) → IsMessage 1 message → BusAtHalf message
bus_at_half_so = with_octets BusAtHalf (1 ∷ []) bus_at_half_holds

pub bus_at_half_kept : (message : Vec ℕ Global) → IsMessage 1 message
    → bus_throughout configs (KeepsTei configs fixed_call 0) (bus_at_half message)
    (from_now two_fixed)
bus_at_half_kept message one = throughout_by configs (KeepsTei configs fixed_call 0) keeps_tei
    keeps_tei_so (bus_at_half message) (from_now two_fixed) (bus_at_half_so message one).keeps

pub bus_at_half_in_time : (message : Vec ℕ Global) → IsMessage 1 message
    → AreInTime half_of_t200 configs fixed_call (Along message)
    (from_here (interface_of first_terminal two_fixed)) (new_clock 0)
bus_at_half_in_time message one = throughout_so configs _ (in_time half_of_t200 fixed_call)
    (in_time_so half_of_t200 fixed_call) (Along message)
    (from_here (interface_of first_terminal two_fixed)) (new_clock 0)
    (bus_at_half_so message one).in_time

pub first_is_there : slice_get two_fixed.terminals 0 ≡ Some first_terminal
unfolding computed_events
first_is_there = refl
