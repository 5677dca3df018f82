-- The worked run with a restart, computed.
use Rattle.std.proofs.Common.{◌≡◌, ℕ, ◌&&◌, Bool, List, [], ◌∷◌, true, refl}
use Rattle.std.specs.Prelude.{Vec}
use Rattle.std.specs.declared.alloc.Global.{Global}
use Rattle.lapd_link_definition.specs.declared.out.Letter.TheVariants as letter
use Rattle.lapd_table.specs.declared.link_id.LinkId.{LinkId}
use Rattle.lapd_sides_links.specs.declared.primitive.What.TheVariants as what
use Rattle.lapd_side_events.specs.Interface.{Configs, Interface}
use Rattle.lapd_two_side_laws.specs.Primitives.{link_primitives}
use Rattle.lapd_two_side_laws.specs.Schedule.{at_first, call, configs, IsMessage}
use Rattle.lapd_two_side_laws.proofs.Computed.{Fits, holding, with_octets}
use Rattle.lapd_two_side_laws.proofs.ComputedEvents.{computed_events}
use Rattle.lapd_link_definition.proofs.Sending.{both_true}
use Rattle.lapd_restart_laws.specs.Restarts.{Change, Moves, NetworkRestarts, UserRestarts, changes, losses, run_across}
use Rattle.lapd_clock_laws.specs.Clock.{Clock, new_clock}
use Rattle.lapd_clock_laws.specs.InTime.{IsInTime}
use Rattle.lapd_clock_laws.specs.Runs.{half_of_t200}
use Rattle.lapd_clock_laws.proofs.Tests.{in_time, in_time_so, move_so, of_move}
use Rattle.lapd_clock_bus_laws.specs.Across.{AreInTimeAcross, IsChangeInTime, KeepTeiAsMade, OverhearOthersAcross, clock_across, restarts_at_half}

module _ (longest : ℕ) (c : Configs) (id : LinkId) where
  abbrev change_passes : Change → Interface → Clock → Bool
  change_passes (Moves move) i k = of_move (in_time longest id) move.side move.event i k
  change_passes restart i k = true

  abbrev passes_across : List Change → Interface → Clock → Bool
  passes_across [] i k = true
  passes_across (change ∷ later) i k = change_passes change i k
      && passes_across later (changes c change i) (clock_across c change i k)

  change_so : (change : Change) (i : Interface) (k : Clock) → change_passes change i k ≡ true
      → IsChangeInTime longest id change i k
  change_so (Moves move) i k h = move_so (IsInTime longest id) (in_time longest id)
      (in_time_so longest id) move.side move.event i k h
  change_so (NetworkRestarts known) i k h = tt
  change_so (UserRestarts fixed random) i k h = tt

  across_so : (all : List Change) (i : Interface) (k : Clock) → passes_across all i k ≡ true
      → AreInTimeAcross longest c id all i k
  across_so [] i k h = tt
  across_so (change ∷ later) i k h =
      let two = both_true (change_passes change i k)
      (passes_across later (changes c change i) (clock_across c change i k)) h in (
        change_so change i k two.0,
        across_so later (changes c change i) (clock_across c change i k) two.1,
      )

pub record RestartsAtHalf (message : Vec ℕ Global) : Type 0 where
  pub in_time : passes_across half_of_t200 configs call (restarts_at_half message) at_first
      (new_clock 0) ≡ true
  pub others : OverhearOthersAcross call (restarts_at_half message)
  pub tei : KeepTeiAsMade configs call (restarts_at_half message) at_first
  pub to_network : link_primitives call
      (run_across configs (restarts_at_half message) at_first).delivered_to_network
      ≡ what.Established ∷ what.Up (1 ∷ []) ∷ what.Report letter.F ∷ []

restarts_hold : (v : Vec ℕ Global) (x : Fits v (1 ∷ [])) → RestartsAtHalf (holding v (1 ∷ []) x)
unfolding computed_events losses
restarts_hold v x = record {
  in_time = refl;
  others = (tt, (tt, (tt, (tt, (tt, (tt, (tt, (tt, (tt, (tt, tt))))))))));
  tei = (
    λ gone. refl,
    (
      λ gone. refl,
      (
        λ gone. refl,
        (
          λ gone. refl,
          (
            record { returns = λ had has. refl; quiet = λ had has. (refl, refl) },
            (λ gone. refl, (λ gone. refl, (λ gone. refl, (λ gone. refl, (λ gone. refl, tt))))),
          ),
        ),
      ),
    ),
  );
  to_network = refl;
}

pub restarts_so : (message : Vec ℕ Global) → IsMessage 1 message → RestartsAtHalf message
restarts_so = with_octets RestartsAtHalf (1 ∷ []) restarts_hold

pub restarts_in_time : (message : Vec ℕ Global) → IsMessage 1 message
    → AreInTimeAcross half_of_t200 configs call (restarts_at_half message) at_first (new_clock 0)
restarts_in_time message one = across_so half_of_t200 configs call (restarts_at_half message)
    at_first (new_clock 0) (restarts_so message one).in_time
