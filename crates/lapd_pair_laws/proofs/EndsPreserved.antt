-- Places and parameters of an end after each move, from the laws of the state table.
use Rattle.std.proofs.Common.{◌≡◌, ℕ, ◌≤◌, List, Result, Ok, refl, arith}
use Rattle.lapd_frame.specs.declared.Side.TheVariants as side
use Rattle.lapd_mod128.specs.Counting.{Whole}
use Rattle.lapd_link_definition.specs.End.{End, StepState}
use Rattle.lapd_link_definition.specs.Input.{Input}
use Rattle.lapd_link_definition.specs.Sound.{IsSound}
use Rattle.lapd_link_definition.specs.Table.{step}
use Rattle.lapd_link_definition.proofs.PreservedByStep.{step_preserves_parameters}
use Rattle.lapd_link_definition.proofs.Soundness.{sound_step}
use Rattle.lapd_pair_laws.specs.Move.{PairEvent, View, ViewStep, Refusal, acts, takes, restarted}
use Rattle.lapd_pair_laws.proofs.EachMove.{kept_by_input, kept_by_event}
use Rattle.lapd_pair_laws.proofs.Worlds.{left_by}

-- the end stays sound, with the same parameters
pub record StaysSound (before after : End) : Type 0 where
  pub sound : IsSound Whole after
  pub parameters : after.parameters ≡ before.parameters

abbrev pub Left : View → Result ViewStep Refusal → Type 0
Left v r = StaysSound v.station.end (left_by v r).station.end

module _ (v : View) (small : v.station.end.parameters.k ≤ 127)
    (sound : IsSound Whole v.station.end) where
  unchanged : StaysSound v.station.end v.station.end
  unchanged = record { sound = sound; parameters = refl }

  stepping : (what : Input) (s : StepState) → step Whole what v.station.end ≡ Ok s
      → StaysSound v.station.end s.end
  stepping what s is = record {
    sound = sound_step Whole what v.station.end s small sound is;
    parameters = step_preserves_parameters Whole what v.station.end s is;
  }

  restarting : StaysSound v.station.end (restarted v.station.end)
  restarting = record {
    sound = record { places = refl; within = omega arith };
    parameters = refl;
  }

  pub taken : (what : Input) (octets : List ℕ) → Left v (takes Whole what octets v)
  taken =
      kept_by_input (StaysSound v.station.end) side.User v stepping restarting unchanged

  pub stays_sound : (event : PairEvent) → Left v (acts Whole side.User event v)
  stays_sound =
      kept_by_event (StaysSound v.station.end) side.User v stepping restarting unchanged
