-- A terminal that restarts with old frames of its new link in transit to it, computed.
use Rattle.std.proofs.Common.{[], ◌∷◌, refl}
use Rattle.lapd_link_definition.specs.Procedures.{start}
use Rattle.lapd_sides.specs.Worked as sides
use Rattle.lapd_side_events.specs.Bus.{bus_step}
use Rattle.lapd_two_side_laws.specs.Primitives.{link_primitives, AreExpectedOfLink}
use Rattle.lapd_two_side_laws.specs.Schedule.{configs, call}
use Rattle.lapd_bus_laws.specs.Holdings.{KeepsTeisApart, Assigns, IsOnlyClaimant, IsClearToNetwork}
use Rattle.lapd_bus_laws.specs.Runs.{assigns_first, waiting_terminal}
use Rattle.lapd_bus_laws.proofs.Checks.{keeps_teis_apart_so, reached_from_none, assigns_now_so, only_claimant_so, is_clear_so}
use Rattle.lapd_restart_laws.specs.Restarts.{losses}
use Rattle.lapd_bus_restart_laws.specs.BusAcross.{after_across, ThroughoutAcross}
use Rattle.lapd_bus_restart_laws.specs.HoldingsAcross.{IsReachedAcross, KeepsHoldingAcross}
use Rattle.lapd_bus_restart_laws.specs.OldFrames.{leaves_old_frame, with_old_frame, from_old_frame, answers_old_frame}
use Rattle.lapd_bus_restart_laws.proofs.ChecksAcross.{throughout_by, keeps_holding, keeps_holding_so}
use Rattle.lapd_two_side_laws.proofs.ComputedEvents.{computed_events}

pub old_frame_reached : IsReachedAcross configs with_old_frame
unfolding computed_events
old_frame_reached = record {
  start = with_old_frame;
  first = reached_from_none configs [] (waiting_terminal sides.random ∷ []) refl leaves_old_frame
      refl;
  events = [];
  apart = tt;
  reached = refl;
}

pub record AtOldFrame : Type 0 where
  pub apart : KeepsTeisApart configs assigns_first with_old_frame
  pub assigns : Assigns configs 64 assigns_first with_old_frame
  pub only : IsOnlyClaimant 64 0 (bus_step configs assigns_first with_old_frame)
  pub clear : IsClearToNetwork call (bus_step configs assigns_first with_old_frame)
  pub keeps : ThroughoutAcross configs (KeepsHoldingAcross configs call 0) answers_old_frame
      from_old_frame
  pub unexpected : AreExpectedOfLink
      (link_primitives call (after_across configs answers_old_frame from_old_frame).delivered) → ⊥

-- there is no terminal at index 1, so only the lines to the network are tested
pub at_old_frame : AtOldFrame
unfolding computed_events losses
at_old_frame = record {
  apart = keeps_teis_apart_so configs assigns_first with_old_frame refl;
  assigns = assigns_now_so configs 64 assigns_first with_old_frame refl;
  only = only_claimant_so 64 0 (bus_step configs assigns_first with_old_frame) refl;
  clear = (is_clear_so call 1 (bus_step configs assigns_first with_old_frame) refl).to_network;
  keeps = throughout_by configs (KeepsHoldingAcross configs call 0) (keeps_holding configs call 0)
      (keeps_holding_so configs call 0) answers_old_frame from_old_frame refl;
  unexpected = λ h. h.0;
}
