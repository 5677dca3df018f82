use Rattle.lapd_bus_restart_laws.proofs.OldFrameComputed.{at_old_frame, old_frame_reached}
use Rattle.lapd_bus_restart_laws.proofs.old_frames.old_frame_premise_is_needed.Goals as goal

pub returns : goal.returns
returns c = record {
  reached = old_frame_reached;
  apart = at_old_frame.apart;
  assigns = at_old_frame.assigns;
  only = at_old_frame.only;
  clear = at_old_frame.clear;
  keeps = at_old_frame.keeps;
  unexpected = at_old_frame.unexpected;
}
