-- The frames that a link may predict: none of them is for TEI management.
use Rattle.std.proofs.Common.{◌≡◌, false, Result, Ok, Err, refl}
use Rattle.std.proofs.Math.Bool.{and-false}
use Rattle.lapd_frame.specs.declared.frame_fault.FrameFault.{FrameFault}
use Rattle.lapd_frame.specs.declared.predicted_frame.PredictedFrame.{PredictedFrame}
use Rattle.lapd_frame.specs.Frame.{Fields}
use Rattle.lapd_frame.specs.PredictedFrame.{is_read_predictable, predicted_fields}
use Rattle.lapd_table.specs.LinkId.{id_of_address}
use Rattle.lapd_sides_links.specs.Links.{Links}
use Rattle.lapd_sides_links.proofs.Predictions.{not_predicted}
use Rattle.lapd_sides.specs.Management.{carries_message, is_management}
use Rattle.lapd_sides.specs.Shows.{are_predicted}
use Rattle.lapd_sides.specs.Meant.{predicted_is_no_group_unit}

-- a frame that is predicted is no TEI message
pub predicted_is_no_message : (p : PredictedFrame) → carries_message (predicted_fields p) ≡ false
predicted_is_no_message p = rw (predicted_is_no_group_unit p) (and-false (is_management p.sapi))

-- octets that are not read as a frame of such a kind make no predicted step
pub not_read_as_predictable : (read : Result Fields FrameFault) (links : Links)
    → is_read_predictable read ≡ false → are_predicted read links ≡ false
not_read_as_predictable (Ok frame) links h =
    not_predicted frame.control frame.address.role (links (id_of_address frame.address)) h
not_read_as_predictable (Err fault) links h = refl
