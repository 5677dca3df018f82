-- The frames that header prediction reads.
use Rattle.std.specs.Prelude.{◌≡◌, ℕ, Bool, true, false, List, ◌∷◌, length, None, Result, Ok, Err}
use Rattle.lapd_field.specs.declared.side.Role.{Role}
use Rattle.lapd_field.specs.declared.side.Role.TheVariants.{Command, Answer}
use Rattle.lapd_field.specs.declared.address.Address.{Address}
use Rattle.lapd_field.specs.declared.control.Control.{Control}
use Rattle.lapd_field.specs.declared.control.Control.TheVariants.{I, Rr}
use Rattle.lapd_field.specs.declared.field_fault.FieldFault.{FieldFault}
use Rattle.lapd_field.specs.Control.{control_at}
use Rattle.lapd_frame.specs.declared.frame_fault.FrameFault.{FrameFault}
use Rattle.lapd_frame.specs.declared.predicted_frame.PredictedFrame.{PredictedFrame}
use Rattle.lapd_frame.specs.declared.predicted_frame.PredictedKind.{PredictedKind}
use Rattle.lapd_frame.specs.declared.predicted_frame.PredictedKind.TheVariants.{Message, Acknowledgement, Poll}
use Rattle.lapd_frame.specs.Frame.{Fields, content_fault}
use Rattle.lapd_frame.specs.Reading.{frame_of_fields}

-- the control field of a frame of this kind, with this N(R)
abbrev pub predicted_control : PredictedKind → ℕ → Control
predicted_control (Message ns) nr = I ns nr false
predicted_control Acknowledgement nr = Rr nr false
predicted_control Poll nr = Rr nr true

abbrev pub predicted_role : PredictedKind → Role
predicted_role (Message ns) = Command
predicted_role Acknowledgement = Answer
predicted_role Poll = Command

abbrev pub predicted_fields : PredictedFrame → Fields
predicted_fields p = record {
  address = record { sapi = p.sapi; tei = p.tei; role = predicted_role p.kind };
  control = predicted_control p.kind p.nr;
  info = p.info.now;
}

-- a frame with this control field and role is of one of the kinds
abbrev pub is_predictable : Control → Role → Bool
is_predictable (I ns nr false) Command = true
is_predictable (Rr nr true) Command = true
is_predictable (Rr nr false) Answer = true
is_predictable control role = false

-- octets that were read as such a frame
abbrev pub is_read_predictable : Result Fields FrameFault → Bool
is_read_predictable (Ok frame) = is_predictable frame.control frame.address.role
is_read_predictable (Err fault) = false

-- ---- The parts of a frame whose control field has two octets.

-- these are the parts of the frame, and they form a valid one
abbrev pub are_parts_of : Address → Control → List ℕ → PredictedFrame → Type 0
are_parts_of address control info p =
    (predicted_fields p ≡ record { address = address; control = control; info = info })
    × (content_fault address.role control (length info) ≡ None)

-- the frame of an address field, of two octets, and of the information after them
abbrev pub numbered_frame : Result Address FieldFault → ℕ → ℕ → List ℕ → Result Fields FrameFault
numbered_frame address third fourth info =
    frame_of_fields address (control_at (third ∷ fourth ∷ info)) (third ∷ fourth ∷ info)
