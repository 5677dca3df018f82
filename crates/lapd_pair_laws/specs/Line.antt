-- One direction of the line between the two ends of a data link: the frames in transit, in the
-- order in which they were sent. Sending appends a frame, delivering removes the first, and losing
-- removes any one. No frame is repeated or overtaken.
use Rattle.std.specs.Prelude.{ℕ, Bool, not, ◌&&◌, List, [], ◌∷◌, ◌++◌, Option}
use Rattle.std.specs.List.{position, remove}
use Rattle.lapd_frame.specs.declared.Role.{Role}
use Rattle.lapd_frame.specs.declared.Control.{Control}
use Rattle.lapd_frame.specs.Control.{poll_final}
use Rattle.lapd_frame.specs.Reading.{is_command}

-- A frame in transit: command or response, control field and information. It has no address, since
-- all frames belong to the one data link. The place is the index of an I frame's message among all
-- messages submitted at its sender, from 0. Only the proofs know it; no frame carries it. Other
-- frames have place 0.
pub record Flight : Type 0 where
  pub role : Role
  pub control : Control
  pub info : List ℕ
  pub place : ℕ

-- a frame without information
abbrev pub without_info : Role → Control → Flight
without_info role control = record { role = role; control = control; info = []; place = 0 }

-- sending appends a frame
abbrev pub sent_behind : List Flight → Flight → List Flight
sent_behind line frame = line ++ frame ∷ []

-- losing removes the frame at this position, counted from 0
abbrev pub without_lost : ℕ → List Flight → List Flight
without_lost at line = remove line at

-- a command with P=1, of whatever kind
abbrev pub is_poll : Flight → Bool
is_poll frame = is_command frame.role && poll_final frame.control

-- a response with F=1, of whatever kind
abbrev pub is_final : Flight → Bool
is_final frame = not (is_command frame.role) && poll_final frame.control

-- the position of the first command with P=1, and of the first response with F=1, if any
abbrev pub first_poll : List Flight → Option ℕ
first_poll line = position is_poll line

abbrev pub first_final : List Flight → Option ℕ
first_final line = position is_final line
