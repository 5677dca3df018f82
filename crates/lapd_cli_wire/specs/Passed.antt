-- The frames that cross a line, each with its sender.
use Rattle.std.specs.Prelude.{◌≡◌, List, [], ◌∷◌, ◌++◌, ℕ, Option, None, Some, option_map, ⊤}
use Rattle.lapd_field.specs.Address.{other_side}
use Rattle.lapd_frame.specs.declared.Side.{Side}
use Rattle.lapd_cli_wire.specs.IoEvents.{Arrives, IoEvent, FindsNone, Reads, Sends, Waits}

-- a frame, and who sent it
pub record PassedFrame : Type 0 where
  pub from : Side
  pub octets : List ℕ

abbrev pub passed_frame : Side → List ℕ → PassedFrame
passed_frame from octets = record { from = from; octets = octets }

-- the frames that this side received and sent, in order
abbrev pub passed_in : Side → List IoEvent → List PassedFrame
passed_in own [] = []
passed_in own (Reads now ∷ io_events) = passed_in own io_events
passed_in own (FindsNone ∷ io_events) = passed_in own io_events
passed_in own (Waits until woken ∷ io_events) = passed_in own io_events
passed_in own (Arrives frame ∷ io_events) = passed_frame (other_side own) frame
    ∷ passed_in own io_events
passed_in own (Sends frame ∷ io_events) = passed_frame own frame ∷ passed_in own io_events

-- the frames that a tap was passed, and some more, if they are recorded
abbrev pub passed_more : Option (List PassedFrame) → List PassedFrame → Option (List PassedFrame)
passed_more passed_frames more = option_map (λ frames. frames ++ more) passed_frames

-- and the frames of some more calls
abbrev pub passed_with : Side → Option (List PassedFrame) → List IoEvent → Option (List PassedFrame)
passed_with own passed_frames io_events = passed_more passed_frames (passed_in own io_events)

-- if both are recorded, a tap was passed exactly the frames of the calls, each once and in order
abbrev pub ArePassed : Side → Option (List IoEvent) → Option (List PassedFrame) → Type 0
ArePassed own None passed_frames = ⊤
ArePassed own (Some io_events) None = ⊤
ArePassed own (Some io_events) (Some frames) = frames ≡ passed_in own io_events
