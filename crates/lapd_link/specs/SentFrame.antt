-- The frame of each output that is sent on the line (Q.921 2.1 to 2.5, 4.1), with the link's SAPI
-- and TEI.
use Rattle.std.specs.Prelude.{◌≡◌, ◌≤◌, ℕ, false, List, [], length, drop, get_or, slice_get, Option, Some, None}
use Rattle.std.specs.List.{All}
use Rattle.std.specs.Result.{result_ok}
use Rattle.lapd_frame.specs.declared.Role.{Role}
use Rattle.lapd_frame.specs.declared.Role.TheVariants.{Command}
use Rattle.lapd_frame.specs.declared.Address.{Address}
use Rattle.lapd_frame.specs.declared.Control.{Control}
use Rattle.lapd_frame.specs.declared.Control.TheVariants.{Ui}
use Rattle.lapd_frame.specs.Frame.{Fields, n201, content_fault, frame_of}
use Rattle.lapd_mod128.specs.Counting.{Tagged}
use Rattle.lapd_link_definition.specs.declared.out.Out.{Out}
use Rattle.lapd_link_definition.specs.declared.out.Out.TheVariants as out
use Rattle.lapd_link_definition.specs.End.{End}
use Rattle.lapd_link_definition.specs.Numbers.{AreNumbers}
use Rattle.lapd_link_definition.specs.Sound.{IsSound}
use Rattle.lapd_link_definition.specs.SentFrames.{AreShort}
use Rattle.lapd_link.specs.Link.{LinkRepresents, Setup, setup_of}
use Rattle.lapd_link.specs.declared.link.Link.{Link}

-- the link's address, in a command or a response
abbrev pub link_address : Setup → Role → Address
link_address setup role = record { sapi = setup.sapi; tei = setup.tei; role = role }

-- the parts of a frame of the link
abbrev pub link_parts : Setup → Role → Control → List ℕ → Fields
link_parts setup role control info = record {
  address = link_address setup role;
  control = control;
  info = info;
}

-- The frame of each output that is sent, and `None` for any other output. `messages` are those that
-- are neither acknowledged nor dropped after the step, and `input_octets` are the octets of the
-- unit data of the step.
abbrev pub sent_frame : Setup → List (List ℕ) → List ℕ → Out → Option Fields
sent_frame setup messages input_octets (out.Send role control) = Some
    (link_parts setup role control [])
sent_frame setup messages input_octets (out.SendMessage place control) =
    Some (link_parts setup Command control (get_or messages place []))
sent_frame setup messages input_octets out.SendUnit = Some
    (link_parts setup Command (Ui false) input_octets)
sent_frame setup messages input_octets other = None

-- ---- The frame made from any output.

-- the frame with these parts, if the control table has it (Q.921 Table 5)
abbrev pub link_frame : Setup → Role → Control → List ℕ → Option Fields
link_frame setup role control info = result_ok
    (frame_of (link_address setup role) control info (content_fault role control (length info)))

-- the frame that carries a message, if the message exists
abbrev pub message_frame : Setup → Control → Option (List ℕ) → Option Fields
message_frame setup control None = None
message_frame setup control (Some message) = link_frame setup Command control message

-- the frame made from an output; `None` also if its message does not exist, or its parts do not
-- form a frame
abbrev pub made_frame : Setup → List (List ℕ) → List ℕ → Out → Option Fields
made_frame setup messages input_octets (out.Send role control) = link_frame setup role control []
made_frame setup messages input_octets (out.SendMessage place control) =
    message_frame setup control (slice_get messages place)
made_frame setup messages input_octets out.SendUnit = link_frame setup Command
    (Ui false) input_octets
made_frame setup messages input_octets other = None

-- ---- The outputs of a step.

-- Each of these outputs that is sent has its frame: its message exists, and its parts form a frame.
-- This holds for any unit data of up to N201 octets.
abbrev pub HaveFrames : Setup → List (List ℕ) → List Out → Type 0
HaveFrames setup messages outs = (input_octets : List ℕ) → length input_octets ≤ n201
    → All (λ output. made_frame setup messages input_octets output
    ≡ sent_frame setup messages input_octets output) outs

-- a link has the frames of these outputs, after the step that returned them
abbrev pub HasFramesOf : Link → List Out → Type 0
HasFramesOf link outs = (e : End) → LinkRepresents link e
    → HaveFrames (setup_of link) (drop e.first e.given) outs

-- Properties that an end keeps from step to step, so that the outputs of each step have their
-- frames: its window has at most 127 places, its sent messages are outstanding, its numbers are
-- tags, and its messages have at most N201 octets.
pub record AllowsFrames (e : End) : Type 0 where
  pub few : e.parameters.k ≤ 127
  pub sound : IsSound Tagged e
  pub numbers : AreNumbers Tagged e.window
  pub short : AreShort e.given
