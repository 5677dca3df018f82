-- How the command represents a session, and what its calls receive and print.
use Rattle.std.specs.Prelude.{◌≡◌, ◌≤◌, ℕ, List, flat_map, length}
use Rattle.lapd_frame.specs.Frame.{n201}
use Rattle.lapd_link.specs.declared.Out.{Out}
use Rattle.lapd_link.specs.Input.{Input, UnitData}
use Rattle.lapd_link.specs.Link.{Setup}
use Rattle.lapd_cli_answer.specs.declared.answerer.Answerer.{Answerer}
use Rattle.lapd_cli_answer.specs.Answer.{Session, IsSession}
use Rattle.lapd_cli_answer.specs.Outputs.{input_as_octets, out_line}
use Rattle.lapd_cli_answer.specs.PrintedOutput.{OutputOctets}
use Rattle.lapd_cli_answer.specs.PrintedOutputs.{made_output}

abbrev pub IsAnswerer : Answerer → Session → Type 0
IsAnswerer answerer s = IsSession answerer.link s

-- the octets that an input carries: unit data of the input's length, or at most the information of
-- a frame
abbrev pub HasInputOctets : Input → List ℕ → Type 0
HasInputOctets (UnitData len) octets = len ≡ length octets
HasInputOctets input octets = length octets ≤ n201

-- the line of an output, by the frame built from it
abbrev pub made_line : Setup → List (List ℕ) → OutputOctets → Out → List ℕ
made_line setup messages s output = out_line setup.side (made_output setup messages s output)

abbrev pub made_text : Setup → List (List ℕ) → List ℕ → List Out → List ℕ
made_text setup messages input_octets outs = flat_map
    (made_line setup messages (input_as_octets input_octets)) outs
