-- The printed lines of a link's outputs.
use Rattle.std.specs.Prelude.{ℕ, List, [], ◌++◌, flat_map, codes}
use Rattle.lapd_frame.specs.declared.Side.{Side}
use Rattle.lapd_frame.specs.Frame.{Fields, spelling}
use Rattle.lapd_link.specs.declared.Out.{Out}
use Rattle.lapd_link.specs.declared.LinkFault.{LinkFault}
use Rattle.lapd_link.specs.Link.{Setup}
use Rattle.lapd_link.specs.Refusal.{refusal_name}
use Rattle.lapd_cli_script.specs.Line.{text_line, digits_of}
use Rattle.lapd_cli_answer.specs.PrintedOutput.{OutputOctets, PrintedOutput, Sent, Primitive, Timer, Nothing, printed_output}

-- a frame that is sent: all its octets
abbrev pub send_line : Side → Fields → List ℕ
send_line from frame = text_line (codes "send" ++ digits_of (spelling from frame))

abbrev pub out_line : Side → PrintedOutput → List ℕ
out_line from (Sent frame) = send_line from frame
out_line from (Primitive line) = line
out_line from (Timer line) = line
out_line from Nothing = []

-- the octets of the outputs, which are those the line carried: a frame's information or unit data
abbrev pub input_as_octets : List ℕ → OutputOctets
input_as_octets input_octets = record {
  message = input_octets;
  unit = input_octets;
  sent = input_octets;
}

-- `messages`: those neither acknowledged nor dropped after the step
abbrev pub outs_text : Setup → List (List ℕ) → List ℕ → List Out → List ℕ
outs_text setup messages input_octets outs =
    flat_map (λ output. out_line setup.side
    (printed_output setup messages (input_as_octets input_octets) output)) outs

-- a request refused by the link
abbrev pub refusal_line : LinkFault → List ℕ
refusal_line fault = text_line (codes "refused " ++ refusal_name fault)
