-- The output of a line.
use Rattle.std.specs.Prelude.{ℕ, List, map, take, flat_map}
use Rattle.std.specs.String.{string_bytes}
use Rattle.lapd_cli_side_commands.specs.declared.line_output.LineOutput.{LineOutput}
use Rattle.lapd_cli_side_commands.specs.declared.traced_frame.TracedFrame.{TracedFrame}

abbrev pub octets_of : TracedFrame → List ℕ
octets_of traced = traced.octets.items

abbrev pub line_of : TracedFrame → List ℕ
line_of traced = string_bytes traced.line

-- the frames to send, in order
abbrev pub sent_of : LineOutput → List (List ℕ)
sent_of output = map octets_of (take output.count output.frames.items)

-- their trace lines
abbrev pub traced_of : LineOutput → List ℕ
traced_of output = flat_map line_of (take output.count output.frames.items)

-- the printed primitives
abbrev pub primitives_text_of : LineOutput → List ℕ
primitives_text_of output = string_bytes output.primitives
