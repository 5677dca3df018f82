-- How the octets that a side sent are printed.
use Rattle.std.specs.Prelude.{ℕ, List, ◌++◌, codes, Bool, true, false, Some}
use Rattle.lapd_frame.specs.declared.Side.{Side}
use Rattle.lapd_frame.specs.Reading.{frame_at}
use Rattle.lapd_trace.specs.Trace.{trace_line}
use Rattle.lapd_cli_render.specs.Names.{names_text}
use Rattle.lapd_cli_render.specs.Json.{frame_members, named_members, object_text}
use Rattle.lapd_cli_render.specs.declared.Packet.{Packet}
use Rattle.lapd_cli_render.specs.Packet.{with_packet}
use Rattle.lapd_cli_frames.specs.Shown.{brief_line}
use Rattle.lapd_cli_frames.specs.declared.style.Style.{Style}
use Rattle.lapd_cli_frames.specs.declared.style.Style.TheVariants.{Plain, Named, Brief, Json, NamedJson}

-- the trace line, followed by the name of its message if requested, and without its information if
-- requested; or a JSON object with the same
abbrev pub styled_text : Style → Side → List ℕ → List ℕ
styled_text Plain from octets = trace_line from octets
styled_text Named from octets = trace_line from octets ++ names_text from octets
styled_text Brief from octets =
    brief_line (Some from) octets (frame_at from octets) ++ names_text from octets
styled_text Json from octets = object_text (frame_members from octets)
styled_text NamedJson from octets = object_text (named_members from octets)

-- whether the message in a frame is named
abbrev pub has_names : Style → Bool
has_names Plain = false
has_names Named = true
has_names Brief = true
has_names Json = false
has_names NamedJson = true

-- a mark behind a line if the capture has only the first of its octets
abbrev pub marked : Bool → List ℕ → List ℕ
marked false text = text
marked true text = text ++ codes " [cut]"

-- the same for a packet of a capture: a line is marked if it was cut; a JSON object also has the
-- packet's number and time, and whether it was cut
abbrev pub styled_packet : Style → Packet → Side → List ℕ → List ℕ
styled_packet Plain packet from octets = marked packet.is_cut (styled_text Plain from octets)
styled_packet Named packet from octets = marked packet.is_cut (styled_text Named from octets)
styled_packet Brief packet from octets = marked packet.is_cut (styled_text Brief from octets)
styled_packet Json packet from octets = object_text (with_packet packet (frame_members from octets))
styled_packet NamedJson packet from octets =
    object_text (with_packet packet (named_members from octets))
