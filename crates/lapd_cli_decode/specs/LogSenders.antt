-- Who sent the octets of a loose line.
use Rattle.std.specs.Prelude.{ℕ, List, Option, Some, None, option_map}
use Rattle.lapd_frame.specs.declared.Side.{Side}
use Rattle.lapd_field.specs.Address.{other_side}
use Rattle.lapd_cli_decode.specs.declared.line_sender.LineSender.{LineSender}
use Rattle.lapd_cli_decode.specs.declared.line_sender.LineSender.TheVariants.{Named, Printer, Peer, Unnamed, Continued}
use Rattle.lapd_cli_frames.specs.Senders.{named_or_by_kind}
use Rattle.lapd_follow.specs.Senders.{sender_by_kind}

-- the first side, or else the second
abbrev pub or_side : Option Side → Option Side → Option Side
or_side None second = second
or_side (Some side) second = Some side

-- the sender of these octets: the one that the line names; or, if a mark says whether the printer of
-- the lines sent or received them, the one that an option or the lines before chose for this
-- printer, whatever the octets say; or the one that their kind and C/R bit name
abbrev pub line_sender : Option Side → Option Side → LineSender → List ℕ → Option Side
line_sender chosen shown (Named side) octets = Some side
line_sender chosen shown Printer octets = named_or_by_kind (or_side chosen shown) octets
line_sender chosen shown Peer octets =
    named_or_by_kind (option_map other_side (or_side chosen shown)) octets
line_sender chosen shown Unnamed octets = named_or_by_kind chosen octets
line_sender chosen shown Continued octets = None

-- the side that printed the lines, by the first marked octets whose kind and C/R bit show it
abbrev pub printer_after : Option Side → LineSender → List ℕ → Option Side
printer_after shown Printer octets = or_side shown (sender_by_kind octets)
printer_after shown Peer octets = or_side shown (option_map other_side (sender_by_kind octets))
printer_after shown (Named side) octets = shown
printer_after shown Unnamed octets = shown
printer_after shown Continued octets = shown
