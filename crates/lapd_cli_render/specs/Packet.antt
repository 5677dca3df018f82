-- Objects for octets in a packet of a capture, with its number, the time of the capture, and
-- whether it was cut.
use Rattle.std.specs.Prelude.{ℕ, ◌+◌, ◌*◌, ◌/◌, ◌%◌, List, [], ◌∷◌, ◌++◌, codes, Bool, true, false, Option, Some, None}
use Rattle.std.specs.Fmt.{decimal}
use Rattle.hex.specs.Hex.{encode_lower}
use Rattle.serde_json.specs.Data.{Members}
use Rattle.lapd_cli_render.specs.declared.packet.Packet.{Packet}
use Rattle.lapd_cli_render.specs.Json.{with_flag, with_number, with_text}

-- two decimal digits in BCD
abbrev pub two_digits : ℕ → ℕ
two_digits number = number / 10 * 16 + number % 10

-- six decimal digits of a number below a million
abbrev pub six_digits : ℕ → List ℕ
six_digits number = encode_lower (two_digits (number / 10000) ∷ two_digits (number / 100 % 100)
    ∷ two_digits (number % 100) ∷ [])

-- microseconds as seconds with six decimals
abbrev pub seconds_text : ℕ → List ℕ
seconds_text moment = decimal (moment / 1000000)
    ++ (codes "." ++ six_digits (moment % 1000000))

-- the time of the capture, if known
abbrev pub with_moment : Option ℕ → Members → Members
with_moment None members = members
with_moment (Some moment) members = with_text (codes "time") (seconds_text moment) members

-- a mark if the packet was cut
abbrev pub with_cut : Bool → Members → Members
with_cut false members = members
with_cut true members = with_flag (codes "cut") true members

-- the number of the packet, the time of its capture, and whether it was cut
abbrev pub with_packet : Packet → Members → Members
with_packet packet members = with_cut packet.is_cut
    (with_moment packet.moment (with_number (codes "packet") packet.number members))
