-- A frame as the record of a pcap file of link type 177 (LINUX_LAPD), in big endian.
use Rattle.std.specs.Prelude.{ℕ, ◌+◌, ◌/◌, ◌%◌, ◌^◌, ◌||◌, nat_lt, min, if◌then◌else◌, Bool, List, [], ◌∷◌, ◌++◌, length, take, Option, None, Some, unwrap_or}
use Rattle.byteorder.specs.Endian.{big_bytes}
use Rattle.lapd_frame.specs.declared.Side.{Side}
use Rattle.lapd_frame.specs.declared.Side.TheVariants.{Network, User}
use Rattle.lapd_cli_render.specs.declared.Packet.{Packet}

-- how many octets of a frame are written: with the 16 before it a packet has at most 262,144
abbrev pub kept_length : List ℕ → ℕ
kept_length octets = min (length octets) 262128

-- the length of the packet: one more than is written if the capture, or the record, has only its
-- first octets
abbrev pub original_length : Bool → List ℕ → ℕ
original_length is_cut octets = if is_cut || nat_lt 262128 (length octets)
    then 16 + kept_length octets + 1 else 16 + kept_length octets

abbrev pub seconds_of : ℕ → ℕ
seconds_of moment = moment / 1000000 % 2 ^ 32

-- seconds and microseconds, and both lengths of the packet
abbrev pub record_header : ℕ → ℕ → ℕ → List ℕ
record_header moment count original = big_bytes 4 (seconds_of moment)
    ++ big_bytes 4 (moment % 1000000) ++ big_bytes 4 count ++ big_bytes 4 original

-- the packet type: 0 to this host, 4 from it, and 5, of which no sender is known
abbrev pub packet_type : Option Side → ℕ
packet_type (Some User) = 0
packet_type (Some Network) = 4
packet_type None = 5

-- the 16 octets before the frame: packet type, ARPHRD_LAPD, the length of the address, the address,
-- which begins with 1 as the network side captures, and ETH_P_LAPD
abbrev pub line_header : Option Side → List ℕ
line_header from = 0 ∷ packet_type from ∷ 0x20 ∷ 0xFD ∷ 0 ∷ 1 ∷ 1
    ∷ 0 ∷ 0 ∷ 0 ∷ 0 ∷ 0 ∷ 0 ∷ 0 ∷ 0x00 ∷ 0x30 ∷ []

-- the record of octets in this packet, of this sender if it is known; without a time its time is 0
abbrev pub record_text : Packet → Option Side → List ℕ → List ℕ
record_text packet from octets = record_header (unwrap_or packet.moment 0)
    (16 + kept_length octets) (original_length packet.is_cut octets)
    ++ (line_header from ++ take (kept_length octets) octets)
