-- The octets that are written for frames: pcap with link type 177, and GSMTAP.
use Rattle.std.specs.Prelude.{ℕ, ◌+◌, ◌*◌, ◌/◌, ◌%◌, ◌^◌, List, [], ◌∷◌, ◌++◌, length}
use Rattle.byteorder.specs.Endian.{big_bytes}
use Rattle.lapd_field.specs.declared.side.Side.{Side}
use Rattle.lapd_field.specs.declared.side.Side.TheVariants.{Network, User}

-- the head of a file: its magic number, version 2.4, two unused numbers, the greatest packet, and
-- the link type
abbrev pub file_octets : List ℕ
file_octets = 0xA1 ∷ 0xB2 ∷ 0xC3 ∷ 0xD4 ∷ 0 ∷ 2 ∷ 0 ∷ 4 ∷ 0 ∷ 0 ∷ 0 ∷ 0 ∷ 0 ∷ 0 ∷ 0 ∷ 0
    ∷ 0 ∷ 4 ∷ 0 ∷ 0 ∷ 0 ∷ 0 ∷ 0 ∷ 177 ∷ []

-- the packet type: 4 if the capturing side sent the frame, 0 if it received it
abbrev pub packet_type : Side → Side → ℕ
packet_type Network Network = 4
packet_type Network User = 0
packet_type User Network = 0
packet_type User User = 4

-- the first octet of the address: the capturing side
abbrev pub side_octet : Side → ℕ
side_octet Network = 1
side_octet User = 0

-- the 16 octets before each frame: packet type, ARPHRD_LAPD, the length of the address, the
-- address, and ETH_P_LAPD
abbrev pub linux_header : Side → Side → List ℕ
linux_header own from = 0 ∷ packet_type own from ∷ 0x20 ∷ 0xFD ∷ 0 ∷ 1 ∷ side_octet own
    ∷ 0 ∷ 0 ∷ 0 ∷ 0 ∷ 0 ∷ 0 ∷ 0 ∷ 0x00 ∷ 0x30 ∷ []

-- the 16 octets before a packet: seconds and microseconds of the moment in milliseconds, and its
-- length twice
abbrev pub record_header : ℕ → ℕ → List ℕ
record_header moment count = big_bytes 4 (moment / 1000 % 2 ^ 32)
    ++ big_bytes 4 (moment % 1000 * 1000) ++ big_bytes 4 count ++ big_bytes 4 count

-- the record of a frame that the side `from` sent, captured by the side `own`
abbrev pub record_octets : Side → Side → ℕ → List ℕ → List ℕ
record_octets own from moment frame = record_header moment (16 + length frame)
    ++ linux_header own from ++ frame

-- the high octet of GSMTAP's channel number, with the uplink bit
abbrev pub channel_octet : Side → ℕ
channel_octet Network = 0x00
channel_octet User = 0x40

-- a GSMTAP header and a frame: version 2, four words, type 0x13, time slot, channel number, two
-- levels, frame number, subtype 1, antenna, sub-slot, and one unused octet
abbrev pub gsmtap_octets : Side → List ℕ → List ℕ
gsmtap_octets from frame = 2 ∷ 4 ∷ 0x13 ∷ 0 ∷ channel_octet from ∷ 0 ∷ 0 ∷ 0
    ∷ 0 ∷ 0 ∷ 0 ∷ 0 ∷ 1 ∷ 0 ∷ 0 ∷ 0 ∷ frame
