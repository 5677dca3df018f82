-- The kind of a file, by its first octets.
use Rattle.std.specs.Prelude.{ℕ, ◌/◌, ◌==◌, ◌||◌, ◌&&◌, nat_lt, not, if◌then◌else◌, Bool, is_some, List, [], ◌∷◌, length, take}
use Rattle.std.specs.List.{list_any}
use Rattle.lapd_capture.specs.declared.order.Order.TheVariants.{Big}
use Rattle.lapd_capture.specs.declared.file_kind.FileKind.{FileKind}
use Rattle.lapd_capture.specs.declared.file_kind.FileKind.TheVariants.{Capture, Gzip, Text, Other, Empty}
use Rattle.lapd_capture.specs.Octets.{number_at}
use Rattle.lapd_capture.specs.Reading.{order_of_pcap}

-- an octet that no text has: a control character of ASCII other than tab, line feed, vertical tab,
-- form feed, carriage return and escape
abbrev pub is_control : ℕ → Bool
is_control octet = nat_lt octet 9 || ((nat_lt 13 octet && (nat_lt octet 32 && not (octet == 27)))
    || (octet == 127))

-- the first four octets of a pcapng file, or of a pcap file
abbrev pub is_magic : ℕ → Bool
is_magic magic = (magic == 0x0A0D0D0A) || is_some (order_of_pcap magic)

-- of a file with these first octets, at least one
abbrev pub kind_by_octets : List ℕ → FileKind
kind_by_octets front = if list_any is_control front then Other else Text

-- the same if there are four; gzip has a magic number of two (RFC 1952)
abbrev pub kind_by_magic : ℕ → List ℕ → FileKind
kind_by_magic magic front = if is_magic magic then Capture else (
    if magic / 0x10000 == 0x1F8B then Gzip else kind_by_octets front)

-- of a file with these first octets
abbrev pub kind_of_front : List ℕ → FileKind
kind_of_front front = if length front == 0 then Empty else (
    if nat_lt (length front) 4 then kind_by_octets front else
    kind_by_magic (number_at Big 4 0 front) front)

-- of a file with these octets: the first eight decide
abbrev pub kind_of_file : List ℕ → FileKind
kind_of_file octets = kind_of_front (take 8 octets)
