-- Reading a capture: its layout, and its next item. Each length is compared with the octets that
-- are left before it is used.
use Rattle.std.specs.Prelude.{ℕ, ◌+◌, ◌*◌, ◌/◌, ◌%◌, ◌-◌, ◌^◌, min, ◌==◌, ◌||◌, nat_lt, not, if◌then◌else◌, List, [], ◌∷◌, ◌++◌, length, take, drop, Option, Some, None, Result, Ok, Err, slice_get}
use Rattle.lapd_capture.specs.declared.order.Order.{Order}
use Rattle.lapd_capture.specs.declared.order.Order.TheVariants.{Big, Little}
use Rattle.lapd_capture.specs.declared.item.CaptureItem.{CaptureItem}
use Rattle.lapd_capture.specs.declared.item.CaptureItem.TheVariants.{Other, Unreadable, End}
use Rattle.lapd_capture.specs.declared.item.PacketFault.TheVariants.{NoInterface, BadLength as BadPacketLength}
use Rattle.lapd_capture.specs.declared.fault.CaptureFault.{CaptureFault}
use Rattle.lapd_capture.specs.declared.fault.CaptureFault.TheVariants.{NotACapture, Gzip, LinkNotServed, Cut, BadLength, TooManyInterfaces}
use Rattle.lapd_capture.specs.declared.link_type.LinkType.{LinkType}
use Rattle.lapd_capture.specs.declared.link_type.LinkType.TheVariants.{LinuxLapd, Lapd, Ethernet, Ip, Loopback, Cooked, Cooked2, NotServed}
use Rattle.lapd_capture.specs.declared.interface.Interface.{Interface}
use Rattle.lapd_capture.specs.declared.format.Format.{Format}
use Rattle.lapd_capture.specs.declared.format.Format.TheVariants.{Pcap, Pcapng}
use Rattle.lapd_capture.specs.Octets.{number_at}
use Rattle.lapd_capture.specs.Packet.{captured_packet_at, link_type_of}
use Rattle.lapd_capture.specs.Moment.{units_in, missing_in, moment_in, padded}

-- A capture and how far it is read: the octets that are left and how many were before them, the
-- format, the interfaces (a pcap file has one), how many packets were read, when the last of them
-- was captured, if the file says so, how many packets the file says to lack before them, and the
-- octets of the last record or block in which a frame is found.
pub record Reading : Type 0 where
  pub left : List ℕ
  pub place : ℕ
  pub order : Order
  pub format : Format
  pub interfaces : List Interface
  pub packets : ℕ
  pub moment : Option ℕ
  pub missing : ℕ
  pub body : List ℕ

-- the item that was found, and the capture after it
pub record Step : Type 0 where
  pub item : CaptureItem
  pub reading : Reading

-- the greatest length of a packet
abbrev pub most_packet : ℕ
most_packet = 262144

-- the packet of this original length on this interface, captured from `start` to `kept`
abbrev pub item_on : Option Interface → ℕ → ℕ → ℕ → List ℕ → CaptureItem
item_on None original start kept octets = Unreadable NoInterface
item_on (Some interface) original start kept octets =
    captured_packet_at original interface.link start kept octets

-- ---- pcap: a header of 24 octets, followed by records of a header of 16 octets and a packet.

-- the moment of a packet on this interface, from its seconds and the units of time after them
abbrev pub moment_at : Option Interface → ℕ → ℕ → Option ℕ
moment_at None seconds parts = None
moment_at (Some interface) seconds parts =
    moment_in interface.units (seconds * interface.units + parts)

-- the packet in the body, which has this length, after a header with two numbers for the moment,
-- the number of captured octets, and the original length
abbrev pub record_found : List ℕ → ℕ → Reading → Result Step CaptureFault
record_found header captured r = Ok (record {
  item = item_on (slice_get r.interfaces 0) (number_at r.order 4 12 header) 0 captured r.body;
  reading = record r {
    place = r.place + (16 + captured);
    packets = r.packets + 1;
    moment = moment_at (slice_get r.interfaces 0) (number_at r.order 4 0 header)
        (number_at r.order 4 4 header);
  };
})

-- the next octets, this many, as the body
abbrev pub with_body : ℕ → Reading → Reading
with_body count r = record r { left = drop count r.left; body = take count r.left }

abbrev pub record_packet : List ℕ → ℕ → Reading → Result Step CaptureFault
record_packet header captured r = if nat_lt most_packet captured then Err BadLength else (
    if nat_lt (length r.left) captured then Err Cut else
    record_found header captured (with_body captured r))

abbrev pub record_after : List ℕ → Reading → Result Step CaptureFault
record_after header r = record_packet header (number_at r.order 4 8 header) r

-- the next record
abbrev pub record_step : Reading → Result Step CaptureFault
record_step r = if nat_lt (length r.left) 16 then Err Cut else
    record_after (take 16 r.left) (record r { left = drop 16 r.left })

-- ---- pcapng: blocks, each with its kind, its length, its body, and its length again. The head of
-- a block is its first 12 octets.

-- the greatest part of a body, after the head, that a packet block needs
abbrev pub most_body : ℕ
most_body = 262160

-- the byte order of a section, by the magic number of its header
abbrev pub order_of_magic : ℕ → Result Order CaptureFault
order_of_magic magic = if magic == 0x1A2B3C4D then Ok Big else (
    if magic == 0x4D3C2B1A then Ok Little else Err NotACapture)

-- the byte order of a block with this head; a section header has its own
abbrev pub block_order : List ℕ → Order → Result Order CaptureFault
block_order head order = if number_at Big 4 0 head == 0x0A0D0D0A
    then order_of_magic (number_at Big 4 8 head) else Ok order

-- an enhanced packet block of this length: interface, moment in two numbers, number of captured
-- octets, original length
abbrev pub enhanced_packet : ℕ → List ℕ → Reading → CaptureItem
enhanced_packet n head r = if nat_lt n 32 then Unreadable BadPacketLength else (
    if nat_lt most_packet (number_at r.order 4 8 r.body) then Unreadable BadPacketLength else (
    if nat_lt (n - 32) (number_at r.order 4 8 r.body) then Unreadable BadPacketLength else
    item_on (slice_get r.interfaces (number_at r.order 4 8 head)) (number_at r.order 4 12 r.body)
    16 (16 + number_at r.order 4 8 r.body) r.body))

-- how many octets of a packet of this original length are captured on this interface
abbrev pub snapped : Option Interface → ℕ → ℕ
snapped None original = original
snapped (Some interface) original =
    if interface.snap == 0 then original else min interface.snap original

-- so many captured octets in a simple packet block of this length
abbrev pub simple_captured : ℕ → ℕ → List ℕ → Reading → CaptureItem
simple_captured captured n head r = if nat_lt most_packet captured then Unreadable BadPacketLength
    else (if nat_lt (n - 16) captured then Unreadable BadPacketLength else
    item_on (slice_get r.interfaces 0) (number_at r.order 4 8 head) 0 captured r.body)

-- a simple packet block of this length: the original length of a packet on the first interface
abbrev pub simple_packet : ℕ → List ℕ → Reading → CaptureItem
simple_packet n head r = if nat_lt n 16 then Unreadable BadPacketLength else
    simple_captured (snapped (slice_get r.interfaces 0) (number_at r.order 4 8 head)) n head r

-- the moment of a packet on this interface, from two numbers
abbrev pub moment_on : Option Interface → ℕ → ℕ → Option ℕ
moment_on None high low = None
moment_on (Some interface) high low = moment_in interface.units (high * 2 ^ 32 + low)

-- when an enhanced packet block of this length was captured
abbrev pub block_moment : ℕ → List ℕ → Reading → Option ℕ
block_moment n head r = if nat_lt n 32 then None else
    moment_on (slice_get r.interfaces (number_at r.order 4 8 head)) (number_at r.order 4 0 r.body)
    (number_at r.order 4 4 r.body)

-- how many packets are missing before an enhanced packet block of this length
abbrev pub block_missing : ℕ → Reading → ℕ
block_missing n r = if nat_lt n 32 then 0 else
    missing_in r.order (drop (16 + padded (number_at r.order 4 8 r.body)) r.body)

-- so many more are missing, up to the greatest number of 64 bits
abbrev pub with_missing : ℕ → Reading → Reading
with_missing missing r = record r { missing = min (r.missing + missing) (2 ^ 64 - 1) }

-- the reading after a packet block of this length
abbrev pub packet_step : CaptureItem → Option ℕ → ℕ → Reading → Result Step CaptureFault
packet_step item moment n r = Ok (record {
  item = item;
  reading = record r {
    place = r.place + n;
    packets = r.packets + 1;
    moment = moment;
  };
})

-- a block without a packet
abbrev pub other_step : ℕ → Reading → Result Step CaptureFault
other_step n r = Ok (record { item = Other; reading = record r { place = r.place + n } })

-- a section header: it forgets the interfaces of the section before
abbrev pub section_step : ℕ → Reading → Result Step CaptureFault
section_step n r = if nat_lt n 28 then Err BadLength else
    other_step n (record r { interfaces = [] })

-- an interface description: its link type, its snap length, and the units of its moments
abbrev pub interface_step : ℕ → List ℕ → Reading → Result Step CaptureFault
interface_step n head r = if nat_lt n 20 then Err BadLength else (
    if length r.interfaces == 64 then Err TooManyInterfaces else
    other_step n (record r {
      interfaces = r.interfaces ++ record {
        link = link_type_of (number_at r.order 2 8 head);
        units = units_in r.order (drop 4 r.body);
        snap = number_at r.order 4 0 r.body;
      } ∷ [];
    }))

-- a block of this kind and length
abbrev pub block_of_kind : ℕ → ℕ → List ℕ → Reading → Result Step CaptureFault
block_of_kind kind n head r = if kind == 0x0A0D0D0A then section_step n r else (
    if kind == 1 then interface_step n head r else (
    if kind == 6 then packet_step (enhanced_packet n head r) (block_moment n head r) n
    (with_missing (block_missing n r) r) else (
    if kind == 3 then packet_step (simple_packet n head r) None n r else other_step n r)))

-- the same if the length at the block's end is the one at its front
abbrev pub block_ended : ℕ → ℕ → List ℕ → Reading → Result Step CaptureFault
block_ended last n head r = if last == n
    then block_of_kind (number_at r.order 4 0 head) n head r else Err BadLength

-- the rest of a block of this length, at least 16: its body, of which only so much is kept as a
-- packet block needs, and its length again
abbrev pub block_rest : ℕ → List ℕ → Reading → Result Step CaptureFault
block_rest n head r = if nat_lt (length r.left) (n - 12) then Err Cut else
    block_ended (number_at r.order 4 0 (take 4 (drop (n - 16) r.left))) n head (record r {
      left = drop (n - 12) r.left;
      body = take (min (n - 16) most_body) r.left;
    })

-- a block of this length after its head
abbrev pub block_of_length : ℕ → List ℕ → Reading → Result Step CaptureFault
block_of_length n head r = if nat_lt n 12 then Err BadLength else (
    if not (n % 4 == 0) then Err BadLength else (
    if n == 12 then block_ended (number_at r.order 4 8 head) n head (record r { body = [] }) else
    block_rest n head r))

abbrev pub block_of_order : Result Order CaptureFault → List ℕ → Reading → Result Step CaptureFault
block_of_order (Err fault) head r = Err fault
block_of_order (Ok order) head r =
    block_of_length (number_at order 4 4 head) head (record r { order = order })

abbrev pub block_after : List ℕ → Reading → Result Step CaptureFault
block_after head r = block_of_order (block_order head r.order) head r

-- the next block
abbrev pub block_step : Reading → Result Step CaptureFault
block_step r = if nat_lt (length r.left) 12 then Err Cut else
    block_after (take 12 r.left) (record r { left = drop 12 r.left })

-- ---- Both formats.

-- the number of a link type from which frames can't be read
abbrev pub unserved : LinkType → Option ℕ
unserved LinuxLapd = None
unserved Lapd = None
unserved Ethernet = None
unserved Ip = None
unserved Loopback = None
unserved Cooked = None
unserved Cooked2 = None
unserved (NotServed number) = Some number

-- the same of the first of these interfaces
abbrev pub front_unserved : List Interface → Option ℕ
front_unserved [] = None
front_unserved (interface ∷ interfaces) = unserved interface.link

abbrev pub or_number : Option ℕ → Option ℕ → Option ℕ
or_number None second = second
or_number (Some number) second = Some number

-- of the first of them that has one
abbrev pub first_unserved : List Interface → Option ℕ
first_unserved [] = None
first_unserved (interface ∷ interfaces) =
    or_number (front_unserved (interface ∷ interfaces)) (first_unserved interfaces)

-- this step, or the end if no octets are left
abbrev pub or_end : (Reading → Result Step CaptureFault) → Reading → Result Step CaptureFault
or_end step r = if length r.left == 0 then Ok (record { item = End; reading = r }) else step r

abbrev pub step_of : Format → Reading → Result Step CaptureFault
step_of Pcap r = or_end record_step r
step_of Pcapng r = or_end block_step r

-- the next item
abbrev pub next_step : Reading → Result Step CaptureFault
next_step r = step_of r.format r

-- ---- The head of a file.

-- the byte order of a pcap file, by its first four octets, with microseconds or nanoseconds
abbrev pub order_of_pcap : ℕ → Option Order
order_of_pcap magic = if magic == 0xA1B2C3D4 then Some Big else (
    if magic == 0xA1B23C4D then Some Big else (
    if magic == 0xD4C3B2A1 then Some Little else (
    if magic == 0x4D3CB2A1 then Some Little else None)))

-- how many units of time a second of a pcap file has, by its first four octets
abbrev pub units_of_pcap : ℕ → ℕ
units_of_pcap magic = if (magic == 0xA1B23C4D) || (magic == 0x4D3CB2A1) then 1000000000
    else 1000000

abbrev pub with_link : Order → LinkType → ℕ → Reading → Result Reading CaptureFault
with_link order (NotServed number) units r = Err (LinkNotServed number)
with_link order link units r = Ok (record r {
  place = 24;
  order = order;
  format = Pcap;
  interfaces = record { link = link; units = units; snap = 0 } ∷ [];
})

-- the rest of a pcap file after its first four octets: the low half of its last four header octets
-- is its link type
abbrev pub pcap_opened : Order → ℕ → Reading → Result Reading CaptureFault
pcap_opened order units r = if nat_lt (length r.left) 20 then Err Cut else
    with_link order (link_type_of (number_at order 4 16 (take 20 r.left) % 0x10000)) units
    (record r { left = drop 20 r.left })

-- the fault of a file with other first four octets; gzip has a magic number of two (RFC 1952)
abbrev pub fault_of_magic : ℕ → CaptureFault
fault_of_magic magic = if magic / 0x10000 == 0x1F8B then Gzip else NotACapture

abbrev pub opened_by_order : Option Order → ℕ → Reading → Result Reading CaptureFault
opened_by_order None magic r = Err (fault_of_magic magic)
opened_by_order (Some order) magic r = pcap_opened order (units_of_pcap magic) r

-- a pcapng file after its first section header
abbrev pub after_section : Result Step CaptureFault → Result Reading CaptureFault
after_section (Err fault) = Err fault
after_section (Ok step) = Ok step.reading

-- a capture of which nothing is read
abbrev pub unread_capture : List ℕ → Reading
unread_capture octets = record {
  left = octets;
  place = 0;
  order = Big;
  format = Pcapng;
  interfaces = [];
  packets = 0;
  moment = None;
  missing = 0;
  body = [];
}

abbrev pub opened_from : Reading → Result Reading CaptureFault
opened_from r = if nat_lt (length r.left) 4 then Err NotACapture else (
    if number_at Big 4 0 (take 4 r.left) == 0x0A0D0D0A then after_section (block_step r) else
    opened_by_order (order_of_pcap (number_at Big 4 0 (take 4 r.left)))
    (number_at Big 4 0 (take 4 r.left)) (record r { left = drop 4 r.left }))

-- the capture in these octets, at its first record, or after its first section header
abbrev pub opened : List ℕ → Result Reading CaptureFault
opened octets = opened_from (unread_capture octets)
