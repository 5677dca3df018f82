-- The content of a packet of a capture, by the link type of its interface. All places are indices
-- of the capture's octets. A part of a packet lies from `start` to `end`, and was captured up to
-- `kept`, which may be before `end`. Lengths in the packet are compared with `end`.
use Rattle.std.specs.Prelude.{ℕ, ◌+◌, ◌*◌, ◌/◌, ◌%◌, ◌-◌, ◌≤◌, ◌==◌, ◌||◌, max, min, nat_lt, not, if◌then◌else◌, Bool, true, List, slice_index, Option, Some, None, ⊤}
use Rattle.lapd_field.specs.declared.side.Side.{Side}
use Rattle.lapd_field.specs.declared.side.Side.TheVariants.{Network, User}
use Rattle.lapd_field.specs.Address.{other_side}
use Rattle.lapd_capture.specs.declared.order.Order.TheVariants.{Big}
use Rattle.lapd_capture.specs.declared.item.CaptureItem.{CaptureItem}
use Rattle.lapd_capture.specs.declared.item.CaptureItem.TheVariants.{Frame, Other, NotGsmtap, Unreadable, End}
use Rattle.lapd_capture.specs.declared.item.PacketFault.TheVariants.{BadLength, BadHeader, CutHeader}
use Rattle.lapd_capture.specs.declared.link_type.LinkType.{LinkType}
use Rattle.lapd_capture.specs.declared.link_type.LinkType.TheVariants.{LinuxLapd, Lapd, Ethernet, Ip, Loopback, Cooked, Cooked2, NotServed}
use Rattle.lapd_capture.specs.Octets.{number_at}

-- the link type with this number: LINKTYPE_LINUX_LAPD, LINKTYPE_LAPD, LINKTYPE_ETHERNET,
-- LINKTYPE_RAW (also 12), LINKTYPE_IPV4, LINKTYPE_IPV6, LINKTYPE_NULL, LINKTYPE_LOOP,
-- LINKTYPE_LINUX_SLL and LINKTYPE_LINUX_SLL2
abbrev pub is_ip : ℕ → Bool
is_ip number = (number == 12) || ((number == 101) || ((number == 228) || (number == 229)))

abbrev pub link_type_of : ℕ → LinkType
link_type_of number = if number == 177 then LinuxLapd else (
    if number == 203 then Lapd else (
    if number == 1 then Ethernet else (
    if is_ip number then Ip else (
    if (number == 0) || (number == 108) then Loopback else (
    if number == 113 then Cooked else (
    if number == 276 then Cooked2 else NotServed number))))))

-- ---- LINKTYPE_LINUX_LAPD: 16 octets before each frame.

-- the side that captured: the network side if the first octet of the address is not 0
abbrev pub capturing_side : ℕ → Side
capturing_side first = if first == 0 then User else Network

-- whether a header with this packet type, this length of the address and its first octet names the
-- sender for certain: Wireshark and Osmocom write the octet with the length 0; text2pcap writes 0
-- for all three, whoever sent the frame
abbrev pub is_named : ℕ → ℕ → ℕ → Bool
is_named type length first = not (length == 0) || (not (first == 0) || not (type == 0))

-- who sent a frame that this side captured, by the packet type: 0 to this host, 1 to all, 2 to some,
-- 3 from another terminal, 4 from this host
abbrev pub sent_by_type : ℕ → Side → Option Side
sent_by_type type side = if nat_lt type 3 then Some (other_side side) else (
    if type == 3 then Some User else (
    if type == 4 then Some side else None))

-- the frame after the 16 octets from `start` on: packet type, ARPHRD type, length of the address, 8
-- octets of address, and the protocol, 0x0030
abbrev pub linux_lapd : ℕ → ℕ → ℕ → List ℕ → CaptureItem
linux_lapd start kept end octets = if nat_lt (end - start) 16 then Unreadable BadLength else (
    if nat_lt (kept - start) 16 then Unreadable CutHeader else (
    if number_at Big 2 (start + 14) octets == 0x0030 then Frame (record {
      from = sent_by_type (number_at Big 2 start octets)
          (capturing_side (slice_index octets (start + 6)));
      is_sure = is_named (number_at Big 2 start octets) (number_at Big 2 (start + 4) octets)
          (slice_index octets (start + 6));
      start = start + 16;
      end = kept;
      is_cut = nat_lt kept end;
    }) else Unreadable BadHeader))

-- ---- GSMTAP over UDP over IPv4 or IPv6.

-- the uplink bit of the channel number
abbrev pub is_uplink : ℕ → Bool
is_uplink channel = channel / 0x4000 % 2 == 1

-- who sent the frame, by this bit
abbrev pub gsmtap_sender : Bool → Side
gsmtap_sender uplink = if uplink then User else Network

-- the frame after a GSMTAP header of this length in octets; without the uplink bit its sender is
-- not certain
abbrev pub gsmtap_frame : ℕ → ℕ → ℕ → ℕ → List ℕ → CaptureItem
gsmtap_frame header start kept end octets = if nat_lt header 16 then NotGsmtap else (
    if nat_lt (end - start) header then NotGsmtap else (
    if nat_lt (kept - start) header then Unreadable CutHeader else Frame (record {
      from = Some (gsmtap_sender (is_uplink (number_at Big 2 (start + 4) octets)));
      is_sure = is_uplink (number_at Big 2 (start + 4) octets);
      start = start + header;
      end = kept;
      is_cut = nat_lt kept end;
    })))

-- GSMTAP of version 2: the length of its header in words of four octets, its type, 0x13 for E1 and
-- T1 lines, and at 12 its subtype, 1 for LAPD. What is shorter, or of another version, is not
-- GSMTAP. The type 2, Abis, has messages of layer 3 without LAPD.
abbrev pub gsmtap : ℕ → ℕ → ℕ → List ℕ → CaptureItem
gsmtap start kept end octets = if nat_lt (end - start) 16 then NotGsmtap else (
    if nat_lt (kept - start) 16 then Unreadable CutHeader else (
    if not (slice_index octets start == 2) then NotGsmtap else (
    if not (slice_index octets (start + 2) == 0x13) then Other else (
    if not (slice_index octets (start + 12) == 1) then Other else
    gsmtap_frame (slice_index octets (start + 1) * 4) start kept end octets))))

-- a UDP datagram to the port of GSMTAP, 4729, by its own length
abbrev pub udp : ℕ → ℕ → ℕ → List ℕ → CaptureItem
udp start kept end octets = if nat_lt (kept - start) 8 then Unreadable CutHeader else (
    if not (number_at Big 2 (start + 2) octets == 4729) then Other else (
    if nat_lt (number_at Big 2 (start + 4) octets) 8 then Unreadable BadLength else (
    if nat_lt (end - start) (number_at Big 2 (start + 4) octets) then Unreadable BadLength else
    gsmtap (start + 8) (min kept (start + number_at Big 2 (start + 4) octets))
    (start + number_at Big 2 (start + 4) octets) octets)))

-- the content after an IPv4 header of this length, in a packet of this total length
abbrev pub ip_payload : ℕ → ℕ → ℕ → ℕ → ℕ → List ℕ → CaptureItem
ip_payload header total start kept end octets = if nat_lt header 20 then Unreadable BadLength else (
    if nat_lt total (header + 8) then Unreadable BadLength else (
    if nat_lt (end - start) total then Unreadable BadLength else (
    if nat_lt (kept - start) header then Unreadable CutHeader else
    udp (start + header) (min kept (start + total)) (start + total) octets)))

-- an IPv4 packet that is no fragment and carries UDP
abbrev pub ip : ℕ → ℕ → ℕ → List ℕ → CaptureItem
ip start kept end octets = if nat_lt (end - start) 20 then Unreadable BadLength else (
    if nat_lt (kept - start) 20 then Unreadable CutHeader else (
    if not (slice_index octets start / 16 == 4) then Other else (
    if not (slice_index octets (start + 9) == 17) then Other else (
    if not (number_at Big 2 (start + 6) octets % 0x4000 == 0) then Other else
    ip_payload (slice_index octets start % 16 * 4) (number_at Big 2 (start + 2) octets) start kept
    end octets))))

-- the content after an IPv6 header, in a packet with a payload of this length
abbrev pub ip6_payload : ℕ → ℕ → ℕ → ℕ → List ℕ → CaptureItem
ip6_payload total start kept end octets = if nat_lt total 8 then Unreadable BadLength else (
    if nat_lt (end - start) total then Unreadable BadLength else
    udp start (min kept (start + total)) (start + total) octets)

-- an IPv6 packet that carries UDP behind no other header
unfoldable pub ip6 : ℕ → ℕ → ℕ → List ℕ → CaptureItem
ip6 start kept end octets = if nat_lt (end - start) 40 then Unreadable BadLength else (
    if nat_lt (kept - start) 40 then Unreadable CutHeader else (
    if not (slice_index octets start / 16 == 6) then Other else (
    if not (slice_index octets (start + 6) == 17) then Other else
    ip6_payload (number_at Big 2 (start + 4) octets) (start + 40) kept end octets)))

-- a packet of either version, which its first octet says
abbrev pub any_ip : ℕ → ℕ → ℕ → List ℕ → CaptureItem
any_ip start kept end octets = if nat_lt (end - start) 1 then Unreadable BadLength else (
    if nat_lt (kept - start) 1 then Unreadable CutHeader else (
    if slice_index octets start / 16 == 6 then ip6 start kept end octets
    else ip start kept end octets))

-- the same after the protocol family, which systems number differently
abbrev pub loopback : ℕ → ℕ → ℕ → List ℕ → CaptureItem
loopback start kept end octets = if nat_lt (end - start) 4 then Unreadable BadLength else (
    if nat_lt (kept - start) 4 then Unreadable CutHeader else any_ip (start + 4) kept end octets)

-- ---- Ethernet: after both addresses an EtherType, perhaps VLAN tags, and what it names.

-- the EtherType of a VLAN tag (IEEE 802.1Q): of a customer, or of a provider
abbrev pub is_tag : ℕ → Bool
is_tag type = (type == 0x8100) || (type == 0x88A8)

-- the content of this EtherType: IPv4 or IPv6
abbrev pub untagged : ℕ → ℕ → ℕ → ℕ → List ℕ → CaptureItem
untagged type start kept end octets = if type == 0x0800 then ip start kept end octets else (
    if type == 0x86DD then ip6 start kept end octets else Other)

-- the content after the last tag: two octets of it, and the EtherType of what follows
abbrev pub last_tag : ℕ → ℕ → ℕ → List ℕ → CaptureItem
last_tag start kept end octets = if nat_lt (end - start) 4 then Unreadable BadLength else (
    if nat_lt (kept - start) 4 then Unreadable CutHeader else
    untagged (number_at Big 2 (start + 2) octets) (start + 4) kept end octets)

-- the content after the first tag, of two at most
abbrev pub first_tag : ℕ → ℕ → ℕ → List ℕ → CaptureItem
first_tag start kept end octets = if nat_lt (end - start) 4 then Unreadable BadLength else (
    if nat_lt (kept - start) 4 then Unreadable CutHeader else (
    if is_tag (number_at Big 2 (start + 2) octets) then last_tag (start + 4) kept end octets else
    untagged (number_at Big 2 (start + 2) octets) (start + 4) kept end octets))

-- the content after this EtherType
abbrev pub typed : ℕ → ℕ → ℕ → ℕ → List ℕ → CaptureItem
typed type start kept end octets = if is_tag type then first_tag start kept end octets
    else untagged type start kept end octets

abbrev pub ethernet : ℕ → ℕ → ℕ → List ℕ → CaptureItem
ethernet start kept end octets = if nat_lt (end - start) 14 then Unreadable BadLength else (
    if nat_lt (kept - start) 14 then Unreadable CutHeader else
    typed (number_at Big 2 (start + 12) octets) (start + 14) kept end octets)

-- ---- LINKTYPE_LINUX_SLL and LINKTYPE_LINUX_SLL2: a header with the EtherType of what follows, or
-- the protocol of LAPD.

-- the protocol number of LAPD
abbrev pub is_lapd : ℕ → Bool
is_lapd protocol = protocol == 0x0030

-- the content after 16 octets with this protocol. With that of LAPD they are those of
-- LINKTYPE_LINUX_LAPD.
abbrev pub by_protocol : ℕ → ℕ → ℕ → ℕ → List ℕ → CaptureItem
by_protocol protocol start kept end octets = if is_lapd protocol
    then linux_lapd start kept end octets else typed protocol (start + 16) kept end octets

-- 16 octets: packet type, ARPHRD type, length of the address, 8 octets of address, and the
-- protocol
abbrev pub cooked : ℕ → ℕ → ℕ → List ℕ → CaptureItem
cooked start kept end octets = if nat_lt (end - start) 16 then Unreadable BadLength else (
    if nat_lt (kept - start) 16 then Unreadable CutHeader else
    by_protocol (number_at Big 2 (start + 14) octets) start kept end octets)

-- the frame after 20 octets
abbrev pub lapd2 : ℕ → ℕ → ℕ → List ℕ → CaptureItem
lapd2 start kept end octets = Frame (record {
  from = sent_by_type (slice_index octets (start + 10))
      (capturing_side (slice_index octets (start + 12)));
  is_sure = is_named (slice_index octets (start + 10)) (slice_index octets (start + 11))
      (slice_index octets (start + 12));
  start = start + 20;
  end = kept;
  is_cut = nat_lt kept end;
})

-- the content after 20 octets with this protocol
abbrev pub by_protocol2 : ℕ → ℕ → ℕ → ℕ → List ℕ → CaptureItem
by_protocol2 protocol start kept end octets = if is_lapd protocol
    then lapd2 start kept end octets else typed protocol (start + 20) kept end octets

-- 20 octets: the protocol, 2 octets, the index of the interface, ARPHRD type, packet type, length
-- of the address, and 8 octets of address
abbrev pub cooked2 : ℕ → ℕ → ℕ → List ℕ → CaptureItem
cooked2 start kept end octets = if nat_lt (end - start) 20 then Unreadable BadLength else (
    if nat_lt (kept - start) 20 then Unreadable CutHeader else
    by_protocol2 (number_at Big 2 start octets) start kept end octets)

-- ---- All link types.

-- the content of a packet on an interface with this link type
abbrev pub packet_at : LinkType → ℕ → ℕ → ℕ → List ℕ → CaptureItem
packet_at LinuxLapd start kept end octets = linux_lapd start kept end octets
packet_at Lapd start kept end octets = Frame (record {
  from = None;
  is_sure = true;
  start = start;
  end = kept;
  is_cut = nat_lt kept end;
})
packet_at Ethernet start kept end octets = ethernet start kept end octets
packet_at Ip start kept end octets = any_ip start kept end octets
packet_at Loopback start kept end octets = loopback start kept end octets
packet_at Cooked start kept end octets = cooked start kept end octets
packet_at Cooked2 start kept end octets = cooked2 start kept end octets
packet_at (NotServed number) start kept end octets = Other

-- the same for a packet of this original length, captured from `start` to `kept`: it was cut if
-- fewer octets were captured
abbrev pub captured_packet_at : ℕ → LinkType → ℕ → ℕ → List ℕ → CaptureItem
captured_packet_at original link start kept octets =
    packet_at link start kept (max kept (start + original)) octets

-- a frame that was found lies within this many octets
abbrev pub IsWithin : ℕ → CaptureItem → Type 0
IsWithin count (Frame span) = (span.start ≤ span.end) × (span.end ≤ count)
IsWithin count Other = ⊤
IsWithin count NotGsmtap = ⊤
IsWithin count (Unreadable fault) = ⊤
IsWithin count End = ⊤
