-- The reading of a written capture.
use Rattle.std.specs.Prelude.{ℕ, ◌+◌, ◌*◌, ◌/◌, ◌%◌, ◌^◌, false, true, List, [], ◌∷◌, ◌++◌, length, Option, Some}
use Rattle.lapd_field.specs.declared.side.Side.{Side}
use Rattle.lapd_capture.specs.declared.order.Order.TheVariants.{Big}
use Rattle.lapd_capture.specs.declared.format.Format.TheVariants.{Pcap}
use Rattle.lapd_capture.specs.declared.interface.Interface.{Interface}
use Rattle.lapd_capture.specs.declared.item.Span.{Span}
use Rattle.lapd_capture.specs.declared.link_type.LinkType.TheVariants.{LinuxLapd}
use Rattle.lapd_capture.specs.Reading.{Reading}
use Rattle.lapd_capture.specs.Written.{linux_header, record_octets}

-- a frame of a line: the side that sent it, when, in milliseconds since 1970, and its octets
pub record LineFrame : Type 0 where
  pub from : Side
  pub moment : ℕ
  pub octets : List ℕ

-- the records of frames that the side `own` captures
abbrev pub records_of : Side → List LineFrame → List ℕ
records_of own [] = []
records_of own (frame ∷ frames) =
    record_octets own frame.from frame.moment frame.octets ++ records_of own frames

-- the only interface of such a file: link type 177, microseconds
abbrev pub line_interface : Interface
line_interface = record { link = LinuxLapd; units = 1000000; snap = 0 }

-- such a file before a record: how many octets and packets were before it, when the last packet
-- was captured, the last packet, and the octets that are left
abbrev pub line_reading : ℕ → ℕ → Option ℕ → List ℕ → List ℕ → Reading
line_reading place packets moment body left = record {
  left = left;
  place = place;
  order = Big;
  format = Pcap;
  interfaces = line_interface ∷ [];
  packets = packets;
  moment = moment;
  missing = 0;
  body = body;
}

-- the moment that is read, in microseconds: a record has 32 bits for the seconds
abbrev pub read_moment : ℕ → ℕ
read_moment moment = moment / 1000 % 2 ^ 32 * 1000000 + moment % 1000 * 1000

-- the place of the frame in its packet, after 16 octets; its sender is certain
abbrev pub line_span : LineFrame → Span
line_span frame = record {
  from = Some frame.from;
  is_sure = true;
  start = 16;
  end = 16 + length frame.octets;
  is_cut = false;
}

-- the packet of the frame
abbrev pub line_packet : Side → LineFrame → List ℕ
line_packet own frame = linux_header own frame.from ++ frame.octets
