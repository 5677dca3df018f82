-- A written capture is read.
use Rattle.std.proofs.Common.{◌≡◌, ℕ, ◌+◌, ◌-◌, ◌*◌, ◌/◌, ◌%◌, ◌≤◌, ◌<◌, true, false, List, [], ◌++◌, Option, None, Some, Result, Ok, refl, sym, ap, ◌∙◌, length, take, drop, max, nat_lt, length-append, arith}
use Rattle.std.proofs.lemmas.Bool.Decides.{nat_tests}
use Rattle.std.proofs.Math.Nat.{mod-eq_of_lt, mod-lt, mul-div_cancel}
use Rattle.byteorder.specs.Endian.{big_bytes, big_from}
use Rattle.byteorder.specs.Numbers.{big_from-bytes}
use Rattle.lapd_field.specs.declared.side.Side.{Side}
use Rattle.lapd_field.specs.declared.side.Side.TheVariants.{Network, User}
use Rattle.lapd_capture.specs.declared.fault.CaptureFault.{CaptureFault}
use Rattle.lapd_capture.specs.declared.item.CaptureItem.TheVariants.{Frame}
use Rattle.lapd_capture.specs.declared.link_type.LinkType.TheVariants.{LinuxLapd}
use Rattle.lapd_capture.specs.declared.order.Order.TheVariants.{Big}
use Rattle.lapd_capture.specs.Octets.{number_at}
use Rattle.lapd_capture.specs.Packet.{linux_lapd}
use Rattle.lapd_capture.specs.ReadBack.{LineFrame, line_interface, line_packet, line_reading, line_span, read_moment}
use Rattle.lapd_capture.specs.Reading.{Reading, Step, item_on, moment_at, next_step, opened, pcap_opened, record_after, record_found, unread_capture, with_body}
use Rattle.lapd_capture.specs.Written.{file_octets, linux_header, record_header, record_octets}
use Rattle.lapd_capture.proofs.Steps.{packet_begun, pcap_begun, record_begun}
use lib.Seq.{take-append_seam, drop-append_seam}

-- ---- The head of the file.

pub head_is_read : (left : List ℕ)
    → opened (file_octets ++ left) ≡ Ok (line_reading 24 0 None [] left)
head_is_read left =
    let long : length (file_octets ++ left) ≡ 24 + length left = length-append file_octets left in
    let rest : length (drop 4 file_octets ++ left) ≡ 20 + length left =
    length-append (drop 4 file_octets) left in
    let four : nat_lt (length (file_octets ++ left)) 4 ≡ false = grind (arith, nat_tests) in
    let begun : opened (file_octets ++ left) ≡ pcap_opened Big 1000000
    (record (unread_capture (file_octets ++ left)) { left = drop 4 file_octets ++ left }) =
    rw four refl in
    begun
    ∙ pcap_begun Big 1000000
    (record (unread_capture (file_octets ++ left)) { left = drop 4 file_octets ++ left })
    LinuxLapd 177 (drop 4 file_octets) (omega (arith, rest)) refl refl refl

-- ---- A record.

-- a number in four octets
number_is_read : (x : ℕ) (rest : List ℕ) → x < 4294967296 → big_from 0 4 (big_bytes 4 x ++ rest) ≡ x
number_is_read x rest small = big_from-bytes 4 x rest ∙ mod-eq_of_lt small

-- the packet
packet_by_sides : (own from : Side) (octets : List ℕ) (n : ℕ) → nat_lt (16 + n - 0) 16 ≡ false
    → nat_lt (16 + n) (16 + n) ≡ false
    → linux_lapd 0 (16 + n) (16 + n) (linux_header own from ++ octets)
    ≡ Frame
    (record { from = Some from; is_sure = true; start = 16; end = 16 + n; is_cut = false })
packet_by_sides Network Network octets n long whole = rw (long, whole) refl
packet_by_sides Network User octets n long whole = rw (long, whole) refl
packet_by_sides User Network octets n long whole = rw (long, whole) refl
packet_by_sides User User octets n long whole = rw (long, whole) refl

packet_is_read : (own from : Side) (octets : List ℕ) (n : ℕ)
    → item_on (Some line_interface) (16 + n) 0 (16 + n) (linux_header own from ++ octets)
    ≡ Frame (record { from = Some from; is_sure = true; start = 16; end = 16 + n; is_cut = false })
packet_is_read own from octets n =
    let most : max (16 + n) (0 + (16 + n)) ≡ 16 + n = omega arith in
    let long : nat_lt (16 + n - 0) 16 ≡ false = grind (arith, nat_tests) in
    let whole : nat_lt (16 + n) (16 + n) ≡ false = grind (arith, nat_tests) in
    ap (λ end. linux_lapd 0 (16 + n) end (linux_header own from ++ octets)) most
    ∙ packet_by_sides own from octets n long whole

-- the moment, from seconds and microseconds
moment_is_read : (seconds parts : ℕ) → seconds < 4294967296 → parts < 1000000
    → moment_at (Some line_interface) seconds parts ≡ Some (seconds * 1000000 + parts)
moment_is_read seconds parts few small =
    let same : (seconds * 1000000 + parts) * 1000000 / 1000000 ≡ seconds * 1000000 + parts =
    mul-div_cancel (seconds * 1000000 + parts) (omega arith) in
    let below : nat_lt (seconds * 1000000 + parts) 18446744073709551616 ≡ true =
    grind (arith, nat_tests) in
    rw (same, below) refl

-- the result, by the numbers of the header and by what is behind it
abbrev step_with : ℕ → ℕ → ℕ → ℕ → ℕ → ℕ → List ℕ → List ℕ → Result Step CaptureFault
step_with place packets captured original seconds parts body left = Ok (record {
  item = item_on (Some line_interface) original 0 captured body;
  reading =
      line_reading (place + (16 + captured)) (packets + 1)
      (moment_at (Some line_interface) seconds parts) body left;
})

pub record_is_read : (own : Side) (frame : LineFrame) (place packets : ℕ) (moment : Option ℕ)
    (body left : List ℕ) → length frame.octets ≤ 265
    → next_step (line_reading place packets moment body
    (record_octets own frame.from frame.moment frame.octets ++ left)) ≡ Ok (record {
      item = Frame (line_span frame);
      reading =
          line_reading (place + (32 + length frame.octets)) (packets + 1)
          (Some (read_moment frame.moment)) (line_packet own frame) left;
    })
record_is_read own frame place packets moment body left short =
    let n : ℕ = length frame.octets in
    let count : ℕ = 16 + n in
    let seconds : ℕ = frame.moment / 1000 % 4294967296 in
    let parts : ℕ = frame.moment % 1000 * 1000 in
    let packet : List ℕ = line_packet own frame in
    let header : List ℕ = record_header frame.moment count in
    let all : List ℕ = record_octets own frame.from frame.moment frame.octets ++ left in
    let before : Reading = line_reading place packets moment body all in
    let behind : Reading = line_reading place packets moment body (packet ++ left) in
    let few : seconds < 4294967296 = mod-lt (frame.moment / 1000) (omega arith) in
    let thousand : frame.moment % 1000 < 1000 = mod-lt frame.moment (omega arith) in
    let small : parts < 1000000 = omega (arith, thousand) in
    let is_packet : length packet ≡ count =
    length-append (linux_header own frame.from) frame.octets in
    let is_left : length (packet ++ left) ≡ count + length left =
    length-append packet left ∙ ap (λ k. k + length left) is_packet in
    let is_all : length all ≡ 16 + length (packet ++ left) =
    length-append header (packet ++ left) in
    let is_seconds : number_at Big 4 0 header ≡ seconds =
    number_is_read seconds (big_bytes 4 parts ++ (big_bytes 4 count ++ big_bytes 4 count)) few in
    let is_parts : number_at Big 4 4 header ≡ parts =
    number_is_read parts (big_bytes 4 count ++ big_bytes 4 count) (omega (arith, small)) in
    let is_count : number_at Big 4 8 header ≡ count =
    number_is_read count (big_bytes 4 count) (omega (arith, short)) in
    let is_original : number_at Big 4 12 header ≡ count =
    number_is_read count [] (omega (arith, short)) in
    let is_body : take count (packet ++ left) ≡ packet =
    ap (λ k. take k (packet ++ left)) (sym is_packet) ∙ take-append_seam packet left in
    let is_rest : drop count (packet ++ left) ≡ left =
    ap (λ k. drop k (packet ++ left)) (sym is_packet) ∙ drop-append_seam packet left in
    let begun : next_step before ≡ record_after header behind =
    record_begun before header (omega (arith, is_all)) refl in
    let found : record_after header behind ≡ record_found header count (with_body count behind) =
    packet_begun header count 0 behind (sym is_count) (omega (arith, short))
    (omega (arith, is_left)) in
    let numbers : step_with place packets count (number_at Big 4 12 header)
    (number_at Big 4 0 header) (number_at Big 4 4 header)
    (take count (packet ++ left)) (drop count (packet ++ left))
    ≡ step_with place packets count count seconds parts packet left =
    rw (is_original, is_seconds, is_parts, is_body, is_rest) refl in
    let place_is : place + (16 + count) ≡ place + (32 + n) = omega arith in
    let step : step_with place packets count count seconds parts packet left ≡ Ok (record {
      item = Frame (line_span frame);
      reading =
          line_reading (place + (32 + n)) (packets + 1) (Some (read_moment frame.moment)) packet
          left;
    }) = rw (
      packet_is_read own frame.from frame.octets n,
      moment_is_read seconds parts few small,
      place_is,
    ) refl in
    begun ∙ found ∙ numbers ∙ step
