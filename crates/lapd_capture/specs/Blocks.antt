-- The octets that are written for frames in pcapng, in little endian: Wireshark reads a named pipe
-- in the order of its host alone.
use Rattle.std.specs.Prelude.{ℕ, ◌+◌, ◌*◌, ◌-◌, ◌/◌, ◌%◌, ◌^◌, min, ◌==◌, if◌then◌else◌, List, [], ◌∷◌, ◌++◌, length, take}
use Rattle.byteorder.specs.Endian.{little_bytes}
use Rattle.lapd_field.specs.declared.side.Side.{Side}
use Rattle.lapd_capture.specs.Written.{linux_header}

-- a section header: its kind, its length, the magic number of the byte order, version 1.0, an
-- unknown length of the section, and its length again
abbrev pub section_octets : List ℕ
section_octets = 0x0A ∷ 0x0D ∷ 0x0D ∷ 0x0A ∷ 28 ∷ 0 ∷ 0 ∷ 0 ∷ 0x4D ∷ 0x3C ∷ 0x2B ∷ 0x1A
    ∷ 1 ∷ 0 ∷ 0 ∷ 0 ∷ 0xFF ∷ 0xFF ∷ 0xFF ∷ 0xFF ∷ 0xFF ∷ 0xFF ∷ 0xFF ∷ 0xFF
    ∷ 28 ∷ 0 ∷ 0 ∷ 0 ∷ []

-- an interface description: link type 177, no limit of the captured octets, and no options, so
-- moments are in microseconds
abbrev pub interface_octets : List ℕ
interface_octets = 1 ∷ 0 ∷ 0 ∷ 0 ∷ 20 ∷ 0 ∷ 0 ∷ 0 ∷ 177 ∷ 0 ∷ 0 ∷ 0 ∷ 0 ∷ 0 ∷ 0 ∷ 0
    ∷ 20 ∷ 0 ∷ 0 ∷ 0 ∷ []

-- the head of a file
abbrev pub head_octets : List ℕ
head_octets = section_octets ++ interface_octets

-- how many octets fill a packet of this length to a multiple of 4
abbrev pub filler_length : ℕ → ℕ
filler_length count = (4 - count % 4) % 4

abbrev pub filler : ℕ → List ℕ
filler count = take (filler_length count) (0 ∷ 0 ∷ 0 ∷ [])

-- the options: the number of frames that are missing before this one, if there are some
-- (epb_dropcount, code 4, of 8 octets), and the end of the options
abbrev pub options_octets : ℕ → List ℕ
options_octets missing = if missing == 0 then []
    else 4 ∷ 0 ∷ 8 ∷ 0 ∷ little_bytes 8 missing ++ (0 ∷ 0 ∷ 0 ∷ 0 ∷ [])

abbrev pub options_length : ℕ → ℕ
options_length missing = if missing == 0 then 0 else 16

-- the length of a block with a packet of this length
abbrev pub block_length : ℕ → ℕ → ℕ
block_length missing count = 32 + count + filler_length count + options_length missing

-- microseconds since 1970, of a moment in milliseconds
abbrev pub microseconds : ℕ → ℕ
microseconds moment = min (moment * 1000) (2 ^ 64 - 1)

-- the first 28 octets of an enhanced packet block: its kind, its length, the first interface, the
-- microseconds in two numbers, and the length of the packet twice
abbrev pub block_header : ℕ → ℕ → ℕ → List ℕ
block_header moment missing count = 6 ∷ 0 ∷ 0 ∷ 0 ∷ little_bytes 4 (block_length missing count)
    ++ (0 ∷ 0 ∷ 0 ∷ 0 ∷ little_bytes 4 (microseconds moment / 2 ^ 32)
    ++ (little_bytes 4 (microseconds moment % 2 ^ 32)
    ++ (little_bytes 4 count ++ little_bytes 4 count)))

-- the enhanced packet block of a frame that the side `from` sent, captured by the side `own` at a
-- moment in milliseconds, before which this many frames are missing
abbrev pub block_octets : Side → Side → ℕ → ℕ → List ℕ → List ℕ
block_octets own from moment missing frame =
    block_header moment missing (16 + length frame) ++ (linux_header own from ++ (frame
    ++ (filler (16 + length frame) ++ (options_octets missing
    ++ little_bytes 4 (block_length missing (16 + length frame))))))
