-- The ladder that `decode` prints for a capture of the frames of a line.
use Rattle.std.specs.Prelude.{ℕ, ◌*◌, ◌^◌, ◌≤◌, ◌<◌, Bool, List, [], ◌∷◌, length, Option, None, Some, Result, Ok, Err, ⊤}
use Rattle.std.specs.Io.KnownBytes.{Appends}
use Rattle.lapd_frame.specs.declared.Side.{Side}
use Rattle.lapd_capture.specs.ReadBack.{LineFrame}
use Rattle.lapd_capture.specs.Reading.{Reading}
use Rattle.lapd_cli_frames.specs.LiveLadder.{ladder_style}
use Rattle.lapd_cli_decode.specs.declared.capture_lines.CaptureStop.{CaptureStop}
use Rattle.lapd_cli_decode.specs.declared.capture_lines.CaptureStop.TheVariants.{Capture as AtFault, Packet as AtPacket, Input, Device, Memory}
use Rattle.lapd_cli_decode.specs.declared.capture_lines.CaptureStyle.{CaptureStyle}
use Rattle.lapd_cli_decode.specs.declared.capture_lines.Seen.{Seen}
use Rattle.lapd_cli_decode.specs.Captured.{CaptureEnds, begins_at}

-- frames that a capture holds unchanged: they have at most 265 octets, and their seconds since 1970
-- 32 bits
abbrev pub AreCaptured : List LineFrame → Type 0
AreCaptured [] = ⊤
AreCaptured (frame ∷ frames) = (length frame.octets ≤ 265)
    × (frame.moment < 2 ^ 32 * 1000) × AreCaptured frames

-- how `decode --ladder` prints a capture, with or without --sender and --keep-going
abbrev pub captured_ladder : Option Side → Bool → CaptureStyle
captured_ladder sender keeps_going = record {
  frames = ladder_style;
  sender = sender;
  keeps_going = keeps_going;
}

-- how `decode --ladder` ends: it prints this text and nothing else, unless a reader, a writer or an
-- allocation fails
abbrev pub PrintsOnly : List ℕ → Result Seen CaptureStop → Option (List ℕ) → Option (List ℕ)
    → Type 0
PrintsOnly text (Ok seen) old new = Appends old new text
PrintsOnly text (Err (AtFault fault place)) old new = ⊥
PrintsOnly text (Err (AtPacket fault place)) old new = ⊥
PrintsOnly text (Err (Input kind)) old new = ⊤
PrintsOnly text (Err Device) old new = ⊤
PrintsOnly text (Err Memory) old new = ⊤

-- it ends so for a capture that is opened as this one, whatever else its contract allows
abbrev pub DecodesAs : CaptureStyle → Reading → List ℕ → Type 0
DecodesAs how start text = (result : Result Seen CaptureStop) (old new : Option (List ℕ))
    → CaptureEnds how (begins_at how (Some (record { k = None })) start) result old new
    → PrintsOnly text result old new
