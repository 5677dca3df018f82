-- The ladder of a line whose frames are drawn when they are received or sent.
use Rattle.std.specs.Prelude.{ℕ, ◌*◌, ◌-◌, ◌^◌, min, false, List, [], ◌∷◌, ◌++◌, None, Some}
use Rattle.lapd_capture.specs.ReadBack.{LineFrame}
use Rattle.lapd_follow.specs.Ends.{one_more}
use Rattle.lapd_cli_render.specs.declared.Packet.{Packet}
use Rattle.lapd_cli_frames.specs.declared.frame_printer.Origin.TheVariants.{Capture}
use Rattle.lapd_cli_frames.specs.declared.frame_style.FrameStyle.{FrameStyle}
use Rattle.lapd_cli_frames.specs.declared.frame_style.Drawing.TheVariants.{Ladder}
use Rattle.lapd_cli_frames.specs.declared.frame_style.Layout.TheVariants.{Drawn}
use Rattle.lapd_cli_frames.specs.declared.frame_time.FrameTime.TheVariants.{Relative}
use Rattle.lapd_cli_frames.specs.declared.style.Style.TheVariants.{Plain}
use Rattle.lapd_cli_ladder.specs.Ladder.{head_line}
use Rattle.lapd_cli_frames.specs.Drawn.{ladder_of}
use Rattle.lapd_cli_frames.specs.Frames.{Printing, after_frame, frame_text, new_printing}

-- all frames are drawn, with relative times
abbrev pub ladder_style : FrameStyle
ladder_style = record {
  layout = Drawn Ladder;
  style = Plain;
  time = Relative;
  filter = None;
  once = false;
  any_sapi = false;
  is_colored = false;
  count = None;
}

-- before the first frame: links are followed, and the window is not known
abbrev pub new_ladder : Printing
new_ladder = new_printing Capture ladder_style (Some (record { k = None }))

-- the line above the first frame
abbrev pub ladder_head : List ℕ
ladder_head = head_line (ladder_of ladder_style).time_width

-- milliseconds in microseconds, up to the greatest number of 64 bits
abbrev pub microseconds : ℕ → ℕ
microseconds moment = min (moment * 1000) (2 ^ 64 - 1)

-- the packet of the next frame, as in a capture with a packet for each frame
abbrev pub packet_at : ℕ → Printing → Packet
packet_at moment s = record {
  number = one_more s.frames;
  moment = Some (microseconds moment);
  is_cut = false;
}

-- the lines of the next frame
abbrev pub rung_of : LineFrame → Printing → List ℕ
rung_of frame s =
    frame_text (packet_at frame.moment s) (Some frame.from) frame.octets s

-- what is known after it
abbrev pub after_rung : LineFrame → Printing → Printing
after_rung frame s =
    after_frame (packet_at frame.moment s) (Some frame.from) frame.octets s

-- the lines of frames, one after the other
abbrev pub rungs_of : List LineFrame → Printing → List ℕ
rungs_of [] s = []
rungs_of (frame ∷ frames) s = rung_of frame s ++ rungs_of frames (after_rung frame s)
