-- The line for the octets of a frame is the line for the frame.
use Rattle.std.proofs.Common.{◌≡◌, ◌++◌, length, None, Result, ap}
use Rattle.lapd_frame.specs.declared.Side.{Side}
use Rattle.lapd_frame.specs.declared.FrameFault.{FrameFault}
use Rattle.lapd_frame.specs.Frame.{Fields, content_fault, spelling}
use Rattle.lapd_frame.proofs.FrameAt.{frame_again}
use Rattle.lapd_trace.specs.Trace.{direction_text, frame_line, text_of, trace_line}

pub line_of_spelling : (from : Side) (f : Fields)
    → content_fault f.address.role f.control (length f.info) ≡ None
    → trace_line from (spelling from f) ≡ frame_line from f
line_of_spelling from f content =
    ap (λ (r : Result Fields FrameFault). direction_text from ++ text_of (spelling from f) r)
    (frame_again from f content)
