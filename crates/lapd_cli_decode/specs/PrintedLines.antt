-- The output of `decode` for lines, if frames are chosen or their links are followed.
use Rattle.std.specs.Prelude.{◌≡◌, ℕ, Bool, if◌then◌else◌, List, [], ◌++◌, Option, Some, None, Result, Ok, Err, ⊤}
use Rattle.std.specs.Io.KnownBytes.{Appends}
use Rattle.lapd_frame.specs.declared.Side.{Side}
use Rattle.lapd_cli_script.specs.Script.{LineOutcome, PrintsFront, bad_line, output_of, state_after}
use Rattle.lapd_cli_script.specs.declared.script.ScriptFault.{ScriptFault}
use Rattle.lapd_cli_script.specs.declared.script.ScriptFault.TheVariants.{BadLine, Device, Memory, Port}
use Rattle.lapd_cli_decode.specs.declared.printed_lines.LinesStyle.{LinesStyle}
use Rattle.lapd_cli_frames.specs.declared.frame_printer.Origin.TheVariants.{Script}
use Rattle.lapd_cli_decode.specs.declared.line_form.LineForm.{LineForm}
use Rattle.lapd_cli_decode.specs.declared.line_form.LineForm.TheVariants.{Strict, Loose, Timed}
use Rattle.lapd_cli_decode.specs.declared.line_sender.LineSender.{LineSender}
use Rattle.lapd_cli_decode.specs.declared.line_sender.LineSender.TheVariants.{Named, Printer, Peer, Unnamed, Continued}
use Rattle.lapd_cli_frames.specs.Frames.{Printing, after_frame, closing_text, frame_text, is_complete, is_violated_by, line_packet, new_printing}
use Rattle.lapd_cli_decode.specs.Lines.{sent_in}
use Rattle.lapd_cli_decode.specs.LogSenders.{line_sender, printer_after}
use Rattle.lapd_cli_decode.specs.Loose.{loose_line}
use Rattle.lapd_cli_decode.specs.Timed.{timed_line}

-- how lines are read, whether bad ones are skipped, which side printed the loose ones, as far as
-- those so far show it, the time of the last line that had one, in microseconds since 1970, and what
-- is known of the frames before the next
pub record PrintingLines : Type 0 where
  pub form : LineForm
  pub keeps_going : Bool
  pub shown : Option Side
  pub time : Option ℕ
  pub printing : Printing

-- before the first line
abbrev pub before_lines : LinesStyle → PrintingLines
before_lines how = record {
  form = how.form;
  keeps_going = how.keeps_going;
  shown = None;
  time = None;
  printing = new_printing Script how.frames how.follow;
}

-- the state after the octets that this side sent
abbrev pub after_octets : PrintingLines → Side → List ℕ → PrintingLines
after_octets s from octets = record s {
  printing = after_frame (line_packet s.time s.printing) (Some from) octets s.printing;
}

-- the result of a line that names a side and octets, or doesn't
abbrev pub sent_outcome : PrintingLines → Option (Side × List ℕ) → LineOutcome PrintingLines
sent_outcome s None = None
sent_outcome s (Some sent) = Some (
  frame_text (line_packet s.time s.printing) (Some sent.0) sent.1 s.printing,
  after_octets s sent.0 sent.1,
)

-- if bad lines are skipped, nothing is printed for them, and nothing changes
abbrev pub or_skipped : PrintingLines → LineOutcome PrintingLines → LineOutcome PrintingLines
or_skipped s None = if s.keeps_going then Some ([], s) else None
or_skipped s (Some next) = Some next

-- ---- Loose lines: one without a frame is skipped.

-- the state after the octets of a loose line, sent as the line says
abbrev pub after_loose : Option Side → PrintingLines → LineSender → List ℕ → PrintingLines
after_loose chosen s sender octets = record s {
  shown = printer_after s.shown sender octets;
  printing = after_frame (line_packet s.time s.printing) (line_sender chosen s.shown sender octets) octets
      s.printing;
}

-- the result of a loose line with these octets
abbrev pub loose_outcome : Option Side → PrintingLines → LineSender → List ℕ
    → LineOutcome PrintingLines
loose_outcome chosen s sender octets = Some (
  frame_text (line_packet s.time s.printing) (line_sender chosen s.shown sender octets) octets s.printing,
  after_loose chosen s sender octets,
)

-- the result of a loose line; one that continues a dump of several lines is a bad one
abbrev pub sender_outcome : Option Side → PrintingLines → LineSender → List ℕ
    → LineOutcome PrintingLines
sender_outcome chosen s Continued octets = or_skipped s None
sender_outcome chosen s (Named side) octets = loose_outcome chosen s (Named side) octets
sender_outcome chosen s Printer octets = loose_outcome chosen s Printer octets
sender_outcome chosen s Peer octets = loose_outcome chosen s Peer octets
sender_outcome chosen s Unnamed octets = loose_outcome chosen s Unnamed octets

abbrev pub loose_step : Option Side → PrintingLines → Option (LineSender × List ℕ)
    → LineOutcome PrintingLines
loose_step chosen s None = Some ([], s)
loose_step chosen s (Some sent) = sender_outcome chosen s sent.0 sent.1

-- ---- Loose lines with times: a line without its time in front has that of the line before.

abbrev pub timed_step : Option Side → PrintingLines → List ℕ → Option (ℕ × List ℕ)
    → LineOutcome PrintingLines
timed_step chosen s line None = loose_step chosen s (loose_line line)
timed_step chosen s line (Some timed) =
    loose_step chosen (record s { time = Some timed.0 }) (loose_line timed.1)

-- ---- All lines.

-- the result of a line of this form
abbrev pub step_by : LineForm → PrintingLines → List ℕ → LineOutcome PrintingLines
step_by Strict s line = or_skipped s (sent_outcome s (sent_in line))
step_by (Loose chosen) s line = loose_step chosen s (loose_line line)
step_by (Timed chosen) s line = timed_step chosen s line (timed_line line)

-- the result of each line; after the last requested frame all lines are skipped
abbrev pub print_step : PrintingLines → List ℕ → LineOutcome PrintingLines
print_step s line = if is_complete s.printing then Some ([], s) else step_by s.form s line

-- how printing the frames of these lines ends, and the writer's contents then: after the last line
-- the tables of the links are printed, if these are followed
abbrev pub LinesEnd : PrintingLines → Result Bool ScriptFault → List (List ℕ) → Option (List ℕ)
    → Option (List ℕ) → Type 0
LinesEnd s (Ok is_violated) lines old new = (bad_line print_step s lines ≡ None)
    × Appends old new (output_of print_step s lines
    ++ closing_text (state_after print_step s lines).printing)
    × (is_violated ≡ is_violated_by (state_after print_step s lines).printing.listening)
LinesEnd s (Err (BadLine number)) lines old new = (bad_line print_step s lines ≡ Some number)
    × Appends old new (output_of print_step s lines)
LinesEnd s (Err Memory) lines old new = PrintsFront print_step s lines old new
LinesEnd s (Err Device) lines old new = ⊤
LinesEnd s (Err (Port fault)) lines old new = ⊥
