-- Frames that are printed to the end, and then the tables of the links.
use Rattle.std.proofs.Common.{◌≡◌, ℕ, nat_lt, Bool, List, [], Option, Some, None, Result, Ok, Err, IfSome, ◌∙◌, ap, sym, subst, append-nil}
use Rattle.std.proofs.KnownBytes.{Appends-trans, Appends-kept}
use Rattle.std.specs.Io.KnownBytes.{Appends}
use Rattle.lapd_cli_script.specs.Script.{EndsAs, lines_of, state_after}
use Rattle.lapd_cli_script.specs.declared.script.ScriptFault.{ScriptFault}
use Rattle.lapd_cli_script.specs.declared.script.ScriptFault.TheVariants.{BadLine, Device, Memory, Port}
use Rattle.lapd_cli_decode.specs.Captured.{CaptureCloses, CaptureEnds, ItemsEnd, Place}
use Rattle.lapd_cli_frames.specs.Frames.{ClosingEnds, Printing, closing_text, is_violated_by}
use Rattle.lapd_cli_decode.specs.PrintedLines.{LinesEnd, PrintingLines, print_step}
use Rattle.lapd_cli_decode.specs.declared.capture_lines.CaptureStyle.{CaptureStyle}
use Rattle.lapd_cli_decode.specs.declared.capture_lines.CaptureStop.{CaptureStop}
use Rattle.lapd_cli_decode.specs.declared.capture_lines.CaptureStop.TheVariants as stop
use Rattle.lapd_cli_decode.specs.declared.capture_lines.Seen.{Seen}

ended : (s v : PrintingLines) (result : Result Bool ScriptFault) (lines : List (List ℕ))
    (old mid new : Option (List ℕ))
    → state_after print_step s lines ≡ v → EndsAs print_step s (Ok tt) lines old mid
    → ClosingEnds (closing_text v.printing) v.printing.listening result mid new
    → LinesEnd s result lines old new
ended s v (Ok is_violated) lines old mid new is walked close = (
  walked.0,
  Appends-trans old mid new _ _ walked.1
      (subst (λ (t : PrintingLines). Appends mid new (closing_text t.printing)) (sym is) close.0),
  close.1 ∙ ap (λ (t : PrintingLines). is_violated_by t.printing.listening) (sym is),
)
ended s v (Err Memory) lines old mid new is walked close =
    (lines, [], sym (append-nil lines), walked.0, Appends-kept old mid new _ walked.1 close)
ended s v (Err Device) lines old mid new is walked close = tt
ended s v (Err (BadLine number)) lines old mid new is walked close = absurd close
ended s v (Err (Port fault)) lines old mid new is walked close = absurd close

-- a script that ran to its end, followed by the tables
pub lines_closed : (known : Option (List ℕ)) (s v : PrintingLines)
    (result : Result Bool ScriptFault) (old mid new : Option (List ℕ))
    → IfSome known (λ octets. EndsAs print_step s (Ok tt) (lines_of octets) old mid)
    → IfSome known (λ octets. state_after print_step s (lines_of octets) ≡ v)
    → ClosingEnds (closing_text v.printing) v.printing.listening result mid new
    → IfSome known (λ octets. LinesEnd s result (lines_of octets) old new)
lines_closed None s v result old mid new walked is close = tt
lines_closed (Some octets) s v result old mid new walked is close =
    ended s v result (lines_of octets) old mid new is walked close

-- a capture that was read to its end, followed by the tables
pub capture_closed : (how : CaptureStyle) (start : Place) (printing : Printing)
    (result : Result Seen CaptureStop) (old mid new : Option (List ℕ))
    → ItemsEnd how start (Ok tt) printing old mid → CaptureCloses printing result mid new
    → CaptureEnds how start result old new
capture_closed how start printing (Ok seen) old mid new i close = (
  i.0,
  i.1.0,
  i.1.1,
  i.1.2,
  Appends-trans old mid new i.1.1 _ i.1.3
      (subst (λ (s : Printing). Appends mid new (closing_text s)) i.2 close.0),
  close.1 ∙ ap (λ (s : Printing). nat_lt 0 s.frames) i.2,
  close.2 ∙ ap (λ (s : Printing). is_violated_by s.listening) i.2,
  i.3,
)
capture_closed how start printing (Err (stop.Capture fault at)) old mid new i close = absurd close
capture_closed how start printing (Err (stop.Packet fault at)) old mid new i close = absurd close
capture_closed how start printing (Err (stop.Input kind)) old mid new i close = tt
capture_closed how start printing (Err stop.Device) old mid new i close = tt
capture_closed how start printing (Err stop.Memory) old mid new i close = tt

-- a capture that was not read to its end
pub capture_stopped : (how : CaptureStyle) (start : Place) (printing : Printing)
    (fault : CaptureStop) (old new : Option (List ℕ))
    → ItemsEnd how start (Err fault) printing old new → CaptureEnds how start (Err fault) old new
capture_stopped how start printing (stop.Capture fault at) old new i = i
capture_stopped how start printing (stop.Packet fault at) old new i = i
capture_stopped how start printing (stop.Input kind) old new i = tt
capture_stopped how start printing stop.Device old new i = tt
capture_stopped how start printing stop.Memory old new i = tt
