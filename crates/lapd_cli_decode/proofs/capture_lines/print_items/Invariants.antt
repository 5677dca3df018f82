use Rattle.std.proofs.Common.{◌≡◌, ℕ, List, Some}
use Rattle.lapd_capture.specs.Reader.{unread}
use Rattle.lapd_cli_decode.specs.Captured.{PrintsTo, place_of}
use Rattle.lapd_cli_decode.proofs.capture_lines.print_items.Given as goal

-- everything before the current place is printed
abbrev pub invariant-loop-step : goal.invariant-loop-step
invariant-loop-step g l = (left : List ℕ) → unread g.R.Read.remaining l.fn.capture ≡ Some left
    → (now : List ℕ) × (unread g.R.Read.remaining l.capture ≡ Some now)
    × PrintsTo l.how (place_of l.fn.capture left l.fn.printer) (g.W.Write.contents l.fn.out)
    (g.W.Write.contents l.out) (place_of l.capture now l.printer)
