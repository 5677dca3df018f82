-- The clock of a script of `net` or `user`, and how such a script ends.
use Rattle.std.specs.Prelude.{◌≡◌, ℕ, ◌+◌, nat_le, if◌then◌else◌, List, [], Option, Some, None, option_map, option_and_then, Result, Ok, Err, ⊤}
use Rattle.lapd_frame.specs.declared.Side.{Side}
use Rattle.lapd_cli_script.specs.Script.{Step, bad_line}
use Rattle.lapd_cli_script.specs.declared.script.ScriptFault.{ScriptFault}
use Rattle.lapd_cli_script.specs.declared.script.ScriptFault.TheVariants.{BadLine}
use Rattle.lapd_cli_script.specs.declared.script.LineFault.{LineFault}
use Rattle.lapd_cli_script.specs.declared.script.LineFault.TheVariants.{Bad}
use Rattle.lapd_cli_side_lines.specs.LineRequests.{LineRequest, Tick, request_of_line}

-- the side that executes the script, and the time of its clock in milliseconds
pub record Clocked : Type 0 where
  pub side : Side
  pub now : ℕ

abbrev pub moment_at : ℕ → Option ℕ
moment_at n = if nat_le n 1000000000000000 then Some n else None

-- the time after a request; the clock stops at 10^15
abbrev pub moment_after : ℕ → LineRequest → Option ℕ
moment_after now (Tick ms) = moment_at (now + ms)
moment_after now line_request = Some now

abbrev pub clocked : Side → ℕ → List ℕ × Clocked
clocked side now = ([], record { side = side; now = now })

-- which lines are valid, and how they advance the clock; their output is not specified here
abbrev pub clock_step : Step Clocked
clock_step s octets = option_map (clocked s.side)
    (option_and_then (moment_after s.now) (request_of_line s.side octets))

-- a side begins a script at time 0
abbrev pub new_clock : Side → Clocked
new_clock side = record { side = side; now = 0 }

-- how a side ends after these lines: if it reports a bad line, it is the first bad line; if it
-- succeeds, no line is bad
abbrev pub SideEndsAs : Side → Result ⊤ ScriptFault → List (List ℕ) → Type 0
SideEndsAs side (Ok done) lines = bad_line clock_step (new_clock side) lines ≡ None
SideEndsAs side (Err (BadLine number)) lines = bad_line clock_step (new_clock side) lines
    ≡ Some number
SideEndsAs side (Err other) lines = ⊤

-- how a request advances the clock, unless it is refused as a bad line
abbrev pub Moves : Option ℕ → Result ⊤ LineFault → ℕ → Type 0
Moves after (Ok done) now = after ≡ Some now
Moves after (Err Bad) now = after ≡ None
Moves after (Err other) now = ⊤
