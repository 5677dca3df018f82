-- The lines of a side that is served with the real clock, and what each requests.
use Rattle.std.specs.Prelude.{ℕ, ◌||◌, if◌then◌else◌, List, codes, Option, Some, option_map, option_and_then}
use Rattle.std.specs.Str.{bytes_eq}
use Rattle.lapd_frame.specs.declared.Side.{Side}
use Rattle.lapd_frame.specs.declared.Side.TheVariants.{Network, User}
use Rattle.lapd_cli_grammar.specs.declared.script.Script.{Script}
use Rattle.lapd_cli_grammar.specs.declared.script.Script.TheVariants.{LiveNet, LiveUser}
use Rattle.lapd_cli_grammar.specs.Values.{LineValues, parsed_line}
use Rattle.lapd_table.specs.declared.link_id.LinkId.{LinkId}
use Rattle.lapd_cli_side_lines.specs.LineRequests.{LineRequest, line_request_of, link_of, side_request}
use Rattle.lapd_cli_live_text.specs.declared.words.LiveLine.{LiveLine}
use Rattle.lapd_cli_live_text.specs.declared.words.LiveLine.TheVariants as line

-- The request of a line: `Read`: the next frame is awaited, for so many milliseconds or without
-- limit; `Run`: the side is served, for so many milliseconds or until the connection is closed;
-- `Expect`: a line that begins with these words is awaited, for so many milliseconds; `State`: the
-- state of a link, or of each; `Stats`: the statistics; `Ask`: a request of the side; `Impair`: sent
-- frames are lost with this chance, in per cent, and delayed by so many milliseconds.
pub data LiveRequest : Type 0 where
  Read : (ms : Option ℕ) → LiveRequest
  Run : (ms : Option ℕ) → LiveRequest
  Expect : (words : List ℕ) → (ms : ℕ) → LiveRequest
  State : (id : Option LinkId) → LiveRequest
  Stats : LiveRequest
  Ask : (line_request : LineRequest) → LiveRequest
  Impair : (loss : ℕ) → (delay : ℕ) → LiveRequest

-- the lines of a side with the real clock; those of a user side name no TEI
abbrev pub live_script_of : Side → Script
live_script_of Network = LiveNet
live_script_of User = LiveUser

-- what the first word requests with the values of the others; `own` is the side's own TEI
abbrev pub live_request : ℕ → List ℕ × LineValues → Option LiveRequest
live_request own (word, v) =
    if bytes_eq word (codes "read") then Some (Read v.ms) else (
    if bytes_eq word (codes "run") || bytes_eq word (codes "wait") then Some (Run v.ms) else (
    if bytes_eq word (codes "expect") then option_map (Expect v.text) v.ms else (
    if bytes_eq word (codes "state") then Some (State (link_of own v)) else (
    if bytes_eq word (codes "stats") then Some Stats else (
    if bytes_eq word (codes "impair") then Some (Impair v.loss v.delay)
    else option_map Ask (side_request own word v))))))

-- what a line of this side requests; `own` is the user side's own TEI
abbrev pub live_request_of_line : Side → ℕ → List ℕ → Option LiveRequest
live_request_of_line side own octets =
    option_and_then (live_request own) (parsed_line (live_script_of side) octets)

-- ---- How the code names what is requested.

abbrev pub live_request_of : LiveLine → LiveRequest
live_request_of (line.Read ms) = Read ms
live_request_of (line.Run ms) = Run ms
live_request_of (line.Expect words ms) = Expect words.now ms
live_request_of (line.State id) = State id
live_request_of line.Stats = Stats
live_request_of (line.Ask asked) = Ask (line_request_of asked)
live_request_of (line.Impair impairment) = Impair impairment.loss impairment.delay
