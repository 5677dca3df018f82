-- The request lines of the commands `net` and `user`, and what each requests.
use Rattle.std.specs.Prelude.{ℕ, Bool, if◌then◌else◌, List, codes, Option, Some, None, option_map, option_and_then, unwrap_or, Result, Ok, Err, ⊤}
use Rattle.std.specs.Str.{bytes_eq}
use Rattle.lapd_frame.specs.declared.Side.{Side}
use Rattle.lapd_frame.specs.declared.Side.TheVariants.{Network, User}
use Rattle.lapd_frame.specs.declared.Sapi.{Sapi}
use Rattle.lapd_cli_script.specs.declared.script.LineFault.{LineFault}
use Rattle.lapd_cli_script.specs.declared.script.LineFault.TheVariants.{Bad}
use Rattle.lapd_cli_grammar.specs.declared.script.Script.{Script}
use Rattle.lapd_cli_grammar.specs.declared.script.Script.TheVariants as script
use Rattle.lapd_cli_grammar.specs.Values.{LineValues, parsed_line}
use Rattle.lapd_table.specs.declared.link_id.LinkId.{LinkId}
use Rattle.lapd_sides.specs.declared.request.Request.{Request}
use Rattle.lapd_sides.specs.declared.request.Request.TheVariants as request
use Rattle.lapd_cli_side_lines.specs.declared.side_lines.SideLine.{SideLine}
use Rattle.lapd_cli_side_lines.specs.declared.side_lines.SideLine.TheVariants as line

-- The request of a line: read one frame; advance the clock by some milliseconds; establish or
-- release a link; send a message or unit data on a link; enter or leave the own receiver busy
-- condition of a link; assign a TEI to this terminal; check or remove a TEI, or all.
pub data LineRequest : Type 0 where
  Read : LineRequest
  Tick : (ms : ℕ) → LineRequest
  Establish : (id : LinkId) → LineRequest
  Release : (id : LinkId) → LineRequest
  Give : (id : LinkId) → (message : List ℕ) → LineRequest
  Unit : (id : LinkId) → (octets : List ℕ) → LineRequest
  Busy : (id : LinkId) → (on : Bool) → LineRequest
  AskTei : LineRequest
  Check : (tei : ℕ) → LineRequest
  Remove : (tei : ℕ) → LineRequest
  CheckAll : LineRequest
  RemoveAll : LineRequest

-- ---- The requests of a side, with either clock. Which lines there are, and the words that each
-- has, is in the table of forms.

-- a link, by its SAPI and its TEI
abbrev pub named : Sapi → ℕ → LinkId
named sapi tei = record { sapi = sapi; tei = tei }

-- the link that a line names; if it names the SAPI alone, the link has the side's own TEI
abbrev pub link_of : ℕ → LineValues → Option LinkId
link_of own v = option_map (λ sapi. named sapi (unwrap_or v.tei own)) v.sapi

-- what a word requests of a link
abbrev pub link_request : List ℕ → LineValues → LinkId → Option LineRequest
link_request word v id =
    if bytes_eq word (codes "establish") then Some (Establish id) else (
    if bytes_eq word (codes "release") then Some (Release id) else (
    if bytes_eq word (codes "give") then Some (Give id v.octets) else (
    if bytes_eq word (codes "unit") then Some (Unit id v.octets) else (
    if bytes_eq word (codes "busy") then Some (Busy id v.on) else None))))

-- what a word requests of a side
abbrev pub side_request : ℕ → List ℕ → LineValues → Option LineRequest
side_request own word v =
    if bytes_eq word (codes "ask") then Some AskTei else (
    if bytes_eq word (codes "check") then option_map Check v.tei else (
    if bytes_eq word (codes "remove") then option_map Remove v.tei else (
    if bytes_eq word (codes "check-all") then Some CheckAll else (
    if bytes_eq word (codes "remove-all") then Some RemoveAll
    else option_and_then (link_request word v) (link_of own v)))))

-- ---- The lines of a script.

-- the lines of `net` and `user` with the script's clock; each names the TEI of its link
abbrev pub script_of : Side → Script
script_of Network = script.Net
script_of User = script.User

abbrev pub script_request : List ℕ × LineValues → Option LineRequest
script_request line =
    if bytes_eq line.0 (codes "read") then Some Read else (
    if bytes_eq line.0 (codes "tick") then option_map Tick line.1.ms
    else side_request 127 line.0 line.1)

-- what a line of a side's script requests
abbrev pub request_of_line : Side → List ℕ → Option LineRequest
request_of_line side octets = option_and_then script_request (parsed_line (script_of side) octets)

-- ---- How a line ends.

-- the line is valid, whether or not it could be executed
abbrev pub IsGood : Result ⊤ LineFault → Type 0
IsGood (Ok done) = ⊤
IsGood (Err Bad) = ⊥
IsGood (Err other) = ⊤

-- ---- How the code names requests.

abbrev pub line_request_of : Request → LineRequest
line_request_of (request.Establish id) = Establish id
line_request_of (request.Release id) = Release id
line_request_of (request.Unit id octets) = Unit id octets.items
line_request_of (request.Give id message) = Give id message.items
line_request_of (request.Busy id on) = Busy id on
line_request_of request.AskTei = AskTei
line_request_of (request.Check tei) = Check tei
line_request_of (request.Remove tei) = Remove tei
line_request_of request.CheckAll = CheckAll
line_request_of request.RemoveAll = RemoveAll

abbrev pub request_of : SideLine → LineRequest
request_of line.Read = Read
request_of (line.Tick ms) = Tick ms
request_of (line.Ask r) = line_request_of r
