-- The command `pair`: two ends and the line between them, driven by the moves of a script.
use Rattle.std.specs.Prelude.{◌≡◌, ℕ, ◌-◌, Bool, true, false, if◌then◌else◌, List, [], ◌∷◌, ◌++◌, codes, flat_map, get_or, is_none, length, map, None, Some, Option, option_map, Result, Ok, Err, ⊤}
use Rattle.std.specs.Str.{bytes_eq}
use Rattle.std.specs.Io.KnownBytes.{Appends}
use Rattle.std.specs.Fmt.{decimal}
use Rattle.lapd_pair_laws.specs.Settle.{bound, next_move, settling}
use Rattle.lapd_recovery_laws.specs.Own.{first_own, recovering}
use Rattle.lapd_recovery_laws.specs.Own as own
use Rattle.lapd_frame.specs.declared.Side.{Side}
use Rattle.lapd_frame.specs.declared.Side.TheVariants.{Network, User}
use Rattle.lapd_frame.specs.Frame.{Fields, spelling}
use Rattle.lapd_mod128.specs.Counting.{Tagged}
use Rattle.lapd_link_definition.specs.declared.out.Out.{Out}
use Rattle.lapd_link_definition.specs.State.{state_number}
use Rattle.lapd_pair.specs.Histories.{octets_and_establishment}
use Rattle.lapd_pair.specs.Recovers.{recovered, recovery_bound}
use Rattle.lapd_pair.specs.Settles.{settled}
use Rattle.lapd_pair.specs.Setup.{setup_for}
use Rattle.lapd_trace.specs.Trace.{trace_line}
use Rattle.lapd_cli_script.specs.Line.{text_line}
use Rattle.lapd_cli_script.specs.Script.{EndsAs, Step, bad_line, output_of, state_after}
use Rattle.lapd_cli_script.specs.declared.script.ScriptFault.{ScriptFault}
use Rattle.lapd_pair_laws.specs.Histories.{History}
use Rattle.lapd_pair_laws.specs.Move.{PairEvent, Move, Refusal, Station, UnitData, NothingThere, NotRunning, NotYet, Refused}
use Rattle.lapd_pair_laws.specs.World.{Happened, World, happens, view_of}
use Rattle.lapd_cli_link_commands.specs.declared.mover.Figures.{Figures}
use Rattle.lapd_cli_answer.specs.Answer.{messages_of}
use Rattle.lapd_cli_link_commands.specs.Moves.{move_of_line}
use Rattle.lapd_cli_answer.specs.Outputs.{refusal_line}
use Rattle.lapd_cli_answer.specs.PrintedOutput.{OutputOctets, PrintedOutput, Sent, Primitive, printed_output}

-- ---- The output of one side in a move.

abbrev pub side_name : Side → List ℕ
side_name User = codes "user"
side_name Network = codes "net"

-- the last of a list of octets; empty if the list is empty
abbrev pub last_octets : List (List ℕ) → List ℕ
last_octets all = get_or all (length all - 1) []

-- the last message received, of a list of messages with their establishments
abbrev pub last_message : List (List ℕ × ℕ) → List ℕ
last_message all = (get_or all (length all - 1) ([], 0)).0

-- the octets that a side's outputs refer to, by its history after the move: the message and the
-- unit data received last, and the unit data sent
abbrev pub output_octets_of : History → List ℕ → OutputOctets
output_octets_of h unit = record {
  message = last_message (map octets_and_establishment h.received);
  unit = last_octets h.units;
  sent = unit;
}

-- the line of a frame, in the format `written`, or of a primitive or report after the side's name;
-- timers are not printed
abbrev pub side_line : (Fields → List ℕ) → Side → PrintedOutput → List ℕ
side_line written side (Sent frame) = text_line (written frame)
side_line written side (Primitive line) = side_name side ++ (32 ∷ line)
side_line written side other = []

-- a frame is printed as the trace line of its octets
abbrev pub printed_line : Side → PrintedOutput → List ℕ
printed_line side printed_output = side_line
    (λ frame. trace_line side (spelling side frame)) side printed_output

-- the lines of a side's outputs, by the side's state after the move; `unit` is the unit data sent
abbrev pub printed_lines : Side → Station → List ℕ → List Out → List ℕ
printed_lines side s unit outs = flat_map (λ output. printed_line side
    (printed_output (setup_for side) (messages_of s.end)
    (output_octets_of s.history unit) output)) outs

-- ---- The result of a move.

-- why a move is refused
abbrev pub not_admitted : Refusal → List ℕ
not_admitted NothingThere = text_line (codes "refused P1 NothingThere")
not_admitted NotRunning = text_line (codes "refused P2 NotRunning")
not_admitted (NotYet to at) =
    text_line (codes "refused P3 NotYet " ++ (side_name to ++ (32 ∷ decimal at)))
not_admitted (Refused fault) = refusal_line fault

-- the unit data that a move sends
abbrev pub unit_of : PairEvent → List ℕ
unit_of (UnitData octets) = octets
unit_of event = []

-- the text of a move, and the world after it
abbrev pub move_printed : World → Move → Result Happened Refusal → List ℕ × World
move_printed w move (Ok happened) = (
  printed_lines move.side (view_of move.side happened.world).station
      (unit_of move.event) happened.outs,
  happened.world,
)
move_printed w move (Err refusal) = (not_admitted refusal, w)

abbrev pub move_made : World → Move → List ℕ × World
move_made w move = move_printed w move (happens Tagged move w)

-- the result of a line that names a move
abbrev pub move_step : Step World
move_step w line = option_map (move_made w) (move_of_line line)

-- ---- The results of `settle` and `recover`.

-- the number of moves, and `rest` if no further move is possible
abbrev pub settled_line : ℕ → Bool → List ℕ
settled_line moves true = text_line (codes "settled " ++ (decimal moves ++ codes " rest"))
settled_line moves false = text_line (codes "settled " ++ decimal moves)

-- the text, and the world after it; the moves themselves are not printed
abbrev pub settle_made : World → List ℕ × World
settle_made w = (
  settled_line (length (settling Tagged (bound w) w)) (is_none (next_move Tagged (settled w))),
  settled w,
)

abbrev pub recovered_line : ℕ → Bool → List ℕ
recovered_line moves true = text_line (codes "recovered " ++ (decimal moves ++ codes " rest"))
recovered_line moves false = text_line (codes "recovered " ++ decimal moves)

abbrev pub recover_made : World → List ℕ × World
recover_made w = (
  recovered_line (length (recovering Tagged (recovery_bound w) w))
      (is_none (first_own Tagged own.tried (recovered w))),
  recovered w,
)

-- the result of each line: the single word `settle` or `recover`, or a move
abbrev pub pair_step : Step World
pair_step w line = if bytes_eq line (codes "settle") then Some (settle_made w)
    else (if bytes_eq line (codes "recover") then Some (recover_made w) else move_step w line)

-- ---- The lines printed at the end.

-- the side's state, and its messages: submitted, received, acknowledged and dropped
abbrev pub figures_of : Station → Figures
figures_of s = record {
  state = state_number s.end.state;
  given = length s.end.given;
  received = length s.history.received;
  acknowledged = length s.history.acked;
  dropped = length s.history.dropped;
}

abbrev pub figures_line : Side → Figures → List ℕ
figures_line side f =
    side_name side ++ (codes ": state " ++ (decimal f.state
    ++ (codes ", given " ++ (decimal f.given ++ (codes ", received " ++ (decimal f.received
    ++ (codes ", acknowledged " ++ (decimal f.acknowledged
    ++ (codes ", dropped " ++ text_line (decimal f.dropped))))))))))

abbrev pub closing_line : Side → Station → List ℕ
closing_line side s = figures_line side (figures_of s)

abbrev pub closing_lines : World → List ℕ
closing_lines w = closing_line User w.user ++ closing_line Network w.network

-- how a command with these lines ends: after a complete script it prints the two closing lines
abbrev pub ClosesAs : Step World → World → Result ⊤ ScriptFault → List (List ℕ) → Option (List ℕ)
    → Option (List ℕ) → Type 0
ClosesAs step w (Ok done) lines old new =
    (bad_line step w lines ≡ None)
    × Appends old new (output_of step w lines ++ closing_lines (state_after step w lines))
ClosesAs step w (Err fault) lines old new = EndsAs step w (Err fault) lines old new

-- how the command `pair` ends
abbrev pub PairEndsAs : World → Result ⊤ ScriptFault → List (List ℕ) → Option (List ℕ)
    → Option (List ℕ) → Type 0
PairEndsAs w result lines old new = ClosesAs pair_step w result lines old new
